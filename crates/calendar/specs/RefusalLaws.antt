-- The answer by its checks, one after the other.
use Rattle.std.specs.Prelude.{◌≡◌, true, false, List, ℕ, Ok, Err}
use Rattle.std.proofs.Common.{◌∙◌, arith}
use Rattle.sets.specs.TruthLaws.{select_on, select_off, check_on, check_off, same_mk, same_off}
use Rattle.refusal.specs.Numbers.{refused}
use Rattle.refusal.specs.declared.Refusal.TheVariants.{Calendar, NoSite}
use Rattle.calendar.specs.Calendar.{takes_part_in, numbering_of, whole_records, all_well_formed, somebody_in}
use Rattle.calendar.specs.Calendar.{week_refusal, week_of}

module _ (calendar : List ℕ) (week : ℕ) where
  -- the first check that fails decides
  refused_as : (k : ℕ) → week_refusal calendar week ≡ k → (k ≡ 0 → ⊥) → week_of calendar week ≡ Err (refused k)
  unfolding week_of
  refused_as k e d = rw e (select_off _ _ _ (same_off k 0 d))

  pub partial_13 : whole_records calendar ≡ false → week_of calendar week ≡ Err Calendar
  unfolding week_refusal
  partial_13 w = refused_as 13 (check_off _ _ _ w) (λ e. omega arith)

  pub record_13 : whole_records calendar ≡ true → all_well_formed calendar ≡ false
      → week_of calendar week ≡ Err Calendar
  unfolding week_refusal
  record_13 w f = refused_as 13 (check_on _ _ _ w ∙ check_off _ _ _ f) (λ e. omega arith)

  pub nobody_14 : whole_records calendar ≡ true → all_well_formed calendar ≡ true → somebody_in calendar week ≡ false
      → week_of calendar week ≡ Err NoSite
  unfolding week_refusal
  nobody_14 w f t = refused_as 14 (check_on _ _ _ w ∙ check_on _ _ _ f ∙ check_off _ _ _ t) (λ e. omega arith)

  pub answered : whole_records calendar ≡ true → all_well_formed calendar ≡ true → somebody_in calendar week ≡ true
      → week_of calendar week ≡ Ok (numbering_of (takes_part_in calendar week))
  unfolding week_of week_refusal
  answered w f t = select_on _ _ _ (same_mk _ 0 (check_on _ _ _ w ∙ check_on _ _ _ f ∙ check_on _ _ _ t))
