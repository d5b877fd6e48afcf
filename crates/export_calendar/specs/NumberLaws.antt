-- The number that a host gets is that of the first check that fails, and 0 where all pass.
use Rattle.std.specs.Prelude.{◌≡◌, List, ℕ}
use Rattle.std.proofs.Common.{◌∙◌, sym, ap}
use Rattle.sets.specs.TruthLaws.{Is, is, on, off, check_on, check_off}
use Rattle.calendar.specs.Calendar.{whole_records, all_well_formed, somebody_in, week_refusal, week_of}
use Rattle.calendar.specs.RefusalLaws.{partial_13, record_13, nobody_14, answered}
use Rattle.refusal.specs.Host.{answer_number}

pub number_is : (calendar : List ℕ) (week : ℕ) → answer_number (week_of calendar week) ≡ week_refusal calendar week
unfolding week_refusal
number_is c k = go (is (whole_records c)) (is (all_well_formed c)) (is (somebody_in c k))
  where
    go : Is (whole_records c) → Is (all_well_formed c) → Is (somebody_in c k)
        → answer_number (week_of c k) ≡ week_refusal c k
    go (off w) f t = ap answer_number (partial_13 c k w) ∙ sym (check_off _ _ _ w)
    go (on w) (off f) t = ap answer_number (record_13 c k w f) ∙ sym (check_on _ _ _ w ∙ check_off _ _ _ f)
    go (on w) (on f) (off t) =
        ap answer_number (nobody_14 c k w f t) ∙ sym (check_on _ _ _ w ∙ check_on _ _ _ f ∙ check_off _ _ _ t)
    go (on w) (on f) (on t) =
        ap answer_number (answered c k w f t) ∙ sym (check_on _ _ _ w ∙ check_on _ _ _ f ∙ check_on _ _ _ t)
