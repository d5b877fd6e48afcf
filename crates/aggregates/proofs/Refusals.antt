-- Laws of the checks: the refusal of each where those before it pass, and what is known where none fails.
use Rattle.std.specs.Prelude.{◌≡◌, refl, Bool, true, false, Ok, Err, List, ℕ, ◌≤◌, length}
use Rattle.std.specs.Result.{result_and}
use Rattle.std.proofs.Common.{◌∙◌, ap}
use Rattle.sets.specs.Set.{within}
use Rattle.sets.specs.Truth.{one_to, select}
use Rattle.sets.specs.TruthLaws.{select_on, select_off, same_on, same_mk}
use Rattle.sets.specs.TruthLaws.{same_off, one_low, one_high}
use Rattle.refusal.specs.declared.Refusal.{Refusal}
use Rattle.refusal.specs.declared.Refusal.TheVariants.{Size, Field, Slice, Diet}
use Rattle.aggregates.specs.Entries.{entry_at, diets_fit}
use Rattle.aggregates.specs.Aggregates.{refusal_of}
use Rattle.aggregates.specs.Answers.{Answer, check}

-- ---- each refusal
module _ (n marks : ℕ) (named stood : Bool) (entries : List ℕ) where
  pub by_size : one_to 16 n ≡ false → refusal_of n marks named stood entries ≡ Err Size
  unfolding refusal_of check
  by_size a = select_off _ _ _ a

  module _ (sized : one_to 16 n ≡ true) where
    pub by_marks : within n marks ≡ false → refusal_of n marks named stood entries ≡ Err Field
    unfolding refusal_of check
    by_marks b = select_on _ _ _ sized ∙ select_off _ _ _ b

    module _ (marked : within n marks ≡ true) where
      pub by_process : named ≡ false → refusal_of n marks named stood entries ≡ Err Field
      unfolding refusal_of check
      by_process d = select_on _ _ _ sized ∙ select_on _ _ _ marked ∙ select_off _ _ _ d

      module _ (used : named ≡ true) where
        pub by_entries : (length entries ≡ n → ⊥) → refusal_of n marks named stood entries ≡ Err Slice
        unfolding refusal_of check
        by_entries l =
            select_on _ _ _ sized ∙ select_on _ _ _ marked ∙ select_on _ _ _ used ∙ select_off _ _ _ (same_off _ _ l)

        module _ (long : length entries ≡ n) where
          pub by_standing : stood ≡ false → refusal_of n marks named stood entries ≡ Err Slice
          unfolding refusal_of check
          by_standing f =
              select_on _ _ _ sized ∙ select_on _ _ _ marked ∙ select_on _ _ _ used
              ∙ select_on _ _ _ (same_mk _ _ long)
              ∙ select_off _ _ _ f

          module _ (stands : stood ≡ true) where
            pub by_diet : diets_fit n (entry_at entries marks) ≡ false
                → refusal_of n marks named stood entries ≡ Err Diet
            unfolding refusal_of check
            by_diet d =
                select_on _ _ _ sized ∙ select_on _ _ _ marked ∙ select_on _ _ _ used
                ∙ select_on _ _ _ (same_mk _ _ long)
                ∙ select_on _ _ _ stands ∙ select_off _ _ _ d

            pub by_none : diets_fit n (entry_at entries marks) ≡ true → refusal_of n marks named stood entries ≡ Ok tt
            unfolding refusal_of check
            by_none d =
                select_on _ _ _ sized ∙ select_on _ _ _ marked ∙ select_on _ _ _ used
                ∙ select_on _ _ _ (same_mk _ _ long)
                ∙ select_on _ _ _ stands ∙ select_on _ _ _ d

-- ---- what is known where no check fails
pub record Accepted (n marks : ℕ) (named stood : Bool) (entries : List ℕ) : Type 0 where
  pub low : 1 ≤ n
  pub high : n ≤ 16
  pub marked : within n marks ≡ true
  pub used : named ≡ true
  pub long : length entries ≡ n
  pub stands : stood ≡ true
  pub fit : diets_fit n (entry_at entries marks) ≡ true

-- of one check, and what is checked after it
checks_on : (b : Bool) (r : Refusal) (x : Answer Unit) → select b x (Err r) ≡ Ok tt → (b ≡ true) × (x ≡ Ok tt)
unfolding select
checks_on true r x e = (refl, e)
checks_on false r x e = cc

pub accepted : (n marks : ℕ) (named stood : Bool) (entries : List ℕ) → refusal_of n marks named stood entries ≡ Ok tt
    → Accepted n marks named stood entries
unfolding refusal_of check
accepted n marks named stood entries e =
    let a = checks_on _ Size _ e in
    let b = checks_on _ Field _ a.1 in
    let d = checks_on _ Field _ b.1 in
    let f = checks_on _ Slice _ d.1 in
    let g = checks_on _ Slice _ f.1 in
    let h = checks_on _ Diet _ g.1 in
    record {
      low = one_low 16 n a.0;
      high = one_high 16 n a.0;
      marked = b.0;
      used = d.0;
      long = same_on _ n f.0;
      stands = g.0;
      fit = h.0;
    }

-- ---- a call's two ends

-- where a check fails, so does the call
pub turned_away : {A : Type 0} {k : Answer Unit} (r : Refusal) (a : Answer A) → k ≡ Err r → result_and k a ≡ Err r
turned_away r a e = ap (λ x. result_and x a) e

-- else it gives what is worked of the entries, n, at most sixteen
pub answered : {A : Type 0} {k : Answer Unit} (a : Answer A) → k ≡ Ok tt → result_and k a ≡ a
answered a e = ap (λ x. result_and x a) e
