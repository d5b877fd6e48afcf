-- One pass over the rows of the members of a set, the lowest first, turn by turn: the processes between a member and the
-- next are none, so that the pass has come past them (`Passing`).
use Rattle.std.specs.Prelude.{◌≡◌, refl, ◌⊎◌, Bool, true, false, List, ℕ, ◌+◌, ◌-◌, ◌/◌, ◌%◌, ◌^◌, ◌<◌, ◌≤◌}
use Rattle.std.proofs.Common.{sym, ◌∙◌, inl, inr, ⊎_elim, arith}
use Rattle.sets.specs.Laws.{has_empty, has_remove}
use Rattle.sets.specs.MembersLaws.{Turn}
use Rattle.sets.specs.Set.{has, remove_of}
use Rattle.sets.specs.Truth.{◌and◌}
use Rattle.sets.specs.TruthLaws.{clash, and_on_r, and_off_r, same_refl, same_off, same_on, eq-or, le-or}
use Rattle.global_data.specs.declared.GlobalData.{GlobalData}
use Rattle.global_data.specs.GlobalData.{fill_of, fill_from, same_to, all_same}
use Rattle.global_data.proofs.PassLaws.{Passing, passing_new, passing_to, passing_more}

-- ---- a member and the others
module _ (m k : ℕ) where
  other : (i : ℕ) → (i ≡ k → ⊥) → has (remove_of m k) i ≡ has m i
  other i d = has_remove m k i ∙ and_on_r _ _ (rw (same_off i k d) refl)

  gone : has (remove_of m k) k ≡ false
  gone = has_remove m k k ∙ and_off_r _ _ (rw (same_refl k) refl)

-- ---- the pass over the rows of the members of all, of which those of m are left: none of m is below `seen`, and from
-- there on it has all that are members
pub record Turns (n all : ℕ) (rows : ℕ → GlobalData) (old : GlobalData) (m : ℕ) (g : GlobalData) (ok : Bool) :
    Type 0 where
  pub seen : ℕ
  pub left : ℕ
  pub behind : (i : ℕ) → i < seen → has m i ≡ false
  pub ahead : (i : ℕ) → seen ≤ i → has m i ≡ has all i
  pub passing : Passing n all rows old seen left g ok

module _ (n all : ℕ) (rows : ℕ → GlobalData) (old : GlobalData) where
  pub pass_new : all < 2 ^ 16 → Turns n all rows old all old true
  pass_new few =
      record {
        seen = 0;
        left = all;
        behind = λ i b. absurd (omega (arith, b));
        ahead = λ i b. refl;
        passing = passing_new n all rows old all few refl;
      }

  -- a turn: f and `still` are what comes of the row of k
  pub pass_turn : {m k : ℕ} {rest : List ℕ} {g : GlobalData} {ok : Bool} → Turn rest m k
      → Turns n all rows old m g ok → (f : GlobalData) (still : Bool) → f ≡ fill_of g (rows k)
      → still ≡ (same_to n (rows k) old and ok) → Turns n all rows old (remove_of m k) f still
  unfolding has
  pass_turn {m} {k} {rest} {g} {ok} t w f still ef es =
      record {
        seen = k + 1;
        left = all / 2 ^ k / 2;
        behind = λ i b. below i b (eq-or i k);
        ahead = λ i b. other m k i (λ e. omega (arith, e, b)) ∙ w.ahead i (omega (arith, b, from));
        passing =
            passing_more n all rows old k (all / 2 ^ k) g ok came (λ z. omega (arith, z, odd)) odd f still ef es;
      }
    where
      from : w.seen ≤ k
      from = ⊎_elim (λ (l : w.seen ≤ k). l) (λ (l : k < w.seen). clash (has m k) t.member (w.behind k l)) (le-or w.seen k)

      upto : w.seen + (k - w.seen) ≡ k
      upto = omega (arith, from)

      came : Passing n all rows old k (all / 2 ^ k) g ok
      came =
          rw upto at
          (passing_to n all rows old w.seen w.left g ok w.passing (k - w.seen) (omega (arith, from, t.low))
          (λ i a b. sym (w.ahead i a) ∙ t.least i (omega (arith, b, from))))

      odd : all / 2 ^ k % 2 ≡ 1
      odd = same_on _ 1 (sym (w.ahead k from) ∙ t.member)

      below : (i : ℕ) → i < k + 1 → (i ≡ k) ⊎ (i ≡ k → ⊥) → has (remove_of m k) i ≡ false
      below i b (inl e) = rw e (gone m k)
      below i b (inr d) = other m k i d ∙ t.least i (omega (arith, b, d))

  -- none is left: all are seen
  pub pass_done : {m : ℕ} {g : GlobalData} {ok : Bool} → m ≡ 0 → Turns n all rows old m g ok
      → (g ≡ fill_from 16 all rows old) × (ok ≡ all_same 16 n all rows old)
  pass_done {m} {g} {ok} z w =
      let l = w.passing.within in
      let e : w.seen + (16 - w.seen) ≡ 16 = omega (arith, l) in
      let v =
      passing_to n all rows old w.seen w.left g ok w.passing (16 - w.seen) (omega (arith, l))
      (λ i a b. sym (w.ahead i a) ∙ rw z (has_empty i)) in
      (rw e at v.fills, rw e at v.compares)
