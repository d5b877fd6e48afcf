-- Of any call, refused or not: nothing under an absent entry is read, and no standing value of a present one.
-- Entries that agree under the present marks have one view, by which each call answers; standing values that agree
-- where no mark is set add up alike.
use Rattle.std.specs.Prelude.{◌≡◌, ◌⊎◌, Bool, not, Ok, List, get_or, length}
use Rattle.std.specs.Result.{result_and}
use Rattle.std.proofs.Math.Path.{sym, ap, ap₂, fun_ext}
use Rattle.std.proofs.Common.{◌∙◌, inl, inr, arith}
use Rattle.std.proofs.Math.Bool.{true}
use Prim.Native.Nat.{ℕ, ◌-◌, ◌≤◌, ◌<◌}
use Rattle.std.proofs.Math.ListN.{get_or-eq_default}
use Rattle.sets.specs.Lists.{sum_to}
use Rattle.sets.specs.Set.{has}
use Rattle.sets.specs.Truth.{same, one_to}
use Rattle.sets.specs.TruthLaws.{select_on, select_off, Is, is, on, off, le-or}
use Rattle.global_data.specs.GlobalData.{Entry}
use Rattle.aggregates.specs.Entries.{entry_at, standing_at, counts_for}
use Rattle.aggregates.specs.Leader.{leader_to}
use Rattle.aggregates.specs.Aggregates.{refusal_of, total_to, go, led}
use Rattle.aggregates.specs.Aggregates.{changed, total_of, go_of, lead_of, change_of}
use Rattle.aggregates.proofs.TotalLaws.{counts_is}

-- as many words, the same where a test holds
pub record Alike (read : ℕ → Bool) (xs ys : List ℕ) : Type 0 where
  pub long : length xs ≡ length ys
  pub words : (i : ℕ) → i < length xs → read i ≡ true → get_or xs i 0 ≡ get_or ys i 0

-- past their ends both are 0
module _ (read : ℕ → Bool) (xs ys : List ℕ) (h : Alike read xs ys) where
  word_by : (i : ℕ) → read i ≡ true → (length xs ≤ i) ⊎ (i < length xs) → get_or xs i 0 ≡ get_or ys i 0
  word_by i e (inl past) =
      get_or-eq_default xs 0 past ∙ sym (get_or-eq_default ys 0 (omega (arith, h.long)))
  word_by i e (inr l) = h.words i l e

  word : (i : ℕ) → read i ≡ true → get_or xs i 0 ≡ get_or ys i 0
  word i e = word_by i e (le-or (length xs) i)

-- standing values that agree where no mark is set
module _ (n marks : ℕ) (ss ts : List ℕ) (h : Alike (λ i. not (has marks i)) ss ts) where
  counted : (entries : List ℕ) (i : ℕ) → Is (has marks i)
      → counts_for (standing_at ss i) (entry_at entries marks i)
      ≡ counts_for (standing_at ts i) (entry_at entries marks i)
  counted entries i (on e) =
      counts_is entries marks i _ ∙ select_on _ _ _ e ∙ sym (counts_is entries marks i _ ∙ select_on _ _ _ e)
  counted entries i (off e) = ap (λ s. counts_for s (entry_at entries marks i)) (word _ ss ts h i (ap not e))

  pub standing_blind : (entries : List ℕ) → total_of n entries marks ss ≡ total_of n entries marks ts
  unfolding total_of
  standing_blind entries =
      ap (λ l. result_and (refusal_of n marks true (same l n) entries)
      (Ok (total_to n (standing_at ss) (entry_at entries marks))))
      h.long
      ∙ ap (λ f. result_and (refusal_of n marks true (same (length ts) n) entries) (Ok (sum_to n f)))
      (fun_ext (λ i. counted entries i (is (has marks i))))

-- entries that agree where a mark is set
module _ (n marks : ℕ) (xs ys : List ℕ) (h : Alike (has marks) xs ys) where
  entry_same : (i : ℕ) → Is (has marks i) → entry_at xs marks i ≡ entry_at ys marks i
  unfolding entry_at
  entry_same i (on e) = rw (word _ xs ys h i e)
  entry_same i (off e) = select_off _ _ _ e ∙ sym (select_off _ _ _ e)

  view : entry_at xs marks ≡ entry_at ys marks
  view = fun_ext (λ i. entry_same i (is (has marks i)))

  -- so the checks are the same of both
  checked : (named stood : Bool) → refusal_of n marks named stood xs ≡ refusal_of n marks named stood ys
  unfolding refusal_of
  checked named stood = rw (h.long, view)

  pub total_blind : (ss ts : List ℕ) → Alike (λ i. not (has marks i)) ss ts
      → total_of n xs marks ss ≡ total_of n ys marks ts
  unfolding total_of
  total_blind ss ts k =
      ap₂ (λ c (e : ℕ → Entry). result_and c (Ok (total_to n (standing_at ss) e))) (checked true (same
      (length ss) n)) view
      ∙ standing_blind n marks ss ts k ys

  pub go_blind : go_of n xs marks ≡ go_of n ys marks
  unfolding go_of
  go_blind = ap₂ (λ c (e : ℕ → Entry). result_and c (Ok (go n e))) (checked true true) view

  pub lead_blind : lead_of n xs marks ≡ lead_of n ys marks
  unfolding lead_of
  lead_blind = ap₂ (λ c (e : ℕ → Entry). result_and c (led (leader_to n e))) (checked true true) view

  pub change_blind : (process standing : ℕ)
      → change_of n xs marks process standing ≡ change_of n ys marks process standing
  unfolding change_of
  change_blind process standing =
      ap₂ (λ c (e : ℕ → Entry). result_and c (changed standing (e (process - 1))))
      (checked (one_to n process) true) view
