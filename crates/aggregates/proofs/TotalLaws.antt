-- Laws of the total: its ends, in the order of its checks; what it is made of; and how great it can be.
use Rattle.std.specs.Prelude.{◌≡◌, Bool, false, Ok, Err, List, ℕ, ◌+◌, ◌^◌, ◌≤◌, ◌<◌, get_or, length}
use Rattle.std.specs.Result.{result_and}
use Rattle.refusal.specs.declared.Refusal.TheVariants.{Slice, Diet}
use Rattle.std.proofs.Math.Path.{refl, fun_ext}
use Rattle.std.proofs.Common.{◌∙◌, ap, arith}
use Rattle.std.proofs.Math.Bool.{true}
use Rattle.sets.specs.Lists.{sum_to}
use Rattle.sets.specs.SumLaws.{sum_both, sum_bound}
use Rattle.sets.specs.Set.{has, within}
use Rattle.sets.specs.Truth.{one_to, select}
use Rattle.sets.specs.TruthLaws.{select_by, same_mk, same_off}
use Rattle.global_data.specs.GlobalData.{entry_by}
use Rattle.global_data.specs.WordLaws.{portions_lt}
use Rattle.aggregates.specs.Entries.{entry_at, standing_at, counts_for, diets_fit}
use Rattle.aggregates.specs.Aggregates.{refusal_of, total_to, total_of}
use Rattle.aggregates.proofs.Refusals.{by_standing, by_diet, by_none, turned_away, answered}
use Rattle.aggregates.specs.TotalLaws.{portions_at, present_sum, absent_sum, greatest}

-- ---- the ends, of n from 1 to 16, marks below n and n entries

module _ (n marks : ℕ) (entries standing : List ℕ) (sized : one_to 16 n ≡ true) (marked : within n marks ≡ true)
    (long : length entries ≡ n) where
  -- a standing list not of n, before any entry is looked at
  pub total_standing : (length standing ≡ n → ⊥) → total_of n entries marks standing ≡ Err Slice
  unfolding total_of
  total_standing h =
      turned_away Slice _ (by_standing n marks true _ entries sized marked refl long (same_off _ _ h))

  -- then an entry with more diet portions than portions
  pub total_diet : length standing ≡ n → diets_fit n (entry_at entries marks) ≡ false
      → total_of n entries marks standing ≡ Err Diet
  unfolding total_of
  total_diet l d =
      turned_away Diet _ (by_diet n marks true _ entries sized marked refl long (same_mk _ _ l) d)

  -- every other call is answered
  pub total_given : length standing ≡ n → diets_fit n (entry_at entries marks) ≡ true
      → total_of n entries marks standing ≡ Ok (total_to n (standing_at standing) (entry_at entries marks))
  unfolding total_of
  total_given l d = answered _ (by_none n marks true _ entries sized marked refl long (same_mk _ _ l) d)

-- ---- what it is made of

-- what an entry adds, by its mark
pub counts_is : (entries : List ℕ) (marks i s : ℕ)
    → counts_for s (entry_at entries marks i) ≡ select (has marks i) (portions_at entries i) s
unfolding entry_at select
counts_is entries marks i s = go (has marks i)
  where
    go : (b : Bool) → counts_for s (entry_by b (get_or entries i 0)) ≡ select b (portions_at entries i) s
    go true = refl
    go false = refl

select_split : (b : Bool) (x y : ℕ) → select b x y ≡ select b x 0 + select b 0 y
unfolding select
select_split true x y = omega arith
select_split false x y = omega arith

module _ (n marks : ℕ) (entries standing : List ℕ) where
  pub total_parts : total_to n (standing_at standing) (entry_at entries marks)
      ≡ present_sum n entries marks + absent_sum n standing marks
  total_parts =
      ap (sum_to n) (fun_ext (λ i. counts_is entries marks i _ ∙ select_split (has marks i) _ _))
      ∙ sum_both n (λ i. select (has marks i) (portions_at entries i) 0) _

  -- with standing values all 0 it is the sum of the present ones
  pub total_present : length standing ≡ n → ((i : ℕ) → i < n → standing_at standing i ≡ 0)
      → total_of n entries marks standing
      ≡ result_and (refusal_of n marks true true entries) (Ok (present_sum n entries marks))
  unfolding total_of
  total_present l z =
      rw (same_mk _ _ l)
      (ap (λ v. result_and (refusal_of n marks true true entries) (Ok v)) (omega (arith, total_parts, none)))
    where
      nought : (i : ℕ) → i < n → select (has marks i) 0 (standing_at standing i) ≤ 0
      nought i b = select_by (λ x. x ≤ 0) (has marks i) _ _ (λ e. omega arith) (λ e. omega (arith, z i b))

      none : absent_sum n standing marks ≡ 0
      none = omega (arith, sum_bound n 0 (λ i. select (has marks i) 0 (standing_at standing i)) nought)

-- ---- how great it can be

pub greatest_fits : greatest < 2 ^ 64
greatest_fits = omega arith

module _ (n marks : ℕ) (entries standing : List ℕ) where
  -- of standing values of 32 bits none is greater, whatever the entries are
  pub total_most : n ≤ 16 → ((i : ℕ) → i < n → standing_at standing i < 2 ^ 32)
      → total_to n (standing_at standing) (entry_at entries marks) ≤ greatest
  total_most few s =
      omega (arith, sum_bound n 4294967295 (λ i. counts_for (standing_at standing i) (entry_at entries marks i)) each)
    where
      each : (i : ℕ) → i < n → counts_for (standing_at standing i) (entry_at entries marks i) ≤ 4294967295
      each i l =
          rw (counts_is entries marks i (standing_at standing i))
          (select_by (λ x. x ≤ 4294967295) (has marks i) _ _ (λ e. omega (arith, portions_lt (get_or entries i 0)))
          (λ e. omega (arith, s i l)))
