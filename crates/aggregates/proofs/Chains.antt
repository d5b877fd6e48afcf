-- What a chain over the numbers below n gives, in the words of the definitions.
use Rattle.std.specs.Prelude.{◌≡◌, refl, Bool, true, false, Option, None, Some, [], ◌∷◌, ◌++◌, ℕ, zero, suc}
use Rattle.std.specs.Prelude.{◌+◌, ◌&&◌, sum_by, option_to_list}
use Rattle.std.proofs.Common.{◌∙◌, ap, ap₂, arith}
use Rattle.std.specs.List.{range_with_len, list_all, filter_map, cons_option}
use Rattle.std.proofs.lemmas.List.Folds.{list_all-append}
use Rattle.std.proofs.lemmas.List.Sums.{sum_by_push}
use Rattle.std.proofs.lemmas.List.Elements.{filter_map-append}
use Rattle.sets.specs.Lists.{every, joined, sum_to}
use Rattle.sets.specs.Truth.{◌and◌}

range-more : (a n j : ℕ) → a + n ≡ j → range_with_len a (suc n) ≡ range_with_len a n ++ (j ∷ [])
range-more a zero j e = ap (λ k. k ∷ []) (omega (arith, e))
range-more a (suc n) j e = ap (λ l. a ∷ l) (range-more (a + 1) n j (omega (arith, e)))

last_and : (b c : Bool) → (b && (c && true)) ≡ (c and b)
unfolding ◌and◌
last_and true true = refl
last_and true false = refl
last_and false true = refl
last_and false false = refl

pub all_is : (n : ℕ) (p : ℕ → Bool) → list_all p (range_with_len 0 n) ≡ every n p
unfolding every
all_is zero p = refl
all_is (suc n) p =
    ap (list_all p) (range-more 0 n n (omega arith)) ∙ list_all-append p (range_with_len 0 n) (n ∷ [])
    ∙ last_and (list_all p (range_with_len 0 n)) (p n) ∙ ap (λ b. p n and b) (all_is n p)

pub sum_is : (n : ℕ) (f : ℕ → ℕ) → sum_by f (range_with_len 0 n) ≡ sum_to n f
unfolding sum_to
sum_is zero f = refl
sum_is (suc n) f =
    ap (sum_by f) (range-more 0 n n (omega arith)) ∙ sum_by_push f (range_with_len 0 n) n
    ∙ ap (λ s. s + f n) (sum_is n f)

option_list : {A : Type 0} (o : Option A) → cons_option o [] ≡ option_to_list o
option_list None = refl
option_list (Some x) = refl

pub joined_is : {A : Type 0} (n : ℕ) (h : ℕ → Option A)
    → filter_map h (range_with_len 0 n) ≡ joined n (λ i. option_to_list (h i))
unfolding joined
joined_is zero h = refl
joined_is (suc n) h =
    ap (filter_map h) (range-more 0 n n (omega arith)) ∙ filter_map-append h (range_with_len 0 n) (n ∷ [])
    ∙ ap₂ ◌++◌ (joined_is n h) (option_list (h n))
