-- Over the numbers below n, and over lists: each, joined, every, some, how many, their sum.
use Rattle.std.specs.Prelude.{Bool, true, not, List, [], ◌∷◌, ◌++◌, ℕ, zero, suc, ◌+◌}
use Rattle.sets.specs.Truth.{◌and◌, bit}

-- the list f 0, f 1, .. f (n - 1)
unfoldable pub each {ℓ} : {A : Type ℓ} → ℕ → (ℕ → A) → List A
each zero f = []
each (suc n) f = each n f ++ (f n ∷ [])

-- the lists f 0, f 1, .. f (n - 1), one after the other
unfoldable pub joined : {A : Type 0} → ℕ → (ℕ → List A) → List A
joined zero f = []
joined (suc n) f = joined n f ++ f n

-- every number below n passes a test
unfoldable pub every : ℕ → (ℕ → Bool) → Bool
every zero p = true
every (suc n) p = p n and every n p

-- some number below n does: they do not all fail it
unfoldable pub some_to : ℕ → (ℕ → Bool) → Bool
some_to n p = not (every n (λ k. not (p k)))

-- every element of a list does
unfoldable pub every_in : {A : Type 0} → (A → Bool) → List A → Bool
every_in p [] = true
every_in p (x ∷ l) = p x and every_in p l

-- how many numbers below n do
unfoldable pub count_to : ℕ → (ℕ → Bool) → ℕ
count_to zero p = 0
count_to (suc n) p = bit (p n) + count_to n p

-- f 0 + .. + f (n - 1)
unfoldable pub sum_to : ℕ → (ℕ → ℕ) → ℕ
sum_to zero f = 0
sum_to (suc n) f = sum_to n f + f n
