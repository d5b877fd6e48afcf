-- Laws of `every`: what holds of each number below n, and one that fails where not every one passes, by induction
-- on n. From these, laws of `some_to`. Then of `every_in`: what holds of each element of a list, by induction on it.
use Rattle.std.specs.Prelude.{◌≡◌, Bool, true, false, not, ℕ, zero, suc, ◌<◌}
use Rattle.std.proofs.Math.Path.{refl}
use Rattle.std.proofs.Common.{sym, ◌∙◌, ap, arith}
use Rattle.std.proofs.Math.Logic.{⊎_elim}
use mathlib.Core.List.Memᴰ.{head as here}
use mathlib.Core.List.Memᴰ.{tail as later}
use mathlib.Core.List.{List, [], ◌∷◌, Memᴰ as In}
use mathlib.Core.List.Memᴰ.{cases_cons as in-cases}
use mathlib.Core.List.Memᴰ.{not-nil as not_in}
use Rattle.sets.specs.Truth.{◌or◌}
use Rattle.sets.specs.TruthLaws.{and_first, and_second, and_mk, and_cases, clash, eq-or, not_on, not_off, off_by}
use Rattle.sets.specs.TruthLaws.{by_both, or_cases, or_mk_l, or_mk_r}
use Rattle.sets.specs.Lists.{every, some_to, every_in}

pub every_on : (n : ℕ) (p : ℕ → Bool) → every n p ≡ true → (k : ℕ) → k < n → p k ≡ true
unfolding every
every_on zero p e k h = absurd (omega arith)
every_on (suc n) p e k h =
    ⊎_elim (λ u. rw u (and_first (p n) (every n p) e))
    (λ u. every_on n p (and_second (p n) (every n p) e) k (omega arith)) (eq-or k n)

pub every_mk : (n : ℕ) (p : ℕ → Bool) → ((k : ℕ) → k < n → p k ≡ true) → every n p ≡ true
unfolding every
every_mk zero p h = refl
every_mk (suc n) p h = and_mk (p n) (every n p) (h n (omega arith)) (every_mk n p (λ k l. h k (omega arith)))

-- where not every number passes, one does not
pub every-not : (n : ℕ) (p : ℕ → Bool) → every n p ≡ false → (k : ℕ) × (k < n) × (p k ≡ false)
unfolding every
every-not zero p e = clash true refl e
every-not (suc n) p e =
    ⊎_elim (λ u. (n, omega arith, u)) (λ u. let w = every-not n p u in (w.0, omega (arith, w.1), w.2))
    (and_cases (p n) (every n p) e)

-- of one number more
pub every-suc : (n : ℕ) (p : ℕ → Bool) → every n p ≡ true → p n ≡ true → every (suc n) p ≡ true
unfolding every
every-suc n p e h = and_mk (p n) (every n p) h e

-- one that fails
pub every_off : (n : ℕ) (p : ℕ → Bool) (k : ℕ) → k < n → p k ≡ false → every n p ≡ false
every_off n p k h e = off_by (every n p) (λ t. clash (p k) (every_on n p t k h) e)

-- some number passes: there is one, and one is enough
pub some_on : (n : ℕ) (p : ℕ → Bool) → some_to n p ≡ true → (k : ℕ) × (k < n) × (p k ≡ true)
unfolding some_to
some_on n p e =
    let w = every-not n (λ k. not (p k)) (not_on _ e) in (w.0, w.1, not_off (p w.0) w.2)

pub some_mk : (n : ℕ) (p : ℕ → Bool) (k : ℕ) → k < n → p k ≡ true → some_to n p ≡ true
unfolding some_to
some_mk n p k h e = ap not (every_off n (λ k. not (p k)) k h (ap not e))

-- what passes one test below n passes another below m
pub some_sub : (n m : ℕ) (p q : ℕ → Bool)
    → ((k : ℕ) → k < n → p k ≡ true → (j : ℕ) × (j < m) × (q j ≡ true)) → some_to n p ≡ true → some_to m q ≡ true
some_sub n m p q h e =
    let w = some_on n p e in let v = h w.0 w.1 w.2 in some_mk m q v.0 v.1 v.2

pub some_cong : (n : ℕ) (p q : ℕ → Bool) → ((k : ℕ) → k < n → p k ≡ q k) → some_to n p ≡ some_to n q
some_cong n p q h =
    by_both (some_to n p) (some_to n q)
    (some_sub n n p q (λ k l e. (k, l, sym (h k l) ∙ e)))
    (some_sub n n q p (λ k l e. (k, l, h k l ∙ e)))

pub some_none : (n : ℕ) (p : ℕ → Bool) → ((k : ℕ) → k < n → p k ≡ false) → some_to n p ≡ false
some_none n p h = off_by (some_to n p) (λ e. let w = some_on n p e in clash (p w.0) w.2 (h w.0 w.1))

-- of one number more
pub some_suc : (n : ℕ) (p : ℕ → Bool) → some_to (suc n) p ≡ (p n or some_to n p)
some_suc n p =
    by_both (some_to (suc n) p) (p n or some_to n p)
    (λ e.
    let w = some_on (suc n) p e in
    ⊎_elim (λ u. or_mk_l (p n) (some_to n p) (rw u at w.2))
    (λ u. or_mk_r (p n) (some_to n p) (some_mk n p w.0 (omega (arith, w.1)) w.2)) (eq-or w.0 n))
    (λ e. ⊎_elim (λ u. some_mk (suc n) p n (omega arith) u)
    (λ u. let w = some_on n p u in some_mk (suc n) p w.0 (omega (arith, w.1)) w.2)
    (or_cases (p n) (some_to n p) e))

-- every element of a list passes: then each of them does, and it is so where each does
module _ {A : Type 0} (p : A → Bool) where
  pub every_in_on : (l : List A) → every_in p l ≡ true → (x : A) → In x l → p x ≡ true
  unfolding every_in
  every_in_on [] e x i = absurd (not_in i)
  every_in_on (y ∷ l) e x i =
      ⊎_elim (λ u. rw u (and_first (p y) (every_in p l) e))
      (λ j. every_in_on l (and_second (p y) (every_in p l) e) x j) (in-cases i)

  pub every_in_mk : (l : List A) → ((x : A) → In x l → p x ≡ true) → every_in p l ≡ true
  unfolding every_in
  every_in_mk [] h = refl
  every_in_mk (y ∷ l) h =
      and_mk (p y) (every_in p l) (h y (here refl)) (every_in_mk l (λ x i. h x (later i)))
