-- Laws of tests and choices: a test taken apart and put together, and the facts that the tests of numbers say.
use Rattle.std.specs.Prelude.{◌≡◌, refl, ◌≢◌, ◌⊎◌, Bool, true, false, not, ℕ, ◌+◌, ◌≤◌, ◌<◌, eqb, ltb, T}
use Rattle.std.proofs.Common.{sym, ◌∙◌, inl, inr, true≢false, arith, eqb→eq, ltb→lt, lt→ltb}
use Rattle.std.proofs.Math.Decide.{ℕ_discrete, dec_le}
use Rattle.std.proofs.Math.Dec.{eqb_refl}
use Rattle.sets.specs.Truth.{◌and◌, ◌or◌, same, less, one_to, select, check}

-- ---- a Boolean is true or false, with the equation kept
pub data Is : Bool → Type 0 where
  on : {b : Bool} → b ≡ true → Is b
  off : {b : Bool} → b ≡ false → Is b

pub is : (b : Bool) → Is b
is true = on refl
is false = off refl

pub clash {ℓ} : {A : Type ℓ} (b : Bool) → b ≡ true → b ≡ false → A
clash b p q = absurd (true≢false (sym p ∙ q))

pub off_by : (b : Bool) → (b ≡ true → ⊥) → b ≡ false
off_by true h = absurd (h refl)
off_by false h = refl

-- two tests that imply each other are one
pub by_both : (a b : Bool) → (a ≡ true → b ≡ true) → (b ≡ true → a ≡ true) → a ≡ b
by_both true b f g = sym (f refl)
by_both false true f g = g refl
by_both false false f g = refl

-- ---- choice
pub select_on {ℓ} : {A : Type ℓ} (b : Bool) (x y : A) → b ≡ true → select b x y ≡ x
unfolding select
select_on b x y e = rw e

pub select_off {ℓ} : {A : Type ℓ} (b : Bool) (x y : A) → b ≡ false → select b x y ≡ y
unfolding select
select_off b x y e = rw e

-- what holds of both holds of the chosen one
pub select_by {ℓ} : {A : Type ℓ} (P : A → Type 0) (b : Bool) (x y : A) → (b ≡ true → P x) → (b ≡ false → P y)
    → P (select b x y)
unfolding select
select_by P true x y f g = f refl
select_by P false x y f g = g refl

-- ---- conjunction
pub and_first : (a b : Bool) → (a and b) ≡ true → a ≡ true
unfolding ◌and◌
and_first true b e = refl
and_first false b e = e

pub and_second : (a b : Bool) → (a and b) ≡ true → b ≡ true
unfolding ◌and◌
and_second true b e = e
and_second false b e = clash false e refl

pub and_mk : (a b : Bool) → a ≡ true → b ≡ true → (a and b) ≡ true
unfolding ◌and◌
and_mk a b p q = cc

pub and_off_l : (a b : Bool) → a ≡ false → (a and b) ≡ false
unfolding ◌and◌
and_off_l a b e = cc

pub and_off_r : (a b : Bool) → b ≡ false → (a and b) ≡ false
unfolding ◌and◌
and_off_r true b e = e
and_off_r false b e = refl

pub and_on_l : (a b : Bool) → a ≡ true → (a and b) ≡ b
unfolding ◌and◌
and_on_l a b e = cc

pub and_on_r : (a b : Bool) → b ≡ true → (a and b) ≡ a
unfolding ◌and◌
and_on_r true b e = e
and_on_r false b e = refl

pub and_cases : (a b : Bool) → (a and b) ≡ false → (a ≡ false) ⊎ (b ≡ false)
unfolding ◌and◌
and_cases true b e = inr e
and_cases false b e = inl refl

-- ---- disjunction
pub or_cases : (a b : Bool) → (a or b) ≡ true → (a ≡ true) ⊎ (b ≡ true)
unfolding ◌or◌
or_cases true b e = inl refl
or_cases false b e = inr e

pub or_mk_l : (a b : Bool) → a ≡ true → (a or b) ≡ true
unfolding ◌or◌
or_mk_l a b p = cc

pub or_mk_r : (a b : Bool) → b ≡ true → (a or b) ≡ true
unfolding ◌or◌
or_mk_r true b p = refl
or_mk_r false b p = p

pub or_off_l : (a b : Bool) → a ≡ false → (a or b) ≡ b
unfolding ◌or◌
or_off_l a b e = cc

pub or_off_r : (a b : Bool) → b ≡ false → (a or b) ≡ a
unfolding ◌or◌
or_off_r true b e = refl
or_off_r false b e = e

pub or_none_l : (a b : Bool) → (a or b) ≡ false → a ≡ false
unfolding ◌or◌
or_none_l true b e = e
or_none_l false b e = refl

pub or_none_r : (a b : Bool) → (a or b) ≡ false → b ≡ false
unfolding ◌or◌
or_none_r true b e = clash true refl e
or_none_r false b e = e

-- ---- negation
pub not_on : (b : Bool) → not b ≡ true → b ≡ false
not_on true e = sym e
not_on false e = refl

pub not_off : (b : Bool) → not b ≡ false → b ≡ true
not_off true e = refl
not_off false e = sym e

-- ---- tests of numbers
true_of : (b : Bool) → T b → b ≡ true
true_of true t = refl
true_of false t = absurd t

pub same_on : (x y : ℕ) → same x y ≡ true → x ≡ y
unfolding same
same_on x y e = eqb→eq x y (rw e tt)

pub same_refl : (x : ℕ) → same x x ≡ true
unfolding same
same_refl x = true_of (eqb x x) (eqb_refl x)

pub same_mk : (x y : ℕ) → x ≡ y → same x y ≡ true
same_mk x y e = rw e (same_refl y)

pub same_off : (x y : ℕ) → x ≢ y → same x y ≡ false
same_off x y h = off_by (same x y) (λ e. h (same_on x y e))

pub same_not : (x y : ℕ) → same x y ≡ false → x ≢ y
same_not x y e h = clash (same x y) (same_mk x y h) e

pub less_on : (x y : ℕ) → less x y ≡ true → x < y
unfolding less
less_on x y e = ltb→lt x y (rw e tt)

pub less_mk : (x y : ℕ) → x < y → less x y ≡ true
unfolding less
less_mk x y h = true_of (ltb x y) (lt→ltb x y h)

pub less-not : (x y : ℕ) → less x y ≡ false → y ≤ x
less-not x y e = go (dec_le y x)
  where
    go : Dec (y ≤ x) → y ≤ x
    go (yes h) = h
    go (no h) = clash (less x y) (less_mk x y (omega arith)) e

pub less_off : (x y : ℕ) → y ≤ x → less x y ≡ false
less_off x y h = off_by (less x y) (λ e. omega (arith, less_on x y e))

pub eq-or : (x y : ℕ) → (x ≡ y) ⊎ (x ≢ y)
eq-or x y = go (ℕ_discrete x y)
  where
    go : Dec (x ≡ y) → (x ≡ y) ⊎ (x ≢ y)
    go (yes e) = inl e
    go (no h) = inr h

pub le-or : (a b : ℕ) → (a ≤ b) ⊎ (b < a)
le-or a b = go (dec_le a b)
  where
    go : Dec (a ≤ b) → (a ≤ b) ⊎ (b < a)
    go (yes h) = inl h
    go (no h) = inr (omega arith)

-- ---- a number from 1 to k
pub one_low : (k x : ℕ) → one_to k x ≡ true → 1 ≤ x
unfolding one_to
one_low k x e = less_on 0 x (and_first (less 0 x) (less x (k + 1)) e)

pub one_high : (k x : ℕ) → one_to k x ≡ true → x ≤ k
unfolding one_to
one_high k x e = omega (arith, less_on x (k + 1) (and_second (less 0 x) (less x (k + 1)) e))

pub one_mk : (k x : ℕ) → 1 ≤ x → x ≤ k → one_to k x ≡ true
unfolding one_to
one_mk k x l h = and_mk (less 0 x) (less x (k + 1)) (less_mk 0 x l) (less_mk x (k + 1) (omega arith))

-- ---- one check
pub check_on : (b : Bool) (k rest : ℕ) → b ≡ true → check b k rest ≡ rest
unfolding check
check_on b k rest e = select_on b rest k e

pub check_off : (b : Bool) (k rest : ℕ) → b ≡ false → check b k rest ≡ k
unfolding check
check_off b k rest e = select_off b rest k e

-- a check that gives 0 has passed, and so has what is checked after it
pub check-zero : (b : Bool) (k rest : ℕ) → 0 < k → check b k rest ≡ 0 → (b ≡ true) × (rest ≡ 0)
check-zero b k rest h e = go (is b)
  where
    go : Is b → (b ≡ true) × (rest ≡ 0)
    go (on t) = (t, sym (check_on b k rest t) ∙ e)
    go (off f) = absurd (omega (arith, check_off b k rest f))
