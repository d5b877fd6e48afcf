-- Tests, and choices by a test. They stay shut, so that a proof can name a test's parts.
use Rattle.std.specs.Prelude.{Bool, true, false, ℕ, ◌+◌, eqb, ltb}

infixr 35 ◌and◌
infixr 30 ◌or◌
unfoldable pub ◌and◌ : Bool → Bool → Bool
true and b = b
false and b = false

unfoldable pub ◌or◌ : Bool → Bool → Bool
true or b = true
false or b = b

-- a test of two numbers for equality, and for order
unfoldable pub same : ℕ → ℕ → Bool
same x y = eqb x y

unfoldable pub less : ℕ → ℕ → Bool
less x y = ltb x y

-- x is a number from 1 to k: so processes are numbered in document 01
unfoldable pub one_to : ℕ → ℕ → Bool
one_to k x = less 0 x and less x (k + 1)

-- a test as a number
unfoldable pub bit : Bool → ℕ
bit true = 1
bit false = 0

-- one of two, by a test
unfoldable pub select {ℓ} : {A : Type ℓ} → Bool → A → A → A
select true a b = a
select false a b = b

-- a check of document 01's table with its number, and what is checked after it
unfoldable pub check : Bool → ℕ → ℕ → ℕ
check passes number rest = select passes rest number
