-- The tests that code computes are the shut tests of the definitions, so that contracts can speak of the latter.
use Rattle.std.specs.Prelude.{◌≡◌, refl, Bool, true, false, not, ℕ, ◌+◌, leb}
use Rattle.std.proofs.Common.{ap, ap₂, ◌∙◌, arith, leb-true, le-leb}
use Rattle.std.proofs.Math.Bool as core
use Rattle.sets.specs.Truth.{◌and◌, ◌or◌, less}
use Rattle.sets.specs.TruthLaws.{by_both, less_on, less_mk, less_off, less-not, not_on}

and_is : (a b : Bool) → core.◌&&◌ a b ≡ (a and b)
unfolding ◌and◌
and_is true b = refl
and_is false b = refl

or_is : (a b : Bool) → core.◌||◌ a b ≡ (a or b)
unfolding ◌or◌
or_is true b = refl
or_is false b = refl

-- both parts of `&`, and of `|`, are the tests meant
pub both_are : {a b c d : Bool} → a ≡ c → b ≡ d → core.◌&&◌ a b ≡ (c and d)
both_are {a} {b} p q = and_is a b ∙ ap₂ ◌and◌ p q

pub either : {a b c d : Bool} → a ≡ c → b ≡ d → core.◌||◌ a b ≡ (c or d)
either {a} {b} p q = or_is a b ∙ ap₂ ◌or◌ p q

pub at_most : (x y : ℕ) → leb x y ≡ less x (y + 1)
at_most x y =
    by_both (leb x y) (less x (y + 1)) (λ e. less_mk x (y + 1) (omega (arith, leb-true x y e)))
    (λ e. le-leb x y (omega (arith, less_on x (y + 1) e)))

pub not_above : (x y : ℕ) → leb x y ≡ not (less y x)
not_above x y =
    by_both (leb x y) (not (less y x)) (λ e. ap not (less_off y x (leb-true x y e)))
    (λ e. le-leb x y (less-not y x (not_on _ e)))
