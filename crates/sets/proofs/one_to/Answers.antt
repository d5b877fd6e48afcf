-- The two tests of the range are those of the definition.
use native.Mathlib.Omega.{arith}
use mathlib.Core.Path.{◌≡◌, ◌∙◌}
use Rattle.std.specs.Ordering.{nat_cmp, is_le}
use Rattle.std.specs.Prelude.{ℕ, leb}
use Rattle.std.proofs.lemmas.Grind.{common_steps}
use Rattle.sets.specs.Truth.{one_to, less}
use Rattle.sets.specs.Tests.{both_are, at_most}
use Rattle.sets.proofs.one_to.Goals as goal

le_is : (a b : ℕ) → is_le (nat_cmp a b) ≡ leb a b
le_is a b = grind (arith, common_steps)

pub returns : goal.returns
unfolding one_to less
returns c =
    let e = c.new.ensures in
    c.contains.ensures.value
    ∙ rw (e.start, e.end, e.exhausted) (both_are (le_is 1 c.args.x) (le_is c.args.x c.args.k ∙ at_most c.args.x c.args.k))
