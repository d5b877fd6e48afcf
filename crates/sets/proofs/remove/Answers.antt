-- `sets::remove` takes i out: the difference with the set of i alone, which the shift makes, since i is below 16.
use mathlib.Core.Path.{ap, ◌∙◌}
use native.Mathlib.Omega.{arith}
use Rattle.sets.specs.Set.{difference_of, remove_of}
use Rattle.sets.specs.Laws.{shifted_one}
use Rattle.sets.proofs.remove.Goals as goal

pub returns : goal.returns
unfolding remove_of
returns c =
    c.difference.ensures
    ∙ ap (difference_of c.args.m) (shifted_one 16 c.args.i (omega arith))
