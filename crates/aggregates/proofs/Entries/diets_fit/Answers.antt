-- `diets_fit` is the test of every entry: the loop has tested the first i.
use Rattle.std.specs.Prelude.{◌≡◌}
use mathlib.Core.Path.{refl, ap, ◌∙◌}
use native.Mathlib.Nat.{le_antisymm}
use native.Mathlib.Numerals.{add-one}
use Rattle.sets.specs.Truth.{◌and◌}
use Rattle.sets.specs.Lists.{every}
use Rattle.global_data.specs.GlobalData.{diet_fits}
use Rattle.aggregates.specs.Entries.{entry_at}
use Rattle.aggregates.proofs.Entries.diets_fit.Goals as goal

pub loop-i-init : goal.loop-i-init
unfolding every
loop-i-init c = refl

pub loop-i-preserved : goal.loop-i-preserved
unfolding every ◌and◌
loop-i-preserved c =
    let e = c.args.self in
    let t : c.diet_fits-fits.result ≡ diet_fits (entry_at e.words.now e.marks c.loop-i.i) =
    c.diet_fits-fits.ensures ∙ ap diet_fits c.entry.ensures in
    rw (add-one, t, c.loop-i.invariant) refl

pub returns : goal.returns
unfolding every
returns c = rw (le_antisymm c.loop-i.auto.i-end c.loop-i-test.false) at c.loop-i.invariant
