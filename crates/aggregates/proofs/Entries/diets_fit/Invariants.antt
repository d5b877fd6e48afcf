use mathlib.Core.Path.{◌≡◌}
use Rattle.aggregates.specs.Entries.{entry_at, diets_fit}
use Rattle.aggregates.proofs.Entries.diets_fit.Given as goal

abbrev pub invariant-loop-i : goal.invariant-loop-i
invariant-loop-i l =
    l.fits ≡ diets_fit l.i (entry_at l.self.words.now l.self.marks)
