use mathlib.Core.Path.{◌≡◌}
use Rattle.sets.specs.Lists.{every}
use Rattle.global_data.proofs.Laws.{words_same}
use Rattle.global_data.proofs.GlobalData.same.Given as goal

abbrev pub invariant-loop-k : goal.invariant-loop-k
invariant-loop-k l = l.ok ≡ every l.k (words_same l.marks l.self l.other)
