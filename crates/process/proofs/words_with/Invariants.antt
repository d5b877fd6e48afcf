use mathlib.Core.List.{◌++◌}
use mathlib.Core.Path.{◌≡◌}
use lib.ListN.{drop}
use Rattle.sets.specs.Lists.{each}
use Rattle.process.specs.Laws.{word_of}
use Rattle.process.proofs.words_with.Given as goal

abbrev pub invariant-loop-i : goal.invariant-loop-i
invariant-loop-i l = l.word-items ≡ each l.i (word_of l.fn.words l.at l.y) ++ drop l.i l.fn.words
