use Rattle.std.proofs.Common.{◌≡◌, ◌++◌, drop}
use Rattle.sets.specs.Lists.{each}
use Rattle.bench.specs.Calls.{word_at}
use Rattle.decision.proofs.put_entries.Given as goal

abbrev pub invariant-loop-k : goal.invariant-loop-k
invariant-loop-k l = l.word-items ≡ each l.k (word_at l.g) ++ drop l.k l.initial.word-items
