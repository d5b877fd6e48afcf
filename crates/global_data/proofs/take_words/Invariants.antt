use mathlib.Core.Path.{◌≡◌}
use Prim.Native.Nat.{ℕ}
use lib.ListN.{length}
use Rattle.sets.specs.MembersLaws.{Left}
use Rattle.global_data.proofs.Laws.{words_from}
use Rattle.global_data.proofs.take_words.Given as goal

abbrev pub invariant-loop-k : goal.invariant-loop-k
invariant-loop-k l =
    (m : ℕ) × Left l.k-iterator m × (length l.values ≡ 16)
    × (words_from m l.words l.values ≡ words_from l.m l.words l.initial.values)
