-- Soundness in the words of the code's contracts. The laws are in ../proofs/SoundLaws.antt.
use Rattle.std.specs.Prelude.{Bool}
use mathlib.Core.List.{List}
use Prim.Native.Nat.{ℕ}
use Rattle.sets.specs.Truth.{◌and◌}
use Rattle.process.specs.declared.Process.{Process}
use Rattle.bench.specs.Sound.{opens, sound_process}
use Rattle.sets.specs.Lists.{every_in}
use Rattle.sets.specs.Set.{within}

-- ---- soundness in two parts: the rows of `sent`, and all else
unfoldable pub sound_parts : ℕ → ℕ → ℕ → List Process → List ℕ → Bool
sound_parts n t crashed processes words =
    opens n t and (within n crashed and (every_in (sound_process n t) processes and every_in (within n) words))
