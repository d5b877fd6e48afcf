-- `process_sound` makes the tests of the definition, one for each part of the process.
use Rattle.std.proofs.Common.{refl, rules}
use Rattle.std.proofs.Math.Bool.{and_assoc}
use Rattle.sets.specs.Truth.{less}
use Rattle.sets.specs.Set.{within}
use Rattle.sets.specs.Tests.{both_are}
use Rattle.bench.specs.Sound.{sound_data, sound_process}
use Rattle.soundness.proofs.process_sound.Goals as goal

pub returns : goal.returns
unfolding sound_process sound_data less
returns c =
    simp and_assoc
    (both_are refl
    (both_are c.set_within.ensures
    (both_are c.set_within-2.ensures
    (both_are c.set_within-3.ensures
    (both_are c.set_within-4.ensures
    (both_are c.set_within-5.ensures (c.all_pass.ensures (within c.args.n) (λ x r h. search rules))))))))
