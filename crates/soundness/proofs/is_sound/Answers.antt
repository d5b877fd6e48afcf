-- `is_sound` makes the definition's tests, those of the sets only where n is known to be at most 16.
use Rattle.std.proofs.Common.{◌≤◌, arith, sym, ◌∙◌, rules}
use Rattle.std.proofs.Math.Bool.{and_assoc}
use Rattle.sets.specs.Set.{within}
use Rattle.sets.specs.Tests.{both_are}
use Rattle.sets.specs.TruthLaws.{and_on_l, and_off_l}
use Rattle.bench.specs.Sound.{sound_data, sound_process, sound_of}
use Rattle.bench.proofs.SoundLaws.{open_few}
use Rattle.soundness.proofs.is_sound.Goals.{Else-not-sizes_open}
use Rattle.soundness.proofs.is_sound.Goals as goal

few : (c : Else-not-sizes_open) → c.args.b.now.n ≤ 16
few c = omega (arith, open_few _ _ (sym c.if-not-sizes_open.ensures))

pub returns-then-not-sizes_open : goal.returns-then-not-sizes_open
unfolding sound_of
returns-then-not-sizes_open c = sym (and_off_l _ _ (sym c.if-not-sizes_open.ensures))

pub set_within-requires : goal.set_within-requires
set_within-requires c = few c

pub all_pass-requires : goal.all_pass-requires
all_pass-requires c = let h = few (goal.at.all_pass-requires c).Else-not-sizes_open in search rules

pub all_pass-requires-2 : goal.all_pass-requires-2
all_pass-requires-2 c = let h = few (goal.at.all_pass-requires-2 c).Else-not-sizes_open in search rules

pub all_pass-requires-3 : goal.all_pass-requires-3
all_pass-requires-3 c = let h = few (goal.at.all_pass-requires-3 c).Else-not-sizes_open in search rules

pub returns : goal.returns
unfolding sound_of sound_data
returns c =
    let b = c.args.b.now in
    simp and_assoc
    (both_are c.set_within.ensures
    (both_are (c.all_pass.ensures (sound_process b.n b.t) (λ x r h. search rules))
    (both_are (c.all_pass-2.ensures (sound_data b.n) (λ x r h. search rules))
    (c.all_pass-3.ensures (within b.n) (λ x r h. search rules))))
    ∙ sym (and_on_l _ _ (sym c.if-not-sizes_open.ensures)))
