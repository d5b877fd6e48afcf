-- Refusals 1 and 2 of document 01: sizes that open, and a state that is not damaged.
use Rattle.std.specs.Prelude.{Bool, ℕ, ◌+◌}
use Rattle.sets.specs.Lists.{every_in}
use Rattle.sets.specs.Set.{within}
use Rattle.sets.specs.Truth.{◌and◌, less, one_to}
use Rattle.global_data.specs.declared.GlobalData.{GlobalData}
use Rattle.process.specs.declared.Process.{Process}
use Rattle.bench.specs.declared.Bench.{Bench}

-- n is 1 to 16, and t below n
unfoldable pub opens : ℕ → ℕ → Bool
opens n t = one_to 16 n and less t n

-- no present mark at or past n
unfoldable pub sound_data : ℕ → GlobalData → Bool
sound_data n g = within n g.present

-- the round is at most t + 1, and every set is within n
unfoldable pub sound_process : ℕ → ℕ → Process → Bool
sound_process n t p =
    less p.round (t + 2)
    and (within n p.previous
    and (within n p.current
    and (within n p.suspected
    and (within n p.outbox and (sound_data n p.estimate and every_in (within n) p.received)))))

-- every process, row and set counts, used or not
unfoldable pub sound_of : Bench → Bool
sound_of b =
    opens b.n b.t
    and (within b.n b.crashed
    and (every_in (sound_process b.n b.t) b.processes
    and (every_in (sound_data b.n) b.sent and every_in (within b.n) b.in_transit)))
