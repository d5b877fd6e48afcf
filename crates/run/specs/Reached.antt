-- How far a run came.
use Rattle.std.specs.Prelude.{ℕ, ◌*◌, Option}
use Rattle.process.specs.declared.Closing.{Closing}
use Rattle.bench.specs.declared.Cause.{Cause}
use Rattle.bench.specs.declared.Ended.{Ended}
use Rattle.run.specs.declared.Reached.{Reached}

-- what a run gives beside the bench
abbrev pub reached_of : Ended → Reached
reached_of e = record { accepted = e.accepted; cause = e.cause; closing = e.closing; taken = e.taken }

-- each record that was accepted was 8 bytes
abbrev pub reached_by : ℕ → Cause → Option Closing → Reached
reached_by accepted cause closing =
    record { accepted = accepted; cause = cause; closing = closing; taken = 8 * accepted }
