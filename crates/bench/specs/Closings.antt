-- How a round ended (request C-11), as the bench passes it up: of an event, and of one event after another.
use Rattle.std.specs.Prelude.{Option, Some, None, is_none}
use Rattle.sets.specs.Truth.{select}
use Rattle.process.specs.declared.Closing.{Closing}
use Rattle.process.specs.Steps.{closing_of}
use Rattle.bench.specs.declared.Bench.{Bench}
use Rattle.bench.specs.declared.Event.{Event}
use Rattle.bench.specs.State.{process_at}
use Rattle.bench.specs.Record.{by_kind}
use Rattle.bench.specs.Effect.{rows_at}

-- of an event, on the bench before it: a close by step 5; no other event is a close, an arriving decision neither
unfoldable pub closing_at : Event → Bench → Option Closing
closing_at e s =
    by_kind (λ a v. None) (λ a. Some (closing_of s.n s.t a (rows_at s (process_at s a).round) (process_at s a)))
    None None e

-- of two events one after the other: that of the last close
unfoldable pub last_of : Option Closing → Option Closing → Option Closing
last_of c d = select (is_none d) c d
