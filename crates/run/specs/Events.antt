-- What an event comes to, whether it is accepted or refused.
use Rattle.std.specs.Prelude.{ℕ, Result, Ok, Err}
use Rattle.sets.specs.Truth.{same, select}
use Rattle.refusal.specs.declared.Refusal.{Refusal}
use Rattle.refusal.specs.Numbers.{refused}
use Rattle.bench.specs.declared.Bench.{Bench}
use Rattle.bench.specs.declared.Event.{Event}
use Rattle.bench.specs.Refuse.{refuses}
use Rattle.bench.specs.State.{process_at}
use Rattle.bench.specs.Effect.{effect, rows_at}
use Rattle.process.specs.declared.Closing.{Closing}
use Rattle.process.specs.Steps.{closing_of}

-- the bench after the event: refused, as it was
unfoldable pub after_event : Event → Bench → Bench
after_event e s = select (same (refuses e s) 0) (effect e s) s

-- the verdict with a number: 0 accepts, with x
unfoldable pub verdict_of : {A : Type 0} → ℕ → A → Result A Refusal
verdict_of k x = select (same k 0) (Ok x) (Err (refused k))

-- how the round of a ends where it closes
unfoldable pub closed_of : ℕ → Bench → Closing
closed_of a s = closing_of s.n s.t a (rows_at s (process_at s a).round) (process_at s a)
