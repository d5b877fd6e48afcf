-- What an accepted record does to the bench: the protocol steps of document 01, which `process` has for
-- one process, and what they send.
use Rattle.std.specs.Prelude.{ℕ}
use Rattle.sets.specs.Set.{insert_of, remove_of}
use Rattle.sets.specs.Truth.{select}
use Rattle.global_data.specs.declared.GlobalData.{GlobalData}
use Rattle.process.specs.declared.Process.{Process}
use Rattle.process.specs.Steps.{has_decided, start_of, receive_of, close_of, adopt_of, message_of, send_of, suspect_of}
use Rattle.bench.specs.declared.Bench.{Bench}
use Rattle.bench.specs.declared.Message.TheVariants.{Estimate, Decision}
use Rattle.bench.specs.declared.Event.{Event}
use Rattle.bench.specs.declared.Event.TheVariants.{Start, Send, Arrive, Close, Crash, Suspect}
use Rattle.bench.specs.State.{process_at, sent_at, transit_at, with_process, with_sent, with_transit, with_crashed}

-- a has opened a round as p: what it sends in that round is the estimate it now holds (step 2)
unfoldable pub opens_round : Bench → ℕ → Process → Bench
opens_round s a p = with_sent (with_process s a p) a p.round p.estimate

-- what each process held when its round r opened, and so sends in it
unfoldable pub rows_at : Bench → ℕ → ℕ → GlobalData
rows_at s r y = sent_at s y r

-- message r of a is on its way to b, or has arrived there
unfoldable pub sends : Bench → ℕ → ℕ → ℕ → Bench
sends s a r b = with_transit s a r (insert_of (transit_at s a r) b)

unfoldable pub arrives : Bench → ℕ → ℕ → ℕ → Bench
arrives s a r b = with_transit s a r (remove_of (transit_at s a r) b)

-- a has closed its round as p, which has decided or opened the next one
unfoldable pub closes_as : Bench → ℕ → Process → Bench
closes_as s a p = select (has_decided p) (with_process s a p) (opens_round s a p)

unfoldable pub effect : Event → Bench → Bench
-- steps 1 and 2
effect (Start a v) s = opens_round s a (start_of s.n a v (process_at s a))
-- a send, of step 2 or 6
effect (Send a b) s = sends (with_process s a (send_of b (process_at s a))) a (message_of (process_at s a)) b
-- step 3
effect (Arrive a b (Estimate r)) s = arrives (with_process s b (receive_of a r (process_at s b))) a r b
-- step 7: the global data of a decision is what its sender decided on
effect (Arrive a b Decision) s =
    arrives (with_process s b (adopt_of s.n b a (process_at s a).estimate (process_at s b))) a 0 b
-- steps 4, 5 and 6
effect (Close a) s = closes_as s a (close_of s.n s.t a (rows_at s (process_at s a).round) (process_at s a))
effect (Crash a) s = with_crashed s a
effect (Suspect a b) s = with_process s a (suspect_of b (process_at s a))
