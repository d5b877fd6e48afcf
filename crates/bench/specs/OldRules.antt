-- The protocol steps before request C-15, where a value was one number of 32 bits: two entries were the same where
-- they were absent in both or one number in both. OldRulesLaws shows that the steps of now do the same; of these only
-- the entries are named in a claim, that of carried ones.
use Rattle.std.specs.Prelude.{Bool, true, false, ℕ, ◌+◌, get_or, Option, Some, None}
use Rattle.sets.specs.Lists.{every}
use Rattle.sets.specs.Set.{has}
use Rattle.sets.specs.Truth.{◌and◌, same, select}
use Rattle.global_data.specs.declared.GlobalData.{GlobalData}
use Rattle.process.specs.declared.Process.{Process}
use Rattle.process.specs.declared.Closing.{Closing}
use Rattle.process.specs.declared.Closing.TheVariants.{NextRound, Agreed, LastRound}
use Rattle.process.specs.Steps.{next_of, peers_of, filled_of, opens_next, advance_of, owed_of, decide_of}
use Rattle.bench.specs.declared.Bench.{Bench}
use Rattle.bench.specs.declared.Event.{Event}
use Rattle.bench.specs.declared.Event.TheVariants.{Start, Send, Arrive, Close, Crash, Suspect}
use Rattle.bench.specs.State.{process_at}
use Rattle.bench.specs.Effect.{rows_at, closes_as, effect}
use Rattle.bench.specs.Closings.{closing_at}

-- ---- entries: absent, or a value, one number
unfoldable pub old_entry_of : GlobalData → ℕ → Option ℕ
old_entry_of g k = select (has g.present k) (Some (get_or g.values k 0)) None

unfoldable pub old_same_entry : Option ℕ → Option ℕ → Bool
old_same_entry None None = true
old_same_entry None (Some w) = false
old_same_entry (Some v) None = false
old_same_entry (Some v) (Some w) = same v w

unfoldable pub old_same_to : ℕ → GlobalData → GlobalData → Bool
old_same_to n g h = every n (λ k. old_same_entry (old_entry_of g k) (old_entry_of h k))

-- ---- step 5, the test, with entries compared so
unfoldable pub old_agreed : ℕ → ℕ → (ℕ → GlobalData) → Process → Bool
old_agreed n a rows p =
    let g = filled_of a rows p in
    same p.previous (next_of a p)
    and (old_same_to n g p.estimate and every 16 (λ q. select (has (peers_of a p) q) (old_same_to n (rows q) g) true))

-- how a round ended, and what a close did, by that test
unfoldable pub old_closing_of : ℕ → ℕ → ℕ → (ℕ → GlobalData) → Process → Closing
old_closing_of n t a rows p = select (same p.round (t + 1)) LastRound (select (old_agreed n a rows p) Agreed NextRound)

unfoldable pub old_close_of : ℕ → ℕ → ℕ → (ℕ → GlobalData) → Process → Process
old_close_of n t a rows p =
    let g = filled_of a rows p in
    select (opens_next (old_closing_of n t a rows p)) (advance_of a g p) (decide_of g (owed_of n a p) p)

-- no other event compares entries
unfoldable pub old_effect : Event → Bench → Bench
old_effect (Start a v) s = effect (Start a v) s
old_effect (Send a b) s = effect (Send a b) s
old_effect (Arrive a b m) s = effect (Arrive a b m) s
old_effect (Close a) s = closes_as s a (old_close_of s.n s.t a (rows_at s (process_at s a).round) (process_at s a))
old_effect (Crash a) s = effect (Crash a) s
old_effect (Suspect a b) s = effect (Suspect a b) s

unfoldable pub old_closing_at : Event → Bench → Option Closing
old_closing_at (Start a v) s = closing_at (Start a v) s
old_closing_at (Send a b) s = closing_at (Send a b) s
old_closing_at (Arrive a b m) s = closing_at (Arrive a b m) s
old_closing_at (Close a) s =
    Some (old_closing_of s.n s.t a (rows_at s (process_at s a).round) (process_at s a))
old_closing_at (Crash a) s = closing_at (Crash a) s
old_closing_at (Suspect a b) s = closing_at (Suspect a b) s
