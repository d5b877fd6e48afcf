-- The protocol steps of document 01, 1 to 7, as they change one process. `n` is how many processes there are,
-- `a` the number of this one, from 0.
use Rattle.std.specs.Prelude.{[], Bool, not, ℕ, ◌+◌, ◌-◌, get_or, set, replicate, Option, Some, None}
use Rattle.sets.specs.Set.{has, insert_of, remove_of, union_of, intersection_of, difference_of, all_of, empty_set}
use Rattle.sets.specs.Truth.{◌and◌, ◌or◌, same, less, select}
use Rattle.global_data.specs.declared.GlobalData.{GlobalData}
use Rattle.global_data.specs.GlobalData.{no_data, nothing_of, one_of, fill_from, same_to, all_same}
use Rattle.process.specs.declared.Process.{Process}
use Rattle.process.specs.declared.Closing.{Closing}
use Rattle.process.specs.declared.Closing.TheVariants.{NextRound, Agreed, LastRound}
use Rattle.process.specs.Fields.{made, with_round, with_decided, with_previous, with_current}
use Rattle.process.specs.Fields.{with_suspected, with_outbox, with_estimate, with_received}

-- what stands outside an array of processes
abbrev pub no_process : Process
no_process = made 0 0 0 0 0 0 no_data []

-- a process that has not started
unfoldable pub idle_of : Process
idle_of = made 0 0 empty_set empty_set empty_set empty_set nothing_of (replicate 16 empty_set)

-- it has decided: every byte but 0 says so
unfoldable pub has_decided : Process → Bool
has_decided p = not (same p.decided 0)

-- it has started and not decided
unfoldable pub takes_part : Process → Bool
takes_part p = less 0 p.round and not (has_decided p)

-- ---- step 2, opening a round: it owes its estimate to each other member of its current set.
-- Which estimate that is, the bench holds.
unfoldable pub open_round_of : ℕ → Process → Process
open_round_of a p = with_outbox (remove_of p.current a) (with_round (p.round + 1) p)

-- ---- step 1, start with v: the estimate is absent but for its own value; previous: all n; current: all n without
-- those it suspects; round 1 opens
unfoldable pub start_of : ℕ → ℕ → ℕ → Process → Process
start_of n a v p =
    open_round_of a
    (with_estimate (one_of a v)
    (with_previous (all_of n) (with_current (difference_of (all_of n) p.suspected) (with_round 0 p))))

-- ---- step 3, arrival of an estimate of round r from y: an undecided process keeps it for a round not yet reached, or
-- for this round from the current set; else nothing changes
unfoldable pub keeps : Process → ℕ → ℕ → Bool
keeps p y r = not (has_decided p) and (less p.round r or (same r p.round and has p.current y))

unfoldable pub receive_of : ℕ → ℕ → Process → Process
receive_of y r p =
    select (keeps p y r)
    (with_received (set p.received (r - 1) (insert_of (get_or p.received (r - 1) 0) y)) p) p

-- ---- step 4, close: whose estimate of this round has arrived, its own among them
unfoldable pub arrived_of : ℕ → Process → ℕ
arrived_of a p = insert_of (get_or p.received (p.round - 1) 0) a

-- each member of the current set has arrived or is suspected
unfoldable pub due_of : ℕ → Process → Bool
due_of a p = same (difference_of p.current (union_of (arrived_of a p) p.suspected)) empty_set

-- next (after-set): the members whose estimate arrived, suspected or not
unfoldable pub next_of : ℕ → Process → ℕ
next_of a p = intersection_of p.current (arrived_of a p)

-- the others of the next set; its own estimate it holds itself
unfoldable pub peers_of : ℕ → Process → ℕ
peers_of a p = remove_of (next_of a p) a

-- each absent entry takes the value of the lowest-numbered member of the next set that shows one.
-- `rows y` is what process y sent in this round.
unfoldable pub filled_of : ℕ → (ℕ → GlobalData) → Process → GlobalData
filled_of a rows p = fill_from 16 (peers_of a p) rows p.estimate

-- ---- step 5, the test: previous is next, and the new estimate equals each arrived one of the
-- next set, its own old one included
unfoldable pub agreed_of : ℕ → ℕ → (ℕ → GlobalData) → Process → Bool
agreed_of n a rows p =
    same p.previous (next_of a p)
    and (same_to n (filled_of a rows p) p.estimate and all_same 16 n (peers_of a p) rows (filled_of a rows p))

-- how the round ends (request C-11): where it is t + 1 by the last round, whatever the test says; else agreed if the
-- test holds; else the next round opens
unfoldable pub closing_of : ℕ → ℕ → ℕ → (ℕ → GlobalData) → Process → Closing
closing_of n t a rows p = select (same p.round (t + 1)) LastRound (select (agreed_of n a rows p) Agreed NextRound)

-- its number; 0 where there was no close
unfoldable pub closing_number : Option Closing → ℕ
closing_number None = 0
closing_number (Some NextRound) = 1
closing_number (Some Agreed) = 2
closing_number (Some LastRound) = 3

-- the next round is open
unfoldable pub opens_next : Closing → Bool
opens_next c = same (closing_number (Some c)) 1

-- it decides where the next round does not open
unfoldable pub decides_of : ℕ → ℕ → ℕ → (ℕ → GlobalData) → Process → Bool
decides_of n t a rows p = not (opens_next (closing_of n t a rows p))

-- ---- step 5, otherwise: previous becomes current, current becomes next, and the next round
-- opens with g, the filled estimate
unfoldable pub advance_of : ℕ → GlobalData → Process → Process
advance_of a g p = open_round_of a (with_estimate g (with_previous p.current (with_current (next_of a p) p)))

-- ---- step 6, after deciding: whom it owes the decision, all but itself and those it suspects by then
unfoldable pub owed_of : ℕ → ℕ → Process → ℕ
owed_of n a p = difference_of (remove_of (all_of n) a) p.suspected

-- it has decided on g, and owes that to the members of m; estimates still owed lapse
unfoldable pub decide_of : GlobalData → ℕ → Process → Process
decide_of g m p = with_estimate g (with_outbox m (with_decided 1 p))

-- steps 4 to 6 together
unfoldable pub close_of : ℕ → ℕ → ℕ → (ℕ → GlobalData) → Process → Process
close_of n t a rows p =
    let g = filled_of a rows p in
    select (decides_of n t a rows p) (decide_of g (owed_of n a p) p) (advance_of a g p)

-- ---- step 7, a decision g of k arrives: a started undecided process takes it over,
-- and does not owe it to k; any other is unchanged
unfoldable pub adopt_of : ℕ → ℕ → ℕ → GlobalData → Process → Process
adopt_of n a k g p = select (takes_part p) (decide_of g (remove_of (owed_of n a p) k) p) p

-- ---- a send: its message is 0, the decision, once it has decided, else the estimate of its round
unfoldable pub message_of : Process → ℕ
message_of p = select (has_decided p) 0 p.round

-- what it owed b it no longer owes
unfoldable pub send_of : ℕ → Process → Process
send_of b p = with_outbox (remove_of p.outbox b) p

-- ---- it suspects b (notices that b has stopped); no debt ends
unfoldable pub suspect_of : ℕ → Process → Process
suspect_of b p = with_suspected (insert_of p.suspected b) p
