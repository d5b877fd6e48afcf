-- Closes of explicit processes, as one table, and one theorem that the definitions give each of them
-- its end: the checker computes it.
use Rattle.std.specs.Prelude.{◌≡◌, refl, Some, List, [], ◌∷◌, Bool, true, false, not, ℕ, zero, suc, ◌+◌, ◌*◌, None}
use Rattle.sets.specs.Lists.{each, every}
use Rattle.sets.specs.Set.{has, insert_of, remove_of, union_of, intersection_of, difference_of, all_of}
use Rattle.sets.specs.Truth.{◌and◌, ◌or◌, same, select}
use Rattle.global_data.specs.declared.GlobalData.{GlobalData}
use Rattle.global_data.specs.GlobalData.{portions_of, diet_of, Entry, entry_with, entry_of, same_entry, rows_of}
use Rattle.global_data.specs.GlobalData.{filled_word, fill_of, fill_from, same_to, all_same}
use Rattle.process.specs.declared.Process.{Process}
use Rattle.process.specs.declared.Closing.{Closing}
use Rattle.process.specs.declared.Closing.TheVariants.{NextRound, Agreed, LastRound}
use Rattle.process.specs.Steps.{has_decided, open_round_of, arrived_of, next_of, peers_of, filled_of}
use Rattle.process.specs.Steps.{agreed_of, closing_of, closing_number, opens_next, decides_of, owed_of}
use Rattle.process.specs.Steps.{decide_of, advance_of, close_of}

-- a process before a close: sets are bits, and `arrived` is whose estimates of this round have arrived
pub record Start : Type 0 where
  pub round : ℕ
  pub previous : ℕ
  pub current : ℕ
  pub suspected : ℕ
  pub arrived : ℕ
  pub estimate : List Entry

-- and after it, with how the round ended
pub record End : Type 0 where
  pub closing : Closing
  pub round : ℕ
  pub previous : ℕ
  pub current : ℕ
  pub outbox : ℕ
  pub estimate : List Entry

-- round, sets and estimate before, and after
abbrev from : ℕ → ℕ → ℕ → ℕ → ℕ → List Entry → Start
from r p c s m l = record { round = r; previous = p; current = c; suspected = s; arrived = m; estimate = l }

abbrev to : Closing → ℕ → ℕ → ℕ → ℕ → List Entry → End
to e r p c o l = record { closing = e; round = r; previous = p; current = c; outbox = o; estimate = l }

-- process a, from 0, closes its round; `rows` is what each process sent in it
pub record Case : Type 0 where
  pub n : ℕ
  pub t : ℕ
  pub a : ℕ
  pub start : Start
  pub rows : List (List Entry)
  pub end : End

-- global data of the entries, from entry k
data_from : ℕ → List Entry → GlobalData
data_from k [] = record { present = 0; values = [] }
data_from k (None ∷ l) = let g = data_from (suc k) l in record { present = g.present; values = 0 ∷ g.values }
data_from k (Some v ∷ l) =
    let g = data_from (suc k) l in
    record { present = insert_of g.present k; values = (v.portions + 65536 * v.diet) ∷ g.values }

rows_from : List (List Entry) → List GlobalData
rows_from [] = []
rows_from (l ∷ ls) = data_from 0 l ∷ rows_from ls

-- `received`: m in this round, and nothing in the k rounds before
word : ℕ → ℕ → List ℕ
word zero m = m ∷ []
word (suc k) m = 0 ∷ word k m

one_less : ℕ → ℕ
one_less zero = zero
one_less (suc k) = k

process_of_site : Start → Process
process_of_site s =
    record {
      round = s.round;
      decided = 0;
      previous = s.previous;
      current = s.current;
      suspected = s.suspected;
      outbox = 0;
      estimate = data_from 0 s.estimate;
      received = word (one_less s.round) s.arrived;
    }

same_bool : Bool → Bool → Bool
same_bool true b = b
same_bool false true = false
same_bool false false = true

-- the entries from entry k are the listed ones
shows : ℕ → GlobalData → List Entry → Bool
shows k g [] = true
shows k g (e ∷ l) = same_entry (entry_of g k) e and shows (suc k) g l

pub passes : Case → Bool
passes c =
    let rows = rows_of (rows_from c.rows) in
    let p = close_of c.n c.t c.a rows (process_of_site c.start) in
    let e = c.end in
    same (closing_number (Some (closing_of c.n c.t c.a rows (process_of_site c.start)))) (closing_number (Some e.closing))
    and (same_bool (has_decided p) (not (opens_next e.closing))
    and (same p.round e.round
    and (same p.previous e.previous
    and (same p.current e.current and (same p.outbox e.outbox and shows 0 p.estimate e.estimate)))))

pub all_pass : List Case → Bool
all_pass [] = true
all_pass (c ∷ l) = passes c and all_pass l

-- ---- the table
-- all sets and all estimates agree: it decides, and owes the decision to the other. Early it is by the agreement;
-- with t 0 the round is the last one as well, and that is the answer
agreement : ℕ → Closing → Case
agreement t c =
    record {
      n = 2;
      t = t;
      a = 0;
      start = from 1 3 3 0 2 (entry_with 5 1 ∷ entry_with 6 0 ∷ []);
      rows = [] ∷ (entry_with 5 1 ∷ entry_with 6 0 ∷ []) ∷ [];
      end = to c 1 3 3 2 (entry_with 5 1 ∷ entry_with 6 0 ∷ []);
    }

-- the sets agree and the arrived row is the new estimate, but its own old one was another: no decision
own_old : Case
own_old =
    record {
      n = 2;
      t = 1;
      a = 0;
      start = from 1 3 3 0 2 (entry_with 5 1 ∷ None ∷ []);
      rows = [] ∷ (entry_with 5 1 ∷ entry_with 6 0 ∷ []) ∷ [];
      end = to NextRound 2 3 3 2 (entry_with 5 1 ∷ entry_with 6 0 ∷ []);
    }

-- an estimate arrived and its sender is suspected since: it is in the next set, and fills
suspected_sender : Case
suspected_sender =
    record {
      n = 2;
      t = 1;
      a = 0;
      start = from 1 3 3 2 2 (entry_with 5 1 ∷ None ∷ []);
      rows = [] ∷ (None ∷ entry_with 6 0 ∷ []) ∷ [];
      end = to NextRound 2 3 3 2 (entry_with 5 1 ∷ entry_with 6 0 ∷ []);
    }

-- equal estimates, with previous and next differing: no decision
sets_differ : Case
sets_differ =
    record {
      n = 3;
      t = 2;
      a = 0;
      start = from 2 7 3 4 2 (entry_with 5 1 ∷ entry_with 6 0 ∷ None ∷ []);
      rows = [] ∷ (entry_with 5 1 ∷ entry_with 6 0 ∷ None ∷ []) ∷ [] ∷ [];
      end = to NextRound 3 3 3 2 (entry_with 5 1 ∷ entry_with 6 0 ∷ None ∷ []);
    }

-- the sets agree, but in one entry its own estimate and the arrived row differ, in the diet portions alone or in the
-- portions alone: no decision, and its own entry stays
values_differ : Entry → Case
values_differ arrived =
    record {
      n = 2;
      t = 1;
      a = 0;
      start = from 1 3 3 0 2 (entry_with 5 1 ∷ entry_with 6 0 ∷ []);
      rows = [] ∷ (entry_with 5 1 ∷ arrived ∷ []) ∷ [];
      end = to NextRound 2 3 3 2 (entry_with 5 1 ∷ entry_with 6 0 ∷ []);
    }

-- the value 0 in one row and absent in another: these differ, so no decision, and the entry is 0 and present
zero_or_absent : List Entry → Case
zero_or_absent own =
    record {
      n = 3;
      t = 2;
      a = 0;
      start = from 1 7 7 0 6 own;
      rows =
          [] ∷ (entry_with 5 0 ∷ entry_with 0 0 ∷ entry_with 7 0 ∷ [])
          ∷ (entry_with 5 0 ∷ None ∷ entry_with 7 0 ∷ []) ∷ [];
      end = to NextRound 2 7 7 6 (entry_with 5 0 ∷ entry_with 0 0 ∷ entry_with 7 0 ∷ []);
    }

-- round t + 1 decides, though sets and estimates differ; the decision is not owed to a suspected process
last_round_case : Case
last_round_case =
    record {
      n = 3;
      t = 1;
      a = 0;
      start = from 2 7 3 4 2 (entry_with 5 1 ∷ None ∷ None ∷ []);
      rows = [] ∷ (None ∷ entry_with 6 0 ∷ None ∷ []) ∷ [] ∷ [];
      end = to LastRound 2 7 3 2 (entry_with 5 1 ∷ entry_with 6 0 ∷ None ∷ []);
    }

-- two rows show an entry that it lacks: the lowest-numbered one whose estimate arrived fills it
lowest : ℕ → ℕ → ℕ → Case
lowest arrived next v =
    record {
      n = 3;
      t = 2;
      a = 2;
      start = from 1 7 7 0 arrived (None ∷ None ∷ entry_with 7 0 ∷ []);
      rows = (entry_with 8 0 ∷ None ∷ None ∷ []) ∷ (entry_with 9 0 ∷ None ∷ None ∷ []) ∷ [] ∷ [];
      end = to NextRound 2 7 (insert_of next 2) next (entry_with v 0 ∷ None ∷ entry_with 7 0 ∷ []);
    }

pub table : List Case
table =
    agreement 1 Agreed ∷ agreement 0 LastRound ∷ own_old ∷ suspected_sender ∷ sets_differ
    ∷ values_differ (entry_with 6 2) ∷ values_differ (entry_with 7 0)
    ∷ zero_or_absent (entry_with 5 0 ∷ entry_with 0 0 ∷ entry_with 7 0 ∷ [])
    ∷ zero_or_absent (entry_with 5 0 ∷ None ∷ entry_with 7 0 ∷ []) ∷ last_round_case
    ∷ lowest 3 3 8 ∷ lowest 2 2 9 ∷ []

-- every case passes: the checker computes it from the definitions
pub cases_hold : all_pass table ≡ true
unfolding data_from rows_from word one_less process_of_site same_bool shows passes all_pass agreement own_old suspected_sender
    sets_differ values_differ zero_or_absent last_round_case lowest table
    has insert_of remove_of union_of intersection_of difference_of all_of ◌and◌ ◌or◌ same select every each
    portions_of diet_of entry_of same_entry filled_word fill_of fill_from same_to all_same
    has_decided open_round_of arrived_of next_of peers_of filled_of agreed_of closing_of closing_number opens_next decides_of
    owed_of decide_of advance_of close_of
cases_hold = refl
