-- Records (document 01): 8 bytes, kind, a, b, r, then value, low byte first; and refusals 3, 4, 5 and 15.
use Rattle.std.specs.Prelude.{List, Bool, true, not, ℕ, ◌+◌, ◌-◌, ◌*◌, get_or, length, Result, Ok, Err, Some}
use Rattle.sets.specs.Truth.{◌and◌, ◌or◌, same, less, one_to, select}
use Rattle.global_data.specs.GlobalData.{value_in, diet_fits}
use Rattle.refusal.specs.declared.Refusal.{Refusal}
use Rattle.refusal.specs.declared.Refusal.TheVariants.{Length, Kind, Field, Diet}
use Rattle.bench.specs.declared.Message.{Message}
use Rattle.bench.specs.declared.Message.TheVariants.{Estimate, Decision}
use Rattle.bench.specs.declared.Event.{Event}
use Rattle.bench.specs.declared.Event.TheVariants.{Start, Send, Arrive, Close, Crash, Suspect}

-- four bytes, the low one first: of a value the portions, then the diet portions (request C-15)
unfoldable pub word_of : ℕ → ℕ → ℕ → ℕ → ℕ
word_of a b c d = a + b * 256 + c * 65536 + d * 16777216

-- the kinds that use b
unfoldable pub uses_b : ℕ → Bool
uses_b kind = same kind 2 or (same kind 3 or same kind 6)

-- refusal 5: every kind uses a, the kinds 2, 3 and 6 use b, 3 uses r, and 1 the value. A used process is 1 to n, a and
-- b differ, r is at most t + 1, and an unused field is 0
unfoldable pub fields : ℕ → ℕ → ℕ → ℕ → ℕ → ℕ → ℕ → Bool
fields n t kind a b r v =
    one_to n a
    and (select (uses_b kind) (one_to n b and not (same a b)) (same b 0)
    and (select (same kind 3) (less r (t + 2)) (same r 0) and (same kind 1 or same v 0)))

-- r of kind 3: 0 the decision, else the estimate of that round
unfoldable pub message_from : ℕ → Message
message_from r = select (same r 0) Decision (Estimate r)

-- what a record of a kind 1 to 6 means; processes are counted from 0 from here on
unfoldable pub event_of : ℕ → ℕ → ℕ → ℕ → ℕ → Event
event_of kind a b r v =
    select (same kind 1) (Start a v)
    (select (same kind 2) (Send a b)
    (select (same kind 3) (Arrive a b (message_from r))
    (select (same kind 4) (Close a) (select (same kind 5) (Crash a) (Suspect a b)))))

-- kind, a, b, r and value of a record: refusal 4, then 5, else the event
unfoldable pub parts_of : ℕ → ℕ → ℕ → ℕ → ℕ → ℕ → ℕ → Result Event Refusal
parts_of n t kind a b r v =
    select (one_to 6 kind)
    (select (fields n t kind a b r v) (Ok (event_of kind (a - 1) (b - 1) r v)) (Err Field)) (Err Kind)

-- the value of a record's last four bytes
unfoldable pub value_of : List ℕ → ℕ
value_of l = word_of (get_or l 4 0) (get_or l 5 0) (get_or l 6 0) (get_or l 7 0)

-- a record of a kind
unfoldable pub is_kind : ℕ → List ℕ → Bool
is_kind kind l = same (length l) 8 and same (get_or l 0 0) kind

-- any bytes: refusal 3, else by their parts
unfoldable pub read_of : ℕ → ℕ → List ℕ → Result Event Refusal
read_of n t l =
    select (same (length l) 8) (parts_of n t (get_or l 0 0) (get_or l 1 0) (get_or l 2 0) (get_or l 3 0) (value_of l))
    (Err Length)

-- ---- one of four, by an event's kind: of a start, by its process and value; of a close, by its process; of a crash;
-- or of another
abbrev pub by_kind : {A : Type 0} → (ℕ → ℕ → A) → (ℕ → A) → A → A → Event → A
by_kind start close crash other (Start a v) = start a v
by_kind start close crash other (Send a b) = other
by_kind start close crash other (Arrive a b m) = other
by_kind start close crash other (Close a) = close a
by_kind start close crash other (Crash a) = crash
by_kind start close crash other (Suspect a b) = other

-- the diet portions of a start do not exceed its portions; no other record has any
unfoldable pub start_fits : Event → Bool
start_fits e = by_kind (λ a v. diet_fits (Some (value_in v))) (λ a. true) true true e

-- refusal 15 (request C-15), after 3, 4 and 5
unfoldable pub check_diet : Result Event Refusal → Result Event Refusal
check_diet (Ok e) = select (start_fits e) (Ok e) (Err Diet)
check_diet (Err r) = Err r

-- what some bytes are to a bench of n processes and crash limit t: refused by 3, 4, 5 or 15, or an event
unfoldable pub decode_of : ℕ → ℕ → List ℕ → Result Event Refusal
decode_of n t l = check_diet (read_of n t l)

-- ---- the form by whose rules a call goes (request C-17): v1 before request C-15, when a value was one number; v2
-- since. They differ in refusal 15 alone: the same events come to the same (OldRulesLaws)
pub data Form : Type 0 where
  v1 : Form
  v2 : Form

unfoldable pub decode_as : Form → ℕ → ℕ → List ℕ → Result Event Refusal
decode_as v1 n t l = read_of n t l
decode_as v2 n t l = decode_of n t l
