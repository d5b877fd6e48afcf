-- What the list in transit means (request C-13): the messages that it names, and their order. Definitions alone; that
-- the bytes of `transit_bytes` are such a list is in TransitOrderLaws.antt.
use Rattle.std.specs.Prelude.{◌≡◌, ◌↔◌, true, ℕ, ◌+◌, ◌-◌, ◌≤◌, ◌<◌}
use mathlib.Core.List.{List, [], ◌∷◌, ◌++◌, Pairwise}
use mathlib.Core.List.{Memᴰ as In}
use Rattle.sets.specs.Set.{has}
use Rattle.sets.specs.Truth.{one_to}
use Rattle.bench.specs.declared.Bench.{Bench}
use Rattle.bench.specs.State.{transit_at}

-- a message as the list names it: processes by their numbers from 1, and 0 for the round of a decision
pub record ListedMessage : Type 0 where
  pub sender : ℕ
  pub receiver : ℕ
  pub round : ℕ

-- (a, b, r) of the papers
unfoldable pub listed : ℕ → ℕ → ℕ → ListedMessage
listed a b r = record { sender = a; receiver = b; round = r }

-- three bytes each
unfoldable pub bytes_of : List ListedMessage → List ℕ
bytes_of [] = []
bytes_of (m ∷ l) = m.sender ∷ m.receiver ∷ m.round ∷ bytes_of l

-- the order of the list: by round, decisions first as round 0, then by sender, then by receiver
pub data Before (x y : ListedMessage) : Type 0 where
  by_round : x.round < y.round → Before x y
  by_sender : x.round ≡ y.round → x.sender < y.sender → Before x y
  by_receiver : x.round ≡ y.round → x.sender ≡ y.sender → x.receiver < y.receiver → Before x y

-- the message is in transit (document 01: in flight): its receiver is in the set of message r of its sender
pub record InTransit (s : Bench) (m : ListedMessage) : Type 0 where
  pub from : one_to s.n m.sender ≡ true
  pub to : one_to s.n m.receiver ≡ true
  pub round : m.round ≤ s.t + 1
  pub sent : has (transit_at s (m.sender - 1) m.round) (m.receiver - 1) ≡ true

-- these bytes are a strictly rising list of the messages of which P holds, and of no others
pub record Lists (P : ListedMessage → Type 0) (bytes : List ℕ) : Type 0 where
  pub messages : List ListedMessage
  pub spelt : bytes ≡ bytes_of messages
  pub rising : Pairwise Before messages
  pub exact : (m : ListedMessage) → In m messages ↔ P m

-- two such lists, read from the top: both begin with `above`, and then the first has a message that the second lacks,
-- which is the lesser one where both go on
pub record Extra (P Q : ListedMessage → Type 0) (first second : List ℕ) : Type 0 where
  pub above : List ListedMessage
  pub message : ListedMessage
  pub rest : List ListedMessage
  pub other : List ListedMessage
  pub first_is : first ≡ bytes_of (above ++ (message ∷ rest))
  pub second_is : second ≡ bytes_of (above ++ other)
  pub lesser : (y : ListedMessage) (l : List ListedMessage) → other ≡ y ∷ l → Before message y
  pub in_first : P message
  pub not_in_second : Q message → ⊥
