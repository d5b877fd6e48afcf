-- The invariants that every other proof leans on: how the rounds, the sets and the wire of one view hang together.
use Rattle.std.specs.Prelude.{◌≡◌, ◌≢◌, true, false, ℕ, suc, ◌≤◌, ◌<◌}
use Rattle.sets.specs.Lists.{count_to}
use Rattle.agreement.specs.View.View.{View}

pub record Basic (n t : ℕ) (s : View) : Type 0 where
  -- only processes below n take part
  pub low : (x : ℕ) → 1 ≤ s.round x → x < n
  -- how many estimates there are: as many as rounds were opened, and one more where x decided at a close
  pub closed_lo : (x : ℕ) → s.round x ≤ s.closed x
  pub closed_hi : (x : ℕ) → s.closed x ≤ suc (s.round x)
  pub closed_is : (x : ℕ) → s.decided x ≡ false → s.closed x ≡ s.round x
  pub bound : (x : ℕ) → s.round x ≤ suc t
  pub decided_started : (x : ℕ) → s.decided x ≡ true → 1 ≤ s.round x
  -- the estimate of an undecided process is the last one it closed with (E4)
  pub estimate_is : (x q : ℕ) → s.decided x ≡ false → s.round x ≡ suc q → (k : ℕ) → s.estimate x k ≡ s.row x q k
  pub value_is : (x q : ℕ) → s.decided x ≡ false → s.round x ≡ suc q → (k : ℕ) → s.value x k ≡ s.entry x q k
  -- members are processes
  pub previous_low : (a y : ℕ) → s.previous a y ≡ true → y < n
  pub current_low : (a y : ℕ) → s.current a y ≡ true → y < n
  pub outbox_low : (a y : ℕ) → s.outbox a y ≡ true → y < n
  pub outbox_other : (a y : ℕ) → s.outbox a y ≡ true → y ≢ a
  pub outbox_started : (a y : ℕ) → s.outbox a y ≡ true → 1 ≤ s.round a
  -- the wire (W1, W4)
  pub transit_low : (a r y : ℕ) → s.transit a r y ≡ true → y < n
  pub transit_other : (a r y : ℕ) → s.transit a r y ≡ true → y ≢ a
  pub transit_round : (a r y : ℕ) → s.transit a r y ≡ true → r ≤ s.round a
  pub transit_decided : (a y : ℕ) → s.transit a 0 y ≡ true → s.decided a ≡ true
  pub received_low : (x r y : ℕ) → s.received x r y ≡ true → y < n
  pub received_other : (x r y : ℕ) → s.received x r y ≡ true → y ≢ x
  pub received_first : (x r y : ℕ) → s.received x r y ≡ true → 1 ≤ r
  pub received_round : (x r y : ℕ) → s.received x r y ≡ true → r ≤ s.round y
  -- the sets (S1, S2, S4, F1)
  pub suspected_crashed : (a x : ℕ) → s.suspected a x ≡ true → s.crashed x ≡ true
  pub suspected_other : (a x : ℕ) → s.suspected a x ≡ true → x ≢ a
  pub crashed_low : (x : ℕ) → s.crashed x ≡ true → x < n
  pub self : (a : ℕ) → 1 ≤ s.round a → s.current a a ≡ true
  pub outside : (a x : ℕ) → x < n → 1 ≤ s.round a → s.current a x ≡ false → s.suspected a x ≡ true
  pub nested : (a x : ℕ) → 1 ≤ s.round a → s.current a x ≡ true → s.previous a x ≡ true
  pub few : count_to n s.crashed ≤ t
  -- synchrony (R1): nobody is more than a round ahead of a running process
  pub sync : (a b : ℕ) → b < n → s.crashed b ≡ false → s.closed a ≤ suc (s.round b)
