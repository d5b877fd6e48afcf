-- The bound on records: a measure of the view that every accepted record raises, and that has a bound. Starts,
-- closes and decisions raise a process's rank, crashes and suspicions are counted, and each message goes on by stages:
-- it may still be sent (0), it is in transit (1), it is over (2: it arrived, or it was not sent and never will be).
use Rattle.std.specs.Prelude.{◌≡◌, refl, ◌≢◌, ◌⊎◌, Bool}
use Rattle.std.proofs.Common.{sym, ◌∙◌, mul-add, add-mul, mul_comm, mul_assoc, mul_left_comm, mul-le-mul_left, sub-add_cancel}
use Rattle.std.proofs.Math.Path.{ap}
use Rattle.std.proofs.Math.Logic.{inl, inr}
use Rattle.std.proofs.Math.Bool.{true, false, not}
use Prim.Native.Nat.{ℕ, zero, suc, ◌+◌, ◌*◌, ◌-◌, ◌≤◌, ◌<◌}
use Rattle.std.proofs.Math.Numerals.{add-two}
use native.Mathlib.Omega.{arith}
use Rattle.sets.specs.Truth.{◌and◌, ◌or◌, same, less, select, bit}
use Rattle.sets.specs.TruthLaws.{Is, is, on, off, clash, off_by, select_on, select_off, and_first}
use Rattle.sets.specs.TruthLaws.{and_second, and_mk, and_off_r, or_cases, or_mk_l, or_mk_r, not_on}
use Rattle.sets.specs.TruthLaws.{same_on, same_refl, same_mk, same_off, less_on, less_mk, eq-or}
use Rattle.sets.specs.Lists.{count_to, sum_to}
use Rattle.agreement.specs.View.View.{View, same3, slot, taken, Others, Calm, SameDecision, Start}
use Rattle.agreement.specs.View.View.{Send, Arrive, Adopt, Close, OneStep, starts, sends, keeps}
use Rattle.agreement.specs.View.View.{adopts, ignores, opens, decides, crashes, suspects, Opened}
use Rattle.agreement.specs.View.Basic.{Basic}
use Rattle.sets.specs.SumLaws.{sum_le, sum_lt, sum_surplus, sum_same, sum_bound, sum_both, count_sum}
use Rattle.sets.specs.CountLaws.{bit_le, bit_mono, count_mono, count_more}

-- how far process a is
unfoldable pub rank : View → ℕ → ℕ
rank s a = s.round a + bit (s.decided a)

-- a may still send its message r (0: its decision) to b: it has not come to it yet, or it still owes it
unfoldable pub may : View → ℕ → ℕ → ℕ → Bool
may s a zero b = not (s.decided a) or s.outbox a b
may s a (suc q) b = not (s.decided a) and (less (s.round a) (suc q) or (same (s.round a) (suc q) and s.outbox a b))

-- how far a message is, given whether it is in transit and whether it may still be sent
unfoldable pub stage_by : Bool → Bool → ℕ
stage_by p m = select p 1 (select m 0 2)

unfoldable pub stage : View → ℕ → ℕ → ℕ → ℕ
stage s a r b = stage_by (s.transit a r b) (may s a r b)

-- the stages of all messages from a to b
unfoldable pub pair : ℕ → View → ℕ → ℕ → ℕ
pair t s a b = select (same b a) 0 (sum_to (suc (suc t)) (λ r. stage s a r b))

unfoldable pub messages : ℕ → ℕ → View → ℕ
messages n t s = sum_to n (λ a. sum_to n (pair t s a))

unfoldable pub suspicions : ℕ → View → ℕ
suspicions n s = sum_to n (λ a. count_to n (s.suspected a))

-- the measure
unfoldable pub work : ℕ → ℕ → View → ℕ
work n t s = sum_to n (rank s) + (count_to n s.crashed + (suspicions n s + messages n t s))

-- a message in transit may not be sent again
pub record Once (n t : ℕ) (s : View) : Type 0 where
  pub over : (a r b : ℕ) → s.transit a r b ≡ true → may s a r b ≡ false

-- ---- what may still be sent

module _ (s : View) (a b : ℕ) where
  may-zero : may s a 0 b ≡ true → (s.decided a ≡ false) ⊎ (s.outbox a b ≡ true)
  unfolding may
  may-zero e = go (or_cases _ _ e)
    where
      go : (not (s.decided a) ≡ true) ⊎ (s.outbox a b ≡ true) → (s.decided a ≡ false) ⊎ (s.outbox a b ≡ true)
      go (inl h) = inl (not_on _ h)
      go (inr h) = inr h

  may-zero_mk : (s.decided a ≡ false) ⊎ (s.outbox a b ≡ true) → may s a 0 b ≡ true
  unfolding may
  may-zero_mk (inl h) = or_mk_l _ _ (ap not h)
  may-zero_mk (inr h) = or_mk_r _ _ h

  -- a has not come to round r yet, or it is there and owes b its estimate
  abbrev Unsent : ℕ → Type 0
  Unsent r = (s.decided a ≡ false) × ((s.round a < r) ⊎ ((s.round a ≡ r) × (s.outbox a b ≡ true)))

  may-suc : (q : ℕ) → may s a (suc q) b ≡ true → Unsent (suc q)
  unfolding may
  may-suc q e = (not_on _ (and_first _ _ e), go (or_cases _ _ (and_second _ _ e)))
    where
      go : (less (s.round a) (suc q) ≡ true) ⊎ ((same (s.round a) (suc q) and s.outbox a b) ≡ true)
          → (s.round a < suc q) ⊎ ((s.round a ≡ suc q) × (s.outbox a b ≡ true))
      go (inl h) = inl (less_on _ _ h)
      go (inr h) = inr (same_on _ _ (and_first _ _ h), and_second _ _ h)

  may-suc_mk : (q : ℕ) → Unsent (suc q) → may s a (suc q) b ≡ true
  unfolding may
  may-suc_mk q h = and_mk _ _ (ap not h.0) (go h.1)
    where
      go : (s.round a < suc q) ⊎ ((s.round a ≡ suc q) × (s.outbox a b ≡ true))
          → (less (s.round a) (suc q) or (same (s.round a) (suc q) and s.outbox a b)) ≡ true
      go (inl h) = or_mk_l _ _ (less_mk _ _ h)
      go (inr h) = or_mk_r _ _ (and_mk _ _ (same_mk _ _ h.0) h.1)

-- ---- what a record does to one process: it rests, and may pay what it owes, or it goes on to
-- its next round or its decision

data Turn (s s' : View) (a : ℕ) : Type 0 where
  rests : s'.decided a ≡ s.decided a → s'.round a ≡ s.round a
      → ((y : ℕ) → s'.outbox a y ≡ true → s.outbox a y ≡ true) → Turn s s' a
  moves : s.decided a ≡ false → rank s a < rank s' a → Turn s s' a

turn_rank : {s s' : View} {a : ℕ} → Turn s s' a → rank s a ≤ rank s' a
unfolding rank
turn_rank (rests d e o) = omega (arith, ap bit d)
turn_rank (moves d h) = omega arith

-- either way, what may be sent after the record could be sent before it
turn_may : {s s' : View} {a : ℕ} → Turn s s' a → (r b : ℕ) → may s' a r b ≡ true → may s a r b ≡ true
unfolding rank bit
turn_may {s} {s'} {a} (rests d e o) zero b h = may-zero_mk s a b (go (may-zero s' a b h))
  where
    go : (s'.decided a ≡ false) ⊎ (s'.outbox a b ≡ true) → (s.decided a ≡ false) ⊎ (s.outbox a b ≡ true)
    go (inl w) = inl (sym d ∙ w)
    go (inr w) = inr (o b w)
turn_may {s} {s'} {a} (rests d e o) (suc q) b h =
    let w = may-suc s' a b q h in
    may-suc_mk s a b q (sym d ∙ w.0, go w.1)
  where
    go : (s'.round a < suc q) ⊎ ((s'.round a ≡ suc q) × (s'.outbox a b ≡ true))
        → (s.round a < suc q) ⊎ ((s.round a ≡ suc q) × (s.outbox a b ≡ true))
    go (inl w) = inl (omega arith)
    go (inr w) = inr (omega arith, o b w.1)
turn_may {s} {s'} {a} (moves d up) zero b h = may-zero_mk s a b (inl d)
turn_may {s} {s'} {a} (moves d up) (suc q) b h =
    let w = may-suc s' a b q h in
    may-suc_mk s a b q (d, inl (go w.0 w.1))
  where
    ahead : s'.decided a ≡ false → s.round a < s'.round a
    ahead e = omega (arith, up, ap bit d, ap bit e)

    go : s'.decided a ≡ false → (s'.round a < suc q) ⊎ ((s'.round a ≡ suc q) × (s'.outbox a b ≡ true))
        → s.round a < suc q
    go e (inl w) = omega (arith, ahead e)
    go e (inr w) = omega (arith, ahead e)

-- ---- what a record does to the view: nothing goes back, and one thing rises

data Rise (n t : ℕ) (s s' : View) : Type 0 where
  by_rank : {x : ℕ} → x < n → rank s x < rank s' x → Rise n t s s'
  by_crash : {x : ℕ} → x < n → s.crashed x ≡ false → s'.crashed x ≡ true → Rise n t s s'
  by_suspicion : {x y : ℕ} → x < n → y < n → s.suspected x y ≡ false → s'.suspected x y ≡ true → Rise n t s s'
  by_sending : {x r y : ℕ} → x < n → y < n → y ≢ x → r ≤ suc t → may s x r y ≡ true → s'.transit x r y ≡ true
      → Rise n t s s'
  by_arrival : {x r y : ℕ} → x < n → y < n → y ≢ x → r ≤ suc t → s.transit x r y ≡ true → s'.transit x r y ≡ false
      → Rise n t s s'

-- a message that is in transit was so before, or it was sent now: it could be, and it can no more be
abbrev Sent : View → View → ℕ → ℕ → ℕ → Type 0
Sent s s' x r y = (s.transit x r y ≡ true) ⊎ ((may s x r y ≡ true) × (may s' x r y ≡ false))

record Advance (n t : ℕ) (s s' : View) : Type 0 where
  turn : (x : ℕ) → Turn s s' x
  crashed : (x : ℕ) → s.crashed x ≡ true → s'.crashed x ≡ true
  suspected : (x y : ℕ) → s.suspected x y ≡ true → s'.suspected x y ≡ true
  sent : (x r y : ℕ) → s'.transit x r y ≡ true → Sent s s' x r y
  rise : Rise n t s s'

-- ---- every accepted record does so

same3_refl : (x y z : ℕ) → same3 x y z x y z ≡ true
unfolding same3
same3_refl x y z = and_mk _ _ (same_refl x) (and_mk _ _ (same_refl y) (same_refl z))

module _ (n t : ℕ) (s s' : View) where
  -- nothing of another process than a changes, so it is enough to look at a
  advance_by : {a : ℕ} → Others s s' a → Turn s s' a
      → ((x : ℕ) → s.crashed x ≡ true → s'.crashed x ≡ true)
      → ((y : ℕ) → s.suspected a y ≡ true → s'.suspected a y ≡ true)
      → ((x r y : ℕ) → s'.transit x r y ≡ true → Sent s s' x r y)
      → Rise n t s s' → Advance n t s s'
  advance_by {a} O T c d m R = record {
    turn = λ x. turn x (eq-or x a);
    crashed = c;
    suspected = λ x y. suspected x y (eq-or x a);
    sent = m;
    rise = R;
  }
    where
      turn : (x : ℕ) → (x ≡ a) ⊎ (x ≢ a) → Turn s s' x
      turn x (inl e) = rw e T
      turn x (inr ne) = rests (O.decided x ne) (O.round x ne) (λ y h. sym (O.outbox x y ne) ∙ h)

      suspected : (x y : ℕ) → (x ≡ a) ⊎ (x ≢ a) → s.suspected x y ≡ true → s'.suspected x y ≡ true
      suspected x y (inl e) h = rw e (d y (rw e at h))
      suspected x y (inr ne) h = O.suspected x y ne ∙ h

  -- a record that leaves a's round, decision and outbox, and one that leaves the wire
  calm : {a : ℕ} → Calm s s' a → SameDecision s s' a → ((y : ℕ) → s'.outbox a y ≡ s.outbox a y) → Turn s s' a
  calm C D o = rests D.decided C.round (λ y h. sym (o y) ∙ h)

  still : ((x r y : ℕ) → s'.transit x r y ≡ s.transit x r y) → (x r y : ℕ) → s'.transit x r y ≡ true
      → Sent s s' x r y
  still e x r y h = inl (sym (e x r y) ∙ h)

  advance_start : {a v : ℕ} → Basic n t s → Start n s s' a v → Advance n t s s'
  unfolding rank
  advance_start {a} B S =
      advance_by S.others (moves undecided up) (λ x h. S.crashed x ∙ h) (λ y h. S.suspected y ∙ h)
      (still S.transit) (by_rank S.low up)
    where
      undecided : s.decided a ≡ false
      undecided = off_by _ (λ e. omega (arith, S.was, B.decided_started a e))

      up : rank s a < rank s' a
      up = omega (arith, S.was, S.round, ap bit S.decided)

  -- a close, with a next round or with a decision
  advance_close : {a q : ℕ} → Close n s s' a q → s'.round a + bit (s'.decided a) ≡ suc (suc q) → Advance n t s s'
  unfolding rank bit
  advance_close {a} C e =
      advance_by C.others (moves C.undecided up) (λ x h. C.crashed x ∙ h) (λ y h. C.suspected y ∙ h)
      (still C.transit) (by_rank C.low up)
    where
      up : rank s a < rank s' a
      up = omega (arith, C.is_at, ap bit C.undecided)

  -- message r of a to b could be sent, and it can no more be
  Owed : ℕ → ℕ → ℕ → Type 0
  Owed a r b = (r ≤ suc t) × (may s a r b ≡ true) × (may s' a r b ≡ false)

  -- so it is of the message that a sends: a decision of a decided process, an estimate of another, which has started
  owed_slot : {a b : ℕ} → Basic n t s → Send n s s' a b → Owed a (slot s a) b
  unfolding slot select Owed
  owed_slot {a} {b} B S = go (is (s.decided a))
    where
      paid : s'.outbox a b ≡ true → ⊥
      paid h = clash (s'.outbox a b) h (S.outbox b ∙ and_off_r _ _ (ap not (same_refl b)))

      decision : s.decided a ≡ true → Owed a 0 b
      decision d = (omega arith, may-zero_mk s a b (inr S.owed), off_by _ (λ h. over (may-zero s' a b h)))
        where
          over : (s'.decided a ≡ false) ⊎ (s'.outbox a b ≡ true) → ⊥
          over (inl e) = clash (s'.decided a) (S.decision.decided ∙ d) e
          over (inr e) = paid e

      estimate : (r : ℕ) → s.round a ≡ r → s.decided a ≡ false → Owed a r b
      estimate zero e d = absurd (omega (arith, B.outbox_started a b S.owed))
      estimate (suc q) e d = (
        omega (arith, B.bound a),
        may-suc_mk s a b q (d, inr (e, S.owed)),
        off_by _ (λ h. over (may-suc s' a b q h).1),
      )
        where
          over : (s'.round a < suc q) ⊎ ((s'.round a ≡ suc q) × (s'.outbox a b ≡ true)) → ⊥
          over (inl l) = omega (arith, S.calm.round)
          over (inr w) = paid w.1

      go : Is (s.decided a) → Owed a (slot s a) b
      go (on d) = rw d (decision d)
      go (off d) = rw d (estimate (s.round a) refl d)

  advance_send : {a b : ℕ} → Basic n t s → Send n s s' a b → Advance n t s s'
  unfolding Owed same3
  advance_send {a} {b} B S = advance_by S.others
      (rests S.decision.decided S.calm.round (λ y h. and_first _ _ (sym (S.outbox y) ∙ h)))
      (λ x h. S.crashed x ∙ h) (λ y h. S.suspected y ∙ h)
      (λ x r y h. sent x r y (or_cases _ _ (sym (S.transit x r y) ∙ h)))
      (by_sending S.low S.low_b (λ e. S.apart (sym e)) now.0 now.1
      (S.transit a (slot s a) b ∙ or_mk_l _ _ (same3_refl a (slot s a) b)))
    where
      now : Owed a (slot s a) b
      now = owed_slot B S

      sent : (x r y : ℕ) → (same3 x r y a (slot s a) b ≡ true) ⊎ (s.transit x r y ≡ true) → Sent s s' x r y
      sent x r y (inl h) = inr (rw (
        same_on x a (and_first _ _ h),
        same_on r (slot s a) (and_first _ _ (and_second _ _ h)),
        same_on y b (and_second _ _ (and_second _ _ h)),
      ) (now.1, now.2))
      sent x r y (inr h) = inl h

  -- an arrival, once b's turn is given
  advance_arrive : {a r b : ℕ} → Arrive n t s s' a r b → Turn s s' b → Advance n t s s'
  advance_arrive {a} {r} {b} A T =
      advance_by A.others T (λ x h. A.crashed x ∙ h) (λ y h. A.suspected y ∙ h)
      (λ x m y h. inl (and_first _ _ (sym (A.transit x m y) ∙ h)))
      (by_arrival A.low A.low_b (λ e. A.apart (sym e)) A.bound A.sent
      (A.transit a r b ∙ and_off_r _ _ (ap not (same3_refl a r b))))

  advance_adopt : {a r b : ℕ} → Adopt n t s s' a r b → Advance n t s s'
  unfolding rank bit taken
  advance_adopt {a} {r} {b} S =
      advance_arrive S.arrive
      (moves undecided (omega (arith, S.arrive.calm.round, ap bit undecided, ap bit S.decided)))
    where
      undecided : s.decided b ≡ false
      undecided = not_on _ (and_first _ _ (and_second _ _ S.taken_here))

  advance : Basic n t s → OneStep n t s s' → Advance n t s s'
  unfolding bit
  advance B (starts S) = advance_start B S
  advance B (sends S) = advance_send B S
  advance B (keeps S) = advance_arrive S.arrive (calm S.arrive.calm S.decision S.outbox)
  advance B (adopts S) = advance_adopt S
  advance B (ignores S) = advance_arrive S.arrive (calm S.arrive.calm S.decision S.outbox)
  advance B (opens S) = advance_close S.close (omega (arith, S.round, ap bit S.decided))
  advance B (decides S) = advance_close S.close (omega (arith, S.round, ap bit S.decided))
  advance B (crashes {a} S) =
      advance_by S.others (calm S.calm S.decision S.outbox) (λ x h. S.crashed x ∙ or_mk_r _ _ h)
      (λ y h. S.suspected y ∙ h)
      (still S.transit) (by_crash S.low S.running (S.crashed a ∙ or_mk_l _ _ (same_refl a)))
  advance B (suspects {a} {b} S) =
      advance_by S.others (calm S.calm S.decision S.outbox) (λ x h. S.crashed x ∙ h)
      (λ y h. S.suspected y ∙ or_mk_r _ _ h)
      (still S.transit) (by_suspicion S.low S.low_b S.fresh (S.suspected b ∙ or_mk_l _ _ (same_refl b)))

-- ---- a message is sent once

pub once_opened : {n t : ℕ} {s : View} → Opened s → Once n t s
once_opened {s} O = record { over = λ a r b h. clash (s.transit a r b) h (O.transit a r b) }

pub once_step : {n t : ℕ} {s s' : View} → Basic n t s → Once n t s → OneStep n t s s' → Once n t s'
once_step {n} {t} {s} {s'} B I S = record { over = λ a r b h. go a r b (A.sent a r b h) }
  where
    A : Advance n t s s'
    A = advance n t s s' B S

    go : (a r b : ℕ) → Sent s s' a r b → may s' a r b ≡ false
    go a r b (inl h) = off_by _ (λ m. clash (may s a r b) (turn_may (A.turn a) r b m) (I.over a r b h))
    go a r b (inr h) = h.1

-- ---- every accepted record raises the measure

level_le : (p m : Bool) → stage_by p m ≤ 2
unfolding stage_by select
level_le true m = omega arith
level_le false true = omega arith
level_le false false = omega arith

-- a message's stage never falls, and it rises where the message comes into transit or leaves it
level_up : (p m p' m' : Bool) → (p ≡ true → m ≡ false) → (m' ≡ true → m ≡ true) → (p' ≡ true → (p ≡ true) ⊎ (m ≡ true))
    → (stage_by p m ≤ stage_by p' m') × (p ≢ p' → stage_by p m < stage_by p' m')
unfolding stage_by select
level_up true m true m' once spent sent = (omega arith, λ ne. absurd (ne refl))
level_up true m false true once spent sent = clash m (spent refl) (once refl)
level_up true m false false once spent sent = (omega arith, λ ne. omega arith)
level_up false true true m' once spent sent = (omega arith, λ ne. omega arith)
level_up false true false m' once spent sent = (omega arith, λ ne. absurd (ne refl))
level_up false false true m' once spent sent = go (sent refl)
  where
    go : {A : Type 0} → (false ≡ true) ⊎ (false ≡ true) → A
    go (inl e) = clash false e refl
    go (inr e) = clash false e refl
level_up false false false true once spent sent = clash false (spent refl) refl
level_up false false false false once spent sent = (omega arith, λ ne. absurd (ne refl))

pair_there : (t : ℕ) (s : View) (a b : ℕ) → b ≢ a → pair t s a b ≡ sum_to (suc (suc t)) (λ r. stage s a r b)
unfolding pair
pair_there t s a b ne = select_off _ _ _ (same_off b a ne)

module _ (n t : ℕ) (s s' : View) (I : Once n t s) (A : Advance n t s s') where
  stage_up : (a r b : ℕ)
      → (stage s a r b ≤ stage s' a r b) × (s.transit a r b ≢ s'.transit a r b → stage s a r b < stage s' a r b)
  unfolding stage
  stage_up a r b = level_up _ _ _ _ (I.over a r b) (turn_may (A.turn a) r b) (λ h. go (A.sent a r b h))
    where
      go : Sent s s' a r b → (s.transit a r b ≡ true) ⊎ (may s a r b ≡ true)
      go (inl h) = inl h
      go (inr h) = inr h.0

  pair-le : (a b : ℕ) → pair t s a b ≤ pair t s' a b
  unfolding pair select
  pair-le a b =
      go (same b a) (sum_le (suc (suc t)) (λ r. stage s a r b) (λ r. stage s' a r b) (λ r l. (stage_up a r b).0))
    where
      go : {x y : ℕ} (c : Bool) → x ≤ y → select c 0 x ≤ select c 0 y
      go true h = omega arith
      go false h = h

  pair_lt : (a r b : ℕ) → b ≢ a → r ≤ suc t → s.transit a r b ≢ s'.transit a r b → pair t s a b < pair t s' a b
  pair_lt a r b ne l h = omega (
    arith,
    pair_there t s a b ne,
    pair_there t s' a b ne,
    sum_lt (suc (suc t)) r (λ r. stage s a r b) (λ r. stage s' a r b) (omega arith) ((stage_up a r b).1 h)
        (λ r l. (stage_up a r b).0),
  )

  row_le : (a : ℕ) → sum_to n (pair t s a) ≤ sum_to n (pair t s' a)
  row_le a = sum_le n (pair t s a) (pair t s' a) (λ b l. pair-le a b)

  messages-le : messages n t s ≤ messages n t s'
  unfolding messages
  messages-le = sum_le n (λ a. sum_to n (pair t s a)) (λ a. sum_to n (pair t s' a)) (λ a l. row_le a)

  messages-lt : (a r b : ℕ) → a < n → b < n → b ≢ a → r ≤ suc t → s.transit a r b ≢ s'.transit a r b
      → suc (messages n t s) ≤ messages n t s'
  unfolding messages
  messages-lt a r b p q ne l h =
      sum_lt n a (λ a. sum_to n (pair t s a)) (λ a. sum_to n (pair t s' a)) p here (λ x d. row_le x)
    where
      here : sum_to n (pair t s a) < sum_to n (pair t s' a)
      here = sum_lt n b (pair t s a) (pair t s' a) q (pair_lt a r b ne l h) (λ y d. pair-le a y)

  ranks_le : sum_to n (rank s) ≤ sum_to n (rank s')
  ranks_le = sum_le n (rank s) (rank s') (λ x l. turn_rank (A.turn x))

  crashed_le : count_to n s.crashed ≤ count_to n s'.crashed
  crashed_le = count_mono n s.crashed s'.crashed (λ x d. A.crashed x)

  suspected_le : (a : ℕ) → count_to n (s.suspected a) ≤ count_to n (s'.suspected a)
  suspected_le a = count_mono n (s.suspected a) (s'.suspected a) (λ x d. A.suspected a x)

  suspicions-le : suspicions n s ≤ suspicions n s'
  unfolding suspicions
  suspicions-le = sum_le n (λ a. count_to n (s.suspected a)) (λ a. count_to n (s'.suspected a)) (λ a l. suspected_le a)

  suspicions-lt : (a b : ℕ) → a < n → b < n → s.suspected a b ≡ false → s'.suspected a b ≡ true
      → suc (suspicions n s) ≤ suspicions n s'
  unfolding suspicions
  suspicions-lt a b p q e e' =
      sum_lt n a (λ a. count_to n (s.suspected a)) (λ a. count_to n (s'.suspected a)) p here (λ x l. suspected_le x)
    where
      here : count_to n (s.suspected a) < count_to n (s'.suspected a)
      here = count_more n (s.suspected a) (s'.suspected a) b (λ x d. A.suspected a x) q e e'

  -- no part falls, and one rises
  work_up : Rise n t s s' → suc (work n t s) ≤ work n t s'
  unfolding work
  work_up (by_rank {x} l h) =
      omega
      (arith, sum_lt n x (rank s) (rank s') l h (λ y d. turn_rank (A.turn y)), crashed_le, suspicions-le, messages-le)
  work_up (by_crash {x} l e e') = omega (
    arith,
    ranks_le,
    count_more n s.crashed s'.crashed x (λ y d. A.crashed y) l e e',
    suspicions-le,
    messages-le,
  )
  work_up (by_suspicion {x} {y} l k e e') =
      omega (arith, ranks_le, crashed_le, suspicions-lt x y l k e e', messages-le)
  work_up (by_sending {x} {r} {y} l k ne d e e') =
      omega (
        arith,
        ranks_le,
        crashed_le,
        suspicions-le,
        messages-lt x r y l k ne d (λ h. clash (may s x r y) e (I.over x r y (h ∙ e'))),
      )
  work_up (by_arrival {x} {r} {y} l k ne d e e') =
      omega (
        arith,
        ranks_le,
        crashed_le,
        suspicions-le,
        messages-lt x r y l k ne d (λ h. clash (s.transit x r y) e (h ∙ e')),
      )

-- every accepted record raises the measure
pub work_step : {n t : ℕ} {s s' : View} → Basic n t s → Once n t s → OneStep n t s s' → suc (work n t s) ≤ work n t s'
work_step {n} {t} {s} {s'} B I S = let A = advance n t s s' B S in work_up n t s s' I A A.rise

-- ---- it begins at 0 and has a bound

-- n * (n - 1) pairs, with t + 2 messages each
messages_bound : (n t c : ℕ) (s : View) → ((a r b : ℕ) → stage s a r b ≤ c)
    → messages n t s ≤ n * ((n - 1) * (suc (suc t) * c))
unfolding messages pair
messages_bound n t c s h = sum_bound n ((n - 1) * K) (λ a. sum_to n (pair t s a)) from
  where
    K : ℕ
    K = suc (suc t) * c

    here : (a : ℕ) → pair t s a a ≡ 0
    here a = select_on _ _ _ (same_refl a)

    there : (a b : ℕ) → b ≢ a → pair t s a b ≤ K
    there a b ne =
        omega (arith, pair_there t s a b ne, sum_bound (suc (suc t)) c (λ r. stage s a r b) (λ r l. h a r b))

    from : (a : ℕ) → a < n → sum_to n (pair t s a) ≤ (n - 1) * K
    from a l = omega (
      arith,
      sum_surplus n K a (pair t s a) (λ b. K) l (omega (arith, here a)) (λ b d ne. there a b ne),
      sum_same n K,
      add-mul (n - 1) 1 K,
      ap (λ m. m * K) (sub-add_cancel {n = n} {m = 1} (omega arith)),
    )

-- those that a suspects have crashed, and a is not among them: so with the crashes there are at most n for each crash
suspicions_bound : {n t : ℕ} {s : View} → Basic n t s
    → suspicions n s + count_to n s.crashed ≤ n * count_to n s.crashed
unfolding suspicions bit
suspicions_bound {n} {t} {s} B = omega (
  arith,
  sum_both n (λ a. count_to n (s.suspected a)) (λ a. bit (s.crashed a)),
  count_sum n s.crashed,
  sum_bound n (count_to n s.crashed) (λ a. count_to n (s.suspected a) + bit (s.crashed a)) by,
)
  where
    none : (a : ℕ) → s.suspected a a ≡ false
    none a = off_by _ (λ h. B.suspected_other a a h refl)

    by : (a : ℕ) → a < n → count_to n (s.suspected a) + bit (s.crashed a) ≤ count_to n s.crashed
    by a l = omega (
      arith,
      count_sum n (s.suspected a),
      count_sum n s.crashed,
      sum_surplus n (bit (s.crashed a)) a (λ x. bit (s.suspected a x)) (λ x. bit (s.crashed x)) l
          (omega (arith, ap bit (none a)))
          (λ x d ne. bit_mono _ _ (B.suspected_crashed a x)),
    )

regroup : (n m k : ℕ) → n * (m * (k * 2)) ≡ 2 * n * m * k
regroup n m k =
    rw (mul_comm k 2, mul_left_comm m 2 k, mul_left_comm n 2 (m * k), mul_assoc (2 * n) m k, mul_assoc 2 n (m * k))

-- ranks: n * (t + 2). Crashes and suspicions: n * t. Messages: 2 for each.
pub work_bound : {n t : ℕ} {s : View} → Basic n t s → work n t s ≤ 2 * n * (t + 1) + 2 * n * (n - 1) * (t + 2)
unfolding work rank stage
work_bound {n} {t} {s} B = rw (sym (regroup n (n - 1) (t + 2)), add-two) (omega (
  arith,
  sum_bound n (t + 2) (rank s) (λ x l. omega (arith, B.bound x, bit_le (s.decided x))),
  suspicions_bound B,
  mul-le-mul_left n B.few,
  messages_bound n t 2 s (λ a r b. level_le _ _),
  mul-add n t 2,
  mul-add n t 1,
  mul_assoc 2 n (t + 1),
))
