-- The opened bench has the basic invariants, and every accepted record keeps them. They are split into what is said of
-- one process's own part, which only its own records change, and what links two processes, which follows since rounds,
-- decisions and crashes only grow.
use Rattle.std.specs.Prelude.{◌≡◌, refl, ◌≢◌, ◌⊎◌, true, false, not, ℕ, suc, ◌≤◌, ◌<◌}
use Rattle.std.proofs.Common.{sym, ap, ◌∙◌, inl, inr, arith}
use Rattle.sets.specs.Truth.{same, less}
use Rattle.sets.specs.TruthLaws.{clash, off_by, and_first, and_second, and_mk, and_cases}
use Rattle.sets.specs.TruthLaws.{not_on, not_off, same_mk, less_on, less_mk}
use Rattle.sets.specs.Lists.{count_to}
use Rattle.sets.specs.CountLaws.{count_none}
use Rattle.agreement.specs.View.View.{View, next, Calm, SameDecision, Start, Close, Open, Decide, OneStep}
use Rattle.agreement.specs.View.View.{Opened}
use Rattle.agreement.specs.View.Basic.{Basic}
use Rattle.agreement.specs.View.FourKinds.{at, others_calm, others_decision, others_holds, Adopted}
use Rattle.agreement.specs.View.FourKinds.{Crashes, same_crashes, Holds, Moved, still_moved}
use Rattle.agreement.specs.View.FourKinds.{Quiet, Kind, quietly, starting, opening, deciding, kind}
use Rattle.agreement.specs.View.NewEstimate.{next_current, next_self, next_off, close_closed}
use Rattle.agreement.specs.View.NewEstimate.{Grow, start_grow, open_grow, decide_grow, round_up}

-- ---- x's own part
record Own (n t : ℕ) (s : View) (x : ℕ) : Type 0 where
  low : 1 ≤ s.round x → x < n
  closed_lo : s.round x ≤ s.closed x
  closed_hi : s.closed x ≤ suc (s.round x)
  closed_is : s.decided x ≡ false → s.closed x ≡ s.round x
  bound : s.round x ≤ suc t
  decided_started : s.decided x ≡ true → 1 ≤ s.round x
  estimate_is : (q : ℕ) → s.decided x ≡ false → s.round x ≡ suc q → (k : ℕ) → s.estimate x k ≡ s.row x q k
  value_is : (q : ℕ) → s.decided x ≡ false → s.round x ≡ suc q → (k : ℕ) → s.value x k ≡ s.entry x q k
  previous_low : (y : ℕ) → s.previous x y ≡ true → y < n
  current_low : (y : ℕ) → s.current x y ≡ true → y < n
  outbox_is : (y : ℕ) → s.outbox x y ≡ true → (y < n) × (y ≢ x) × (1 ≤ s.round x)
  received_is : (r y : ℕ) → s.received x r y ≡ true → (y < n) × (y ≢ x) × (1 ≤ r)
  suspected_other : (y : ℕ) → s.suspected x y ≡ true → y ≢ x
  self : 1 ≤ s.round x → s.current x x ≡ true
  outside : (y : ℕ) → y < n → 1 ≤ s.round x → s.current x y ≡ false → s.suspected x y ≡ true
  nested : (y : ℕ) → 1 ≤ s.round x → s.current x y ≡ true → s.previous x y ≡ true

-- ---- what links two processes
record Across (n t : ℕ) (s : View) : Type 0 where
  transit_is : (a r y : ℕ) → s.transit a r y ≡ true
      → (y < n) × (y ≢ a) × (r ≤ s.round a) × (r ≡ 0 → s.decided a ≡ true)
  received_round : (x r y : ℕ) → s.received x r y ≡ true → r ≤ s.round y
  suspected_crashed : (a x : ℕ) → s.suspected a x ≡ true → s.crashed x ≡ true
  crashed_low : (x : ℕ) → s.crashed x ≡ true → x < n
  few : count_to n s.crashed ≤ t
  sync : (a b : ℕ) → b < n → s.crashed b ≡ false → s.closed a ≤ suc (s.round b)

basic_of : (n t : ℕ) (s : View) → ((x : ℕ) → Own n t s x) → Across n t s → Basic n t s
basic_of n t s W A = record {
  low = λ x. (W x).low;
  closed_lo = λ x. (W x).closed_lo;
  closed_hi = λ x. (W x).closed_hi;
  closed_is = λ x. (W x).closed_is;
  bound = λ x. (W x).bound;
  decided_started = λ x. (W x).decided_started;
  estimate_is = λ x. (W x).estimate_is;
  value_is = λ x. (W x).value_is;
  previous_low = λ a. (W a).previous_low;
  current_low = λ a. (W a).current_low;
  outbox_low = λ a y e. ((W a).outbox_is y e).0;
  outbox_other = λ a y e. ((W a).outbox_is y e).1;
  outbox_started = λ a y e. ((W a).outbox_is y e).2;
  transit_low = λ a r y e. (A.transit_is a r y e).0;
  transit_other = λ a r y e. (A.transit_is a r y e).1;
  transit_round = λ a r y e. (A.transit_is a r y e).2;
  transit_decided = λ a y e. (A.transit_is a 0 y e).3 refl;
  received_low = λ x r y e. ((W x).received_is r y e).0;
  received_other = λ x r y e. ((W x).received_is r y e).1;
  received_first = λ x r y e. ((W x).received_is r y e).2;
  received_round = A.received_round;
  suspected_crashed = A.suspected_crashed;
  suspected_other = λ a. (W a).suspected_other;
  crashed_low = A.crashed_low;
  self = λ a. (W a).self;
  outside = λ a. (W a).outside;
  nested = λ a. (W a).nested;
  few = A.few;
  sync = A.sync;
}

-- ---- a process that opens and closes no round
module _ (n t : ℕ) (s s' : View) (B : Basic n t s) (x : ℕ) (C : Calm s s' x) (D : SameDecision s s' x ⊎ Adopted s s' x)
    (H : Holds n s s' x) where
  same_row : (q k : ℕ) → s'.round x ≡ suc q → (s'.row x q k ≡ s.row x q k) × (s'.entry x q k ≡ s.entry x q k)
  same_row q k h = let d : q < s.closed x = omega (arith, B.closed_lo x, C.round) in (C.row q k d, C.entry q k d)

  undecided_was : s'.decided x ≡ false → SameDecision s s' x
  undecided_was e = go D
    where
      go : SameDecision s s' x ⊎ Adopted s s' x → SameDecision s s' x
      go (inl w) = w
      go (inr w) = clash (s'.decided x) w.decided e

  own_kept : Own n t s' x
  own_kept = record {
    low = λ h. B.low x (omega (arith, C.round));
    closed_lo = omega (arith, C.round, C.closed, B.closed_lo x);
    closed_hi = omega (arith, C.round, C.closed, B.closed_hi x);
    closed_is = λ e. C.closed ∙ B.closed_is x (sym (undecided_was e).decided ∙ e) ∙ sym C.round;
    bound = omega (arith, C.round, B.bound x);
    decided_started = λ e. go e D;
    estimate_is = λ q e h k.
        let w = undecided_was e in
        w.estimate k ∙ B.estimate_is x q (sym w.decided ∙ e) (sym C.round ∙ h) k ∙ sym (same_row q k h).0;
    value_is = λ q e h k.
        let w = undecided_was e in
        w.value k ∙ B.value_is x q (sym w.decided ∙ e) (sym C.round ∙ h) k ∙ sym (same_row q k h).1;
    previous_low = λ y e. B.previous_low x y (sym (C.previous y) ∙ e);
    current_low = λ y e. B.current_low x y (sym (C.current y) ∙ e);
    outbox_is = λ y e. out y (H.outbox y e);
    received_is = λ r y e. heard r y (H.received r y e);
    suspected_other = λ y e. other y (H.suspects y e);
    self = λ h. C.current x ∙ B.self x (omega (arith, C.round));
    outside = λ y d h e. H.suspected y (B.outside x y d (omega (arith, C.round)) (sym (C.current y) ∙ e));
    nested = λ y h e. C.previous y ∙ B.nested x y (omega (arith, C.round)) (sym (C.current y) ∙ e);
  }
    where
      go : s'.decided x ≡ true → SameDecision s s' x ⊎ Adopted s s' x → 1 ≤ s'.round x
      go e (inl w) = omega (arith, C.round, B.decided_started x (sym w.decided ∙ e))
      go e (inr w) = omega (arith, C.round, w.started)

      out : (y : ℕ) → (s.outbox x y ≡ true) ⊎ ((y < n) × (y ≢ x) × (1 ≤ s.round x))
          → (y < n) × (y ≢ x) × (1 ≤ s'.round x)
      out y (inl h) = (B.outbox_low x y h, B.outbox_other x y h, omega (arith, C.round, B.outbox_started x y h))
      out y (inr h) = (h.0, h.1, omega (arith, C.round, h.2))

      heard : (r y : ℕ) → (s.received x r y ≡ true) ⊎ ((y < n) × (y ≢ x) × (1 ≤ r) × (r ≤ s.round y))
          → (y < n) × (y ≢ x) × (1 ≤ r)
      heard r y (inl h) = (B.received_low x r y h, B.received_other x r y h, B.received_first x r y h)
      heard r y (inr h) = (h.0, h.1, h.2)

      other : (y : ℕ) → (s.suspected x y ≡ true) ⊎ ((y ≢ x) × (s.crashed y ≡ true)) → y ≢ x
      other y (inl h) = B.suspected_other x y h
      other y (inr h) = h.0

-- ---- rounds, decisions and crashes only grow
module _ (n t : ℕ) (s s' : View) (B : Basic n t s) (K : Crashes n t s s') where
  across_kept : ((x : ℕ) → s.round x ≤ s'.round x) → ((x : ℕ) → s.decided x ≡ true → s'.decided x ≡ true)
      → Moved n s s'
      → ((x r y : ℕ) → s'.received x r y ≡ true → r ≤ s.round y)
      → ((a x : ℕ) → s'.suspected a x ≡ true → s.crashed x ≡ true)
      → ((a b : ℕ) → b < n → s.crashed b ≡ false → s'.closed a ≤ suc (s'.round b)) → Across n t s'
  unfolding Moved
  across_kept up keep M heard gone sync = record {
    transit_is = λ a r y e. sent a r y (M a r y e);
    received_round = λ x r y e. omega (arith, up y, heard x r y e);
    suspected_crashed = λ a x e. K.up x (gone a x e);
    crashed_low = λ x e. low x (K.low x e);
    few = K.few B.few;
    sync = λ a b d e. sync a b d (off_by (s.crashed b) (λ h. clash (s'.crashed b) (K.up b h) e));
  }
    where
      sent : (a r y : ℕ)
          → (s.transit a r y ≡ true) ⊎ ((y < n) × (y ≢ a) × (r ≤ s.round a) × (r ≡ 0 → s.decided a ≡ true))
          → (y < n) × (y ≢ a) × (r ≤ s'.round a) × (r ≡ 0 → s'.decided a ≡ true)
      sent a r y (inl h) = (
        B.transit_low a r y h,
        B.transit_other a r y h,
        omega (arith, up a, B.transit_round a r y h),
        λ z. keep a (B.transit_decided a y (ap (λ m. s.transit a m y) (sym z) ∙ h)),
      )
      sent a r y (inr h) = (h.0, h.1, omega (arith, up a, h.2), λ z. keep a (h.3 z))

      low : (x : ℕ) → (s.crashed x ≡ true) ⊎ (x < n) → x < n
      low x (inl h) = B.crashed_low x h
      low x (inr h) = h

-- ---- the four kinds of step
module _ (n t : ℕ) (s s' : View) (B : Basic n t s) where
  quiet_basic : Quiet n t s s' → Basic n t s'
  quiet_basic Q = basic_of n t s' (λ x. own_kept n t s s' B x (Q.calm x) (Q.decision x) (Q.holds x))
      (across_kept n t s s' B Q.crashes (λ x. omega (arith, (Q.calm x).round))
      (λ x e. keep x e (Q.decision x)) Q.transit
      (λ x r y e. heard x r y ((Q.holds x).received r y e)) (λ a x e. gone a x ((Q.holds a).suspects x e))
      (λ a b d e. omega (arith, (Q.calm a).closed, (Q.calm b).round, B.sync a b d e)))
    where
      keep : (x : ℕ) → s.decided x ≡ true → SameDecision s s' x ⊎ Adopted s s' x → s'.decided x ≡ true
      keep x e (inl w) = w.decided ∙ e
      keep x e (inr w) = w.decided

      heard : (x r y : ℕ) → (s.received x r y ≡ true) ⊎ ((y < n) × (y ≢ x) × (1 ≤ r) × (r ≤ s.round y))
          → r ≤ s.round y
      heard x r y (inl h) = B.received_round x r y h
      heard x r y (inr h) = h.3

      gone : (a x : ℕ) → (s.suspected a x ≡ true) ⊎ ((x ≢ a) × (s.crashed x ≡ true)) → s.crashed x ≡ true
      gone a x (inl h) = B.suspected_crashed a x h
      gone a x (inr h) = h.1

  -- a start or a close of a, where a's own part is well afterwards (R1: the running have opened the round that ends)
  grow_basic : (a : ℕ) → Grow n s s' a → Own n t s' a → Basic n t s'
  grow_basic a G W = basic_of n t s'
      (at a W (λ x ne. own_kept n t s s' B x (others_calm s s' a x G.others ne)
      (inl (others_decision s s' a x G.others ne)) (others_holds n s s' a x G.others ne)))
      (across_kept n t s s' B (same_crashes n t s s' G.crashed) up
      (λ x e. G.others.decided x (λ h. clash (s.decided x) e (ap s.decided h ∙ G.undecided)) ∙ e)
      (still_moved n s s' G.transit)
      (λ x r y e. B.received_round x r y (sym (G.received x r y) ∙ e))
      (λ x y e. B.suspected_crashed x y (sym (G.suspected x y) ∙ e)) sync)
    where
      up : (x : ℕ) → s.round x ≤ s'.round x
      up = round_up n s s' a G

      sync : (x b : ℕ) → b < n → s.crashed b ≡ false → s'.closed x ≤ suc (s'.round b)
      sync = at a (λ b d e. omega (arith, G.closed_here, G.closed_was, G.ahead b d e, up b))
          (λ x ne b d e. omega (arith, G.others.closed x ne, B.sync x b d e, up b))

  -- what a receives and suspects is as before
  received_kept : (a : ℕ) → Grow n s s' a → (r y : ℕ) → s'.received a r y ≡ true → (y < n) × (y ≢ a) × (1 ≤ r)
  received_kept a G r y e =
      let h = sym (G.received a r y) ∙ e in
      (B.received_low a r y h, B.received_other a r y h, B.received_first a r y h)

  suspected_kept : (a : ℕ) → Grow n s s' a → (y : ℕ) → s'.suspected a y ≡ true → y ≢ a
  suspected_kept a G y e = B.suspected_other a y (sym (G.suspected a y) ∙ e)

  not_self : (y a : ℕ) → not (same y a) ≡ true → y ≢ a
  not_self y a e h = clash (same y a) (same_mk y a h) (not_on _ e)

  start_basic : (a v : ℕ) → Start n s s' a v → Basic n t s'
  start_basic a v S = grow_basic a G record {
    low = λ h. S.low;
    closed_lo = omega (arith, one, S.round);
    closed_hi = omega (arith, one, S.round);
    closed_is = λ e. omega (arith, one, S.round);
    bound = omega (arith, S.round);
    decided_started = λ e. omega (arith, S.round);
    estimate_is = λ q e h k. let z : q ≡ 0 = omega (arith, S.round) in rw z (S.estimate k ∙ sym (S.row k));
    value_is = λ q e h k. let z : q ≡ 0 = omega (arith, S.round) in rw z (S.value_row k);
    previous_low = λ y e. less_on y n (sym (S.previous y) ∙ e);
    current_low = λ y e. less_on y n (and_first _ _ (sym (S.current y) ∙ e));
    outbox_is = λ y e.
        let h = sym (S.outbox y) ∙ e in (
          less_on y n (and_first _ _ (sym (S.current y) ∙ and_first _ _ h)),
          not_self y a (and_second (s'.current a y) _ h),
          omega (arith, S.round),
        );
    received_is = received_kept a G;
    suspected_other = suspected_kept a G;
    self =
        λ h. S.current a
        ∙ and_mk (less a n) _ (less_mk a n S.low)
        (ap not (off_by (s.suspected a a) (λ e. B.suspected_other a a e refl)));
    outside = λ y d h e. S.suspected y ∙ out y d (and_cases (less y n) _ (sym (S.current y) ∙ e));
    nested = λ y h e. S.previous y ∙ and_first _ _ (sym (S.current y) ∙ e);
  }
    where
      G : Grow n s s' a
      G = start_grow n t s s' B a v S

      one : s'.closed a ≡ 1
      one = omega (arith, G.closed_here, G.closed_was, S.was)

      out : (y : ℕ) → y < n → (less y n ≡ false) ⊎ (not (s.suspected a y) ≡ false) → s.suspected a y ≡ true
      out y d (inl h) = clash (less y n) (less_mk y n d) h
      out y d (inr h) = not_off _ h

  open_basic : (a q : ℕ) → Open n t s s' a q → Basic n t s'
  open_basic a q O = grow_basic a G record {
    low = λ h. C.low;
    closed_lo = omega (arith, two, O.round);
    closed_hi = omega (arith, two, O.round);
    closed_is = λ e. omega (arith, two, O.round);
    bound = omega (arith, O.round, O.more);
    decided_started = λ e. omega (arith, O.round);
    estimate_is = λ p e h k. let z : p ≡ suc q = omega (arith, O.round) in rw z (C.estimate k);
    value_is = λ p e h k. let z : p ≡ suc q = omega (arith, O.round) in rw z (C.value k);
    previous_low = λ y e. B.current_low a y (sym (O.previous y) ∙ e);
    current_low = λ y e. B.current_low a y (next_current s a y (sym (O.current y) ∙ e));
    outbox_is = λ y e.
        let h = sym (O.outbox y) ∙ e in (
          B.current_low a y (next_current s a y (and_first _ _ h)),
          not_self y a (and_second (next s a y) _ h),
          omega (arith, O.round),
        );
    received_is = received_kept a G;
    suspected_other = suspected_kept a G;
    self = λ h. O.current a ∙ next_self n t s s' B a q C;
    outside = λ y d h e. C.suspected y ∙ next_off n t s s' B a q C y d (sym (O.current y) ∙ e);
    nested = λ y h e. O.previous y ∙ next_current s a y (sym (O.current y) ∙ e);
  }
    where
      C : Close n s s' a q
      C = O.close

      G : Grow n s s' a
      G = open_grow n t s s' B a q O

      two : s'.closed a ≡ suc (suc q)
      two = omega (arith, C.closed, close_closed n t s s' B a q C)

  decide_basic : (a q : ℕ) → Decide n t s s' a q → Basic n t s'
  decide_basic a q D = grow_basic a G record {
    low = λ h. C.low;
    closed_lo = omega (arith, two, D.round);
    closed_hi = omega (arith, two, D.round);
    closed_is = λ e. clash (s'.decided a) D.decided e;
    bound = omega (arith, D.round, C.is_at, B.bound a);
    decided_started = λ e. omega (arith, D.round);
    estimate_is = λ p e h k. clash (s'.decided a) D.decided e;
    value_is = λ p e h k. clash (s'.decided a) D.decided e;
    previous_low = λ y e. B.previous_low a y (sym (D.previous y) ∙ e);
    current_low = λ y e. B.current_low a y (sym (D.current y) ∙ e);
    outbox_is = λ y e.
        let h = sym (D.outbox y) ∙ e in (
          less_on y n (and_first _ _ h),
          not_self y a (and_first _ _ (and_second (less y n) _ h)),
          omega (arith, D.round),
        );
    received_is = received_kept a G;
    suspected_other = suspected_kept a G;
    self = λ h. D.current a ∙ B.self a began;
    outside = λ y d h e. C.suspected y ∙ B.outside a y d began (sym (D.current y) ∙ e);
    nested = λ y h e. D.previous y ∙ B.nested a y began (sym (D.current y) ∙ e);
  }
    where
      C : Close n s s' a q
      C = D.close

      G : Grow n s s' a
      G = decide_grow n t s s' B a q D

      two : s'.closed a ≡ suc (suc q)
      two = omega (arith, C.closed, close_closed n t s s' B a q C)

      began : 1 ≤ s.round a
      began = omega (arith, C.is_at)

pub basic_step : (n t : ℕ) (s s' : View) → Basic n t s → OneStep n t s s' → Basic n t s'
basic_step n t s s' B S = go (kind n t s s' B S)
  where
    go : Kind n t s s' → Basic n t s'
    go (quietly Q) = quiet_basic n t s s' B Q
    go (starting {a} {v} S) = start_basic n t s s' B a v S
    go (opening {a} {q} O) = open_basic n t s s' B a q O
    go (deciding {a} {q} D) = decide_basic n t s s' B a q D

pub basic_opened : (n t : ℕ) (s : View) → Opened s → Basic n t s
basic_opened n t s O = basic_of n t s (λ x. record {
  low = λ h. absurd (omega (arith, O.round x));
  closed_lo = omega (arith, O.round x);
  closed_hi = omega (arith, O.closed x);
  closed_is = λ e. O.closed x ∙ sym (O.round x);
  bound = omega (arith, O.round x);
  decided_started = λ e. clash (s.decided x) e (O.decided x);
  estimate_is = λ q e h k. absurd (omega (arith, O.round x));
  value_is = λ q e h k. absurd (omega (arith, O.round x));
  previous_low = λ y e. clash (s.previous x y) e (O.previous x y);
  current_low = λ y e. clash (s.current x y) e (O.current x y);
  outbox_is = λ y e. clash (s.outbox x y) e (O.outbox x y);
  received_is = λ r y e. clash (s.received x r y) e (O.received x r y);
  suspected_other = λ y e. clash (s.suspected x y) e (O.suspected x y);
  self = λ h. absurd (omega (arith, O.round x));
  outside = λ y d h e. absurd (omega (arith, O.round x));
  nested = λ y h e. absurd (omega (arith, O.round x));
}) record {
  transit_is = λ a r y e. clash (s.transit a r y) e (O.transit a r y);
  received_round = λ x r y e. clash (s.received x r y) e (O.received x r y);
  suspected_crashed = λ a x e. clash (s.suspected a x) e (O.suspected a x);
  crashed_low = λ x e. clash (s.crashed x) e (O.crashed x);
  few = omega (arith, count_none n s.crashed O.crashed);
  sync = λ a b d e. omega (arith, O.closed a);
}
