-- No message that is due gets lost, and a decision reaches everybody (W2, W3).
-- Of each step it is enough to say what becomes of the one process that acts (it stays in its round,
-- opens the next or decides) and of the messages in transit; the rest is one proof.
use Rattle.std.specs.Prelude.{◌≡◌, ◌≢◌, ◌⊎◌, false, ℕ, suc, ◌≤◌, ◌<◌}
use Rattle.std.proofs.Math.Path.{sym}
use Rattle.std.proofs.Common.{ap, ◌∙◌, arith}
use Rattle.std.proofs.Math.Logic.{inl, inr}
use Rattle.std.proofs.Math.Bool.{true, not}
use Rattle.sets.specs.Truth.{◌and◌, ◌or◌, same, less}
use Rattle.sets.specs.TruthLaws.{Is, on, off, is, clash, select_on, select_off, and_first, and_second, and_mk}
use Rattle.sets.specs.TruthLaws.{or_mk_l, or_mk_r}
use Rattle.sets.specs.TruthLaws.{or_none_r, off_by, same_on, same_refl, same_mk, same_off, less_mk, eq-or, le-or}
use Rattle.agreement.specs.View.FourKinds.{at}
use Rattle.agreement.specs.View.View.{View, same3, next, slot, keeping, taken, Others, Calm}
use Rattle.agreement.specs.View.View.{SameDecision, Start, Send, Arrive, Keep, Adopt, Ignore, Close}
use Rattle.agreement.specs.View.View.{Open, Decide, Crash, Suspect, OneStep, starts, sends, keeps}
use Rattle.agreement.specs.View.View.{adopts, ignores, opens, decides, crashes, suspects, Opened}
use Rattle.agreement.specs.View.Basic.{Basic}

-- x waits for y's estimate of round r, or will: both are undecided, y got that far, and x is not past it
pub record Due (n : ℕ) (s : View) (x y r : ℕ) : Type 0 where
  pub low : x < n
  pub apart : x ≢ y
  pub running : s.crashed x ≡ false
  pub undecided : s.decided x ≡ false
  pub undecided_there : s.decided y ≡ false
  pub first : 1 ≤ r
  pub from : s.round x ≤ r
  pub upto : r ≤ s.round y
  pub awaited : (s.round x < r) ⊎ (s.current x y ≡ true)

-- where y's estimate of round r for x is
abbrev pub Somewhere : View → ℕ → ℕ → ℕ → Type 0
Somewhere s x y r =
    (s.transit y r x ≡ true) ⊎ (s.received x r y ≡ true) ⊎ ((r ≡ s.round y) × (s.outbox y x ≡ true))

pub record Wire (n t : ℕ) (s : View) : Type 0 where
  -- W2: an estimate that is due is in transit, received or still owed
  pub estimates : (x y r : ℕ) → Due n s x y r → Somewhere s x y r
  -- W3: a running process has decided too, or the decision is owed to it or on its way to it
  pub decisions : (x y : ℕ) → x < n → x ≢ y → s.crashed x ≡ false → s.decided y ≡ true
      → (s.decided x ≡ true) ⊎ (s.outbox y x ≡ true) ⊎ (s.transit y 0 x ≡ true)
  -- a decision came from some close
  pub closer : (y : ℕ) → s.decided y ≡ true → (c : ℕ) × (2 ≤ s.closed c)

pub wire_opened : (n t : ℕ) (s : View) → Opened s → Wire n t s
wire_opened n t s O = record {
  estimates = λ x y r D. absurd (omega (arith, D.first, D.upto, O.round y));
  decisions = λ x y l ne c d. clash (s.decided y) d (O.decided y);
  closer = λ y d. clash (s.decided y) d (O.decided y);
}

-- ---- what a step makes of one process

-- it stays in its round: what it owed it still owes, or has sent
record Steady (s s' : View) (y : ℕ) : Type 0 where
  round : s'.round y ≡ s.round y
  current : (z : ℕ) → s'.current y z ≡ s.current y z
  decided : s'.decided y ≡ s.decided y
  outbox : (x : ℕ) → s.outbox y x ≡ true → (s'.outbox y x ≡ true) ⊎ (s'.transit y (slot s y) x ≡ true)

-- it opens its next round: it owed nothing, and owes its estimate to every running process
record Advance (n : ℕ) (s s' : View) (y : ℕ) : Type 0 where
  round : s'.round y ≡ suc (s.round y)
  undecided : s.decided y ≡ false
  decided : s'.decided y ≡ false
  owed_none : (x : ℕ) → s.outbox y x ≡ false
  outbox : (x : ℕ) → x < n → x ≢ y → s.crashed x ≡ false → s'.outbox y x ≡ true

-- it decides, and owes the decision to every running process that has not decided
record Finish (n : ℕ) (s s' : View) (y : ℕ) : Type 0 where
  round : s'.round y ≡ s.round y
  current : (z : ℕ) → s'.current y z ≡ s.current y z
  decided : s'.decided y ≡ true
  closer : (c : ℕ) × (2 ≤ s'.closed c)
  outbox : (x : ℕ) → x < n → x ≢ y → s.crashed x ≡ false → (s'.decided x ≡ true) ⊎ (s'.outbox y x ≡ true)

data Progress (n : ℕ) (s s' : View) (y : ℕ) : Type 0 where
  steady : Steady s s' y → Progress n s s' y
  advance : Advance n s s' y → Progress n s s' y
  finish : Finish n s s' y → Progress n s s' y

-- what becomes of message r of y to x: it is still in transit, it arrived and is kept,
-- it made x decide, or it is ignored
data Fate (s s' : View) (y r x : ℕ) : Type 0 where
  in_transit_lem : s'.transit y r x ≡ true → Fate s s' y r x
  arrived : s'.received x r y ≡ true → Fate s s' y r x
  adopted : s'.decided x ≡ true → Fate s s' y r x
  ignored : keeping s y r x ≡ false → taken s r x ≡ false → Fate s s' y r x

-- a step by a, as far as the wire is concerned
record Move (n : ℕ) (s s' : View) (a : ℕ) : Type 0 where
  others : Others s s' a
  crashed : (x : ℕ) → s'.crashed x ≡ false → s.crashed x ≡ false
  closed : s.closed a ≤ s'.closed a
  received : (r y : ℕ) → s.received a r y ≡ true → s'.received a r y ≡ true
  progress : Progress n s s' a
  transit : (y r x : ℕ) → s.transit y r x ≡ true → Fate s s' y r x

-- an estimate that is due is kept
due_kept : (n : ℕ) (s : View) (x y r : ℕ) → Due n s x y r → keeping s y r x ≡ true
unfolding keeping
due_kept n s x y r D =
    and_mk _ _ (less_mk 0 r D.first) (and_mk _ _ (ap not D.undecided) (go (le-or r (s.round x)) D.awaited))
  where
    go : (r ≤ s.round x) ⊎ (s.round x < r) → (s.round x < r) ⊎ (s.current x y ≡ true)
        → (less (s.round x) r or (same r (s.round x) and s.current x y)) ≡ true
    go (inr h) w = or_mk_l _ _ (less_mk _ _ h)
    go (inl h) (inl h') = absurd (omega arith)
    go (inl h) (inr e) = or_mk_r _ _ (and_mk _ _ (same_mk _ _ (omega (arith, D.from))) e)

-- a decision is taken over by a started undecided process
taken_mk : (s : View) (x : ℕ) → s.decided x ≡ false → 1 ≤ s.round x → taken s 0 x ≡ true
unfolding taken
taken_mk s x e h = and_mk _ _ (same_refl 0) (and_mk _ _ (ap not e) (less_mk 0 _ h))

slot_off : (s : View) (y : ℕ) → s.decided y ≡ false → slot s y ≡ s.round y
unfolding slot
slot_off s y e = select_off _ _ _ e

slot_on : (s : View) (y : ℕ) → s.decided y ≡ true → slot s y ≡ 0
unfolding slot
slot_on s y e = select_on _ _ _ e

-- ---- any step keeps the wire

module _ (n t : ℕ) (s s' : View) (a : ℕ) (B : Basic n t s) (W : Wire n t s) (B' : Basic n t s')
    (M : Move n s s' a) where
  progress_of_lem : (x : ℕ) → Progress n s s' x
  progress_of_lem = at {P = λ x. Progress n s s' x} a M.progress (λ x ne. steady record {
    round = M.others.round x ne;
    current = λ z. M.others.current x z ne;
    decided = M.others.decided x ne;
    outbox = λ z o. inl (M.others.outbox x z ne ∙ o);
  })

  received_on : (x r y : ℕ) → s.received x r y ≡ true → s'.received x r y ≡ true
  received_on = at {P = λ x. (r y : ℕ) → s.received x r y ≡ true → s'.received x r y ≡ true} a M.received
      (λ x ne r y e. M.others.received x r y ne ∙ e)

  closed_on : (x : ℕ) → s.closed x ≤ s'.closed x
  closed_on = at {P = λ x. s.closed x ≤ s'.closed x} a M.closed (λ x ne. omega (arith, M.others.closed x ne))

  decided_on : (x : ℕ) → s.decided x ≡ true → s'.decided x ≡ true
  decided_on x e = go (progress_of_lem x)
    where
      go : Progress n s s' x → s'.decided x ≡ true
      go (steady C) = C.decided ∙ e
      go (advance C) = clash (s.decided x) e C.undecided
      go (finish C) = C.decided

  -- what is due at x now was due before, if y had got that far
  due_before : (x y r : ℕ) → Due n s' x y r → s.decided y ≡ false → r ≤ s.round y → Due n s x y r
  due_before x y r D e h = go (progress_of_lem x)
    where
      make : s.round x ≤ r → (s.round x < r) ⊎ (s.current x y ≡ true) → Due n s x y r
      make f w = record {
        low = D.low;
        apart = D.apart;
        running = M.crashed x D.running;
        undecided = off_by _ (λ d. clash (s'.decided x) (decided_on x d) D.undecided);
        undecided_there = e;
        first = D.first;
        from = f;
        upto = h;
        awaited = w;
      }

      stay : s'.round x ≡ s.round x → ((z : ℕ) → s'.current x z ≡ s.current x z)
          → (s'.round x < r) ⊎ (s'.current x y ≡ true) → Due n s x y r
      stay q c (inl f) = make (omega arith) (inl (omega arith))
      stay q c (inr w) = make (omega (arith, D.from)) (inr (sym (c y) ∙ w))

      go : Progress n s s' x → Due n s x y r
      go (steady C) = stay C.round C.current D.awaited
      go (advance C) = make (omega (arith, D.from, C.round)) (inl (omega (arith, D.from, C.round)))
      go (finish C) = stay C.round C.current D.awaited

  -- W2: by what becomes of the sender. Old debts are carried over, and a round that it opens makes a new one.
  estimates_on : (x y r : ℕ) → Due n s' x y r → Somewhere s' x y r
  estimates_on x y r D = go (progress_of_lem y)
    where
      landing : Due n s x y r → Fate s s' y r x → Somewhere s' x y r
      landing D₀ (in_transit_lem e) = inl e
      landing D₀ (arrived e) = inr (inl e)
      landing D₀ (adopted e) = clash (s'.decided x) e D.undecided
      landing D₀ (ignored e h) = clash (keeping s y r x) (due_kept n s x y r D₀) e

      -- carried over, given what becomes of a debt
      carry : Due n s x y r → (r ≡ s.round y → s.outbox y x ≡ true → Somewhere s' x y r) → Somewhere s x y r
          → Somewhere s' x y r
      carry D₀ f (inl e) = landing D₀ (M.transit y r x e)
      carry D₀ f (inr (inl e)) = inr (inl (received_on x r y e))
      carry D₀ f (inr (inr w)) = f w.0 w.1

      old : s.decided y ≡ false → r ≤ s.round y → (r ≡ s.round y → s.outbox y x ≡ true → Somewhere s' x y r)
          → Somewhere s' x y r
      old e h f = let D₀ = due_before x y r D e h in carry D₀ f (W.estimates x y r D₀)

      still : s.decided y ≡ false → s'.round y ≡ s.round y → r ≡ s.round y
          → (s'.outbox y x ≡ true) ⊎ (s'.transit y (slot s y) x ≡ true) → Somewhere s' x y r
      still e q h (inl w) = inr (inr (h ∙ sym q, w))
      still e q h (inr w) = inl (rw h (rw (slot_off s y e) at w))

      newer : Advance n s s' y → (r ≤ s.round y) ⊎ (s.round y < r) → Somewhere s' x y r
      newer C (inl h) = old C.undecided h (λ q o. clash (s.outbox y x) o (C.owed_none x))
      newer C (inr h) =
          inr (inr (omega (arith, D.upto, C.round), C.outbox x D.low D.apart (M.crashed x D.running)))

      go : Progress n s s' y → Somewhere s' x y r
      go (steady C) =
          let e = sym C.decided ∙ D.undecided_there in
          old e (omega (arith, D.upto, C.round)) (λ q o. still e C.round q (C.outbox x o))
      go (advance C) = newer C (le-or r (s.round y))
      go (finish C) = clash (s'.decided y) C.decided D.undecided_there

  -- W3: a decision that arrives at a running process is adopted, since that process has started
  decisions_on : (x y : ℕ) → x < n → x ≢ y → s'.crashed x ≡ false → s'.decided y ≡ true
      → (s'.decided x ≡ true) ⊎ (s'.outbox y x ≡ true) ⊎ (s'.transit y 0 x ≡ true)
  decisions_on x y l ne c d = go (progress_of_lem y)
    where
      Goal : Type 0
      Goal = (s'.decided x ≡ true) ⊎ (s'.outbox y x ≡ true) ⊎ (s'.transit y 0 x ≡ true)

      -- somebody has closed a round, so x has started
      started : s.decided y ≡ true → 1 ≤ s.round x
      started e = let k = W.closer y e in omega (arith, k.1, B.sync k.0 x l (M.crashed x c))

      by : s.decided y ≡ true → Is (s.decided x) → taken s 0 x ≡ false → Goal
      by e (on h) w = inl (decided_on x h)
      by e (off h) w = clash (taken s 0 x) (taken_mk s x h (started e)) w

      landing : s.decided y ≡ true → Fate s s' y 0 x → Goal
      landing e (in_transit_lem w) = inr (inr w)
      landing e (arrived w) = absurd (omega (arith, B'.received_first x 0 y w))
      landing e (adopted w) = inl w
      landing e (ignored w w') = by e (is (s.decided x)) w'

      still : s.decided y ≡ true → (s'.outbox y x ≡ true) ⊎ (s'.transit y (slot s y) x ≡ true) → Goal
      still e (inl w) = inr (inl w)
      still e (inr w) = inr (inr (rw (slot_on s y e) at w))

      old : Steady s s' y → s.decided y ≡ true
          → (s.decided x ≡ true) ⊎ (s.outbox y x ≡ true) ⊎ (s.transit y 0 x ≡ true) → Goal
      old C e (inl w) = inl (decided_on x w)
      old C e (inr (inl w)) = still e (C.outbox x w)
      old C e (inr (inr w)) = landing e (M.transit y 0 x w)

      new : (s'.decided x ≡ true) ⊎ (s'.outbox y x ≡ true) → Goal
      new (inl w) = inl w
      new (inr w) = inr (inl w)

      go : Progress n s s' y → Goal
      go (steady C) = let e = sym C.decided ∙ d in old C e (W.decisions x y l ne (M.crashed x c) e)
      go (advance C) = clash (s'.decided y) d C.decided
      go (finish C) = new (C.outbox x l ne (M.crashed x c))

  closer_on : (y : ℕ) → s'.decided y ≡ true → (c : ℕ) × (2 ≤ s'.closed c)
  closer_on y d = go (progress_of_lem y)
    where
      go : Progress n s s' y → (c : ℕ) × (2 ≤ s'.closed c)
      go (steady C) = let k = W.closer y (sym C.decided ∙ d) in (k.0, omega (arith, k.1, closed_on k.0))
      go (advance C) = clash (s'.decided y) d C.decided
      go (finish C) = C.closer

  wire_move : Wire n t s'
  wire_move = record { estimates = estimates_on; decisions = decisions_on; closer = closer_on }

-- ---- each step is such a move

module _ (n t : ℕ) (s s' : View) (B : Basic n t s) where
  unsuspected : (a x : ℕ) → s.crashed x ≡ false → s.suspected a x ≡ false
  unsuspected a x c = off_by _ (λ e. clash (s.crashed x) (B.suspected_crashed a x e) c)

  calm_progress : (a : ℕ) → Calm s s' a → SameDecision s s' a
      → ((x : ℕ) → s.outbox a x ≡ true → (s'.outbox a x ≡ true) ⊎ (s'.transit a (slot s a) x ≡ true))
      → Progress n s s' a
  calm_progress a C D o = steady record { round = C.round; current = C.current; decided = D.decided; outbox = o }

  start_move : (a v : ℕ) → Start n s s' a v → Move n s s' a
  start_move a v S = record {
    others = S.others;
    crashed = λ x e. sym (S.crashed x) ∙ e;
    closed = omega (arith, S.closed);
    received = λ r y e. S.received r y ∙ e;
    progress = advance record {
      round = omega (arith, S.was, S.round);
      undecided = undecided;
      decided = S.decided ∙ undecided;
      owed_none = λ x. off_by _ (λ o. omega (arith, B.outbox_started a x o, S.was));
      outbox =
          λ x l ne c. S.outbox x ∙ and_mk _ _
          (S.current x ∙ and_mk _ _ (less_mk x n l) (ap not (unsuspected a x c))) (ap not (same_off x a ne));
    };
    transit = λ y r x e. in_transit_lem (S.transit y r x ∙ e);
  }
    where
      undecided : s.decided a ≡ false
      undecided = off_by _ (λ d. omega (arith, B.decided_started a d, S.was))

  -- what a owes to b is in transit, and what it owes to another process is still owed
  send_move : (a b : ℕ) → Send n s s' a b → Move n s s' a
  unfolding same3
  send_move a b S = record {
    others = S.others;
    crashed = λ x e. sym (S.crashed x) ∙ e;
    closed = omega (arith, S.calm.closed);
    received = λ r y e. S.received r y ∙ e;
    progress = calm_progress a S.calm S.decision (λ x o. go x o (eq-or x b));
    transit = λ y r x e. in_transit_lem (S.transit y r x ∙ or_mk_r _ _ e);
  }
    where
      go : (x : ℕ) → s.outbox a x ≡ true → (x ≡ b) ⊎ (x ≢ b)
          → (s'.outbox a x ≡ true) ⊎ (s'.transit a (slot s a) x ≡ true)
      go x o (inl e) =
          inr (S.transit a (slot s a) x
          ∙ or_mk_l _ _ (and_mk _ _ (same_refl a) (and_mk _ _ (same_refl (slot s a)) (same_mk x b e))))
      go x o (inr ne) = inl (S.outbox x ∙ and_mk _ _ o (ap not (same_off x b ne)))

  -- only the message that arrives leaves transit
  arrive_fate : (a r b : ℕ) → Arrive n t s s' a r b → Fate s s' a r b → (y m x : ℕ) → s.transit y m x ≡ true
      → Fate s s' y m x
  unfolding same3
  arrive_fate a r b A f y m x e = go (is (same3 y m x a r b))
    where
      go : Is (same3 y m x a r b) → Fate s s' y m x
      go (on h) =
          let p : y ≡ a = same_on y a (and_first _ _ h) in
          let q : m ≡ r = same_on m r (and_first _ _ (and_second _ _ h)) in
          let w : x ≡ b = same_on x b (and_second _ _ (and_second _ _ h)) in
          rw (p, q, w) f
      go (off h) = in_transit_lem (A.transit y m x ∙ and_mk _ _ e (ap not h))

  arrive_move : (a r b : ℕ) → Arrive n t s s' a r b
      → ((m y : ℕ) → s.received b m y ≡ true → s'.received b m y ≡ true)
      → Progress n s s' b → Fate s s' a r b → Move n s s' b
  arrive_move a r b A h c f = record {
    others = A.others;
    crashed = λ x e. sym (A.crashed x) ∙ e;
    closed = omega (arith, A.calm.closed);
    received = h;
    progress = c;
    transit = arrive_fate a r b A f;
  }

  keep_move : (a r b : ℕ) → Keep n t s s' a r b → Move n s s' b
  keep_move a r b K = arrive_move a r b K.arrive (λ m y e. K.received m y ∙ or_mk_r _ _ e)
      (calm_progress b K.arrive.calm K.decision (λ x o. inl (K.outbox x ∙ o)))
      (arrived (K.received r a ∙ or_mk_l _ _ (and_mk _ _ (same_refl r) (same_refl a))))

  ignore_move : (a r b : ℕ) → Ignore n t s s' a r b → Move n s s' b
  ignore_move a r b I = arrive_move a r b I.arrive (λ m y e. I.received m y ∙ e)
      (calm_progress b I.arrive.calm I.decision (λ x o. inl (I.outbox x ∙ o)))
      (ignored I.not_kept I.not_taken)

  -- b owes the decision to every running process but a, which has decided (W4)
  adopt_move : Wire n t s → (a r b : ℕ) → Adopt n t s s' a r b → Move n s s' b
  unfolding taken
  adopt_move W a r b D = arrive_move a r b A (λ m y e. D.received m y ∙ e) (finish record {
    round = A.calm.round;
    current = A.calm.current;
    decided = D.decided;
    closer = (k.0, omega (arith, k.1, same-closed k.0));
    outbox = λ x l ne c. by x l ne c (eq-or x a);
  }) (adopted D.decided)
    where
      A : Arrive n t s s' a r b
      A = D.arrive

      sender : s.decided a ≡ true
      sender = B.transit_decided a b (rw (same_on r 0 (and_first _ _ D.taken_here)) at A.sent)

      k : (c : ℕ) × (2 ≤ s.closed c)
      k = W.closer a sender

      same-closed : (x : ℕ) → s'.closed x ≡ s.closed x
      same-closed = at {P = λ x. s'.closed x ≡ s.closed x} b A.calm.closed A.others.closed

      by : (x : ℕ) → x < n → x ≢ b → s.crashed x ≡ false → (x ≡ a) ⊎ (x ≢ a)
          → (s'.decided x ≡ true) ⊎ (s'.outbox b x ≡ true)
      by x l ne c (inl e) = inl (A.others.decided x ne ∙ ap s.decided e ∙ sender)
      by x l ne c (inr na) = inr (D.outbox x ∙ and_mk _ _ (less_mk x n l)
          (and_mk _ _ (ap not (same_off x b ne)) (and_mk _ _ (ap not (unsuspected b x c)) (ap not (same_off x a na)))))

  close_move : (a q : ℕ) → Close n s s' a q → Progress n s s' a → Move n s s' a
  close_move a q C c = record {
    others = C.others;
    crashed = λ x e. sym (C.crashed x) ∙ e;
    closed = omega (arith, C.closed);
    received = λ r y e. C.received r y ∙ e;
    progress = c;
    transit = λ y r x e. in_transit_lem (C.transit y r x ∙ e);
  }

  -- a running process is in the next set, so it is owed the new round's estimate
  open_move : (a q : ℕ) → Open n t s s' a q → Move n s s' a
  unfolding next
  open_move a q O = close_move a q C (advance record {
    round = omega (arith, C.is_at, O.round);
    undecided = C.undecided;
    decided = O.decided;
    owed_none = C.owes_none;
    outbox = λ x l ne c. O.outbox x ∙ and_mk _ _ (member x l ne c (is (s.current a x))) (ap not (same_off x a ne));
  })
    where
      C : Close n s s' a q
      C = O.close

      heard : (x : ℕ) → x ≢ a → s.crashed x ≡ false
          → (x ≡ a) ⊎ (s.received a (suc q) x ≡ true) ⊎ (s.suspected a x ≡ true)
          → s.received a (s.round a) x ≡ true
      heard x ne c (inl e) = absurd (ne e)
      heard x ne c (inr (inl e)) = rw C.is_at e
      heard x ne c (inr (inr e)) = clash (s.suspected a x) e (unsuspected a x c)

      member : (x : ℕ) → x < n → x ≢ a → s.crashed x ≡ false → Is (s.current a x) → next s a x ≡ true
      member x l ne c (on h) = and_mk _ _ h (or_mk_r _ _ (heard x ne c (C.heard x h)))
      member x l ne c (off h) =
          clash (s.suspected a x) (B.outside a x l (omega (arith, C.is_at)) h) (unsuspected a x c)

  decide_move : (a q : ℕ) → Decide n t s s' a q → Move n s s' a
  decide_move a q D = close_move a q C (finish record {
    round = D.round ∙ sym C.is_at;
    current = D.current;
    decided = D.decided;
    closer = (a, omega (arith, C.closed, C.is_at, B.closed_lo a));
    outbox =
        λ x l ne c. inr (D.outbox x
        ∙ and_mk _ _ (less_mk x n l) (and_mk _ _ (ap not (same_off x a ne)) (ap not (unsuspected a x c))));
  })
    where
      C : Close n s s' a q
      C = D.close

  crash_move : (a : ℕ) → Crash n t s s' a → Move n s s' a
  crash_move a C = record {
    others = C.others;
    crashed = λ x e. or_none_r _ _ (sym (C.crashed x) ∙ e);
    closed = omega (arith, C.calm.closed);
    received = λ r y e. C.received r y ∙ e;
    progress = calm_progress a C.calm C.decision (λ x o. inl (C.outbox x ∙ o));
    transit = λ y r x e. in_transit_lem (C.transit y r x ∙ e);
  }

  suspect_move : (a b : ℕ) → Suspect n s s' a b → Move n s s' a
  suspect_move a b S = record {
    others = S.others;
    crashed = λ x e. sym (S.crashed x) ∙ e;
    closed = omega (arith, S.calm.closed);
    received = λ r y e. S.received r y ∙ e;
    progress = calm_progress a S.calm S.decision (λ x o. inl (S.outbox x ∙ o));
    transit = λ y r x e. in_transit_lem (S.transit y r x ∙ e);
  }

pub wire_step : (n t : ℕ) (s s' : View) → Basic n t s → Wire n t s → Basic n t s' → OneStep n t s s' → Wire n t s'
wire_step n t s s' B W B' (starts {a} {v} S) = wire_move n t s s' a B W B' (start_move n t s s' B a v S)
wire_step n t s s' B W B' (sends {a} {b} S) = wire_move n t s s' a B W B' (send_move n t s s' B a b S)
wire_step n t s s' B W B' (keeps {a} {r} {b} K) = wire_move n t s s' b B W B' (keep_move n t s s' B a r b K)
wire_step n t s s' B W B' (adopts {a} {r} {b} D) = wire_move n t s s' b B W B' (adopt_move n t s s' B W a r b D)
wire_step n t s s' B W B' (ignores {a} {r} {b} I) = wire_move n t s s' b B W B' (ignore_move n t s s' B a r b I)
wire_step n t s s' B W B' (opens {a} {q} O) = wire_move n t s s' a B W B' (open_move n t s s' B a q O)
wire_step n t s s' B W B' (decides {a} {q} D) = wire_move n t s s' a B W B' (decide_move n t s s' B a q D)
wire_step n t s s' B W B' (crashes {a} C) = wire_move n t s s' a B W B' (crash_move n t s s' B a C)
wire_step n t s s' B W B' (suspects {a} {b} S) = wire_move n t s s' a B W B' (suspect_move n t s s' B a b S)
