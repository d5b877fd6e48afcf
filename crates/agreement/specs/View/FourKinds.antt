-- Every step is one of four kinds: quiet (no round opens or closes), a start, a close that goes on, one that decides.
use Rattle.std.specs.Prelude.{◌≡◌, ◌≢◌, ◌⊎◌, false, not, ℕ, ◌≤◌, ◌<◌}
use Rattle.std.proofs.Common.{sym, ap, ◌∙◌, arith}
use Rattle.std.proofs.Math.Logic.{inl, inr}
use Rattle.std.proofs.Math.Bool.{true}
use Rattle.sets.specs.Truth.{◌and◌, same, less}
use Rattle.sets.specs.TruthLaws.{Is, is, on, off, clash, select_on, select_off, and_first, and_second, or_cases}
use Rattle.sets.specs.TruthLaws.{or_mk_r, or_off_l, not_on, same_on, same_refl, same_off, less_on, eq-or}
use Rattle.sets.specs.Lists.{count_to}
use Rattle.sets.specs.CountLaws.{count_cong, count_one}
use Rattle.agreement.specs.View.View.{View, same3, slot, keeping, taken, Others, Calm, SameDecision, Start}
use Rattle.agreement.specs.View.View.{Send, Arrive, Keep, Adopt, Ignore, Open, Decide, Crash, Suspect, OneStep}
use Rattle.agreement.specs.View.View.{starts, sends, keeps, adopts, ignores, opens, decides, crashes, suspects}
use Rattle.agreement.specs.View.Basic.{Basic}

-- for every x: at a, and elsewhere
pub at : {P : ℕ → Type 0} (a : ℕ) → P a → ((x : ℕ) → x ≢ a → P x) → (x : ℕ) → P x
at {P} a h o x = go (eq-or x a)
  where
    go : (x ≡ a) ⊎ (x ≢ a) → P x
    go (inl e) = rw e h
    go (inr ne) = o x ne

-- nothing of x changed
pub others_calm : (s s' : View) (a x : ℕ) → Others s s' a → x ≢ a → Calm s s' x
others_calm s s' a x O ne = record {
  round = O.round x ne;
  closed = O.closed x ne;
  previous = λ y. O.previous x y ne;
  current = λ y. O.current x y ne;
  row = λ l k d. O.row x l k ne d;
  entry = λ l k d. O.entry x l k ne d;
}

pub others_decision : (s s' : View) (a x : ℕ) → Others s s' a → x ≢ a → SameDecision s s' x
others_decision s s' a x O ne =
    record { decided = O.decided x ne; estimate = λ k. O.estimate x k ne; value = λ k. O.value x k ne }

-- x takes over the decision of y
pub record Adopted (s s' : View) (x : ℕ) : Type 0 where
  pub started : 1 ≤ s.round x
  pub undecided : s.decided x ≡ false
  pub decided : s'.decided x ≡ true
  pub whose : ℕ
  pub theirs : s.decided whose ≡ true
  pub estimate : (k : ℕ) → s'.estimate x k ≡ s.estimate whose k
  pub value : (k : ℕ) → s'.value x k ≡ s.value whose k

-- who crashed stays so, and no more than t do
pub record Crashes (n t : ℕ) (s s' : View) : Type 0 where
  pub up : (x : ℕ) → s.crashed x ≡ true → s'.crashed x ≡ true
  pub low : (x : ℕ) → s'.crashed x ≡ true → (s.crashed x ≡ true) ⊎ (x < n)
  pub few : count_to n s.crashed ≤ t → count_to n s'.crashed ≤ t

pub same_crashes : (n t : ℕ) (s s' : View) → ((x : ℕ) → s'.crashed x ≡ s.crashed x) → Crashes n t s s'
same_crashes n t s s' h = record {
  up = λ x e. h x ∙ e;
  low = λ x e. inl (sym (h x) ∙ e);
  few = λ w. omega (arith, count_cong n s'.crashed s.crashed (λ x d. h x));
}

-- what one process holds of the others grows only so
pub record Holds (n : ℕ) (s s' : View) (x : ℕ) : Type 0 where
  pub outbox : (y : ℕ) → s'.outbox x y ≡ true → (s.outbox x y ≡ true) ⊎ ((y < n) × (y ≢ x) × (1 ≤ s.round x))
  pub received : (r y : ℕ) → s'.received x r y ≡ true
      → (s.received x r y ≡ true) ⊎ ((y < n) × (y ≢ x) × (1 ≤ r) × (r ≤ s.round y))
  pub suspected : (y : ℕ) → s.suspected x y ≡ true → s'.suspected x y ≡ true
  pub suspects : (y : ℕ) → s'.suspected x y ≡ true → (s.suspected x y ≡ true) ⊎ ((y ≢ x) × (s.crashed y ≡ true))

-- where x suspects as before
holds_by : (n : ℕ) (s s' : View) (x : ℕ)
    → ((y : ℕ) → s'.outbox x y ≡ true → (s.outbox x y ≡ true) ⊎ ((y < n) × (y ≢ x) × (1 ≤ s.round x)))
    → ((r y : ℕ) → s'.received x r y ≡ true
    → (s.received x r y ≡ true) ⊎ ((y < n) × (y ≢ x) × (1 ≤ r) × (r ≤ s.round y)))
    → ((y : ℕ) → s'.suspected x y ≡ s.suspected x y) → Holds n s s' x
holds_by n s s' x out new h =
    record { outbox = out; received = new; suspected = λ y e. h y ∙ e; suspects = λ y e. inl (sym (h y) ∙ e) }

pub others_holds : (n : ℕ) (s s' : View) (a x : ℕ) → Others s s' a → x ≢ a → Holds n s s' x
others_holds n s s' a x O ne =
    holds_by n s s' x (λ y e. inl (sym (O.outbox x y ne) ∙ e)) (λ r y e. inl (sym (O.received x r y ne) ∙ e))
    (λ y. O.suspected x y ne)

-- what is on its way was so before, or was owed
unfoldable pub Moved : (n : ℕ) (s s' : View) → Type 0
Moved n s s' = (x r y : ℕ) → s'.transit x r y ≡ true
    → (s.transit x r y ≡ true) ⊎ ((y < n) × (y ≢ x) × (r ≤ s.round x) × (r ≡ 0 → s.decided x ≡ true))

-- send, keep, adopt, ignore, crash, suspect
pub record Quiet (n t : ℕ) (s s' : View) : Type 0 where
  pub calm : (x : ℕ) → Calm s s' x
  pub decision : (x : ℕ) → SameDecision s s' x ⊎ Adopted s s' x
  pub holds : (x : ℕ) → Holds n s s' x
  pub transit : Moved n s s'
  pub crashes : Crashes n t s s'

quiet_by : (n t : ℕ) (s s' : View) (a : ℕ) → Others s s' a → Calm s s' a → SameDecision s s' a ⊎ Adopted s s' a
    → Holds n s s' a → Moved n s s' → Crashes n t s s' → Quiet n t s s'
quiet_by n t s s' a O C D H M K = record {
  calm = at a C (λ x ne. others_calm s s' a x O ne);
  decision = at a D (λ x ne. inl (others_decision s s' a x O ne));
  holds = at a H (λ x ne. others_holds n s s' a x O ne);
  transit = M;
  crashes = K;
}

pub still_moved : (n : ℕ) (s s' : View) → ((x r y : ℕ) → s'.transit x r y ≡ s.transit x r y) → Moved n s s'
unfolding Moved
still_moved n s s' h x r y e = inl (sym (h x r y) ∙ e)

same3_on : (x y z a b c : ℕ) → same3 x y z a b c ≡ true → (x ≡ a) × (y ≡ b) × (z ≡ c)
unfolding same3
same3_on x y z a b c e =
    let w = and_second (same x a) _ e in
    (same_on x a (and_first _ _ e), same_on y b (and_first _ _ w), same_on z c (and_second (same y b) _ w))

module _ (n t : ℕ) (s s' : View) (B : Basic n t s) where
  -- what a has to send is no message of a later round, and a decision only where it decided
  slot_is : (a : ℕ) → 1 ≤ s.round a → (slot s a ≤ s.round a) × (slot s a ≡ 0 → s.decided a ≡ true)
  unfolding slot
  slot_is a h = go (is (s.decided a))
    where
      go : Is (s.decided a) → (slot s a ≤ s.round a) × (slot s a ≡ 0 → s.decided a ≡ true)
      go (on e) = (omega (arith, select_on (s.decided a) 0 (s.round a) e), λ w. e)
      go (off e) =
          let z = select_off (s.decided a) 0 (s.round a) e in
          (omega (arith, z), λ w. absurd (omega (arith, z)))

  send_quiet : (a b : ℕ) → Send n s s' a b → Quiet n t s s'
  unfolding Moved
  send_quiet a b S =
      quiet_by n t s s' a S.others S.calm (inl S.decision) hold moved (same_crashes n t s s' S.crashed)
    where
      hold : Holds n s s' a
      hold =
          holds_by n s s' a (λ y e. inl (and_first _ _ (sym (S.outbox y) ∙ e)))
          (λ r y e. inl (sym (S.received r y) ∙ e)) S.suspected

      moved : Moved n s s'
      moved x r y e = go (or_cases (same3 x r y a (slot s a) b) _ (sym (S.transit x r y) ∙ e))
        where
          w : (slot s a ≤ s.round a) × (slot s a ≡ 0 → s.decided a ≡ true)
          w = slot_is a (B.outbox_started a b S.owed)

          go : (same3 x r y a (slot s a) b ≡ true) ⊎ (s.transit x r y ≡ true)
              → (s.transit x r y ≡ true) ⊎ ((y < n) × (y ≢ x) × (r ≤ s.round x) × (r ≡ 0 → s.decided x ≡ true))
          go (inr h) = inl h
          go (inl h) =
              let (p, q, v) = same3_on x r y a (slot s a) b h in
              inr (
                omega (arith, S.low_b),
                λ f. S.apart (omega arith),
                omega (arith, w.0, ap s.round p),
                λ f. ap s.decided p ∙ w.1 (omega arith),
              )

  -- all arrivals
  module _ (a r b : ℕ) (A : Arrive n t s s' a r b) where
    arrive_moved : Moved n s s'
    unfolding Moved
    arrive_moved x m y e = inl (and_first _ _ (sym (A.transit x m y) ∙ e))

    arrive_quiet : SameDecision s s' b ⊎ Adopted s s' b
        → ((y : ℕ) → s'.outbox b y ≡ true → (s.outbox b y ≡ true) ⊎ ((y < n) × (y ≢ b) × (1 ≤ s.round b)))
        → ((m y : ℕ) → s'.received b m y ≡ true → (s.received b m y ≡ true) ⊎ ((m ≡ r) × (y ≡ a) × (1 ≤ r)))
        → Quiet n t s s'
    arrive_quiet D out new =
        quiet_by n t s s' b A.others A.calm D hold arrive_moved (same_crashes n t s s' A.crashed)
      where
        heard : (m y : ℕ) → (s.received b m y ≡ true) ⊎ ((m ≡ r) × (y ≡ a) × (1 ≤ r))
            → (s.received b m y ≡ true) ⊎ ((y < n) × (y ≢ b) × (1 ≤ m) × (m ≤ s.round y))
        heard m y (inl h) = inl h
        heard m y (inr h) = inr (
          omega (arith, h.1, A.low),
          λ f. A.apart (sym h.1 ∙ f),
          omega (arith, h.0, h.2),
          omega (arith, h.0, ap s.round h.1, B.transit_round a r b A.sent),
        )

        hold : Holds n s s' b
        hold = holds_by n s s' b out (λ m y e. heard m y (new m y e)) A.suspected

  keep_quiet : (a r b : ℕ) → Keep n t s s' a r b → Quiet n t s s'
  unfolding keeping
  keep_quiet a r b K = arrive_quiet a r b K.arrive (inl K.decision) (λ y e. inl (sym (K.outbox y) ∙ e)) new
    where
      new : (m y : ℕ) → s'.received b m y ≡ true → (s.received b m y ≡ true) ⊎ ((m ≡ r) × (y ≡ a) × (1 ≤ r))
      new m y e = go (or_cases (same m r and same y a) _ (sym (K.received m y) ∙ e))
        where
          go : ((same m r and same y a) ≡ true) ⊎ (s.received b m y ≡ true)
              → (s.received b m y ≡ true) ⊎ ((m ≡ r) × (y ≡ a) × (1 ≤ r))
          go (inl h) = inr (
            same_on m r (and_first _ _ h),
            same_on y a (and_second (same m r) _ h),
            less_on 0 r (and_first _ _ K.kept_here),
          )
          go (inr h) = inl h

  ignore_quiet : (a r b : ℕ) → Ignore n t s s' a r b → Quiet n t s s'
  ignore_quiet a r b G =
      arrive_quiet a r b G.arrive (inl G.decision) (λ y e. inl (sym (G.outbox y) ∙ e))
      (λ m y e. inl (sym (G.received m y) ∙ e))

  adopt_quiet : (a r b : ℕ) → Adopt n t s s' a r b → Quiet n t s s'
  unfolding taken
  adopt_quiet a r b D = arrive_quiet a r b D.arrive (inr adopted) out (λ m y e. inl (sym (D.received m y) ∙ e))
    where
      began : 1 ≤ s.round b
      began = less_on 0 (s.round b) (and_second (not (s.decided b)) _ (and_second (same r 0) _ D.taken_here))

      adopted : Adopted s s' b
      adopted = record {
        started = began;
        undecided = not_on _ (and_first _ _ (and_second (same r 0) _ D.taken_here));
        decided = D.decided;
        whose = a;
        theirs =
            B.transit_decided a b
            (ap (λ m. s.transit a m b) (sym (same_on r 0 (and_first _ _ D.taken_here))) ∙ D.arrive.sent);
        estimate = D.estimate;
        value = D.value;
      }

      out : (y : ℕ) → s'.outbox b y ≡ true → (s.outbox b y ≡ true) ⊎ ((y < n) × (y ≢ b) × (1 ≤ s.round b))
      out y e =
          let h = sym (D.outbox y) ∙ e in
          inr (
            less_on y n (and_first _ _ h),
            λ f. clash (same y b) (rw f (same_refl b)) (not_on _ (and_first _ _ (and_second (less y n) _ h))),
            began,
          )

  crash_quiet : (a : ℕ) → Crash n t s s' a → Quiet n t s s'
  crash_quiet a C =
      quiet_by n t s s' a C.others C.calm (inl C.decision) hold (still_moved n s s' C.transit) more
    where
      hold : Holds n s s' a
      hold =
          holds_by n s s' a (λ y e. inl (sym (C.outbox y) ∙ e))
          (λ r y e. inl (sym (C.received r y) ∙ e)) C.suspected

      low : (x : ℕ) → (same x a ≡ true) ⊎ (s.crashed x ≡ true) → (s.crashed x ≡ true) ⊎ (x < n)
      low x (inl h) = inr (omega (arith, same_on x a h, C.low))
      low x (inr h) = inl h

      more : Crashes n t s s'
      more = record {
        up = λ x e. C.crashed x ∙ or_mk_r (same x a) _ e;
        low = λ x e. low x (or_cases (same x a) _ (sym (C.crashed x) ∙ e));
        few = λ w. omega (
          arith,
          C.few,
          count_one n s.crashed s'.crashed a (λ x ne. C.crashed x ∙ or_off_l _ _ (same_off x a ne)),
        );
      }

  suspect_quiet : (a b : ℕ) → Suspect n s s' a b → Quiet n t s s'
  suspect_quiet a b S =
      quiet_by n t s s' a S.others S.calm (inl S.decision) hold (still_moved n s s' S.transit)
      (same_crashes n t s s' S.crashed)
    where
      one : (y : ℕ) → (same y b ≡ true) ⊎ (s.suspected a y ≡ true)
          → (s.suspected a y ≡ true) ⊎ ((y ≢ a) × (s.crashed y ≡ true))
      one y (inl h) = let e = same_on y b h in inr (λ f. S.apart (sym f ∙ e), ap s.crashed e ∙ S.gone)
      one y (inr h) = inl h

      hold : Holds n s s' a
      hold = record {
        outbox = λ y e. inl (sym (S.outbox y) ∙ e);
        received = λ r y e. inl (sym (S.received r y) ∙ e);
        suspected = λ y e. S.suspected y ∙ or_mk_r (same y b) _ e;
        suspects = λ y e. one y (or_cases (same y b) _ (sym (S.suspected y) ∙ e));
      }

-- ---- every step is of one of four kinds
pub data Kind (n t : ℕ) (s s' : View) : Type 0 where
  quietly : Quiet n t s s' → Kind n t s s'
  starting : {a v : ℕ} → Start n s s' a v → Kind n t s s'
  opening : {a q : ℕ} → Open n t s s' a q → Kind n t s s'
  deciding : {a q : ℕ} → Decide n t s s' a q → Kind n t s s'

pub kind : (n t : ℕ) (s s' : View) → Basic n t s → OneStep n t s s' → Kind n t s s'
kind n t s s' B (starts S) = starting S
kind n t s s' B (sends {a} {b} S) = quietly (send_quiet n t s s' B a b S)
kind n t s s' B (keeps {a} {r} {b} K) = quietly (keep_quiet n t s s' B a r b K)
kind n t s s' B (adopts {a} {r} {b} A) = quietly (adopt_quiet n t s s' B a r b A)
kind n t s s' B (ignores {a} {r} {b} G) = quietly (ignore_quiet n t s s' B a r b G)
kind n t s s' B (opens O) = opening O
kind n t s s' B (decides D) = deciding D
kind n t s s' B (crashes {a} C) = quietly (crash_quiet n t s s' B a C)
kind n t s s' B (suspects {a} {b} S) = quietly (suspect_quiet n t s s' B a b S)
