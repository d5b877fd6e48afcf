-- The invariants of decisions: each is the last estimate of a process that decided at a close (D1), such a close
-- before the last round locks all estimates (D2), and a round that does not decide costs a crash (B1).
use Rattle.std.specs.Prelude.{◌≡◌, refl, ◌≢◌, ◌⊎◌, Bool, true, not, ℕ, suc, ◌+◌, ◌≤◌, ◌<◌}
use Rattle.std.proofs.Math.Path.{sym}
use Rattle.std.proofs.Common.{ap, ◌∙◌, inl, inr, arith}
use Rattle.sets.specs.TruthLaws.{Is, is, on, off, clash, off_by, not_on, eq-or}
use Rattle.sets.specs.Lists.{count_to}
use Rattle.sets.specs.CountLaws.{count_cong, count_mono, count_more}
use Rattle.agreement.specs.View.View.{View, next, Calm, SameDecision, Differ}
use Rattle.agreement.specs.View.View.{Start, Close, Open, Decide, OneStep, Opened}
use Rattle.agreement.specs.View.Basic.{Basic}
use Rattle.agreement.specs.View.FourKinds.{at, others_calm, Adopted, Quiet, Kind}
use Rattle.agreement.specs.View.FourKinds.{quietly, starting, opening, deciding, kind}
use Rattle.agreement.specs.View.NewEstimate.{next_current, next-closed, next_self, closed_low}
use Rattle.agreement.specs.View.NewEstimate.{close_closed, own_row, own_entry, close_fill, close_from}
use Rattle.agreement.specs.View.NewEstimate.{Grow, start_grow, open_grow, decide_grow, old_or-new}
use Rattle.agreement.specs.Invariants.Estimates.{Estimates}
use Rattle.agreement.specs.Invariants.Gap.{gap}

-- how many processes a set leaves out
unfoldable pub outside : ℕ → (ℕ → Bool) → ℕ
outside n p = count_to n (λ y. not (p y))

-- x's decision is the last estimate of some process that decided at a close
pub record Source (n : ℕ) (s : View) (x : ℕ) : Type 0 where
  pub closer : ℕ
  pub low : closer < n
  pub started : 1 ≤ s.round closer
  pub closed : s.closed closer ≡ suc (s.round closer)
  pub estimate : (k : ℕ) → s.estimate x k ≡ s.row closer (s.round closer) k
  pub value : (k : ℕ) → s.value x k ≡ s.entry closer (s.round closer) k

pub record Decisions (n t : ℕ) (s : View) : Type 0 where
  -- D1
  pub source : (x : ℕ) → s.decided x ≡ true → Source n s x
  -- D2: where a decided at a close before the last round, every estimate of the round before is a's decision
  pub lock : (a x q : ℕ) → s.closed a ≡ suc (s.round a) → s.round a ≡ suc q → q < t → q < s.closed x → (k : ℕ)
      → k < n → s.row x q k ≡ s.row a (suc q) k
  -- B1
  pub rounds : (a : ℕ)
      → s.round a ≤ (count_to n s.crashed + 2) + (outside n (s.previous a) + outside n (s.current a))

outside_ext : (n : ℕ) (p q : ℕ → Bool) → ((y : ℕ) → p y ≡ q y) → outside n p ≡ outside n q
unfolding outside
outside_ext n p q h = count_cong n (λ y. not (p y)) (λ y. not (q y)) (λ y d. ap not (h y))

-- a smaller set leaves out more
outside_more : (n : ℕ) (p q : ℕ → Bool) (a : ℕ) → ((y : ℕ) → q y ≡ true → p y ≡ true) → a < n → p a ≢ q a
    → suc (outside n p) ≤ outside n q
unfolding outside
outside_more n p q a h d ne = go (is (p a)) (is (q a))
  where
    drop : (y : ℕ) → y < n → not (p y) ≡ true → not (q y) ≡ true
    drop y w e = ap not (off_by (q y) (λ f. clash (p y) (h y f) (not_on _ e)))

    go : Is (p a) → Is (q a) → suc (count_to n (λ y. not (p y))) ≤ count_to n (λ y. not (q y))
    go (on e) (on f) = absurd (ne (e ∙ sym f))
    go (on e) (off f) = count_more n (λ y. not (p y)) (λ y. not (q y)) a drop d (ap not e) (ap not f)
    go (off e) (on f) = clash (p a) (h a f) e
    go (off e) (off f) = absurd (ne (e ∙ sym f))

-- a decision stays, also where another takes it over
source_kept : (n : ℕ) (s s' : View) (x y : ℕ) (S : Source n s y) → Calm s s' S.closer
    → ((k : ℕ) → s'.estimate x k ≡ s.estimate y k) → ((k : ℕ) → s'.value x k ≡ s.value y k) → Source n s' x
source_kept n s s' x y S C e v = record {
  closer = S.closer;
  low = S.low;
  started = omega (arith, C.round, S.started);
  closed = omega (arith, C.round, C.closed, S.closed);
  estimate =
      λ k. rw C.round (e k ∙ S.estimate k ∙ sym (C.row (s.round S.closer) k (omega (arith, S.closed))));
  value = λ k. rw C.round (v k ∙ S.value k ∙ sym (C.entry (s.round S.closer) k (omega (arith, S.closed))));
}

module _ (n t : ℕ) (s s' : View) (B : Basic n t s) (D : Decisions n t s) where
  -- the bound of a process whose round and sets stay
  rounds_kept : (x : ℕ) → Calm s s' x → count_to n s.crashed ≤ count_to n s'.crashed
      → s'.round x ≤ (count_to n s'.crashed + 2) + (outside n (s'.previous x) + outside n (s'.current x))
  rounds_kept x C f = omega (
    arith,
    D.rounds x,
    C.round,
    outside_ext n (s'.previous x) (s.previous x) C.previous,
    outside_ext n (s'.current x) (s.current x) C.current,
  )

  quiet_decisions : Quiet n t s s' → Decisions n t s'
  quiet_decisions Q = record {
    source = λ x e. go x e (Q.decision x);
    lock = λ a x q c r d h k kn.
        let w : q < s.closed x = omega (arith, (Q.calm x).closed) in
        let w' : suc q < s.closed a = omega (arith, (Q.calm a).closed) in
        (Q.calm x).row q k w
        ∙ D.lock a x q (omega (arith, (Q.calm a).closed, (Q.calm a).round)) (sym (Q.calm a).round ∙ r) d w k kn
        ∙ sym ((Q.calm a).row (suc q) k w');
    rounds = λ x. rounds_kept x (Q.calm x) (count_mono n s.crashed s'.crashed (λ y d e. Q.crashes.up y e));
  }
    where
      go : (x : ℕ) → s'.decided x ≡ true → SameDecision s s' x ⊎ Adopted s s' x → Source n s' x
      go x e (inl w) =
          let S = D.source x (sym w.decided ∙ e) in
          source_kept n s s' x x S (Q.calm S.closer) w.estimate w.value
      go x e (inr w) =
          let S = D.source w.whose w.theirs in
          source_kept n s s' x w.whose S (Q.calm S.closer) w.estimate w.value

  -- a start or a close of a, with what is asked of a itself
  module _ (a : ℕ) (G : Grow n s s' a) where
    -- a is no closer before, and the others are as they were
    closer_other : (c : ℕ) → s.closed c ≡ suc (s.round c) → c ≢ a
    closer_other c h e = omega (arith, G.closed_was, ap s.closed e, ap s.round e)

    grow_decisions : (s'.decided a ≡ true → Source n s' a)
        → ((x q : ℕ) → s'.closed a ≡ suc (s'.round a) → s'.round a ≡ suc q → q < t → q < s.closed x → (k : ℕ)
        → k < n → s.row x q k ≡ s'.row a (suc q) k)
        → (s'.round a ≤ (count_to n s.crashed + 2) + (outside n (s'.previous a) + outside n (s'.current a)))
        → Decisions n t s'
    grow_decisions source lock bound = record {
      source = at a source (λ x ne e.
          let S = D.source x (sym (G.others.decided x ne) ∙ e) in
          source_kept n s s' x x S (others_calm s s' a S.closer G.others (closer_other S.closer S.closed))
          (λ k. G.others.estimate x k ne) (λ k. G.others.value x k ne));
      lock = at a (λ x q c r d h k kn. new x q c r d (old_or-new n s s' a G x q h) k kn)
          (λ b ne x q c r d h k kn. old b x q ne c r d (old_or-new n s s' a G x q h) k kn);
      rounds =
          at a (omega (arith, same))
          (λ x ne. rounds_kept x (others_calm s s' a x G.others ne) (omega (arith, same)));
    }
      where
        same : count_to n s'.crashed ≡ count_to n s.crashed
        same = count_cong n s'.crashed s.crashed (λ x d. G.crashed x)

        new : (x q : ℕ) → s'.closed a ≡ suc (s'.round a) → s'.round a ≡ suc q → q < t
            → (q < s.closed x) ⊎ ((x ≡ a) × (q ≡ s.closed a))
            → (k : ℕ) → k < n → s'.row x q k ≡ s'.row a (suc q) k
        new x q c r d (inl o) k kn = G.row x q k o ∙ lock x q c r d o k kn
        new x q c r d (inr w) k kn = absurd (omega (arith, w.1, G.closed_here))

        -- an estimate of so late a round is no new one (R1)
        old : (b x q : ℕ) → b ≢ a → s'.closed b ≡ suc (s'.round b) → s'.round b ≡ suc q → q < t
            → (q < s.closed x) ⊎ ((x ≡ a) × (q ≡ s.closed a))
            → (k : ℕ) → k < n → s'.row x q k ≡ s'.row b (suc q) k
        old b x q ne c r d (inl o) k kn =
            G.row x q k o
            ∙ D.lock b x q (omega (arith, G.others.closed b ne, G.others.round b ne))
            (sym (G.others.round b ne) ∙ r) d o k kn
            ∙ sym (G.row b (suc q) k (omega (arith, G.others.closed b ne)))
        old b x q ne c r d (inr w) k kn =
            absurd (omega (arith, w.1, G.closed_was, G.others.closed b ne, B.sync b a G.low G.running))

  start_decisions : (a v : ℕ) → Start n s s' a v → Decisions n t s'
  start_decisions a v S = grow_decisions a G
      (λ e. clash (s'.decided a) e (S.decided ∙ G.undecided))
      (λ x q c r d h k kn. absurd (omega (arith, S.round, S.was, G.closed_was, G.closed_here)))
      (omega (arith, S.round))
    where
      G : Grow n s s' a
      G = start_grow n t s s' B a v S

  module _ (E : Estimates n t s) (a q : ℕ) (C : Close n s s' a q) where
    -- two estimates of the next set that differ cost q crashes: values never differ,
    -- so one has an entry that the other lacks
    differs : (y k : ℕ) → next s a y ≡ true → (p : Bool) (v : ℕ) → p ≡ s.row y q k → v ≡ s.entry y q k
        → Differ p v (s'.row a (suc q) k) (s'.entry a (suc q) k) → q ≤ count_to n s.crashed
    unfolding Differ
    differs y k h p v i j (inl ne) = go (is (s.row y q k)) (is (s'.row a (suc q) k))
      where
        go : Is (s.row y q k) → Is (s'.row a (suc q) k) → q ≤ count_to n s.crashed
        go (on e) (on f) = absurd (ne (i ∙ e ∙ sym f))
        go (on e) (off f) = clash (s'.row a (suc q) k) (close_fill n t s s' B a q C y k h e) f
        go (off e) (off f) = absurd (ne (i ∙ e ∙ sym f))
        go (off e) (on f) =
            let (z, m, w, g) = close_from n t s s' B a q C k f in
            gap n t s B E z y q k (next-closed n t s s' B a q C z m) (next-closed n t s s' B a q C y h) w e
    differs y k h p v i j (inr w) =
        let (z, m, r, g) = close_from n t s s' B a q C k w.1 in
        absurd (w.2 (j ∙ (E.entries y q k (next-closed n t s s' B a q C y h) (sym i ∙ w.0)).0
        ∙ sym (E.entries z q k (next-closed n t s s' B a q C z m) r).0 ∙ sym g))

  -- B1: if the sets differ, they leave out more than before; else the estimates do, and rounds are few
  open_decisions : Estimates n t s → (a q : ℕ) → Open n t s s' a q → Decisions n t s'
  open_decisions E a q O = grow_decisions a G
      (λ e. clash (s'.decided a) e O.decided)
      (λ x r c h d w k kn. absurd (omega (arith, O.round, C.closed, close_closed n t s s' B a q C)))
      (go O.why)
    where
      C : Close n s s' a q
      C = O.close

      G : Grow n s s' a
      G = open_grow n t s s' B a q O

      few : q ≤ count_to n s.crashed
          → s'.round a ≤ (count_to n s.crashed + 2) + (outside n (s'.previous a) + outside n (s'.current a))
      few h = omega (arith, O.round)

      go : ((y : ℕ) × (y < n) × (s.previous a y ≢ next s a y))
          ⊎ (((k : ℕ) × (k < n)
          × Differ (s.estimate a k) (s.value a k) (s'.row a (suc q) k) (s'.entry a (suc q) k))
          ⊎ ((y k : ℕ) × (y < n) × (y ≢ a) × (next s a y ≡ true) × (k < n)
          × Differ (s.row y q k) (s.entry y q k) (s'.row a (suc q) k) (s'.entry a (suc q) k)))
          → s'.round a ≤ (count_to n s.crashed + 2) + (outside n (s'.previous a) + outside n (s'.current a))
      go (inl w) = omega (
        arith,
        O.round,
        C.is_at,
        D.rounds a,
        outside_ext n (s'.previous a) (s.current a) O.previous,
        outside_ext n (s'.current a) (next s a) O.current,
        outside_more n (s.previous a) (next s a) w.0
            (λ y e. B.nested a y (omega (arith, C.is_at)) (next_current s a y e)) w.1 w.2,
      )
      go (inr (inl w)) =
          few (differs E a q C a w.0 (next_self n t s s' B a q C) _ _ (own_row n t s s' B a q C w.0)
          (own_entry n t s s' B a q C w.0) w.2)
      go (inr (inr w)) = few (differs E a q C w.0 w.1 w.4 _ _ refl refl w.6)

  -- D2: who has closed as many rounds is in the previous set, so in the next one, and the test compared its estimate
  decide_decisions : Estimates n t s → (a q : ℕ) → Decide n t s s' a q → Decisions n t s'
  decide_decisions E a q F = grow_decisions a G
      (λ e. record {
        closer = a;
        low = C.low;
        started = omega (arith, F.round);
        closed = closed;
        estimate = λ k. C.estimate k ∙ ap (λ l. s'.row a l k) (sym F.round);
        value = λ k. C.value k ∙ ap (λ l. s'.entry a l k) (sym F.round);
      })
      (λ x r c h d w k kn. let z : r ≡ q = omega (arith, F.round) in
      rw z (lock x (omega arith) (omega arith) k kn (eq-or x a)))
      (omega (
        arith,
        D.rounds a,
        F.round,
        C.is_at,
        outside_ext n (s'.previous a) (s.previous a) F.previous,
        outside_ext n (s'.current a) (s.current a) F.current,
      ))
    where
      C : Close n s s' a q
      C = F.close

      G : Grow n s s' a
      G = decide_grow n t s s' B a q F

      closed : s'.closed a ≡ suc (s'.round a)
      closed = omega (arith, C.closed, close_closed n t s s' B a q C, F.round)

      member : (x : ℕ) → q < t → q < s.closed x → Is (s.previous a x) → next s a x ≡ true
      member x d h (on e) = sym (F.same_sets d x) ∙ e
      member x d h (off e) =
          absurd
          (omega (arith, C.is_at, E.outside_previous a x (closed_low n t s B x q h) (omega (arith, C.is_at)) e))

      lock : (x : ℕ) → q < t → q < s.closed x → (k : ℕ) → k < n → (x ≡ a) ⊎ (x ≢ a)
          → s.row x q k ≡ s'.row a (suc q) k
      lock x d h k kn (inl e) = rw e (sym (own_row n t s s' B a q C k) ∙ F.same_own d k kn)
      lock x d h k kn (inr ne) = F.same_rows d x k kn ne (member x d h (is (s.previous a x)))

pub decisions_step : (n t : ℕ) (s s' : View) → Basic n t s → Estimates n t s → Decisions n t s → OneStep n t s s'
    → Decisions n t s'
decisions_step n t s s' B E D S = go (kind n t s s' B S)
  where
    go : Kind n t s s' → Decisions n t s'
    go (quietly Q) = quiet_decisions n t s s' B D Q
    go (starting {a} {v} S) = start_decisions n t s s' B D a v S
    go (opening {a} {q} O) = open_decisions n t s s' B D E a q O
    go (deciding {a} {q} F) = decide_decisions n t s s' B D E a q F

pub decisions_opened : (n t : ℕ) (s : View) → Opened s → Decisions n t s
decisions_opened n t s O = record {
  source = λ x e. clash (s.decided x) e (O.decided x);
  lock = λ a x q c r. absurd (omega (arith, O.round a));
  rounds = λ a. omega (arith, O.round a);
}
