-- The invariants of the estimates that processes close with: they only grow, hold start values,
-- and carry on what running processes had.
-- Only a start or a close makes an estimate, so each is shown of the one new estimate and carried over for the rest.
use Rattle.std.specs.Prelude.{◌≡◌, refl, ◌≢◌, ◌⊎◌, true, false, ℕ, suc, ◌≤◌, ◌<◌}
use Rattle.std.proofs.Common.{sym, ap, ◌∙◌, inl, inr, arith}
use Rattle.sets.specs.TruthLaws.{Is, is, on, off, clash, same_on, same_refl, less_mk, eq-or}
use Rattle.agreement.specs.View.View.{View, next, Start, Close, Open, Decide, OneStep, Opened}
use Rattle.agreement.specs.View.Basic.{Basic}
use Rattle.agreement.specs.Invariants.BasicKept.{basic_step}
use Rattle.agreement.specs.View.FourKinds.{at, Quiet, Kind, quietly, starting, opening, deciding, kind}
use Rattle.agreement.specs.View.NewEstimate.{next_current, next_off, next-closed, next_self, closed_low}
use Rattle.agreement.specs.View.NewEstimate.{close_closed, close_fill, close_from, Grow, start_grow, open_grow}
use Rattle.agreement.specs.View.NewEstimate.{decide_grow, round_up, closed_up, crashed_closed, old_or-new}

pub record Estimates (n t : ℕ) (s : View) : Type 0 where
  -- E1: an estimate has all that the one before it has
  pub grows : (x l k : ℕ) → suc l < s.closed x → s.row x l k ≡ true → s.row x (suc l) k ≡ true
  -- E2: an entry is the value that its process started with
  pub entries : (x l k : ℕ) → l < s.closed x → s.row x l k ≡ true
      → (s.entry x l k ≡ s.entry k 0 k) × (1 ≤ s.round k)
  -- E3: a process has its own entry
  pub own : (x l : ℕ) → l < s.closed x → s.row x l x ≡ true
  -- E5: it has what a member of its current set had a round before
  pub heard : (x y q : ℕ) → s.current x y ≡ true → suc q < s.round x
      → (q < s.closed y) × ((k : ℕ) → s.row y q k ≡ true → s.row x (suc q) k ≡ true)
  -- E6: what a had and b lacks a round later, a crashed with, before it could tell more
  pub missed : (a b l k : ℕ) → l < s.closed a → suc l < s.closed b → s.row a l k ≡ true → s.row b (suc l) k ≡ false
      → (s.crashed a ≡ true) × (s.closed a ≤ suc (suc l))
  -- E7: what is new in an estimate was new to some process a round before
  pub learnt : (x l k : ℕ) → suc l < s.closed x → s.row x (suc l) k ≡ true → s.row x l k ≡ false
      → (y : ℕ) × (l < s.closed y) × (s.row y l k ≡ true) × ((p : ℕ) → l ≡ suc p → s.row y p k ≡ false)
  -- S3: who is outside the sets has closed few rounds
  pub outside_current : (a x : ℕ) → x < n → 1 ≤ s.round a → s.current a x ≡ false → s.closed x ≤ s.round a
  pub outside_previous : (a x : ℕ) → x < n → 1 ≤ s.round a → s.previous a x ≡ false → suc (s.closed x) ≤ s.round a

-- who is outside the previous set is outside the current one, and has crashed
pub outside_crashed : (n t : ℕ) (s : View) → Basic n t s → (a x : ℕ) → x < n → 1 ≤ s.round a
    → (s.current a x ≡ false) ⊎ (s.previous a x ≡ false) → s.crashed x ≡ true
outside_crashed n t s B a x d h (inl e) = B.suspected_crashed a x (B.outside a x d h e)
outside_crashed n t s B a x d h (inr e) = go (is (s.current a x))
  where
    go : Is (s.current a x) → s.crashed x ≡ true
    go (on w) = clash (s.previous a x) (B.nested a x h w) e
    go (off w) = B.suspected_crashed a x (B.outside a x d h w)

-- ---- what was said of old estimates still holds: they stay, and rounds are never taken back
record Later (s s' : View) : Type 0 where
  closed : (x : ℕ) → s.closed x ≤ s'.closed x
  round : (x : ℕ) → s.round x ≤ s'.round x
  row : (x l k : ℕ) → l < s.closed x → s'.row x l k ≡ s.row x l k
  entry : (x l k : ℕ) → l < s.closed x → s'.entry x l k ≡ s.entry x l k

module _ (n t : ℕ) (s s' : View) (B : Basic n t s) (E : Estimates n t s) (L : Later s s') where
  keep_grows : (x l k : ℕ) → suc l < s.closed x → s'.row x l k ≡ true → s'.row x (suc l) k ≡ true
  keep_grows x l k d e = L.row x (suc l) k d ∙ E.grows x l k d (sym (L.row x l k (omega arith)) ∙ e)

  first_entry : (k : ℕ) → 1 ≤ s.round k → s'.entry k 0 k ≡ s.entry k 0 k
  first_entry k h = L.entry k 0 k (omega (arith, B.closed_lo k))

  keep_entries : (x l k : ℕ) → l < s.closed x → s'.row x l k ≡ true
      → (s'.entry x l k ≡ s'.entry k 0 k) × (1 ≤ s'.round k)
  keep_entries x l k d e =
      let (v, h) = E.entries x l k d (sym (L.row x l k d) ∙ e) in
      (L.entry x l k d ∙ v ∙ sym (first_entry k h), omega (arith, L.round k))

  keep_heard : (x y q : ℕ) → s.current x y ≡ true → suc q < s.round x
      → (q < s'.closed y) × ((k : ℕ) → s'.row y q k ≡ true → s'.row x (suc q) k ≡ true)
  keep_heard x y q e d =
      let (h, f) = E.heard x y q e d in (
        omega (arith, L.closed y),
        λ k w. L.row x (suc q) k (omega (arith, B.closed_lo x)) ∙ f k (sym (L.row y q k h) ∙ w),
      )

  keep_learnt : (x l k : ℕ) → suc l < s.closed x → s'.row x (suc l) k ≡ true → s'.row x l k ≡ false
      → (y : ℕ) × (l < s'.closed y) × (s'.row y l k ≡ true) × ((p : ℕ) → l ≡ suc p → s'.row y p k ≡ false)
  keep_learnt x l k d e f =
      let (y, h, w, v) = E.learnt x l k d (sym (L.row x (suc l) k d) ∙ e) (sym (L.row x l k (omega arith)) ∙ f) in
      (y, omega (arith, L.closed y), L.row y l k h ∙ w, λ p z. L.row y p k (omega arith) ∙ v p z)

-- ---- a quiet record
module _ (n t : ℕ) (s s' : View) (B : Basic n t s) (E : Estimates n t s) where
  quiet_estimates : Quiet n t s s' → Estimates n t s'
  quiet_estimates Q = record {
    grows = λ x l k d. keep_grows n t s s' B E L x l k (omega (arith, (Q.calm x).closed));
    entries = λ x l k d. keep_entries n t s s' B E L x l k (omega (arith, (Q.calm x).closed));
    own = λ x l d. let h : l < s.closed x = omega (arith, (Q.calm x).closed) in (Q.calm x).row l x h ∙ E.own x l h;
    heard =
        λ x y q e d.
        keep_heard n t s s' B E L x y q (sym ((Q.calm x).current y) ∙ e) (omega (arith, (Q.calm x).round));
    missed = λ a b l k d d' e f.
        let h : l < s.closed a = omega (arith, (Q.calm a).closed) in
        let h' : suc l < s.closed b = omega (arith, (Q.calm b).closed) in
        let (c, z) = E.missed a b l k h h' (sym ((Q.calm a).row l k h) ∙ e) (sym ((Q.calm b).row (suc l) k h') ∙ f) in
        (Q.crashes.up a c, omega (arith, (Q.calm a).closed));
    learnt = λ x l k d. keep_learnt n t s s' B E L x l k (omega (arith, (Q.calm x).closed));
    outside_current = λ a x d h e.
        omega (
          arith,
          (Q.calm a).round,
          (Q.calm x).closed,
          E.outside_current a x d (omega (arith, (Q.calm a).round)) (sym ((Q.calm a).current x) ∙ e),
        );
    outside_previous = λ a x d h e.
        omega (
          arith,
          (Q.calm a).round,
          (Q.calm x).closed,
          E.outside_previous a x d (omega (arith, (Q.calm a).round)) (sym ((Q.calm a).previous x) ∙ e),
        );
  }
    where
      L : Later s s'
      L = record {
        closed = λ x. omega (arith, (Q.calm x).closed);
        round = λ x. omega (arith, (Q.calm x).round);
        row = λ x. (Q.calm x).row;
        entry = λ x. (Q.calm x).entry;
      }

-- ---- a start or a close, given what is asked of the new estimate of a
record Here (n : ℕ) (s s' : View) (a : ℕ) : Type 0 where
  grows : (l k : ℕ) → suc l ≡ s.closed a → s.row a l k ≡ true → s'.row a (suc l) k ≡ true
  entries : (k : ℕ) → s'.row a (s.closed a) k ≡ true
      → (s'.entry a (s.closed a) k ≡ s'.entry k 0 k) × (1 ≤ s'.round k)
  own : s'.row a (s.closed a) a ≡ true
  heard : (y q : ℕ) → s'.current a y ≡ true → suc q < s'.round a
      → (q < s'.closed y) × ((k : ℕ) → s'.row y q k ≡ true → s'.row a (suc q) k ≡ true)
  cover : (y l k : ℕ) → suc l ≡ s.closed a → l < s.closed y → s.row y l k ≡ true
      → (s'.row a (suc l) k ≡ true) ⊎ (s.crashed y ≡ true)
  learnt : (l k : ℕ) → suc l ≡ s.closed a → s'.row a (suc l) k ≡ true → s.row a l k ≡ false
      → (y : ℕ) × (l < s.closed y) × (s.row y l k ≡ true) × ((p : ℕ) → l ≡ suc p → s.row y p k ≡ false)
  outside_current : (x : ℕ) → x < n → s'.current a x ≡ false → s.closed x ≤ s'.round a
  outside_previous : (x : ℕ) → x < n → s'.previous a x ≡ false → suc (s.closed x) ≤ s'.round a

module _ (n t : ℕ) (s s' : View) (B : Basic n t s) (E : Estimates n t s) (B' : Basic n t s') (a : ℕ)
    (G : Grow n s s' a) where
  L : Later s s'
  L = record { closed = closed_up n s s' a G; round = round_up n s s' a G; row = G.row; entry = G.entry }

  grow_heard : (x y q : ℕ) → s.current x y ≡ true → suc q < s.round x
      → (q < s'.closed y) × ((k : ℕ) → s'.row y q k ≡ true → s'.row x (suc q) k ≡ true)
  grow_heard = keep_heard n t s s' B E L

  grow_entries : (x l k : ℕ) → l < s.closed x → s.row x l k ≡ true
      → (s.entry x l k ≡ s'.entry k 0 k) × (1 ≤ s'.round k)
  grow_entries x l k d e =
      let (v, h) = E.entries x l k d e in
      (v ∙ sym (first_entry n t s s' B E L k h), omega (arith, round_up n s s' a G k))

  grow_estimates : Here n s s' a → Estimates n t s'
  grow_estimates H = record {
    grows = λ x l k d. grows x l k (old_or-new n s s' a G x (suc l) d);
    entries = λ x l k d. entries x l k (old_or-new n s s' a G x l d);
    own = λ x l d. own x l (old_or-new n s s' a G x l d);
    heard =
        at a H.heard (λ x ne y q e d.
        grow_heard x y q (sym (G.others.current x y ne) ∙ e) (omega (arith, G.others.round x ne)));
    missed = λ x b l k d d'. missed x b l k (old_or-new n s s' a G x l d) (old_or-new n s s' a G b (suc l) d');
    learnt = λ x l k d. learnt x l k (old_or-new n s s' a G x (suc l) d);
    outside_current = λ b x d h e. omega (arith, gone b x d h (inl e), current b x d h e);
    outside_previous = λ b x d h e. omega (arith, gone b x d h (inr e), previous b x d h e);
  }
    where
      New : ℕ → ℕ → Type 0
      New x l = (l < s.closed x) ⊎ ((x ≡ a) × (l ≡ s.closed a))

      last : (l : ℕ) → suc l ≡ s.closed a → l < s.closed a
      last l h = omega arith

      grows : (x l k : ℕ) → New x (suc l) → s'.row x l k ≡ true → s'.row x (suc l) k ≡ true
      grows x l k (inl d) e = keep_grows n t s s' B E L x l k d e
      grows x l k (inr w) e =
          rw w.0
          (H.grows l k w.1 (sym (G.row a l k (last l w.1)) ∙ ap (λ y. s'.row y l k) (sym w.0) ∙ e))

      entries : (x l k : ℕ) → New x l → s'.row x l k ≡ true → (s'.entry x l k ≡ s'.entry k 0 k) × (1 ≤ s'.round k)
      entries x l k (inl d) e = keep_entries n t s s' B E L x l k d e
      entries x l k (inr w) e = rw (w.0, w.1) (H.entries k (rw (w.0, w.1) at e))

      own : (x l : ℕ) → New x l → s'.row x l x ≡ true
      own x l (inl d) = G.row x l x d ∙ E.own x l d
      own x l (inr w) = rw (w.0, w.1) H.own

      missed : (x b l k : ℕ) → New x l → New b (suc l) → s'.row x l k ≡ true → s'.row b (suc l) k ≡ false
          → (s'.crashed x ≡ true) × (s'.closed x ≤ suc (suc l))
      missed x b l k u v e f = go u v
        where
          Goal : Type 0
          Goal = (s'.crashed x ≡ true) × (s'.closed x ≤ suc (suc l))

          from_old : s.crashed x ≡ true → s.closed x ≤ suc (suc l) → Goal
          from_old h m = (G.crashed x ∙ h, omega (arith, crashed_closed n s s' a G x h))

          covered : b ≡ a → suc l ≡ s.closed a → (s'.row a (suc l) k ≡ true) ⊎ (s.crashed x ≡ true) → Goal
          covered h h' (inl w) = clash (s'.row b (suc l) k) (ap (λ y. s'.row y (suc l) k) h ∙ w) f
          covered h h' (inr w) = from_old w (omega (arith, G.closed_was, B.sync x a G.low G.running))

          go : New x l → New b (suc l) → Goal
          go (inl o) (inl o') =
              let (c, z) = E.missed x b l k o o' (sym (G.row x l k o) ∙ e) (sym (G.row b (suc l) k o') ∙ f) in
              from_old c z
          go (inl o) (inr w) = covered w.0 w.1 (H.cover x l k w.1 o (sym (G.row x l k o) ∙ e))
          go (inr w) (inl o') = absurd (omega (arith, G.closed_was, w.1, B.sync b a G.low G.running))
          go (inr w) (inr w') = absurd (omega (arith, w.1, w'.1))

      learnt : (x l k : ℕ) → New x (suc l) → s'.row x (suc l) k ≡ true → s'.row x l k ≡ false
          → (y : ℕ) × (l < s'.closed y) × (s'.row y l k ≡ true) × ((p : ℕ) → l ≡ suc p → s'.row y p k ≡ false)
      learnt x l k (inl d) e f = keep_learnt n t s s' B E L x l k d e f
      learnt x l k (inr w) e f =
          let (y, h, g, v) =
          H.learnt l k w.1 (rw w.0 at e) (sym (G.row a l k (last l w.1)) ∙ (rw w.0 at f)) in
          (y, omega (arith, closed_up n s s' a G y), G.row y l k h ∙ g, λ p z. G.row y p k (omega arith) ∙ v p z)

      gone : (b x : ℕ) → x < n → 1 ≤ s'.round b → (s'.current b x ≡ false) ⊎ (s'.previous b x ≡ false)
          → s'.closed x ≡ s.closed x
      gone b x d h e = crashed_closed n s s' a G x (sym (G.crashed x) ∙ outside_crashed n t s' B' b x d h e)

      current : (b x : ℕ) → x < n → 1 ≤ s'.round b → s'.current b x ≡ false → s.closed x ≤ s'.round b
      current = at a (λ x d h e. H.outside_current x d e) (λ b ne x d h e.
          omega (
            arith,
            G.others.round b ne,
            E.outside_current b x d (omega (arith, G.others.round b ne)) (sym (G.others.current b x ne) ∙ e),
          ))

      previous : (b x : ℕ) → x < n → 1 ≤ s'.round b → s'.previous b x ≡ false → suc (s.closed x) ≤ s'.round b
      previous = at a (λ x d h e. H.outside_previous x d e) (λ b ne x d h e.
          omega (
            arith,
            G.others.round b ne,
            E.outside_previous b x d (omega (arith, G.others.round b ne)) (sym (G.others.previous b x ne) ∙ e),
          ))

-- ---- a start
module _ (n t : ℕ) (s s' : View) (B : Basic n t s) (E : Estimates n t s) (B' : Basic n t s') where
  start_estimates : (a v : ℕ) → Start n s s' a v → Estimates n t s'
  start_estimates a v S = grow_estimates n t s s' B E B' a G record {
    grows = λ l k h e. absurd (omega (arith, none));
    entries = λ k e. first k (same_on k a (sym (S.row k) ∙ ap (λ l. s'.row a l k) (sym none) ∙ e));
    own = ap (λ l. s'.row a l a) none ∙ S.row a ∙ same_refl a;
    heard = λ y q e d. absurd (omega (arith, S.round));
    cover = λ y l k h d e. absurd (omega (arith, none));
    learnt = λ l k h e f. absurd (omega (arith, none));
    outside_current = λ x d e. omega (arith, S.round, S.was, B.sync x a S.low S.running);
    outside_previous = λ x d e. clash (s'.previous a x) (S.previous x ∙ less_mk x n d) e;
  }
    where
      G : Grow n s s' a
      G = start_grow n t s s' B a v S

      none : s.closed a ≡ 0
      none = omega (arith, G.closed_was, S.was)

      first : (k : ℕ) → k ≡ a → (s'.entry a (s.closed a) k ≡ s'.entry k 0 k) × (1 ≤ s'.round k)
      first k h = rw (h, none) (refl, omega (arith, S.round))

  -- ---- a close: the new estimate is made of the old ones of the next set
  module _ (a q : ℕ) (C : Close n s s' a q) (G : Grow n s s' a) where
    at_q : (l : ℕ) → suc l ≡ s.closed a → l ≡ q
    at_q l h = omega (arith, close_closed n t s s' B a q C)

    close_entries : (k : ℕ) → s'.row a (suc q) k ≡ true
        → (s'.entry a (suc q) k ≡ s'.entry k 0 k) × (1 ≤ s'.round k)
    close_entries k e =
        let (y, h, r, f) = close_from n t s s' B a q C k e in
        let (v, w) = grow_entries n t s s' B E B' a G y q k (next-closed n t s s' B a q C y h) r in
        (f ∙ v, w)

    close_cover : (y k : ℕ) → q < s.closed y → s.row y q k ≡ true
        → (s'.row a (suc q) k ≡ true) ⊎ (s.crashed y ≡ true)
    close_cover y k d e = go (is (next s a y))
      where
        go : Is (next s a y) → (s'.row a (suc q) k ≡ true) ⊎ (s.crashed y ≡ true)
        go (on h) = inl (close_fill n t s s' B a q C y k h e)
        go (off h) = inr (B.suspected_crashed a y (next_off n t s s' B a q C y (closed_low n t s B y q d) h))

    -- had y known k before, a would have heard it from y
    close_learnt : (k : ℕ) → s'.row a (suc q) k ≡ true → s.row a q k ≡ false
        → (y : ℕ) × (q < s.closed y) × (s.row y q k ≡ true) × ((p : ℕ) → q ≡ suc p → s.row y p k ≡ false)
    close_learnt k e f =
        let (y, h, r, w) = close_from n t s s' B a q C k e in
        (y, next-closed n t s s' B a q C y h, r, λ p z. go y p z (next_current s a y h) (is (s.row y p k)))
      where
        go : (y p : ℕ) → q ≡ suc p → s.current a y ≡ true → Is (s.row y p k) → s.row y p k ≡ false
        go y p z h (off w) = w
        go y p z h (on w) = clash (s.row a (suc p) k) ((E.heard a y p h (omega (arith, C.is_at))).1 k w) (rw z at f)

    close_here : ((y p : ℕ) → s'.current a y ≡ true → suc p < s'.round a
        → (p < s'.closed y) × ((k : ℕ) → s'.row y p k ≡ true → s'.row a (suc p) k ≡ true))
        → ((x : ℕ) → x < n → s'.current a x ≡ false → s.closed x ≤ s'.round a)
        → ((x : ℕ) → x < n → s'.previous a x ≡ false → suc (s.closed x) ≤ s'.round a) → Estimates n t s'
    close_here heard current previous = grow_estimates n t s s' B E B' a G record {
      grows =
          λ l k h e. rw (at_q l h) (close_fill n t s s' B a q C a k (next_self n t s s' B a q C) (rw (at_q l h) at e));
      entries = rw (close_closed n t s s' B a q C) close_entries;
      own =
          rw (close_closed n t s s' B a q C) (close_fill n t s s' B a q C a a (next_self n t s s' B a q C)
          (E.own a q (omega (arith, close_closed n t s s' B a q C))));
      heard = heard;
      cover = λ y l k h d e. rw (at_q l h) (close_cover y k (rw (at_q l h) at d) (rw (at_q l h) at e));
      learnt = λ l k h. rw (at_q l h) (close_learnt k);
      outside_current = current;
      outside_previous = previous;
    }

  open_estimates : (a q : ℕ) → Open n t s s' a q → Estimates n t s'
  open_estimates a q O = close_here a q C G
      (λ y p e d. heard y p (sym (O.current y) ∙ e) (eq-or p q) (omega (arith, O.round)))
      (λ x d e. omega (arith, O.round, C.is_at, B.sync x a C.low C.running))
      (λ x d e.
      omega (arith, O.round, C.is_at, E.outside_current a x d (omega (arith, C.is_at)) (sym (O.previous x) ∙ e)))
    where
      C : Close n s s' a q
      C = O.close

      G : Grow n s s' a
      G = open_grow n t s s' B a q O

      heard : (y p : ℕ) → next s a y ≡ true → (p ≡ q) ⊎ (p ≢ q) → p ≤ q
          → (p < s'.closed y) × ((k : ℕ) → s'.row y p k ≡ true → s'.row a (suc p) k ≡ true)
      heard y p e (inl w) d =
          let h = next-closed n t s s' B a q C y e in
          rw w
          (omega (arith, closed_up n s s' a G y), λ k f. close_fill n t s s' B a q C y k e (sym (G.row y q k h) ∙ f))
      heard y p e (inr ne) d = grow_heard n t s s' B E B' a G a y p (next_current s a y e) (omega (arith, C.is_at))

  decide_estimates : (a q : ℕ) → Decide n t s s' a q → Estimates n t s'
  decide_estimates a q D = close_here a q C G
      (λ y p e d. grow_heard n t s s' B E B' a G a y p (sym (D.current y) ∙ e) (omega (arith, D.round, C.is_at)))
      (λ x d e.
      omega (arith, D.round, C.is_at, E.outside_current a x d (omega (arith, C.is_at)) (sym (D.current x) ∙ e)))
      (λ x d e.
      omega (arith, D.round, C.is_at, E.outside_previous a x d (omega (arith, C.is_at)) (sym (D.previous x) ∙ e)))
    where
      C : Close n s s' a q
      C = D.close

      G : Grow n s s' a
      G = decide_grow n t s s' B a q D

pub estimates_step : (n t : ℕ) (s s' : View) → Basic n t s → Estimates n t s → OneStep n t s s' → Estimates n t s'
estimates_step n t s s' B E S = go (kind n t s s' B S)
  where
    B' : Basic n t s'
    B' = basic_step n t s s' B S

    go : Kind n t s s' → Estimates n t s'
    go (quietly Q) = quiet_estimates n t s s' B E Q
    go (starting {a} {v} S) = start_estimates n t s s' B E B' a v S
    go (opening {a} {q} O) = open_estimates n t s s' B E B' a q O
    go (deciding {a} {q} D) = decide_estimates n t s s' B E B' a q D

pub estimates_opened : (n t : ℕ) (s : View) → Opened s → Estimates n t s
estimates_opened n t s O = record {
  grows = λ x l k d. absurd (omega (arith, O.closed x));
  entries = λ x l k d. absurd (omega (arith, O.closed x));
  own = λ x l d. absurd (omega (arith, O.closed x));
  heard = λ x y q e d. absurd (omega (arith, O.round x));
  missed = λ a b l k d. absurd (omega (arith, O.closed a));
  learnt = λ x l k d. absurd (omega (arith, O.closed x));
  outside_current = λ a x d h. absurd (omega (arith, O.round a));
  outside_previous = λ a x d h. absurd (omega (arith, O.round a));
}
