-- A start or a close: one process gets one estimate more. Who is in the next set of a close,
-- and what its estimate is made of.
use Rattle.std.specs.Prelude.{◌≡◌, refl, ◌≢◌, ◌⊎◌, true, false, ℕ, suc, ◌≤◌, ◌<◌}
use Rattle.std.proofs.Common.{sym, ap, ◌∙◌, inl, inr, arith}
use Rattle.sets.specs.Truth.{◌or◌, same}
use Rattle.sets.specs.TruthLaws.{Is, is, on, off, clash, off_by, and_first, and_second, and_mk}
use Rattle.sets.specs.TruthLaws.{or_cases, or_mk_l, or_mk_r, same_on, same_mk, eq-or, le-or}
use Rattle.agreement.specs.View.View.{View, next, Others, Start, Close, Open, Decide}
use Rattle.agreement.specs.View.Basic.{Basic}
use Rattle.agreement.specs.View.FourKinds.{at}

-- ---- the next set
pub next_mk : (s : View) (a y : ℕ) → s.current a y ≡ true → (y ≡ a) ⊎ (s.received a (s.round a) y ≡ true)
    → next s a y ≡ true
unfolding next
next_mk s a y e h = and_mk (s.current a y) _ e (go h)
  where
    go : (y ≡ a) ⊎ (s.received a (s.round a) y ≡ true) → (same y a or s.received a (s.round a) y) ≡ true
    go (inl w) = or_mk_l (same y a) _ (same_mk y a w)
    go (inr w) = or_mk_r (same y a) _ w

pub next_current : (s : View) (a y : ℕ) → next s a y ≡ true → s.current a y ≡ true
unfolding next
next_current s a y e = and_first _ _ e

pub next_cases : (s : View) (a y : ℕ) → next s a y ≡ true → (y ≡ a) ⊎ (s.received a (s.round a) y ≡ true)
unfolding next
next_cases s a y e = go (or_cases (same y a) _ (and_second (s.current a y) _ e))
  where
    go : (same y a ≡ true) ⊎ (s.received a (s.round a) y ≡ true) → (y ≡ a) ⊎ (s.received a (s.round a) y ≡ true)
    go (inl h) = inl (same_on y a h)
    go (inr h) = inr h

-- who has an estimate has started
pub closed_low : (n t : ℕ) (s : View) → Basic n t s → (x l : ℕ) → l < s.closed x → x < n
closed_low n t s B x l d = B.low x (go (is (s.decided x)))
  where
    go : Is (s.decided x) → 1 ≤ s.round x
    go (on e) = B.decided_started x e
    go (off e) = omega (arith, B.closed_is x e)

-- ---- what a close does, own estimate and the others' alike
module _ (n t : ℕ) (s s' : View) (B : Basic n t s) (a q : ℕ) (C : Close n s s' a q) where
  -- a has q + 1 estimates, and its own is the last of them
  pub close_closed : s.closed a ≡ suc q
  close_closed = B.closed_is a C.undecided ∙ C.is_at

  pub own_row : (k : ℕ) → s.estimate a k ≡ s.row a q k
  own_row = B.estimate_is a q C.undecided C.is_at

  pub own_entry : (k : ℕ) → s.value a k ≡ s.entry a q k
  own_entry = B.value_is a q C.undecided C.is_at

  pub next_self : next s a a ≡ true
  next_self = next_mk s a a (B.self a (omega (arith, C.is_at))) (inl refl)

  -- who is not in the next set is suspected
  pub next_off : (y : ℕ) → y < n → next s a y ≡ false → s.suspected a y ≡ true
  next_off y d e = go (is (s.current a y))
    where
      by : s.current a y ≡ true → (y ≡ a) ⊎ (s.received a (suc q) y ≡ true) ⊎ (s.suspected a y ≡ true)
          → s.suspected a y ≡ true
      by h (inl w) = clash (next s a y) (next_mk s a y h (inl w)) e
      by h (inr (inl w)) = clash (next s a y) (next_mk s a y h (inr (rw C.is_at w))) e
      by h (inr (inr w)) = w

      go : Is (s.current a y) → s.suspected a y ≡ true
      go (on h) = by h (C.heard y h)
      go (off h) = B.outside a y d (omega (arith, C.is_at)) h

  -- who is in it has reached the round
  pub next_round : (y : ℕ) → next s a y ≡ true → suc q ≤ s.round y
  next_round y e = go (next_cases s a y e)
    where
      go : (y ≡ a) ⊎ (s.received a (s.round a) y ≡ true) → suc q ≤ s.round y
      go (inl w) = omega (arith, ap s.round w, C.is_at)
      go (inr w) = omega (arith, B.received_round a (s.round a) y w, C.is_at)

  pub next-closed : (y : ℕ) → next s a y ≡ true → q < s.closed y
  next-closed y e = omega (arith, next_round y e, B.closed_lo y)

  pub next_running : (b : ℕ) → b < n → s.crashed b ≡ false → next s a b ≡ true
  next_running b d e = go (is (next s a b))
    where
      go : Is (next s a b) → next s a b ≡ true
      go (on h) = h
      go (off h) = clash (s.crashed b) (B.suspected_crashed a b (next_off b d h)) e

  -- the new estimate has what a member of the next set has
  pub close_fill : (y k : ℕ) → next s a y ≡ true → s.row y q k ≡ true → s'.row a (suc q) k ≡ true
  close_fill y k e f = go (eq-or y a)
    where
      go : (y ≡ a) ⊎ (y ≢ a) → s'.row a (suc q) k ≡ true
      go (inl w) = C.fill_own k (own_row k ∙ ap (λ x. s.row x q k) (sym w) ∙ f)
      go (inr ne) = C.fill y k ne e f

  -- and no more
  pub close_from : (k : ℕ) → s'.row a (suc q) k ≡ true
      → (y : ℕ) × (next s a y ≡ true) × (s.row y q k ≡ true) × (s'.entry a (suc q) k ≡ s.entry y q k)
  close_from k e = go (C.from k e)
    where
      go : ((s.estimate a k ≡ true) × (s'.entry a (suc q) k ≡ s.value a k))
          ⊎ ((y : ℕ) × (y ≢ a) × (next s a y ≡ true) × (s.row y q k ≡ true)
          × (s'.entry a (suc q) k ≡ s.entry y q k))
          → (y : ℕ) × (next s a y ≡ true) × (s.row y q k ≡ true) × (s'.entry a (suc q) k ≡ s.entry y q k)
      go (inl w) = (a, next_self, sym (own_row k) ∙ w.0, w.1 ∙ own_entry k)
      go (inr w) = (w.0, w.2, w.3, w.4)

-- ---- a start or a close by a, as far as they are alike
pub record Grow (n : ℕ) (s s' : View) (a : ℕ) : Type 0 where
  pub low : a < n
  pub running : s.crashed a ≡ false
  pub undecided : s.decided a ≡ false
  pub others : Others s s' a
  pub crashed : (x : ℕ) → s'.crashed x ≡ s.crashed x
  pub transit : (x r y : ℕ) → s'.transit x r y ≡ s.transit x r y
  pub received : (x r y : ℕ) → s'.received x r y ≡ s.received x r y
  pub suspected : (x y : ℕ) → s'.suspected x y ≡ s.suspected x y
  pub closed_was : s.closed a ≡ s.round a
  pub closed_here : s'.closed a ≡ suc (s.closed a)
  pub row : (x l k : ℕ) → l < s.closed x → s'.row x l k ≡ s.row x l k
  pub entry : (x l k : ℕ) → l < s.closed x → s'.entry x l k ≡ s.entry x l k
  pub up : s.round a ≤ s'.round a
  -- a running process has opened the round that ends
  pub ahead : (b : ℕ) → b < n → s.crashed b ≡ false → s.round a ≤ s.round b

module _ (n t : ℕ) (s s' : View) (B : Basic n t s) where
  pub start_grow : (a v : ℕ) → Start n s s' a v → Grow n s s' a
  start_grow a v S = record {
    low = S.low;
    running = S.running;
    undecided = undecided;
    others = S.others;
    crashed = S.crashed;
    transit = S.transit;
    received = at a S.received (λ x ne r y. S.others.received x r y ne);
    suspected = at a S.suspected (λ x ne y. S.others.suspected x y ne);
    closed_was = was;
    closed_here = S.closed;
    row = at a (λ l k d. absurd (omega (arith, was, S.was))) (λ x ne l k d. S.others.row x l k ne d);
    entry = at a (λ l k d. absurd (omega (arith, was, S.was))) (λ x ne l k d. S.others.entry x l k ne d);
    up = omega (arith, S.was);
    ahead = λ b d e. omega (arith, S.was);
  }
    where
      undecided : s.decided a ≡ false
      undecided = off_by (s.decided a) (λ e. omega (arith, B.decided_started a e, S.was))

      was : s.closed a ≡ s.round a
      was = B.closed_is a undecided

  pub close_grow : (a q : ℕ) → Close n s s' a q → s.round a ≤ s'.round a → Grow n s s' a
  close_grow a q C up = record {
    low = C.low;
    running = C.running;
    undecided = C.undecided;
    others = C.others;
    crashed = C.crashed;
    transit = C.transit;
    received = at a C.received (λ x ne r y. C.others.received x r y ne);
    suspected = at a C.suspected (λ x ne y. C.others.suspected x y ne);
    closed_was = B.closed_is a C.undecided;
    closed_here = C.closed;
    row = at a C.row_old (λ x ne l k d. C.others.row x l k ne d);
    entry = at a C.entry_old (λ x ne l k d. C.others.entry x l k ne d);
    up = up;
    ahead = λ b d e. omega (arith, C.is_at, next_round n t s s' B a q C b (next_running n t s s' B a q C b d e));
  }

  pub open_grow : (a q : ℕ) → Open n t s s' a q → Grow n s s' a
  open_grow a q O = close_grow a q O.close (omega (arith, O.close.is_at, O.round))

  pub decide_grow : (a q : ℕ) → Decide n t s s' a q → Grow n s s' a
  decide_grow a q D = close_grow a q D.close (omega (arith, D.close.is_at, D.round))

module _ (n : ℕ) (s s' : View) (a : ℕ) (G : Grow n s s' a) where
  pub round_up : (x : ℕ) → s.round x ≤ s'.round x
  round_up = at a G.up (λ x ne. omega (arith, G.others.round x ne))

  pub closed_up : (x : ℕ) → s.closed x ≤ s'.closed x
  closed_up = at a (omega (arith, G.closed_here)) (λ x ne. omega (arith, G.others.closed x ne))

  -- who has crashed is another, so it has as many estimates as before
  pub crashed_closed : (x : ℕ) → s.crashed x ≡ true → s'.closed x ≡ s.closed x
  crashed_closed x e = G.others.closed x (λ h. clash (s.crashed x) e (ap s.crashed h ∙ G.running))

  -- an estimate is an old one, or it is the new one
  pub old_or-new : (x l : ℕ) → l < s'.closed x → (l < s.closed x) ⊎ ((x ≡ a) × (l ≡ s.closed a))
  old_or-new x l h = go (eq-or x a) (le-or (s.closed x) l)
    where
      go : (x ≡ a) ⊎ (x ≢ a) → (s.closed x ≤ l) ⊎ (l < s.closed x)
          → (l < s.closed x) ⊎ ((x ≡ a) × (l ≡ s.closed a))
      go w (inr d) = inl d
      go (inl e) (inl d) = inr (e, omega (arith, G.closed_here, ap s.closed e, ap s'.closed e))
      go (inr ne) (inl d) = inl (omega (arith, G.others.closed x ne))
