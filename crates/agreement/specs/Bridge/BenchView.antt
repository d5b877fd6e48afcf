-- The view of a bench, and what a change of one process is in it: at that process what the new
-- one holds, elsewhere as before.
use Rattle.std.specs.Prelude.{◌≡◌, refl, ◌≢◌, ◌⊎◌, Bool, false, ℕ, suc, ◌+◌, ◌-◌, ◌*◌, ◌≤◌, ◌<◌, length, set, replicate}
use Rattle.std.proofs.Math.Path.{sym, ap}
use Rattle.std.proofs.Common.{◌∙◌, inl, inr, arith, get_or-set_same, get_or-set_other}
use Rattle.std.proofs.Math.Logic.{⊎_elim}
use Rattle.std.proofs.Math.ListN.{get_or, get_or-eq_default}
use Rattle.std.proofs.lemmas.List.{get_or-replicate, length-replicate}
use Rattle.sets.specs.Set.{has, insert_of}
use Rattle.sets.specs.Laws.{has_empty, has_insert}
use Rattle.sets.specs.Truth.{bit, ◌and◌, ◌or◌, same, less, select}
use Rattle.sets.specs.TruthLaws.{Is, on, off, is, select_on, select_off, and_on_l, and_off_l, and_off_r}
use Rattle.sets.specs.TruthLaws.{or_off_l, same_refl, same_off, less_mk, less_off, less_on, eq-or, le-or}
use Rattle.global_data.specs.declared.GlobalData.{GlobalData}
use Rattle.process.specs.declared.Process.{Process}
use Rattle.process.specs.Steps.{has_decided, no_process, idle_of}
use Rattle.bench.specs.declared.Bench.{Bench}
use Rattle.bench.specs.State.{process_at, sent_at, transit_at, crashed_at, with_process, with_sent, with_transit, opened_of}
use Rattle.bench.specs.Effect.{opens_round}
use Rattle.agreement.specs.View.View.{View, same3, Others, Calm, SameDecision, Opened}
use Rattle.agreement.specs.Bridge.Places.{process_here, process_there, sent_here}
use Rattle.agreement.specs.Bridge.Places.{sent_there, transit_here, transit_there}
use Rattle.agreement.specs.Bridge.Lengths.{Sized}

-- estimate number l of x: what it sent in the round that it opened with it; past its rounds the one that it holds
unfoldable pub row_of : Bench → ℕ → ℕ → GlobalData
row_of s x l = select (less l (process_at s x).round) (sent_at s x (suc l)) (process_at s x).estimate

-- y's estimate of round r is kept at p; no other index is read
unfoldable pub heard : Process → ℕ → ℕ → Bool
heard p r y = less 0 r and (less r 17 and has (get_or p.received (r - 1) 0) y)

-- `c` marks those that decided at a close
unfoldable pub view_of : Bench → (ℕ → Bool) → View
view_of s c =
    record {
      round = λ x. (process_at s x).round;
      closed = λ x. (process_at s x).round + bit (c x);
      decided = λ x. has_decided (process_at s x);
      crashed = λ x. crashed_at s x;
      previous = λ x y. has (process_at s x).previous y;
      current = λ x y. has (process_at s x).current y;
      suspected = λ x y. has (process_at s x).suspected y;
      outbox = λ x y. has (process_at s x).outbox y;
      received = λ x r y. heard (process_at s x) r y;
      transit = λ x r y. less x 16 and (less r 17 and has (transit_at s x r) y);
      row = λ x l k. has (row_of s x l).present k;
      entry = λ x l k. get_or (row_of s x l).values k 0;
      estimate = λ x k. has (process_at s x).estimate.present k;
      value = λ x k. get_or (process_at s x).estimate.values k 0;
    }

-- ---- one process changed

-- process a is p now, the others are as before, and so is what they sent in the rounds that were open
pub record Placed (s s' : Bench) (a : ℕ) (p : Process) : Type 0 where
  pub here : process_at s' a ≡ p
  pub there : (x : ℕ) → x ≢ a → process_at s' x ≡ process_at s x
  pub sent : (x l : ℕ) → l < (process_at s x).round → sent_at s' x (suc l) ≡ sent_at s x (suc l)

pub placed_process : (s : Bench) (a : ℕ) (p : Process) → Sized s → a < 16 → Placed s (with_process s a p) a p
unfolding sent_at with_process
placed_process s a p Z h = record {
  here = process_here s a p Z.processes h;
  there = λ x ne. process_there s a x p ne;
  sent = λ x l d. refl;
}

pub placed_transit : (s s' : Bench) (a x r m : ℕ) (p : Process) → Placed s s' a p → Placed s (with_transit s' x r m) a p
unfolding process_at sent_at with_transit
placed_transit s s' a x r m p P = record { here = P.here; there = P.there; sent = P.sent }

-- a opens its next round: its new row lies past all that were open
pub placed_opens : (s : Bench) (a : ℕ) (p : Process) → Sized s → a < 16 → ((x : ℕ) → (process_at s x).round ≤ 16)
    → p.round ≡ suc (process_at s a).round
    → p.round ≤ 16 → Placed s (opens_round s a p) a p
unfolding opens_round process_at with_sent
placed_opens s a p Z h b e f = record { here = P.here; there = P.there; sent = go }
  where
    s₁ : Bench
    s₁ = with_process s a p

    P : Placed s s₁ a p
    P = placed_process s a p Z h

    go : (x l : ℕ) → l < (process_at s x).round
        → sent_at (with_sent s₁ a p.round p.estimate) x (suc l) ≡ sent_at s x (suc l)
    go x l d = sent_there s₁ a p.round x (suc l) p.estimate (apart (eq-or x a)) ∙ P.sent x l d
      where
        apart : (x ≡ a) ⊎ (x ≢ a) → x * 16 + (suc l - 1) ≢ a * 16 + (p.round - 1)
        apart (inl q) = let d' : l < (process_at s a).round = rw (← q) d in omega arith
        apart (inr ne) = omega (arith, b x)

pub opens_sent : (s : Bench) (a : ℕ) (p : Process) → Sized s → a < 16 → p.round ≤ 16
    → sent_at (opens_round s a p) a p.round ≡ p.estimate
unfolding opens_round with_process
opens_sent s a p Z h f = sent_here (with_process s a p) a p.round p.estimate Z.sent h f

-- a row of an open round is what was sent in it; past the rounds it is the estimate
pub row_open : (s : Bench) (x l : ℕ) → l < (process_at s x).round → row_of s x l ≡ sent_at s x (suc l)
unfolding row_of
row_open s x l h = select_on _ _ _ (less_mk l _ h)

pub row_last : (s : Bench) (x l : ℕ) → (process_at s x).round ≤ l → row_of s x l ≡ (process_at s x).estimate
unfolding row_of
row_last s x l h = select_off _ _ _ (less_off l _ h)

module _ (s s' : Bench) (a : ℕ) (p : Process) (P : Placed s s' a p) where
  row_there : (x l : ℕ) → x ≢ a → row_of s' x l ≡ row_of s x l
  row_there x l ne = go (le-or (process_at s x).round l)
    where
      e : process_at s' x ≡ process_at s x
      e = P.there x ne

      go : ((process_at s x).round ≤ l) ⊎ (l < (process_at s x).round) → row_of s' x l ≡ row_of s x l
      go (inl h) = row_last s' x l (rw e h) ∙ ap (λ (q : Process). q.estimate) e ∙ sym (row_last s x l h)
      go (inr h) = row_open s' x l (rw e h) ∙ P.sent x l h ∙ sym (row_open s x l h)

  pub row_here : (l : ℕ) → l < (process_at s a).round → l < p.round → row_of s' a l ≡ row_of s a l
  row_here l h h' = row_open s' a l (rw P.here h') ∙ P.sent a l h ∙ sym (row_open s a l h)

  -- nothing of the others changes
  pub others_of : (c c' : ℕ → Bool) → ((x : ℕ) → x ≢ a → c' x ≡ c x) → Others (view_of s c) (view_of s' c') a
  unfolding view_of
  others_of c c' h = record {
    round = λ x ne. rw (P.there x ne);
    closed = λ x ne. rw (P.there x ne, h x ne);
    decided = λ x ne. rw (P.there x ne);
    previous = λ x y ne. rw (P.there x ne);
    current = λ x y ne. rw (P.there x ne);
    suspected = λ x y ne. rw (P.there x ne);
    outbox = λ x y ne. rw (P.there x ne);
    received = λ x r y ne. rw (P.there x ne);
    row = λ x l k ne d. rw (row_there x l ne);
    entry = λ x l k ne d. rw (row_there x l ne);
    estimate = λ x k ne. rw (P.there x ne);
    value = λ x k ne. rw (P.there x ne);
  }

  pub decision_of_lem : (c c' : ℕ → Bool) → has_decided p ≡ has_decided (process_at s a)
      → p.estimate ≡ (process_at s a).estimate
      → SameDecision (view_of s c) (view_of s' c') a
  unfolding view_of
  decision_of_lem c c' d e =
      record { decided = rw P.here d; estimate = λ k. rw (P.here, e); value = λ k. rw (P.here, e) }

  -- no round opens or closes at a; the estimate of one that decided at a close is its last row
  pub calm_of : (c : ℕ → Bool) → p.round ≡ (process_at s a).round → p.previous ≡ (process_at s a).previous
      → p.current ≡ (process_at s a).current
      → ((process_at s a).round < (view_of s c).closed a → p.estimate ≡ (process_at s a).estimate)
      → Calm (view_of s c) (view_of s' c) a
  unfolding view_of
  calm_of c r v u e = record {
    round = rw P.here r;
    closed = rw (P.here, r);
    previous = λ y. rw (P.here, v);
    current = λ y. rw (P.here, u);
    row = λ l k h. ap (λ (g : GlobalData). has g.present k) (go l h (le-or (process_at s a).round l));
    entry = λ l k h. ap (λ (g : GlobalData). get_or g.values k 0) (go l h (le-or (process_at s a).round l));
  }
    where
      go : (l : ℕ) → l < (view_of s c).closed a → ((process_at s a).round ≤ l) ⊎ (l < (process_at s a).round)
          → row_of s' a l ≡ row_of s a l
      go l d (inl h) =
          row_last s' a l (rw (P.here, r) h) ∙ ap (λ (q : Process). q.estimate) P.here ∙ e (omega arith)
          ∙ sym (row_last s a l h)
      go l d (inr h) = row_here l h (omega arith)

-- ---- tests of an index

pub clip_on : (x m k n : ℕ) (v : Bool) → x < m → k < n → (less x m and (less k n and v)) ≡ v
clip_on x m k n v h d = and_on_l _ _ (less_mk x m h) ∙ and_on_l _ _ (less_mk k n d)

clip_cong : (x m k n : ℕ) (v w : Bool) → (x < m → k < n → v ≡ w)
    → (less x m and (less k n and v)) ≡ (less x m and (less k n and w))
clip_cong x m k n v w h = go (is (less x m)) (is (less k n))
  where
    go : Is (less x m) → Is (less k n) → (less x m and (less k n and v)) ≡ (less x m and (less k n and w))
    go (on e) (on f) = rw (h (less_on x m e) (less_on k n f))
    go (on e) (off f) = rw (and_off_l _ v f, and_off_l _ w f)
    go (off e) f = and_off_l _ _ e ∙ sym (and_off_l _ _ e)

-- ---- one message's set changed

same3-at : (y a r b : ℕ) → same3 a r y a r b ≡ same y b
unfolding same3
same3-at y a r b = and_on_l _ _ (same_refl a) ∙ and_on_l _ _ (same_refl r)

same3_off : (x k y a r b : ℕ) → (x ≢ a) ⊎ (k ≢ r) → same3 x k y a r b ≡ false
unfolding same3
same3_off x k y a r b (inl ne) = and_off_l _ _ (same_off x a ne)
same3_off x k y a r b (inr ne) = and_off_r _ _ (and_off_l _ _ (same_off k r ne))

-- the set of message r of a is m now, which differs at b as f says
module _ (f : Bool → Bool → Bool) (idle : (v : Bool) → f false v ≡ v) (s s' : Bench) (c c' : ℕ → Bool) (a r b m : ℕ)
    (Z : length s.in_transit ≡ 272) (h : a < 16) (d : r < 17) (e : s'.in_transit ≡ (with_transit s a r m).in_transit)
    (law : (y : ℕ) → has m y ≡ f (same y b) (has (transit_at s a r) y)) where
  put : (x k : ℕ) → transit_at s' x k ≡ transit_at (with_transit s a r m) x k
  unfolding transit_at
  put x k = rw e

  pub transit_of : (x k y : ℕ) → (view_of s' c').transit x k y ≡ f (same3 x k y a r b) ((view_of s c).transit x k y)
  unfolding view_of
  transit_of x k y = go (eq-or x a) (eq-or k r)
    where
      there : (x ≢ a) ⊎ (k ≢ r) → k < 17 → transit_at s' x k ≡ transit_at s x k
      there w q = put x k ∙ transit_there s a r x k m (⊎_elim (λ ne. omega arith) (λ ne. omega arith) w)

      old : (x ≢ a) ⊎ (k ≢ r) → (view_of s' c').transit x k y ≡ f (same3 x k y a r b) ((view_of s c).transit x k y)
      old w = rw (same3_off x k y a r b w, idle) (clip_cong x 16 k 17 _ _ (λ p q. ap (λ (m : ℕ). has m y) (there w q)))

      go : (x ≡ a) ⊎ (x ≢ a) → (k ≡ r) ⊎ (k ≢ r)
          → (view_of s' c').transit x k y ≡ f (same3 x k y a r b) ((view_of s c).transit x k y)
      go (inl p) (inl q) = rw (
        p,
        q,
        same3-at y a r b,
        clip_on a 16 r 17 _ h d,
        clip_on a 16 r 17 _ h d,
        put a r,
        transit_here s a r m Z h d,
      ) (law y)
      go (inl p) (inr ne) = old (inr ne)
      go (inr ne) q = old (inl ne)

-- ---- one more estimate kept: y's of round r, at its own place

pub heard_more : (p p' : Process) (a r : ℕ) → length p.received ≡ 16 → 1 ≤ r → r ≤ 16
    → p'.received ≡ set p.received (r - 1) (insert_of (get_or p.received (r - 1) 0) a)
    → (m y : ℕ) → heard p' m y ≡ ((same m r and same y a) or heard p m y)
unfolding heard
heard_more p p' a r Z h d e m y = rw e (go (eq-or m r))
  where
    old : ℕ
    old = get_or p.received (r - 1) 0

    Goal : Type 0
    Goal =
        (less 0 m and (less m 17 and has (get_or (set p.received (r - 1) (insert_of old a)) (m - 1) 0) y))
        ≡ ((same m r and same y a) or (less 0 m and (less m 17 and has (get_or p.received (m - 1) 0) y)))

    go : (m ≡ r) ⊎ (m ≢ r) → Goal
    go (inl q) =
        rw (
          q,
          clip_on 0 r r 17 _ (omega arith) (omega arith),
          clip_on 0 r r 17 _ (omega arith) (omega arith),
          and_on_l _ (same y a) (same_refl r),
          get_or-set_same p.received (r - 1) (insert_of old a) 0 (omega arith),
        )
        (has_insert old a y)
    go (inr ne) =
        clip_cong 0 m m 17 _ _
        (λ u v. rw (get_or-set_other p.received (r - 1) (m - 1) (insert_of old a) 0 (omega arith)))
        ∙ sym (or_off_l _ _ (and_off_l _ _ (same_off m r ne)))

-- ---- the opened bench

record Unstarted (p : Process) : Type 0 where
  round : p.round ≡ 0
  decided : has_decided p ≡ false
  previous : p.previous ≡ 0
  current : p.current ≡ 0
  suspected : p.suspected ≡ 0
  outbox : p.outbox ≡ 0
  received : (i : ℕ) → get_or p.received i 0 ≡ 0

-- a list of one value, read anywhere
all_at {ℓ} : {A : Type ℓ} (m i : ℕ) (v : A) → get_or (replicate m v) i v ≡ v
all_at m i v =
    ⊎_elim (λ l. get_or-eq_default (replicate m v) v (omega (arith, length-replicate m v)))
    (λ l. get_or-replicate m i v v l) (le-or m i)

module _ (n t : ℕ) where
  unstarted : (x : ℕ) → Unstarted (process_at (opened_of n t) x)
  unfolding opened_of process_at idle_of has_decided same
  unstarted x =
      ⊎_elim
      (λ l. rw (get_or-eq_default (replicate 16 idle_of) no_process l) record {
        round = refl;
        decided = refl;
        previous = refl;
        current = refl;
        suspected = refl;
        outbox = refl;
        received = λ i. refl;
      })
      (λ l. rw (get_or-replicate 16 x idle_of no_process l) record {
        round = refl;
        decided = refl;
        previous = refl;
        current = refl;
        suspected = refl;
        outbox = refl;
        received = λ i. all_at {A = ℕ} 16 i 0;
      })
      (le-or 16 x)

  no_crash : (x : ℕ) → crashed_at (opened_of n t) x ≡ false
  unfolding crashed_at opened_of
  no_crash x = has_empty x

  nowhere : (x r : ℕ) → transit_at (opened_of n t) x r ≡ 0
  unfolding transit_at opened_of
  nowhere x r = all_at {A = ℕ} 272 (x * 17 + r) 0

  pub opened_view : Opened (view_of (opened_of n t) (λ x. false))
  unfolding view_of heard bit
  opened_view = record {
    round = λ x. (unstarted x).round;
    closed = λ x. omega (arith, (unstarted x).round);
    decided = λ x. (unstarted x).decided;
    crashed = no_crash;
    previous = λ x y. rw (unstarted x).previous (has_empty y);
    current = λ x y. rw (unstarted x).current (has_empty y);
    suspected = λ x y. rw (unstarted x).suspected (has_empty y);
    outbox = λ x y. rw (unstarted x).outbox (has_empty y);
    received = λ x r y. and_off_r _ _ (and_off_r _ _ (rw ((unstarted x).received (r - 1)) (has_empty y)));
    transit = λ x r y. and_off_r _ _ (and_off_r _ _ (rw (nowhere x r) (has_empty y)));
  }
