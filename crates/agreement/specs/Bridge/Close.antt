-- A close of the bench is one of the view: the next set and the rows put together are read off the
-- masks and the filled global data.
use Rattle.std.specs.Prelude.{◌≡◌, refl, ◌≢◌, Some, ◌⊎◌, Bool, true, false, get_or}
use Rattle.std.proofs.Math.Path.{sym, ap}
use Rattle.std.proofs.Common.{◌∙◌}
use Rattle.std.proofs.Math.Logic.{inl, inr}
use Rattle.std.proofs.Math.Bool.{not}
use Prim.Native.Nat.{ℕ, suc, ◌+◌, ◌-◌, ◌≤◌, ◌<◌}
use native.Mathlib.Omega.{arith}
use Rattle.std.proofs.lemmas.Option.{same_Some}
use Rattle.sets.specs.Set.{has}
use Rattle.sets.specs.Laws.{has_remove, has_low, nothing_in, split_differ}
use Rattle.sets.specs.Truth.{bit, ◌and◌, ◌or◌, same}
use Rattle.sets.specs.TruthLaws.{Is, on, off, is, less_on, clash, by_both, select_on, select_off}
use Rattle.sets.specs.TruthLaws.{and_first, and_second, and_mk, and_off_l, and_off_r, or_cases, or_off_l}
use Rattle.sets.specs.TruthLaws.{or_mk_l, not_on, same_on, same_off, same_not, same_refl}
use Rattle.global_data.specs.declared.GlobalData.{GlobalData}
use Rattle.global_data.specs.GlobalData.{value_in, entry_of, same_to, all_same}
use Rattle.global_data.specs.WordLaws.{value_word}
use Rattle.global_data.proofs.Laws.{entry_present, entry_absent, value_present, fill_stays, fill_has, fill_comes}
use Rattle.global_data.proofs.Laws.{Lowest, same_on as same-data-on, same_not as same-data-not, all_same_on, all_same-not}
use Rattle.process.specs.declared.Process.{Process}
use Rattle.process.specs.Steps.{has_decided, open_round_of, arrived_of, due_of, next_of, peers_of}
use Rattle.process.specs.Steps.{filled_of, decides_of, owed_of, decide_of, advance_of, takes_part}
use Rattle.process.specs.Laws.{decide_decided, advance_decided, close_on, close_off, has_arrived}
use Rattle.process.specs.Laws.{has-next, has_peers, due_on, decides_set, decides_own}
use Rattle.process.specs.Laws.{decides_peers, open_round, open_test, next-lt, filled-lt}
use Rattle.bench.specs.declared.Bench.{Bench}
use Rattle.bench.specs.declared.Event.{Event}
use Rattle.bench.specs.declared.Event.TheVariants.{Start as StartOf, Send as SendOf, Arrive as ArriveOf}
use Rattle.bench.specs.declared.Event.TheVariants.{Close as CloseOf, Crash as CrashOf, Suspect as SuspectOf}
use Rattle.bench.specs.State.{process_at, crashed_at, with_process, with_sent}
use Rattle.bench.specs.Refuse.{actor, passes7, passes8, refuses}
use Rattle.bench.proofs.RefuseLaws.{Passes, passes_on}
use Rattle.bench.proofs.SoundLaws.{Bounds, process_low, sent_low}
use Rattle.bench.specs.Effect.{opens_round, rows_at, closes_as, effect}
use Rattle.agreement.specs.View.View.{next, Differ, Close, Open, Decide}
use Rattle.agreement.specs.View.Basic.{Basic}
use Rattle.agreement.specs.Bridge.Lengths.{Sized}
use Rattle.agreement.specs.Bridge.BenchView.{row_of, heard, view_of, Placed, placed_process, placed_opens}
use Rattle.agreement.specs.Bridge.BenchView.{opens_sent, row_open, row_last, row_here, others_of, clip_on}
use Rattle.agreement.specs.Bridge.AllButClose.{same_crashed, same_transit, place_low, round_low, owed_has}

-- ---- the parts of a close of a

abbrev rows_for : Bench → ℕ → ℕ → GlobalData
rows_for s a = rows_at s (process_at s a).round

abbrev filled_at : Bench → ℕ → GlobalData
filled_at s a = filled_of a (rows_for s a) (process_at s a)

abbrev close_decides : Bench → ℕ → Bool
close_decides s a = decides_of s.n s.t a (rows_for s a) (process_at s a)

-- the process once it has decided, or opened the next round
abbrev decided_at : Bench → ℕ → Process
decided_at s a = decide_of (filled_at s a) (owed_of s.n a (process_at s a)) (process_at s a)

abbrev advanced_at : Bench → ℕ → Process
advanced_at s a = advance_of a (filled_at s a) (process_at s a)

-- ---- entries, by their present bit and their word

value_is : (g : GlobalData) (k v : ℕ) → entry_of g k ≡ Some (value_in v) → get_or g.values k 0 ≡ v
value_is g k v e = value_word _ v (same_Some _ _ (sym (entry_present g k (value_present g k _ e)) ∙ e))

entry_has : (g h : GlobalData) (k : ℕ) → entry_of g k ≡ entry_of h k → has g.present k ≡ has h.present k
entry_has g h k e =
    by_both _ _ (λ t. value_present h k _ (sym e ∙ entry_present g k t))
    (λ t. value_present g k _ (e ∙ entry_present h k t))

entry_differ : (g h : GlobalData) (k : ℕ) → (entry_of g k ≡ entry_of h k → ⊥)
    → Differ (has g.present k) (get_or g.values k 0) (has h.present k) (get_or h.values k 0)
unfolding Differ
entry_differ g h k d = go (is (has g.present k)) (is (has h.present k))
  where
    go : Is (has g.present k) → Is (has h.present k)
        → (has g.present k ≢ has h.present k)
        ⊎ ((has g.present k ≡ true) × (has h.present k ≡ true) × (get_or g.values k 0 ≢ get_or h.values k 0))
    go (on u) (on v) =
        inr (u, v, λ e. d (entry_present g k u ∙ ap (λ w. Some (value_in w)) e ∙ sym (entry_present h k v)))
    go (on u) (off v) = inl (λ e. clash _ (sym e ∙ u) v)
    go (off u) (on v) = inl (λ e. clash _ (e ∙ v) u)
    go (off u) (off v) = absurd (d (entry_absent g k u ∙ sym (entry_absent h k v)))

-- ---- the closers: a close that decides adds its process

unfoldable pub closers_of : Event → Bench → (ℕ → Bool) → ℕ → Bool
closers_of (StartOf a v) s c = c
closers_of (SendOf a b) s c = c
closers_of (ArriveOf a b m) s c = c
closers_of (CloseOf a) s c = λ x. (same x a and has_decided (process_at (effect (CloseOf a) s) a)) or c x
closers_of (CrashOf a) s c = c
closers_of (SuspectOf a b) s c = c

pub closers_there : (s : Bench) (c : ℕ → Bool) (a x : ℕ) → x ≢ a → closers_of (CloseOf a) s c x ≡ c x
unfolding closers_of
closers_there s c a x ne = or_off_l _ _ (and_off_l _ _ (same_off x a ne))

pub closers_open : (s : Bench) (c : ℕ → Bool) (a : ℕ) → has_decided (process_at (effect (CloseOf a) s) a) ≡ false
    → (x : ℕ) → closers_of (CloseOf a) s c x ≡ c x
unfolding closers_of
closers_open s c a e x = or_off_l _ _ (and_off_r _ _ e)

pub closers_decide : (s : Bench) (c : ℕ → Bool) (a : ℕ) → has_decided (process_at (effect (CloseOf a) s) a) ≡ true
    → closers_of (CloseOf a) s c a ≡ true
unfolding closers_of
closers_decide s c a e = or_mk_l _ _ (and_mk _ _ (same_refl a) e)

-- ---- what the closing process holds

module _ (s : Bench) (c : ℕ → Bool) (K : Bounds s) (B : Basic s.n s.t (view_of s c)) (a q : ℕ)
    (is_at : (process_at s a).round ≡ suc q) where
  abbrev p : Process
  p = process_at s a

  abbrev rows : ℕ → GlobalData
  rows = rows_for s a

  abbrev new : GlobalData
  new = filled_at s a

  q_low : q < 16
  q_low = omega (arith, (process_low s K a).round, K.few, K.limit)

  -- what has arrived, in the view
  heard_is : (y : ℕ) → heard p p.round y ≡ has (get_or p.received (p.round - 1) 0) y
  unfolding heard
  heard_is y = clip_on 0 p.round p.round 17 _ (omega arith) (omega (arith, q_low))

  next-has : (y : ℕ) → next (view_of s c) a y ≡ has (next_of a p) y
  unfolding view_of next
  next-has y = rw (heard_is y) (sym (has-next a p y ∙ ap (λ (u : Bool). has p.current y and u) (has_arrived a p y)))

  -- the members of the next set but a
  peer_on : (y : ℕ) → has (peers_of a p) y ≡ true → (y ≢ a) × (next (view_of s c) a y ≡ true)
  peer_on y e =
      let w = sym (has_peers a p y) ∙ e in
      (same_not y a (not_on _ (and_second _ _ w)), next-has y ∙ and_first _ _ w)

  peer_mk : (y : ℕ) → y ≢ a → next (view_of s c) a y ≡ true → has (peers_of a p) y ≡ true
  peer_mk y ne e = has_peers a p y ∙ and_mk _ _ (sym (next-has y) ∙ e) (ap not (same_off y a ne))

  next_low : (y : ℕ) → next (view_of s c) a y ≡ true → y < s.n
  unfolding next
  next_low y e = B.current_low a y (and_first _ _ e)

  -- the estimate that such a member sent in this round is the one it closed its round q with
  peer_row : (y : ℕ) → y ≢ a → next (view_of s c) a y ≡ true → row_of s y q ≡ rows y
  unfolding next rows_at view_of
  peer_row y ne e = row_open s y q (go (or_cases _ _ (and_second _ _ e))) ∙ rw is_at
    where
      go : (same y a ≡ true) ⊎ (heard p p.round y ≡ true) → q < (process_at s y).round
      go (inl t) = absurd (ne (same_on y a t))
      go (inr t) = omega (arith, B.received_round a p.round y t)

  -- each member of the current set has been received or is suspected
  heard_all : due_of a p ≡ true → (y : ℕ) → has p.current y ≡ true
      → (y ≡ a) ⊎ (heard p (suc q) y ≡ true) ⊎ (has p.suspected y ≡ true)
  heard_all due y m = go (or_cases _ _ (due_on a p due y m))
    where
      got : (same y a ≡ true) ⊎ (has (get_or p.received (p.round - 1) 0) y ≡ true)
          → (y ≡ a) ⊎ (heard p (suc q) y ≡ true) ⊎ (has p.suspected y ≡ true)
      got (inl t) = inl (same_on y a t)
      got (inr t) = inr (inl (rw (← is_at) (heard_is y ∙ t)))

      go : (has (arrived_of a p) y ≡ true) ⊎ (has p.suspected y ≡ true)
          → (y ≡ a) ⊎ (heard p (suc q) y ≡ true) ⊎ (has p.suspected y ≡ true)
      go (inl t) = got (or_cases _ _ (sym (has_arrived a p y) ∙ t))
      go (inr t) = inr (inr t)

  -- ---- the new estimate: all that its own and those of the next set have, and no more

  new_own : (k : ℕ) → has p.estimate.present k ≡ true → has new.present k ≡ true
  unfolding filled_of
  new_own k e = fill_stays (peers_of a p) rows p.estimate 16 k e

  new_peer : (y k : ℕ) → y ≢ a → next (view_of s c) a y ≡ true → has (row_of s y q).present k ≡ true
      → has new.present k ≡ true
  unfolding filled_of
  new_peer y k ne m e =
      fill_has (peers_of a p) rows p.estimate 16 y k (omega (arith, next_low y m, K.few)) (peer_mk y ne m)
      (rw (← peer_row y ne m) e)

  new_low : (k : ℕ) → has new.present k ≡ true → k < 16
  unfolding rows_at
  new_low k e =
      let l = filled-lt s.n a rows p (λ y. sent_low s K y p.round) (process_low s K a).estimate in
      omega (arith, has_low s.n _ k l e, K.few)

  abbrev RowSource : ℕ → Type 0
  RowSource k =
      ((has p.estimate.present k ≡ true) × (get_or new.values k 0 ≡ get_or p.estimate.values k 0))
      ⊎ ((y : ℕ) × (y ≢ a) × (next (view_of s c) a y ≡ true) × (has (row_of s y q).present k ≡ true)
      × (get_or new.values k 0 ≡ get_or (row_of s y q).values k 0))

  new-from : (k : ℕ) → has new.present k ≡ true → RowSource k
  unfolding filled_of
  new-from k e = go (fill_comes (peers_of a p) rows p.estimate 16 k _ (new_low k e) (entry_present new k e))
    where
      go : (entry_of p.estimate k ≡ Some (value_in (get_or new.values k 0)))
          ⊎ Lowest (peers_of a p) rows p.estimate 16 k (get_or new.values k 0)
          → RowSource k
      go (inl u) = inl (value_present p.estimate k _ u, sym (value_is p.estimate k _ u))
      go (inr w) =
          let m = peer_on w.who w.member in
          let r = peer_row w.who m.0 m.1 in
          let u : entry_of (row_of s w.who q) k ≡ Some (value_in (get_or new.values k 0)) = rw r w.shows in
          inr (w.who, m.0, m.1, value_present _ k _ u, sym (value_is (row_of s w.who q) k _ u))

  -- ---- the test: what holds where it passes before the last round, and which part fails

  module _ (e : close_decides s a ≡ true) (early : q < s.t) where
    not_last : p.round ≢ s.t + 1
    not_last = omega arith

    same_next : (y : ℕ) → has p.previous y ≡ next (view_of s c) a y
    same_next y = rw (decides_set s.n s.t a rows p e not_last) (sym (next-has y))

    same_estimate : (k : ℕ) → k < s.n → has p.estimate.present k ≡ has new.present k
    same_estimate k l =
        sym (entry_has new p.estimate k
        (same-data-on s.n new p.estimate (decides_own s.n s.t a rows p e not_last) k l))

    same_row : (y k : ℕ) → k < s.n → y ≢ a → next (view_of s c) a y ≡ true
        → has (row_of s y q).present k ≡ has new.present k
    same_row y k l ne m =
        let w = all_same_on 16 s.n (peers_of a p) rows new (decides_peers s.n s.t a rows p e not_last) y
        (omega (arith, next_low y m, K.few)) (peer_mk y ne m) in
        rw (peer_row y ne m) (entry_has (rows y) new k (same-data-on s.n (rows y) new w k l))

  abbrev Reason : Type 0
  Reason =
      ((y : ℕ) × (y < s.n) × (has p.previous y ≢ next (view_of s c) a y))
      ⊎ (((k : ℕ) × (k < s.n)
      × Differ (has p.estimate.present k) (get_or p.estimate.values k 0) (has new.present k)
      (get_or new.values k 0))
      ⊎ ((y k : ℕ) × (y < s.n) × (y ≢ a) × (next (view_of s c) a y ≡ true) × (k < s.n)
      × Differ (has (row_of s y q).present k) (get_or (row_of s y q).values k 0) (has new.present k)
      (get_or new.values k 0)))

  reason : close_decides s a ≡ false → Reason
  reason e = go (open_test s.n s.t a rows p e)
    where
      go : (p.previous ≢ next_of a p)
          ⊎ ((same_to s.n new p.estimate ≡ false) ⊎ (all_same 16 s.n (peers_of a p) rows new ≡ false))
          → Reason
      go (inl w) =
          let d = split_differ s.n p.previous (next_of a p) (process_low s K a).previous
          (next-lt s.n a p (process_low s K a).current) w in
          inl (d.0, d.1, λ u. d.2 (u ∙ next-has d.0))
      go (inr (inl w)) =
          let d = same-data-not s.n new p.estimate w in
          inr (inl (d.0, d.1, entry_differ p.estimate new d.0 (λ u. d.2 (sym u))))
      go (inr (inr w)) =
          let z = all_same-not 16 s.n (peers_of a p) rows new w in
          let m = peer_on z.0 z.2 in
          let d = same-data-not s.n (rows z.0) new z.3 in
          inr (inr (
            z.0,
            d.0,
            next_low z.0 m.1,
            m.0,
            m.1,
            d.1,
            rw (peer_row z.0 m.0 m.1) (entry_differ (rows z.0) new d.0 d.2),
          ))

-- ---- the close itself

-- what a close leaves at a, whichever way it ends
record Closed (s s' : Bench) (c c' : ℕ → Bool) (a q : ℕ) (p' : Process) : Type 0 where
  placed : Placed s s' a p'
  crashed : s'.crashed ≡ s.crashed
  transit : s'.in_transit ≡ s.in_transit
  suspected : p'.suspected ≡ (process_at s a).suspected
  received : p'.received ≡ (process_at s a).received
  estimate : p'.estimate ≡ filled_at s a
  row : row_of s' a (suc q) ≡ filled_at s a
  round : (process_at s a).round ≤ p'.round
  closers : (x : ℕ) → x ≢ a → c' x ≡ c x
  closed : (view_of s' c').closed a ≡ suc ((view_of s c).closed a)

module _ (s : Bench) (c : ℕ → Bool) (Z : Sized s) (K : Bounds s) (B : Basic s.n s.t (view_of s c)) (a q : ℕ)
    (h : a < s.n) (run : crashed_at s a ≡ false)
    (open_here : has_decided (process_at s a) ≡ false) (is_at : (process_at s a).round ≡ suc q)
    (none : (process_at s a).outbox ≡ 0)
    (due : due_of a (process_at s a) ≡ true) where
  close_view : (s' : Bench) (c' : ℕ → Bool) (p' : Process) → Closed s s' c c' a q p'
      → Close s.n (view_of s c) (view_of s' c') a q
  unfolding view_of heard
  close_view s' c' p' E =
      let P = E.placed in
      record {
        low = h;
        running = run;
        undecided = open_here;
        is_at = is_at;
        owes_none = nothing_in _ none;
        heard = heard_all s c K B a q is_at due;
        others = others_of s s' a p' P c c' E.closers;
        crashed = same_crashed s s' c c' E.crashed;
        transit = same_transit s s' c c' E.transit;
        received = λ r y. rw (P.here, E.received);
        suspected = λ y. rw (P.here, E.suspected);
        closed = E.closed;
        row_old = λ l k d. rw (old l d);
        entry_old = λ l k d. rw (old l d);
        estimate = λ k. rw (P.here, E.estimate, E.row);
        value = λ k. rw (P.here, E.estimate, E.row);
        fill_own = λ k e. rw E.row (new_own s c K B a q is_at k e);
        fill = λ y k ne m e. rw E.row (new_peer s c K B a q is_at y k ne m e);
        from = λ k e. rw E.row (new-from s c K B a q is_at k (rw E.row at e));
      }
    where
      old : (l : ℕ) → l < (view_of s c).closed a → row_of s' a l ≡ row_of s a l
      old l d =
          let d' : l < (process_at s a).round = omega (arith, B.closed_is a open_here) in
          row_here s s' a p' E.placed l d' (omega (arith, E.round))

  -- it decides
  module _ (c' : ℕ → Bool) (e : close_decides s a ≡ true)
      (there : (x : ℕ) → x ≢ a → c' x ≡ c x) (here : c' a ≡ true) where
    decide_placed : Placed s (with_process s a (decided_at s a)) a (decided_at s a)
    decide_placed = placed_process s a (decided_at s a) Z (place_low s K a h)

    decide_rest : ((with_process s a (decided_at s a)).crashed ≡ s.crashed)
        × ((with_process s a (decided_at s a)).in_transit ≡ s.in_transit)
    unfolding with_process
    decide_rest = (refl, refl)

    decide_closed : Closed s (with_process s a (decided_at s a)) c c' a q (decided_at s a)
    unfolding decide_of view_of bit
    decide_closed =
        let P = decide_placed in
        record {
          placed = P;
          crashed = decide_rest.0;
          transit = decide_rest.1;
          suspected = refl;
          received = refl;
          estimate = refl;
          row = row_last _ a (suc q) (rw P.here (omega arith)) ∙ ap (λ (u : Process). u.estimate) P.here;
          round = omega arith;
          closers = there;
          closed = rw (P.here, here) (omega (arith, B.closed_is a open_here));
        }

    decide_view : Decide s.n s.t (view_of s c) (view_of (with_process s a (decided_at s a)) c') a q
    unfolding view_of decide_of
    decide_view =
        let P = decide_placed in
        let E = decide_closed in
        record {
          close = close_view _ c' _ E;
          round = rw P.here is_at;
          decided = rw P.here (decide_decided (process_at s a) _ _);
          previous = λ y. rw P.here;
          current = λ y. rw P.here;
          outbox = λ y. rw P.here (owed_has s.n a (process_at s a) y);
          same_sets = same_next s c K B a q is_at e;
          same_own = λ l k d. rw E.row (same_estimate s c K B a q is_at e l k d);
          same_rows = λ l y k d ne m. rw E.row (same_row s c K B a q is_at e l y k d ne m);
        }

  -- it opens the next round
  module _ (c' : ℕ → Bool) (e : close_decides s a ≡ false)
      (same-closers : (x : ℕ) → c' x ≡ c x) where
    below_limit : q < s.t
    below_limit = omega (arith, open_round s.n s.t a (rows_for s a) (process_at s a) e, (process_low s K a).round)

    open_placed : Placed s (opens_round s a (advanced_at s a)) a (advanced_at s a)
    unfolding advance_of open_round_of
    open_placed =
        placed_opens s a (advanced_at s a) Z (place_low s K a h) (round_low s K) (omega arith)
        (omega (arith, below_limit, K.few, K.limit))

    open_rest : ((opens_round s a (advanced_at s a)).crashed ≡ s.crashed)
        × ((opens_round s a (advanced_at s a)).in_transit ≡ s.in_transit)
    unfolding opens_round with_sent with_process
    open_rest = (refl, refl)

    open_row : row_of (opens_round s a (advanced_at s a)) a (suc q) ≡ filled_at s a
    unfolding advance_of open_round_of
    open_row =
        let r : (advanced_at s a).round ≡ suc (suc q) = omega arith in
        row_open _ a (suc q) (rw open_placed.here (omega arith))
        ∙ rw (← r)
        (opens_sent s a (advanced_at s a) Z (place_low s K a h) (omega (arith, below_limit, K.few, K.limit)))

    open_closed : Closed s (opens_round s a (advanced_at s a)) c c' a q (advanced_at s a)
    unfolding advance_of open_round_of view_of
    open_closed = record {
      placed = open_placed;
      crashed = open_rest.0;
      transit = open_rest.1;
      suspected = refl;
      received = refl;
      estimate = refl;
      row = open_row;
      round = omega arith;
      closers = λ x ne. same-closers x;
      closed = rw (open_placed.here, same-closers a) (omega arith);
    }

    open_view : Open s.n s.t (view_of s c) (view_of (opens_round s a (advanced_at s a)) c') a q
    unfolding view_of advance_of open_round_of
    open_view =
        let P = open_placed in
        record {
          close = close_view _ c' _ open_closed;
          more = below_limit;
          round = rw P.here (omega arith);
          decided = rw P.here (advance_decided (process_at s a) a (filled_at s a) ∙ open_here);
          previous = λ y. rw P.here;
          current = λ y. rw P.here (sym (next-has s c K B a q is_at y));
          outbox =
              λ y. rw P.here
              (has_remove _ a y ∙ ap (λ (u : Bool). u and not (same y a)) (sym (next-has s c K B a q is_at y)));
          why = rw open_row (reason s c K B a q is_at e);
        }

-- what the bench makes of the two ends
module _ (s : Bench) (a : ℕ) where
  effect_decides : close_decides s a ≡ true
      → effect (CloseOf a) s
      ≡ with_process s a (decided_at s a)
  unfolding effect closes_as
  effect_decides e =
      rw (close_on s.n s.t a (rows_for s a) (process_at s a) e)
      (select_on _ _ _ (decide_decided (process_at s a) _ _))

  effect-opens : has_decided (process_at s a) ≡ false → close_decides s a ≡ false
      → effect (CloseOf a) s ≡ opens_round s a (advanced_at s a)
  unfolding effect closes_as
  effect-opens d e =
      rw (close_off s.n s.t a (rows_for s a) (process_at s a) e)
      (select_off _ _ _ (advance_decided (process_at s a) a (filled_at s a) ∙ d))

module _ (s : Bench) (c : ℕ → Bool) (Z : Sized s) (K : Bounds s) (B : Basic s.n s.t (view_of s c)) where
  abbrev Ends : ℕ → Type 0
  Ends a =
      (q : ℕ) × (Open s.n s.t (view_of s c) (view_of (effect (CloseOf a) s) (closers_of (CloseOf a) s c)) a q
      ⊎ Decide s.n s.t (view_of s c) (view_of (effect (CloseOf a) s) (closers_of (CloseOf a) s c)) a q)

  ended : (a : ℕ) (s' : Bench) (p' : Process) → effect (CloseOf a) s ≡ s' → Placed s s' a p'
      → has_decided (process_at (effect (CloseOf a) s) a) ≡ has_decided p'
  ended a s' p' e P = rw (e, P.here)

  pub close_step : (a : ℕ) → a < s.n → refuses (CloseOf a) s ≡ 0 → Ends a
  unfolding passes7 passes8 actor takes_part
  close_step a h z = ((process_at s a).round - 1, go (is (close_decides s a)))
    where
      A : Passes (CloseOf a) s
      A = passes_on (CloseOf a) s z

      q : ℕ
      q = (process_at s a).round - 1

      open_here : has_decided (process_at s a) ≡ false
      open_here = not_on _ (and_second _ _ (and_first _ _ A.pass7))

      is_at : (process_at s a).round ≡ suc q
      is_at = omega (arith, less_on _ _ (and_first _ _ (and_first _ _ A.pass7)))

      none : (process_at s a).outbox ≡ 0
      none = same_on _ _ (and_second _ _ A.pass7)

      go : Is (close_decides s a)
          → Open s.n s.t (view_of s c) (view_of (effect (CloseOf a) s) (closers_of (CloseOf a) s c)) a q
          ⊎ Decide s.n s.t (view_of s c) (view_of (effect (CloseOf a) s) (closers_of (CloseOf a) s c)) a q
      go (on e) =
          let d =
          ended a _ _ (effect_decides s a e) (placed_process s a (decided_at s a) Z (place_low s K a h))
          ∙ decide_decided (process_at s a) _ _ in
          inr (rw (effect_decides s a e)
          (decide_view s c Z K B a q h A.running open_here is_at none A.pass8 _ e (closers_there s c a)
          (closers_decide s c a d)))
      go (off e) =
          let d =
          ended a _ _ (effect-opens s a open_here e)
          (open_placed s c Z K B a q h A.running open_here is_at none A.pass8 c e (λ x. refl))
          ∙ advance_decided (process_at s a) a (filled_at s a) ∙ open_here in
          inl (rw (effect-opens s a open_here e)
          (open_view s c Z K B a q h A.running open_here is_at none A.pass8 _ e (closers_open s c a d)))
