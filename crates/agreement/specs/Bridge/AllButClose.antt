-- A start, a send, an arrival, a crash and a suspicion of the bench are those of the view: the process that acts is
-- read off its protocol step, set by set, and the rest is unchanged.
use Rattle.std.specs.Prelude.{◌≡◌, ◌≢◌, ◌⊎◌, Bool, true, ℕ, suc, ◌-◌, ◌≤◌, ◌<◌, get_or, set, replicate}
use Rattle.std.proofs.Math.Path.{refl, ap}
use Rattle.std.proofs.Common.{◌∙◌, sym, inl, inr, arith, get_or-set_same}
use Rattle.std.proofs.Math.Bool.{false, not}
use Rattle.sets.specs.Set.{has, insert_of, remove_of, empty_set, size_of}
use Rattle.sets.specs.Laws.{has_empty, has_insert, has_remove, has_difference, has_all, size_count}
use Rattle.sets.specs.Truth.{◌and◌, ◌or◌, same, less, select}
use Rattle.sets.specs.TruthLaws.{Is, on, off, is, select_on, select_off, and_first, and_second, and_mk}
use Rattle.sets.specs.TruthLaws.{select_by, and_on_l, and_on_r, and_off_l, or_off_l, or_off_r, not_on, same_on}
use Rattle.sets.specs.TruthLaws.{same_refl, same_off, less_mk, less_off, less_on, by_both}
use Rattle.global_data.specs.GlobalData.{one_of}
use Rattle.process.specs.declared.Process.{Process}
use Rattle.process.specs.Steps.{has_decided, open_round_of, start_of, receive_of, keeps, decide_of}
use Rattle.process.specs.Steps.{owed_of, adopt_of, takes_part, message_of, send_of, suspect_of}
use Rattle.process.specs.Laws.{start_decided, decide_decided, send_decided}
use Rattle.process.specs.Laws.{suspect_decided, has_owed, adopt_on, adopt_off}
use Rattle.bench.specs.declared.Bench.{Bench}
use Rattle.bench.specs.declared.Message.TheVariants.{Estimate, Decision}
use Rattle.bench.specs.declared.Event.TheVariants.{Start as StartOf, Send as SendOf, Arrive as ArriveOf}
use Rattle.bench.specs.declared.Event.TheVariants.{Crash as CrashOf, Suspect as SuspectOf}
use Rattle.bench.specs.State.{process_at, sent_at, transit_at, crashed_at, with_process, with_sent, with_transit, with_crashed}
use Rattle.bench.specs.Refuse.{actor, number_of, passes7, refuses, is_crash}
use Rattle.bench.proofs.RefuseLaws.{Passes, passes_on, ninth_crash}
use Rattle.bench.proofs.SoundLaws.{Bounds, process_low}
use Rattle.bench.specs.Effect.{opens_round, sends, arrives, effect}
use Rattle.agreement.specs.View.View.{slot, keeping, taken, Calm, SameDecision, Start}
use Rattle.agreement.specs.View.View.{Send, Arrive, Keep, Adopt, Ignore, Crash, Suspect}
use Rattle.agreement.specs.View.Basic.{Basic}
use Rattle.agreement.specs.Bridge.Lengths.{Sized}
use Rattle.agreement.specs.Bridge.BenchView.{row_of, heard, view_of, Placed, placed_process, placed_transit}
use Rattle.agreement.specs.Bridge.BenchView.{placed_opens, opens_sent, row_open, others_of}
use Rattle.agreement.specs.Bridge.BenchView.{decision_of_lem, calm_of, clip_on, transit_of, heard_more}

-- who crashed, and what is in transit, where the bench keeps the part
pub same_crashed : (s s' : Bench) (c c' : ℕ → Bool) → s'.crashed ≡ s.crashed → (x : ℕ)
    → (view_of s' c').crashed x ≡ (view_of s c).crashed x
unfolding view_of crashed_at
same_crashed s s' c c' e x = rw e

pub same_transit : (s s' : Bench) (c c' : ℕ → Bool) → s'.in_transit ≡ s.in_transit
    → (x r y : ℕ) → (view_of s' c').transit x r y ≡ (view_of s c).transit x r y
unfolding view_of transit_at
same_transit s s' c c' e x r y = rw e

-- the global data of one entry
one_has : (a v k : ℕ) → has (one_of a v).present k ≡ same k a
unfolding one_of
one_has a v k = has_insert empty_set a k ∙ or_off_r _ _ (has_empty k)

one_value : (a v : ℕ) → a < 16 → get_or (one_of a v).values a 0 ≡ v
unfolding one_of
one_value a v h = get_or-set_same (replicate 16 0) a v 0 h

pub place_low : (s : Bench) → Bounds s → (x : ℕ) → x < s.n → x < 16
place_low s K x h = omega (arith, K.few)

pub round_low : (s : Bench) → Bounds s → (x : ℕ) → (process_at s x).round ≤ 16
round_low s K x = omega (arith, (process_low s K x).round, K.few, K.limit)

module _ (s : Bench) (c : ℕ → Bool) (Z : Sized s) (K : Bounds s) where
  -- ---- start

  module _ (a v : ℕ) (h : a < s.n) (was : (process_at s a).round ≡ 0) where
    start_placed : Placed s (effect (StartOf a v) s) a (start_of s.n a v (process_at s a))
    unfolding effect start_of open_round_of
    start_placed =
        placed_opens s a (start_of s.n a v (process_at s a)) Z (place_low s K a h) (round_low s K)
        (omega (arith, was)) (omega arith)

    start_row : row_of (effect (StartOf a v) s) a 0 ≡ one_of a v
    unfolding effect start_of open_round_of
    start_row =
        row_open (effect (StartOf a v) s) a 0 (rw start_placed.here (omega arith))
        ∙ opens_sent s a (start_of s.n a v (process_at s a)) Z (place_low s K a h) (omega arith)

    start_rest : ((effect (StartOf a v) s).crashed ≡ s.crashed) × ((effect (StartOf a v) s).in_transit ≡ s.in_transit)
    unfolding effect opens_round with_sent with_process
    start_rest = (refl, refl)

    start_view : crashed_at s a ≡ false → Start s.n (view_of s c) (view_of (effect (StartOf a v) s) c) a v
    unfolding view_of heard start_of open_round_of
    start_view run =
        let P = start_placed in
        record {
          low = h;
          running = run;
          was = was;
          others = others_of s _ a _ P c c (λ x ne. refl);
          crashed = same_crashed s _ c c start_rest.0;
          transit = same_transit s _ c c start_rest.1;
          received = λ r y. rw P.here;
          suspected = λ y. rw P.here;
          decided = rw P.here (start_decided (process_at s a) s.n a v);
          round = rw P.here;
          closed = rw P.here (omega (arith, was));
          previous = λ y. rw P.here (has_all s.n y);
          current =
              λ y. rw P.here (has_difference _ _ y
              ∙ ap (λ (u : Bool). u and not (has (process_at s a).suspected y)) (has_all s.n y));
          outbox = λ y. rw P.here (has_remove _ a y);
          row = λ k. rw start_row (one_has a v k);
          entry = rw start_row (one_value a v (place_low s K a h));
          estimate = λ k. rw P.here (one_has a v k);
          value = rw P.here (one_value a v (place_low s K a h));
          value_row = λ k. rw (P.here, start_row);
        }

  pub start_step : (a v : ℕ) → a < s.n → refuses (StartOf a v) s ≡ 0
      → Start s.n (view_of s c) (view_of (effect (StartOf a v) s) c) a v
  unfolding passes7 actor
  start_step a v h z = let A = passes_on (StartOf a v) s z in start_view a v h (same_on _ 0 A.pass7) A.running

  -- ---- send

  message_low : (a : ℕ) → message_of (process_at s a) < 17
  unfolding message_of
  message_low a = go (is (has_decided (process_at s a)))
    where
      go : Is (has_decided (process_at s a)) → select (has_decided (process_at s a)) 0 (process_at s a).round < 17
      go (on e) = rw (select_on _ 0 (process_at s a).round e) (omega arith)
      go (off e) = rw (select_off _ 0 (process_at s a).round e) (omega (arith, round_low s K a))

  module _ (a b : ℕ) (h : a < s.n) where
    send_placed : Placed s (effect (SendOf a b) s) a (send_of b (process_at s a))
    unfolding effect sends
    send_placed = placed_transit s _ a a _ _ _ (placed_process s a (send_of b (process_at s a)) Z (place_low s K a h))

    send_crashed : (effect (SendOf a b) s).crashed ≡ s.crashed
    unfolding effect sends with_transit with_process
    send_crashed = refl

    send_transit : (effect (SendOf a b) s).in_transit
        ≡ (with_transit s a (message_of (process_at s a))
        (insert_of (transit_at s a (message_of (process_at s a))) b)).in_transit
    unfolding effect sends with_transit with_process transit_at
    send_transit = refl

    send_view : b < s.n → a ≢ b → crashed_at s a ≡ false → has (process_at s a).outbox b ≡ true
        → Send s.n (view_of s c) (view_of (effect (SendOf a b) s) c) a b
    unfolding view_of heard send_of slot message_of
    send_view h' ne run o =
        let P = send_placed in
        record {
          low = h;
          low_b = h';
          apart = ne;
          running = run;
          owed = o;
          others = others_of s _ a _ P c c (λ x d. refl);
          calm = calm_of s _ a _ P c refl refl refl (λ w. refl);
          decision = decision_of_lem s _ a _ P c c (send_decided (process_at s a) b) refl;
          crashed = same_crashed s _ c c send_crashed;
          received = λ r y. rw P.here;
          suspected = λ y. rw P.here;
          outbox = λ y. rw P.here (has_remove _ b y);
          transit =
              transit_of ◌or◌ (λ w. or_off_l false w refl) s _ c c a _ b _ Z.transit (place_low s K a h)
              (message_low a) send_transit (has_insert _ b);
        }

  pub send_step : (a b : ℕ) → a < s.n → b < s.n → a ≢ b → refuses (SendOf a b) s ≡ 0
      → Send s.n (view_of s c) (view_of (effect (SendOf a b) s) c) a b
  unfolding passes7 actor
  send_step a b h h' ne z = let A = passes_on (SendOf a b) s z in send_view a b h h' ne A.running A.pass7

  -- ---- crash

  module _ (a : ℕ) (h : a < s.n) where
    crash_placed : Placed s (effect (CrashOf a) s) a (process_at s a)
    unfolding effect with_crashed process_at sent_at
    crash_placed = record { here = refl; there = λ x ne. refl; sent = λ x l d. refl }

    crash_view : crashed_at s a ≡ false → size_of s.crashed < s.t
        → Crash s.n s.t (view_of s c) (view_of (effect (CrashOf a) s) c) a
    unfolding view_of effect with_crashed crashed_at
    crash_view run few =
        let P = crash_placed in
        record {
          low = h;
          running = run;
          few = omega (arith, size_count s.n s.crashed K.crashed);
          others = others_of s _ a _ P c c (λ x d. refl);
          calm = calm_of s _ a _ P c refl refl refl (λ w. refl);
          decision = decision_of_lem s _ a _ P c c refl refl;
          transit = same_transit s _ c c refl;
          received = λ r y. rw P.here;
          suspected = λ y. rw P.here;
          outbox = λ y. rw P.here;
          crashed = λ x. has_insert s.crashed a x;
        }

  pub crash_step : (a : ℕ) → a < s.n → refuses (CrashOf a) s ≡ 0
      → Crash s.n s.t (view_of s c) (view_of (effect (CrashOf a) s) c) a
  unfolding is_crash actor
  crash_step a h z =
      let A = passes_on (CrashOf a) s z in
      crash_view a h A.running (less_on _ _ (sym (ninth_crash (CrashOf a) s refl) ∙ A.pass9))

  -- ---- suspect

  module _ (a b : ℕ) (h : a < s.n) where
    suspect_placed : Placed s (effect (SuspectOf a b) s) a (suspect_of b (process_at s a))
    unfolding effect
    suspect_placed = placed_process s a (suspect_of b (process_at s a)) Z (place_low s K a h)

    suspect_rest : ((effect (SuspectOf a b) s).crashed ≡ s.crashed)
        × ((effect (SuspectOf a b) s).in_transit ≡ s.in_transit)
    unfolding effect with_process
    suspect_rest = (refl, refl)

    suspect_view : b < s.n → a ≢ b → crashed_at s a ≡ false → crashed_at s b ≡ true
        → has (process_at s a).suspected b ≡ false
        → Suspect s.n (view_of s c) (view_of (effect (SuspectOf a b) s) c) a b
    unfolding view_of heard suspect_of
    suspect_view h' ne run g f =
        let P = suspect_placed in
        record {
          low = h;
          low_b = h';
          apart = ne;
          running = run;
          gone = g;
          fresh = f;
          others = others_of s _ a _ P c c (λ x d. refl);
          calm = calm_of s _ a _ P c refl refl refl (λ w. refl);
          decision = decision_of_lem s _ a _ P c c (suspect_decided (process_at s a) b) refl;
          crashed = same_crashed s _ c c suspect_rest.0;
          transit = same_transit s _ c c suspect_rest.1;
          received = λ r y. rw P.here;
          outbox = λ y. rw P.here;
          suspected = λ y. rw P.here (has_insert _ b y);
        }

  pub suspect_step : (a b : ℕ) → a < s.n → b < s.n → a ≢ b → refuses (SuspectOf a b) s ≡ 0
      → Suspect s.n (view_of s c) (view_of (effect (SuspectOf a b) s) c) a b
  unfolding passes7 actor
  suspect_step a b h h' ne z =
      let A = passes_on (SuspectOf a b) s z in
      suspect_view a b h h' ne A.running (and_first _ _ A.pass7) (not_on _ (and_second _ _ A.pass7))

-- ---- arrival

and_swap : (a b : Bool) → (a and b) ≡ (b and a)
and_swap a b =
    by_both (a and b) (b and a) (λ e. and_mk b a (and_second a b e) (and_first a b e))
    (λ e. and_mk a b (and_second b a e) (and_first b a e))

and_regroup : (a b d : Bool) → ((a and b) and d) ≡ (a and (b and d))
unfolding ◌and◌
and_regroup true b d = refl
and_regroup false b d = refl

-- whom a decision is owed
pub owed_has : (n a : ℕ) (p : Process) (y : ℕ)
    → has (owed_of n a p) y ≡ (less y n and (not (same y a) and not (has p.suspected y)))
owed_has n a p y = has_owed a p y n ∙ and_regroup _ _ _

-- the sets, the round and the decision stay
record Hears (p p' : Process) : Type 0 where
  round : p'.round ≡ p.round
  decided : has_decided p' ≡ has_decided p
  previous : p'.previous ≡ p.previous
  current : p'.current ≡ p.current
  suspected : p'.suspected ≡ p.suspected
  outbox : p'.outbox ≡ p.outbox
  estimate : p'.estimate ≡ p.estimate

hears_same : (p : Process) → Hears p p
hears_same p = record {
  round = refl;
  decided = refl;
  previous = refl;
  current = refl;
  suspected = refl;
  outbox = refl;
  estimate = refl;
}

receive_hears : (y r : ℕ) (p : Process) → Hears p (receive_of y r p)
unfolding receive_of has_decided
receive_hears y r p =
    select_by (Hears p) (keeps p y r) _ p
    (λ e. record {
      round = refl;
      decided = refl;
      previous = refl;
      current = refl;
      suspected = refl;
      outbox = refl;
      estimate = refl;
    })
    (λ e. hears_same p)

receive_on : (y r : ℕ) (p : Process) → keeps p y r ≡ true
    → (receive_of y r p).received ≡ set p.received (r - 1) (insert_of (get_or p.received (r - 1) 0) y)
unfolding receive_of
receive_on y r p e = ap (λ (q : Process). q.received) (select_on (keeps p y r) _ p e)

receive_off : (y r : ℕ) (p : Process) → keeps p y r ≡ false → receive_of y r p ≡ p
unfolding receive_of
receive_off y r p e = select_off (keeps p y r) _ p e

-- whom an adopted decision is owed: not the one that it came from
adopted_has : (n a k : ℕ) (p : Process) (y : ℕ)
    → has (remove_of (owed_of n a p) k) y
    ≡ (less y n and (not (same y a) and (not (has p.suspected y) and not (same y k))))
adopted_has n a k p y =
    has_remove _ k y ∙ ap (λ (u : Bool). u and not (same y k)) (owed_has n a p y) ∙ and_regroup _ _ _
    ∙ ap (λ (u : Bool). less y n and u) (and_regroup _ _ _)

-- what b keeps and takes over, in the view
kept_estimate : (s : Bench) (c : ℕ → Bool) (a r b : ℕ) → 1 ≤ r → keeping (view_of s c) a r b ≡ keeps (process_at s b) a r
unfolding view_of keeping keeps
kept_estimate s c a r b h = and_on_l _ _ (less_mk 0 r h)

kept_decision : (s : Bench) (c : ℕ → Bool) (a b : ℕ) → keeping (view_of s c) a 0 b ≡ false
unfolding keeping
kept_decision s c a b = and_off_l _ _ (less_off 0 0 (omega arith))

taken_estimate : (s : Bench) (c : ℕ → Bool) (r b : ℕ) → 1 ≤ r → taken (view_of s c) r b ≡ false
unfolding taken
taken_estimate s c r b h = and_off_l _ _ (same_off r 0 (omega arith))

taken_decision : (s : Bench) (c : ℕ → Bool) (b : ℕ) → taken (view_of s c) 0 b ≡ takes_part (process_at s b)
unfolding view_of taken takes_part
taken_decision s c b = and_on_l _ _ (same_refl 0) ∙ and_swap _ _

module _ (s : Bench) (c : ℕ → Bool) (Z : Sized s) (K : Bounds s) where
  -- what all arrivals share, where b is p now
  arrive_of : (s' : Bench) (a r b : ℕ) (p : Process) → Placed s s' b p → a < s.n → b < s.n → a ≢ b → r ≤ suc s.t
      → crashed_at s b ≡ false
      → has (transit_at s a r) b ≡ true → s'.crashed ≡ s.crashed
      → s'.in_transit ≡ (with_transit s a r (remove_of (transit_at s a r) b)).in_transit
      → p.suspected ≡ (process_at s b).suspected → Calm (view_of s c) (view_of s' c) b
      → Arrive s.n s.t (view_of s c) (view_of s' c) a r b
  unfolding view_of
  arrive_of s' a r b p P h h' ne d run w e f g calm =
      let l = place_low s K a h in
      let m : r < 17 = omega (arith, K.few, K.limit) in
      record {
        low = h;
        low_b = h';
        apart = ne;
        bound = d;
        running = run;
        sent = clip_on a 16 r 17 _ l m ∙ w;
        others = others_of s s' b p P c c (λ x u. refl);
        calm = calm;
        crashed = same_crashed s s' c c e;
        suspected = λ y. rw (P.here, g);
        transit =
            transit_of (λ u v. v and not u) (λ v. and_on_r v (not false) refl) s s' c c a r b _ Z.transit l m f
            (has_remove _ b);
      }

  -- an estimate
  module _ (a r b : ℕ) (h : a < s.n) (h' : b < s.n) (ne : a ≢ b) (first : 1 ≤ r) (d : r ≤ suc s.t)
      (run : crashed_at s b ≡ false)
      (w : has (transit_at s a r) b ≡ true) where
    hear_placed : Placed s (effect (ArriveOf a b (Estimate r)) s) b (receive_of a r (process_at s b))
    unfolding effect arrives
    hear_placed =
        placed_transit s _ b a _ _ _ (placed_process s b (receive_of a r (process_at s b)) Z (place_low s K b h'))

    hear_rest : ((effect (ArriveOf a b (Estimate r)) s).crashed ≡ s.crashed)
        × ((effect (ArriveOf a b (Estimate r)) s).in_transit
        ≡ (with_transit s a r (remove_of (transit_at s a r) b)).in_transit)
    unfolding effect arrives with_transit with_process transit_at
    hear_rest = (refl, refl)

    hear_arrive : Arrive s.n s.t (view_of s c) (view_of (effect (ArriveOf a b (Estimate r)) s) c) a r b
    hear_arrive =
        let E = receive_hears a r (process_at s b) in
        arrive_of _ a r b _ hear_placed h h' ne d run w hear_rest.0 hear_rest.1 E.suspected
        (calm_of s _ b _ hear_placed c E.round E.previous E.current (λ u. E.estimate))

    hear_decision : SameDecision (view_of s c) (view_of (effect (ArriveOf a b (Estimate r)) s) c) b
    hear_decision =
        let E = receive_hears a r (process_at s b) in
        decision_of_lem s _ b _ hear_placed c c E.decided E.estimate

    hear_outbox : (y : ℕ) → (view_of (effect (ArriveOf a b (Estimate r)) s) c).outbox b y ≡ (view_of s c).outbox b y
    unfolding view_of
    hear_outbox y = rw (hear_placed.here, (receive_hears a r (process_at s b)).outbox)

    keep_view : keeps (process_at s b) a r ≡ true
        → Keep s.n s.t (view_of s c) (view_of (effect (ArriveOf a b (Estimate r)) s) c) a r b
    unfolding view_of
    keep_view e = record {
      arrive = hear_arrive;
      kept_here = kept_estimate s c a r b first ∙ e;
      decision = hear_decision;
      outbox = hear_outbox;
      received =
          λ m y. rw hear_placed.here (heard_more (process_at s b) _ a r (Z.received b (place_low s K b h')) first
          (omega (arith, K.few, K.limit)) (receive_on a r (process_at s b) e) m y);
    }

    ignore_view : keeps (process_at s b) a r ≡ false
        → Ignore s.n s.t (view_of s c) (view_of (effect (ArriveOf a b (Estimate r)) s) c) a r b
    unfolding view_of
    ignore_view e = record {
      arrive = hear_arrive;
      not_kept = kept_estimate s c a r b first ∙ e;
      not_taken = taken_estimate s c r b first;
      decision = hear_decision;
      outbox = hear_outbox;
      received = λ m y. rw (hear_placed.here, receive_off a r (process_at s b) e);
    }

  pub arrive_estimate_step : (a r b : ℕ) → a < s.n → b < s.n → a ≢ b → 1 ≤ r → r ≤ suc s.t
      → refuses (ArriveOf a b (Estimate r)) s ≡ 0
      → Keep s.n s.t (view_of s c) (view_of (effect (ArriveOf a b (Estimate r)) s) c) a r b
      ⊎ Ignore s.n s.t (view_of s c) (view_of (effect (ArriveOf a b (Estimate r)) s) c) a r b
  unfolding passes7 actor number_of
  arrive_estimate_step a r b h h' ne first d z = go (is (keeps (process_at s b) a r))
    where
      A : Passes (ArriveOf a b (Estimate r)) s
      A = passes_on (ArriveOf a b (Estimate r)) s z

      go : Is (keeps (process_at s b) a r)
          → Keep s.n s.t (view_of s c) (view_of (effect (ArriveOf a b (Estimate r)) s) c) a r b
          ⊎ Ignore s.n s.t (view_of s c) (view_of (effect (ArriveOf a b (Estimate r)) s) c) a r b
      go (on e) = inl (keep_view a r b h h' ne first d A.running A.pass7 e)
      go (off e) = inr (ignore_view a r b h h' ne first d A.running A.pass7 e)

  -- a decision
  module _ (a b : ℕ) (h : a < s.n) (h' : b < s.n) (ne : a ≢ b) (run : crashed_at s b ≡ false)
      (w : has (transit_at s a 0) b ≡ true) where
    told_placed : Placed s (effect (ArriveOf a b Decision) s) b
        (adopt_of s.n b a (process_at s a).estimate (process_at s b))
    unfolding effect arrives
    told_placed = placed_transit s _ b a _ _ _ (placed_process s b _ Z (place_low s K b h'))

    told_rest : ((effect (ArriveOf a b Decision) s).crashed ≡ s.crashed)
        × ((effect (ArriveOf a b Decision) s).in_transit ≡ (with_transit s a 0 (remove_of (transit_at s a 0) b)).in_transit)
    unfolding effect arrives with_transit with_process transit_at
    told_rest = (refl, refl)

    adopt_view : Basic s.n s.t (view_of s c) → takes_part (process_at s b) ≡ true
        → Adopt s.n s.t (view_of s c) (view_of (effect (ArriveOf a b Decision) s) c) a 0 b
    unfolding view_of heard decide_of takes_part
    adopt_view B e =
        let P : Placed s (effect (ArriveOf a b Decision) s) b
        (decide_of (process_at s a).estimate (remove_of (owed_of s.n b (process_at s b)) a) (process_at s b)) =
        rw (adopt_on s.n b a (process_at s a).estimate (process_at s b) e) at told_placed in
        record {
          arrive =
              arrive_of _ a 0 b _ P h h' ne (omega arith) run w told_rest.0 told_rest.1 refl
              (calm_of s _ b _ P c refl refl refl
              (λ u. absurd (omega (arith, B.closed_is b (not_on _ (and_second _ _ e))))));
          taken_here = taken_decision s c b ∙ e;
          decided = rw P.here (decide_decided (process_at s b) _ _);
          estimate = λ k. rw P.here;
          value = λ k. rw P.here;
          received = λ m y. rw P.here;
          outbox = λ y. rw P.here (adopted_has s.n b a (process_at s b) y);
        }

    drop_view : takes_part (process_at s b) ≡ false
        → Ignore s.n s.t (view_of s c) (view_of (effect (ArriveOf a b Decision) s) c) a 0 b
    unfolding view_of
    drop_view e =
        let P : Placed s (effect (ArriveOf a b Decision) s) b (process_at s b) =
        rw (adopt_off s.n b a (process_at s a).estimate (process_at s b) e) at told_placed in
        record {
          arrive =
              arrive_of _ a 0 b _ P h h' ne (omega arith) run w told_rest.0 told_rest.1 refl
              (calm_of s _ b _ P c refl refl refl (λ u. refl));
          not_kept = kept_decision s c a b;
          not_taken = taken_decision s c b ∙ e;
          decision = decision_of_lem s _ b _ P c c refl refl;
          outbox = λ y. rw P.here;
          received = λ m y. rw P.here;
        }

  pub arrive_decision_step : (a b : ℕ) → a < s.n → b < s.n → a ≢ b → Basic s.n s.t (view_of s c)
      → refuses (ArriveOf a b Decision) s ≡ 0
      → Adopt s.n s.t (view_of s c) (view_of (effect (ArriveOf a b Decision) s) c) a 0 b
      ⊎ Ignore s.n s.t (view_of s c) (view_of (effect (ArriveOf a b Decision) s) c) a 0 b
  unfolding passes7 actor number_of
  arrive_decision_step a b h h' ne B z = go (is (takes_part (process_at s b)))
    where
      A : Passes (ArriveOf a b Decision) s
      A = passes_on (ArriveOf a b Decision) s z

      go : Is (takes_part (process_at s b))
          → Adopt s.n s.t (view_of s c) (view_of (effect (ArriveOf a b Decision) s) c) a 0 b
          ⊎ Ignore s.n s.t (view_of s c) (view_of (effect (ArriveOf a b Decision) s) c) a 0 b
      go (on e) = inl (adopt_view a b h h' ne A.running A.pass7 B e)
      go (off e) = inr (drop_view a b h h' ne A.running A.pass7 e)
