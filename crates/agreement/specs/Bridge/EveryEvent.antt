-- Every accepted event of the bench is a step of its view, of the kind that the event says;
-- and a bench that refuses all but crashes is still.
use Rattle.std.specs.Prelude.{◌≡◌, ◌≢◌, ◌⊎◌, Bool, false}
use Rattle.std.proofs.Math.Path.{refl}
use Rattle.std.proofs.Common.{ap, ◌∙◌, inl, inr}
use Rattle.std.proofs.Math.Bool.{true, not}
use Prim.Native.Nat.{ℕ, zero, suc, ◌≤◌, ◌<◌}
use native.Mathlib.Omega.{arith}
use Rattle.sets.specs.Set.{has}
use Rattle.sets.specs.Laws.{empty_by}
use Rattle.sets.specs.Truth.{◌or◌}
use Rattle.sets.specs.TruthLaws.{Is, on, off, is, off_by, and_second, and_mk, and_off_r}
use Rattle.sets.specs.TruthLaws.{or_mk_l, or_mk_r, same_mk, less_mk, eq-or, le-or}
use Rattle.process.specs.Steps.{has_decided, takes_part, arrived_of, due_of}
use Rattle.process.specs.Laws.{has_arrived, due_mk}
use Rattle.bench.specs.declared.Bench.{Bench}
use Rattle.bench.specs.declared.Message.{Message}
use Rattle.bench.specs.declared.Message.TheVariants.{Estimate, Decision}
use Rattle.bench.specs.declared.Event.{Event}
use Rattle.bench.specs.declared.Event.TheVariants.{Start as StartOf, Send as SendOf, Arrive as ArriveOf}
use Rattle.bench.specs.declared.Event.TheVariants.{Close as CloseOf, Crash as CrashOf, Suspect as SuspectOf}
use Rattle.bench.specs.State.{process_at, transit_at, crashed_at}
use Rattle.bench.specs.Sound.{sound_of}
use Rattle.bench.proofs.RecordLaws.{MessageIn, InRange, ValueFits, zero_fits}
use Rattle.bench.specs.Refuse.{actor, number_of, passes7, passes8, refuses, is_crash}
use Rattle.bench.proofs.RefuseLaws.{passes_mk, ninth_other}
use Rattle.bench.proofs.SoundLaws.{Bounds, process_low, sound_on}
use Rattle.bench.specs.Effect.{effect}
use Rattle.agreement.specs.View.View.{View, Start, Send, Keep, Adopt, Ignore, Open, Decide, Crash, Suspect}
use Rattle.agreement.specs.View.View.{OneStep}
use Rattle.agreement.specs.View.View.{starts, sends, keeps, adopts, ignores, opens, decides, crashes, suspects}
use Rattle.agreement.specs.View.Basic.{Basic}
use Rattle.agreement.specs.Invariants.QuietEnd.{Still}
use Rattle.agreement.specs.Bridge.Lengths.{Sized}
use Rattle.agreement.specs.Bridge.BenchView.{heard, view_of}
use Rattle.agreement.specs.Bridge.AllButClose.{start_step, send_step, arrive_estimate_step}
use Rattle.agreement.specs.Bridge.AllButClose.{arrive_decision_step, crash_step, suspect_step}
use Rattle.agreement.specs.Bridge.Close.{closers_of, closers_there, closers_open, closers_decide, close_step}

-- the steps that an event may be
unfoldable pub StepOf : Event → ℕ → ℕ → View → View → Type 0
StepOf (StartOf a v) n t s s' = Start n s s' a v
StepOf (SendOf a b) n t s s' = Send n s s' a b
StepOf (ArriveOf a b (Estimate r)) n t s s' = Keep n t s s' a r b ⊎ Ignore n t s s' a r b
StepOf (ArriveOf a b Decision) n t s s' = Adopt n t s s' a 0 b ⊎ Ignore n t s s' a 0 b
StepOf (CloseOf a) n t s s' = (q : ℕ) × (Open n t s s' a q ⊎ Decide n t s s' a q)
StepOf (CrashOf a) n t s s' = Crash n t s s' a
StepOf (SuspectOf a b) n t s s' = Suspect n s s' a b

pub step_from : (e : Event) (n t : ℕ) (s s' : View) → StepOf e n t s s' → OneStep n t s s'
unfolding StepOf
step_from (StartOf a v) n t s s' S = starts S
step_from (SendOf a b) n t s s' S = sends S
step_from (ArriveOf a b (Estimate r)) n t s s' (inl S) = keeps S
step_from (ArriveOf a b (Estimate r)) n t s s' (inr S) = ignores S
step_from (ArriveOf a b Decision) n t s s' (inl S) = adopts S
step_from (ArriveOf a b Decision) n t s s' (inr S) = ignores S
step_from (CloseOf a) n t s s' w = go w.1
  where
    go : Open n t s s' a w.0 ⊎ Decide n t s s' a w.0 → OneStep n t s s'
    go (inl S) = opens S
    go (inr S) = decides S
step_from (CrashOf a) n t s s' S = crashes S
step_from (SuspectOf a b) n t s s' S = suspects S

module _ (s : Bench) (c : ℕ → Bool) (Z : Sized s) (K : Bounds s) (B : Basic s.n s.t (view_of s c)) where
  step_of_event : (e : Event) → InRange s.n s.t e → refuses e s ≡ 0
      → StepOf e s.n s.t (view_of s c) (view_of (effect e s) (closers_of e s c))
  unfolding StepOf InRange MessageIn closers_of
  step_of_event (StartOf a v) r z = start_step s c Z K a v r z
  step_of_event (SendOf a b) r z = send_step s c Z K a b r.first r.second r.differ z
  step_of_event (ArriveOf a b (Estimate m)) r z =
      arrive_estimate_step s c Z K a m b r.0.first r.0.second r.0.differ r.1.0
      (omega (arith, r.1.1)) z
  step_of_event (ArriveOf a b Decision) r z =
      arrive_decision_step s c Z K a b r.0.first r.0.second r.0.differ B z
  step_of_event (CloseOf a) r z = close_step s c Z K B a r z
  step_of_event (CrashOf a) r z = crash_step s c Z K a r z
  step_of_event (SuspectOf a b) r z = suspect_step s c Z K a b r.first r.second r.differ z

-- an event leaves the closers as they are, but for a close that decides
pub closers_tie : (e : Event) (s : Bench) (c : ℕ → Bool) (x : ℕ)
    → (closers_of e s c x ≡ c x)
    ⊎ ((e ≡ CloseOf x) × (has_decided (process_at (effect e s) x) ≡ true) × (closers_of e s c x ≡ true))
unfolding closers_of
closers_tie (StartOf a v) s c x = inl refl
closers_tie (SendOf a b) s c x = inl refl
closers_tie (ArriveOf a b m) s c x = inl refl
closers_tie (CloseOf a) s c x = go (eq-or x a) (is (has_decided (process_at (effect (CloseOf a) s) a)))
  where
    go : (x ≡ a) ⊎ (x ≢ a) → Is (has_decided (process_at (effect (CloseOf a) s) a))
        → (closers_of (CloseOf a) s c x ≡ c x)
        ⊎ ((CloseOf a ≡ CloseOf x) × (has_decided (process_at (effect (CloseOf a) s) x) ≡ true)
        × (closers_of (CloseOf a) s c x ≡ true))
    go (inl e) (on d) = inr (rw e, rw e d, rw e (closers_decide s c a d))
    go (inl e) (off d) = inl (closers_open s c a d x)
    go (inr ne) d = inl (closers_there s c a x ne)
closers_tie (CrashOf a) s c x = inl refl
closers_tie (SuspectOf a b) s c x = inl refl

-- which step it is
pub event_is : (s : Bench) (c : ℕ → Bool) (e : Event) → Sized s → sound_of s ≡ true → InRange s.n s.t e
    → Basic s.n s.t (view_of s c)
    → refuses e s ≡ 0 → StepOf e s.n s.t (view_of s c) (view_of (effect e s) (closers_of e s c))
event_is s c e Z h r B z = step_of_event s c Z (sound_on s h) B e r z

pub event_step : (s : Bench) (c : ℕ → Bool) (e : Event) → Sized s → sound_of s ≡ true → InRange s.n s.t e
    → Basic s.n s.t (view_of s c)
    → refuses e s ≡ 0
    → (c' : ℕ → Bool)
    × OneStep s.n s.t (view_of s c) (view_of (effect e s) c')
    × ((x : ℕ) → (c' x ≡ c x) ⊎ ((e ≡ CloseOf x) × (has_decided (process_at (effect e s) x) ≡ true) × (c' x ≡ true)))
event_step s c e Z h r B z = (closers_of e s c, step_from e _ _ _ _ (event_is s c e Z h r B z), closers_tie e s c)

-- ---- the quiet end: no event but a crash would be accepted

module _ (s : Bench) (c : ℕ → Bool) (K : Bounds s)
    (refused : (e : Event) → InRange s.n s.t e → ValueFits e → is_crash e ≡ false → refuses e s ≢ 0) where
  start_refused : (a : ℕ) → a < s.n → crashed_at s a ≡ false → 1 ≤ (process_at s a).round
  unfolding InRange ValueFits is_crash actor passes7 passes8
  start_refused a h run = go (le-or 1 (process_at s a).round)
    where
      go : (1 ≤ (process_at s a).round) ⊎ ((process_at s a).round < 1) → 1 ≤ (process_at s a).round
      go (inl l) = l
      go (inr l) =
          absurd (refused (StartOf a 0) h (zero_fits a) refl (passes_mk (StartOf a 0) s record {
            running = run;
            pass7 = same_mk _ _ (omega arith);
            pass8 = refl;
            pass9 = ninth_other _ s refl;
          }))

  send_refused : (a b : ℕ) → a < s.n → b < s.n → a ≢ b → crashed_at s a ≡ false
      → has (process_at s a).outbox b ≡ false
  unfolding InRange ValueFits is_crash actor passes7 passes8
  send_refused a b h h' ne run =
      off_by _ (λ o.
      refused (SendOf a b) (record { first = h; second = h'; differ = ne }) tt refl
      (passes_mk (SendOf a b) s record { running = run; pass7 = o; pass8 = refl; pass9 = ninth_other _ s refl }))

  -- message m, which has the number r
  arrival_refused : (a b : ℕ) (m : Message) → a < s.n → b < s.n → a ≢ b → MessageIn s.t m → crashed_at s b ≡ false
      → has (transit_at s a (number_of m)) b ≡ false
  unfolding InRange ValueFits is_crash actor passes7 passes8
  arrival_refused a b m h h' ne w run =
      off_by _ (λ o.
      refused (ArriveOf a b m) (record { first = h; second = h'; differ = ne }, w) tt refl
      (passes_mk (ArriveOf a b m) s record { running = run; pass7 = o; pass8 = refl; pass9 = ninth_other _ s refl }))

  none_arrives : (a r b : ℕ) → a < s.n → b < s.n → a ≢ b → r ≤ suc s.t → crashed_at s b ≡ false
      → has (transit_at s a r) b ≡ false
  unfolding number_of MessageIn
  none_arrives a zero b h h' ne d run = arrival_refused a b Decision h h' ne tt run
  none_arrives a (suc r) b h h' ne d run =
      arrival_refused a b (Estimate (suc r)) h h' ne (omega arith, omega arith) run

  suspicion_refused : (a b : ℕ) → a < s.n → b < s.n → a ≢ b → crashed_at s a ≡ false → crashed_at s b ≡ true
      → has (process_at s a).suspected b ≡ true
  unfolding InRange ValueFits is_crash actor passes7 passes8
  suspicion_refused a b h h' ne run g = go (is (has (process_at s a).suspected b))
    where
      go : Is (has (process_at s a).suspected b) → has (process_at s a).suspected b ≡ true
      go (on e) = e
      go (off e) =
          absurd (refused (SuspectOf a b)
          (record { first = h; second = h'; differ = ne }) tt refl (passes_mk (SuspectOf a b) s record {
            running = run;
            pass7 = and_mk _ _ g (ap not e);
            pass8 = refl;
            pass9 = ninth_other _ s refl;
          }))

  -- a close is due when each member of the current set has been received or is suspected
  due_by : (a : ℕ) → 1 ≤ (process_at s a).round
      → ((y : ℕ) → has (process_at s a).current y ≡ true
      → (y ≡ a) ⊎ (heard (process_at s a) (process_at s a).round y ≡ true) ⊎ (has (process_at s a).suspected y ≡ true))
      → due_of a (process_at s a) ≡ true
  unfolding heard
  due_by a l all = due_mk a (process_at s a) s.n (process_low s K a).current (λ y e. go y (all y e))
    where
      go : (y : ℕ) → (y ≡ a) ⊎ (heard (process_at s a) (process_at s a).round y ≡ true)
          ⊎ (has (process_at s a).suspected y ≡ true)
          → (has (arrived_of a (process_at s a)) y or has (process_at s a).suspected y) ≡ true
      go y (inl e) = or_mk_l _ _ (has_arrived a (process_at s a) y ∙ or_mk_l _ _ (same_mk y a e))
      go y (inr (inl e)) = or_mk_l _ _ (has_arrived a (process_at s a) y
          ∙ or_mk_r _ _ (and_second _ _ (and_second _ _ e)))
      go y (inr (inr e)) = or_mk_r _ _ e

  close_refused : (a : ℕ) → a < s.n → crashed_at s a ≡ false → has_decided (process_at s a) ≡ false
      → 1 ≤ (process_at s a).round
      → ((y : ℕ) → has (process_at s a).outbox y ≡ false) → due_of a (process_at s a) ≡ true → ⊥
  unfolding InRange ValueFits is_crash actor passes7 passes8 takes_part
  close_refused a h run d l none due =
      refused (CloseOf a) h tt refl (passes_mk (CloseOf a) s record {
        running = run;
        pass7 =
            and_mk _ _ (and_mk _ _ (less_mk _ _ l) (ap not d))
            (same_mk _ _ (empty_by s.n _ (process_low s K a).outbox (λ y w. none y)));
        pass8 = due;
        pass9 = ninth_other _ s refl;
      })

  still_of : Still s.n s.t (view_of s c)
  unfolding view_of
  still_of = record {
    started = start_refused;
    owes_none = send_refused;
    arrived = λ a r b h h' ne d run. and_off_r _ _ (and_off_r _ _ (none_arrives a r b h h' ne d run));
    suspected = suspicion_refused;
    no_close = λ a h run d l none all. close_refused a h run d l none (due_by a l all);
  }

pub still_view : (s : Bench) (c : ℕ → Bool) → sound_of s ≡ true
    → ((e : Event) → InRange s.n s.t e → ValueFits e → is_crash e ≡ false → refuses e s ≢ 0)
    → Still s.n s.t (view_of s c)
still_view s c h refused = still_of s c (sound_on s h) refused
