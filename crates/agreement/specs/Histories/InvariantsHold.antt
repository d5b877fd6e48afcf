-- After every history of accepted records the bench has all the invariants, and has worked at least once for each
-- record: the opened bench has them, and each record is a step of the view.
use Rattle.std.specs.Prelude.{◌≡◌, List, [], ◌∷◌, ◌++◌, Bool, true, false, ℕ, suc, ◌≤◌, length}
use Rattle.std.proofs.Common.{◌∙◌, arith, length-append}
use Rattle.bench.specs.declared.Bench.{Bench}
use Rattle.bench.specs.declared.Event.{Event}
use Rattle.bench.specs.Sound.{opens, sound_of}
use Rattle.bench.proofs.SoundLaws.{sound_opened}
use Rattle.bench.proofs.RecordLaws.{InRange}
use Rattle.bench.specs.Effect.{effect}
use Rattle.bench.specs.Calls.{after_events}
use Rattle.agreement.specs.Statement.History.{after_history}
use Rattle.agreement.specs.Histories.Replay.{Next, reached_next, sizes_to, sizes_from}
use Rattle.agreement.specs.View.View.{View, OneStep, Opened}
use Rattle.agreement.specs.View.Basic.{Basic}
use Rattle.agreement.specs.Invariants.Safety.{Good, good_opened, good_step}
use Rattle.agreement.specs.Invariants.NoMessageLost.{Wire, wire_opened, wire_step}
use Rattle.agreement.specs.Invariants.RecordBound.{Once, once_opened, once_step, work, work_step}
use Rattle.agreement.specs.Bridge.Lengths.{Sized, sized_opened, sized_effect}
use Rattle.agreement.specs.Bridge.EveryEvent.{event_step}
use Rattle.agreement.specs.Bridge.BenchView.{view_of, opened_view}

-- the invariants of a view, which has worked for `size` records
pub record Fit (n t size : ℕ) (s : View) : Type 0 where
  pub good : Good n t s
  pub wire : Wire n t s
  pub once : Once n t s
  pub worked : size ≤ work n t s

fit_opened : (n t : ℕ) (s : View) → Opened s → Fit n t 0 s
fit_opened n t s O =
    record { good = good_opened n t s O; wire = wire_opened n t s O; once = once_opened O; worked = omega arith }

fit_step : (n t size : ℕ) (s s' : View) → Fit n t size s → OneStep n t s s' → Fit n t (suc size) s'
fit_step n t size s s' F S =
    let B = F.good.basic in
    let G = good_step n t s s' F.good S in
    record {
      good = G;
      wire = wire_step n t s s' B F.wire G.basic S;
      once = once_step B F.once S;
      worked = omega (arith, F.worked, work_step B F.once S);
    }

-- the bench after h, with the processes that decided at a close
pub record Along (n t : ℕ) (h : List Event) : Type 0 where
  pub closers : ℕ → Bool
  pub sized : Sized (after_history n t h)
  pub sound : sound_of (after_history n t h) ≡ true
  pub fit : Fit n t (length h) (view_of (after_history n t h) closers)

pub record Further (n t : ℕ) (h : List Event) (e : Event) (A : Along n t h) : Type 0 where
  pub further : Along n t (h ++ (e ∷ []))
  pub step : OneStep n t (view_of (after_history n t h) A.closers)
      (view_of (after_history n t (h ++ (e ∷ []))) further.closers)

pub along_opened : (n t : ℕ) → opens n t ≡ true → Along n t []
unfolding after_history after_events
along_opened n t o = record {
  closers = λ x. false;
  sized = sized_opened n t;
  sound = sound_opened n t o;
  fit = fit_opened n t _ (opened_view n t);
}

pub along_next : (n t : ℕ) (h : List Event) (e : Event) → Next n t h e → (A : Along n t h) → Further n t h e A
along_next n t h e N A = record {
  further = record {
    closers = M.0;
    sized = rw (reached_next n t h e) (sized_effect e (after_history n t h) A.sized);
    sound = N.sound_after;
    fit = rw longer (fit_step n t (length h) _ _ A.fit step);
  };
  step = step;
}
  where
    s : Bench
    s = after_history n t h

    M : (c' : ℕ → Bool) × OneStep n t (view_of s A.closers) (view_of (effect e s) c')
    M =
        let E = event_step s A.closers e A.sized N.sound (sizes_to n t h (λ m u. InRange m u e) N.range)
        (sizes_to n t h (λ m u. Basic m u (view_of s A.closers)) A.fit.good.basic) N.passes in
        (E.0, sizes_from n t h (λ m u. OneStep m u (view_of s A.closers) (view_of (effect e s) E.0)) E.1)

    step : OneStep n t (view_of s A.closers) (view_of (after_history n t (h ++ (e ∷ []))) M.0)
    step = rw (reached_next n t h e) M.1

    longer : length (h ++ (e ∷ [])) ≡ suc (length h)
    longer = length-append h (e ∷ []) ∙ omega arith
