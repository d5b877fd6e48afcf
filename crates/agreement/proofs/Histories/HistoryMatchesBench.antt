-- What a history tells is what the bench holds after it: outcomes, rounds, crashes, and the values of the starts.
-- By induction along the history.
use Rattle.std.specs.Prelude.{◌≡◌, refl, List, [], ◌∷◌, ◌++◌, ◌⊎◌, ℕ, ◌+◌, ◌≤◌, ◌<◌, get_or, None, Some}
use Rattle.std.specs.Option.{option_or}
use Rattle.std.proofs.Math.Path.{sym, ap, ap₂}
use Rattle.std.proofs.Common.{◌∙◌, inl, inr, arith}
use Rattle.std.proofs.Math.Bool.{false}
use Rattle.sets.specs.Set.{size_of}
use Rattle.sets.specs.Laws.{size_empty}
use Rattle.sets.specs.Truth.{◌or◌, bit}
use Rattle.sets.specs.TruthLaws.{select_on, same_refl, off_by, or_off_r, le-or}
use Rattle.global_data.specs.GlobalData.{value_in, Entry}
use Rattle.global_data.proofs.Laws.{or_entry_absent, or_entry_value}
use Rattle.process.specs.Steps.{has_decided}
use Rattle.bench.specs.declared.Bench.{Bench}
use Rattle.bench.specs.declared.Event.{Event}
use Rattle.bench.specs.declared.Event.TheVariants.{Start, Send, Arrive, Close, Crash, Suspect}
use Rattle.bench.specs.State.{process_at, crashed_at, opened_of}
use Rattle.bench.proofs.RecordLaws.{InRange}
use Rattle.bench.specs.Refuse.{actor, is_crash}
use Rattle.bench.proofs.RefuseLaws.{Passes, passes_on}
use Rattle.bench.proofs.SoundLaws.{sound_on}
use Rattle.bench.specs.Calls.{after_events}
use Rattle.agreement.specs.Statement.History.{after_history, outcome, started_with, crashed_in, crash_count, rounds}
use Rattle.agreement.specs.Histories.Append.{decides_for, is_crash_of, first_none, outcome-append, rounds-append}
use Rattle.agreement.specs.Histories.Append.{crashed_append, crashes_append, started_append}
use Rattle.agreement.specs.Histories.Replay.{Next, reached_next, reached_sizes, sizes_to}
use Rattle.agreement.specs.View.Lasting.{start_lasts}
use Rattle.agreement.specs.Bridge.BenchView.{row_of, view_of, opened_view}
use Rattle.agreement.specs.Bridge.AllButClose.{start_step}
use Rattle.agreement.specs.Histories.OneEvent.{decision_of, decision_off, decision_effect}
use Rattle.agreement.specs.Histories.OneEvent.{opens_for, round_effect, CrashesAdded, crash_effect, start_or}
use Rattle.agreement.specs.Histories.InvariantsHold.{Along, Further}

-- the start of k, as a history has it: none before its first round, then the value that it sent in that round
pub record Begun (s : Bench) (k : ℕ) (start : Entry) : Type 0 where
  pub unstarted : (process_at s k).round ≡ 0 → start ≡ None
  pub started : 1 ≤ (process_at s k).round → start ≡ Some (value_in (get_or (row_of s k 0).values k 0))

pub record Told (n t : ℕ) (h : List Event) : Type 0 where
  pub outcome_is : (x : ℕ) → outcome (opened_of n t) h x ≡ decision_of (process_at (after_history n t h) x)
  pub round_is : (x : ℕ) → rounds (opened_of n t) h x ≡ (process_at (after_history n t h) x).round
  pub crashed_is : (k : ℕ) → crashed_in h k ≡ crashed_at (after_history n t h) k
  pub crashes_is : crash_count h ≡ size_of (after_history n t h).crashed
  pub begun : (k : ℕ) → Begun (after_history n t h) k (started_with h k)

pub told_opened : (n t : ℕ) → Told n t []
unfolding after_history after_events outcome rounds crashed_in crash_count started_with view_of opened_of
told_opened n t =
    let O = opened_view n t in
    record {
      outcome_is = λ x. sym (decision_off _ (O.decided x));
      round_is = λ x. sym (O.round x);
      crashed_is = λ k. sym (O.crashed k);
      crashes_is = sym size_empty;
      begun = λ k. record { unstarted = λ z. refl; started = λ l. absurd (omega (arith, O.round k)) };
    }

range_actor : (n t : ℕ) (e : Event) → InRange n t e → actor e < n
unfolding InRange actor
range_actor n t (Start a v) R = R
range_actor n t (Send a b) R = R.first
range_actor n t (Arrive a b m) R = R.0.second
range_actor n t (Close a) R = R
range_actor n t (Crash a) R = R
range_actor n t (Suspect a b) R = R.first

-- the start of k with v
start_begins : (n t : ℕ) (h : List Event) (k v : ℕ) → Next n t h (Start k v) → Along n t h
    → Begun (after_history n t (h ++ (Start k v ∷ []))) k (started_with (Start k v ∷ []) k)
unfolding view_of started_with InRange
start_begins n t h k v N A =
    let S = start_step (after_history n t h) A.closers A.sized (sound_on (after_history n t h) N.sound) k v
    (sizes_to n t h (λ m u. k < m) N.range) N.passes in
    rw (reached_next n t h (Start k v)) record {
      unstarted = λ z. absurd (omega (arith, S.round));
      started = λ l. select_on _ _ _ (same_refl k) ∙ ap (λ w. Some (value_in w)) (sym S.entry);
    }

module _ (n t : ℕ) (h : List Event) (e : Event) (N : Next n t h e) (A : Along n t h) (F : Further n t h e A)
    (T : Told n t h) where
  accepted : Passes e (after_history n t h)
  accepted = passes_on e (after_history n t h) N.passes

  actor_low : actor e < 16
  actor_low =
      omega
      (arith, range_actor n t e N.range, (sound_on (after_history n t h) N.sound).few, (reached_sizes n t h).0)

  undecided_first : (process_at (after_history n t h) (actor e)).round ≡ 0
      → has_decided (process_at (after_history n t h) (actor e)) ≡ false
  unfolding view_of
  undecided_first z = off_by _ (λ d. omega (arith, A.fit.good.basic.decided_started (actor e) d))

  outcome-next : (x : ℕ)
      → outcome (opened_of n t) (h ++ (e ∷ [])) x ≡ decision_of (process_at (after_history n t (h ++ (e ∷ []))) x)
  unfolding outcome decides_for after_history
  outcome-next x =
      outcome-append (opened_of n t) h (e ∷ []) x ∙ ap₂ option_or (T.outcome_is x) (first_none _)
      ∙ sym (decision_effect e (after_history n t h) A.sized.processes actor_low accepted undecided_first x)
      ∙ ap (λ (s : Bench). decision_of (process_at s x)) (sym (reached_next n t h e))

  round_here : (x : ℕ) → (process_at (after_history n t (h ++ (e ∷ []))) x).round
      ≡ (process_at (after_history n t h) x).round + opens_for e (after_history n t h) x
  round_here x =
      rw (reached_next n t h e) (round_effect e (after_history n t h) A.sized.processes actor_low accepted x)

  round_next : (x : ℕ) → rounds (opened_of n t) (h ++ (e ∷ [])) x
      ≡ (process_at (after_history n t (h ++ (e ∷ []))) x).round
  unfolding rounds after_history
  round_next x = omega (arith, rounds-append (opened_of n t) h (e ∷ []) x, T.round_is x, round_here x)

  crash_next : CrashesAdded (after_history n t h) (after_history n t (h ++ (e ∷ []))) (is_crash_of e) (bit (is_crash e))
  crash_next = rw (reached_next n t h e) (crash_effect e (after_history n t h) accepted.running)

  crashed_next : (k : ℕ) → crashed_in (h ++ (e ∷ [])) k ≡ crashed_at (after_history n t (h ++ (e ∷ []))) k
  unfolding crashed_in
  crashed_next k =
      crashed_append h (e ∷ []) k ∙ ap₂ ◌or◌ (T.crashed_is k) (or_off_r (is_crash_of e k) false refl)
      ∙ sym (crash_next.who k)

  crashes_next : crash_count (h ++ (e ∷ [])) ≡ size_of (after_history n t (h ++ (e ∷ []))).crashed
  unfolding crash_count
  crashes_next = omega (arith, crashes_append h (e ∷ []), T.crashes_is, crash_next.size)

  -- ---- starts
  -- once started, its value stays
  start_kept : (k : ℕ) → 1 ≤ (process_at (after_history n t h) k).round
      → Begun (after_history n t (h ++ (e ∷ []))) k (started_with (h ++ (e ∷ [])) k)
  unfolding view_of
  start_kept k l =
      let L = start_lasts n t _ _ A.fit.good.basic F.step k l in
      record {
        unstarted = λ z. absurd (omega (arith, L.0));
        started =
            λ u.
            started_append h (e ∷ []) k ∙ or_entry_value _ _ _ ((T.begun k).started l)
            ∙ ap (λ w. Some (value_in w)) (sym L.1);
      }

  -- before that it starts by this record, or does not
  start_new : (k : ℕ) → (process_at (after_history n t h) k).round ≡ 0
      → Begun (after_history n t (h ++ (e ∷ []))) k (started_with (e ∷ []) k)
  start_new k z = go (start_or e (after_history n t h) k accepted)
    where
      go : ((v : ℕ) × (e ≡ Start k v))
          ⊎ ((started_with (e ∷ []) k ≡ None)
          × ((process_at (after_history n t h) k).round ≡ 0 → opens_for e (after_history n t h) k ≡ 0))
          → Begun (after_history n t (h ++ (e ∷ []))) k (started_with (e ∷ []) k)
      go (inl (v, q)) = rw q (start_begins n t h k v (rw q at N) A)
      go (inr (d, o)) = record { unstarted = λ u. d; started = λ l. absurd (omega (arith, round_here k, o z)) }

  begun_next : (k : ℕ) → Begun (after_history n t (h ++ (e ∷ []))) k (started_with (h ++ (e ∷ [])) k)
  begun_next k = go (le-or 1 (process_at (after_history n t h) k).round)
    where
      go : (1 ≤ (process_at (after_history n t h) k).round) ⊎ ((process_at (after_history n t h) k).round < 1)
          → Begun (after_history n t (h ++ (e ∷ []))) k (started_with (h ++ (e ∷ [])) k)
      go (inl l) = start_kept k l
      go (inr l) =
          let z : (process_at (after_history n t h) k).round ≡ 0 = omega arith in
          rw (started_append h (e ∷ []) k, or_entry_absent _ _ ((T.begun k).unstarted z)) (start_new k z)

  pub told_next : Told n t (h ++ (e ∷ []))
  told_next = record {
    outcome_is = outcome-next;
    round_is = round_next;
    crashed_is = crashed_next;
    crashes_is = crashes_next;
    begun = begun_next;
  }
