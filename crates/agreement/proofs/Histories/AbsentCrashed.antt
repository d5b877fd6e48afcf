-- An entry is absent in the first decision only where its process crashed before: that decision is one at a close,
-- which has an entry for every running process, and it stays as it is. By induction along the history.
use Rattle.std.specs.Prelude.{◌≡◌, ◌⊎◌, ℕ, ◌<◌, is_some}
use Rattle.std.proofs.Common.{sym, ◌∙◌, inl, inr}
use Rattle.std.proofs.Math.Path.{ap}
use mathlib.Core.List.{List, [], ◌∷◌, ◌++◌}
use Rattle.std.proofs.Math.Bool.{true, false}
use Rattle.sets.specs.Set.{has}
use Rattle.sets.specs.TruthLaws.{Is, on, off, is, clash, off_by, or_mk_l}
use Rattle.process.specs.Steps.{has_decided}
use Rattle.bench.specs.declared.Event.{Event}
use Rattle.bench.specs.State.{process_at, crashed_at, opened_of}
use Rattle.bench.specs.Calls.{after_events}
use Rattle.agreement.specs.Statement.History.{after_history, outcome, before_decision, crashed_in}
use Rattle.agreement.specs.Histories.Append.{crashed_append, before_decided, before_none}
use Rattle.agreement.specs.Histories.Replay.{Next}
use Rattle.agreement.specs.View.Lasting.{decision_lasts}
use Rattle.agreement.specs.Invariants.Agreement.{present_at_close, first_is_close}
use Rattle.agreement.specs.Invariants.QuietEnd.{Least, least_or}
use Rattle.agreement.specs.Bridge.BenchView.{view_of, opened_view}
use Rattle.agreement.specs.Histories.OneEvent.{decision_off, decision_on}
use Rattle.agreement.specs.Histories.InvariantsHold.{Along, Further}
use Rattle.agreement.proofs.Histories.HistoryMatchesBench.{Told}

-- a decided process whose absent entries are of processes that crashed before the first decision
pub record First (n t : ℕ) (h : List Event) : Type 0 where
  pub who : ℕ
  pub low : who < n
  pub decided : has_decided (process_at (after_history n t h) who) ≡ true
  pub absence : (k : ℕ) → k < n → has (process_at (after_history n t h) who).estimate.present k ≡ false
      → crashed_in (before_decision (opened_of n t) h) k ≡ true

-- there is one as soon as any process has decided
abbrev pub Decided : ℕ → ℕ → List Event → Type 0
Decided n t h = (x : ℕ) → x < n → has_decided (process_at (after_history n t h) x) ≡ true → First n t h

pub first_opened : (n t : ℕ) → Decided n t []
unfolding after_history after_events view_of
first_opened n t x l d = clash _ d ((opened_view n t).decided x)

-- what the history says of a decision
pub decided_is : (n t : ℕ) (h : List Event) → Told n t h → (x : ℕ)
    → is_some (outcome (opened_of n t) h x) ≡ has_decided (process_at (after_history n t h) x)
decided_is n t h T x = go (is (has_decided (process_at (after_history n t h) x)))
  where
    go : Is (has_decided (process_at (after_history n t h) x))
        → is_some (outcome (opened_of n t) h x) ≡ has_decided (process_at (after_history n t h) x)
    go (on d) = ap is_some (T.outcome_is x ∙ decision_on _ d) ∙ sym d
    go (off d) = ap is_some (T.outcome_is x ∙ decision_off _ d) ∙ sym d

module _ (n t : ℕ) (h : List Event) (e : Event) (N : Next n t h e) (A : Along n t h) (F : Further n t h e A)
    (T : Told n t h) where
  -- some process had decided: nothing changes
  first_kept : First n t h → First n t (h ++ (e ∷ []))
  unfolding view_of
  first_kept W =
      let S = decision_lasts n t _ _ A.fit.good.basic F.step W.who W.decided in
      record {
        who = W.who;
        low = W.low;
        decided = S.decided ∙ W.decided;
        absence = λ k l z.
            ap (λ (g : List Event). crashed_in g k)
            (before_decided (opened_of n t) h (e ∷ []) W.who (decided_is n t h T W.who ∙ W.decided))
            ∙ W.absence k l (sym (S.estimate k) ∙ z);
      }

  -- none had: the one that has now decided at a close
  first_new : ((x : ℕ) → x < n → has_decided (process_at (after_history n t h) x) ≡ false) → Decided n t (h ++ (e ∷ []))
  unfolding view_of
  first_new none_yet x l d = record {
    who = x;
    low = l;
    decided = d;
    absence = λ k kn z. crashed_before k (go k kn z (is (crashed_at (after_history n t h) k)));
  }
    where
      go : (k : ℕ) → k < n → has (process_at (after_history n t (h ++ (e ∷ []))) x).estimate.present k ≡ false
          → Is (crashed_at (after_history n t h) k) → crashed_in h k ≡ true
      go k kn z (on c) = T.crashed_is k ∙ c
      go k kn z (off c) =
          let (q, D) = first_is_close n t _ _ A.fit.good.basic none_yet F.step x d in
          clash _ (present_at_close n t _ _ A.fit.good.basic A.fit.good.estimates x q D k kn c) z

      -- a process past n never starts, so it does not decide either
      nobody : (y : ℕ) → has_decided (process_at (after_history n t h) y) ≡ false
      nobody y =
          let B = A.fit.good.basic in
          off_by _ (λ w. clash _ w (none_yet y (B.low y (B.decided_started y w))))

      crashed_before : (k : ℕ) → crashed_in h k ≡ true
          → crashed_in (before_decision (opened_of n t) (h ++ (e ∷ []))) k ≡ true
      crashed_before k c =
          rw (before_none (opened_of n t) h (e ∷ []) (λ y. decided_is n t h T y ∙ nobody y), crashed_append)
          (or_mk_l _ _ c)

  pub first_next : Decided n t h → Decided n t (h ++ (e ∷ []))
  first_next D x l d = go (least_or n (λ y. has_decided (process_at (after_history n t h) y)) (λ y. 0))
    where
      go : Least n (λ y. has_decided (process_at (after_history n t h) y)) (λ y. 0)
          ⊎ ((y : ℕ) → y < n → has_decided (process_at (after_history n t h) y) ≡ false)
          → First n t (h ++ (e ∷ []))
      go (inl L) = first_kept (D L.at L.low L.passes)
      go (inr none_yet) = first_new none_yet x l d
