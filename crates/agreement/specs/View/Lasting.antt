-- What stays once it is so, whatever record is accepted: a start and its value, a decision.
use Rattle.std.specs.Prelude.{◌≡◌, ◌⊎◌, true, ℕ, ◌≤◌}
use Rattle.std.proofs.Common.{◌∙◌, ap, inl, inr, arith}
use Rattle.sets.specs.TruthLaws.{clash}
use Rattle.agreement.specs.View.View.{View, SameDecision, OneStep}
use Rattle.agreement.specs.View.Basic.{Basic}
use Rattle.agreement.specs.View.FourKinds.{others_decision, Adopted, Quiet, Kind}
use Rattle.agreement.specs.View.FourKinds.{quietly, starting, opening, deciding, kind}
use Rattle.agreement.specs.View.NewEstimate.{Grow, start_grow, open_grow, decide_grow, round_up}

module _ (n t : ℕ) (s s' : View) (B : Basic n t s) (S : OneStep n t s s') where
  -- a step is quiet, or a start or a close
  quiet_or_grow : Quiet n t s s' ⊎ ((a : ℕ) × Grow n s s' a)
  quiet_or_grow = go (kind n t s s' B S)
    where
      go : Kind n t s s' → Quiet n t s s' ⊎ ((a : ℕ) × Grow n s s' a)
      go (quietly Q) = inl Q
      go (starting {a} {v} S) = inr (a, start_grow n t s s' B a v S)
      go (opening {a} {q} O) = inr (a, open_grow n t s s' B a q O)
      go (deciding {a} {q} D) = inr (a, decide_grow n t s s' B a q D)

  pub start_lasts : (k : ℕ) → 1 ≤ s.round k → (1 ≤ s'.round k) × (s'.entry k 0 k ≡ s.entry k 0 k)
  start_lasts k h = go quiet_or_grow
    where
      go : Quiet n t s s' ⊎ ((a : ℕ) × Grow n s s' a) → (1 ≤ s'.round k) × (s'.entry k 0 k ≡ s.entry k 0 k)
      go (inl Q) = (omega (arith, (Q.calm k).round), (Q.calm k).entry 0 k (omega (arith, B.closed_lo k)))
      go (inr G) = (omega (arith, round_up n s s' G.0 G.1 k), G.1.entry k 0 k (omega (arith, B.closed_lo k)))

  pub decision_lasts : (x : ℕ) → s.decided x ≡ true → SameDecision s s' x
  decision_lasts x e = go quiet_or_grow
    where
      by : SameDecision s s' x ⊎ Adopted s s' x → SameDecision s s' x
      by (inl w) = w
      by (inr w) = clash (s.decided x) e w.undecided

      go : Quiet n t s s' ⊎ ((a : ℕ) × Grow n s s' a) → SameDecision s s' x
      go (inl Q) = by (Q.decision x)
      go (inr G) =
          others_decision s s' G.0 x G.1.others
          (λ h. clash (s.decided x) e (ap s.decided h ∙ G.1.undecided))
