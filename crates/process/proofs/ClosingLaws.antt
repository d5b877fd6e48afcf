-- How a round ends: in round t + 1 by the last round, whatever the estimates are; in an earlier one as the test says,
-- which one pass over the estimates decides. The next round opens exactly where the process is then undecided. By the
-- two tests, and by what a close leaves.
use Rattle.std.specs.Prelude.{◌≡◌, Bool, false, ℕ, ◌+◌, ◌≤◌}
use Rattle.std.proofs.Math.Path.{refl, ap}
use Rattle.std.proofs.Common.{sym, ◌∙◌}
use Rattle.std.proofs.Math.Bool.{not}
use Rattle.sets.specs.Set.{remove_of}
use Rattle.sets.specs.Truth.{◌and◌, same, select}
use Rattle.sets.specs.TruthLaws.{Is, on, off, is, not_on, not_off, select_on, select_off, same_mk}
use Rattle.global_data.specs.declared.GlobalData.{GlobalData}
use Rattle.global_data.specs.GlobalData.{fill_from, all_same}
use Rattle.global_data.proofs.PassLaws.{one_pass, Passing, passing_done}
use Rattle.process.specs.declared.Process.{Process}
use Rattle.process.specs.declared.Closing.{Closing}
use Rattle.process.specs.declared.Closing.TheVariants.{NextRound, Agreed, LastRound}
use Rattle.process.specs.Steps.{has_decided, next_of, peers_of, filled_of, agreed_of, closing_of, opens_next, decides_of}
use Rattle.process.specs.Steps.{owed_of, open_round_of, advance_of, decide_of, close_of}
use Rattle.process.specs.Fields.{with_estimate}
use Rattle.process.specs.Laws.{close_on, close_off, close_by, decide_decided, advance_decided}
use Rattle.process.specs.ClosingLaws.{closing_by, finish_of}

module _ (n t a : ℕ) (rows : ℕ → GlobalData) (p : Process) where
  -- request C-16: the test needs no filled estimate. The peers' estimates are compared with the old one.
  pub agreed_once : n ≤ 16
      → agreed_of n a rows p ≡ (same p.previous (next_of a p) and all_same 16 n (peers_of a p) rows p.estimate)
  unfolding agreed_of filled_of
  agreed_once few =
      ap (λ (b : Bool). same p.previous (next_of a p) and b) (one_pass n 16 (peers_of a p) rows p.estimate few)

  pub closing_once : n ≤ 16
      → closing_of n t a rows p ≡ closing_by t (next_of a p) (all_same 16 n (peers_of a p) rows p.estimate) p
  unfolding closing_of closing_by
  closing_once few =
      ap (λ (b : Bool). select (same p.round (t + 1)) LastRound (select b Agreed NextRound)) (agreed_once few)

  -- and the step is `finish_of` by what that pass finds, with the filled estimate
  pub finish_close : n ≤ 16
      → close_of n t a rows p ≡ with_estimate (filled_of a rows p)
      (finish_of n t a (next_of a p) (all_same 16 n (peers_of a p) rows p.estimate) p)
  unfolding finish_of decides_of decide_of advance_of open_round_of
  finish_close few =
      let q = finish_of n t a (next_of a p) (all_same 16 n (peers_of a p) rows p.estimate) p in
      close_by n t a rows p (λ c. c ≡ with_estimate (filled_of a rows p) q)
      (λ d. rw (← closing_once few, select_off _ _ _ (not_on _ d)))
      (λ d. rw (← closing_once few, select_on _ _ _ (not_off _ d)))

  -- once the pass over the peers' rows is made: g and alike are what it gives, q and x what the code makes of it but for
  -- the estimate
  module _ (next : ℕ) (g : GlobalData) (alike : Bool) (q : Process) (x : Closing) (f : next ≡ next_of a p) where
    pub close_made : (g ≡ fill_from 16 (remove_of next a) rows p.estimate)
        × (alike ≡ all_same 16 n (remove_of next a) rows p.estimate) → n ≤ 16
        → (q ≡ finish_of n t a next alike p) × (x ≡ closing_by t next alike p)
        → (with_estimate g q ≡ close_of n t a rows p) × (x ≡ closing_of n t a rows p)
    unfolding filled_of peers_of
    close_made d few k =
        let u : alike ≡ all_same 16 n (peers_of a p) rows p.estimate = rw f at d.1 in
        let v : g ≡ filled_of a rows p = rw f at d.0 in (
          rw (k.0, v, f, u) (sym (finish_close few)),
          k.1 ∙ rw (f, u) (sym (closing_once few)),
        )

  -- the same by the invariant of a pass that goes process by process
  pub close_passed : (next seen : ℕ) (g : GlobalData) (alike : Bool) (q : Process) (x : Closing) → next ≡ next_of a p
      → Passing n (remove_of next a) rows p.estimate seen 0 g alike → n ≤ 16
      → (q ≡ finish_of n t a next alike p) × (x ≡ closing_by t next alike p)
      → (with_estimate g q ≡ close_of n t a rows p) × (x ≡ closing_of n t a rows p)
  close_passed next seen g alike q x f w =
      close_made next g alike q x f (passing_done n (remove_of next a) rows p.estimate seen 0 g alike w refl)

  pub closing_last : p.round ≡ t + 1 → closing_of n t a rows p ≡ LastRound
  unfolding closing_of
  closing_last e = select_on _ _ _ (same_mk _ _ e)

  pub next_undecided : has_decided p ≡ false
      → opens_next (closing_of n t a rows p) ≡ not (has_decided (close_of n t a rows p))
  unfolding decides_of
  next_undecided u = go (is (opens_next (closing_of n t a rows p)))
    where
      go : Is (opens_next (closing_of n t a rows p))
          → opens_next (closing_of n t a rows p) ≡ not (has_decided (close_of n t a rows p))
      go (on e) = rw (e, close_off n t a rows p (ap not e), advance_decided p a (filled_of a rows p), u)
      go (off e) = rw (e, close_on n t a rows p (ap not e), decide_decided p (filled_of a rows p) (owed_of n a p))
