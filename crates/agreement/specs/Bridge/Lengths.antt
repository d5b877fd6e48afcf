-- Every array of the bench has its length, as opened and after any event: each part that is changed keeps the lengths.
use Rattle.std.specs.Prelude.{◌≡◌, ◌≢◌, ◌⊎◌, ℕ, ◌<◌}
use Rattle.std.proofs.Common.{ap, ◌∙◌, inl, inr, arith}
use Rattle.std.proofs.Math.ListN.{length, length-set}
use Rattle.std.proofs.lemmas.List.{length-replicate, get_or-replicate}
use Rattle.sets.specs.TruthLaws.{select_by, eq-or}
use Rattle.global_data.specs.declared.GlobalData.{GlobalData}
use Rattle.global_data.specs.GlobalData.{nothing_of}
use Rattle.process.specs.declared.Process.{Process}
use Rattle.process.specs.Steps.{no_process, idle_of}
use Rattle.process.specs.Laws.{start_length, receive_length, adopt_length, close_length, send_length, suspect_length}
use Rattle.bench.specs.declared.Bench.{Bench}
use Rattle.bench.specs.declared.Message.TheVariants.{Estimate, Decision}
use Rattle.bench.specs.declared.Event.{Event}
use Rattle.bench.specs.declared.Event.TheVariants.{Start, Send, Arrive, Close, Crash, Suspect}
use Rattle.bench.specs.State.{process_at, with_process, with_sent, with_transit, with_crashed, opened_of}
use Rattle.bench.specs.Effect.{opens_round, sends, arrives, closes_as, effect}
use Rattle.agreement.specs.Bridge.Places.{process_here, process_there}

pub record Sized (s : Bench) : Type 0 where
  pub processes : length s.processes ≡ 16
  pub sent : length s.sent ≡ 256
  pub transit : length s.in_transit ≡ 272
  pub received : (x : ℕ) → x < 16 → length (process_at s x).received ≡ 16

pub sized_opened : (n t : ℕ) → Sized (opened_of n t)
unfolding opened_of process_at idle_of
sized_opened n t = record {
  processes = length-replicate 16 idle_of;
  sent = length-replicate 256 nothing_of;
  transit = length-replicate {A = ℕ} 272 0;
  received = λ x h. ap (λ (p : Process). length p.received) (get_or-replicate 16 x idle_of no_process h);
}

-- ---- one part changed

module _ (s : Bench) (Z : Sized s) where
  sized_process : (a : ℕ) (p : Process) → (a < 16 → length p.received ≡ 16) → Sized (with_process s a p)
  unfolding with_process
  sized_process a p h = record {
    processes = length-set s.processes a p ∙ Z.processes;
    sent = Z.sent;
    transit = Z.transit;
    received = λ x d. go x d (eq-or x a);
  }
    where
      go : (x : ℕ) → x < 16 → (x ≡ a) ⊎ (x ≢ a) → length (process_at (with_process s a p) x).received ≡ 16
      go x d (inl e) = rw e (rw (process_here s a p Z.processes (omega arith)) (h (omega arith)))
      go x d (inr ne) = rw (process_there s a x p ne) (Z.received x d)

  sized_sent : (a r : ℕ) (g : GlobalData) → Sized (with_sent s a r g)
  unfolding with_sent process_at
  sized_sent a r g =
      record {
        processes = Z.processes;
        sent = length-set s.sent _ g ∙ Z.sent;
        transit = Z.transit;
        received = Z.received;
      }

  sized_transit : (a r m : ℕ) → Sized (with_transit s a r m)
  unfolding with_transit process_at
  sized_transit a r m =
      record {
        processes = Z.processes;
        sent = Z.sent;
        transit = length-set s.in_transit _ m ∙ Z.transit;
        received = Z.received;
      }

  sized_crashed : (a : ℕ) → Sized (with_crashed s a)
  unfolding with_crashed process_at
  sized_crashed a = record { processes = Z.processes; sent = Z.sent; transit = Z.transit; received = Z.received }

-- ---- one process changed, which keeps how many rounds it has room for

sized_by : (s : Bench) (a : ℕ) (p : Process) → Sized s → length p.received ≡ length (process_at s a).received
    → Sized (with_process s a p)
sized_by s a p Z h = sized_process s Z a p (λ d. h ∙ Z.received a d)

sized_opens : (s : Bench) (a : ℕ) (p : Process) → Sized s → length p.received ≡ length (process_at s a).received
    → Sized (opens_round s a p)
unfolding opens_round
sized_opens s a p Z h = sized_sent (with_process s a p) (sized_by s a p Z h) a p.round p.estimate

pub sized_effect : (e : Event) (s : Bench) → Sized s → Sized (effect e s)
unfolding effect sends arrives closes_as
sized_effect (Start a v) s Z = sized_opens s a _ Z (start_length (process_at s a) s.n a v)
sized_effect (Send a b) s Z = sized_transit _ (sized_by s a _ Z (send_length (process_at s a) b)) _ _ _
sized_effect (Arrive a b (Estimate r)) s Z =
    sized_transit _ (sized_by s b _ Z (receive_length (process_at s b) a r)) _ _ _
sized_effect (Arrive a b Decision) s Z =
    sized_transit _ (sized_by s b _ Z (adopt_length (process_at s b) s.n b a _)) _ _ _
sized_effect (Close a) s Z =
    let h = close_length (process_at s a) s.n s.t a _ in
    select_by Sized _ _ _ (λ e. sized_by s a _ Z h) (λ e. sized_opens s a _ Z h)
sized_effect (Crash a) s Z = sized_crashed s Z a
sized_effect (Suspect a b) s Z = sized_by s a _ Z (suspect_length (process_at s a) b)
