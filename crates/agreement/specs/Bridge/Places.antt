-- What stands at each place of a bench once one place is changed: the new value there,
-- and the old one at any other index.
use Rattle.std.specs.Prelude.{◌≡◌, ◌≢◌, ℕ, ◌+◌, ◌-◌, ◌*◌, ◌≤◌, ◌<◌, length}
use Rattle.std.proofs.Common.{arith, get_or-set_same, get_or-set_other}
use Rattle.global_data.specs.declared.GlobalData.{GlobalData}
use Rattle.global_data.specs.GlobalData.{no_data}
use Rattle.process.specs.declared.Process.{Process}
use Rattle.process.specs.Steps.{no_process}
use Rattle.bench.specs.declared.Bench.{Bench}
use Rattle.bench.specs.State.{process_at, sent_at, transit_at, with_process, with_sent, with_transit}

pub process_here : (s : Bench) (a : ℕ) (p : Process) → length s.processes ≡ 16 → a < 16
    → process_at (with_process s a p) a ≡ p
unfolding process_at with_process
process_here s a p e h = get_or-set_same s.processes a p no_process (omega arith)

pub process_there : (s : Bench) (a x : ℕ) (p : Process) → x ≢ a → process_at (with_process s a p) x ≡ process_at s x
unfolding process_at with_process
process_there s a x p ne = get_or-set_other s.processes a x p no_process ne

pub sent_here : (s : Bench) (a r : ℕ) (g : GlobalData) → length s.sent ≡ 256 → a < 16 → r ≤ 16
    → sent_at (with_sent s a r g) a r ≡ g
unfolding sent_at with_sent
sent_here s a r g e h b = get_or-set_same s.sent (a * 16 + (r - 1)) g no_data (omega arith)

pub sent_there : (s : Bench) (a r x m : ℕ) (g : GlobalData) → x * 16 + (m - 1) ≢ a * 16 + (r - 1)
    → sent_at (with_sent s a r g) x m ≡ sent_at s x m
unfolding sent_at with_sent
sent_there s a r x m g ne = get_or-set_other s.sent (a * 16 + (r - 1)) (x * 16 + (m - 1)) g no_data ne

pub transit_here : (s : Bench) (a r m : ℕ) → length s.in_transit ≡ 272 → a < 16 → r < 17
    → transit_at (with_transit s a r m) a r ≡ m
unfolding transit_at with_transit
transit_here s a r m e h b = get_or-set_same s.in_transit (a * 17 + r) m 0 (omega arith)

pub transit_there : (s : Bench) (a r x k m : ℕ) → x * 17 + k ≢ a * 17 + r
    → transit_at (with_transit s a r m) x k ≡ transit_at s x k
unfolding transit_at with_transit
transit_there s a r x k m ne = get_or-set_other s.in_transit (a * 17 + r) (x * 17 + k) m 0 ne
