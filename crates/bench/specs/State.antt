-- The bench's state: its parts, the bench with one part changed, and the opened bench.
use Rattle.std.specs.Prelude.{List, Bool, ℕ, ◌+◌, ◌-◌, ◌*◌, get_or, set, replicate}
use Rattle.sets.specs.Set.{has, insert_of, empty_set}
use Rattle.global_data.specs.declared.GlobalData.{GlobalData}
use Rattle.global_data.specs.GlobalData.{no_data, nothing_of}
use Rattle.process.specs.declared.Process.{Process}
use Rattle.process.specs.Steps.{no_process, idle_of}
use Rattle.bench.specs.declared.Bench.{Bench}

-- process a
unfoldable pub process_at : Bench → ℕ → Process
process_at b a = get_or b.processes a no_process

-- the estimate that a held when its round r, from 1, opened: what it sends in that round
unfoldable pub sent_at : Bench → ℕ → ℕ → GlobalData
sent_at b a r = get_or b.sent (a * 16 + (r - 1)) no_data

-- to whom message r of a is on its way (document 01: in flight); r is 0 for its decision
unfoldable pub transit_at : Bench → ℕ → ℕ → ℕ
transit_at b a r = get_or b.in_transit (a * 17 + r) 0

-- a has crashed (document 01: stopped)
unfoldable pub crashed_at : Bench → ℕ → Bool
crashed_at b a = has b.crashed a

-- ---- a bench by its fields, in the order of the struct
abbrev pub bench_of : ℕ → ℕ → ℕ → List Process → List GlobalData → List ℕ → Bench
bench_of n t m ps rows l = record { n = n; t = t; crashed = m; processes = ps; sent = rows; in_transit = l }

-- with a among the crashed, another process a, another estimate sent in round r,
-- another set to which message r of a is on its way
unfoldable pub with_crashed : Bench → ℕ → Bench
with_crashed b a = bench_of b.n b.t (insert_of b.crashed a) b.processes b.sent b.in_transit

unfoldable pub with_process : Bench → ℕ → Process → Bench
with_process b a p = bench_of b.n b.t b.crashed (set b.processes a p) b.sent b.in_transit

unfoldable pub with_sent : Bench → ℕ → ℕ → GlobalData → Bench
with_sent b a r g =
    bench_of b.n b.t b.crashed b.processes (set b.sent (a * 16 + (r - 1)) g) b.in_transit

unfoldable pub with_transit : Bench → ℕ → ℕ → ℕ → Bench
with_transit b a r m =
    bench_of b.n b.t b.crashed b.processes b.sent (set b.in_transit (a * 17 + r) m)

-- the opened bench: nobody has started or crashed, and nothing is sent
unfoldable pub opened_of : ℕ → ℕ → Bench
opened_of n t = bench_of n t empty_set (replicate 16 idle_of) (replicate 256 nothing_of) (replicate 272 empty_set)
