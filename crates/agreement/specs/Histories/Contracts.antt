-- The calls of a list of form v2 are what the contracts promise. By their definitions.
use Rattle.std.specs.Prelude.{◌≡◌, refl, List, ℕ, drop}
use Rattle.bench.specs.declared.Bench.{Bench}
use Rattle.bench.specs.declared.Counters.{Counters}
use Rattle.bench.specs.Calls.{step_of, tally_of, run_of}
use Rattle.bench.specs.Record.{v2}
use Rattle.agreement.specs.Statement.History.{step, run, stepped, ran, after_call, given_by}

module _ (s : Bench) (bytes : List ℕ) where
  pub step_promised : (tally : Counters)
      → (after_call (step v2 bytes tally) s ≡ (step_of s bytes).bench)
      × (given_by (step v2 bytes tally) s
      ≡ stepped (step_of s bytes).answer (tally_of s bytes tally) (step_of s bytes).closing)
  unfolding after_call given_by step_of tally_of
  step_promised tally = (refl, refl)

  pub run_promised : (budget : ℕ)
      → let e = run_of budget bytes s in
      (after_call (run v2 bytes budget) s ≡ e.bench)
      × (given_by (run v2 bytes budget) s ≡ ran e.accepted e.cause e.closing (drop e.taken bytes))
  unfolding after_call given_by run_of
  run_promised budget = (refl, refl)
