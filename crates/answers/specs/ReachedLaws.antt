-- What the call for one record makes of the end of a run is what its contract says, since a run of the record in the
-- bytes is the call for it (`step_run`).
use Rattle.std.specs.Prelude.{◌≡◌, List, ℕ, is_ok, Result, ⊤}
use Rattle.std.proofs.Common.{◌∙◌, ap}
use Rattle.refusal.specs.declared.Refusal.{Refusal}
use Rattle.refusal.specs.Host.{answer_number}
use Rattle.bench.specs.declared.Bench.{Bench}
use Rattle.bench.specs.declared.Counters.{Counters}
use Rattle.bench.specs.declared.Ended.{Ended}
use Rattle.bench.specs.declared.Stepped.{Stepped}
use Rattle.bench.specs.Calls.{step_of, tally_of, run_of, tallied}
use Rattle.one_record.specs.OneRecord.{record_in, answer_to, stepped_by, crash_byte}
use Rattle.one_record.specs.StepLaws.{step_run, tally_step}

module _ (s : Bench) (l : List ℕ) where
  abbrev end : Ended
  end = run_of 1 (record_in l) s

  pub step_answer : answer_to end.accepted end.cause ≡ (step_of s l).answer
  unfolding stepped_by
  step_answer = ap (λ (x : Stepped). x.answer) (step_run s l)

  pub step_number : answer_number (answer_to end.accepted end.cause) ≡ answer_number (step_of s l).answer
  step_number = ap answer_number step_answer

  pub step_bench : end.bench ≡ (step_of s l).bench
  unfolding stepped_by
  step_bench = ap (λ (x : Stepped). x.bench) (step_run s l)

  pub step_closing : end.closing ≡ (step_of s l).closing
  unfolding stepped_by
  step_closing = ap (λ (x : Stepped). x.closing) (step_run s l)

  pub step_counters : (c : Counters)
      → tallied (is_ok (answer_to end.accepted end.cause)) (crash_byte l) c ≡ tally_of s l c
  step_counters c =
      ap (λ (a : Result ⊤ Refusal). tallied (is_ok a) (crash_byte l) c) step_answer ∙ tally_step s l c
