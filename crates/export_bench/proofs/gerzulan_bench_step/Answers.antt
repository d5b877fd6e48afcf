-- What is made of a run of the record in the bytes is the call for it (answers/specs/ReachedLaws).
use Rattle.std.proofs.Common.{ap, ◌∙◌, Result, is_ok}
use Rattle.std.specs.Prelude.{⊤}
use Rattle.refusal.specs.declared.Refusal.{Refusal}
use Rattle.refusal.specs.Host.{answer_number}
use Rattle.process.specs.Steps.{closing_number}
use Rattle.bench.specs.Calls.{tallied}
use Rattle.one_record.specs.OneRecord.{answer_to, crash_byte}
use Rattle.run.specs.declared.Reached.{Reached}
use Rattle.answers.specs.ReachedLaws.{step_answer, step_bench, step_closing, step_counters}
use Rattle.export_bench.proofs.gerzulan_bench_step.Goals as goal

pub returns : goal.returns
returns c =
    let b = c.args.b.now in
    let l = c.args.rec.now in
    let t = c.args.tally.now in
    let r = rw c.record_in.ensures at c.run_in-r.ensures.reached in
    let a = c.answer_to-answer.ensures ∙ ap (λ (x : Reached). answer_to x.accepted x.cause) r in (
      c.answer_number.ensures ∙ ap answer_number (a ∙ step_answer b l),
      rw c.record_in.ensures at c.run_in-r.ensures.bench ∙ step_bench b l,
      c.tally_after.ensures ∙ ap (λ (x : Result ⊤ Refusal). tallied (is_ok x) (crash_byte l) t) a ∙ step_counters b l t,
      c.closing_number.ensures ∙ ap (λ (x : Reached). closing_number x.closing) r ∙ ap closing_number (step_closing b l),
    )
