-- A run of the record in the bytes, with a budget of one.
use Rattle.one_record.specs.OneRecord.{stepped_by}
use Rattle.one_record.specs.StepLaws.{step_run}
use Rattle.one_record.proofs.step_bytes.Goals as goal

pub returns : goal.returns
unfolding stepped_by
returns c =
    rw (c.answer_to.ensures, c.run_bytes-e.ensures, c.record_in.ensures)
    (step_run _ _)
