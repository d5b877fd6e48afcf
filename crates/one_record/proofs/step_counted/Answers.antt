-- The tally by the answer and the first byte is that of the definition.
use Rattle.one_record.specs.OneRecord.{counted_of}
use Rattle.one_record.specs.StepLaws.{tally_step}
use Rattle.one_record.proofs.step_counted.Goals as goal

pub returns : goal.returns
unfolding counted_of
returns c = rw (c.tally_after.ensures, c.step_bytes-stepped.ensures, tally_step _ _ _)
