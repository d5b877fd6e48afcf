-- What is decoded is refused, or is the event that is taken.
use Rattle.std.proofs.Common.{sym, ◌∙◌}
use Rattle.std.proofs.lemmas.Result.{err_from_is_err_and}
use Rattle.bench.proofs.RecordLaws.{decode_range}
use Rattle.run.specs.Turns.{unread_keeps, unread_as, event_bench, event_verdict}
use Rattle.run.proofs.record_in.Goals as goal

pub returns-in_err-e-clause-bench : goal.returns-in_err-e-clause-bench
returns-in_err-e-clause-bench c = unread_keeps _ _ c.requires _ c.in_err-e.ensures

pub returns-in_err-e-clause-answer : goal.returns-in_err-e-clause-answer
returns-in_err-e-clause-answer c =
    let p = err_from_is_err_and c.from_residual.result c.from_residual.ensures.1 in
    rw (p.1, p.2) (unread_as _ _ c.requires _ c.in_err-e.ensures _)

pub event_in-requires-clause-in_range : goal.event_in-requires-clause-in_range
event_in-requires-clause-in_range c = decode_range _ _ _ _ (sym c.in_ok-e.ensures)

pub returns-clause-bench : goal.returns-clause-bench
returns-clause-bench c = c.event_in.ensures.bench ∙ event_bench _ _ c.requires _ c.in_ok-e.ensures

pub returns-clause-answer : goal.returns-clause-answer
returns-clause-answer c = c.event_in.ensures.answer ∙ event_verdict _ _ c.requires _ c.in_ok-e.ensures
