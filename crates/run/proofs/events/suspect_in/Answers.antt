-- By the check's answer: refused, nothing is stored; accepted, what is stored is the effect.
use Rattle.std.proofs.lemmas.Result.{err_from_is_err_and}
use Rattle.bench.specs.State.{process_at, with_process}
use Rattle.run.specs.Turns.{stays, goes, same_answer, refuses_suspect, effect_suspect}
use Rattle.run.proofs.events.suspect_in.Goals as goal

pub returns-in_err-suspect_check-clause-bench : goal.returns-in_err-suspect_check-clause-bench
unfolding process_at
returns-in_err-suspect_check-clause-bench c = stays _ _ _ (refuses_suspect _ _ _) _ c.in_err-suspect_check.ensures

pub returns-in_err-suspect_check-clause-answer : goal.returns-in_err-suspect_check-clause-answer
unfolding process_at
returns-in_err-suspect_check-clause-answer c =
    let p = err_from_is_err_and c.from_residual.result c.from_residual.ensures.1 in
    rw (p.1, p.2) (same_answer _ _ _ (refuses_suspect _ _ _) _ c.in_err-suspect_check.ensures)

pub returns-clause-bench : goal.returns-clause-bench
unfolding process_at with_process
returns-clause-bench c =
    goes _ _ _ (refuses_suspect _ _ _) c.in_ok-suspect_check.ensures _ (effect_suspect _ _ _ _ c.suspect.ensures)

pub returns-clause-answer : goal.returns-clause-answer
unfolding process_at
returns-clause-answer c = same_answer _ _ _ (refuses_suspect _ _ _) _ c.in_ok-suspect_check.ensures
