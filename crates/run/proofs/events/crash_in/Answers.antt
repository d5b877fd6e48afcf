-- By the check's answer: refused, nothing is stored; accepted, what is stored is the effect.
use Rattle.std.proofs.lemmas.Result.{err_from_is_err_and}
use Rattle.run.specs.Turns.{stays, goes, same_answer, refuses_crash, effect_crash}
use Rattle.run.proofs.events.crash_in.Goals as goal

pub returns-in_err-crash_check-clause-bench : goal.returns-in_err-crash_check-clause-bench
returns-in_err-crash_check-clause-bench c = stays _ _ _ (refuses_crash _ _) _ c.in_err-crash_check.ensures

pub returns-in_err-crash_check-clause-answer : goal.returns-in_err-crash_check-clause-answer
returns-in_err-crash_check-clause-answer c =
    let p = err_from_is_err_and c.from_residual.result c.from_residual.ensures.1 in
    rw (p.1, p.2) (same_answer _ _ _ (refuses_crash _ _) _ c.in_err-crash_check.ensures)

pub returns-clause-bench : goal.returns-clause-bench
returns-clause-bench c =
    goes _ _ _ (refuses_crash _ _) c.in_ok-crash_check.ensures _ (effect_crash _ _ _ c.insert-s.ensures)

pub returns-clause-answer : goal.returns-clause-answer
returns-clause-answer c = same_answer _ _ _ (refuses_crash _ _) _ c.in_ok-crash_check.ensures
