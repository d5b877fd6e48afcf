-- By the check's answer: refused, nothing is stored; accepted, what is stored is the effect.
use Rattle.std.proofs.Common.{◌∙◌, ap, ◌+◌, ◌*◌}
use Rattle.std.proofs.lemmas.Result.{err_from_is_err_and}
use Rattle.bench.specs.State.{process_at}
use Rattle.run.specs.Turns.{stays, goes, same_answer, refuses_send, message_low, effect_send}
use Rattle.run.proofs.events.send_in.Goals as goal

pub returns-in_err-message_check-clause-bench : goal.returns-in_err-message_check-clause-bench
unfolding process_at
returns-in_err-message_check-clause-bench c = stays _ _ _ (refuses_send _ _ _) _ c.in_err-message_check.ensures

pub returns-in_err-message_check-clause-answer : goal.returns-in_err-message_check-clause-answer
unfolding process_at
returns-in_err-message_check-clause-answer c =
    let p = err_from_is_err_and c.from_residual.result c.from_residual.ensures.1 in
    rw (p.1, p.2) (same_answer _ _ _ (refuses_send _ _ _) _ c.in_err-message_check.ensures)

pub set_index-i-requires : goal.set_index-i-requires
unfolding process_at
set_index-i-requires c =
    (c.requires.bounds.0, rw c.message.ensures (message_low _ c.requires.round))

pub returns-clause-bench : goal.returns-clause-bench
unfolding process_at
returns-clause-bench c =
    goes _ _ _ (refuses_send _ _ _) c.in_ok-message_check.ensures _
    (effect_send _ _ _ _ _ _ (c.set_index-i.ensures.0 ∙ ap (λ k. c.args.a * 17 + k) c.message.ensures) c.send.ensures
    c.insert.ensures)

pub returns-clause-answer : goal.returns-clause-answer
unfolding process_at
returns-clause-answer c = same_answer _ _ _ (refuses_send _ _ _) _ c.in_ok-message_check.ensures
