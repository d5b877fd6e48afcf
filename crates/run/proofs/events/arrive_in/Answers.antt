-- By the check's answer: refused, nothing is stored; accepted, what is stored is the effect.
use Rattle.std.proofs.Common.{◌≡◌, ◌∙◌, ap, ◌+◌, ◌*◌}
use Rattle.std.proofs.lemmas.Result.{err_from_is_err_and}
use Rattle.bench.specs.State.{process_at}
use Rattle.bench.specs.Refuse.{number_of}
use Rattle.bench.proofs.RecordLaws.{MessageIn}
use Rattle.run.specs.Turns.{stays, goes, same_answer, refuses_arrive, number_low, effect_receive, effect_adopt}
use Rattle.run.proofs.events.arrive_in.Goals.{After-set_index-i}
use Rattle.run.proofs.events.arrive_in.Goals as goal

-- where the set of that message lies
at : (c : After-set_index-i) → c.set_index-i.result ≡ c.args.a * 17 + number_of c.args.m
at c = c.set_index-i.ensures.0 ∙ ap (λ k. c.args.a * 17 + k) c.number.ensures

pub set_index-i-requires : goal.set_index-i-requires
set_index-i-requires c = (c.requires.bounds.0, rw c.number.ensures (number_low _ c.requires.message))

pub returns-in_err-message_check-clause-bench : goal.returns-in_err-message_check-clause-bench
returns-in_err-message_check-clause-bench c = stays _ _ _ (refuses_arrive _ _ _ _ _ (at (goal.at.returns-in_err-message_check-clause-bench c).After-set_index-i)) _ c.in_err-message_check.ensures

pub returns-in_err-message_check-clause-answer : goal.returns-in_err-message_check-clause-answer
returns-in_err-message_check-clause-answer c =
    let p = err_from_is_err_and c.from_residual.result c.from_residual.ensures.1 in
    rw (p.1, p.2) (same_answer _ _ _ (refuses_arrive _ _ _ _ _ (at (goal.at.returns-in_err-message_check-clause-answer c).After-set_index-i)) _ c.in_err-message_check.ensures)

pub receive-requires-clause-le_r : goal.receive-requires-clause-le_r
unfolding MessageIn
receive-requires-clause-le_r c = rw c.in-Estimate.is at c.requires.message

pub returns-in-Estimate-clause-bench : goal.returns-in-Estimate-clause-bench
unfolding process_at
returns-in-Estimate-clause-bench c =
    let j = at (goal.at.returns-in-Estimate-clause-bench c).After-set_index-i in
    goes _ _ _ (refuses_arrive _ _ _ _ _ j) c.in_ok-message_check.ensures _
    (effect_receive _ _ _ _ _ _ _ _ c.in-Estimate.is j c.receive.ensures c.remove.ensures)

pub returns-in-Estimate-clause-answer : goal.returns-in-Estimate-clause-answer
returns-in-Estimate-clause-answer c =
    same_answer _ _ _ (refuses_arrive _ _ _ _ _ (at (goal.at.returns-in-Estimate-clause-answer c).After-set_index-i)) _
    c.in_ok-message_check.ensures

pub returns-in-Decision-clause-bench : goal.returns-in-Decision-clause-bench
unfolding process_at
returns-in-Decision-clause-bench c =
    let j = at (goal.at.returns-in-Decision-clause-bench c).After-set_index-i in
    goes _ _ _ (refuses_arrive _ _ _ _ _ j) c.in_ok-message_check.ensures _
    (effect_adopt _ _ _ _ _ _ _ c.in-Decision.is j c.adopt.ensures c.remove.ensures)

pub returns-in-Decision-clause-answer : goal.returns-in-Decision-clause-answer
returns-in-Decision-clause-answer c =
    same_answer _ _ _ (refuses_arrive _ _ _ _ _ (at (goal.at.returns-in-Decision-clause-answer c).After-set_index-i)) _
    c.in_ok-message_check.ensures
