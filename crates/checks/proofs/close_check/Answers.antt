-- By the first test that fails. What is let through to the test of `due` has started.
use Rattle.std.proofs.Common.{◌≡◌, true, false, sym, arith}
use Rattle.std.proofs.lemmas.Grind.{common_steps}
use Rattle.sets.specs.Set.{empty_set}
use Rattle.sets.specs.Truth.{◌and◌, same, select, check}
use Rattle.process.specs.Steps.{takes_part}
use Rattle.bench.specs.Calls.{answer_of}
use Rattle.checks.specs.Checks.{takes_started}
use Rattle.checks.proofs.close_check.Goals as goal

pub returns-then-member : goal.returns-then-member
unfolding answer_of check select same
returns-then-member c = rw (sym c.if-member.ensures)

pub returns-then-takes_part-p : goal.returns-then-takes_part-p
unfolding answer_of check select same ◌and◌
returns-then-takes_part-p c =
    let e : (takes_part c.args.p and same c.args.p.outbox empty_set) ≡ false = grind arith in
    rw (sym c.if-member.ensures, e)

pub due-requires-clause-le_round : goal.due-requires-clause-le_round
due-requires-clause-le_round c =
    let e : takes_part c.args.p ≡ true = grind (arith, common_steps) in
    omega (arith, takes_started c.args.p e)

pub returns-then-not-due : goal.returns-then-not-due
unfolding answer_of check select same ◌and◌
returns-then-not-due c = grind (arith, common_steps)

pub returns : goal.returns
unfolding answer_of check select same ◌and◌
returns c =
    let e : (takes_part c.args.p and same c.args.p.outbox empty_set) ≡ true = grind (arith, common_steps) in
    rw (sym c.if-member.ensures, e, sym c.if-not-due.ensures)
