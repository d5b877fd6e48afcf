-- By the check's answer: refused, nothing is stored; accepted, the pass over the rows, `finish` and what is stored are
-- the close.
use Rattle.std.proofs.Common.{sym, ◌∙◌, arith, rules}
use Rattle.std.proofs.iter.Serving.{serving}
use Rattle.std.proofs.lemmas.Result.{err_from_is_err_and}
use Rattle.bench.specs.State.{process_at, sent_at, with_process}
use Rattle.run.specs.Turns.{stays, goes, answer_ok, refused_as, accepted_as, refuses_close, close_started, Closes, closes}
use Rattle.run.specs.Events.{closed_of}
use Rattle.bench.specs.Effect.{rows_at}
use Rattle.run.proofs.close.close_in.Goals.{After-close_by-c}
use Rattle.run.proofs.close.close_in.Goals as goal

pub close_check-requires-clause-round_bound : goal.close_check-requires-clause-round_bound
unfolding process_at
close_check-requires-clause-round_bound c = omega (arith, c.requires.round, c.requires.sizes)

pub returns-in_err-close_check-clause-bench : goal.returns-in_err-close_check-clause-bench
unfolding process_at
returns-in_err-close_check-clause-bench c = stays _ _ _ (refuses_close _ _) _ c.in_err-close_check.ensures

pub returns-in_err-close_check-clause-answer : goal.returns-in_err-close_check-clause-answer
unfolding process_at
returns-in_err-close_check-clause-answer c =
    let p = err_from_is_err_and c.from_residual.result c.from_residual.ensures.1 in
    rw (p.1, p.2, refuses_close) (refused_as _ _ _ c.in_err-close_check.ensures)

pub close_by-c-requires-clause-le_round : goal.close_by-c-requires-clause-le_round
unfolding process_at
close_by-c-requires-clause-le_round c =
    omega (arith, c.requires.round, c.requires.sizes, close_started _ _ _ (answer_ok _ c.in_ok-close_check.ensures))

-- the process is closed on the rows of its round
closing : (c : After-close_by-c) → Closes c.close_by-c.result.closing c.args.s.now c.args.a c.close_by-c.result.process
unfolding process_at rows_at sent_at closed_of
closing c = closes _ _ _ _ (c.close_by-c.ensures _ (λ y r l p. search rules))

pub row_index-requires : goal.row_index-requires
unfolding process_at
row_index-requires c =
    let d = (closing (goal.at.row_index-requires c).After-close_by-c).round
    (sym c.has_decided.ensures ∙ c.if-not-has_decided.true) c.requires.sizes.2 c.requires.round in
    (c.requires.sizes.0, d.0, d.1)

pub returns-then-not-has_decided-clause-bench : goal.returns-then-not-has_decided-clause-bench
unfolding process_at
returns-then-not-has_decided-clause-bench c =
    goes _ _ _ (refuses_close _ _) c.in_ok-close_check.ensures _
    ((closing (goal.at.returns-then-not-has_decided-clause-bench c).After-close_by-c).opens
    (sym c.has_decided.ensures ∙ c.if-not-has_decided.true) _ c.row_index.ensures.0)

pub returns-then-not-has_decided-clause-answer : goal.returns-then-not-has_decided-clause-answer
unfolding process_at
returns-then-not-has_decided-clause-answer c =
    rw (refuses_close, ← (closing (goal.at.returns-then-not-has_decided-clause-answer c).After-close_by-c).closing)
    (accepted_as _ _ c.in_ok-close_check.ensures)

pub returns-else-not-has_decided-clause-bench : goal.returns-else-not-has_decided-clause-bench
unfolding process_at with_process
returns-else-not-has_decided-clause-bench c =
    goes _ _ _ (refuses_close _ _) c.in_ok-close_check.ensures _
    ((closing (goal.at.returns-else-not-has_decided-clause-bench c).After-close_by-c).decides
    (sym c.has_decided.ensures ∙ c.if-not-has_decided.false))

pub returns-else-not-has_decided-clause-answer : goal.returns-else-not-has_decided-clause-answer
unfolding process_at
returns-else-not-has_decided-clause-answer c =
    rw (refuses_close, ← (closing (goal.at.returns-else-not-has_decided-clause-answer c).After-close_by-c).closing)
    (accepted_as _ _ c.in_ok-close_check.ensures)

pub close_by-c-requires-clause-rows : goal.close_by-c-requires-clause-rows
unfolding process_at
close_by-c-requires-clause-rows c =
    let l = close_started _ _ _ (answer_ok _ c.in_ok-close_check.ensures) in
    let h = c.requires.round in
    let z = c.requires.sizes.2 in
    λ y b. grind (arith, serving, l, h, z)
