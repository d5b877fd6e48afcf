-- `Process::finish` is the definition: `ending` gives the closing, and what comes of it is said by `open_round` or
-- `decide`.
use mathlib.Core.Path.{◌≡◌, sym, ap, ◌∙◌}
use Rattle.sets.specs.TruthLaws.{select_on, select_off}
use Rattle.process.specs.Steps.{opens_next}
use Rattle.process.specs.ClosingLaws.{closing_by, finish_of}
use Rattle.process.proofs.Process.finish.Goals.{After-opens_next}
use Rattle.process.proofs.Process.finish.Goals as goal

-- the code's test is that of the definition
test : (c : After-opens_next) → let x = c.args in
    opens_next (closing_by x.t x.next x.alike x.self) ≡ c.opens_next.result
test c = ap opens_next (sym c.ending-closing.ensures) ∙ sym c.opens_next.ensures

pub returns-then-opens_next : goal.returns-then-opens_next
unfolding finish_of
returns-then-opens_next c = (
  c.open_round-process.ensures ∙ sym (select_on _ _ _ (test (goal.at.returns-then-opens_next c).After-opens_next ∙ c.if-opens_next.true)),
  c.ending-closing.ensures,
)

pub returns-else-opens_next : goal.returns-else-opens_next
unfolding finish_of
returns-else-opens_next c = (
  rw (← c.owed.ensures) (c.decide-process.ensures ∙ sym (select_off _ _ _ (test (goal.at.returns-else-opens_next c).After-opens_next ∙ c.if-opens_next.false))),
  c.ending-closing.ensures,
)
