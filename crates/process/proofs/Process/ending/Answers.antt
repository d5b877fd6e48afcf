-- `Process::ending` is the definition: the last round first, else the test says.
use mathlib.Core.Path.{sym, ◌∙◌}
use Rattle.sets.specs.Truth.{◌and◌, same}
use Rattle.sets.specs.TruthLaws.{select_on, select_off, same_mk, same_off}
use Rattle.process.specs.ClosingLaws.{closing_by}
use Rattle.process.proofs.Process.ending.Goals as goal

pub returns-then-from-t : goal.returns-then-from-t
unfolding closing_by
returns-then-from-t c = sym (select_on _ _ _ (same_mk _ _ (sym c.from.ensures ∙ c.if-from-t.true)))

pub returns-then-self-next : goal.returns-then-self-next
unfolding closing_by same ◌and◌
returns-then-self-next c =
    sym (select_off _ _ _ (same_off _ _ (λ e. c.if-from-t.false (c.from.ensures ∙ e))) ∙ select_on _ _ _ c.if-self-next.true)

pub returns-else-self-next : goal.returns-else-self-next
unfolding closing_by same ◌and◌
returns-else-self-next c =
    sym (select_off _ _ _ (same_off _ _ (λ e. c.if-from-t.false (c.from.ensures ∙ e))) ∙ select_off _ _ _ c.if-self-next.false)
