-- `entry` gives the entry: each branch is one side of the definition's choice, by what `member` ensures.
use Rattle.std.specs.Prelude.{Some}
use mathlib.Core.Path.{sym, ◌∙◌, ap}
use Rattle.sets.specs.TruthLaws.{select_on, select_off}
use Rattle.aggregates.specs.Entries.{entry_at}
use Rattle.aggregates.proofs.Entries.entry.Goals as goal

pub returns-then-member : goal.returns-then-member
unfolding entry_at
returns-then-member c =
    ap Some c.from.ensures ∙ sym (select_on _ _ _ (sym c.member.ensures ∙ c.if-member.true))

pub returns-else-member : goal.returns-else-member
unfolding entry_at
returns-else-member c = sym (select_off _ _ _ (sym c.member.ensures ∙ c.if-member.false))
