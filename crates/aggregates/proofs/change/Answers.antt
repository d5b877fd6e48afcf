-- `change` answers `change_of`: the refusal that the checks found, or the change of the entry,
-- whose process is then from 1 to n.
use Rattle.std.specs.Prelude.{length}
use mathlib.Core.Path.{sym, ◌∙◌, ap}
use Prim.Native.Nat.{◌-◌}
use native.Mathlib.Omega.{arith}
use Rattle.std.proofs.lemmas.Result.{err_from_is_err_and}
use Rattle.sets.specs.TruthLaws.{one_low, one_high}
use Rattle.aggregates.specs.Aggregates.{changed, change_of}
use Rattle.aggregates.specs.Entries.{entry_at}
use Rattle.aggregates.proofs.Accepted.{worked}
use Rattle.aggregates.proofs.Refusals.{accepted, turned_away, answered}
use Rattle.aggregates.proofs.change.Goals as goal

pub returns-in_err-entries : goal.returns-in_err-entries
unfolding change_of
returns-in_err-entries c =
    let p = err_from_is_err_and c.from_residual.result c.from_residual.ensures.1 in
    rw (← c.one_to.ensures, p.1, p.2) (sym (turned_away _ _ c.in_err-entries.ensures))

pub overflow_sub-i : goal.overflow_sub-i
overflow_sub-i c =
    one_low _ _ (sym c.one_to.ensures ∙ (accepted _ _ _ _ _ c.in_ok-entries.ensures.0).used)

pub entry-requires : goal.entry-requires
entry-requires c =
    let e = c.in_ok-entries.ensures in
    let a = accepted _ _ _ _ _ e.0 in
    let named = sym c.one_to.ensures ∙ a.used in
    omega (arith, a.long, ap length e.1, one_low _ _ named, one_high _ _ named)

pub returns : goal.returns
unfolding change_of
returns c =
    let a = c.args in
    let e = c.in_ok-entries.ensures in
    rw (← c.one_to.ensures)
    (c.changed_by.ensures
    ∙ ap (changed a.standing) (c.entry.ensures
    ∙ worked (λ m w k. entry_at w k (a.process - 1)) _ e.1 e.2 (accepted _ _ _ _ _ e.0).long) ∙ sym (answered _ e.0))
