-- `total` answers `total_of`: the refusal that the checks found, or what is worked of the entries and the standing
-- values, of which there are then n each.
use Rattle.std.specs.Prelude.{Ok, length}
use mathlib.Core.Path.{sym, ◌∙◌, ap}
use Rattle.std.proofs.lemmas.Result.{err_from_is_err_and}
use Rattle.sets.specs.Truth.{same}
use Rattle.sets.specs.TruthLaws.{same_on}
use Rattle.aggregates.specs.Entries.{entry_at, standing_at}
use Rattle.aggregates.specs.Aggregates.{total_to, total_of}
use Rattle.aggregates.proofs.Accepted.{worked}
use Rattle.aggregates.proofs.Refusals.{accepted, turned_away, answered}
use Rattle.aggregates.proofs.total.Goals as goal

pub returns-in_err-entries : goal.returns-in_err-entries
unfolding total_of same
returns-in_err-entries c =
    let p = err_from_is_err_and c.from_residual.result c.from_residual.ensures.1 in
    rw (p.1, p.2) (sym (turned_away _ _ c.in_err-entries.ensures))

pub sum-requires : goal.sum-requires
unfolding same
sum-requires c =
    let e = c.in_ok-entries.ensures in
    let a = accepted _ _ _ _ _ e.0 in
    same_on _ _ a.stands ∙ sym a.long ∙ sym (ap length e.1)

pub returns : goal.returns
unfolding total_of same
returns c =
    let e = c.in_ok-entries.ensures in
    let s = c.args.standing.now in
    ap Ok (c.sum.ensures
    ∙ worked (λ m w k. total_to m (standing_at s) (entry_at w k)) _ e.1 e.2 (accepted _ _ _ _ _ e.0).long)
    ∙ sym (answered _ e.0)
