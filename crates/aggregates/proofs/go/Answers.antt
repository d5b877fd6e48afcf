-- `go` answers `go_of`: the refusal that the checks found, or what is worked of the entries.
use Rattle.std.specs.Prelude.{Ok}
use mathlib.Core.Path.{sym, ◌∙◌, ap}
use Rattle.std.proofs.lemmas.Result.{err_from_is_err_and}
use Rattle.aggregates.specs.Entries.{entry_at}
use Rattle.aggregates.specs.Aggregates.{go, go_of}
use Rattle.aggregates.proofs.Accepted.{worked}
use Rattle.aggregates.proofs.Refusals.{accepted, turned_away, answered}
use Rattle.aggregates.proofs.go.Goals as goal

pub returns-in_err-entries : goal.returns-in_err-entries
unfolding go_of
returns-in_err-entries c =
    let p = err_from_is_err_and c.from_residual.result c.from_residual.ensures.1 in
    rw (p.1, p.2) (sym (turned_away _ _ c.in_err-entries.ensures))

pub returns : goal.returns
unfolding go_of
returns c =
    let e = c.in_ok-entries.ensures in
    ap Ok (c.are_served.ensures
    ∙ worked (λ m w k. go m (entry_at w k)) _ e.1 e.2 (accepted _ _ _ _ _ e.0).long) ∙ sym (answered _ e.0)
