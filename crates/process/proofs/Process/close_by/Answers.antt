-- `Process::close_by` is the step: one pass over the peers' rows fills and compares, and `finish` does the rest.
use Rattle.process.proofs.ClosingLaws.{close_made}
use Rattle.process.proofs.Process.close_by.Goals as goal

pub returns : goal.returns
returns g c rows h =
    close_made _ _ _ rows _ _ _ _ _ _ c.next-next.ensures
    (rw c.remove-others.ensures at (c.pass-passed.ensures rows h))
    c.requires.n_bound.0
    c.finish-closed.ensures
