-- `Process::receive` is the step: every set is written anew, and the one that changes is past the
-- last where `keeps` does not hold.
use mathlib.Core.Path.{◌≡◌}
use Prim.Native.Nat.{◌-◌}
use borrow.Author.Rules.{rules}
use Rattle.sets.specs.Truth.{select}
use Rattle.process.specs.Steps.{keeps}
use Rattle.process.specs.Laws.{receive_words}
use Rattle.process.proofs.Process.receive.Goals.{then-keeps, else-keeps}
use Rattle.process.proofs.Process.receive.Goals as goal

pub returns : goal.returns
unfolding select
returns c =
    let a = c.args in
    let v = c.keeps.ensures in
    let at : c.if-keeps.at ≡ select (keeps a.self a.y a.r) (a.r - 1) 16 =
    elim c.if-keeps.branch [
      | then-keeps w ↦ rw (← v, w.if-keeps.true) w.at-is
      | else-keeps w ↦ rw (← v, w.if-keeps.false) w.at-is
    ] in
    rw c.words_with-self.ensures
    (receive_words a.y a.r c.if-keeps.at a.self (search rules) (search rules)
    (search rules) at)
