-- `GlobalData::same` compares present marks, then words. The loop's invariant: ok says whether the words of the
-- present entries below k are the same.
use mathlib.Core.Path.{◌≡◌, refl, sym, ◌∙◌}
use native.Mathlib.Omega.{arith}
use native.Mathlib.Numerals.{add-one}
use Rattle.sets.specs.Lists.{every}
use Rattle.sets.specs.Truth.{◌and◌}
use Rattle.global_data.proofs.Laws.{marks, same_unmarked, same_words_marked}
use Rattle.global_data.proofs.GlobalData.same.Goals.{After-intersection}
use Rattle.global_data.proofs.GlobalData.same.Goals as goal

-- the marks that the code compares
marked : (c : After-intersection)
    → let a = c.args in
    (c.intersection-marks.result ≡ marks a.n a.self) × (c.intersection.result ≡ marks a.n a.other)
marked c =
    let e = c.all-all.ensures in
    (rw e at c.intersection-marks.ensures, rw e at c.intersection.ensures)

pub returns-then-marks-intersection : goal.returns-then-marks-intersection
returns-then-marks-intersection c =
    let m = marked (goal.at.returns-then-marks-intersection c).After-intersection in
    sym (same_unmarked _ _ _ (λ u. c.if-marks-intersection.true (m.0 ∙ u ∙ sym m.1)))

pub loop-k-init : goal.loop-k-init
unfolding every
loop-k-init c = refl

pub loop-k-preserved : goal.loop-k-preserved
unfolding every ◌and◌
loop-k-preserved c = rw (add-one, c.same_where-ok.ensures, c.member.ensures, c.loop-k.invariant)

pub returns : goal.returns
returns c =
    let m = marked (goal.at.returns c).After-intersection in
    let z : c.loop-k.k ≡ 16 = omega arith in
    (rw (z, m.0) at c.loop-k.invariant)
    ∙ sym (same_words_marked _ _ _ c.requires (sym m.0 ∙ c.if-marks-intersection.false ∙ m.1))
