-- The loop stores entry after entry of the definition: those below i are stored, and the others are as they were.
use mathlib.Core.Path.{◌≡◌, refl, ◌∙◌}
use native.Mathlib.Omega.{arith}
use Prim.Native.Nat.{◌<◌}
use lib.ListN.{length}
use borrow.Author.Rules.{rules}
use Rattle.sets.specs.EachLaws.{each_step, each_next, each_done}
use Rattle.sets.specs.Lists.{each}
use Rattle.sets.specs.Truth.{same}
use Rattle.process.specs.Laws.{words_with, word_of}
use Rattle.process.proofs.words_with.Goals as goal

pub loop-i-init : goal.loop-i-init
unfolding each
loop-i-init c = search rules

pub loop-i-preserved : goal.loop-i-preserved
unfolding same
loop-i-preserved c =
    let x = c.args in
    let h : c.loop-i.i < length x.words = search rules in
    let v = c.word_with.ensures ∙ rw (c.loop-i.invariant, each_next 0 c.loop-i.i (word_of x.words x.at x.y) x.words h) refl in
    rw (c.loop-i.invariant, v) (each_step 0 c.loop-i.i (word_of x.words x.at x.y) x.words h)

pub returns : goal.returns
unfolding words_with
returns c =
    let x = c.args in
    let z : c.loop-i.i ≡ 16 = omega arith in
    (rw z at c.loop-i.invariant) ∙ each_done 16 (word_of x.words x.at x.y) x.words (search rules)
