-- `take_words` takes the members' words: what is taken and what is left give together what all of these give.
use mathlib.Core.Path.{refl, sym, ◌∙◌}
use Prim.Native.Nat.{◌<◌}
use lib.ListN.{length-set}
use borrow.Author.Rules.{rules}
use Rattle.sets.specs.MembersLaws.{Turn, left_turn, left_none}
use Rattle.global_data.proofs.Laws.{words_more, words_none}
use Rattle.global_data.proofs.take_words.Goals.{In-Some}
use Rattle.global_data.proofs.take_words.Goals as goal

pub loop-k-init : goal.loop-k-init
loop-k-init c = (
  c.args.m,
  record { few = search rules; list = c.into_iter-k-iterator.ensures.into_iter_gives ∙ c.members-k-items.ensures },
  c.told-values,
  refl,
)

turn : (c : In-Some) → Turn c.next.new.self c.loop-k.invariant.0 c.in-Some.k
turn c = left_turn c.loop-k.invariant.1 c.in-Some.ensures.steps

low : (c : In-Some) → c.in-Some.k < 16
low c = (turn c).low

pub bounds-words-k : goal.bounds-words-k
bounds-words-k c = low (goal.at.bounds-words-k c).In-Some

pub bounds-values-k : goal.bounds-values-k
bounds-values-k c = low (goal.at.bounds-values-k c).In-Some

pub offset_bounds-values-k : goal.offset_bounds-values-k
offset_bounds-values-k c = let h = low (goal.at.offset_bounds-values-k c).In-Some in search rules

pub offset_bounds-words-k : goal.offset_bounds-words-k
offset_bounds-words-k c = let h = low (goal.at.offset_bounds-words-k c).In-Some in search rules

pub loop-k-preserved : goal.loop-k-preserved
loop-k-preserved c =
    let i = c.loop-k.invariant in
    let t = turn (goal.at.loop-k-preserved c).In-Some in (
      _,
      t.others,
      length-set _ _ _ ∙ i.2,
      words_more i.0 c.args.words c.loop-k.values _ i.2 t.low t.member ∙ i.3,
    )

pub returns : goal.returns
returns c =
    let i = c.loop-k.invariant in
    sym (words_none c.args.words c.loop-k.values i.2) ∙ (rw (left_none i.1 c.in-None.ensures.steps.0) at i.3)
