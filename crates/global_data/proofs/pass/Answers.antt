-- `pass` fills and compares: the invariant is that of the laws of a pass, `Turns`, for any rows that the calls of
-- `row` give.
use mathlib.Core.Path.{sym, ◌∙◌}
use borrow.Author.Rules.{rules}
use Rattle.sets.specs.MembersLaws.{Turn, left_turn, left_none}
use Rattle.sets.specs.TruthLaws.{and_on_r, and_off_r}
use Rattle.global_data.proofs.PassTurns.{pass_new, pass_turn, pass_done}
use Rattle.global_data.proofs.pass.Goals.{In-Some}
use Rattle.global_data.proofs.pass.Goals as goal

pub loop-y-init : goal.loop-y-init
loop-y-init g c = (
  c.args.members,
  record { few = search rules; list = c.into_iter-y-iterator.ensures.into_iter_gives ∙ c.members-y-items.ensures },
  search rules,
  λ rows h. pass_new c.args.n c.args.members rows c.args.old (search rules),
)

turn : (g : _) (c : In-Some g) → Turn c.next.new.self c.loop-y.invariant.0 c.in-Some.y
turn g c = left_turn c.loop-y.invariant.1 c.in-Some.ensures.steps

pub loop-y-preserved-then-alike : goal.loop-y-preserved-then-alike
loop-y-preserved-then-alike g c =
    let t = turn g (goal.at.loop-y-preserved-then-alike g c).In-Some in (
      _,
      t.others,
      c.type_inv.values,
      λ rows h.
          let e = h _ _ t.low c.row-given.ensures in
          pass_turn c.args.n c.args.members rows c.args.old t (c.loop-y.invariant.3 rows h) _ _
          (rw (← e) (sym c.fill_words-present.ensures))
          (rw (← e) (c.same-alike.ensures ∙ sym (and_on_r _ _ c.if-alike.true))),
    )

pub loop-y-preserved : goal.loop-y-preserved
loop-y-preserved g c =
    let t = turn g (goal.at.loop-y-preserved g c).In-Some in (
      _,
      t.others,
      c.type_inv.values,
      λ rows h.
          let e = h _ _ t.low c.row-given.ensures in
          pass_turn c.args.n c.args.members rows c.args.old t (c.loop-y.invariant.3 rows h) _ c.loop-y.alike
          (rw (← e) (sym c.fill_words-present.ensures))
          (c.if-alike.false ∙ sym (and_off_r _ _ c.if-alike.false)),
    )

pub returns : goal.returns
returns g c rows h =
    pass_done c.args.n c.args.members rows c.args.old (left_none c.loop-y.invariant.1 c.in-None.ensures.steps.0)
    (c.loop-y.invariant.3 rows h)

pub row-given-requires : goal.row-given-requires
row-given-requires g c = c.requires.rows _ (turn g (goal.at.row-given-requires g c).In-Some).low
