-- `next` gives the lowest member and leaves the others: the laws of the list of members.
use mathlib.Core.List.{◌∷◌}
use mathlib.Core.Path.{◌≡◌, sym, ap, ◌∙◌}
use native.Mathlib.Omega.{arith}
use lib.ListN.{length}
use borrow.Author.Rules.{rules}
use Rattle.sets.specs.Set.{members_of}
use Rattle.sets.specs.MembersLaws.{members_none, members_first}
use Rattle.sets.proofs.IterIterator.next.Goals.{After-rest-self-inside}
use Rattle.sets.proofs.IterIterator.next.Goals as goal

pub returns-then-self-eq0-clause-steps : goal.returns-then-self-eq0-clause-steps
returns-then-self-eq0-clause-steps c =
    let e = sym c.self.view_is ∙ ap members_of c.if-self-eq0.true ∙ members_none in
    (e, e)

-- what is left before and after
steps : (c : After-rest-self-inside)
    → c.args.self.now ≡ c.lowest-first.result ∷ members_of c.rest-self-inside.result
steps c =
    sym c.self.view_is
    ∙ rw (c.rest-self-inside.ensures, c.lowest-first.ensures.0)
    (members_first c.self.inside.left (search rules) (search rules))

pub returns-clause-steps : goal.returns-clause-steps
returns-clause-steps c = steps (goal.at.returns-clause-steps c).After-rest-self-inside

pub returns-clause-goes : goal.returns-clause-goes
returns-clause-goes c =
    let e = ap length (steps (goal.at.returns-clause-goes c).After-rest-self-inside) in
    record { on = λ h. (tt, tt, omega arith); keeps = tt; rests = λ h. tt }
