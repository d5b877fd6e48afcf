-- `checked` is `refusal_of`: each return by the law of its check, the checks before it passed.
use mathlib.Core.Path.{◌≡◌, refl, sym, ◌∙◌, ap}
use mathlib.Core.Bool.{true}
use native.Mathlib.Omega.{arith}
use Rattle.sets.specs.Set.{within}
use Rattle.sets.specs.Truth.{one_to}
use Rattle.sets.specs.TruthLaws.{one_high}
use Rattle.aggregates.specs.Entries.{entry_at, diets_fit}
use Rattle.aggregates.proofs.Refusals.{by_size, by_marks, by_process, by_entries, by_standing, by_diet, by_none}
use Rattle.aggregates.proofs.checked.Goals.{After-diets_fit, Else-not-one_to, Else-not-set_within}
use Rattle.aggregates.proofs.checked.Goals as goal

-- ---- what the first two checks leave
sized : (c : Else-not-one_to) → one_to 16 c.args.n ≡ true
sized c = sym c.one_to.ensures ∙ c.if-not-one_to.false

marked : (c : Else-not-set_within) → let a = c.args in within a.n a.marks ≡ true
marked c = sym c.set_within.ensures ∙ c.if-not-set_within.false

-- ---- the returns
pub returns-then-not-one_to : goal.returns-then-not-one_to
returns-then-not-one_to c = by_size _ _ _ _ _ (sym c.one_to.ensures ∙ c.if-not-one_to.true)

pub set_within-requires : goal.set_within-requires
set_within-requires c = one_high 16 _ (sized c)

pub returns-then-not-set_within : goal.returns-then-not-set_within
returns-then-not-set_within c =
    by_marks _ _ _ _ _ (sized (goal.at.returns-then-not-set_within c).Else-not-one_to)
    (sym c.set_within.ensures ∙ c.if-not-set_within.true)

pub returns-then-not-named : goal.returns-then-not-named
returns-then-not-named c =
    let o = goal.at.returns-then-not-named c in
    by_process _ _ _ _ _ (sized o.Else-not-one_to) (marked o.Else-not-set_within) c.if-not-named.true

pub returns-then-words-n : goal.returns-then-words-n
returns-then-words-n c =
    let o = goal.at.returns-then-words-n c in
    by_entries _ _ _ _ _ (sized o.Else-not-one_to) (marked o.Else-not-set_within) c.if-not-named.false
    c.if-words-n.true

pub returns-then-not-stood : goal.returns-then-not-stood
returns-then-not-stood c =
    let o = goal.at.returns-then-not-stood c in
    by_standing _ _ _ _ _ (sized o.Else-not-one_to) (marked o.Else-not-set_within) c.if-not-named.false
    c.if-words-n.false c.if-not-stood.true

-- the entries are n, so at most sixteen
pub invariant_of-entries : goal.invariant_of-entries
invariant_of-entries c =
    let h = one_high 16 _ (sized (goal.at.invariant_of-entries c).Else-not-one_to) in
    record { few = omega (arith, c.if-words-n.false, h) }

-- the test is the definition's, of n entries
looked : (c : After-diets_fit)
    → let a = c.args in
    diets_fit a.n (entry_at a.words.now a.marks) ≡ c.diets_fit.result
looked c =
    let a = c.args in
    ap (λ m. diets_fit m (entry_at a.words.now a.marks)) (sym c.if-words-n.false) ∙ sym c.diets_fit.ensures

pub returns-then-not-diets_fit : goal.returns-then-not-diets_fit
returns-then-not-diets_fit c =
    let o = goal.at.returns-then-not-diets_fit c in
    by_diet _ _ _ _ _ (sized o.Else-not-one_to) (marked o.Else-not-set_within) c.if-not-named.false c.if-words-n.false
    c.if-not-stood.false (looked o.After-diets_fit ∙ c.if-not-diets_fit.true)

pub returns : goal.returns
returns c =
    let o = goal.at.returns c in (
      by_none _ _ _ _ _ (sized o.Else-not-one_to) (marked o.Else-not-set_within) c.if-not-named.false
          c.if-words-n.false c.if-not-stood.false (looked o.After-diets_fit ∙ c.if-not-diets_fit.false),
      refl,
      refl,
    )
