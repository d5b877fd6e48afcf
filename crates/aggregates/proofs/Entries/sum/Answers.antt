-- The chain adds what each entry counts for: sixteen at most, each below 2 ^ 32, so that the sum fits.
use Rattle.std.specs.Prelude.{refl, length, ℕ, ◌^◌}
use Rattle.std.specs.List.{range_with_len}
use Rattle.std.proofs.Common.{◌∙◌, rules, arith}
use borrow.Author.Tests.{tests}
use Rattle.std.proofs.lemmas.Iterator.{YieldsList-from_range, YieldsList-from_map}
use Rattle.std.proofs.lemmas.Iterator.Consumers.{YieldsList-at, sum_by_from_yields_List, fits_by_from_yields_list}
use Rattle.aggregates.specs.Entries.{entry_at, standing_at, counts_for}
use Rattle.aggregates.proofs.Chains.{sum_is}
use Rattle.aggregates.proofs.TotalLaws.{total_most, greatest_fits}
use Rattle.aggregates.proofs.Entries.sum.Goals as goal

pub sum-requires-clause-fits : goal.sum-requires-clause-fits
sum-requires-clause-fits c =
    let e = c.args.self in
    let s = c.args.standing.now in
    let n : ℕ = length e.words.now in
    let f : ℕ → ℕ = λ i. counts_for (standing_at s i) (entry_at e.words.now e.marks i) in
    let most = total_most n e.marks e.words.now s e.few (λ i l. (c.type_inv.standing i).fits) in
    fits_by_from_yields_list f (range_with_len 0 n) _ (2 ^ 64)
    (YieldsList-from_map _ f (YieldsList-at c.map.ensures.source (YieldsList-from_range 0 n n refl (omega arith)))
    c.map.ensures.closure (λ x r q k. search (rules, tests)))
    (omega (arith, sum_is n f, most, greatest_fits))

pub returns : goal.returns
returns c =
    let e = c.args.self in
    let n : ℕ = length e.words.now in
    let f : ℕ → ℕ = λ i. counts_for (standing_at c.args.standing.now i) (entry_at e.words.now e.marks i) in
    sum_by_from_yields_List f _ _ _ c.sum.ensures.ran
    (YieldsList-from_map _ f (YieldsList-at c.map.ensures.source (YieldsList-from_range 0 n n refl (omega arith)))
    c.map.ensures.closure (λ x r q k. search (rules, tests)))
    ∙ sum_is n f
