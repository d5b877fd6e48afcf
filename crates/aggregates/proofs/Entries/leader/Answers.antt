-- The chain takes the greatest of the candidates, by the derived order, which is that of the definition.
use Rattle.std.specs.Prelude.{refl, Option, ℕ, length}
use Rattle.std.proofs.Common.{◌∙◌, ap, rules, arith}
use borrow.Author.Tests.{tests}
use Rattle.std.specs.Ordering.{max_by_ordering}
use Rattle.std.proofs.lemmas.Iterator.{YieldsList-from_range}
use Rattle.std.proofs.lemmas.Iterator.Consumers.{YieldsList-at, YieldsList-from_filter_map, reduce_from_yields_List}
use Rattle.aggregates.specs.declared.Candidate.{Candidate}
use Rattle.aggregates.specs.Entries.{entry_at}
use Rattle.aggregates.specs.Leader.{contender, candidates, is_greatest, first_in, leader_to}
use Rattle.aggregates.proofs.Chains.{joined_is}
use Rattle.aggregates.proofs.Comparison.{order_of, greater_is, greater_of}
use Rattle.aggregates.proofs.LeaderLaws.{reduced_is}
use Rattle.aggregates.proofs.Entries.leader.Goals as goal

pub returns : goal.returns
unfolding leader_to candidates
returns c =
    let e = c.args.self in
    let n = length e.words.now in
    let f : ℕ → Option Candidate = λ i. contender i (entry_at e.words.now e.marks i) in
    reduce_from_yields_List (λ a b. max_by_ordering (order_of a b) a b) _ _ c.max.ensures.ran
    (YieldsList-from_filter_map _ f (YieldsList-at c.filter_map.ensures.source
    (YieldsList-from_range 0 n n refl (omega arith))) c.filter_map.ensures.closure (λ x r q k. search (rules, tests)))
    ∙ reduced_is _ (λ a b. greater_of a b _ (greater_is a b)) _
    ∙ ap (λ l. first_in (is_greatest l) l) (joined_is n f)
