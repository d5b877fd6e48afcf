-- Of a value the test is the definition's; an absent entry is not served.
use borrow.Author.Rules.{rules}
use Rattle.std.specs.Prelude.{◌≡◌, Bool, false, None, Some, MatchOption, ltb}
use Rattle.sets.specs.Truth.{less}
use Rattle.global_data.specs.GlobalData.{Entry}
use Rattle.aggregates.specs.Entries.{served}
use Rattle.aggregates.proofs.is_served.Goals as goal

is : (e : Entry) (r : Bool) → MatchOption e (r ≡ false) (λ v. r ≡ ltb 0 v.portions) → r ≡ served e
unfolding less
is None r h = h
is (Some v) r h = h

pub returns : goal.returns
returns c = is c.args.entry c.is_some_and.result (search rules)
