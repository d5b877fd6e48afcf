-- How many messages of a round are in transit: the size of each sender's set.
use Rattle.std.specs.Prelude.{ℕ}
use Rattle.sets.specs.Lists.{sum_to}
use Rattle.sets.specs.Set.{size_of}
use Rattle.bench.specs.declared.Bench.{Bench}
use Rattle.bench.specs.State.{transit_at}

unfoldable pub round_count : Bench → ℕ → ℕ
round_count s r = sum_to s.n (λ a. size_of (transit_at s a r))
