-- How a round ends by one pass over the estimates, in the words of the code's contracts. The laws are in
-- ../proofs/ClosingLaws.antt.
use Rattle.std.specs.Prelude.{Bool, ℕ, ◌+◌}
use Rattle.sets.specs.Truth.{◌and◌, same, select}
use Rattle.process.specs.declared.Process.{Process}
use Rattle.process.specs.declared.Closing.{Closing}
use Rattle.process.specs.declared.Closing.TheVariants.{NextRound, Agreed, LastRound}
use Rattle.process.specs.Steps.{opens_next}
use Rattle.process.specs.Steps.{owed_of, open_round_of, decide_of}
use Rattle.process.specs.Fields.{with_previous, with_current}

-- the closing of p where `next` is its next set, and `alike` says whether no estimate of that set differs from its own
unfoldable pub closing_by : ℕ → ℕ → Bool → Process → Closing
closing_by t next alike p =
    select (same p.round (t + 1)) LastRound (select (same p.previous next and alike) Agreed NextRound)

-- p after that closing, but for its estimate: where the next round opens, its current set becomes the previous one and
-- `next` the current one; else it has decided
unfoldable pub finish_of : ℕ → ℕ → ℕ → ℕ → Bool → Process → Process
finish_of n t a next alike p =
    select (opens_next (closing_by t next alike p)) (open_round_of a (with_previous p.current (with_current next p)))
    (decide_of p.estimate (owed_of n a p) p)
