-- What the exported calls give as numbers, where that is not a refusal's alone (`answer_number` in refusal/specs/Host).
use Rattle.std.specs.Prelude.{ℕ, ◌+◌, ◌*◌, Result, Ok, Err}
use Rattle.refusal.specs.declared.Refusal.{Refusal}
use Rattle.refusal.specs.Numbers.{refusal_number}
use Rattle.process.specs.Steps.{closing_number}
use Rattle.bench.specs.declared.Cause.{Cause}
use Rattle.bench.specs.declared.Cause.TheVariants.{Empty, Spent, Refused}
use Rattle.bench.specs.declared.Ended.{Ended}
use Rattle.run.specs.declared.Reached.{Reached}
use Rattle.run.specs.Reached.{reached_of}
use Rattle.answers.specs.declared.Progress.{Progress}

-- why a run ended
abbrev pub cause_number : Cause → ℕ
cause_number Empty = 0
cause_number Spent = 1
cause_number (Refused r) = 16 + refusal_number r

-- what a reading call gives, or its refusal in the high half of 64 bits
abbrev pub word_number : Result ℕ Refusal → ℕ
word_number (Ok word) = word
word_number (Err r) = refusal_number r * 4294967296

-- how far a run came
abbrev pub progress_by : Reached → Progress
progress_by r = record { accepted = r.accepted; closing = closing_number r.closing; taken = r.taken }

abbrev pub progress_of : Ended → Progress
progress_of e = progress_by (reached_of e)
