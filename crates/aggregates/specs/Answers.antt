-- What a call answers in document 01's terms: what it gives, or a refusal.
use Rattle.std.specs.Prelude.{Bool, Result, Err}
use Rattle.sets.specs.Truth.{select}
use Rattle.refusal.specs.declared.Refusal.{Refusal}

abbrev pub Answer : Type 0 → Type 0
Answer A = Result A Refusal

-- a check before an answer: where the test fails, it is the refusal
unfoldable pub check : {A : Type 0} → Bool → Refusal → Answer A → Answer A
check test r answer = select test answer (Err r)
