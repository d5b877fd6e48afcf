-- What an answer is to a host in C, which has no enums with values: a number, and what the host lends after the call.
use Rattle.std.specs.Prelude.{ℕ, Result, Ok, Err}
use Rattle.refusal.specs.declared.Refusal.{Refusal}
use Rattle.refusal.specs.Numbers.{refusal_number}

-- 0, or the number of the refusal
abbrev pub answer_number : {A : Type 0} → Result A Refusal → ℕ
answer_number (Ok x) = 0
answer_number (Err r) = refusal_number r

-- f is the word of what is given; a refusal leaves what was there
abbrev pub word_in : {A B : Type 0} → (A → B) → Result A Refusal → B → B
word_in f (Ok x) old = f x
word_in f (Err r) old = old

-- what is given is the word
abbrev pub stored_in : {A : Type 0} → Result A Refusal → A → A
stored_in a old = word_in (λ x. x) a old
