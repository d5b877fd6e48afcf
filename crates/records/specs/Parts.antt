-- Parts of a record as document 01's table has them: its kind, and its two processes.
use Rattle.std.specs.Prelude.{◌≡◌, Bool, false, not, ℕ, Result, MatchResult}
use Rattle.sets.specs.Truth.{◌and◌, same, one_to}
use Rattle.refusal.specs.declared.Refusal.{Refusal}
use Rattle.refusal.specs.declared.Refusal.TheVariants as refusal
use Rattle.records.specs.declared.kind.Kind.{Kind}
use Rattle.records.specs.declared.kind.Kind.TheVariants.{Start, Send, Arrive, Close, Crash, Suspect}

-- the byte that stands for a kind
abbrev pub code_of : Kind → ℕ
code_of Start = 1
code_of Send = 2
code_of Arrive = 3
code_of Close = 4
code_of Crash = 5
code_of Suspect = 6

-- the result is the kind with this code, or refusal 4 where there is none
abbrev pub Decodes : ℕ → Result Kind Refusal → Type 0
Decodes code r =
    MatchResult r (λ kind. code_of kind ≡ code) (λ e. (e ≡ refusal.Kind) × (one_to 6 code ≡ false))

-- a and b are two of the processes 1 to n
unfoldable pub pair_in : ℕ → ℕ → ℕ → Bool
pair_in n a b = one_to n a and (one_to n b and not (same a b))
