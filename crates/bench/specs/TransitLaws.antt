-- The list in transit in the words of the code's contracts. The laws are in ../proofs/TransitLaws.antt.
use Rattle.std.specs.Prelude.{◌≡◌, List, ℕ, ◌+◌, ◌*◌, length, get_or}
use Rattle.std.proofs.Math.Seq as seq
use Rattle.sets.specs.Lists.{joined}
use Rattle.bench.specs.TransitList.{message_bytes}

unfoldable pub sender_bytes : List ℕ → ℕ → ℕ → ℕ → List ℕ
sender_bytes words n r a = joined n (message_bytes (get_or words (a * 17 + r) 0) r a)

unfoldable pub round_bytes : List ℕ → ℕ → ℕ → List ℕ
round_bytes words n r = joined n (sender_bytes words n r)

-- ---- what is stored from a place on, and the place after it
pub record Stores (out : List ℕ) (at : ℕ) (l out' : List ℕ) (at' : ℕ) : Type 0 where
  pub place : at' ≡ at + length l
  pub list : out' ≡ seq.sets out at l
