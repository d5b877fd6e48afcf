-- Places in the bench's arrays, the rows of one round, and which events tell no closing.
use Rattle.std.specs.Prelude.{◌≡◌, List, ℕ, ◌+◌, ◌*◌, ◌/◌, ◌%◌, ◌≤◌, ◌<◌, get_or, Option}
use Rattle.std.proofs.Common.{sym, ap, arith}
use Rattle.global_data.specs.declared.GlobalData.{GlobalData}
use Rattle.global_data.specs.GlobalData.{no_data}
use Rattle.process.specs.declared.Closing.{Closing}
use Rattle.bench.specs.declared.Bench.{Bench}
use Rattle.bench.specs.declared.Message.{Message}
use Rattle.bench.specs.declared.Event.TheVariants.{Start, Send, Arrive, Crash, Suspect}
use Rattle.bench.specs.Closings.{closing_at, last_of}
use Rattle.bench.specs.LastLaws.{last_none}

pub slot_low : (a r : ℕ) → a < 16 → r < 16 → a * 16 + r < 256
slot_low a r p q = omega arith

pub word_low : (a r m : ℕ) → a < 16 → r ≡ m → m ≤ 16 → a * 17 + r < 272
word_low a r m p e q = omega arith

-- the rows of round r + 1
abbrev pub rows_in : List GlobalData → ℕ → ℕ → GlobalData
rows_in sent r y = get_or sent (y * 16 + r) no_data

pub row_at : (sent : List GlobalData) (r i : ℕ) → i % 16 ≡ r → get_or sent i no_data ≡ rows_in sent r (i / 16)
row_at sent r i e = ap (λ (k : ℕ). get_or sent k no_data) (omega arith)

module _ (c : Option Closing) (s : Bench) where
  pub kept_start : (a v : ℕ) → c ≡ last_of c (closing_at (Start a v) s)
  unfolding closing_at
  kept_start a v = sym (last_none c)

  pub kept_send : (a b : ℕ) → c ≡ last_of c (closing_at (Send a b) s)
  unfolding closing_at
  kept_send a b = sym (last_none c)

  pub kept_arrive : (a b : ℕ) (m : Message) → c ≡ last_of c (closing_at (Arrive a b m) s)
  unfolding closing_at
  kept_arrive a b m = sym (last_none c)

  pub kept_crash : (a : ℕ) → c ≡ last_of c (closing_at (Crash a) s)
  unfolding closing_at
  kept_crash a = sym (last_none c)

  pub kept_suspect : (a b : ℕ) → c ≡ last_of c (closing_at (Suspect a b) s)
  unfolding closing_at
  kept_suspect a b = sym (last_none c)
