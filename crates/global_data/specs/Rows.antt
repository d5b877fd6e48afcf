-- Rows that a function of the code gives.
use Rattle.std.specs.Prelude.{◌≡◌, ℕ, ◌<◌}
use Rattle.global_data.specs.declared.GlobalData.{GlobalData}

-- a call at a process gives its row: `post` says what a call may give
abbrev pub Gives : (ℕ → GlobalData → Type 0) → (ℕ → GlobalData) → Type 0
Gives post rows = (y : ℕ) (r : GlobalData) → y < 16 → post y r → r ≡ rows y
