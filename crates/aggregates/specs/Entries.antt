-- Entries of global data (document 01: entries of a sheet), and what each of them counts for: the aggregates read
-- portions (request C-15).
use Rattle.std.specs.Prelude.{Bool, false, None, Some, List, ℕ, get_or}
use Rattle.sets.specs.Set.{has}
use Rattle.sets.specs.Lists.{every}
use Rattle.sets.specs.Truth.{less}
use Rattle.global_data.specs.GlobalData.{Entry, entry_by, diet_fits}

-- Entry i, from 0: the value in its word where its present mark is set, else absent (document 01: blank).
unfoldable pub entry_at : List ℕ → ℕ → ℕ → Entry
entry_at entries marks i = entry_by (has marks i) (get_or entries i 0)

-- The standing value (request C-12: standing count) of process i, from 0.
abbrev pub standing_at : List ℕ → ℕ → ℕ
standing_at standing i = get_or standing i 0

-- What an entry adds to the total: absent as the standing value of its process.
abbrev pub counts_for : ℕ → Entry → ℕ
counts_for standing None = standing
counts_for standing (Some v) = v.portions

-- What go asks of an entry: present, and at least 1 portion.
abbrev pub served : Entry → Bool
served None = false
served (Some v) = less 0 v.portions

-- What refusal 15 asks of n entries: of no present one do the diet portions exceed the portions.
abbrev pub diets_fit : ℕ → (ℕ → Entry) → Bool
diets_fit n entry = every n (λ i. diet_fits (entry i))
