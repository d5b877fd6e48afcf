-- The list in transit (document 01: in flight): by round, decisions first as round 0, then by sender, then by receiver
-- (request C-13); a, b and r in three bytes.
use Rattle.std.specs.Prelude.{List, [], ◌∷◌, ◌++◌, not, ℕ, ◌+◌, ◌/◌, length, drop, Result, Ok, Err}
use Rattle.sets.specs.Lists.{joined}
use Rattle.sets.specs.Set.{has}
use Rattle.sets.specs.Truth.{same, less, select, check}
use Rattle.refusal.specs.declared.Refusal.{Refusal}
use Rattle.refusal.specs.Numbers.{refused}
use Rattle.bench.specs.declared.Bench.{Bench}
use Rattle.bench.specs.State.{transit_at}
use Rattle.bench.specs.Sound.{sound_of}

-- message r of a to b, where b is in the set m of those to whom it is on its way
unfoldable pub message_bytes : ℕ → ℕ → ℕ → ℕ → List ℕ
message_bytes m r a b = select (has m b) ((a + 1) ∷ (b + 1) ∷ r ∷ []) []

unfoldable pub transit_bytes : Bench → List ℕ
transit_bytes s = joined (s.t + 2) (λ r. joined s.n (λ a. joined s.n (message_bytes (transit_at s a r) r a)))

-- 2, 10, or 0
unfoldable pub list_refusal : Bench → List ℕ → ℕ
list_refusal s out = check (sound_of s) 2 (check (not (less (length out) (length (transit_bytes s)))) 10 0)

unfoldable pub list_of : Bench → List ℕ → Result ℕ Refusal
list_of s out =
    let r = list_refusal s out in
    select (same r 0) (Ok (length (transit_bytes s) / 3)) (Err (refused r))

unfoldable pub listed_in : Bench → List ℕ → List ℕ
listed_in s out = select (same (list_refusal s out) 0) (transit_bytes s ++ drop (length (transit_bytes s)) out) out
