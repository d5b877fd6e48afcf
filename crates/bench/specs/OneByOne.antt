-- The records of a schedule one by one: the bytes of each, and the bench after the first k of them.
-- A refused one leaves it as it is.
use Rattle.std.specs.Prelude.{List, ℕ, zero, suc, ◌*◌, take, drop}
use Rattle.bench.specs.declared.Bench.{Bench}
use Rattle.bench.specs.Calls.{after_record}

-- the bytes left after k records, and the record at their head
unfoldable pub rest_at : ℕ → List ℕ → List ℕ
rest_at k l = drop (8 * k) l

unfoldable pub record_at : ℕ → List ℕ → List ℕ
record_at k l = take 8 (rest_at k l)

unfoldable pub steps : ℕ → Bench → List ℕ → Bench
steps zero s l = s
steps (suc k) s l = steps k (after_record s (take 8 l)) (drop 8 l)
