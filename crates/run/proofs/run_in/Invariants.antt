-- The bench is sound, and the run from here on gives what the whole run gives (`Running`).
use Rattle.std.proofs.Common.{◌≡◌}
use Rattle.std.specs.Slice.Iter.{chunks_rest, chunks_size}
use Rattle.run.specs.Turns.{Running}
use Rattle.run.proofs.run_in.Given as goal

abbrev pub invariant-loop-bytes : goal.invariant-loop-bytes
invariant-loop-bytes l =
    (chunks_size l.bytes-iterator ≡ 8)
    × Running l.budget l.schedule l.fn.s l.s (chunks_rest l.bytes-iterator) l.accepted l.closing
