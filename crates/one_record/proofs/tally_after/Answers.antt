-- Number by number.
use Rattle.std.proofs.Common.{◌≡◌, refl}
use Rattle.std.proofs.Math.Bool as core
use Rattle.sets.specs.Truth.{◌and◌}
use Rattle.sets.specs.Tests.{both_are}
use Rattle.bench.specs.Calls.{tallied}
use Rattle.one_record.proofs.tally_after.Goals as goal

pub returns : goal.returns
unfolding tallied
returns c =
    let ok = c.is_ok-accepted.result in
    let e : core.◌&&◌ ok c.crash_byte.result ≡ (ok and c.crash_byte.result) = both_are refl refl in
    rw (
      c.one_more.ensures,
      c.one_more-2.ensures,
      c.one_more-3.ensures,
      e,
      c.is_ok-accepted.ensures.value,
      c.crash_byte.ensures,
    )
