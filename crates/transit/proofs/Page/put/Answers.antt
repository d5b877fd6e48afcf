-- `put` copies the three bytes to the place.
use Rattle.std.proofs.Common.{◌≡◌, ◌+◌, ◌-◌, length, refl, arith, append_assoc}
use Rattle.std.proofs.Math.Seq.{sets-eq, drop-drop}
use Rattle.transit.proofs.Page.put.Goals as goal

pub returns : goal.returns
returns c =
    let p = c.args.self.now in
    let bytes = c.args.bytes in
    let three : length bytes ≡ 3 = omega arith in
    let copied : p.at + 3 - p.at ≡ length bytes = omega arith in
    record {
      same_slice = refl;
      stored = record {
        place = omega arith;
        list =
            rw (
              c.copy_from_slice.ensures.after,
              copied,
              sets-eq bytes p.out.now p.at c.requires,
              drop-drop (length bytes) p.at p.out.now,
              append_assoc,
            );
      };
    }
