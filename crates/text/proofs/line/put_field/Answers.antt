-- `put_field` stores a space and the digits, of which there are at most ten.
use Rattle.std.proofs.Common.{arith}
use Rattle.text.specs.Text.{field_of}
use Rattle.text.specs.LengthLaws.{stores_then, short_number}
use Rattle.text.proofs.line.put_field.Goals as goal

pub put_number-requires : goal.put_number-requires
put_number-requires c = omega (arith, short_number c.args.x (omega arith), c.put_byte-p.ensures.place)

pub returns : goal.returns
unfolding field_of
returns c =
    let p = c.put_byte-p.ensures in
    let q = c.put_number.ensures in
    record {
      stores = stores_then p q;
      short = omega (arith, p.place, q.place, short_number c.args.x (omega arith));
    }
