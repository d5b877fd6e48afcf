-- `put_line` stores the number, of at most twenty digits, the refusal after a space, and the end of the line.
use Rattle.std.proofs.Common.{arith}
use Rattle.text.specs.Text.{line_of}
use Rattle.text.specs.LengthLaws.{stores_then, long_number}
use Rattle.text.proofs.line.put_line.Goals as goal

pub put_number-p-requires : goal.put_number-p-requires
put_number-p-requires c = omega (arith, long_number c.args.k (omega arith))

pub put_field-q-requires : goal.put_field-q-requires
put_field-q-requires c = omega (arith, long_number c.args.k (omega arith), c.put_number-p.ensures.place)

pub put_byte-requires : goal.put_byte-requires
put_byte-requires c =
    omega (
      arith,
      long_number c.args.k (omega arith),
      c.put_number-p.ensures.place,
      c.put_field-q.ensures.short,
    )

pub returns : goal.returns
unfolding line_of
returns c =
    let p = c.put_number-p.ensures in
    let q = c.put_field-q.ensures in
    let e = c.put_byte.ensures in
    record {
      stores = stores_then p (stores_then q.stores e);
      short = omega (arith, long_number c.args.k (omega arith), p.place, q.short, e.place);
    }
