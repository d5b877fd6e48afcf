-- `put_value` stores a field, `/` and the digits; both numbers have at most five.
use Rattle.std.proofs.Common.{arith}
use Rattle.text.specs.Text.{field_of, value_text}
use Rattle.text.specs.LengthLaws.{stores_then, half_number, half_field}
use Rattle.text.proofs.line.put_value.Goals as goal

pub put_number-requires : goal.put_number-requires
unfolding field_of
put_number-requires c =
    omega (
      arith,
      half_number c.args.portions (omega arith),
      half_number c.args.diet (omega arith),
      c.put_field-p.ensures.stores.place,
      c.put_byte-q.ensures.place,
    )

pub returns : goal.returns
unfolding value_text field_of
returns c =
    let f = c.put_field-p.ensures.stores in
    let b = c.put_byte-q.ensures in
    let d = c.put_number.ensures in
    let portions = half_field c.args.portions (omega arith) in
    let diet = half_number c.args.diet (omega arith) in
    record {
      stores = stores_then f (stores_then b d);
      short = omega (arith, portions, diet, f.place, b.place, d.place);
    }
