-- `put_process` stores the parts of the line one after another: at most 237 bytes and the line's end.
use Rattle.std.proofs.Common.{arith}
use Rattle.process.specs.Steps.{has_decided}
use Rattle.text.specs.Text.{process_text}
use Rattle.text.specs.TextLaws.{bit_number}
use Rattle.text.specs.LengthLaws.{stores_then}
use Rattle.text.proofs.processes.put_process.Goals as goal

pub put_byte-requires : goal.put_byte-requires
put_byte-requires c =
    omega (
      arith,
      c.put_byte-letter.ensures.place,
      c.put_field-number.ensures.short,
      c.put_field-round.ensures.short,
      c.put_field-crash.ensures.short,
      c.put_field-decided.ensures.short,
      c.put_entries-entries.ensures.short,
    )

pub returns : goal.returns
unfolding process_text
returns c =
    let letter = c.put_byte-letter.ensures in
    let number = c.put_field-number.ensures in
    let round = c.put_field-round.ensures in
    let crash = rw (c.from.ensures, ← bit_number c.args.crashed) at c.put_field-crash.ensures in
    let done = bit_number (has_decided c.args.p.now) in
    let decided = rw (c.from-2.ensures, c.has_decided.ensures, ← done) at c.put_field-decided.ensures in
    let entries = c.put_entries-entries.ensures in
    let end = c.put_byte.ensures in
    record {
      stores =
          stores_then letter
          (stores_then number.stores
          (stores_then round.stores
          (stores_then crash.stores (stores_then decided.stores (stores_then entries.stores end)))));
      short =
          omega (arith, letter.place, number.short, round.short, crash.short, decided.short, entries.short, end.place);
    }
