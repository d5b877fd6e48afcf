-- `put_number` stores the digits of x: all but the last digit are those of a tenth of it.
use Rattle.std.proofs.Common.{ap, arith, length}
use Rattle.text.specs.TextLaws.{decimal_low, decimal_more}
use Rattle.text.specs.LengthLaws.{length_more, stores_then}
use Rattle.text.proofs.line.+put_number.Goals as goal

pub put_byte-requires : goal.put_byte-requires
put_byte-requires t c = omega (arith, ap length (decimal_low c.args.x (omega arith)))

pub put_number-p-requires : goal.put_number-p-requires
put_number-p-requires t c = (omega arith, omega (arith, length_more c.args.x (omega arith)))

pub put_byte-requires-else-x-lt10 : goal.put_byte-requires-else-x-lt10
put_byte-requires-else-x-lt10 t c = omega (arith, length_more c.args.x (omega arith), c.put_number-p.ensures.place)

pub returns-then-x-lt10 : goal.returns-then-x-lt10
returns-then-x-lt10 t c = rw (decimal_low c.args.x c.if-x-lt10.true) c.put_byte.ensures

pub returns-else-x-lt10 : goal.returns-else-x-lt10
returns-else-x-lt10 t c =
    rw (decimal_more c.args.x c.if-x-lt10.false) (stores_then c.put_number-p.ensures c.put_byte-else-x-lt10.ensures)
