-- The format writes the line's parts one after another.
use Rattle.std.proofs.Common.{◌≡◌, arith, rules}
use Rattle.text.specs.Text.{shown_refusal}
use Rattle.text.specs.TextLaws.{line_printed}
use Rattle.text.proofs.line.LineDisplay.fmt.Goals as goal

pub returns-clause-writes : goal.returns-clause-writes
returns-clause-writes g c =
    let m = c.map_or-refusal.ensures in
    let r : c.map_or-refusal.result ≡ shown_refusal c.args.self.now.refusal = search rules in
    let p = line_printed c.args.self.now.number c.map_or-refusal.result (omega arith) (omega arith) in
    rw (← r, p) c.writeln.ensures.writes
