-- An absent entry is a space and `-`.
use Rattle.std.proofs.Common.{◌≡◌, None, [], ◌∷◌, arith, rules}
use Rattle.text.specs.LengthLaws.{stores_then}
use Rattle.text.proofs.processes.put_entry.Goals as goal

pub returns-in-None : goal.returns-in-None
returns-in-None c =
    let none : c.args.shown ≡ None = search rules in
    let p = c.put_byte-p.ensures in
    let q = c.put_byte.ensures in
    rw none (record { stores = stores_then {m = 45 ∷ []} p q; short = omega (arith, p.place, q.place) })
