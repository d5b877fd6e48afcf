-- The line before its entries, the entries one by one, and its end are written one after another.
use Rattle.std.proofs.Common.{Bool, true, refl, arith, add-one, rules, ◌≡◌}
use Rattle.std.proofs.Output.{has_written_append, writes_in_calls_nil}
use Rattle.sets.specs.Lists.{joined}
use Rattle.text.specs.TextLaws.{process_printed}
use Rattle.text.proofs.processes.ProcessLineDisplay.fmt.Goals as goal

pub loop-k-init : goal.loop-k-init
unfolding joined
loop-k-init g c = λ p. record { wrote = writes_in_calls_nil _ _; plain = p }

pub loop-k-preserved : goal.loop-k-preserved
unfolding joined
loop-k-preserved g c = λ p.
    let i = c.loop-k.invariant p in
    rw add-one (has_written_append _ _ _ _ _ _ i (rw c.entry.ensures at (c.in_ok-write-2.ensures.writes i.plain (refl {A = Bool} {a = true}))))

pub returns-clause-writes : goal.returns-clause-writes
returns-clause-writes g c =
    let a = c.args.self.now in
    let k : c.loop-k.k ≡ a.n = search rules in
    rw (process_printed a.n a.a a.crashed a.process (omega arith) (omega arith))
    (λ p o.
    let w = c.in_ok-write.ensures.writes p (refl {A = Bool} {a = true}) in
    let i = rw k at (c.loop-k.invariant w.plain) in
    has_written_append _ _ _ _ _ _
    (rw (c.from.ensures, c.from-crashed.ensures, c.from-decided.ensures, c.has_decided.ensures) at w)
    (has_written_append _ _ _ _ _ _ i (c.writeln.ensures.writes i.plain o)))
