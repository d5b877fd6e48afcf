-- The lines of the first a processes are written.
use Rattle.std.proofs.Common.{Bool, true, refl, add-one, rules, ◌≡◌}
use Rattle.std.proofs.Output.{has_written_append, writes_in_calls_nil}
use Rattle.sets.specs.Lists.{joined}
use Rattle.bench.specs.State.{process_at, crashed_at}
use Rattle.text.specs.Text.{processes_text}
use Rattle.text.proofs.processes.ProcessesDisplay.fmt.Goals as goal

pub loop-a-init : goal.loop-a-init
unfolding joined
loop-a-init g c = λ p. record { wrote = writes_in_calls_nil _ _; plain = p }

pub loop-a-preserved : goal.loop-a-preserved
unfolding joined process_at crashed_at
loop-a-preserved g c = λ p.
    let i = c.loop-a.invariant p in
    rw add-one
    (has_written_append _ _ _ _ _ _ i
    (rw (c.member.ensures, c.from-at.ensures) at (c.in_ok-write.ensures.writes i.plain (refl {A = Bool} {a = true}))))

pub returns-clause-writes : goal.returns-clause-writes
unfolding processes_text
returns-clause-writes g c = λ p o.
    let n : c.loop-a.a ≡ c.args.self.now.bench.now.n = search rules in
    rw n at (c.loop-a.invariant p)
