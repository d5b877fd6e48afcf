-- The lines of the first a processes are written.
use Rattle.std.specs.Fmt.{HasWritten, IsPlainFormatter}
use Rattle.sets.specs.Lists.{joined}
use Rattle.bench.specs.State.{process_at, crashed_at}
use Rattle.text.specs.Text.{process_text}
use Rattle.text.proofs.processes.ProcessesDisplay.fmt.Given as goal

abbrev pub invariant-loop-a : goal.invariant-loop-a
invariant-loop-a g l =
    IsPlainFormatter l.initial.f
    → HasWritten g.W.Write.write_str_gives l.initial.f
    (joined l.a (λ a. process_text l.fn.self.bench.now.n a (crashed_at l.fn.self.bench.now a) (process_at l.fn.self.bench.now a))) l.f
