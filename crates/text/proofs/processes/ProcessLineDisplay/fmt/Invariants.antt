-- The texts of the first k entries are written.
use Rattle.std.specs.Fmt.{HasWritten, IsPlainFormatter}
use Rattle.sets.specs.Lists.{joined}
use Rattle.global_data.specs.GlobalData.{entry_of}
use Rattle.text.specs.Text.{entry_text}
use Rattle.text.proofs.processes.ProcessLineDisplay.fmt.Given as goal

abbrev pub invariant-loop-k : goal.invariant-loop-k
invariant-loop-k g l =
    IsPlainFormatter l.initial.f
    → HasWritten g.W.Write.write_str_gives l.initial.f (joined l.k (λ k. entry_text (entry_of l.fn.self.process.estimate k))) l.f
