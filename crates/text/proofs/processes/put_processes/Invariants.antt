-- The lines of the first a processes are stored.
use Rattle.std.specs.Prelude.{List, ℕ, ◌*◌}
use Rattle.sets.specs.Lists.{joined}
use Rattle.bench.specs.declared.Bench.{Bench}
use Rattle.bench.specs.State.{process_at, crashed_at}
use Rattle.text.specs.Text.{process_text}
use Rattle.text.specs.LengthLaws.{Puts}
use Rattle.text.proofs.processes.put_processes.Given as goal

abbrev pub text_of : Bench → ℕ → List ℕ
text_of s a = process_text s.n a (crashed_at s a) (process_at s a)

abbrev pub invariant-loop-a : goal.invariant-loop-a
invariant-loop-a l = Puts (238 * l.a) l.initial.out 0 (joined l.a (text_of l.b)) l.out l.place
