-- The texts of the first k entries are stored.
use Rattle.std.specs.Prelude.{List, ℕ, ◌*◌}
use Rattle.sets.specs.Lists.{joined}
use Rattle.global_data.specs.declared.GlobalData.{GlobalData}
use Rattle.global_data.specs.GlobalData.{entry_of}
use Rattle.text.specs.Text.{entry_text}
use Rattle.text.specs.LengthLaws.{Puts}
use Rattle.text.proofs.processes.put_entries.Given as goal

abbrev pub text_of : GlobalData → ℕ → List ℕ
text_of g k = entry_text (entry_of g k)

abbrev pub invariant-loop-k : goal.invariant-loop-k
invariant-loop-k l = Puts (12 * l.k) l.initial.out l.at (joined l.k (text_of l.g)) l.out l.place
