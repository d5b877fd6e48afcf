-- The parts so far are whole records, `bench` is the bench after them, and their lines are written.
use Rattle.simulate.specs.LinesLaws.{Carried}
use Rattle.simulate.proofs.answer_all.Given as goal

abbrev pub invariant-loop-part : goal.invariant-loop-part
invariant-loop-part g l =
    Carried l.initial.bench l.bench
    (g.R.Read.remaining l.initial.input) (g.R.Read.remaining l.input)
    (g.W.Write.contents l.initial.out) (g.W.Write.contents l.out) l.part
