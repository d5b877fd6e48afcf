-- `answer_all` carries the bench and the lines over the parts that it reads; a part that is not whole is the last.
use Rattle.std.proofs.Common.{◌≡◌, Option, Some, List, ℕ, [], ◌++◌, ap, ◌∙◌, subst, arith}
use Rattle.std.specs.Io.KnownBytes.{Appends}
use Rattle.std.proofs.KnownBytes.{Appends-kept}
use Rattle.simulate.specs.LinesLaws.{carried_none, carried_next, carried_last}
use Rattle.simulate.specs.Output.{records_in}
use Rattle.simulate.proofs.answer_all.Goals as goal

-- a page that was empty holds the lines, and is written
paged : (a b : Option (List ℕ)) (before items page lines : List ℕ) → before ≡ [] → Appends (Some before) (Some items) lines
    → page ≡ items → Appends a b page → Appends a b lines
paged a b before items page lines e w p h = subst (Appends a b) (p ∙ w ∙ ap (λ (l : List ℕ). l ++ lines) e) h

pub loop-part-init : goal.loop-part-init
loop-part-init g c = carried_none _ _ _

pub write_lines-requires : goal.write_lines-requires
unfolding records_in
write_lines-requires g c = omega (arith, c.in_ok-read.ensures.bound, c.read_full.auto.buf)

pub loop-part-preserved : goal.loop-part-preserved
loop-part-preserved g c =
    let read = c.in_ok-read.ensures in
    let lines = c.in_ok-bench.ensures in
    carried_next c.loop-part.invariant _ _ _ _ read.bytes lines.bench_value
    (Appends-kept _ _ _ _
    (paged _ _ _ _ _ _ c.clear.ensures lines.written c.as_slice.ensures.value c.in_ok-write_all.ensures.bytes)
    c.in_ok-flush.ensures.bytes)
    (omega (arith, read.bound, c.read_full.auto.buf, c.if-read-lt8192.false))

pub returns-then-read-lt8192 : goal.returns-then-read-lt8192
returns-then-read-lt8192 g c =
    let read = c.in_ok-read.ensures in
    let lines = c.in_ok-bench.ensures in
    carried_last c.loop-part.invariant _ _ _ _ read.bytes lines.bench_value
    (Appends-kept _ _ _ _
    (paged _ _ _ _ _ _ c.clear.ensures lines.written c.as_slice.ensures.value c.in_ok-write_all.ensures.bytes)
    c.in_ok-flush.ensures.bytes)
    (read.end (omega (arith, c.read_full.auto.buf, c.if-read-lt8192.true)))
