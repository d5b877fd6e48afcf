-- `put_processes` stores a line for each process.
use Rattle.std.proofs.Common.{◌≡◌, length, arith, rules}
use Rattle.sets.specs.Lists.{joined}
use Rattle.bench.specs.State.{process_at, crashed_at}
use Rattle.bench.proofs.TransitLaws.{stores_front}
use Rattle.text.specs.Text.{processes_text}
use Rattle.text.specs.LengthLaws.{puts_none, puts_length, puts_more, puts_room}
use Rattle.text.proofs.processes.put_processes.Invariants.{text_of}
use Rattle.text.proofs.processes.put_processes.Goals as goal

pub loop-a-init : goal.loop-a-init
unfolding joined
loop-a-init c = puts_none c.args.out.now 0

pub put_process-place-requires : goal.put_process-place-requires
put_process-place-requires c =
    let b = c.args.b in
    (c.requires.0, puts_room 238 (text_of b) c.loop-a.invariant b.n c.loop-a-test.true (omega (arith, c.requires.0)))

pub loop-a-preserved : goal.loop-a-preserved
unfolding process_at crashed_at
loop-a-preserved c =
    puts_more 238 (text_of c.args.b) c.loop-a.invariant (rw c.member.ensures at c.put_process-place.ensures)

pub shape_of-out : goal.shape_of-out
shape_of-out c = puts_length c.loop-a.invariant

pub returns : goal.returns
unfolding processes_text
returns c =
    let b = c.args.b in
    let n : c.loop-a.a ≡ b.n = search rules in
    let w = rw n at c.loop-a.invariant in
    let z : c.loop-a.place ≡ length (joined b.n (text_of b)) = omega (arith, w.stores.place) in
    record {
      value = z;
      out_after = rw z (stores_front c.args.out.now _ _ _ (omega (arith, w.short, c.requires.0)) w.stores);
    }
