-- `put_entries` stores each entry below n.
use Rattle.std.proofs.Common.{◌≡◌, rules}
use Rattle.sets.specs.Lists.{joined}
use Rattle.text.specs.LengthLaws.{puts_none, puts_length, puts_more, puts_room}
use Rattle.text.proofs.processes.put_entries.Invariants.{text_of}
use Rattle.text.proofs.processes.put_entries.Goals as goal

pub loop-k-init : goal.loop-k-init
unfolding joined
loop-k-init c = puts_none c.args.out.now c.args.at

pub put_entry-place-requires : goal.put_entry-place-requires
put_entry-place-requires c =
    let a = c.args in puts_room 12 (text_of a.g.now) c.loop-k.invariant a.n c.loop-k-test.true c.requires.1

pub loop-k-preserved : goal.loop-k-preserved
loop-k-preserved c =
    puts_more 12 (text_of c.args.g.now) c.loop-k.invariant (rw c.entry.ensures at c.put_entry-place.ensures)

pub shape_of-out : goal.shape_of-out
shape_of-out c = puts_length c.loop-k.invariant

pub returns : goal.returns
returns c =
    let n : c.loop-k.k ≡ c.args.n = search rules in
    rw n at c.loop-k.invariant
