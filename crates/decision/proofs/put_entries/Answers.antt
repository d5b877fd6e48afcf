-- `put_entries` writes the entries below n. The loop's invariant: the words below k are those of the
-- entries, the others as they were.
use Rattle.std.proofs.Common.{◌≡◌, refl, sym, ◌∙◌}
use Rattle.sets.specs.Lists.{each}
use Rattle.sets.specs.EachLaws.{each_step}
use Rattle.sets.specs.TruthLaws.{select_on, select_off}
use Rattle.bench.specs.Calls.{word_at}
use Rattle.decision.proofs.put_entries.Goals.{then-member, else-member}
use Rattle.decision.proofs.put_entries.Goals as goal

pub loop-k-init : goal.loop-k-init
unfolding each
loop-k-init c = refl

pub loop-k-preserved : goal.loop-k-preserved
unfolding word_at
loop-k-preserved c =
    let e : c.if-member.word ≡ word_at c.args.g.now c.loop-k.k =
    elim c.if-member.branch [
      | then-member w ↦ w.word-is ∙ sym (select_on _ _ _ (sym w.if-member.ensures))
      | else-member w ↦ w.word-is ∙ sym (select_off _ _ _ (sym w.if-member.ensures))
    ] in
    rw (c.loop-k.invariant, e) (each_step 0 c.loop-k.k (word_at c.args.g.now) _ c.loop-k-test.true)
