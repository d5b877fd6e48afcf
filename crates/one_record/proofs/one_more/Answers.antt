-- By whether it counts, and whether there is room.
use Rattle.std.specs.Prelude.{◌≡◌, ℕ, ◌+◌}
use Rattle.std.proofs.Common.{sym, arith}
use Rattle.sets.specs.Truth.{less, select}
use Rattle.sets.specs.TruthLaws.{Is, is, on, off, select_on, select_off, less_on, less-not, and_on_l, and_off_l}
use Rattle.bench.specs.Calls.{raised}
use Rattle.one_record.proofs.one_more.Goals as goal

pub returns-then-counts : goal.returns-then-counts
unfolding raised
returns-then-counts c =
    let m : ℕ = 4294967295 in
    rw (and_on_l _ (less c.args.x m) c.if-counts.true) (go (is (less c.args.x m)))
  where
    go : Is (less c.args.x 4294967295) → c.saturating_add.result ≡ select (less c.args.x 4294967295) (c.args.x + 1) c.args.x
    go (on e) = rw (select_on _ (c.args.x + 1) c.args.x e) (let l = less_on _ _ e in omega (arith, c.saturating_add.ensures))
    go (off e) = rw (select_off _ (c.args.x + 1) c.args.x e) (let l = less-not _ _ e in omega (arith, c.saturating_add.ensures, c.well_formed))

pub returns-else-counts : goal.returns-else-counts
unfolding raised
returns-else-counts c = sym (select_off _ _ _ (and_off_l _ _ c.if-counts.false))
