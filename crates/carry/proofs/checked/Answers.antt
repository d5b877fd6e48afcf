-- `checked` makes the checks 2 and 16 in this order, as the definition does.
use Rattle.std.proofs.Common.{sym}
use Rattle.std.proofs.lemmas.Result.{err_from_is_err_and}
use Rattle.sets.specs.Truth.{same, select, check}
use Rattle.bench.specs.Calls.{answer_of}
use Rattle.bench.specs.Carry.{carry_refusal}
use Rattle.carry.proofs.checked.Goals as goal

pub returns-in_err-ensure_sound : goal.returns-in_err-ensure_sound
unfolding answer_of carry_refusal same select check
returns-in_err-ensure_sound c =
    let p = err_from_is_err_and c.from_residual.result c.from_residual.ensures.1 in
    let e = c.in_err-ensure_sound.ensures in
    rw (p.1, p.2, e.0, e.1)

pub returns-then-is_plain : goal.returns-then-is_plain
unfolding answer_of carry_refusal same select check
returns-then-is_plain c = rw (c.in_ok-ensure_sound.ensures, sym c.if-is_plain.ensures)

pub returns-else-is_plain : goal.returns-else-is_plain
unfolding answer_of carry_refusal same select check
returns-else-is_plain c = rw (c.in_ok-ensure_sound.ensures, sym c.if-is_plain.ensures)
