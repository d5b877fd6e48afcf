-- `global_data` makes the checks 2, 5, 10 and 11 in this order, and writes only when all have passed.
use Rattle.std.proofs.Common.{◌≡◌, true, false, ◌≤◌, ◌-◌, length, sym, arith}
use Rattle.std.proofs.lemmas.Result.{err_from_is_err_and}
use Rattle.sets.specs.Truth.{same, less, one_to, select, check}
use Rattle.sets.specs.TruthLaws.{one_low, one_high, less_mk, less_off}
use Rattle.process.specs.Steps.{has_decided}
use Rattle.bench.specs.State.{process_at}
use Rattle.bench.proofs.SoundLaws.{sound_on}
use Rattle.bench.specs.Calls.{show_refusal, show_of, shown_in}
use Rattle.decision.proofs.global_data.Goals.{Else-not-one_to}
use Rattle.decision.proofs.global_data.Goals as goal

pub returns-in_err-ensure_sound : goal.returns-in_err-ensure_sound
unfolding show_of shown_in show_refusal check select same
returns-in_err-ensure_sound c =
    let p = err_from_is_err_and c.from_residual.result c.from_residual.ensures.1 in
    let e = c.in_err-ensure_sound.ensures in
    record { value = rw (p.1, p.2, e.0, e.1); out_after = rw e.1 }

pub returns-then-not-one_to : goal.returns-then-not-one_to
unfolding show_of shown_in show_refusal check select same
returns-then-not-one_to c =
    let s = c.in_ok-ensure_sound.ensures in
    let e : one_to c.args.b.now.n c.args.process ≡ false = sym c.if-not-one_to.ensures in
    record { value = rw (s, e); out_after = rw (s, e) }

pub returns-then-out-n : goal.returns-then-out-n
unfolding show_of shown_in show_refusal check select same
returns-then-out-n c =
    let s = c.in_ok-ensure_sound.ensures in
    let e = sym c.if-not-one_to.ensures in
    let l : less (length c.args.out.now) c.args.b.now.n ≡ true = less_mk _ _ (omega arith) in
    record { value = rw (s, e, l); out_after = rw (s, e, l) }

-- x is a number from 1 to n, and so to 16
placed : (c : Else-not-one_to) → let x = c.args.process in (1 ≤ x) × (x ≤ 16)
placed c =
    let e = sym c.if-not-one_to.ensures in
    (omega (arith, one_low _ _ e), omega (arith, one_high _ _ e, (sound_on c.args.b.now c.in_ok-ensure_sound.ensures).few))

pub overflow_sub-p : goal.overflow_sub-p
overflow_sub-p c = omega (arith, placed (goal.at.overflow_sub-p c).Else-not-one_to)

pub bounds-b-from : goal.bounds-b-from
bounds-b-from c = omega (arith, placed (goal.at.bounds-b-from c).Else-not-one_to)

pub returns-then-not-has_decided : goal.returns-then-not-has_decided
unfolding show_of shown_in show_refusal check select same process_at
returns-then-not-has_decided c =
    let s = c.in_ok-ensure_sound.ensures in
    let e = sym c.if-not-one_to.ensures in
    let l : less (length c.args.out.now) c.args.b.now.n ≡ false = less_off _ _ (omega arith) in
    let d : has_decided (process_at c.args.b.now (c.args.process - 1)) ≡ false =
    rw (← c.from.ensures) (sym c.if-not-has_decided.ensures) in
    record { value = rw (s, e, l, d); out_after = rw (s, e, l, d) }

pub put_entries-requires : goal.put_entries-requires
put_entries-requires c =
    (omega (arith, (sound_on c.args.b.now c.in_ok-ensure_sound.ensures).few), c.if-out-n.false)

pub returns : goal.returns
unfolding show_of shown_in show_refusal check select same process_at
returns c =
    let s = c.in_ok-ensure_sound.ensures in
    let e = sym c.if-not-one_to.ensures in
    let l : less (length c.args.out.now) c.args.b.now.n ≡ false = less_off _ _ (omega arith) in
    let d : has_decided (process_at c.args.b.now (c.args.process - 1)) ≡ true =
    rw (← c.from.ensures) (sym c.if-not-has_decided.ensures) in
    record {
      value = rw (c.from.ensures, s, e, l, d);
      out_after = rw (c.put_entries.ensures, c.from-n.ensures, c.from.ensures, s, e, l, d);
    }
