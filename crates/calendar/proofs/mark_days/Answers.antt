-- The first records are well formed, and their days are marked.
use Rattle.std.proofs.Common.{◌≡◌, true, ◌<◌, ◌/◌, length, refl, sym, ◌∙◌, ap, add-one, arith}
use Rattle.std.proofs.lemmas.Result.{err_from_is_err_and}
use Rattle.sets.specs.EveryLaws.{every_off, every-suc}
use Rattle.sets.specs.Lists.{every}
use Rattle.sets.specs.Truth.{one_to, same}
use Rattle.sets.specs.TruthLaws.{one_mk, and_off_l, and_off_r, same_on, same_not, same_mk, same_off}
use Rattle.calendar.specs.Calendar.{periods_in}
use Rattle.calendar.proofs.PassLaws.{mark_none, mark_more, record_in, formed_parts}
use Rattle.calendar.proofs.mark_days.Goals as goal

pub returns-then-not-is_empty : goal.returns-then-not-is_empty
unfolding same
returns-then-not-is_empty c =
    let some = same_not (length c.as_chunks.result.1.now) 0 (sym c.if-not-is_empty.ensures) in
    (refl, and_off_l _ _ (same_off _ 0 (λ e. some (c.as_chunks.ensures.back_len ∙ e))))

pub loop-record-init : goal.loop-record-init
unfolding every
loop-record-init c = (refl, mark_none _ _)

pub returns-in_err-period : goal.returns-in_err-period
unfolding periods_in
returns-in_err-period c =
    let p = err_from_is_err_and c.from_residual.result c.from_residual.ensures.1 in
    let xs = c.args.calendar.now in
    let j = c.loop-record.record-index in
    let l : j < length xs / 8 = omega (arith, c.as_chunks.ensures.front_len) in
    let e = rw (c.as_chunks.ensures.front, record_in xs j l) at c.in_err-period.ensures.1 in
    rw (p.1, p.2) (c.in_err-period.ensures.0, and_off_r _ _ (every_off _ _ j l e))

pub overflow_sub-period : goal.overflow_sub-period
overflow_sub-period c =
    let h = c.in_ok-period.ensures in rw (ap (λ p. p.site) h.0) (formed_parts _ h.1).low

pub returns : goal.returns
unfolding periods_in same
returns c =
    let none = same_on (length c.as_chunks.result.1.now) 0 (sym c.if-not-is_empty.ensures) in
    let n : c.loop-record.record-index ≡ length c.args.calendar.now / 8 =
    omega (arith, c.as_chunks.ensures.front_len) in (
      same_mk _ 0 (sym c.as_chunks.ensures.back_len ∙ none),
      rw n at c.loop-record.invariant.0,
      rw n at c.loop-record.invariant.1,
    )

pub bounds-sites-period : goal.bounds-sites-period
bounds-sites-period c =
    let h = c.in_ok-period.ensures in
    let s = formed_parts _ h.1 in
    omega (arith, ap (λ p. p.site) h.0, s.low, s.high)

pub loop-record-preserved : goal.loop-record-preserved
loop-record-preserved c =
    let a = c.args in
    let xs = a.calendar.now in
    let l = c.loop-record in
    let j = l.record-index in
    let lt : j < length xs / 8 = omega (arith, c.as_chunks.ensures.front_len) in
    let d = rw (c.as_chunks.ensures.front, record_in xs j lt) at c.in_ok-period.ensures in
    let f = formed_parts _ d.1 in
    let s : one_to 16 c.in_ok-period.period.site ≡ true =
    one_mk 16 _ (omega (arith, ap (λ p. p.site) d.0, f.low)) (omega (arith, ap (λ p. p.site) d.0, f.high)) in
    let m =
    mark_more xs a.monday j c.weekdays.result c.in_ok-period.period l.sites d.0 s c.weekdays.ensures l.invariant.1 in
    (rw add-one (every-suc j _ l.invariant.0 d.1), rw add-one (rw (← c.mark.ensures) at m))
