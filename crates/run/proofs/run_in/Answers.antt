-- A turn is one law of `Turns`; each exit gives what the whole run gives.
use Rattle.std.proofs.Common.{◌≡◌, ◌≢◌, ◌*◌, length, take, drop, refl, ap, sym, ◌∙◌, arith}
use Rattle.std.specs.Slice.Iter.{chunks_rest}
use Rattle.bench.specs.declared.Cause.TheVariants.{Refused}
use Rattle.bench.specs.Calls.{run_of}
use Rattle.bench.specs.declared.Ended.{Ended}
use Rattle.bench.specs.RunLoop.{ended_of}
use Rattle.bench.proofs.RunLaws.{run_damaged}
use Rattle.run.specs.Reached.{reached_of}
use Rattle.run.specs.Turns.{running_new, ends_empty, ends_spent, ends_refused, goes_on, next_record, later}
use Rattle.run.proofs.run_in.Goals.{In-Some, In-Err}
use Rattle.run.proofs.run_in.Goals as goal

pub returns-then-not-is_sound-clause-bench : goal.returns-then-not-is_sound-clause-bench
unfolding ended_of
returns-then-not-is_sound-clause-bench c =
    sym (ap (λ (e : Ended). e.bench) (run_damaged _ _ _ (sym c.is_sound.ensures ∙ c.if-not-is_sound.true)))

pub returns-then-not-is_sound-clause-reached : goal.returns-then-not-is_sound-clause-reached
unfolding ended_of
returns-then-not-is_sound-clause-reached c =
    c.after.ensures ∙ sym (ap reached_of (run_damaged _ _ _ (sym c.is_sound.ensures ∙ c.if-not-is_sound.true)))

pub loop-bytes-init : goal.loop-bytes-init
loop-bytes-init c =
    let i = c.into_iter-bytes-iterator.ensures.into_iter_gives in
    let s = c.chunks-bytes-items.ensures in
    rw (i, s.rest, s.size) (refl, running_new _ _ _ (sym c.is_sound.ensures ∙ c.if-not-is_sound.false))

-- the next bytes, and some are left
next : (c : In-Some)
    → (c.in-Some.bytes.now ≡ take 8 (chunks_rest c.loop-bytes.bytes-iterator))
    × (chunks_rest c.next.new.self ≡ drop 8 (chunks_rest c.loop-bytes.bytes-iterator))
next c =
    let s = c.in-Some.ensures.steps in
    next_record _ _ _ s.1.0 (rw c.loop-bytes.invariant.0 at s.1.1)

some-left : (c : In-Some) → length (chunks_rest c.loop-bytes.bytes-iterator) ≢ 0
some-left c = let s = c.in-Some.ensures.steps in λ e. omega (arith, s.1.2)

pub returns-then-accepted-budget-clause-bench : goal.returns-then-accepted-budget-clause-bench
unfolding ended_of
returns-then-accepted-budget-clause-bench c =
    ap (λ (e : Ended). e.bench)
    (ends_spent _ _ _ _ _ _ _ c.loop-bytes.invariant.1
    (some-left (goal.at.returns-then-accepted-budget-clause-bench c).In-Some) c.if-accepted-budget.true)

pub returns-then-accepted-budget-clause-reached : goal.returns-then-accepted-budget-clause-reached
unfolding ended_of
returns-then-accepted-budget-clause-reached c =
    c.after-then-accepted-budget.ensures
    ∙ ap reached_of
    (ends_spent _ _ _ _ _ _ _ c.loop-bytes.invariant.1
    (some-left (goal.at.returns-then-accepted-budget-clause-reached c).In-Some) c.if-accepted-budget.true)

-- the next record is refused
refused : (c : In-Err)
    → ended_of c.record_in.new.s c.loop-bytes.accepted (Refused c.in-Err.r) c.loop-bytes.closing (8 * c.loop-bytes.accepted)
    ≡ run_of c.args.budget c.args.schedule.now c.args.s.now
refused c =
    let i = (goal.at.In-Err c).In-Some in
    let n = (next i).0 in
    rw (c.record_in.ensures.bench, n)
    (ends_refused _ _ _ _ _ _ _ c.loop-bytes.invariant.1 (some-left i) c.if-accepted-budget.false _
    (rw n at c.in-Err.ensures.answer))

pub returns-in-Err-clause-bench : goal.returns-in-Err-clause-bench
unfolding ended_of
returns-in-Err-clause-bench c =
    ap (λ (e : Ended). e.bench) (refused (goal.at.returns-in-Err-clause-bench c).In-Err)

pub returns-in-Err-clause-reached : goal.returns-in-Err-clause-reached
unfolding ended_of
returns-in-Err-clause-reached c =
    c.after-in-Err.ensures ∙ ap reached_of (refused (goal.at.returns-in-Err-clause-reached c).In-Err)

pub loop-bytes-preserved : goal.loop-bytes-preserved
loop-bytes-preserved c =
    let i = (goal.at.loop-bytes-preserved c).In-Some in
    let n = next i in (
      c.in-Some.ensures.steps.0 ∙ c.loop-bytes.invariant.0,
      rw (c.record_in.ensures.bench, c.or-closing.ensures, later, n.0, n.1)
          (goes_on _ _ _ _ _ _ _ c.loop-bytes.invariant.1 (some-left i) c.if-accepted-budget.false _
          (rw n.0 at c.in-Ok.ensures.answer)),
    )

pub returns-clause-bench : goal.returns-clause-bench
unfolding ended_of
returns-clause-bench c =
    ap (λ (e : Ended). e.bench) (ends_empty _ _ _ _ _ _ _ c.loop-bytes.invariant.1 c.in-None.ensures.steps.1.0)

pub returns-clause-reached : goal.returns-clause-reached
unfolding ended_of
returns-clause-reached c =
    c.after-2.ensures
    ∙ ap reached_of (ends_empty _ _ _ _ _ _ _ c.loop-bytes.invariant.1 c.in-None.ensures.steps.1.0)
