-- `write_lines` writes the lines of the records, run by run: a turn is `Taken`, what a run gives from record i on.
use Rattle.std.proofs.Common.{rules, append-nil, ◌≡◌, refl, ◌+◌, arith}
use Rattle.std.proofs.KnownBytes.{Appends-nil, Appends-trans}
use Rattle.sets.specs.Lists.{joined}
use Rattle.bench.specs.OneByOne.{steps}
use Rattle.simulate.specs.Output.{records_in, lines_of, after_all}
use Rattle.simulate.specs.LinesLaws.{refused_in, cause_text, Taken, taken_part, none_refused}
use Rattle.text.specs.Text.{line_of}
use Rattle.refusal.specs.Numbers.{refusal_number}
use Rattle.simulate.proofs.lines.write_lines.Goals.{After-run_bytes-ended}
use Rattle.simulate.proofs.lines.write_lines.Goals as goal

pub loop-i-init : goal.loop-i-init
unfolding records_in steps joined
loop-i-init g c = (search rules, search rules, refl, Appends-nil _)

-- what the run of this turn takes
turn : (g : _) (c : After-run_bytes-ended g) → Taken c.args.bench c.args.first c.args.chunk.now c.loop-i.i c.run_bytes-ended.result
turn g c =
    let a = c.args in
    let l = c.loop-i in
    taken_part a.bench a.first a.chunk.now l.i 4294967295 l.bench c.run_bytes-ended.result (omega arith)
    (omega (arith, l.invariant.0, c.loop-i-test.true)) l.invariant.2 c.run_bytes-ended.ensures

pub overflow_add-line : goal.overflow_add-line
overflow_add-line g c = omega (arith, (turn g (goal.at.overflow_add-line g c).After-run_bytes-ended).fits, c.requires)

pub write_accepted-requires : goal.write_accepted-requires
write_accepted-requires g c = omega (arith, (turn g (goal.at.write_accepted-requires g c).After-run_bytes-ended).fits, c.requires)

pub loop-i-smaller : goal.loop-i-smaller
loop-i-smaller g c =
    let t = turn g (goal.at.loop-i-smaller g c).After-run_bytes-ended in
    let n = none_refused _ c.in_default.not-Refused in
    omega (arith, t.fits, t.some, n.0, c.loop-i.invariant.0, c.loop-i-test.true)

pub loop-i-preserved-in-Refused : goal.loop-i-preserved-in-Refused
unfolding refused_in cause_text
loop-i-preserved-in-Refused g c =
    let l = c.loop-i in
    let e = c.run_bytes-ended.result in
    let t = turn g (goal.at.loop-i-preserved-in-Refused g c).After-run_bytes-ended in
    let r : refused_in e.cause ≡ 1 = rw c.in-Refused.is in
    let q : l.i + (e.accepted + refused_in e.cause) ≡ l.i + e.accepted + 1 = omega (arith, r) in
    let x : cause_text (c.args.first + l.i + e.accepted) e.cause
    ≡ line_of (c.args.first + (l.i + e.accepted)) (refusal_number c.in-Refused.refusal) =
    let p : c.args.first + l.i + e.accepted ≡ c.args.first + (l.i + e.accepted) = omega arith in
    rw (c.in-Refused.is, p) in (
      l.invariant.0,
      omega (arith, t.fits, r, l.invariant.0),
      rw q at t.state,
      rw (← q, t.text, x)
          (Appends-trans _ _ _ _ _ l.invariant.3
          (Appends-trans _ _ _ _ _ c.in_ok-write_accepted.ensures c.in_ok-write.ensures.bytes)),
    )

pub loop-i-preserved : goal.loop-i-preserved
loop-i-preserved g c =
    let l = c.loop-i in
    let e = c.run_bytes-ended.result in
    let t = turn g (goal.at.loop-i-preserved g c).After-run_bytes-ended in
    let n = none_refused _ c.in_default.not-Refused in
    let q : l.i + (e.accepted + refused_in e.cause) ≡ l.i + e.accepted = omega (arith, n.0) in (
      l.invariant.0,
      omega (arith, t.fits, n.0, l.invariant.0),
      rw q at t.state,
      rw (← q, t.text, n.1 (c.args.first + l.i + e.accepted), append-nil)
          (Appends-trans _ _ _ _ _ l.invariant.3 c.in_ok-write_accepted.ensures),
    )

pub returns-clause-bench_value : goal.returns-clause-bench_value
unfolding after_all
returns-clause-bench_value g c =
    let l = c.loop-i in
    let e : l.i ≡ records_in c.args.chunk.now = omega (arith, l.invariant.0, l.invariant.1, c.loop-i-test.false) in
    rw e at l.invariant.2

pub returns-clause-written : goal.returns-clause-written
unfolding lines_of
returns-clause-written g c =
    let l = c.loop-i in
    let e : l.i ≡ records_in c.args.chunk.now = omega (arith, l.invariant.0, l.invariant.1, c.loop-i-test.false) in
    rw e at l.invariant.3
