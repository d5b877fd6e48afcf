-- The opening record and what follows it: what is written is the output of all that the reader had.
use Rattle.std.proofs.Common.{◌≡◌, sym, ◌∙◌, ◌<◌, ◌≤◌, take, length, arith, Result, Ok, Err}
use Rattle.std.specs.Result.{OnOk}
use Rattle.std.specs.Io.KnownBytes.{IsAtEnd}
use Rattle.std.proofs.KnownBytes.{Appends-kept}
use Rattle.std.proofs.lemmas.List.{take-append-le}
use Rattle.bench.proofs.SoundLaws.{sound_on}
use Rattle.simulate.specs.Output.{opening_of}
use Rattle.simulate.specs.LinesLaws.{answered_reached, reached_sound}
use Rattle.simulate.specs.OpeningLaws.{opening_sound}
use Rattle.simulate.specs.OutputLaws.{output_refused, output_opened}
use Rattle.simulate.proofs.simulate.Goals.{in-Ok+in_ok-bench-in-Ok+in_ok-write_at_once-in-Ok, in-Err+in_ok-write_at_once-in-Err}
use Rattle.simulate.proofs.simulate.Goals as goal

-- a bench that the opening record opens is sound, and so is the one after the records
pub invariant_of-write_at_once : goal.invariant_of-write_at_once
invariant_of-write_at_once g c =
    let s = reached_sound _ _ (answered_reached c.in_ok-bench-in-Ok.ensures)
    (opening_sound _ _ (sym c.opening.ensures ∙ c.in-Ok.is)) in
    record { few = omega (arith, (sound_on _ s).few) }

on_ok : {T E P : Type 0} (r : Result T E) → P → OnOk r P
on_ok (Ok x) p = p
on_ok (Err e) p = tt

pub returns : goal.returns
returns g c =
    let read = c.in_ok-read.ensures in
    let first = take c.in_ok-read.read c.read_full.new.buf in
    let most : length first ≤ 8 = omega (arith, read.bound, c.read_full.auto.buf) in
    let end : length first < 8 → IsAtEnd (g.R.Read.remaining c.read_full.new.reader) =
    λ b. read.end (omega (arith, read.bound, c.read_full.auto.buf)) in
    let opened : opening_of first ≡ c.opening.result =
    rw c.opening.ensures (rw (take-append-le c.in_ok-read.read c.read_full.new.buf _ read.bound.0)) in
    on_ok _
    (elim c.match-opening.branch [
      | in-Ok+in_ok-bench-in-Ok+in_ok-write_at_once-in-Ok w ↦
          output_opened first most _ _ _ _ _ _ _ _ read.bytes end (opened ∙ w.in-Ok.is) w.in_ok-bench-in-Ok.ensures
          (Appends-kept _ _ _ _ w.in_ok-write_at_once-in-Ok.ensures (rw w.out-is at c.flush.ensures.bytes))
      | in-Err+in_ok-write_at_once-in-Err w ↦
          output_refused first most _ _ _ _ _ read.bytes end (opened ∙ w.in-Err.is)
          (Appends-kept _ _ _ _ w.in_ok-write_at_once-in-Err.ensures (rw w.out-is at c.flush.ensures.bytes))
    ])
