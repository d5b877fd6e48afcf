-- Each arm hands on what the event's function answers.
use Rattle.std.proofs.Common.{None, Some}
use Rattle.std.proofs.lemmas.Result.{err_from_is_err_and}
use Rattle.bench.specs.Closings.{closing_at}
use Rattle.run.specs.Events.{closed_of}
use Rattle.run.specs.Turns.{accepted_as, refused_as, told_ok, told_err, Low, event_low, sizes_low, round_low, round_last}
use Rattle.run.proofs.event_in.Goals as goal

pub start_in-requires : goal.start_in-requires
unfolding Low
start_in-requires c = (rw c.in-Start.is at (event_low _ c.requires.sound _ c.requires.in_range), (sizes_low _ c.requires.sound).0)

pub send_in-requires-clause-bounds : goal.send_in-requires-clause-bounds
unfolding Low
send_in-requires-clause-bounds c = rw c.in-Send.is at (event_low _ c.requires.sound _ c.requires.in_range)

pub send_in-requires-clause-round : goal.send_in-requires-clause-round
send_in-requires-clause-round c = round_last _ c.requires.sound _

pub arrive_in-requires-clause-bounds : goal.arrive_in-requires-clause-bounds
unfolding Low
arrive_in-requires-clause-bounds c =
    let l = rw c.in-Arrive.is at (event_low _ c.requires.sound _ c.requires.in_range) in
    (l.0, l.1, (sizes_low _ c.requires.sound).0)

pub arrive_in-requires-clause-message : goal.arrive_in-requires-clause-message
unfolding Low
arrive_in-requires-clause-message c = (rw c.in-Arrive.is at (event_low _ c.requires.sound _ c.requires.in_range)).2

pub close_in-requires-clause-sizes : goal.close_in-requires-clause-sizes
unfolding Low
close_in-requires-clause-sizes c =
    let z = sizes_low _ c.requires.sound in
    (rw c.in-Close.is at (event_low _ c.requires.sound _ c.requires.in_range), z.0, z.1)

pub close_in-requires-clause-round : goal.close_in-requires-clause-round
close_in-requires-clause-round c = round_low _ c.requires.sound _

pub crash_in-requires : goal.crash_in-requires
unfolding Low
crash_in-requires c = rw c.in-Crash.is at (event_low _ c.requires.sound _ c.requires.in_range)

pub suspect_in-requires : goal.suspect_in-requires
unfolding Low
suspect_in-requires c = rw c.in-Suspect.is at (event_low _ c.requires.sound _ c.requires.in_range)

pub returns-in_err-start_in-in-Start-clause-answer : goal.returns-in_err-start_in-in-Start-clause-answer
returns-in_err-start_in-in-Start-clause-answer c =
    let p = err_from_is_err_and c.from_residual.result c.from_residual.ensures.1 in
    rw (p.1, p.2, c.in-Start.is) (refused_as _ _ _ c.in_err-start_in-in-Start.ensures.answer)

pub returns-in_ok-start_in-in-Start-clause-answer : goal.returns-in_ok-start_in-in-Start-clause-answer
unfolding closing_at
returns-in_ok-start_in-in-Start-clause-answer c =
    rw c.in-Start.is (accepted_as _ None c.in_ok-start_in-in-Start.ensures.answer)

pub returns-in_err-send_in-in-Send-clause-answer : goal.returns-in_err-send_in-in-Send-clause-answer
returns-in_err-send_in-in-Send-clause-answer c =
    let p = err_from_is_err_and c.from_residual-in_err-send_in-in-Send.result c.from_residual-in_err-send_in-in-Send.ensures.1 in
    rw (p.1, p.2, c.in-Send.is) (refused_as _ _ _ c.in_err-send_in-in-Send.ensures.answer)

pub returns-in_ok-send_in-in-Send-clause-answer : goal.returns-in_ok-send_in-in-Send-clause-answer
unfolding closing_at
returns-in_ok-send_in-in-Send-clause-answer c =
    rw c.in-Send.is (accepted_as _ None c.in_ok-send_in-in-Send.ensures.answer)

pub returns-in_err-arrive_in-in-Arrive-clause-answer : goal.returns-in_err-arrive_in-in-Arrive-clause-answer
returns-in_err-arrive_in-in-Arrive-clause-answer c =
    let p = err_from_is_err_and c.from_residual-in_err-arrive_in-in-Arrive.result c.from_residual-in_err-arrive_in-in-Arrive.ensures.1 in
    rw (p.1, p.2, c.in-Arrive.is) (refused_as _ _ _ c.in_err-arrive_in-in-Arrive.ensures.answer)

pub returns-in_ok-arrive_in-in-Arrive-clause-answer : goal.returns-in_ok-arrive_in-in-Arrive-clause-answer
unfolding closing_at
returns-in_ok-arrive_in-in-Arrive-clause-answer c =
    rw c.in-Arrive.is (accepted_as _ None c.in_ok-arrive_in-in-Arrive.ensures.answer)

pub returns-in_err-crash_in-in-Crash-clause-answer : goal.returns-in_err-crash_in-in-Crash-clause-answer
returns-in_err-crash_in-in-Crash-clause-answer c =
    let p = err_from_is_err_and c.from_residual-in_err-crash_in-in-Crash.result c.from_residual-in_err-crash_in-in-Crash.ensures.1 in
    rw (p.1, p.2, c.in-Crash.is) (refused_as _ _ _ c.in_err-crash_in-in-Crash.ensures.answer)

pub returns-in_ok-crash_in-in-Crash-clause-answer : goal.returns-in_ok-crash_in-in-Crash-clause-answer
unfolding closing_at
returns-in_ok-crash_in-in-Crash-clause-answer c =
    rw c.in-Crash.is (accepted_as _ None c.in_ok-crash_in-in-Crash.ensures.answer)

pub returns-in_err-suspect_in-in-Suspect-clause-answer : goal.returns-in_err-suspect_in-in-Suspect-clause-answer
returns-in_err-suspect_in-in-Suspect-clause-answer c =
    let p = err_from_is_err_and c.from_residual-in_err-suspect_in-in-Suspect.result c.from_residual-in_err-suspect_in-in-Suspect.ensures.1 in
    rw (p.1, p.2, c.in-Suspect.is) (refused_as _ _ _ c.in_err-suspect_in-in-Suspect.ensures.answer)

pub returns-in_ok-suspect_in-in-Suspect-clause-answer : goal.returns-in_ok-suspect_in-in-Suspect-clause-answer
unfolding closing_at
returns-in_ok-suspect_in-in-Suspect-clause-answer c =
    rw c.in-Suspect.is (accepted_as _ None c.in_ok-suspect_in-in-Suspect.ensures.answer)

pub returns-in_err-close_in-in-Close-clause-answer : goal.returns-in_err-close_in-in-Close-clause-answer
unfolding closing_at closed_of
returns-in_err-close_in-in-Close-clause-answer c =
    let p = err_from_is_err_and c.from_residual-in_err-close_in-in-Close.result c.from_residual-in_err-close_in-in-Close.ensures.1 in
    rw (p.1, p.2, c.in-Close.is) (told_err _ _ Some _ c.in_err-close_in-in-Close.ensures.answer)

pub returns-in-Close-clause-answer : goal.returns-in-Close-clause-answer
unfolding closing_at closed_of
returns-in-Close-clause-answer c =
    rw c.in-Close.is (told_ok _ _ Some _ c.in_ok-close_in-in-Close.ensures.answer)
