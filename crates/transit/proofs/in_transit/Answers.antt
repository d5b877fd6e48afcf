-- `in_transit` counts first, so that it refuses before it writes; then it writes the whole list at the front.
use Rattle.std.proofs.Common.{◌≡◌, true, false, ◌/◌, length, arith, rules}
use Rattle.std.proofs.lemmas.Result.{err_from_is_err_and}
use Rattle.sets.specs.Truth.{same, less, select, check}
use Rattle.sets.specs.TruthLaws.{less_mk, less_off}
use Rattle.bench.specs.TransitList.{transit_bytes, list_refusal, list_of, listed_in}
use Rattle.bench.proofs.SoundLaws.{sound_on}
use Rattle.bench.proofs.TransitLaws.{stores_front}
use Rattle.transit.proofs.in_transit.Goals as goal

pub returns-in_err-ensure_sound : goal.returns-in_err-ensure_sound
unfolding list_of listed_in list_refusal check select same
returns-in_err-ensure_sound c =
    let p = err_from_is_err_and c.from_residual.result c.from_residual.ensures.1 in
    let e = c.in_err-ensure_sound.ensures in
    record { value = rw (p.1, p.2, e.0, e.1); out_after = rw e.1 }

pub returns-then-out-messages : goal.returns-then-out-messages
unfolding list_of listed_in list_refusal check select same
returns-then-out-messages c =
    let s = c.in_ok-ensure_sound.ensures in
    let l : less (length c.args.out.now) (length (transit_bytes c.args.b.now)) ≡ true = less_mk _ _ (omega arith) in
    record { value = rw (s, l); out_after = rw (s, l) }

pub put_all-requires : goal.put_all-requires
put_all-requires c =
    let s = sound_on c.args.b.now c.in_ok-ensure_sound.ensures in
    (omega (arith, s.few), omega (arith, s.few, s.limit), omega arith)

pub returns : goal.returns
unfolding list_of listed_in list_refusal check select same
returns c =
    let s = c.in_ok-ensure_sound.ensures in
    let l : less (length c.args.out.now) (length (transit_bytes c.args.b.now)) ≡ false = less_off _ _ (omega arith) in
    let m : c.all_messages-messages.result ≡ length (transit_bytes c.args.b.now) / 3 = omega arith in
    let q = c.put_all.new.self in
    let front =
    stores_front c.args.out.now (transit_bytes c.args.b.now) q.out.now q.at (omega arith) c.put_all.ensures.stored in
    record { value = rw (s, l, m); out_after = rw (s, l) (search rules) }
