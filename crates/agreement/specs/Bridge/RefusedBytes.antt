-- A bench that refuses all bytes but records of kind 5 refuses every event but a crash: each event whose value fits
-- has its bytes, and one start that fits is enough to see that starts are refused.
use Rattle.std.specs.Prelude.{◌≡◌, refl, ◌≢◌, List, true, false, ℕ}
use Rattle.std.proofs.Common.{◌∙◌, arith}
use Rattle.sets.specs.Truth.{◌and◌, same, less}
use Rattle.sets.specs.TruthLaws.{less_mk}
use Rattle.bench.specs.declared.Bench.{Bench}
use Rattle.bench.specs.declared.Message.TheVariants.{Estimate, Decision}
use Rattle.bench.specs.declared.Event.{Event}
use Rattle.bench.specs.declared.Event.TheVariants.{Start, Send, Arrive, Close, Crash, Suspect}
use Rattle.std.proofs.Math.Pow.{are_bytes}
use Rattle.bench.specs.EveryInLaws.{bytes_every}
use Rattle.bench.specs.Record.{is_kind}
use Rattle.bench.specs.Sound.{sound_of}
use Rattle.bench.proofs.SoundLaws.{every_mk, sound_on}
use Rattle.bench.specs.Refuse.{refuses, is_crash, refusal}
use Rattle.bench.proofs.RefuseLaws.{refusal_event}
use Rattle.bench.proofs.RecordLaws.{InRange, ValueFits, bytes_of, encode_of, decode_back, encode_byte}

-- only the bytes of a crash are of kind 5
not_kind5 : (e : Event) → is_crash e ≡ false → is_kind 5 (encode_of e) ≡ false
unfolding is_kind encode_of bytes_of is_crash same ◌and◌
not_kind5 (Start a v) c = refl
not_kind5 (Send a b) c = refl
not_kind5 (Arrive a b (Estimate r)) c = refl
not_kind5 (Arrive a b Decision) c = refl
not_kind5 (Close a) c = refl
not_kind5 (Crash a) c = c
not_kind5 (Suspect a b) c = refl

pub refused_events : (s : Bench) → sound_of s ≡ true
    → ((bytes : List ℕ) → are_bytes bytes ≡ true → is_kind 5 bytes ≡ false → refusal s bytes ≢ 0)
    → (e : Event) → InRange s.n s.t e → ValueFits e → is_crash e ≡ false → refuses e s ≢ 0
refused_events s o f e r v c z =
    let B = sound_on s o in
    f (encode_of e)
    (bytes_every (encode_of e)
    ∙ every_mk (λ b. less b 256) 0 (encode_of e)
    (λ i. less_mk _ 256 (encode_byte s.n s.t (omega (arith, B.few)) B.limit e r i)))
    (not_kind5 e c) (refusal_event s (encode_of e) o e (decode_back s.n s.t e r v) ∙ z)
