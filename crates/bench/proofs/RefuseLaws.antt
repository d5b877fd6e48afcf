-- Laws of refusals: which check gives each number, that a refused record changes nothing,
-- and what an accepted one does.
-- A check gives its number or what is checked after it, so the numbers are taken apart one check at a time.
use Rattle.std.specs.Prelude.{◌≡◌, ◌≢◌, List, Bool, true, false, ℕ, ◌≤◌, length, Result, Ok, Err}
use Rattle.std.proofs.Math.Path.{refl, ap}
use Rattle.std.proofs.Common.{sym, ◌∙◌, arith}
use Rattle.std.proofs.Math.Bool.{not}
use Rattle.sets.specs.Set.{size_of}
use Rattle.sets.specs.TruthLaws.{or_mk_l, or_off_l, check_on, check_off, check-zero}
use Rattle.sets.specs.TruthLaws.{Is, on, off, is, select_on, select_off, not_on, same_mk, same_off}
use Rattle.refusal.specs.declared.Refusal.{Refusal}
use Rattle.refusal.specs.Numbers.{refusal_number}
use Rattle.refusal.proofs.NumberLaws.{number_range}
use Rattle.bench.specs.declared.Bench.{Bench}
use Rattle.bench.specs.declared.Event.{Event}
use Rattle.bench.specs.State.{crashed_at}
use Rattle.bench.specs.Sound.{sound_of}
use Rattle.bench.specs.Record.{decode_of, v2, decode_as}
use Rattle.bench.proofs.RecordLaws.{InRange, decode_from, decode_refused, decode_range}
use Rattle.sets.specs.Truth.{less, check}
use Rattle.bench.specs.Refuse.{actor, is_crash, passes7, passes8, passes9, refuses, refuses_decoded, refusal_by}
use Rattle.bench.specs.Refuse.{refusal}
use Rattle.bench.specs.Effect.{effect}
use Rattle.bench.specs.RunLoop.{effect_decoded, effect_by, effect_of}
use Rattle.bench.specs.Calls.{event_in, accepted_one, after_events, step_of, after_record}

-- ---- an event is let through when its actor runs and it passes the checks 7, 8 and 9
pub record Passes (e : Event) (s : Bench) : Type 0 where
  pub running : crashed_at s (actor e) ≡ false
  pub pass7 : passes7 e s ≡ true
  pub pass8 : passes8 e s ≡ true
  pub pass9 : passes9 e s ≡ true

-- check 9 looks at a crash alone
pub ninth_other : (e : Event) (s : Bench) → is_crash e ≡ false → passes9 e s ≡ true
unfolding passes9
ninth_other e s c = or_mk_l _ _ (ap not c)

pub ninth_crash : (e : Event) (s : Bench) → is_crash e ≡ true → passes9 e s ≡ less (size_of s.crashed) s.t
unfolding passes9
ninth_crash e s c = or_off_l _ _ (ap not c)

module _ (e : Event) (s : Bench) where
  pub refuses_crashed : crashed_at s (actor e) ≡ true → refuses e s ≡ 6
  unfolding refuses
  refuses_crashed c = check_off _ _ _ (ap not c)

  pub refuses_impossible : crashed_at s (actor e) ≡ false → passes7 e s ≡ false → refuses e s ≡ 7
  unfolding refuses
  refuses_impossible c p = check_on _ _ _ (ap not c) ∙ check_off _ _ _ p

  pub refuses_unready : crashed_at s (actor e) ≡ false → passes7 e s ≡ true → passes8 e s ≡ false → refuses e s ≡ 8
  unfolding refuses
  refuses_unready c p r = check_on _ _ _ (ap not c) ∙ check_on _ _ _ p ∙ check_off _ _ _ r

  pub refuses_unallowed : crashed_at s (actor e) ≡ false → passes7 e s ≡ true → passes8 e s ≡ true → passes9 e s ≡ false
      → refuses e s ≡ 9
  unfolding refuses
  refuses_unallowed c p r a = check_on _ _ _ (ap not c) ∙ check_on _ _ _ p ∙ check_on _ _ _ r ∙ check_off _ _ _ a

  pub passes_mk : Passes e s → refuses e s ≡ 0
  unfolding refuses
  passes_mk w =
      check_on _ _ _ (ap not w.running) ∙ check_on _ _ _ w.pass7 ∙ check_on _ _ _ w.pass8
      ∙ check_on _ _ _ w.pass9

  pub passes_on : refuses e s ≡ 0 → Passes e s
  unfolding refuses
  passes_on z =
      let c = check-zero _ 6 _ (omega arith) z in
      let p = check-zero _ 7 _ (omega arith) c.1 in
      let r = check-zero _ 8 _ (omega arith) p.1 in
      let a = check-zero _ 9 _ (omega arith) r.1 in
      record { running = not_on _ c.0; pass7 = p.0; pass8 = r.0; pass9 = a.0 }

-- ---- the numbers of an event are at most 9, and those of a record at most 16
check_low : (m k x : ℕ) (b : Bool) → k ≤ m → x ≤ m → check b k x ≤ m
check_low m k x b h g = go (is b)
  where
    go : Is b → check b k x ≤ m
    go (on e) = rw (check_on b k x e) g
    go (off e) = rw (check_off b k x e) h

pub refuses_low : (e : Event) (s : Bench) → refuses e s ≤ 9
unfolding refuses
refuses_low e s =
    check_low 9 6 _ _ (omega arith)
    (check_low 9 7 _ _ (omega arith)
    (check_low 9 8 _ _ (omega arith) (check_low 9 9 _ _ (omega arith) (omega arith))))

pub refusal_high : (s : Bench) (l : List ℕ) → refusal s l ≤ 16
unfolding refusal refusal_by refuses_decoded decode_as
refusal_high s l = check_low 16 2 _ _ (omega arith) (go (decode_of s.n s.t l))
  where
    go : (d : Result Event Refusal) → refuses_decoded d s ≤ 16
    go (Ok e) = omega (arith, refuses_low e s)
    go (Err r) = (number_range r).1

-- ---- any bytes: 2 of a damaged bench, else the decoder's number, else the event's
module _ (s : Bench) (l : List ℕ) where
  pub refusal_damaged : sound_of s ≡ false → refusal s l ≡ 2
  unfolding refusal refusal_by decode_as
  refusal_damaged d = check_off _ _ _ d

  pub refusal_unread : sound_of s ≡ true → (r : Refusal) → decode_of s.n s.t l ≡ Err r
      → refusal s l ≡ refusal_number r
  unfolding refusal refuses_decoded refusal_by decode_as
  refusal_unread h r d = check_on _ _ _ h ∙ rw d

  pub refusal_event : sound_of s ≡ true → (e : Event) → decode_of s.n s.t l ≡ Ok e → refusal s l ≡ refuses e s
  unfolding refusal refuses_decoded refusal_by decode_as
  refusal_event h e d = check_on _ _ _ h ∙ rw d

  -- ---- a refused record leaves the bench as it is
  pub refused-keeps : refusal s l ≢ 0 → after_record s l ≡ s
  unfolding after_record step_of accepted_one after_events refusal
  refused-keeps h = ap (after_events s) (select_off _ _ _ (same_off _ _ h))

  pub accepted_effect : refusal s l ≡ 0 → after_record s l ≡ effect_of s l
  unfolding after_record step_of accepted_one after_events event_in refusal effect_of effect_by effect_decoded
  accepted_effect h = ap (after_events s) (select_on _ _ _ (same_mk _ _ h)) ∙ go (decode_as v2 s.n s.t l)
    where
      go : (d : Result Event Refusal) → after_events s (event_in d) ≡ effect_decoded d s
      go (Ok e) = refl
      go (Err r) = refl

-- ---- an accepted record: the bench is sound, the bytes are those of an event in range that is let
-- through, and its effect is taken
pub record Accepts (s : Bench) (l : List ℕ) : Type 0 where
  pub sound : sound_of s ≡ true
  pub event : Event
  pub decoded : decode_of s.n s.t l ≡ Ok event
  pub range : InRange s.n s.t event
  pub passes : Passes event s
  pub size : length l ≡ 8
  pub effects : after_record s l ≡ effect event s

pub accepted : (s : Bench) (l : List ℕ) → refusal s l ≡ 0 → Accepts s l
unfolding refusal refuses_decoded effect_of effect_decoded refusal_by decode_as effect_by
accepted s l z = go (decode_of s.n s.t l) refl
  where
    first : (sound_of s ≡ true) × (refuses_decoded (decode_of s.n s.t l) s ≡ 0)
    first = check-zero _ 2 _ (omega arith) z

    go : (d : Result Event Refusal) → decode_of s.n s.t l ≡ d → Accepts s l
    go (Ok e) p =
        record {
          sound = first.0;
          event = e;
          decoded = p;
          range = decode_range s.n s.t l e p;
          passes = passes_on e s (sym (refusal_event s l first.0 e p) ∙ z);
          size = (decode_from s.n s.t l e p).size;
          effects = accepted_effect s l z ∙ rw p;
        }
    go (Err r) p = absurd (decode_refused s.n s.t l r p (sym (refusal_unread s l first.0 r p) ∙ z))

-- and the other way
pub accepted_by_lem : (s : Bench) (l : List ℕ) (e : Event) → sound_of s ≡ true → decode_of s.n s.t l ≡ Ok e
    → Passes e s
    → refusal s l ≡ 0
accepted_by_lem s l e h d w = refusal_event s l h e d ∙ passes_mk e s w
