-- The call for one record is a run of it alone, or of nothing, with a budget of one;
-- and the tally by what the answer says and the record's kind.
-- An accepted record has the kind of its event, so an accepted one is a crash when its first byte is 5.
use Rattle.std.specs.Prelude.{◌≡◌, ◌≢◌, ◌⊎◌, Bool, true, false, ℕ, zero, suc, ◌≤◌, ◌<◌, get_or, take, drop, None, Ok, Err, is_ok}
use Rattle.std.proofs.Math.Path.{refl, sym, ap}
use Rattle.std.proofs.Common.{◌∙◌, inl, inr, length-drop, take_all}
use Rattle.std.proofs.Math.Logic.{⊎_elim}
use mathlib.Core.List.{List, [], ◌∷◌}
use native.Mathlib.Omega.{arith}
use Rattle.std.proofs.Math.ListN.{length}
use Rattle.sets.specs.Truth.{◌and◌, same, select}
use Rattle.sets.specs.TruthLaws.{Is, on, off, is, select_on, select_off, and_off_l, same_on, same_mk, same_off, eq-or}
use Rattle.refusal.specs.declared.Refusal.TheVariants.{Damaged, Length}
use Rattle.refusal.specs.Numbers.{refused}
use Rattle.bench.specs.declared.Bench.{Bench}
use Rattle.bench.specs.declared.Counters.{Counters}
use Rattle.bench.specs.Sound.{sound_of}
use Rattle.bench.specs.Record.{event_of, decode_of, v2, decode_as}
use Rattle.bench.proofs.RecordLaws.{decode_from, decode_size}
use Rattle.bench.specs.Refuse.{is_crash, refusal}
use Rattle.bench.proofs.RefuseLaws.{refusal_damaged, refusal_unread, accepted, refused-keeps, accepted_effect}
use Rattle.bench.specs.RunLoop.{effect_of}
use Rattle.bench.specs.Closings.{last_of}
use Rattle.bench.specs.RunLoop.{closing_in}
use Rattle.bench.proofs.ClosingLaws.{closing_refused}
use Rattle.bench.specs.LastLaws.{none_last}
use Rattle.bench.specs.Calls.{answer_of, step_of}
use Rattle.bench.specs.Calls.{tallied, crash_decoded, tally_of, run_of}
use Rattle.bench.specs.RunLoop.{ended_of, run_from}
use Rattle.one_record.specs.OneRecord.{record_in, answer_to, stepped_by, crash_byte}
use Rattle.bench.proofs.RunLaws.{step_is, run_empty, run-refused, run_accepted, run_damaged, run_sound}

-- ---- one record
module _ (s : Bench) (l : List ℕ) where
  -- a refused record, by its number
  pub step_refused : (k : ℕ) → refusal s l ≡ k → k ≢ 0
      → record { answer = Err (refused k); closing = None; bench = s } ≡ step_of s l
  unfolding answer_of
  step_refused k e z =
      rw (
        step_is s l,
        closing_refused s l (rw e z),
        refused-keeps s l (rw e z),
        e,
        select_off (same k 0) (Ok (tt {0})) (Err (refused k)) (same_off k 0 z),
      )

  pub step_damaged : sound_of s ≡ false
      → record { answer = Err Damaged; closing = None; bench = s } ≡ step_of s l
  step_damaged d = step_refused 2 (refusal_damaged s l d) (omega arith)

  pub step_size : sound_of s ≡ true → length l ≢ 8
      → record { answer = Err Length; closing = None; bench = s } ≡ step_of s l
  step_size h n =
      step_refused 3 (refusal_unread s l h Length (decode_size s.n s.t l n)) (omega arith)

  step_accepted : refusal s l ≡ 0
      → record { answer = Ok tt; closing = closing_in s l; bench = effect_of s l } ≡ step_of s l
  unfolding answer_of
  step_accepted e =
      rw (
        step_is s l,
        accepted_effect s l e,
        e,
        select_on (same 0 0) (Ok (tt {0})) (Err (refused 0)) (same_mk 0 0 refl),
      )

  -- a damaged bench is refused whatever is run
  damaged : (bytes : List ℕ) → sound_of s ≡ false → stepped_by (run_of 1 bytes s) ≡ step_of s l
  unfolding stepped_by answer_to ended_of
  damaged bytes d = rw (run_damaged 1 bytes s d) (step_damaged d)

  -- 8 bytes
  module _ (n : length l ≡ 8) where
    whole_record : take 8 l ≡ l
    whole_record = take_all 8 l (omega arith)

    of_eight : sound_of s ≡ true → stepped_by (run_from v2 1 l s 0 None 0) ≡ step_of s l
    unfolding stepped_by answer_to ended_of
    of_eight h = ⊎_elim taken turned (eq-or (refusal s (take 8 l)) 0)
      where
        some : length l ≢ 0
        some z = omega arith

        taken : refusal s (take 8 l) ≡ 0 → stepped_by (run_from v2 1 l s 0 None 0) ≡ step_of s l
        taken z =
            rw (
              run_accepted l s 0 None 0 1 some (omega arith) z,
              run_empty (drop 8 l) (effect_of s (take 8 l)) 1 (last_of None (closing_in s (take 8 l))) 8 0
                  (omega (arith, length-drop 8 l)),
              whole_record,
              none_last (closing_in s l),
            )
            (rw (select_off (same 1 0) (Err Length) (Ok (tt {0})) (same_off 1 0 (omega arith)))
            (step_accepted (rw whole_record at z)))

        turned : refusal s (take 8 l) ≢ 0 → stepped_by (run_from v2 1 l s 0 None 0) ≡ step_of s l
        turned z =
            rw (run-refused l s 0 None 0 1 some (omega arith) z, whole_record)
            (step_refused (refusal s l) refl (rw whole_record at z))

  -- any other number of bytes
  not_whole : length l ≢ 8 → sound_of s ≡ true → stepped_by (run_from v2 1 [] s 0 None 0) ≡ step_of s l
  unfolding stepped_by answer_to ended_of
  not_whole n h =
      rw (run_empty [] s 0 None 0 1 refl, select_on (same 0 0) (Err Length) (Ok (tt {0})) (same_mk 0 0 refl))
      (step_size h n)

  pub step_run : stepped_by (run_of 1 (record_in l) s) ≡ step_of s l
  unfolding record_in
  step_run = go (is (sound_of s)) (eq-or (length l) 8)
    where
      go : Is (sound_of s) → (length l ≡ 8) ⊎ (length l ≢ 8)
          → stepped_by (run_of 1 (select (same (length l) 8) l []) s) ≡ step_of s l
      go (off d) k = damaged _ d
      go (on h) (inl n) = rw (select_on (same (length l) 8) l [] (same_mk _ _ n), run_sound 1 l s h) (of_eight n h)
      go (on h) (inr n) = rw (select_off (same (length l) 8) l [] (same_off _ _ n), run_sound 1 [] s h) (not_whole n h)

-- ---- the tally
pub no_byte : (l : List ℕ) → length l ≤ 0 → crash_byte l ≡ false
unfolding crash_byte same
no_byte [] h = refl
no_byte (x ∷ l) h = absurd (omega arith)

answer_accepted : (k : ℕ) → is_ok (answer_of k) ≡ same k 0
unfolding answer_of
answer_accepted k = go (is (same k 0))
  where
    go : Is (same k 0) → is_ok (select (same k 0) (Ok (tt {0})) (Err (refused k))) ≡ same k 0
    go (on e) = rw (select_on (same k 0) (Ok (tt {0})) (Err (refused k)) e) (sym e)
    go (off e) = rw (select_off (same k 0) (Ok (tt {0})) (Err (refused k)) e) (sym e)

past_crash : (k a b r v : ℕ) → 5 < k → crash_decoded (Ok (event_of k a b r v)) ≡ same k 5
unfolding crash_decoded is_crash event_of select
past_crash k a b r v h =
    let no : (i : ℕ) → i ≤ 5 → same k i ≡ false = λ i l. same_off k i (λ e. omega (arith, e)) in
    rw (no 1 (omega arith), no 2 (omega arith), no 3 (omega arith), no 4 (omega arith), no 5 (omega arith))

crash_kind : (k a b r v : ℕ) → crash_decoded (Ok (event_of k a b r v)) ≡ same k 5
unfolding crash_decoded is_crash event_of same select
crash_kind zero a b r v = refl
crash_kind (suc zero) a b r v = refl
crash_kind (suc (suc zero)) a b r v = refl
crash_kind (suc (suc (suc zero))) a b r v = refl
crash_kind (suc (suc (suc (suc zero)))) a b r v = refl
crash_kind (suc (suc (suc (suc (suc zero))))) a b r v = refl
crash_kind (suc (suc (suc (suc (suc (suc k)))))) a b r v =
    past_crash (suc (suc (suc (suc (suc (suc k)))))) a b r v (omega arith)

module _ (s : Bench) (l : List ℕ) where
  crash_byte_lem : (same (refusal s l) 0 and crash_decoded (decode_of s.n s.t l)) ≡ (same (refusal s l) 0 and crash_byte l)
  unfolding crash_byte
  crash_byte_lem = go (is (same (refusal s l) 0))
    where
      go : Is (same (refusal s l) 0)
          → (same (refusal s l) 0 and crash_decoded (decode_of s.n s.t l))
          ≡ (same (refusal s l) 0 and same (get_or l 0 0) 5)
      go (on e) =
          let w = accepted s l (same_on (refusal s l) 0 e) in
          let f = decode_from s.n s.t l w.event w.decoded in
          ap (λ (x : Bool). same (refusal s l) 0 and x) (rw (w.decoded, f.event) (crash_kind (get_or l 0 0) _ _ _ _))
      go (off e) = and_off_l _ _ e ∙ sym (and_off_l _ _ e)

  pub tally_step : (c : Counters) → tallied (is_ok (step_of s l).answer) (crash_byte l) c ≡ tally_of s l c
  unfolding tallied tally_of step_of refusal decode_as
  tally_step c = rw (answer_accepted (refusal s l), crash_byte_lem)
