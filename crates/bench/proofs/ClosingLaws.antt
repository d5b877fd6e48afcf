-- How a round ended, as the bench passes it up: none exactly where the record is refused or is no close, next round
-- exactly where the process that closed is then undecided, last round in round t + 1; and a run has that of the last
-- close it stepped. A record's by the kind of its event, a run's by induction on its records.
use Rattle.std.specs.Prelude.{◌≡◌, refl, ◌≢◌, ◌⊎◌, List, Bool, not, ℕ, zero, suc, ◌+◌, ◌<◌, length, get_or, take, drop, Option, Some, None, is_none, IsSomeAnd, Result, Ok, Err}
use Rattle.std.proofs.Common.{sym, ap, ◌∙◌, inl, inr, ⊎_elim}
use Rattle.std.proofs.Math.Bool.{true, false}
use native.Mathlib.Omega.{arith}
use Rattle.std.proofs.Math.Seq.{get_or-set_same}
use Rattle.sets.specs.Truth.{◌and◌, same, select}
use Rattle.sets.specs.TruthLaws.{Is, on, off, is, select_on, select_off, same_on, same_not, same_mk, same_off}
use Rattle.sets.specs.TruthLaws.{and_first, and_second, and_on_l, and_off_l, not_on}
use Rattle.process.specs.declared.Process.{Process}
use Rattle.process.specs.declared.Closing.{Closing}
use Rattle.process.specs.declared.Closing.TheVariants.{LastRound}
use Rattle.process.specs.Steps.{no_process, has_decided, takes_part, opens_next}
use Rattle.process.specs.Steps.{close_of}
use Rattle.process.proofs.ClosingLaws.{closing_last, next_undecided}
use Rattle.refusal.specs.declared.Refusal.{Refusal}
use Rattle.bench.specs.declared.Bench.{Bench}
use Rattle.bench.specs.declared.Event.{Event}
use Rattle.bench.specs.declared.Event.TheVariants.{Start, Send, Arrive, Close, Crash, Suspect}
use Rattle.bench.specs.State.{process_at, with_process, with_sent}
use Rattle.bench.specs.Record.{message_from, event_of, decode_of, decode_as}
use Rattle.bench.proofs.RecordLaws.{InRange, decode_from, decode_range}
use Rattle.bench.specs.Sound.{sound_of}
use Rattle.bench.proofs.SoundLaws.{sound_on}
use Rattle.bench.specs.Refuse.{passes7, refusal}
use Rattle.bench.proofs.RefuseLaws.{accepted, accepted_effect}
use Rattle.bench.specs.Effect.{rows_at, opens_round, closes_as, effect}
use Rattle.bench.specs.RunLoop.{effect_decoded, effect_by, effect_of}
use Rattle.bench.specs.Closings.{closing_at, last_of}
use Rattle.bench.specs.RunLoop.{closing_decoded, ends_by, closing_in}
use Rattle.bench.specs.Calls.{run_of, after_record}
use Rattle.bench.specs.RunLoop.{ended_of}
use Rattle.bench.specs.OneByOne.{rest_at, record_at, steps}
use Rattle.bench.proofs.RunLaws.{rest_next, closing_to, run_sound, runs}

-- a close never gives none
pub close_some : (s : Bench) (a : ℕ) → is_none (closing_at (Close a) s) ≡ false
unfolding closing_at
close_some s a = refl

-- ---- one record: of the events by their kinds, a close alone has one
by_close : (s : Bench) (a b r v : ℕ) → is_none (closing_at (event_of 4 a b r v) s) ≡ not (same 4 4)
unfolding closing_at event_of same select
by_close s a b r v = refl

by_other : (s : Bench) (k a b r v : ℕ) → same k 4 ≡ false → is_none (closing_at (event_of k a b r v) s) ≡ true
unfolding closing_at event_of same select
by_other s k a b r v e = rw e (go (same k 1) (same k 2) (same k 3) (same k 5))
  where
    go : (start send arrive crash : Bool)
        → is_none (closing_at (select start (Start a v)
        (select send (Send a b)
        (select arrive (Arrive a b (message_from r))
        (select false (Close a) (select crash (Crash a) (Suspect a b)))))) s) ≡ true
    go true send arrive crash = refl
    go false true arrive crash = refl
    go false false true crash = refl
    go false false false true = refl
    go false false false false = refl

by_kind_lem : (s : Bench) (k a b r v : ℕ) → is_none (closing_at (event_of k a b r v) s) ≡ not (same k 4)
by_kind_lem s k a b r v = go (is (same k 4))
  where
    go : Is (same k 4) → is_none (closing_at (event_of k a b r v) s) ≡ not (same k 4)
    go (on e) = rw (same_on k 4 e) (by_close s a b r v)
    go (off e) = by_other s k a b r v e ∙ sym (ap not e)

got_event : {e f : Event} → ◌≡◌ {A = Result Event Refusal} (Ok e) (Ok f) → e ≡ f
got_event {e} p = ap (λ (d : Result Event Refusal). event_from d) p
  where
    event_from : Result Event Refusal → Event
    event_from (Ok x) = x
    event_from (Err r) = e

module _ (s : Bench) (l : List ℕ) where
  -- of an accepted record, that of its event; of a refused one none
  pub closing_event : (e : Event) → refusal s l ≡ 0 → decode_of s.n s.t l ≡ Ok e → closing_in s l ≡ closing_at e s
  unfolding closing_in closing_decoded ends_by decode_as refusal
  closing_event e z d = select_on _ _ _ (same_mk _ _ z) ∙ rw d

  pub closing_refused : refusal s l ≢ 0 → closing_in s l ≡ None
  unfolding closing_in ends_by decode_as refusal
  closing_refused h = select_off _ _ _ (same_off _ _ h)

  -- none exactly where the record is refused or is no close, which is kind 4
  pub closing_none : is_none (closing_in s l) ≡ not (same (refusal s l) 0 and same (get_or l 0 0) 4)
  closing_none = go (is (same (refusal s l) 0))
    where
      go : Is (same (refusal s l) 0) → is_none (closing_in s l) ≡ not (same (refusal s l) 0 and same (get_or l 0 0) 4)
      go (on e) =
          let w = accepted s l (same_on _ 0 e) in
          let f = decode_from s.n s.t l w.event w.decoded in
          rw (closing_event w.event (same_on _ 0 e) w.decoded, f.event, and_on_l _ (same (get_or l 0 0) 4) e)
          (by_kind_lem s (get_or l 0 0) _ _ _ _)
      go (off e) =
          rw (closing_refused (same_not _ 0 e), and_off_l _ (same (get_or l 0 0) 4) e)

  -- ---- an accepted close of process a
  module _ (a : ℕ) (z : refusal s l ≡ 0) (d : decode_of s.n s.t l ≡ Ok (Close a)) where
    -- in round t + 1 it is the last round, whatever the estimates are
    pub closing_last_round : (process_at s a).round ≡ s.t + 1 → closing_in s l ≡ Some LastRound
    unfolding closing_at
    closing_last_round e = closing_event (Close a) z d ∙ ap Some (closing_last _ _ _ _ _ e)

    -- the process as it closes, which is what then stands there
    abbrev closed : Process
    closed = close_of s.n s.t a (rows_at s (process_at s a).round) (process_at s a)

    stands : a < length s.processes → process_at (closes_as s a closed) a ≡ closed
    unfolding closes_as opens_round with_process with_sent process_at select
    stands h = go (has_decided closed)
      where
        go : (b : Bool) → process_at (select b (with_process s a closed) (opens_round s a closed)) a ≡ closed
        go true = get_or-set_same s.processes a closed no_process h
        go false = get_or-set_same s.processes a closed no_process h

    undecided : has_decided (process_at s a) ≡ false
    unfolding passes7 takes_part
    undecided =
        let w = accepted s l z in
        let same-event : w.event ≡ Close a = got_event (sym w.decoded ∙ d) in
        not_on _ (and_second _ _ (and_first _ _ (rw same-event at w.passes.pass7)))

    -- it is next round exactly where the process is then undecided; every bench has 16 processes
    pub closing_undecided : length s.processes ≡ 16
        → IsSomeAnd (closing_in s l) (λ c. opens_next c ≡ not (has_decided (process_at (after_record s l) a)))
    unfolding closing_at effect effect_of effect_decoded InRange effect_by decode_as
    closing_undecided h =
        let low : a < 16 = omega (
          arith,
          decode_range s.n s.t l (Close a) d,
          (sound_on s (accepted s l z).sound).few,
        ) in
        rw (closing_event (Close a) z d, accepted_effect s l z, d, stands (omega arith))
        (next_undecided _ _ _ _ _ undecided)

-- ---- a run
-- the closing of record i, from 0, with all before it stepped
abbrev of_record : Bench → List ℕ → ℕ → Option Closing
of_record s l i = closing_in (steps i s l) (record_at i l)

-- x is that of the last close among the first k records
pub record LastClose (k : ℕ) (s : Bench) (l : List ℕ) (x : Option Closing) : Type 0 where
  pub i : ℕ
  pub within : i < k
  pub gives : x ≡ of_record s l i
  pub is_close : is_none x ≡ false
  pub none_after : (j : ℕ) → i < j → j < k → is_none (of_record s l j) ≡ true

-- the closings of the records after the first are those of the rest
shifted : (s : Bench) (l : List ℕ) (i : ℕ) → of_record s l (suc i) ≡ of_record (after_record s (take 8 l)) (drop 8 l) i
unfolding steps record_at
shifted s l i = ap (λ (x : List ℕ). closing_in (steps (suc i) s l) (take 8 x)) (sym (rest_next i l))

first : (s : Bench) (l : List ℕ) → of_record s l 0 ≡ closing_in s (take 8 l)
unfolding steps record_at rest_at
first s l = refl

-- what k records give one by one, c before them: that of the last close among them, and without one c
pub closing_to_lem : (k : ℕ) (s : Bench) (l : List ℕ) (c : Option Closing)
    → LastClose k s l (closing_to k s l c)
    ⊎ ((closing_to k s l c ≡ c) × ((j : ℕ) → j < k → is_none (of_record s l j) ≡ true))
unfolding closing_to last_of
closing_to_lem zero s l c = inr (refl, λ j h. absurd (omega arith))
closing_to_lem (suc k) s l c =
    ⊎_elim later earlier (closing_to_lem k (after_record s (take 8 l)) (drop 8 l) (last_of c (closing_in s (take 8 l))))
  where
    s' : Bench
    s' = after_record s (take 8 l)

    x : Option Closing
    x = closing_to k s' (drop 8 l) (last_of c (closing_in s (take 8 l)))

    later : LastClose k s' (drop 8 l) x
        → LastClose (suc k) s l x ⊎ ((x ≡ c) × ((j : ℕ) → j < suc k → is_none (of_record s l j) ≡ true))
    later w = inl (record {
      i = suc w.i;
      within = omega (arith, w.within);
      gives = w.gives ∙ sym (shifted s l w.i);
      is_close = w.is_close;
      none_after = after;
    })
      where
        after : (j : ℕ) → suc w.i < j → j < suc k → is_none (of_record s l j) ≡ true
        after zero p q = absurd (omega arith)
        after (suc j) p q = ap is_none (shifted s l j) ∙ w.none_after j (omega arith) (omega arith)

    earlier : (x ≡ last_of c (closing_in s (take 8 l))) × ((j : ℕ) → j < k → is_none (of_record s' (drop 8 l) j) ≡ true)
        → LastClose (suc k) s l x ⊎ ((x ≡ c) × ((j : ℕ) → j < suc k → is_none (of_record s l j) ≡ true))
    earlier (e, none_of) = go (is (is_none (closing_in s (take 8 l))))
      where
        rest_none : (j : ℕ) → j < k → is_none (of_record s l (suc j)) ≡ true
        rest_none j p = ap is_none (shifted s l j) ∙ none_of j p

        go : Is (is_none (closing_in s (take 8 l)))
            → LastClose (suc k) s l x ⊎ ((x ≡ c) × ((j : ℕ) → j < suc k → is_none (of_record s l j) ≡ true))
        go (on z) = inr (e ∙ select_on _ _ _ z, all)
          where
            all : (j : ℕ) → j < suc k → is_none (of_record s l j) ≡ true
            all zero p = ap is_none (first s l) ∙ z
            all (suc j) p = rest_none j (omega arith)
        go (off z) = inl (record {
          i = 0;
          within = omega arith;
          gives = e ∙ select_off _ _ _ z ∙ sym (first s l);
          is_close = ap is_none (e ∙ select_off _ _ _ z) ∙ z;
          none_after = after;
        })
          where
            after : (j : ℕ) → 0 < j → j < suc k → is_none (of_record s l j) ≡ true
            after zero p q = absurd (omega arith)
            after (suc j) p q = rest_none j (omega arith)

-- a run: of the records that it accepted, that of the last close; none where there was none
pub run_closing : (budget : ℕ) (l : List ℕ) (s : Bench) → sound_of s ≡ true
    → let e = run_of budget l s in
    LastClose e.accepted s l e.closing
    ⊎ ((e.closing ≡ None) × ((j : ℕ) → j < e.accepted → is_none (of_record s l j) ≡ true))
unfolding ended_of
run_closing budget l s o =
    let w = runs budget l s 0 None 0 in
    let z : 0 + w.k ≡ w.k = omega arith in
    rw (run_sound budget l s o, w.gives, z) (closing_to_lem w.k s l None)
