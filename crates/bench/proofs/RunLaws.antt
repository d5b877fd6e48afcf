-- Laws of run: the four turns of document 01's loop, that a run is that loop (`run_loop`) and that it is the fold of
-- single records: the bench after exactly the accepted ones, one by one.
-- By the budget: each turn takes one accepted record, which is 8 bytes, or gives the cause.
use Rattle.std.specs.Prelude.{◌≡◌, ◌≢◌, true, false, Option, None}
use Rattle.std.proofs.Math.Path.{refl, sym, ap}
use Rattle.std.proofs.Common.{◌∙◌, add-zero, length-take, length-drop, drop-drop}
use Rattle.std.proofs.Math.Logic.{⊎_elim}
use mathlib.Core.List.{List, [], ◌∷◌}
use Rattle.std.proofs.Math.Bool.{not}
use Prim.Native.Nat.{ℕ, zero, suc, ◌+◌, ◌-◌, ◌*◌, ◌≤◌, ◌<◌}
use native.Mathlib.Omega.{arith}
use Rattle.std.proofs.Math.ListN.{length, take, drop}
use Rattle.sets.specs.Truth.{same, select}
use Rattle.sets.specs.TruthLaws.{Is, on, off, is, select_on, select_off, same_mk, same_off, eq-or, check_off}
use Rattle.process.specs.declared.Closing.{Closing}
use Rattle.refusal.specs.Numbers.{refusal_number, refused}
use Rattle.refusal.proofs.NumberLaws.{refused_number, number_refused}
use Rattle.bench.specs.declared.Bench.{Bench}
use Rattle.bench.specs.declared.Cause.{Cause}
use Rattle.bench.specs.declared.Cause.TheVariants.{Empty, Spent, Refused}
use Rattle.bench.specs.Sound.{sound_of}
use Rattle.bench.specs.declared.Event.{Event}
use Rattle.bench.specs.declared.Ended.{Ended}
use Rattle.bench.specs.Record.{Form, v2}
use Rattle.bench.specs.Refuse.{refusal_by, refusal}
use Rattle.bench.specs.Effect.{effect}
use Rattle.bench.specs.RunLoop.{effect_by, effect_of}
use Rattle.bench.specs.Closings.{closing_at, last_of}
use Rattle.bench.specs.RunLoop.{ends_by, closing_in}
use Rattle.bench.specs.LastLaws.{last_none, none_last, last_last}
use Rattle.bench.proofs.OldRulesLaws.{taken, untaken}
use Rattle.bench.specs.Calls.{answer_of, event_in, accepted_one, after_events, closing_from, accepted_in}
use Rattle.bench.specs.Calls.{step_of}
use Rattle.bench.specs.Calls.{cause_of, run_by, run_of, after_record}
use Rattle.bench.specs.RunLoop.{after_by, ended_of, run_from}
use Rattle.bench.specs.OneByOne.{rest_at, record_at, steps}
use Rattle.bench.proofs.RefuseLaws.{refusal_high, accepted_effect, accepted}
use Rattle.bench.proofs.SoundLaws.{sound_step}

-- ---- the turns of the loop, at any budget, bytes, bench, numbers and closing so far
module _ (l : List ℕ) (s : Bench) (accepted : ℕ) (c : Option Closing) (taken : ℕ) where
  pub run_empty : (budget : ℕ) → length l ≡ 0
      → run_from v2 budget l s accepted c taken ≡ ended_of s accepted Empty c taken
  unfolding run_from refusal effect_of closing_in
  run_empty zero e = ap (λ x. ended_of s accepted x c taken) (select_on _ _ _ (same_mk _ _ e))
  run_empty (suc budget) e = select_on _ _ _ (same_mk _ _ e)

  pub run_spent : (budget : ℕ) → length l ≢ 0 → budget ≡ 0
      → run_from v2 budget l s accepted c taken ≡ ended_of s accepted Spent c taken
  unfolding run_from refusal effect_of closing_in
  run_spent zero h z = ap (λ x. ended_of s accepted x c taken) (select_off _ _ _ (same_off _ _ h))
  run_spent (suc budget) h z = absurd (omega arith)

  pub run-refused : (budget : ℕ) → length l ≢ 0 → budget ≢ 0 → refusal s (take 8 l) ≢ 0
      → run_from v2 budget l s accepted c taken
      ≡ ended_of s accepted (Refused (refused (refusal s (take 8 l)))) c taken
  unfolding run_from refusal effect_of closing_in
  run-refused zero h b r = absurd (b refl)
  run-refused (suc budget) h b r = select_off _ _ _ (same_off _ _ h) ∙ select_off _ _ _ (same_off _ _ r)

  pub run_accepted : (budget : ℕ) → length l ≢ 0 → budget ≢ 0 → refusal s (take 8 l) ≡ 0
      → run_from v2 budget l s accepted c taken
      ≡ run_from v2 (budget - 1) (drop 8 l) (effect_of s (take 8 l)) (accepted + 1) (last_of c (closing_in s (take 8 l)))
      (taken + 8)
  unfolding run_from refusal effect_of closing_in
  run_accepted zero h b r = absurd (b refl)
  run_accepted (suc budget) h b r =
      let e : suc budget - 1 ≡ budget = omega arith in
      rw e (select_off _ _ _ (same_off _ _ h) ∙ select_on _ _ _ (same_mk _ _ r))

pub dropped : (k : ℕ) (l : List ℕ) → drop (8 * k) (drop 8 l) ≡ drop (8 * suc k) l
dropped k l = let e : 8 + 8 * k ≡ 8 * suc k = omega arith in drop-drop (8 * k) 8 l ∙ rw e

-- ---- what is accepted: of one record nothing where it is refused, else its event; of a schedule from its head
module _ (f : Form) (s : Bench) (l : List ℕ) where
  pub none_accepted : refusal_by f s l ≢ 0 → accepted_one f s l ≡ []
  unfolding accepted_one
  none_accepted h = select_off _ _ _ (same_off _ 0 h)

  pub one_accepted : (z : refusal_by f s l ≡ 0) → accepted_one f s l ≡ (taken f s l z).event ∷ []
  unfolding accepted_one event_in
  one_accepted z = select_on _ _ _ (same_mk _ 0 z) ∙ ap event_in (taken f s l z).decoded

  pub one_bench : after_events s (accepted_one f s l) ≡ after_by f s l
  unfolding after_events
  one_bench = ⊎_elim yes no (eq-or (refusal_by f s l) 0)
    where
      yes : refusal_by f s l ≡ 0 → after_events s (accepted_one f s l) ≡ after_by f s l
      yes z =
          ap (after_events s) (one_accepted z) ∙ sym (taken f s l z).does ∙ sym (select_on _ _ _ (same_mk _ 0 z))

      no : refusal_by f s l ≢ 0 → after_events s (accepted_one f s l) ≡ after_by f s l
      no h = ap (after_events s) (none_accepted h) ∙ sym (select_off _ _ _ (same_off _ 0 h))

  pub one_closing : closing_from s (accepted_one f s l) ≡ ends_by f s l
  unfolding closing_from
  one_closing = ⊎_elim yes no (eq-or (refusal_by f s l) 0)
    where
      yes : refusal_by f s l ≡ 0 → closing_from s (accepted_one f s l) ≡ ends_by f s l
      yes z = ap (closing_from s) (one_accepted z) ∙ last_none _ ∙ sym (taken f s l z).ends

      no : refusal_by f s l ≢ 0 → closing_from s (accepted_one f s l) ≡ ends_by f s l
      no h = ap (closing_from s) (none_accepted h) ∙ sym (untaken f s l h)

module _ (f : Form) (s : Bench) (l : List ℕ) where
  pub in_refused : (budget : ℕ) → refusal_by f s (take 8 l) ≢ 0 → accepted_in f budget l s ≡ []
  unfolding accepted_in
  in_refused zero h = refl
  in_refused (suc budget) h = select_on _ _ _ (same_mk _ 0 (ap length (none_accepted f s (take 8 l) h)))

  pub in_from : (budget : ℕ) (e : Event) → accepted_one f s (take 8 l) ≡ e ∷ []
      → accepted_in f (suc budget) l s ≡ e ∷ accepted_in f budget (drop 8 l) (effect e s)
  unfolding accepted_in after_events
  in_from budget e q = rw q (select_off _ _ _ (same_off 1 0 (omega arith)))

  pub in_accepted : (budget : ℕ) (z : refusal_by f s (take 8 l) ≡ 0)
      → accepted_in f (suc budget) l s
      ≡ (taken f s (take 8 l) z).event ∷ accepted_in f budget (drop 8 l) (effect (taken f s (take 8 l) z).event s)
  in_accepted budget z = in_from budget _ (one_accepted f s (take 8 l) z)

-- ---- so one record is what its turn gives
pub step_is : (s : Bench) (l : List ℕ)
    → step_of s l ≡ record { answer = answer_of (refusal s l); closing = closing_in s l; bench = after_record s l }
unfolding step_of refusal closing_in after_record
step_is s l = rw (one_closing v2 s l)

-- ---- and a run is its loop: what comes of accepting the events h, with what was accepted, closed and taken before
abbrev comes_to : Form → ℕ → List ℕ → Bench → ℕ → Option Closing → ℕ → List Event → Ended
comes_to f budget l s a c k h =
    ended_of (after_events s h) (a + length h)
    (cause_of f (budget - length h) (drop (8 * length h) l) (after_events s h)) (last_of c (closing_from s h))
    (k + 8 * length h)

module _ (f : Form) where
  at_once : (budget : ℕ) (l : List ℕ) (s : Bench) (a : ℕ) (c : Option Closing) (k : ℕ)
      → comes_to f budget l s a c k [] ≡ ended_of s a (cause_of f budget l s) c k
  unfolding after_events closing_from
  at_once budget l s a c k =
      let p : budget - 0 ≡ budget = omega arith in
      let q : a + 0 ≡ a = omega arith in
      let r : k + 0 ≡ k = omega arith in
      rw (p, q, r, last_none c)

  further : (budget : ℕ) (l : List ℕ) (s : Bench) (a : ℕ) (c : Option Closing) (k : ℕ) (e : Event) (h : List Event)
      → comes_to f (suc budget) l s a c k (e ∷ h)
      ≡ comes_to f budget (drop 8 l) (effect e s) (a + 1) (last_of c (closing_at e s)) (k + 8) h
  unfolding after_events closing_from
  further budget l s a c k e h =
      let p : suc budget - suc (length h) ≡ budget - length h = omega arith in
      let q : a + suc (length h) ≡ a + 1 + length h = omega arith in
      let r : k + 8 * suc (length h) ≡ k + 8 + 8 * length h = omega arith in
      let u : drop (8 * suc (length h)) l ≡ drop (8 * length h) (drop 8 l) = sym (dropped (length h) l) in
      rw (p, q, r, u, last_last c (closing_at e s) (closing_from (effect e s) h))

  cause_empty : (left : ℕ) (l : List ℕ) (s : Bench) → sound_of s ≡ true → length l ≡ 0 → cause_of f left l s ≡ Empty
  unfolding cause_of
  cause_empty left l s o e = select_off _ _ _ (ap not o) ∙ select_on _ _ _ (same_mk _ 0 e)

  cause_spent : (l : List ℕ) (s : Bench) → sound_of s ≡ true → cause_of f 0 l s ≡ select (same (length l) 0) Empty Spent
  unfolding cause_of
  cause_spent l s o =
      select_off _ _ _ (ap not o) ∙ ap (select (same (length l) 0) Empty) (select_on _ _ _ (same_mk 0 0 refl))

  cause_refused : (left : ℕ) (l : List ℕ) (s : Bench) → sound_of s ≡ true → length l ≢ 0 → left ≢ 0
      → cause_of f left l s ≡ Refused (refused (refusal_by f s (take 8 l)))
  unfolding cause_of
  cause_refused left l s o h b =
      select_off _ _ _ (ap not o) ∙ select_off _ _ _ (same_off _ 0 h) ∙ select_off _ _ _ (same_off _ 0 b)

  damaged_two : (s : Bench) (r : List ℕ) → sound_of s ≡ false → refusal_by f s r ≡ 2
  unfolding refusal_by
  damaged_two s r d = check_off _ _ _ d

  cause_damaged : (left : ℕ) (l : List ℕ) (s : Bench) → sound_of s ≡ false → cause_of f left l s ≡ Refused (refused 2)
  unfolding cause_of
  cause_damaged left l s d = select_on _ _ _ (ap not d)

  no_bytes : (l : List ℕ) (s : Bench) → length l ≡ 0 → refusal_by f s (take 8 l) ≢ 0
  no_bytes l s e z = omega (arith, (taken f s (take 8 l) z).size, length-take 8 l)

  turn : (budget : ℕ) (l : List ℕ) (s : Bench) (a : ℕ) (c : Option Closing) (k : ℕ) → sound_of s ≡ true
      → ((s' : Bench) (c' : Option Closing) → sound_of s' ≡ true
      → run_from f budget (drop 8 l) s' (a + 1) c' (k + 8)
      ≡ comes_to f budget (drop 8 l) s' (a + 1) c' (k + 8) (accepted_in f budget (drop 8 l) s'))
      → run_from f (suc budget) l s a c k ≡ comes_to f (suc budget) l s a c k (accepted_in f (suc budget) l s)
  unfolding run_from
  turn budget l s a c k o ih = ⊎_elim empty some (eq-or (length l) 0)
    where
      r : List ℕ
      r = take 8 l

      stopped : (x : Cause) → x ≡ cause_of f (suc budget) l s → refusal_by f s r ≢ 0
          → ended_of s a x c k ≡ comes_to f (suc budget) l s a c k (accepted_in f (suc budget) l s)
      stopped x e h =
          ap (λ y. ended_of s a y c k) e ∙ sym (at_once (suc budget) l s a c k)
          ∙ ap (comes_to f (suc budget) l s a c k) (sym (in_refused f s l (suc budget) h))

      empty : length l ≡ 0
          → run_from f (suc budget) l s a c k
          ≡ comes_to f (suc budget) l s a c k (accepted_in f (suc budget) l s)
      empty e =
          select_on _ _ _ (same_mk _ 0 e)
          ∙ stopped Empty (sym (cause_empty (suc budget) l s o e)) (no_bytes l s e)

      some : length l ≢ 0
          → run_from f (suc budget) l s a c k
          ≡ comes_to f (suc budget) l s a c k (accepted_in f (suc budget) l s)
      some h = select_off _ _ _ (same_off _ 0 h) ∙ ⊎_elim yes no (eq-or (refusal_by f s r) 0)
        where
          yes : refusal_by f s r ≡ 0
              → select (same (refusal_by f s r) 0)
              (run_from f budget (drop 8 l) (effect_by f s r) (a + 1) (last_of c (ends_by f s r)) (k + 8))
              (ended_of s a (Refused (refused (refusal_by f s r))) c k)
              ≡ comes_to f (suc budget) l s a c k (accepted_in f (suc budget) l s)
          yes z =
              let A = taken f s r z in
              select_on _ _ _ (same_mk _ 0 z)
              ∙ rw (A.does, A.ends)
              (ih (effect A.event s) (last_of c (closing_at A.event s)) A.sound_after)
              ∙ sym (further budget l s a c k A.event (accepted_in f budget (drop 8 l) (effect A.event s)))
              ∙ ap (comes_to f (suc budget) l s a c k) (sym (in_accepted f s l budget z))

          no : refusal_by f s r ≢ 0
              → select (same (refusal_by f s r) 0)
              (run_from f budget (drop 8 l) (effect_by f s r) (a + 1) (last_of c (ends_by f s r)) (k + 8))
              (ended_of s a (Refused (refused (refusal_by f s r))) c k)
              ≡ comes_to f (suc budget) l s a c k (accepted_in f (suc budget) l s)
          no w =
              select_off _ _ _ (same_off _ 0 w)
              ∙ stopped _ (sym (cause_refused (suc budget) l s o h (omega arith))) w

  loop_is : (budget : ℕ) (l : List ℕ) (s : Bench) (a : ℕ) (c : Option Closing) (k : ℕ) → sound_of s ≡ true
      → run_from f budget l s a c k ≡ comes_to f budget l s a c k (accepted_in f budget l s)
  unfolding run_from accepted_in
  loop_is zero l s a c k o =
      ap (λ x. ended_of s a x c k) (sym (cause_spent l s o)) ∙ sym (at_once 0 l s a c k)
  loop_is (suc budget) l s a c k o = turn budget l s a c k o (λ s' c'. loop_is budget (drop 8 l) s' (a + 1) c' (k + 8))

  -- a sound bench is run from nothing taken; a damaged one is refused first
  pub loop_sound : (budget : ℕ) (l : List ℕ) (s : Bench) → sound_of s ≡ true
      → run_by f budget l s ≡ run_from f budget l s 0 None 0
  unfolding ended_of
  loop_sound budget l s o =
      let h = accepted_in f budget l s in
      let p : 0 + length h ≡ length h = omega arith in
      let q : 0 + 8 * length h ≡ 8 * length h = omega arith in
      sym (loop_is budget l s 0 None 0 o ∙ rw (none_last (closing_from s h), p, q))

  pub loop_damaged : (budget : ℕ) (l : List ℕ) (s : Bench) → sound_of s ≡ false
      → run_by f budget l s ≡ ended_of s 0 (Refused (refused 2)) None 0
  unfolding ended_of after_events closing_from
  loop_damaged budget l s d =
      rw (in_refused f s l budget (λ z. omega (arith, damaged_two s (take 8 l) d, z))) (rw (cause_damaged _ l s d))

  -- so a run is document 01's loop: a damaged bench is refused first, by 2, with nothing stepped; else it steps until
  -- the schedule is empty, the budget spent or a record refused, tested in that order
  pub run_loop : (budget : ℕ) (l : List ℕ) (s : Bench)
      → run_by f budget l s
      ≡ select (sound_of s) (run_from f budget l s 0 None 0) (ended_of s 0 (Refused (refused 2)) None 0)
  run_loop budget l s = go (is (sound_of s))
    where
      go : Is (sound_of s)
          → run_by f budget l s
          ≡ select (sound_of s) (run_from f budget l s 0 None 0) (ended_of s 0 (Refused (refused 2)) None 0)
      go (on o) = loop_sound budget l s o ∙ sym (select_on _ _ _ o)
      go (off d) = loop_damaged budget l s d ∙ sym (select_off _ _ _ d)

pub run_damaged : (budget : ℕ) (l : List ℕ) (s : Bench) → sound_of s ≡ false
    → run_of budget l s ≡ ended_of s 0 (Refused (refused 2)) None 0
unfolding run_of
run_damaged budget l s d = loop_damaged v2 budget l s d

pub run_sound : (budget : ℕ) (l : List ℕ) (s : Bench) → sound_of s ≡ true
    → run_of budget l s ≡ run_from v2 budget l s 0 None 0
unfolding run_of
run_sound budget l s h = loop_sound v2 budget l s h

-- ---- the fold of single records
-- why a run ended, with the budget left, the bytes left and the bench
unfoldable pub Why : ℕ → List ℕ → Bench → Cause → Type 0
Why left rest s Empty = length rest ≡ 0
Why left rest s Spent = (length rest ≢ 0) × (left ≡ 0)
Why left rest s (Refused r) = (length rest ≢ 0) × (left ≢ 0) × (refusal s (take 8 rest) ≡ refusal_number r) × (refusal_number r ≢ 0)

-- the cause is the one that the three tests give in their order
unfoldable pub cause_at : ℕ → List ℕ → Bench → Cause
cause_at left rest s =
    select (same (length rest) 0) Empty (select (same left 0) Spent (Refused (refused (refusal s (take 8 rest)))))

pub why_is : (left : ℕ) (rest : List ℕ) (s : Bench) (c : Cause) → Why left rest s c → c ≡ cause_at left rest s
unfolding Why cause_at
why_is left rest s Empty w = sym (select_on _ _ _ (same_mk _ _ w))
why_is left rest s Spent w = sym (select_off _ _ _ (same_off _ _ w.0) ∙ select_on _ _ _ (same_mk _ _ w.1))
why_is left rest s (Refused r) w =
    ap Refused (sym (refused_number r)) ∙ ap (λ k. Refused (refused k)) (sym w.2)
    ∙ sym (select_off _ _ _ (same_off _ _ w.0) ∙ select_off _ _ _ (same_off _ _ w.1))

pub rest_next : (k : ℕ) (l : List ℕ) → rest_at k (drop 8 l) ≡ rest_at (suc k) l
unfolding rest_at
rest_next k l = dropped k l

-- the closing after the first k records, with c before them
unfoldable pub closing_to : ℕ → Bench → List ℕ → Option Closing → Option Closing
closing_to zero s l c = c
closing_to (suc k) s l c =
    closing_to k (after_record s (take 8 l)) (drop 8 l) (last_of c (closing_in s (take 8 l)))

-- run gives what k records give one by one, all of them accepted, with the cause of the place where it stopped
pub record Runs (budget : ℕ) (l : List ℕ) (s : Bench) (accepted : ℕ) (c : Option Closing) (taken : ℕ) : Type 0 where
  pub k : ℕ
  pub cause : Cause
  pub gives : run_from v2 budget l s accepted c taken
      ≡ ended_of (steps k s l) (accepted + k) cause (closing_to k s l c) (taken + 8 * k)
  pub within_budget : k ≤ budget
  pub within_bytes : 8 * k ≤ length l
  pub each_accepted : (i : ℕ) → i < k → refusal (steps i s l) (record_at i l) ≡ 0
  pub why : Why (budget - k) (rest_at k l) (steps k s l) cause

-- it stops at once, with a cause
stops : (budget : ℕ) (l : List ℕ) (s : Bench) (a : ℕ) (c : Option Closing) (t : ℕ) (x : Cause)
    → run_from v2 budget l s a c t ≡ ended_of s a x c t
    → Why budget l s x
    → Runs budget l s a c t
unfolding steps rest_at closing_to
stops budget l s a c t x e w =
    record {
      k = 0;
      cause = x;
      gives = e ∙ cc (add-zero a, add-zero t);
      within_budget = omega arith;
      within_bytes = omega arith;
      each_accepted = λ i h. absurd (omega arith);
      why = let z : budget - 0 ≡ budget = omega arith in rw z w;
    }

-- it takes one record more
goes : (budget : ℕ) (l : List ℕ) (s : Bench) (a : ℕ) (c : Option Closing) (t : ℕ) → length l ≢ 0 → refusal s (take 8 l) ≡ 0
    → Runs budget (drop 8 l) (after_record s (take 8 l)) (a + 1) (last_of c (closing_in s (take 8 l))) (t + 8)
    → Runs (suc budget) l s a c t
unfolding steps record_at rest_at closing_to
goes budget l s a c t h z w =
    record {
      k = suc w.k;
      cause = w.cause;
      gives =
          let p : suc budget - 1 ≡ budget = omega arith in
          let q : a + suc w.k ≡ a + 1 + w.k = omega arith in
          let r : t + 8 * suc w.k ≡ t + 8 + 8 * w.k = omega arith in
          run_accepted l s a c t (suc budget) h (omega arith) z
          ∙ rw (p, ← accepted_effect s (take 8 l) z, q, r) w.gives;
      within_budget = omega (arith, w.within_budget);
      within_bytes = omega (arith, w.within_bytes, length-drop 8 l, length-take 8 l, (accepted s (take 8 l) z).size);
      each_accepted = each;
      why =
          let p : suc budget - suc w.k ≡ budget - w.k = omega arith in
          rw (p, ← rest_next w.k l) w.why;
    }
  where
    each : (i : ℕ) → i < suc w.k → refusal (steps i s l) (record_at i l) ≡ 0
    each zero b = z
    each (suc i) b = rw (← rest_next i l) (w.each_accepted i (omega arith))

-- a refusal is the one with its number
number_of_refused : (s : Bench) (l : List ℕ) → refusal s l ≢ 0 → refusal_number (refused (refusal s l)) ≡ refusal s l
number_of_refused s l r = number_refused (refusal s l) (omega (arith, r)) (refusal_high s l)

pub runs : (budget : ℕ) (l : List ℕ) (s : Bench) (accepted : ℕ) (c : Option Closing) (taken : ℕ)
    → Runs budget l s accepted c taken
unfolding Why
runs zero l s a c t =
    ⊎_elim (λ e. stops zero l s a c t Empty (run_empty l s a c t zero e) e)
    (λ h. stops zero l s a c t Spent (run_spent l s a c t zero h refl) (h, refl)) (eq-or (length l) 0)
runs (suc budget) l s a c t =
    ⊎_elim (λ e. stops (suc budget) l s a c t Empty (run_empty l s a c t (suc budget) e) e)
    (λ h.
    ⊎_elim (λ z. goes budget l s a c t h z
    (runs budget (drop 8 l) (after_record s (take 8 l)) (a + 1) (last_of c (closing_in s (take 8 l))) (t + 8)))
    (λ r. stops (suc budget) l s a c t (Refused (refused (refusal s (take 8 l))))
    (run-refused l s a c t (suc budget) h (omega arith) r) (
      h,
      omega arith,
      sym (number_of_refused s (take 8 l) r),
      λ z. r (sym (number_of_refused s (take 8 l) r) ∙ z),
    ))
    (eq-or (refusal s (take 8 l)) 0)) (eq-or (length l) 0)

-- a run of a sound bench leaves it sound
pub sound_steps : (k : ℕ) (s : Bench) (l : List ℕ) → sound_of s ≡ true → sound_of (steps k s l) ≡ true
unfolding steps
sound_steps zero s l h = h
sound_steps (suc k) s l h = sound_steps k (after_record s (take 8 l)) (drop 8 l) (sound_step s (take 8 l) h)
