-- Laws of the lines: records taken by runs give the lines of the records one by one.
-- A run's accepted records have the answer 0, the one that it refuses has the cause's number and leaves the bench as
-- it is, and the next run begins after it.
use Rattle.std.specs.Prelude.{◌≡◌, ◌≢◌, true, Option, None}
use Rattle.std.proofs.Math.Path.{refl, sym, ap}
use Rattle.std.proofs.Common.{ap₂, ◌∙◌, ◌^◌, add-zero, drop-drop}
use Rattle.std.specs.Prelude.{Option}
use Rattle.std.specs.Io.KnownBytes.{Consumes, Appends, IsAtEnd}
use Rattle.std.proofs.KnownBytes.{Consumes-nil, Consumes-trans, Appends-nil, Appends-trans}
use mathlib.Core.List.{List, [], ◌∷◌, ◌++◌, append_assoc, append-nil}
use Prim.Native.Nat.{ℕ, zero, suc, ◌+◌, ◌-◌, ◌*◌, ◌/◌, ◌≤◌, ◌<◌}
use native.Mathlib.Omega.{arith}
use Rattle.std.proofs.Math.ListN.{length, take, drop, length-append, length-drop}
use Rattle.std.proofs.Math.Seq.{drop_at, take_all}
use Rattle.std.proofs.lemmas.List.{take-append-le, drop-append-le}
use Rattle.sets.specs.TruthLaws.{Is, on, off, is}
use Rattle.process.specs.declared.Closing.{Closing}
use Rattle.refusal.specs.declared.Refusal.{Refusal}
use Rattle.refusal.specs.Numbers.{refusal_number}
use Rattle.bench.specs.declared.Bench.{Bench}
use Rattle.bench.specs.declared.Ended.{Ended}
use Rattle.bench.specs.declared.Cause.{Cause}
use Rattle.bench.specs.declared.Cause.TheVariants.{Empty, Spent, Refused}
use Rattle.bench.specs.Sound.{sound_of}
use Rattle.bench.specs.Refuse.{refusal}
use Rattle.bench.proofs.RefuseLaws.{refusal_damaged, refused-keeps}
use Rattle.bench.specs.Calls.{run_of, after_record}
use Rattle.bench.specs.RunLoop.{ended_of, run_from}
use Rattle.sets.specs.Lists.{joined}
use Rattle.bench.specs.Record.{v2}
use Rattle.bench.proofs.RunLaws.{run_damaged, run_sound, run-refused, Why, closing_to, Runs, runs, sound_steps}
use Rattle.bench.specs.OneByOne.{rest_at, record_at, steps}
use Rattle.text.specs.Text.{line_of, processes_text}
use Rattle.simulate.specs.Output.{records_in, answer_at, line_at, lines_of, after_all}

-- ---- joined lists
module _ (f : ℕ → List ℕ) where
  pub joined-add : (i k : ℕ) → joined (i + k) f ≡ joined i f ++ joined k (λ j. f (i + j))
  unfolding joined
  joined-add i zero = rw (add-zero i) (sym (append-nil (joined i f)))
  joined-add i (suc k) =
      let e : i + suc k ≡ suc (i + k) = omega arith in
      rw (e, joined-add i k) (append_assoc (joined i f) (joined k (λ j. f (i + j))) (f (i + k)))

pub joined_same : (f g : ℕ → List ℕ) (k : ℕ) → ((j : ℕ) → j < k → f j ≡ g j) → joined k f ≡ joined k g
unfolding joined
joined_same f g zero h = refl
joined_same f g (suc k) h = rw (joined_same f g k (λ j b. h j (omega arith)), h k (omega arith))

-- ---- the records after the first i
pub rest_add : (i j : ℕ) (l : List ℕ) → rest_at j (rest_at i l) ≡ rest_at (i + j) l
unfolding rest_at
rest_add i j l = let e : 8 * i + 8 * j ≡ 8 * (i + j) = omega arith in drop-drop (8 * j) (8 * i) l ∙ rw e

pub steps-add : (i j : ℕ) (s : Bench) (l : List ℕ) → steps (i + j) s l ≡ steps j (steps i s l) (rest_at i l)
unfolding steps rest_at
steps-add zero j s l = let e : 0 + j ≡ j = omega arith in rw e
steps-add (suc i) j s l =
    let e : suc i + j ≡ suc (i + j) = omega arith in
    let d : 8 + 8 * i ≡ 8 * suc i = omega arith in
    rw e (steps-add i j (after_record s (take 8 l)) (drop 8 l) ∙ rw (drop-drop (8 * i) 8 l, d))

pub answer_add : (i j : ℕ) (s : Bench) (l : List ℕ)
    → answer_at s l (i + j) ≡ refusal (steps j (steps i s l) (rest_at i l)) (record_at j (rest_at i l))
unfolding answer_at record_at
answer_add i j s l = rw (steps-add i j s l, rest_add i j l)

-- what stands after the first i records does not matter to them
pub steps_front : (i : ℕ) (s : Bench) (l m : List ℕ) → 8 * i ≤ length l → steps i s (l ++ m) ≡ steps i s l
unfolding steps
steps_front zero s l m h = refl
steps_front (suc i) s l m h =
    let f : 8 ≤ length l = omega arith in
    rw (take-append-le 8 l m f, drop-append-le 8 l m f)
    (steps_front i (after_record s (take 8 l)) (drop 8 l) m (omega (arith, length-drop 8 l)))

pub answer_front : (i : ℕ) (s : Bench) (l m : List ℕ) → 8 * (i + 1) ≤ length l → answer_at s (l ++ m) i ≡ answer_at s l i
unfolding answer_at record_at rest_at
answer_front i s l m h =
    let d : drop (8 * i) (l ++ m) ≡ drop (8 * i) l ++ m = drop-append-le (8 * i) l m (omega arith) in
    let t : take 8 (drop (8 * i) l ++ m) ≡ take 8 (drop (8 * i) l) =
    take-append-le 8 (drop (8 * i) l) m (omega (arith, length-drop (8 * i) l)) in
    rw (steps_front i s l m (omega arith), d, t)

rest_length : (i : ℕ) (l : List ℕ) → length (rest_at i l) ≡ length l - 8 * i
unfolding rest_at
rest_length i l = length-drop (8 * i) l

-- ---- a run of some records with some budget, damaged or not
run_some : (budget : ℕ) (l : List ℕ) (s : Bench) → length l ≢ 0 → budget ≢ 0
    → run_of budget l s ≡ run_from v2 budget l s 0 None 0
run_some budget l s h b = go (is (sound_of s))
  where
    go : Is (sound_of s) → run_of budget l s ≡ run_from v2 budget l s 0 None 0
    go (on e) = run_sound budget l s e
    go (off e) =
        let two = refusal_damaged s (take 8 l) e in
        run_damaged budget l s e ∙ sym (run-refused l s 0 None 0 budget h b (λ z. omega arith) ∙ rw two)

-- the line of what a run refused, record k, and how many that is
unfoldable pub cause_text : ℕ → Cause → List ℕ
cause_text k Empty = []
cause_text k Spent = []
cause_text k (Refused r) = line_of k (refusal_number r)

unfoldable pub refused_in : Cause → ℕ
refused_in Empty = 0
refused_in Spent = 0
refused_in (Refused r) = 1

-- neither, where it refused none
pub none_refused : (c : Cause) → ((r : Refusal) → c ≡ Refused r → ⊥)
    → (refused_in c ≡ 0) × ((k : ℕ) → cause_text k c ≡ [])
unfolding refused_in cause_text
none_refused Empty h = (refl, λ k. refl)
none_refused Spent h = (refl, λ k. refl)
none_refused (Refused r) h = absurd (h r refl)

-- the lines of accepted records
unfoldable pub accepted_text : ℕ → ℕ → List ℕ
accepted_text first k = joined k (λ j. line_of (first + j) 0)

-- ---- one run, from record i of l on
pub record Taken (b : Bench) (first : ℕ) (l : List ℕ) (i : ℕ) (e : Ended) : Type 0 where
  pub fits : i + (e.accepted + refused_in e.cause) ≤ records_in l
  pub some : 1 ≤ e.accepted + refused_in e.cause
  pub state : e.bench ≡ steps (i + (e.accepted + refused_in e.cause)) b l
  pub text :
      joined (i + (e.accepted + refused_in e.cause)) (line_at b first l)
      ≡ joined i (line_at b first l)
      ++ (accepted_text (first + i) e.accepted ++ cause_text (first + i + e.accepted) e.cause)

module _ (b : Bench) (first : ℕ) (l : List ℕ) (i : ℕ) where
  -- k more that are accepted
  accepted_lines : (k : ℕ)
      → ((j : ℕ) → j < k → refusal (steps j (steps i b l) (rest_at i l)) (record_at j (rest_at i l)) ≡ 0)
      → joined (i + k) (line_at b first l) ≡ joined i (line_at b first l) ++ accepted_text (first + i) k
  unfolding accepted_text line_at
  accepted_lines k h =
      joined-add (line_at b first l) i k
      ∙ ap (λ (t : List ℕ). joined i (line_at b first l) ++ t)
      (joined_same (λ j. line_at b first l (i + j)) (λ j. line_of (first + i + j) 0) k
      (λ j g. line j (answer_add i j b l ∙ h j g)))
    where
      line : (j : ℕ) → answer_at b l (i + j) ≡ 0 → line_at b first l (i + j) ≡ line_of (first + i + j) 0
      line j z = let e : first + (i + j) ≡ first + i + j = omega arith in rw (z, e)

  -- no record is refused after them
  module _ (k t : ℕ) (x : Option Closing)
      (h : (j : ℕ) → j < k → refusal (steps j (steps i b l) (rest_at i l)) (record_at j (rest_at i l)) ≡ 0)
      (w : 8 * k ≤ length (rest_at i l)) (m : i < records_in l) where
    taken_all : (c : Cause) → refused_in c ≡ 0 → ((n : ℕ) → cause_text n c ≡ []) → 1 ≤ k
        → Taken b first l i (ended_of (steps k (steps i b l) (rest_at i l)) k c x t)
    unfolding ended_of records_in
    taken_all c z e g =
        let y : i + (k + refused_in c) ≡ i + k = omega arith in
        record {
          fits = omega (arith, rest_length i l);
          some = omega arith;
          state = rw y (sym (steps-add i k b l));
          text =
              rw (y, e (first + i + k))
              (accepted_lines k h
              ∙ ap (λ (t : List ℕ). joined i (line_at b first l) ++ t) (sym (append-nil (accepted_text (first + i) k))));
        }

    -- the next one is
    taken_refused : (r : Refusal) → length (rest_at k (rest_at i l)) ≢ 0
        → refusal (steps k (steps i b l) (rest_at i l)) (take 8 (rest_at k (rest_at i l))) ≡ refusal_number r
        → refusal_number r ≢ 0
        → Taken b first l i (ended_of (steps k (steps i b l) (rest_at i l)) k (Refused r) x t)
    unfolding ended_of records_in refused_in cause_text joined line_at record_at steps
    taken_refused r g e z =
        let y : i + (k + 1) ≡ suc (i + k) = omega arith in
        let p : first + (i + k) ≡ first + i + k = omega arith in
        let keeps =
        refused-keeps (steps k (steps i b l) (rest_at i l)) (take 8 (rest_at k (rest_at i l))) (λ q. z (sym e ∙ q)) in
        record {
          fits = omega (arith, rest_length i l, rest_length k (rest_at i l));
          some = omega arith;
          state = sym (steps-add i (k + 1) b l ∙ steps-add k 1 (steps i b l) (rest_at i l) ∙ keeps);
          text =
              rw (y, answer_add i k b l, e, p, accepted_lines k h)
              (append_assoc (joined i (line_at b first l)) (accepted_text (first + i) k) (line_of (first + i + k) (refusal_number r)));
        }

  -- what a run gives from there
  pub taken : (budget : ℕ) → 0 < budget → i < records_in l → Taken b first l i (run_of budget (rest_at i l) (steps i b l))
  unfolding records_in Why refused_in cause_text
  taken budget o m =
      let some : length (rest_at i l) ≢ 0 = λ z. omega (arith, rest_length i l) in
      let w = runs budget (rest_at i l) (steps i b l) 0 None 0 in
      let z : 0 + w.k ≡ w.k = omega arith in
      rw (run_some budget (rest_at i l) (steps i b l) some (λ z. omega arith), w.gives, z)
      (go some w w.cause w.why)
    where
      go : length (rest_at i l) ≢ 0 → (w : Runs budget (rest_at i l) (steps i b l) 0 None 0) (c : Cause)
          → Why (budget - w.k) (rest_at w.k (rest_at i l)) (steps w.k (steps i b l) (rest_at i l)) c
          → Taken b first l i (ended_of (steps w.k (steps i b l) (rest_at i l)) w.k c
          (closing_to w.k (steps i b l) (rest_at i l) None) (0 + 8 * w.k))
      go some w Empty y =
          taken_all w.k _ _ w.each_accepted w.within_bytes m Empty refl (λ n. refl)
          (omega (arith, rest_length w.k (rest_at i l), rest_length i l))
      go some w Spent y =
          taken_all w.k _ _ w.each_accepted w.within_bytes m Spent refl (λ n. refl) (omega arith)
      go some w (Refused r) y =
          taken_refused w.k _ _ w.each_accepted w.within_bytes m r y.0 y.2 y.3

  -- the same, as the code takes the rest of the records
  pub taken_part : (budget : ℕ) (s : Bench) (e : Ended) → 0 < budget → i < records_in l → s ≡ steps i b l
      → e ≡ run_of budget (take (length l - i * 8) (drop (i * 8) l)) s → Taken b first l i e
  unfolding rest_at
  taken_part budget s e o m p q =
      let z : i * 8 ≡ 8 * i = omega arith in
      let w : take (length l - 8 * i) (drop (8 * i) l) ≡ drop (8 * i) l =
      take_all (length l - 8 * i) (drop (8 * i) l) (omega (arith, length-drop (8 * i) l)) in
      rw (q, p, z, w) (taken budget o m)

-- ---- whole records, and then others: the lines and the bench of all of them are those of
-- the second part after the first
module _ (b : Bench) (first k : ℕ) (l m : List ℕ) (whole : length l ≡ 8 * k) where
  records_append : records_in (l ++ m) ≡ k + records_in m
  unfolding records_in
  records_append = omega (arith, length-append l m)

  records_whole : records_in l ≡ k
  unfolding records_in
  records_whole = omega arith

  rest_append : rest_at k (l ++ m) ≡ m
  unfolding rest_at
  rest_append = drop_at l m (8 * k) whole

  after_whole : steps k b (l ++ m) ≡ after_all b l
  unfolding after_all
  after_whole = rw records_whole (steps_front k b l m (omega arith))

  pub after-append : after_all b (l ++ m) ≡ after_all (after_all b l) m
  unfolding after_all
  after-append =
      rw records_append (steps-add k (records_in m) b (l ++ m))
      ∙ ap (λ (s : Bench). steps (records_in m) s (rest_at k (l ++ m))) after_whole
      ∙ rw rest_append

  pub lines_append : lines_of b first (l ++ m) ≡ lines_of b first l ++ lines_of (after_all b l) (first + k) m
  unfolding lines_of line_at answer_at
  lines_append =
      rw (records_append, records_whole, joined-add (line_at b first (l ++ m)) k (records_in m))
      (ap₂ ◌++◌ (joined_same (line_at b first (l ++ m)) (line_at b first l) k front)
      (joined_same (λ j. line_at b first (l ++ m) (k + j)) (line_at (after_all b l) (first + k) m) (records_in m)
      (λ j h. back j)))
    where
      front : (i : ℕ) → i < k → line_at b first (l ++ m) i ≡ line_at b first l i
      front i h = ap (line_of (first + i)) (answer_front i b l m (omega arith))

      back : (j : ℕ) → line_at b first (l ++ m) (k + j) ≡ line_at (after_all b l) (first + k) m j
      back j =
          let e : first + (k + j) ≡ first + k + j = omega arith in
          rw e (ap (line_of (first + k + j)) (answer_add k j b (l ++ m) ∙ rw (after_whole, rest_append)))

-- ---- a bench after some bytes, read in parts
pub record Reached (b s : Bench) : Type 0 where
  pub bytes : List ℕ
  pub state : s ≡ after_all b bytes

pub reached_sound : (b s : Bench) → Reached b s → sound_of b ≡ true → sound_of s ≡ true
unfolding after_all
reached_sound b s r h = rw r.state (sound_steps (records_in r.bytes) b r.bytes h)

-- a reader's bytes before and after, and a writer's: all the bytes, of which there are fewer than so many that no run
-- reads them, and the lines of their records
pub record Answered (b s : Bench) (before after held written : Option (List ℕ)) : Type 0 where
  pub bytes : List ℕ
  pub read : Consumes before after bytes
  pub all : length bytes < 2 ^ 66 → IsAtEnd after
  pub state : s ≡ after_all b bytes
  pub lines : Appends held written (lines_of b 1 bytes)

pub answered_reached : {b s : Bench} {before after held written : Option (List ℕ)} → Answered b s before after held written
    → Reached b s
answered_reached a = record { bytes = a.bytes; state = a.state }

-- all the parts so far are whole: each has 8192 bytes, which are 1024 records
pub record Carried (b s : Bench) (before after held written : Option (List ℕ)) (parts : ℕ) : Type 0 where
  pub bytes : List ℕ
  pub whole : length bytes ≡ 8192 * parts
  pub read : Consumes before after bytes
  pub state : s ≡ after_all b bytes
  pub lines : Appends held written (lines_of b 1 bytes)

pub carried_none : (b : Bench) (before held : Option (List ℕ)) → Carried b b before before held held 0
unfolding after_all records_in steps lines_of joined
carried_none b before held =
    record { bytes = []; whole = refl; read = Consumes-nil before; state = refl; lines = Appends-nil held }

module _ {b s : Bench} {before after held written : Option (List ℕ)} {parts : ℕ}
    (c : Carried b s before after held written parts) (part : List ℕ) (s' : Bench) (after' written' : Option (List ℕ))
    (read : Consumes after after' part) (state : s' ≡ after_all s part)
    (lines : Appends written written' (lines_of s (parts * 1024 + 1) part)) where
  whole_records : length c.bytes ≡ 8 * (1024 * parts)
  whole_records = omega (arith, c.whole)

  read_next : Consumes before after' (c.bytes ++ part)
  read_next = Consumes-trans before after after' c.bytes part c.read read

  state_next : s' ≡ after_all b (c.bytes ++ part)
  state_next =
      state ∙ ap (λ (s : Bench). after_all s part) c.state
      ∙ sym (after-append b 1 (1024 * parts) c.bytes part whole_records)

  lines_next : Appends held written' (lines_of b 1 (c.bytes ++ part))
  lines_next =
      let n : 1 + 1024 * parts ≡ parts * 1024 + 1 = omega arith in
      rw (lines_append b 1 (1024 * parts) c.bytes part whole_records, n, ← c.state)
      (Appends-trans held written written' _ _ c.lines lines)

  pub carried_next : length part ≡ 8192 → Carried b s' before after' held written' (parts + 1)
  carried_next h =
      record {
        bytes = c.bytes ++ part;
        whole = omega (arith, c.whole, length-append c.bytes part);
        read = read_next;
        state = state_next;
        lines = lines_next;
      }

  pub carried_last : IsAtEnd after' → Answered b s' before after' held written'
  carried_last end =
      record { bytes = c.bytes ++ part; read = read_next; all = λ h. end; state = state_next; lines = lines_next }

-- ---- the input in parts, of whole records but for the last: what is written part by part,
-- and the processes then, is what the whole gives
unfoldable pub in_parts : Bench → ℕ → List (List ℕ) → List ℕ
in_parts b first [] = processes_text b
in_parts b first (p ∷ ps) = lines_of b first p ++ in_parts (after_all b p) (first + length p / 8) ps

unfoldable pub together : List (List ℕ) → List ℕ
together [] = []
together (p ∷ ps) = p ++ together ps

unfoldable pub Whole : List (List ℕ) → Type 0
Whole [] = Unit
Whole (p ∷ []) = Unit
Whole (p ∷ q ∷ ps) = (length p ≡ 8 * (length p / 8)) × Whole (q ∷ ps)

pub in_parts_lem : (b : Bench) (first : ℕ) (ps : List (List ℕ)) → Whole ps
    → in_parts b first ps ≡ lines_of b first (together ps) ++ processes_text (after_all b (together ps))
unfolding in_parts together Whole lines_of after_all records_in joined steps
in_parts_lem b first [] h = refl
in_parts_lem b first (p ∷ []) h = rw (append-nil p)
in_parts_lem b first (p ∷ q ∷ ps) h =
    let rest = together (q ∷ ps) in
    rw (
      in_parts_lem (after_all b p) (first + length p / 8) (q ∷ ps) h.1,
      lines_append b first (length p / 8) p rest h.0,
      after-append b first (length p / 8) p rest h.0,
    )
    (sym (append_assoc (lines_of b first p) (lines_of (after_all b p) (first + length p / 8) rest)
    (processes_text (after_all (after_all b p) rest))))

-- ---- the bench alone, after whole records of any number: the next one has the number `first`
pub record CarriedTo (b s : Bench) (first : ℕ) : Type 0 where
  pub bytes : List ℕ
  pub whole : length bytes + 8 ≡ 8 * first
  pub state : s ≡ after_all b bytes

pub carried_to_none : (b : Bench) → CarriedTo b b 1
unfolding after_all records_in steps
carried_to_none b = record { bytes = []; whole = refl; state = refl }

module _ {b s : Bench} {first : ℕ} (c : CarriedTo b s first) (part : List ℕ) (s' : Bench)
    (e : s' ≡ after_all s part) where
  carried_to_state : s' ≡ after_all b (c.bytes ++ part)
  carried_to_state =
      e ∙ ap (λ (s : Bench). after_all s part) c.state
      ∙ sym (after-append b first (first - 1) c.bytes part (omega (arith, c.whole)))

  pub carried_reached : Reached b s'
  carried_reached = record { bytes = c.bytes ++ part; state = carried_to_state }

  pub carried_to_next : length part ≡ 8192 → CarriedTo b s' (first + 1024)
  carried_to_next l =
      record {
        bytes = c.bytes ++ part;
        whole = omega (arith, c.whole, l, length-append c.bytes part);
        state = carried_to_state;
      }
