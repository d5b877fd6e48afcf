-- The rules before request C-15 beside those of now. A word compared as one number, or as portions and diet portions,
-- is compared the same (`same_words`), so that an event does the same by both; they differ in refusal 15 alone.
-- And by either an accepted record is that of an event in range that is let through, with its effect.
use Rattle.std.specs.Prelude.{◌≡◌, refl, ◌≢◌, List, Bool, true, false, not, ℕ, ◌+◌, length, Some, None, Result, Ok, Err, None as absent}
use Rattle.std.proofs.Math.Path.{sym, ap, ap₂, fun_ext}
use Rattle.std.proofs.Common.{◌∙◌, arith}
use Rattle.sets.specs.Lists.{every}
use Rattle.sets.specs.Set.{has}
use Rattle.sets.specs.Truth.{◌and◌, same, select, check}
use Rattle.sets.specs.TruthLaws.{select_on, select_off, check_on, check-zero, same_mk, same_off}
use Rattle.global_data.specs.declared.GlobalData.{GlobalData}
use Rattle.global_data.specs.GlobalData.{entry_by, entry_of, same_entry, same_to, all_same}
use Rattle.global_data.specs.WordLaws.{same_words}
use Rattle.process.specs.declared.Process.{Process}
use Rattle.process.specs.declared.Closing.TheVariants.{NextRound, Agreed, LastRound}
use Rattle.process.specs.Steps.{next_of, peers_of, filled_of, agreed_of, closing_of, decides_of, opens_next}
use Rattle.process.specs.Steps.{advance_of, owed_of, decide_of, close_of}
use Rattle.bench.specs.declared.Bench.{Bench}
use Rattle.refusal.specs.declared.Refusal.{Refusal}
use Rattle.refusal.specs.Numbers.{refusal_number}
use Rattle.bench.specs.declared.Event.{Event}
use Rattle.bench.specs.declared.Event.TheVariants.{Start, Send, Arrive, Close, Crash, Suspect}
use Rattle.bench.specs.State.{process_at}
use Rattle.bench.specs.Sound.{sound_of}
use Rattle.bench.proofs.SoundLaws.{sound_effect}
use Rattle.bench.specs.Record.{Form, v1, v2, decode_as}
use Rattle.bench.proofs.RecordLaws.{InRange, read_refused, decode_refused, decode_read, read_range, read_from}
use Rattle.bench.specs.Refuse.{refuses, refuses_decoded, refusal_by, refusal}
use Rattle.bench.specs.Effect.{rows_at, closes_as, effect}
use Rattle.bench.specs.RunLoop.{effect_decoded, effect_by}
use Rattle.bench.specs.Closings.{closing_at}
use Rattle.bench.specs.RunLoop.{closing_decoded, ends_by}
use Rattle.bench.specs.OldRules.{old_entry_of, old_same_entry, old_same_to, old_agreed}
use Rattle.bench.specs.OldRules.{old_closing_of, old_close_of, old_effect, old_closing_at}

-- ---- one number is compared as its two halves are
entry_alike : (b c : Bool) (v w : ℕ)
    → old_same_entry (select b (Some v) absent) (select c (Some w) absent) ≡ same_entry (entry_by b v) (entry_by c w)
unfolding old_same_entry same_entry select
entry_alike true true v w = sym (same_words v w)
entry_alike true false v w = refl
entry_alike false true v w = refl
entry_alike false false v w = refl

pub old_same : (n : ℕ) (g h : GlobalData) → old_same_to n g h ≡ same_to n g h
unfolding old_same_to same_to old_entry_of entry_of
old_same n g h = ap (every n) (fun_ext (λ k. entry_alike (has g.present k) (has h.present k) _ _))

select-not : {A : Type 0} (b : Bool) (x y : A) → select (not b) x y ≡ select b y x
unfolding select
select-not true x y = refl
select-not false x y = refl

-- ---- so the test says the same, and an event does the same
module _ (n t a : ℕ) (rows : ℕ → GlobalData) (p : Process) where
  abbrev filled : GlobalData
  filled = filled_of a rows p

  old_agreed_lem : old_agreed n a rows p ≡ agreed_of n a rows p
  unfolding old_agreed agreed_of all_same
  old_agreed_lem =
      ap₂ (λ x y. same p.previous (next_of a p) and (x and y)) (old_same n filled p.estimate)
      (ap (every 16)
      (fun_ext (λ q. ap (λ x. select (has (peers_of a p) q) x true) (old_same n (rows q) filled))))

  old_closing : old_closing_of n t a rows p ≡ closing_of n t a rows p
  unfolding old_closing_of closing_of
  old_closing = ap (λ b. select (same p.round (t + 1)) LastRound (select b Agreed NextRound)) old_agreed_lem

  old_close : old_close_of n t a rows p ≡ close_of n t a rows p
  unfolding old_close_of close_of decides_of
  old_close =
      ap (λ c. select (opens_next c) (advance_of a filled p) (decide_of filled (owed_of n a p) p)) old_closing
      ∙ sym (select-not (opens_next (closing_of n t a rows p)) _ _)

pub old_effect_lem : (e : Event) (s : Bench) → old_effect e s ≡ effect e s
unfolding old_effect effect
old_effect_lem (Start a v) s = refl
old_effect_lem (Send a b) s = refl
old_effect_lem (Arrive a b m) s = refl
old_effect_lem (Close a) s =
    ap (closes_as s a) (old_close s.n s.t a (rows_at s (process_at s a).round) (process_at s a))
old_effect_lem (Crash a) s = refl
old_effect_lem (Suspect a b) s = refl

pub old_closing_at_lem : (e : Event) (s : Bench) → old_closing_at e s ≡ closing_at e s
unfolding old_closing_at closing_at
old_closing_at_lem (Start a v) s = refl
old_closing_at_lem (Send a b) s = refl
old_closing_at_lem (Arrive a b m) s = refl
old_closing_at_lem (Close a) s = ap Some (old_closing s.n s.t a (rows_at s (process_at s a).round) (process_at s a))
old_closing_at_lem (Crash a) s = refl
old_closing_at_lem (Suspect a b) s = refl

-- ---- by the rules of either form
-- what is accepted was decoded to an event that is let through
record Through (d : Result Event Refusal) (s : Bench) : Type 0 where
  sound : sound_of s ≡ true
  event : Event
  got : d ≡ Ok event
  passes : refuses event s ≡ 0

let_through : (d : Result Event Refusal) (s : Bench) → ((r : Refusal) → d ≡ Err r → refusal_number r ≢ 0)
    → check (sound_of s) 2 (refuses_decoded d s) ≡ 0 → Through d s
unfolding refuses_decoded
let_through (Ok e) s f z =
    let c = check-zero (sound_of s) 2 (refuses e s) (omega arith) z in
    record { sound = c.0; event = e; got = refl; passes = c.1 }
let_through (Err r) s f z =
    absurd (f r refl (check-zero (sound_of s) 2 (refusal_number r) (omega arith) z).1)

-- either decoder refuses by a number, and gives events in range
as_refused : (f : Form) (n t : ℕ) (l : List ℕ) (r : Refusal) → decode_as f n t l ≡ Err r → refusal_number r ≢ 0
unfolding decode_as
as_refused v1 n t l r q h = omega (arith, (read_refused n t l r q).0, h)
as_refused v2 n t l r q h = decode_refused n t l r q h

as_range : (f : Form) (n t : ℕ) (l : List ℕ) (e : Event) → decode_as f n t l ≡ Ok e → InRange n t e
unfolding decode_as
as_range v1 n t l e q = read_range n t l e q
as_range v2 n t l e q = read_range n t l e (decode_read n t l e q).0

as_size : (f : Form) (n t : ℕ) (l : List ℕ) (e : Event) → decode_as f n t l ≡ Ok e → length l ≡ 8
unfolding decode_as
as_size v1 n t l e q = (read_from n t l e q).size
as_size v2 n t l e q = (read_from n t l e (decode_read n t l e q).0).size

pub record Taken (f : Form) (s : Bench) (l : List ℕ) : Type 0 where
  pub sound : sound_of s ≡ true
  pub event : Event
  pub decoded : decode_as f s.n s.t l ≡ Ok event
  pub range : InRange s.n s.t event
  pub size : length l ≡ 8
  pub passes : refuses event s ≡ 0
  pub does : effect_by f s l ≡ effect event s
  pub ends : ends_by f s l ≡ closing_at event s
  pub sound_after : sound_of (effect event s) ≡ true

pub taken : (f : Form) (s : Bench) (l : List ℕ) → refusal_by f s l ≡ 0 → Taken f s l
unfolding refusal_by effect_by ends_by effect_decoded closing_decoded
taken f s l z =
    let T = let_through (decode_as f s.n s.t l) s (as_refused f s.n s.t l) z in
    let range = as_range f s.n s.t l T.event T.got in
    record {
      sound = T.sound;
      event = T.event;
      decoded = T.got;
      range = range;
      size = as_size f s.n s.t l T.event T.got;
      passes = T.passes;
      does = ap (λ d. effect_decoded d s) T.got;
      ends = select_on _ _ _ (same_mk _ 0 z) ∙ ap (λ d. closing_decoded d s) T.got;
      sound_after = sound_effect s T.sound T.event range;
    }

-- a refused record ends no round
pub untaken : (f : Form) (s : Bench) (l : List ℕ) → refusal_by f s l ≢ 0 → ends_by f s l ≡ None
unfolding ends_by
untaken f s l h = select_off _ _ _ (same_off _ 0 h)

-- ---- what is refused by the old rules is refused now; the other way it may be by 15
pub refused_now : (f : Form) (s : Bench) (l : List ℕ) → refusal_by f s l ≢ 0 → refusal s l ≢ 0
unfolding refusal refusal_by refuses_decoded decode_as
refused_now v1 s l h z =
    let T = taken v2 s l z in
    let got = (decode_read s.n s.t l T.event T.decoded).0 in
    h (check_on _ _ _ T.sound ∙ ap (λ d. refuses_decoded d s) got ∙ T.passes)
refused_now v2 s l h z = h z
