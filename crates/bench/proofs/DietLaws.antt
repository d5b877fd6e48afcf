-- Refusal 15 of a record: on a bench that is not damaged it is given of a start that is read there, just where the
-- diet portions exceed the portions. And no refusal of a record looks at the words that a bench holds: a bench with
-- such an entry passes 2, and is stepped.
-- Each check is taken apart; a bench with its words erased is refused what the bench is.
use Rattle.std.specs.Prelude.{◌≡◌, refl, List, [], ◌∷◌, map, Bool, true, false, ℕ, zero, suc, ◌<◌, get_or, Result, Ok, Err}
use Rattle.std.proofs.Common.{sym, ap, ap₂, ◌∙◌, arith}
use Rattle.sets.specs.Lists.{every_in}
use Rattle.sets.specs.Truth.{◌and◌, check}
use Rattle.sets.specs.TruthLaws.{Is, on, off, is, clash}
use Rattle.global_data.specs.declared.GlobalData.{GlobalData}
use Rattle.global_data.specs.GlobalData.{portions_of, diet_of}
use Rattle.global_data.specs.WordLaws.{fits_not, fits_off}
use Rattle.process.specs.declared.Process.{Process}
use Rattle.process.specs.Fields.{with_estimate}
use Rattle.process.specs.Steps.{no_process, has_decided, takes_part, arrived_of, due_of}
use Rattle.refusal.specs.declared.Refusal.{Refusal}
use Rattle.bench.specs.declared.Bench.{Bench}
use Rattle.bench.specs.declared.Event.{Event}
use Rattle.bench.specs.declared.Event.TheVariants.{Start, Send, Arrive, Close, Crash, Suspect}
use Rattle.bench.specs.State.{process_at, transit_at, crashed_at, bench_of}
use Rattle.bench.specs.Sound.{sound_data, sound_process, sound_of}
use Rattle.bench.specs.Record.{read_of, start_fits, check_diet, decode_of}
use Rattle.bench.proofs.RecordLaws.{diet_fit, diet_unfit, diet_refused, read_refused}
use Rattle.bench.specs.Record.{decode_as}
use Rattle.bench.specs.Refuse.{refusal_by, refusal}
use Rattle.bench.specs.Refuse.{passes7, passes8, passes9, refuses, refuses_decoded}
use Rattle.bench.proofs.RefuseLaws.{refuses_low, refusal_damaged, refusal_unread, refusal_event}

-- ---- 15, and the record that has it
pub record TooMuchDiet (n t : ℕ) (bytes : List ℕ) : Type 0 where
  pub process : ℕ
  pub value : ℕ
  pub start : read_of n t bytes ≡ Ok (Start process value)
  pub exceeds : portions_of value < diet_of value

-- such a record is refused by 15, whatever the bench is, if it is not damaged
pub refused_15 : (s : Bench) (l : List ℕ) → sound_of s ≡ true → TooMuchDiet s.n s.t l → refusal s l ≡ 15
unfolding decode_of start_fits
refused_15 s l h w =
    refusal_unread s l h _
    (ap check_diet w.start ∙ diet_unfit (Start w.process w.value) (fits_off _ w.exceeds))

-- an event that does not pass is a start
unfit_start : (n t : ℕ) (l : List ℕ) (e : Event) → read_of n t l ≡ Ok e → start_fits e ≡ false → TooMuchDiet n t l
unfolding start_fits
unfit_start n t l (Start a v) p f = record { process = a; value = v; start = p; exceeds = fits_not _ f }
unfit_start n t l (Send a b) p f = clash true refl f
unfit_start n t l (Arrive a b m) p f = clash true refl f
unfit_start n t l (Close a) p f = clash true refl f
unfit_start n t l (Crash a) p f = clash true refl f
unfit_start n t l (Suspect a b) p f = clash true refl f

-- and nothing else is
pub only_15 : (s : Bench) (l : List ℕ) → refusal s l ≡ 15 → TooMuchDiet s.n s.t l
unfolding decode_of
only_15 s l q = sound (is (sound_of s))
  where
    started : sound_of s ≡ true → (e : Event) → read_of s.n s.t l ≡ Ok e → Is (start_fits e)
        → TooMuchDiet s.n s.t l
    started h e p (on f) =
        absurd (omega (
          arith,
          refuses_low e s,
          sym (refusal_event s l h e (ap check_diet p ∙ diet_fit e f)) ∙ q,
        ))
    started h e p (off f) = unfit_start s.n s.t l e p f

    read : sound_of s ≡ true → (d : Result Event Refusal) → read_of s.n s.t l ≡ d → TooMuchDiet s.n s.t l
    read h (Ok e) p = started h e p (is (start_fits e))
    read h (Err r) p =
        absurd (omega (
          arith,
          (read_refused s.n s.t l r p).1,
          sym (refusal_unread s l h r (ap check_diet p ∙ diet_refused r)) ∙ q,
        ))

    sound : Is (sound_of s) → TooMuchDiet s.n s.t l
    sound (on h) = read h (read_of s.n s.t l) refl
    sound (off h) = absurd (omega (arith, sym (refusal_damaged s l h) ∙ q))

-- ---- no refusal looks at a word
-- the words erased
unfoldable pub no_words : GlobalData → GlobalData
no_words g = record { present = g.present; values = [] }

unfoldable pub wordless : Process → Process
wordless p = with_estimate (no_words p.estimate) p

unfoldable pub erased : Bench → Bench
erased s =
    bench_of s.n s.t s.crashed (map wordless s.processes) (map no_words s.sent) s.in_transit

every_map : {A : Type 0} (p : A → Bool) (f : A → A) → ((x : A) → p (f x) ≡ p x) → (l : List A)
    → every_in p (map f l) ≡ every_in p l
unfolding every_in
every_map p f h [] = refl
every_map p f h (x ∷ l) = ap₂ ◌and◌ (h x) (every_map p f h l)

sound_erased : (s : Bench) → sound_of (erased s) ≡ sound_of s
unfolding sound_of erased wordless no_words sound_process sound_data
sound_erased s =
    rw (
      every_map (sound_process s.n s.t) wordless (λ p. refl) s.processes,
      every_map (sound_data s.n) no_words (λ g. refl) s.sent,
    )

process_map : (l : List Process) (a : ℕ) → get_or (map wordless l) a no_process ≡ wordless (get_or l a no_process)
unfolding wordless no_words
process_map [] a = refl
process_map (p ∷ l) zero = refl
process_map (p ∷ l) (suc a) = process_map l a

process_erased : (s : Bench) (a : ℕ) → process_at (erased s) a ≡ wordless (process_at s a)
unfolding process_at erased
process_erased s a = process_map s.processes a

pass7_erased : (e : Event) (s : Bench) → passes7 e (erased s) ≡ passes7 e s
unfolding passes7 transit_at crashed_at takes_part has_decided erased wordless
pass7_erased (Start a v) s = rw (process_erased s a)
pass7_erased (Send a b) s = rw (process_erased s a)
pass7_erased (Arrive a b m) s = refl
pass7_erased (Close a) s = rw (process_erased s a)
pass7_erased (Crash a) s = refl
pass7_erased (Suspect a b) s = rw (process_erased s a)

pass8_erased : (e : Event) (s : Bench) → passes8 e (erased s) ≡ passes8 e s
unfolding passes8 due_of arrived_of wordless
pass8_erased (Start a v) s = refl
pass8_erased (Send a b) s = refl
pass8_erased (Arrive a b m) s = refl
pass8_erased (Close a) s = rw (process_erased s a)
pass8_erased (Crash a) s = refl
pass8_erased (Suspect a b) s = refl

refuses-erased : (e : Event) (s : Bench) → refuses e (erased s) ≡ refuses e s
unfolding refuses passes9 crashed_at erased
refuses-erased e s = rw (pass7_erased e s, pass8_erased e s)

refusal-erased : (s : Bench) (l : List ℕ) → refusal (erased s) l ≡ refusal s l
unfolding refusal refusal_by decode_as refuses_decoded erased
refusal-erased s l =
    ap₂ (λ b k. check b 2 k) (sound_erased s) (decoded (decode_of s.n s.t l))
  where
    decoded : (d : Result Event Refusal) → refuses_decoded d (erased s) ≡ refuses_decoded d s
    decoded (Ok e) = refuses-erased e s
    decoded (Err r) = refl

-- so two benches that are the same but for words refuse the same, damaged or not
pub words_unseen : (s s' : Bench) → erased s ≡ erased s' → (l : List ℕ) → refusal s l ≡ refusal s' l
words_unseen s s' e l = sym (refusal-erased s l) ∙ ap (λ (b : Bench). refusal b l) e ∙ refusal-erased s' l
