-- Records for the rules before request C-15, and rewritten with diet portions 0 for those of now. Without a value
-- above 65,535 a record is the same rewritten, since the last two bytes are 0 already, and is not refused by 15. Any
-- other is a start, and both refuse it by the same number, if at all: no check looks at its value. So where all starts
-- that the old rules accept are plain, those of now accept the same events. A run by induction on its budget.
use Rattle.std.specs.Prelude.{◌≡◌, refl, List, [], ◌∷◌, ◌++◌, Bool, true, false, not, ◌≢◌, ℕ, zero, suc, ◌-◌, ◌*◌, ◌/◌, ◌≤◌, ◌<◌, get_or, length, take, drop, Result, Ok, Err}
use Rattle.std.proofs.Common.{sym, ap, ap₂, ◌∙◌, ⊎_elim, arith, length-take, length-drop, length-append, take-append-drop, drop_of_length-le, drop-cons}
use Rattle.std.proofs.Math.Seq.{take-append_seam, drop-append_seam}
use Rattle.sets.specs.Lists.{every_in}
use Rattle.sets.specs.Truth.{◌and◌, ◌or◌, same, less, one_to, select, check}
use Rattle.sets.specs.TruthLaws.{Is, on, off, is, select_on, select_off, and_first, and_second, and_mk, and_off_l}
use Rattle.sets.specs.TruthLaws.{same_on, same_mk, same_off, less_on, less_mk, le-or, eq-or}
use Rattle.global_data.specs.WordLaws.{plain_word, fits_mk}
use Rattle.refusal.specs.declared.Refusal.{Refusal}
use Rattle.refusal.specs.declared.Refusal.TheVariants.{Kind, Field}
use Rattle.bench.specs.declared.Bench.{Bench}
use Rattle.bench.specs.declared.Message.{Message}
use Rattle.bench.specs.declared.Counters.{Counters}
use Rattle.bench.specs.declared.Event.{Event}
use Rattle.bench.specs.declared.Event.TheVariants.{Start, Send, Arrive, Close, Crash, Suspect}
use Rattle.bench.specs.Record.{word_of, uses_b, is_kind, fields, event_of, parts_of, value_of, read_of}
use Rattle.bench.specs.Record.{start_fits, check_diet, decode_of, Form, v1, v2, decode_as}
use Rattle.bench.specs.Sound.{sound_of}
use Rattle.bench.proofs.SoundLaws.{every_on}
use Rattle.bench.proofs.RecordLaws.{From, diet_fit, diet_refused, read_from}
use Rattle.bench.specs.Refuse.{actor, is_crash, passes7, passes8, passes9, refuses, refuses_decoded, refusal_by}
use Rattle.bench.specs.Effect.{effect}
use Rattle.bench.specs.Calls.{accepted_one, accepted_in, tallied, tally_by, cause_of}
use Rattle.bench.proofs.OldRulesLaws.{taken}
use Rattle.bench.proofs.RunLaws.{dropped, none_accepted, one_accepted, in_refused, in_from, in_accepted}
use Rattle.bench.specs.Carry.{plain_start, rewritten_record, rewritten_to, rewritten_schedule}

-- a start with a value of at most 65,535, or another record
unfoldable pub plain_record : List ℕ → Bool
plain_record bytes = select (is_kind 1 bytes) (less (value_of bytes) 65536) true

-- ---- rewritten they are as they were
high_bytes : (a b c d : ℕ) → word_of a b c d < 65536 → (c ≡ 0) × (d ≡ 0)
unfolding word_of
high_bytes a b c d h = (omega arith, omega arith)

last_two : (l : List ℕ) → length l ≡ 8 → drop 6 l ≡ get_or l 6 0 ∷ get_or l 7 0 ∷ []
last_two l h =
    drop-cons l 6 0 (omega arith)
    ∙ ap (λ r. get_or l 6 0 ∷ r)
    (drop-cons l 7 0 (omega arith) ∙ ap (λ r. get_or l 7 0 ∷ r) (drop_of_length-le l {i = 8} (omega arith)))

pub rewritten_record_lem : (l : List ℕ) → plain_record l ≡ true → rewritten_record l ≡ l
unfolding plain_record rewritten_record is_kind value_of
rewritten_record_lem l p = go (is (is_kind 1 l))
  where
    go : Is (is_kind 1 l) → select (is_kind 1 l) (take 6 l ++ (0 ∷ 0 ∷ [])) l ≡ l
    go (on e) =
        let z = high_bytes _ _ _ _ (less_on (value_of l) 65536 (sym (select_on _ _ _ e) ∙ p)) in
        let q = last_two l (same_on _ 8 (and_first _ _ e)) in
        select_on _ _ _ e ∙ ap (λ r. take 6 l ++ r) (ap₂ (λ x y. x ∷ y ∷ []) (sym z.0) (sym z.1) ∙ sym q)
        ∙ take-append-drop 6 l
    go (off e) = select_off _ _ _ e

short_plain : (l : List ℕ) → length l < 8 → plain_record l ≡ true
unfolding plain_record is_kind
short_plain l h = select_off _ _ _ (and_off_l _ _ (same_off (length l) 8 (λ e. omega (arith, e))))

-- ---- a start among them is not refused by 15
others_plain : (a b : ℕ) (m : Message) (x y z u : Bool)
    → plain_start
    (select x (Send a b) (select y (Arrive a b m) (select z (Close a) (select u (Crash a) (Suspect a b)))))
    ≡ true
unfolding plain_start select
others_plain a b m true y z u = refl
others_plain a b m false true z u = refl
others_plain a b m false false true u = refl
others_plain a b m false false false true = refl
others_plain a b m false false false false = refl

pub plain_read : (n t : ℕ) (l : List ℕ) (e : Event) → plain_record l ≡ true → read_of n t l ≡ Ok e → plain_start e ≡ true
unfolding plain_record is_kind event_of plain_start
plain_read n t l e p q = rw F.event (go (is (same (get_or l 0 0) 1)))
  where
    F : From n t l e
    F = read_from n t l e q

    go : Is (same (get_or l 0 0) 1)
        → plain_start (event_of (get_or l 0 0) (get_or l 1 0 - 1) (get_or l 2 0 - 1) (get_or l 3 0) (value_of l)) ≡ true
    go (on k) = ap plain_start (select_on _ _ _ k) ∙ sym (select_on _ _ _ (and_mk _ _ (same_mk _ 8 F.size) k)) ∙ p
    go (off k) = ap plain_start (select_off _ _ _ k) ∙ others_plain _ _ _ _ _ _ _

plain_fits : (e : Event) → plain_start e ≡ true → start_fits e ≡ true
unfolding plain_start start_fits
plain_fits (Start a v) p =
    let w = plain_word v (less_on v 65536 p) in
    fits_mk _ (omega (arith, w.1))
plain_fits (Send a b) p = refl
plain_fits (Arrive a b m) p = refl
plain_fits (Close a) p = refl
plain_fits (Crash a) p = refl
plain_fits (Suspect a b) p = refl

pub plain_decodes : (n t : ℕ) (l : List ℕ) → plain_record l ≡ true → read_of n t l ≡ decode_of n t l
unfolding decode_of
plain_decodes n t l p = go (read_of n t l) refl
  where
    go : (d : Result Event Refusal) → read_of n t l ≡ d → d ≡ check_diet d
    go (Ok e) q = sym (diet_fit e (plain_fits e (plain_read n t l e p q)))
    go (Err r) q = sym (diet_refused r)

-- ---- so the rules are the same for them
pub plain_alike : (f : Form) (n t : ℕ) (l : List ℕ) → plain_record l ≡ true → decode_as f n t l ≡ decode_as v2 n t l
unfolding decode_as
plain_alike v1 n t l p = plain_decodes n t l p
plain_alike v2 n t l p = refl

record SameFor (f g : Form) (s : Bench) (l : List ℕ) : Type 0 where
  decodes : decode_as f s.n s.t l ≡ decode_as g s.n s.t l
  refusal_is : refusal_by f s l ≡ refusal_by g s l

plain_rules : (f : Form) (s : Bench) (l : List ℕ) → plain_record l ≡ true → SameFor f v2 s l
unfolding refusal_by
plain_rules f s l p = let d = plain_alike f s.n s.t l p in record { decodes = d; refusal_is = rw d }

same_one : (s : Bench) (l : List ℕ) → plain_record l ≡ true → accepted_one v1 s l ≡ accepted_one v2 s l
unfolding accepted_one
same_one s l p = let A = plain_rules v1 s l p in rw (A.refusal_is, A.decodes)

-- ---- any record, rewritten, if it is given as bytes: its start has a value of at most 65,535, and it is refused by
-- the number by which the old form refuses the one that was given
abbrev pub Bytes : List ℕ → Type 0
Bytes l = every_in (λ b. less b 256) l ≡ true

byte_at : (l : List ℕ) → Bytes l → (i : ℕ) → get_or l i 0 < 256
byte_at l e i = less_on _ 256 (every_on (λ b. less b 256) 0 l (less_mk 0 256 (omega arith)) e i)

pub every_split : {A : Type 0} (p : A → Bool) (a b : List A) → every_in p (a ++ b) ≡ true
    → (every_in p a ≡ true) × (every_in p b ≡ true)
unfolding every_in
every_split p [] b e = (refl, e)
every_split p (x ∷ a) b e =
    let r = every_split p a b (and_second _ _ e) in
    (and_mk _ _ (and_first _ _ e) r.0, r.1)

bytes_first : (l : List ℕ) → Bytes l → Bytes (take 8 l)
bytes_first l e = (every_split (λ b. less b 256) (take 8 l) (drop 8 l) (rw (take-append-drop 8 l) e)).0

pub bytes_rest : (i : ℕ) (l : List ℕ) → Bytes l → Bytes (drop i l)
bytes_rest i l e = (every_split (λ b. less b 256) (take i l) (drop i l) (rw (take-append-drop i l) e)).1

from_eight : (P : List ℕ → Type 0)
    → ((a b c d e f g h : ℕ) → P (a ∷ b ∷ c ∷ d ∷ e ∷ f ∷ g ∷ h ∷ [])) → (l : List ℕ) → length l ≡ 8 → P l
from_eight P k [] q = absurd (omega (arith, q))
from_eight P k (a ∷ []) q = absurd (omega (arith, q))
from_eight P k (a ∷ b ∷ []) q = absurd (omega (arith, q))
from_eight P k (a ∷ b ∷ c ∷ []) q = absurd (omega (arith, q))
from_eight P k (a ∷ b ∷ c ∷ d ∷ []) q = absurd (omega (arith, q))
from_eight P k (a ∷ b ∷ c ∷ d ∷ e ∷ []) q = absurd (omega (arith, q))
from_eight P k (a ∷ b ∷ c ∷ d ∷ e ∷ f ∷ []) q = absurd (omega (arith, q))
from_eight P k (a ∷ b ∷ c ∷ d ∷ e ∷ f ∷ g ∷ []) q = absurd (omega (arith, q))
from_eight P k (a ∷ b ∷ c ∷ d ∷ e ∷ f ∷ g ∷ h ∷ []) q = k a b c d e f g h
from_eight P k (a ∷ b ∷ c ∷ d ∷ e ∷ f ∷ g ∷ h ∷ i ∷ l) q = absurd (omega (arith, q))

erased_last : List ℕ → List ℕ
erased_last l = take 6 l ++ (0 ∷ 0 ∷ [])

erased_value : (l : List ℕ) → length l ≡ 8 → value_of (erased_last l) ≡ word_of (get_or l 4 0) (get_or l 5 0) 0 0
unfolding erased_last value_of
erased_value l q =
    from_eight (λ l. value_of (erased_last l) ≡ word_of (get_or l 4 0) (get_or l 5 0) 0 0) (λ a b c d e f g h. refl) l q

erased-parts : (n t : ℕ) (l : List ℕ) → length l ≡ 8
    → read_of n t (erased_last l)
    ≡ parts_of n t (get_or l 0 0) (get_or l 1 0) (get_or l 2 0) (get_or l 3 0) (value_of (erased_last l))
unfolding erased_last read_of
erased-parts n t l q =
    from_eight (λ l. read_of n t (erased_last l)
    ≡ parts_of n t (get_or l 0 0) (get_or l 1 0) (get_or l 2 0) (get_or l 3 0) (value_of (erased_last l)))
    (λ a b c d e f g h. select_on _ _ _ (same_mk 8 8 refl)) l q

word_low : (a b : ℕ) → a < 256 → b < 256 → word_of a b 0 0 < 65536
unfolding word_of
word_low a b h k = omega arith

other_plain : (l : List ℕ) → is_kind 1 l ≡ false → plain_record l ≡ true
unfolding plain_record
other_plain l e = select_off _ _ _ e

erased_plain : (l : List ℕ) → Bytes l → length l ≡ 8 → plain_record (erased_last l) ≡ true
unfolding plain_record
erased_plain l b q = go (is (is_kind 1 (erased_last l)))
  where
    low : value_of (erased_last l) < 65536
    low = rw (erased_value l q) (word_low _ _ (byte_at l b 4) (byte_at l b 5))

    go : Is (is_kind 1 (erased_last l))
        → select (is_kind 1 (erased_last l)) (less (value_of (erased_last l)) 65536) true ≡ true
    go (on e) = select_on _ _ _ e ∙ less_mk _ 65536 low
    go (off e) = select_off _ _ _ e

start_sizes : (l : List ℕ) → is_kind 1 l ≡ true → (length l ≡ 8) × (get_or l 0 0 ≡ 1)
unfolding is_kind
start_sizes l e = (same_on _ 8 (and_first _ _ e), same_on _ 1 (and_second _ _ e))

rewritten_on : (l : List ℕ) → is_kind 1 l ≡ true → rewritten_record l ≡ erased_last l
unfolding rewritten_record erased_last
rewritten_on l e = select_on _ _ _ e

-- no check looks at the value
value_unseen : (n t a b r v w : ℕ) (s : Bench)
    → refuses_decoded (parts_of n t 1 a b r v) s ≡ refuses_decoded (parts_of n t 1 a b r w) s
unfolding parts_of fields same ◌or◌ event_of select refuses_decoded refuses actor is_crash passes7 passes8
    passes9
value_unseen n t a b r v w s =
    go (one_to 6 1)
    (one_to n a and (select (uses_b 1) (one_to n b and not (same a b)) (same b 0) and (same r 0 and true)))
  where
    go : (x y : Bool)
        → refuses_decoded
        (select x (select y (Ok (Start (a - 1) v)) (Err Field))
        (Err Kind))
        s
        ≡ refuses_decoded
        (select x (select y (Ok (Start (a - 1) w)) (Err Field))
        (Err Kind))
        s
    go true true = refl
    go true false = refl
    go false y = refl

read_parts : (n t : ℕ) (l : List ℕ) → length l ≡ 8
    → read_of n t l ≡ parts_of n t (get_or l 0 0) (get_or l 1 0) (get_or l 2 0) (get_or l 3 0) (value_of l)
unfolding read_of
read_parts n t l q = select_on _ _ _ (same_mk _ 8 q)

start_refuses : (n t : ℕ) (s : Bench) (l : List ℕ) → is_kind 1 l ≡ true
    → refuses_decoded (read_of n t l) s ≡ refuses_decoded (read_of n t (erased_last l)) s
start_refuses n t s l e =
    let (q, k) = start_sizes l e in
    rw (read_parts n t l q, erased-parts n t l q, k) (value_unseen n t _ _ _ _ _ s)

pub rewritten-refuses : (s : Bench) (l : List ℕ) → Bytes l → refusal_by v1 s l ≡ refusal_by v2 s (rewritten_record l)
unfolding refusal_by decode_as
rewritten-refuses s l b = go (is (is_kind 1 l))
  where
    go : Is (is_kind 1 l)
        → check (sound_of s) 2 (refuses_decoded (read_of s.n s.t l) s)
        ≡ check (sound_of s) 2 (refuses_decoded (decode_of s.n s.t (rewritten_record l)) s)
    go (on e) =
        ap (check (sound_of s) 2)
        (start_refuses s.n s.t s l e
        ∙ ap (λ d. refuses_decoded d s)
        (plain_decodes s.n s.t (erased_last l) (erased_plain l b (start_sizes l e).0)
        ∙ ap (decode_of s.n s.t) (sym (rewritten_on l e))))
    go (off e) =
        let p = other_plain l e in
        ap (λ d. check (sound_of s) 2 (refuses_decoded d s))
        (plain_decodes s.n s.t l p ∙ ap (decode_of s.n s.t) (sym (rewritten_record_lem l p)))

-- ---- what the old form accepts of it, where that is no start above 65,535, the new one accepts of it rewritten
plain_back : (n t : ℕ) (l : List ℕ) (e : Event) → read_of n t l ≡ Ok e → plain_start e ≡ true → plain_record l ≡ true
unfolding plain_record is_kind event_of plain_start
plain_back n t l e q p = go (is (is_kind 1 l))
  where
    go : Is (is_kind 1 l) → select (is_kind 1 l) (less (value_of l) 65536) true ≡ true
    go (on u) =
        select_on _ _ _ u ∙ sym (ap plain_start ((read_from n t l e q).event ∙ select_on _ _ _ (and_second _ _ u))) ∙ p
    go (off u) = select_off _ _ _ u

untallied : (x y : Bool) (c : Counters) → tallied false x c ≡ tallied false y c
unfolding tallied ◌and◌
untallied x y c = refl

module _ (s : Bench) (l : List ℕ) (b : Bytes l) (q : every_in plain_start (accepted_one v1 s l) ≡ true) where
  pub accepted_plain : refusal_by v1 s l ≡ 0 → plain_record l ≡ true
  unfolding decode_as every_in
  accepted_plain z =
      plain_back s.n s.t l _ (taken v1 s l z).decoded (and_first _ _ (rw (one_accepted v1 s l z) at q))

  turned : refusal_by v1 s l ≢ 0 → refusal_by v2 s (rewritten_record l) ≢ 0
  turned z w = z (rewritten-refuses s l b ∙ w)

  pub rewritten_one : accepted_one v1 s l ≡ accepted_one v2 s (rewritten_record l)
  rewritten_one = ⊎_elim yes no (eq-or (refusal_by v1 s l) 0)
    where
      yes : refusal_by v1 s l ≡ 0 → accepted_one v1 s l ≡ accepted_one v2 s (rewritten_record l)
      yes z =
          let p = accepted_plain z in
          same_one s l p ∙ ap (accepted_one v2 s) (sym (rewritten_record_lem l p))

      no : refusal_by v1 s l ≢ 0 → accepted_one v1 s l ≡ accepted_one v2 s (rewritten_record l)
      no z = none_accepted v1 s l z ∙ sym (none_accepted v2 s (rewritten_record l) (turned z))

  pub rewritten_tally : (c : Counters) → tally_by v1 s l c ≡ tally_by v2 s (rewritten_record l) c
  rewritten_tally c = ⊎_elim yes no (eq-or (refusal_by v1 s l) 0)
    where
      yes : refusal_by v1 s l ≡ 0 → tally_by v1 s l c ≡ tally_by v2 s (rewritten_record l) c
      yes z =
          let p = accepted_plain z in
          let R = plain_rules v1 s l p in
          rw (rewritten_record_lem l p, R.refusal_is, R.decodes)

      no : refusal_by v1 s l ≢ 0 → tally_by v1 s l c ≡ tally_by v2 s (rewritten_record l) c
      no z = rw (same_off _ 0 z, same_off _ 0 (turned z)) (untallied _ _ c)

erased-length : (l : List ℕ) → length l ≡ 8 → length (erased_last l) ≡ length l
unfolding erased_last
erased-length l q = omega (arith, length-append (take 6 l) (0 ∷ 0 ∷ []), length-take 6 l, q)

-- ---- a schedule, record by record
short_schedule : (l : List ℕ) → length l < 8 → rewritten_schedule l ≡ l
unfolding rewritten_schedule rewritten_to
short_schedule l h = let z : length l / 8 ≡ 0 = omega arith in ap (λ k. rewritten_to k l) z

long_schedule : (l : List ℕ) → 8 ≤ length l
    → rewritten_schedule l ≡ rewritten_record (take 8 l) ++ rewritten_schedule (drop 8 l)
unfolding rewritten_schedule rewritten_to
long_schedule l h =
    let z : length l / 8 ≡ suc (length (drop 8 l) / 8) = omega (arith, length-drop 8 l) in
    ap (λ k. rewritten_to k l) z

record_length : (l : List ℕ) → length (rewritten_record l) ≡ length l
record_length l = go (is (is_kind 1 l))
  where
    go : Is (is_kind 1 l) → length (rewritten_record l) ≡ length l
    go (on e) = ap length (rewritten_on l e) ∙ erased-length l (start_sizes l e).0
    go (off e) = ap length (rewritten_record_lem l (other_plain l e))

to-length : (k : ℕ) (l : List ℕ) → length (rewritten_to k l) ≡ length l
unfolding rewritten_to
to-length zero l = refl
to-length (suc k) l =
    omega (
      arith,
      length-append (rewritten_record (take 8 l)) (rewritten_to k (drop 8 l)),
      record_length (take 8 l),
      to-length k (drop 8 l),
      length-take 8 l,
      length-drop 8 l,
    )

pub schedule_length : (l : List ℕ) → length (rewritten_schedule l) ≡ length l
unfolding rewritten_schedule
schedule_length l = to-length (length l / 8) l

take-rewritten : (l : List ℕ) → take 8 (rewritten_schedule l) ≡ rewritten_record (take 8 l)
take-rewritten l = ⊎_elim long short (le-or 8 (length l))
  where
    long : 8 ≤ length l → take 8 (rewritten_schedule l) ≡ rewritten_record (take 8 l)
    long h =
        let z : length (rewritten_record (take 8 l)) ≡ 8 = omega (arith, record_length (take 8 l), length-take 8 l) in
        ap (take 8) (long_schedule l h)
        ∙ (rw z at (take-append_seam (rewritten_record (take 8 l)) (rewritten_schedule (drop 8 l))))

    short : length l < 8 → take 8 (rewritten_schedule l) ≡ rewritten_record (take 8 l)
    short h =
        ap (take 8) (short_schedule l h)
        ∙ sym (rewritten_record_lem (take 8 l) (short_plain (take 8 l) (omega (arith, length-take 8 l))))

drop-rewritten : (l : List ℕ) → drop 8 (rewritten_schedule l) ≡ rewritten_schedule (drop 8 l)
drop-rewritten l = ⊎_elim long short (le-or 8 (length l))
  where
    long : 8 ≤ length l → drop 8 (rewritten_schedule l) ≡ rewritten_schedule (drop 8 l)
    long h =
        let z : length (rewritten_record (take 8 l)) ≡ 8 = omega (arith, record_length (take 8 l), length-take 8 l) in
        ap (drop 8) (long_schedule l h)
        ∙ (rw z at (drop-append_seam (rewritten_record (take 8 l)) (rewritten_schedule (drop 8 l))))

    short : length l < 8 → drop 8 (rewritten_schedule l) ≡ rewritten_schedule (drop 8 l)
    short h = ap (drop 8) (short_schedule l h) ∙ sym (short_schedule (drop 8 l) (omega (arith, length-drop 8 l)))

pub drop_many : (k : ℕ) (l : List ℕ) → drop (8 * k) (rewritten_schedule l) ≡ rewritten_schedule (drop (8 * k) l)
drop_many zero l = refl
drop_many (suc k) l =
    sym (dropped k (rewritten_schedule l)) ∙ ap (drop (8 * k)) (drop-rewritten l) ∙ drop_many k (drop 8 l)
    ∙ ap rewritten_schedule (dropped k l)

turn_alike : (budget : ℕ) (l : List ℕ) (s : Bench) → Bytes l
    → every_in plain_start (accepted_in v1 (suc budget) l s) ≡ true
    → ((u : Bench) → every_in plain_start (accepted_in v1 budget (drop 8 l) u) ≡ true
    → accepted_in v1 budget (drop 8 l) u ≡ accepted_in v2 budget (rewritten_schedule (drop 8 l)) u)
    → accepted_in v1 (suc budget) l s ≡ accepted_in v2 (suc budget) (rewritten_schedule l) s
unfolding every_in
turn_alike budget l s b q ih = ⊎_elim yes no (eq-or (refusal_by v1 s (take 8 l)) 0)
  where
    yes : refusal_by v1 s (take 8 l) ≡ 0
        → accepted_in v1 (suc budget) l s ≡ accepted_in v2 (suc budget) (rewritten_schedule l) s
    yes z =
        let e = (taken v1 s (take 8 l) z).event in
        let i = in_accepted v1 s l budget z in
        let h = one_accepted v1 s (take 8 l) z in
        let p = rw i at q in
        let o = rewritten_one s (take 8 l) (bytes_first l b) (rw h (and_mk _ _ (and_first _ _ p) refl)) in
        i
        ∙ ap (λ r. e ∷ r)
        (ih (effect e s) (and_second _ _ p)
        ∙ ap (λ r. accepted_in v2 budget r (effect e s)) (sym (drop-rewritten l)))
        ∙ sym (in_from v2 s (rewritten_schedule l) budget e
        (ap (accepted_one v2 s) (take-rewritten l) ∙ sym o ∙ h))

    no : refusal_by v1 s (take 8 l) ≢ 0
        → accepted_in v1 (suc budget) l s ≡ accepted_in v2 (suc budget) (rewritten_schedule l) s
    no z =
        in_refused v1 s l (suc budget) z
        ∙ sym (in_refused v2 s (rewritten_schedule l) (suc budget)
        (λ w. z (rewritten-refuses s (take 8 l) (bytes_first l b) ∙ ap (refusal_by v2 s) (sym (take-rewritten l)) ∙ w)))

pub rewritten-run : (budget : ℕ) (l : List ℕ) (s : Bench) → Bytes l
    → every_in plain_start (accepted_in v1 budget l s) ≡ true
    → accepted_in v1 budget l s ≡ accepted_in v2 budget (rewritten_schedule l) s
unfolding accepted_in
rewritten-run zero l s b q = refl
rewritten-run (suc budget) l s b q =
    turn_alike budget l s b q (λ u. rewritten-run budget (drop 8 l) u (bytes_rest 8 l b))

pub rewritten_cause : (left : ℕ) (rest : List ℕ) (s : Bench) → Bytes rest
    → cause_of v1 left rest s ≡ cause_of v2 left (rewritten_schedule rest) s
unfolding cause_of
rewritten_cause left rest s b =
    rw (schedule_length rest, take-rewritten rest, rewritten-refuses s (take 8 rest) (bytes_first rest b))
