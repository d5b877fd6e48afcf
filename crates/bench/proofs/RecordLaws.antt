-- Laws of records: each refusal of the decoder by its test, what a decoded event ranges over,
-- and that every event in range has its 8 bytes, but for a start that is refused by 15.
-- A decoded record has its parts by the tests that let it through; an event's bytes are read back digit by digit.
use Rattle.std.proofs.Math.Path.{◌≡◌, refl, sym, ap}
use Rattle.std.proofs.Common.{ap₂, ◌∙◌, arith, lit<}
use Rattle.std.specs.Prelude.{◌≢◌, List, [], ◌∷◌, Bool, true, false, not, ℕ, zero, suc, ◌+◌, ◌-◌, ◌*◌, ◌/◌, ◌%◌, ◌≤◌, ◌<◌, eqb, get_or, length, Result, Ok, Err, Some}
use Rattle.std.proofs.Math.Nat.{div-div-eq-div-mul}
use Rattle.sets.specs.Truth.{◌and◌, ◌or◌, same, less, select, one_to}
use Rattle.sets.specs.TruthLaws.{one_low, one_high, one_mk, Is, on, off, is, select_on, select_off, and_first}
use Rattle.sets.specs.TruthLaws.{and_second, and_mk, or_off_l, or_mk_l, not_on, same_on, same_mk, same_off, same_not}
use Rattle.sets.specs.TruthLaws.{less_on, less_mk}
use Rattle.global_data.specs.GlobalData.{portions_of, diet_of, value_in, diet_fits}
use Rattle.global_data.specs.WordLaws.{fits_mk}
use Rattle.refusal.specs.declared.Refusal.{Refusal}
use Rattle.refusal.specs.declared.Refusal.TheVariants.{Length, Kind, Field, Diet}
use Rattle.refusal.specs.Numbers.{refusal_number}
use Rattle.refusal.proofs.NumberLaws.{number_range}
use Rattle.bench.specs.declared.Message.{Message}
use Rattle.bench.specs.declared.Message.TheVariants.{Estimate, Decision}
use Rattle.bench.specs.declared.Event.{Event}
use Rattle.bench.specs.declared.Event.TheVariants.{Start, Send, Arrive, Close, Crash, Suspect}
use Rattle.bench.specs.Record.{word_of, uses_b}
use Rattle.bench.specs.Record.{fields, message_from, event_of, parts_of}
use Rattle.bench.specs.Record.{value_of, read_of, start_fits, check_diet, decode_of}

-- a value's two numbers: portions in the first two bytes, diet portions in the last two
pub value_parts : (a b c d : ℕ) → a < 256 → b < 256
    → (portions_of (word_of a b c d) ≡ a + b * 256) × (diet_of (word_of a b c d) ≡ c + d * 256)
unfolding portions_of diet_of word_of
value_parts a b c d h k = (omega arith, omega arith)

-- ---- a record's parts: refusal 4, refusal 5, or the event
module _ (n t kind a b r v : ℕ) where
  pub parts_unknown : one_to 6 kind ≡ false → parts_of n t kind a b r v ≡ Err Kind
  unfolding parts_of
  parts_unknown e = select_off _ _ _ e

  pub parts_unfit : one_to 6 kind ≡ true → fields n t kind a b r v ≡ false
      → parts_of n t kind a b r v ≡ Err Field
  unfolding parts_of
  parts_unfit e f = select_on _ _ _ e ∙ select_off _ _ _ f

  pub parts_got : one_to 6 kind ≡ true → fields n t kind a b r v ≡ true
      → parts_of n t kind a b r v ≡ Ok (event_of kind (a - 1) (b - 1) r v)
  unfolding parts_of
  parts_got e f = select_on _ _ _ e ∙ select_on _ _ _ f

-- ---- bytes: refusal 3, or the parts
module _ (n t : ℕ) (l : List ℕ) where
  read_size : length l ≢ 8 → read_of n t l ≡ Err Length
  unfolding read_of
  read_size h = select_off _ _ _ (same_off (length l) 8 h)

  read_parts : length l ≡ 8
      → read_of n t l ≡ parts_of n t (get_or l 0 0) (get_or l 1 0) (get_or l 2 0) (get_or l 3 0) (value_of l)
  unfolding read_of
  read_parts h = select_on _ _ _ (same_mk (length l) 8 h)

-- what an event was decoded from
pub record From (n t : ℕ) (l : List ℕ) (e : Event) : Type 0 where
  pub size : length l ≡ 8
  pub kind : one_to 6 (get_or l 0 0) ≡ true
  pub fit : fields n t (get_or l 0 0) (get_or l 1 0) (get_or l 2 0) (get_or l 3 0) (value_of l) ≡ true
  pub event : e ≡ event_of (get_or l 0 0) (get_or l 1 0 - 1) (get_or l 2 0 - 1) (get_or l 3 0) (value_of l)

-- refused for one of the numbers 3, 4 and 5, or got
data Outcome (n t : ℕ) (l : List ℕ) : Type 0 where
  refused_by : (r : Refusal) → (3 ≤ refusal_number r) × (refusal_number r ≤ 5) → read_of n t l ≡ Err r → Outcome n t l
  got_from : (e : Event) → From n t l e → read_of n t l ≡ Ok e → Outcome n t l

outcome : (n t : ℕ) (l : List ℕ) → Outcome n t l
outcome n t l = sized (is (same (length l) 8))
  where
    fitting : length l ≡ 8 → one_to 6 (get_or l 0 0) ≡ true
        → Is (fields n t (get_or l 0 0) (get_or l 1 0) (get_or l 2 0) (get_or l 3 0) (value_of l)) → Outcome n t l
    fitting h k (on p) =
        got_from _ (record { size = h; kind = k; fit = p; event = refl })
        (read_parts n t l h ∙ parts_got n t (get_or l 0 0) (get_or l 1 0) (get_or l 2 0) (get_or l 3 0) (value_of l) k p)
    fitting h k (off p) =
        refused_by Field (omega arith, omega arith)
        (read_parts n t l h ∙ parts_unfit n t (get_or l 0 0) (get_or l 1 0) (get_or l 2 0) (get_or l 3 0) (value_of l) k p)

    known : length l ≡ 8 → Is (one_to 6 (get_or l 0 0)) → Outcome n t l
    known h (on k) = fitting h k (is (fields n t (get_or l 0 0) (get_or l 1 0) (get_or l 2 0) (get_or l 3 0) (value_of l)))
    known h (off k) =
        refused_by Kind (omega arith, omega arith)
        (read_parts n t l h ∙ parts_unknown n t (get_or l 0 0) (get_or l 1 0) (get_or l 2 0) (get_or l 3 0) (value_of l) k)

    sized : Is (same (length l) 8) → Outcome n t l
    sized (on h) = known (same_on (length l) 8 h) (is (one_to 6 (get_or l 0 0)))
    sized (off h) = refused_by Length (omega arith, omega arith) (read_size n t l (same_not (length l) 8 h))

pub read_from : (n t : ℕ) (l : List ℕ) (e : Event) → read_of n t l ≡ Ok e → From n t l e
read_from n t l e p = go (outcome n t l)
  where
    go : Outcome n t l → From n t l e
    go (refused_by k h q) = absurd (let z : ◌≡◌ {A = ℕ} 0 1 = cc in omega arith)
    go (got_from e' f q) = let z : e' ≡ e = cc in rw z at f

pub read_refused : (n t : ℕ) (l : List ℕ) (r : Refusal) → read_of n t l ≡ Err r
    → (3 ≤ refusal_number r) × (refusal_number r ≤ 5)
read_refused n t l r p = go (outcome n t l)
  where
    go : Outcome n t l → (3 ≤ refusal_number r) × (refusal_number r ≤ 5)
    go (refused_by r' h q) = let z : r' ≡ r = cc in rw z at h
    go (got_from e f q) = absurd (let z : ◌≡◌ {A = ℕ} 0 1 = cc in omega arith)

-- ---- refusal 15, of what was read
module _ (e : Event) where
  pub diet_fit : start_fits e ≡ true → check_diet (Ok e) ≡ Ok e
  unfolding check_diet
  diet_fit h = select_on _ _ _ h

  pub diet_unfit : start_fits e ≡ false → check_diet (Ok e) ≡ Err Diet
  unfolding check_diet
  diet_unfit h = select_off _ _ _ h

pub diet_refused : (r : Refusal) → check_diet (Err r) ≡ Err r
unfolding check_diet
diet_refused r = refl

-- no record of another kind has one
others_fit : (a b : ℕ) (m : Message) (x y z u : Bool)
    → start_fits (select x (Send a b) (select y (Arrive a b m) (select z (Close a) (select u (Crash a) (Suspect a b)))))
    ≡ true
unfolding start_fits select
others_fit a b m true y z u = refl
others_fit a b m false true z u = refl
others_fit a b m false false true u = refl
others_fit a b m false false false true = refl
others_fit a b m false false false false = refl

-- of a record's kind and value, as the code tests it
pub start_fits_lem : (kind a b r v : ℕ)
    → start_fits (event_of kind a b r v) ≡ (not (same kind 1) or diet_fits (Some (value_in v)))
unfolding start_fits event_of
start_fits_lem kind a b r v = go (is (same kind 1))
  where
    go : Is (same kind 1) → start_fits (event_of kind a b r v) ≡ (not (same kind 1) or diet_fits (Some (value_in v)))
    go (on e) = ap start_fits (select_on _ _ _ e) ∙ sym (or_off_l _ _ (ap not e))
    go (off e) = ap start_fits (select_off _ _ _ e) ∙ others_fit _ _ _ _ _ _ _ ∙ sym (or_mk_l _ _ (ap not e))

-- a record of a known kind: refusal 5, refusal 15, or the event
module _ (n t kind a b r v : ℕ) (known : one_to 6 kind ≡ true) where
  pub checked_unfit : fields n t kind a b r v ≡ false
      → check_diet (parts_of n t kind a b r v) ≡ Err Field
  checked_unfit f = ap check_diet (parts_unfit n t kind a b r v known f) ∙ diet_refused _

  pub checked_diet : fields n t kind a b r v ≡ true → (not (same kind 1) or diet_fits (Some (value_in v))) ≡ false
      → check_diet (parts_of n t kind a b r v) ≡ Err Diet
  checked_diet f d =
      ap check_diet (parts_got n t kind a b r v known f) ∙ diet_unfit _ (start_fits_lem kind (a - 1) (b - 1) r v ∙ d)

  pub checked_got : fields n t kind a b r v ≡ true → (not (same kind 1) or diet_fits (Some (value_in v))) ≡ true
      → check_diet (parts_of n t kind a b r v) ≡ Ok (event_of kind (a - 1) (b - 1) r v)
  checked_got f d =
      ap check_diet (parts_got n t kind a b r v known f) ∙ diet_fit _ (start_fits_lem kind (a - 1) (b - 1) r v ∙ d)

-- what is decoded was read, and passes
pub decode_read : (n t : ℕ) (l : List ℕ) (e : Event) → decode_of n t l ≡ Ok e
    → (read_of n t l ≡ Ok e) × (start_fits e ≡ true)
unfolding decode_of
decode_read n t l e p = go (read_of n t l) p
  where
    go : (d : Result Event Refusal) → check_diet d ≡ Ok e → (d ≡ Ok e) × (start_fits e ≡ true)
    go (Ok e') p = fit e' p (is (start_fits e'))
      where
        fit : (e' : Event) → check_diet (Ok e') ≡ Ok e → Is (start_fits e')
            → (◌≡◌ {A = Result Event Refusal} (Ok e') (Ok e)) × (start_fits e ≡ true)
        fit e' p (on h) =
            let q : ◌≡◌ {A = Result Event Refusal} (Ok e') (Ok e) = sym (diet_fit e' h) ∙ p in
            let z : e' ≡ e = cc in (q, rw z at h)
        fit e' p (off h) =
            let q : ◌≡◌ {A = Result Event Refusal} (Err Diet) (Ok e) = sym (diet_unfit e' h) ∙ p in
            absurd (let z : ◌≡◌ {A = ℕ} 0 1 = cc in omega arith)
    go (Err r) p =
        let q : ◌≡◌ {A = Result Event Refusal} (Err r) (Ok e) = sym (diet_refused r) ∙ p in
        absurd (let z : ◌≡◌ {A = ℕ} 0 1 = cc in omega arith)

module _ (n t : ℕ) (l : List ℕ) where
  pub decode_size : length l ≢ 8 → decode_of n t l ≡ Err Length
  unfolding decode_of
  decode_size h = ap check_diet (read_size n t l h) ∙ diet_refused _

  pub decode_parts : length l ≡ 8
      → decode_of n t l ≡ check_diet (parts_of n t (get_or l 0 0) (get_or l 1 0) (get_or l 2 0) (get_or l 3 0) (value_of l))
  unfolding decode_of
  decode_parts h = ap check_diet (read_parts n t l h)

  pub decode_from : (e : Event) → decode_of n t l ≡ Ok e → From n t l e
  decode_from e p = read_from n t l e (decode_read n t l e p).0

  -- 3, 4, 5 or 15
  pub decode_refused : (r : Refusal) → decode_of n t l ≡ Err r → refusal_number r ≢ 0
  unfolding decode_of
  decode_refused r p = go (read_of n t l) refl p
    where
      unfit : (e : Event) → Is (start_fits e) → check_diet (Ok e) ≡ Err r → refusal_number r ≢ 0
      unfit e (on h) q =
          let z : ◌≡◌ {A = Result Event Refusal} (Ok e) (Err r) = sym (diet_fit e h) ∙ q in
          absurd (let y : ◌≡◌ {A = ℕ} 0 1 = cc in omega arith)
      unfit e (off h) q =
          let z : ◌≡◌ {A = Result Event Refusal} (Err Diet) (Err r) = sym (diet_unfit e h) ∙ q in
          let y : Diet ≡ r = cc in λ w. omega (arith, number_range r, w)

      go : (d : Result Event Refusal) → read_of n t l ≡ d → check_diet d ≡ Err r → refusal_number r ≢ 0
      go (Ok e) u q = unfit e (is (start_fits e)) q
      go (Err r') u q =
          let z : Err r' ≡ Err r = sym (diet_refused r') ∙ q in
          let y : r' ≡ r = cc in
          let b = rw y at (read_refused n t l r' u) in λ w. omega (arith, b.0, w)

-- ---- what a decoded event ranges over: processes below n, a sender and a receiver that differ, rounds 1 to t + 1
unfoldable pub MessageIn : ℕ → Message → Type 0
MessageIn t (Estimate r) = (1 ≤ r) × (r ≤ t + 1)
MessageIn t Decision = Unit

pub record Pair (n a b : ℕ) : Type 0 where
  pub first : a < n
  pub second : b < n
  pub differ : a ≢ b

unfoldable pub InRange : ℕ → ℕ → Event → Type 0
InRange n t (Start a v) = a < n
InRange n t (Send a b) = Pair n a b
InRange n t (Arrive a b m) = Pair n a b × MessageIn t m
InRange n t (Close a) = a < n
InRange n t (Crash a) = a < n
InRange n t (Suspect a b) = Pair n a b

process_on : (n x : ℕ) → one_to n x ≡ true → (0 < x) × (x ≤ n)
process_on n x e = (one_low n x e, one_high n x e)

pair_on : (n a b : ℕ) → one_to n a ≡ true → (one_to n b and not (same a b)) ≡ true → Pair n (a - 1) (b - 1)
pair_on n a b p q =
    let x = process_on n a p in
    let y = process_on n b (and_first (one_to n b) (not (same a b)) q) in
    let d = same_not a b (not_on (same a b) (and_second (one_to n b) (not (same a b)) q)) in
    record {
      first = omega (arith, x.0, x.1);
      second = omega (arith, y.0, y.1);
      differ = λ e. d (omega (arith, x.0, y.0));
    }

message_on : (t r : ℕ) → less r (t + 2) ≡ true → MessageIn t (message_from r)
unfolding message_from MessageIn
message_on t r e = go (is (same r 0))
  where
    go : Is (same r 0) → MessageIn t (message_from r)
    go (on z) = rw (select_on (same r 0) Decision (Estimate r) z) tt
    go (off z) =
        rw (select_off (same r 0) Decision (Estimate r) z) (omega (arith, same_not r 0 z, less_on r (t + 2) e))

-- what holds of the kinds 1 to 6 holds of each kind
six : (P : ℕ → Type 0) → P 1 → P 2 → P 3 → P 4 → P 5 → P 6 → (k : ℕ) → one_to 6 k ≡ true → P k
six P p1 p2 p3 p4 p5 p6 k e = go k (one_low 6 k e) (one_high 6 k e)
  where
    go : (k : ℕ) → 1 ≤ k → k ≤ 6 → P k
    go zero a b = absurd (omega arith)
    go (suc zero) a b = p1
    go (suc (suc zero)) a b = p2
    go (suc (suc (suc zero))) a b = p3
    go (suc (suc (suc (suc zero)))) a b = p4
    go (suc (suc (suc (suc (suc zero))))) a b = p5
    go (suc (suc (suc (suc (suc (suc zero)))))) a b = p6
    go (suc (suc (suc (suc (suc (suc (suc k))))))) a b = absurd (omega arith)

fields_range : (n t a b r v kind : ℕ) → one_to 6 kind ≡ true → fields n t kind a b r v ≡ true
    → InRange n t (event_of kind (a - 1) (b - 1) r v)
unfolding fields uses_b event_of InRange same ◌or◌ select
fields_range n t a b r v =
    six (λ kind. fields n t kind a b r v ≡ true → InRange n t (event_of kind (a - 1) (b - 1) r v))
    (alone _) (pair _) (arrival _) (alone _) (alone _) (pair _)
  where
    alone : (y : Bool) → (one_to n a and y) ≡ true → a - 1 < n
    alone y e = let p = process_on n a (and_first (one_to n a) y e) in omega (arith, p.0, p.1)

    pair : (y : Bool) → (one_to n a and ((one_to n b and not (eqb a b)) and y)) ≡ true → Pair n (a - 1) (b - 1)
    pair y e =
        let q = one_to n b and not (eqb a b) in
        pair_on n a b (and_first (one_to n a) (q and y) e) (and_first q y (and_second (one_to n a) (q and y) e))

    arrival : (y : Bool) → (one_to n a and ((one_to n b and not (eqb a b)) and (less r (t + 2) and y))) ≡ true
        → Pair n (a - 1) (b - 1) × MessageIn t (message_from r)
    arrival y e =
        let q = one_to n b and not (eqb a b) in
        let z = less r (t + 2) in (
          pair (z and y) e,
          message_on t r
              (and_first z y (and_second q (z and y) (and_second (one_to n a) (q and (z and y)) e))),
        )

pub read_range : (n t : ℕ) (l : List ℕ) (e : Event) → read_of n t l ≡ Ok e → InRange n t e
read_range n t l e p =
    let f = read_from n t l e p in
    rw f.event (fields_range n t (get_or l 1 0) (get_or l 2 0) (get_or l 3 0) (value_of l) (get_or l 0 0) f.kind f.fit)

pub decode_range : (n t : ℕ) (l : List ℕ) (e : Event) → decode_of n t l ≡ Ok e → InRange n t e
decode_range n t l e p = read_range n t l e (decode_read n t l e p).0

-- ---- the bytes of an event
unfoldable pub bytes_of : ℕ → ℕ → ℕ → ℕ → ℕ → List ℕ
bytes_of kind a b r v =
    kind ∷ a ∷ b ∷ r ∷ v % 256 ∷ v / 256 % 256 ∷ v / 65536 % 256 ∷ v / 16777216 % 256 ∷ []

unfoldable pub encode_of : Event → List ℕ
encode_of (Start a v) = bytes_of 1 (a + 1) 0 0 v
encode_of (Send a b) = bytes_of 2 (a + 1) (b + 1) 0 0
encode_of (Arrive a b (Estimate r)) = bytes_of 3 (a + 1) (b + 1) r 0
encode_of (Arrive a b Decision) = bytes_of 3 (a + 1) (b + 1) 0 0
encode_of (Close a) = bytes_of 4 (a + 1) 0 0 0
encode_of (Crash a) = bytes_of 5 (a + 1) 0 0 0
encode_of (Suspect a b) = bytes_of 6 (a + 1) (b + 1) 0 0

-- a value has 32 bits, and its diet portions do not exceed its portions
unfoldable pub ValueFits : Event → Type 0
ValueFits (Start a v) = (v < 4294967296) × (diet_fits (Some (value_in v)) ≡ true)
ValueFits (Send a b) = Unit
ValueFits (Arrive a b m) = Unit
ValueFits (Close a) = Unit
ValueFits (Crash a) = Unit
ValueFits (Suspect a b) = Unit

-- so has 0
pub zero_fits : (a : ℕ) → ValueFits (Start a 0)
unfolding ValueFits portions_of diet_of
zero_fits a = (lit< tt, fits_mk _ (omega arith))

-- the digits of v, each quotient taken from the one before
four : (v a b c : ℕ) → a ≡ v / 256 → b ≡ a / 256 → c ≡ b / 256 → v < 4294967296
    → v % 256 + a % 256 * 256 + b % 256 * 65536 + c % 256 * 16777216 ≡ v
four v a b c p q r h = omega arith

word_digits : (v : ℕ) → v < 4294967296 → word_of (v % 256) (v / 256 % 256) (v / 65536 % 256) (v / 16777216 % 256) ≡ v
unfolding word_of
word_digits v h =
    four v (v / 256) (v / 65536) (v / 16777216) refl (sym (div-div-eq-div-mul v 256 256))
    (sym (div-div-eq-div-mul v 65536 256)) h

-- the fields of an event in range
process_mk : (n a : ℕ) → a < n → one_to n (a + 1) ≡ true
process_mk n a h = one_mk n (a + 1) (omega arith) (omega arith)

pair_mk : (n a b : ℕ) → Pair n a b → (one_to n (b + 1) and not (same (a + 1) (b + 1))) ≡ true
pair_mk n a b p =
    and_mk (one_to n (b + 1)) (not (same (a + 1) (b + 1))) (process_mk n b p.second)
    (ap not (same_off (a + 1) (b + 1) (λ e. p.differ (omega (arith, e)))))

-- bytes whose parts pass each test, with a and b given from 0
read_bytes : (n t kind a b x r v : ℕ) → b - 1 ≡ x → v < 4294967296 → one_to 6 kind ≡ true → a < n
    → select (uses_b kind) (one_to n b and not (same (a + 1) b)) (same b 0) ≡ true
    → select (same kind 3) (less r (t + 2)) (same r 0) ≡ true → (same kind 1 or same v 0) ≡ true
    → read_of n t (bytes_of kind (a + 1) b r v) ≡ Ok (event_of kind a x r v)
unfolding bytes_of value_of fields
read_bytes n t kind a b x r v e h k l p q w =
    read_parts n t (bytes_of kind (a + 1) b r v) refl ∙ ap (parts_of n t kind (a + 1) b r) (word_digits v h)
    ∙ parts_got n t kind (a + 1) b r v k (and_mk _ _ (process_mk n a l) (and_mk _ _ p (and_mk _ _ q w)))
    ∙ ap₂ (λ y z. Ok (event_of kind y z r v)) (omega arith) e

-- every event in range is read from its bytes
read_encode : (n t : ℕ) (e : Event) → InRange n t e → ValueFits e → read_of n t (encode_of e) ≡ Ok e
unfolding InRange ValueFits encode_of uses_b event_of message_from MessageIn same
    less select ◌or◌
read_encode n t (Start a v) h f =
    read_bytes n t 1 a 0 0 0 v refl f.0 (one_mk 6 1 (omega arith) (omega arith)) h refl refl refl
read_encode n t (Send a b) h f =
    read_bytes n t 2 a (b + 1) b 0 0 (omega arith) (lit< tt) (one_mk 6 2 (omega arith) (omega arith)) h.first
    (pair_mk n a b h) refl refl
read_encode n t (Arrive a b (Estimate r)) h f =
    read_bytes n t 3 a (b + 1) b r 0 (omega arith) (lit< tt) (one_mk 6 3 (omega arith) (omega arith)) h.0.first
    (pair_mk n a b h.0)
    (less_mk r (t + 2) (omega (arith, h.1.1))) refl
    ∙ ap (λ m. Ok (Arrive a b m))
    (select_off (same r 0) Decision (Estimate r) (same_off r 0 (λ e. omega (arith, h.1.0))))
read_encode n t (Arrive a b Decision) h f =
    read_bytes n t 3 a (b + 1) b 0 0 (omega arith) (lit< tt) (one_mk 6 3 (omega arith) (omega arith)) h.0.first
    (pair_mk n a b h.0)
    (less_mk 0 (t + 2) (omega arith)) refl
read_encode n t (Close a) h f =
    read_bytes n t 4 a 0 0 0 0 refl (lit< tt) (one_mk 6 4 (omega arith) (omega arith)) h refl refl refl
read_encode n t (Crash a) h f =
    read_bytes n t 5 a 0 0 0 0 refl (lit< tt) (one_mk 6 5 (omega arith) (omega arith)) h refl refl refl
read_encode n t (Suspect a b) h f =
    read_bytes n t 6 a (b + 1) b 0 0 (omega arith) (lit< tt) (one_mk 6 6 (omega arith) (omega arith)) h.first
    (pair_mk n a b h) refl refl

value_start : (e : Event) → ValueFits e → start_fits e ≡ true
unfolding ValueFits start_fits
value_start (Start a v) f = f.1
value_start (Send a b) f = refl
value_start (Arrive a b m) f = refl
value_start (Close a) f = refl
value_start (Crash a) f = refl
value_start (Suspect a b) f = refl

-- and decoded from them
pub decode_back : (n t : ℕ) (e : Event) → InRange n t e → ValueFits e → decode_of n t (encode_of e) ≡ Ok e
unfolding decode_of
decode_back n t e h f = ap check_diet (read_encode n t e h f) ∙ diet_fit e (value_start e f)

-- they are 8, and each of them is a byte
pub encode_size : (e : Event) → length (encode_of e) ≡ 8
unfolding encode_of bytes_of
encode_size (Start a v) = refl
encode_size (Send a b) = refl
encode_size (Arrive a b (Estimate r)) = refl
encode_size (Arrive a b Decision) = refl
encode_size (Close a) = refl
encode_size (Crash a) = refl
encode_size (Suspect a b) = refl

bytes_low : (kind a b r v : ℕ) → kind < 256 → a < 256 → b < 256 → r < 256 → (i : ℕ)
    → get_or (bytes_of kind a b r v) i 0 < 256
unfolding bytes_of
bytes_low kind a b r v hk ha hb hr zero = hk
bytes_low kind a b r v hk ha hb hr (suc zero) = ha
bytes_low kind a b r v hk ha hb hr (suc (suc zero)) = hb
bytes_low kind a b r v hk ha hb hr (suc (suc (suc zero))) = hr
bytes_low kind a b r v hk ha hb hr (suc (suc (suc (suc zero)))) = omega arith
bytes_low kind a b r v hk ha hb hr (suc (suc (suc (suc (suc zero))))) = omega arith
bytes_low kind a b r v hk ha hb hr (suc (suc (suc (suc (suc (suc zero)))))) = omega arith
bytes_low kind a b r v hk ha hb hr (suc (suc (suc (suc (suc (suc (suc zero))))))) = omega arith
bytes_low kind a b r v hk ha hb hr (suc (suc (suc (suc (suc (suc (suc (suc i)))))))) = lit< tt

pub encode_byte : (n t : ℕ) → n ≤ 16 → t < n → (e : Event) → InRange n t e → (i : ℕ) → get_or (encode_of e) i 0 < 256
unfolding InRange encode_of MessageIn
encode_byte n t hn ht (Start a v) h = bytes_low 1 (a + 1) 0 0 v (lit< tt) (omega arith) (lit< tt) (lit< tt)
encode_byte n t hn ht (Send a b) h = bytes_low 2 (a + 1) (b + 1) 0 0 (lit< tt) (omega arith) (omega arith) (lit< tt)
encode_byte n t hn ht (Arrive a b (Estimate r)) h =
    bytes_low 3 (a + 1) (b + 1) r 0 (lit< tt) (omega arith) (omega arith) (omega arith)
encode_byte n t hn ht (Arrive a b Decision) h =
    bytes_low 3 (a + 1) (b + 1) 0 0 (lit< tt) (omega arith) (omega arith) (lit< tt)
encode_byte n t hn ht (Close a) h = bytes_low 4 (a + 1) 0 0 0 (lit< tt) (omega arith) (lit< tt) (lit< tt)
encode_byte n t hn ht (Crash a) h = bytes_low 5 (a + 1) 0 0 0 (lit< tt) (omega arith) (lit< tt) (lit< tt)
encode_byte n t hn ht (Suspect a b) h = bytes_low 6 (a + 1) (b + 1) 0 0 (lit< tt) (omega arith) (omega arith) (lit< tt)
