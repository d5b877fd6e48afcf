-- Laws of sets of processes: who is a member after each operation, sets with the same
-- members are one, bounds and sizes.
-- Each operation works on the digits 0 and 1 apart, so a law of membership is a table of four lines.
use Rattle.std.specs.Prelude.{◌≡◌, refl, ◌⊎◌, Bool, true, false, not, ℕ, zero, suc, ◌+◌, ◌-◌, ◌*◌, ◌/◌, ◌%◌, ◌^◌, ◌≤◌, ◌<◌, min, max}
use Rattle.std.proofs.Common.{sym, ap, ap₂, ◌∙◌, inl, inr, ⊎_elim, pow-suc, one-mul, mul-div_cancel, arith, lit<, pow_pos, pow_mono, pow-add, shr-shr, shl_exact}
use Rattle.std.proofs.Math.Bool.{Bool-discrete}
use Rattle.std.proofs.Math.Nat.{div_self, div-eq_of_lt}
use Rattle.std.proofs.Math.Arith.{lt-one, digits_div, digits_mod, bin_ind}
use Rattle.std.specs.Int.Bits.{bit_and, bit_or, bit_xor, differ, and_step, or_step, xor_step, or_add_and, xor_add_and}
use Rattle.std.specs.Int.Bits.{and_self}
use Rattle.std.proofs.lemmas.Nat.{and_shr, or_shr, xor_shr, and_le_l, and_le_r, or_lt, xor_lt, ones_cat, ones-le}
use Rattle.std.proofs.lemmas.Nat.{and_comm, and_assoc, and-not}
use Rattle.std.specs.Int.Count.{ones, ones_step, ones-ones}
use Rattle.std.proofs.Math.Pow.{pow-lt, ones_split, ones_lt, high}
use Rattle.sets.specs.Truth.{◌and◌, ◌or◌, same, less, bit}
use Rattle.sets.specs.TruthLaws.{Is, on, off, is, off_by, by_both, and_on_l, and_on_r, and_off_l}
use Rattle.sets.specs.TruthLaws.{and_off_r, not_on, not_off, same_mk, same_on, less_mk, less_off, le-or, eq-or}
use Rattle.sets.specs.Lists.{count_to}
use Rattle.sets.specs.CountLaws.{count_first, count_cong, count_mono}
use Rattle.sets.specs.Set.{has, insert_of, remove_of, union_of, intersection_of, difference_of, all_of, size_of}

-- ---- digits
abbrev digit : ℕ → ℕ → ℕ
digit m i = m / 2 ^ i % 2

-- what holds of the four pairs of digits holds of any two
table : (P : ℕ → ℕ → Type 0) → P 0 0 → P 0 1 → P 1 0 → P 1 1 → (x y : ℕ) → x < 2 → y < 2 → P x y
table P p q r s zero zero hx hy = p
table P p q r s zero (suc zero) hx hy = q
table P p q r s (suc zero) zero hx hy = r
table P p q r s (suc zero) (suc zero) hx hy = s
table P p q r s zero (suc (suc y)) hx hy = absurd (omega arith)
table P p q r s (suc x) (suc (suc y)) hx hy = absurd (omega arith)
table P p q r s (suc (suc x)) zero hx hy = absurd (omega arith)
table P p q r s (suc (suc x)) (suc zero) hx hy = absurd (omega arith)

digit_by : (op f : ℕ → ℕ → ℕ) → ((a b : ℕ) → op a b ≡ op (a / 2) (b / 2) * 2 + f (a % 2) (b % 2))
    → ((a b k : ℕ) → op a b / 2 ^ k ≡ op (a / 2 ^ k) (b / 2 ^ k)) → ((x y : ℕ) → x < 2 → y < 2 → f x y < 2)
    → (a b i : ℕ) → digit (op a b) i ≡ f (digit a i) (digit b i)
digit_by op f step shr lt a b i =
    ap (λ (x : ℕ). x % 2) (shr a b i ∙ step (a / 2 ^ i) (b / 2 ^ i))
    ∙ digits_mod (op (a / 2 ^ i / 2) (b / 2 ^ i / 2)) (lt (digit a i) (digit b i) (omega arith) (omega arith))

digit_or : (a b i : ℕ) → digit (bit_or a b) i ≡ max (digit a i) (digit b i)
digit_or = digit_by bit_or max or_step or_shr (λ x y hx hy. omega arith)

digit_and : (a b i : ℕ) → digit (bit_and a b) i ≡ min (digit a i) (digit b i)
digit_and = digit_by bit_and min and_step and_shr (λ x y hx hy. omega arith)

digit_xor : (a b i : ℕ) → digit (bit_xor a b) i ≡ differ (digit a i) (digit b i)
digit_xor =
    digit_by bit_xor differ xor_step xor_shr
    (table (λ (x y : ℕ). differ x y < 2) (lit< tt) (lit< tt) (lit< tt) (lit< tt))

digit-bit : (m i : ℕ) → digit m i ≡ bit (has m i)
unfolding has bit same
digit-bit m i =
    table (λ (x y : ℕ). x ≡ bit (same x 1)) refl refl refl refl (digit m i) 0 (omega arith) (omega arith)

pub has_half : (m i : ℕ) → has (m / 2) i ≡ has m (suc i)
unfolding has
has_half m i = ap (λ (x : ℕ). same (x % 2) 1) (shr-shr m 1 i ∙ ap (λ (k : ℕ). m / 2 ^ k) (omega arith))

-- ---- membership after union, intersection and difference
pub has_union : (a b i : ℕ) → has (union_of a b) i ≡ (has a i or has b i)
unfolding has union_of same ◌or◌
has_union a b i =
    ap (λ (x : ℕ). same x 1) (digit_or a b i)
    ∙ table (λ (x y : ℕ). same (max x y) 1 ≡ (same x 1 or same y 1)) refl refl refl refl (digit a i) (digit b i)
    (omega arith) (omega arith)

pub has_intersection : (a b i : ℕ) → has (intersection_of a b) i ≡ (has a i and has b i)
unfolding has intersection_of same ◌and◌
has_intersection a b i =
    ap (λ (x : ℕ). same x 1) (digit_and a b i)
    ∙ table (λ (x y : ℕ). same (min x y) 1 ≡ (same x 1 and same y 1)) refl refl refl refl (digit a i) (digit b i)
    (omega arith) (omega arith)

pub has_difference : (a b i : ℕ) → has (difference_of a b) i ≡ (has a i and not (has b i))
unfolding has difference_of same ◌and◌
has_difference a b i =
    ap (λ (x : ℕ). same x 1) (digit_xor a (bit_and a b) i ∙ ap (differ (digit a i)) (digit_and a b i))
    ∙ table (λ (x y : ℕ). same (differ x (min x y)) 1 ≡ (same x 1 and not (same y 1))) refl refl refl refl (digit a i)
    (digit b i) (omega arith) (omega arith)

-- ---- the empty set, one process, all
pub has_low : (n m i : ℕ) → m < 2 ^ n → has m i ≡ true → i < n
unfolding has
has_low n m i h e =
    ⊎_elim
    (λ l.
    absurd (omega (arith, div-eq_of_lt {n = m} {m = 2 ^ i} (omega (arith, pow_mono l)), same_on (digit m i) 1 e)))
    (λ l. l) (le-or n i)

-- no member past the bound
pub has_past : (n m i : ℕ) → m < 2 ^ n → n ≤ i → has m i ≡ false
has_past n m i h l = off_by (has m i) (λ e. omega (arith, has_low n m i h e))

pub has_empty : (i : ℕ) → has 0 i ≡ false
has_empty i = has_past 0 0 i (lit< tt) (omega arith)

pub nothing_in : (m : ℕ) → m ≡ 0 → (i : ℕ) → has m i ≡ false
nothing_in m e i = rw e (has_empty i)

has-digit : (m i : ℕ) → digit m i ≡ 1 → has m i ≡ true
unfolding has
has-digit m i e = same_mk (digit m i) 1 e

pow_low : (i j : ℕ) → j < i → digit (2 ^ i) j ≡ 0
pow_low i j h =
    let e : i ≡ suc (i - suc j) + j = omega arith in
    let f : 2 ^ i ≡ 2 ^ (i - suc j) * 2 * 2 ^ j =
    ap (λ (k : ℕ). 2 ^ k) e ∙ pow-add 2 (suc (i - suc j)) j ∙ ap (λ (x : ℕ). x * 2 ^ j) (pow-suc 2 (i - suc j)) in
    ap (λ (x : ℕ). x / 2 ^ j % 2) f ∙ ap (λ (x : ℕ). x % 2) (mul-div_cancel (2 ^ (i - suc j) * 2) (pow_pos j))
    ∙ omega arith

has_one : (i j : ℕ) → has (2 ^ i) j ≡ same j i
unfolding has
has_one i j =
    by_both (has (2 ^ i) j) (same j i)
    (λ e.
    let l : j < suc i = has_low (suc i) (2 ^ i) j (pow-lt (omega arith)) e in
    same_mk j i (⊎_elim (λ k. omega arith)
    (λ k. absurd (omega (arith, pow_low i j k, same_on (digit (2 ^ i) j) 1 e))) (le-or i j)))
    (λ e. rw (same_on j i e) (has-digit (2 ^ i) i (ap (λ (x : ℕ). x % 2) (div_self (pow_pos i)))))

or_swap : (a b : Bool) → (a or b) ≡ (b or a)
unfolding ◌or◌
or_swap true true = refl
or_swap true false = refl
or_swap false true = refl
or_swap false false = refl

pub has_insert : (m i j : ℕ) → has (insert_of m i) j ≡ (same j i or has m j)
unfolding insert_of union_of
has_insert m i j = has_union m (2 ^ i) j ∙ ap (λ (b : Bool). has m j or b) (has_one i j) ∙ or_swap (has m j) (same j i)

pub has_remove : (m i j : ℕ) → has (remove_of m i) j ≡ (has m j and not (same j i))
unfolding remove_of
has_remove m i j = has_difference m (2 ^ i) j ∙ ap (λ (b : Bool). has m j and not b) (has_one i j)

pub all_lt : (n : ℕ) → all_of n < 2 ^ n
unfolding all_of
all_lt n = ones_lt n

all_digit : (n i : ℕ) → i < n → digit (2 ^ n - 1) i ≡ 1
all_digit n i h =
    let e : n ≡ suc (n - suc i) + i = omega arith in
    let f : 2 ^ n - 1 ≡ (2 ^ suc (n - suc i) - 1) * 2 ^ i + (2 ^ i - 1) =
    ap (λ (k : ℕ). 2 ^ k - 1) e ∙ ones_split (suc (n - suc i)) i in
    ap (λ (x : ℕ). x / 2 ^ i % 2) f ∙ ap (λ (x : ℕ). x % 2) (high (2 ^ suc (n - suc i) - 1) i (ones_lt i))
    ∙ omega (arith, pow-suc 2 (n - suc i), pow_pos (n - suc i))

pub has_all : (n i : ℕ) → has (all_of n) i ≡ less i n
unfolding all_of
has_all n i =
    ⊎_elim (λ l. has_past n (2 ^ n - 1) i (ones_lt n) l ∙ sym (less_off i n l))
    (λ l. has-digit (2 ^ n - 1) i (all_digit n i l) ∙ sym (less_mk i n l)) (le-or n i)

-- ---- sets with the same members are one
pub set_ext : (k a b : ℕ) → a < 2 ^ k → b < 2 ^ k → ((i : ℕ) → i < k → has a i ≡ has b i) → a ≡ b
set_ext zero a b ha hb h = lt-one ha ∙ sym (lt-one hb)
set_ext (suc k) a b ha hb h =
    let e : a / 2 ≡ b / 2 =
    set_ext k (a / 2) (b / 2) (omega (arith, pow-suc 2 k)) (omega (arith, pow-suc 2 k))
    (λ i l. has_half a i ∙ h (suc i) (omega arith) ∙ sym (has_half b i)) in
    let z : a / 1 % 2 ≡ b / 1 % 2 = digit-bit a 0 ∙ ap bit (h zero (omega arith)) ∙ sym (digit-bit b 0) in
    omega arith

pub empty_by : (n m : ℕ) → m < 2 ^ n → ((i : ℕ) → i < n → has m i ≡ false) → m ≡ 0
empty_by n m hm h = set_ext n m 0 hm (pow_pos n) (λ i l. h i l ∙ sym (has_empty i))

-- two tests agree on each number below n, or differ at one of them
agree_or : (n : ℕ) (p q : ℕ → Bool) → ((i : ℕ) → i < n → p i ≡ q i) ⊎ ((i : ℕ) × (i < n) × (p i ≡ q i → ⊥))
agree_or zero p q = inl (λ i l. absurd (omega arith))
agree_or (suc n) p q = go (agree_or n p q) (Bool-discrete (p n) (q n))
  where
    go : ((i : ℕ) → i < n → p i ≡ q i) ⊎ ((i : ℕ) × (i < n) × (p i ≡ q i → ⊥)) → Dec (p n ≡ q n)
        → ((i : ℕ) → i < suc n → p i ≡ q i) ⊎ ((i : ℕ) × (i < suc n) × (p i ≡ q i → ⊥))
    go (inl h) (yes e) =
        inl (λ i l. ⊎_elim (λ u. rw u e) (λ u. h i (omega arith)) (eq-or i n))
    go (inl h) (no d) = inr (n, omega arith, d)
    go (inr w) d = inr (w.0, omega (arith, w.1), w.2)

-- two sets that are not the same differ at some process
pub split_differ : (n a b : ℕ) → a < 2 ^ n → b < 2 ^ n → (a ≡ b → ⊥) → (i : ℕ) × (i < n) × (has a i ≡ has b i → ⊥)
split_differ n a b ha hb d =
    ⊎_elim (λ h. absurd (d (set_ext n a b ha hb h))) (λ w. w) (agree_or n (has a) (has b))

-- so a set that is not empty has a member: it lies below some power of two
pow_above : (m : ℕ) → m < 2 ^ m
pow_above zero = lit< tt
pow_above (suc m) = omega (arith, pow_above m, pow-suc 2 m)

pub member_of : (m : ℕ) → (m ≡ 0 → ⊥) → (i : ℕ) × (has m i ≡ true)
member_of m d =
    let w = split_differ m m 0 (pow_above m) (pow_pos m) d in
    (w.0, not_off _ (off_by _ (λ e. w.2 (not_on _ e ∙ sym (has_empty w.0)))))

-- ---- bounds
pub union_lt : (n a b : ℕ) → a < 2 ^ n → b < 2 ^ n → union_of a b < 2 ^ n
unfolding union_of
union_lt n a b ha hb = or_lt n a b ha hb

pub intersection_lt : (n a b : ℕ) → a < 2 ^ n → intersection_of a b < 2 ^ n
unfolding intersection_of
intersection_lt n a b ha = omega (arith, and_le_l a b)

pub difference_lt : (n a b : ℕ) → a < 2 ^ n → difference_of a b < 2 ^ n
unfolding difference_of
difference_lt n a b ha = xor_lt n a (bit_and a b) ha (omega (arith, and_le_l a b))

pub insert_lt : (n m i : ℕ) → m < 2 ^ n → i < n → insert_of m i < 2 ^ n
unfolding insert_of
insert_lt n m i hm hi = or_lt n m (2 ^ i) hm (pow-lt hi)

pub remove_lt : (n m i : ℕ) → m < 2 ^ n → remove_of m i < 2 ^ n
unfolding remove_of
remove_lt n m i hm = difference_lt n m (2 ^ i) hm

-- a set with no member past n is below 2 ^ n: it is its own part below n
pub members_low : (n m : ℕ) → m < 2 ^ 16 → ((i : ℕ) → i < 16 → has m i ≡ true → i < n) → m < 2 ^ n
unfolding intersection_of
members_low n m hm h = rw e (omega (arith, and_le_r m (all_of n), all_lt n))
  where
    part : (i : ℕ) → Is (has m i) → i < 16 → has m i ≡ (has m i and less i n)
    part i (on t) l = sym (and_on_r (has m i) (less i n) (less_mk i n (h i l t)))
    part i (off f) l = f ∙ sym (and_off_l (has m i) (less i n) f)

    e : m ≡ intersection_of m (all_of n)
    e = set_ext 16 m (intersection_of m (all_of n)) hm (intersection_lt 16 m (all_of n) hm)
        (λ i l.
        part i (is (has m i)) l ∙ sym (has_intersection m (all_of n) i
        ∙ ap (λ (b : Bool). has m i and b) (has_all n i)))

-- ---- the difference as the code makes it: a, and the digits that b lacks
pub and_not : (a b : ℕ) → a < 2 ^ 16 → b < 2 ^ 16 → bit_and a (65535 - b) ≡ difference_of a b
unfolding difference_of
and_not a b ha hb =
    omega (
      arith,
      and_comm a (65535 - b),
      and-not 16 b a hb ha,
      and_comm b a,
      xor_add_and a (bit_and a b),
      sym (and_assoc b a a) ∙ ap (λ (x : ℕ). bit_and x b) (and_self a),
    )

-- ---- sizes
pub size_empty : size_of 0 ≡ 0
unfolding size_of ones
size_empty = refl

pub size_count : (n m : ℕ) → m < 2 ^ n → size_of m ≡ count_to n (has m)
unfolding size_of count_to
size_count zero m h = rw (lt-one h) size_empty
size_count (suc n) m h =
    omega (
      arith,
      ones_step m,
      digit-bit m 0,
      count_first n (has m),
      size_count n (m / 2) (omega (arith, pow-suc 2 n)),
      count_cong n (has (m / 2)) (λ i. has m (suc i)) (λ i l. has_half m i),
    )

pub size_most : (n m : ℕ) → m < 2 ^ n → size_of m ≤ n
unfolding size_of
size_most n m h = ones-le n m h

pub size_all : (n : ℕ) → size_of (all_of n) ≡ n
unfolding size_of all_of
size_all n = ones-ones n

pub size_subset : (n a b : ℕ) → a < 2 ^ n → b < 2 ^ n → ((i : ℕ) → has a i ≡ true → has b i ≡ true)
    → size_of a ≤ size_of b
size_subset n a b ha hb h =
    omega (arith, size_count n a ha, size_count n b hb, count_mono n (has a) (has b) (λ i l. h i))

ones_two : (q d : ℕ) → d < 2 → ones (q * 2 + d) ≡ d + ones q
ones_two q d h = ones_step (q * 2 + d) ∙ ap₂ (λ (x y : ℕ). x + ones y) (digits_mod q h) (digits_div q h)

-- the two sets' sizes, with what they share counted twice
pub size_union : (a b : ℕ) → size_of (union_of a b) + size_of (intersection_of a b) ≡ size_of a + size_of b
unfolding size_of union_of intersection_of
size_union a =
    bin_ind (λ (n : ℕ). (b : ℕ) → ones (bit_or n b) + ones (bit_and n b) ≡ ones n + ones b) (λ b. omega arith)
    (λ n ih b.
    omega (
      arith,
      ih (b / 2),
      ones_step n,
      ones_step b,
      ap ones (or_step n b) ∙ ones_two (bit_or (n / 2) (b / 2)) (max (n % 2) (b % 2)) (omega arith),
      ap ones (and_step n b) ∙ ones_two (bit_and (n / 2) (b / 2)) (min (n % 2) (b % 2)) (omega arith),
    )) a

-- what m shares with the set of i alone
meet_one : (m i k : ℕ) → k < 2 ^ suc i → ((j : ℕ) → (has m j and same j i) ≡ has k j) → bit_and m (2 ^ i) ≡ k
unfolding intersection_of
meet_one m i k hk h =
    set_ext (suc i) (bit_and m (2 ^ i)) k
    (omega (arith, and_le_r m (2 ^ i), pow-lt {i = i} {j = suc i} (omega arith))) hk
    (λ j l. has_intersection m (2 ^ i) j ∙ ap (λ (b : Bool). has m j and b) (has_one i j) ∙ h j)

only : (m i j : ℕ) → (x : Bool) → has m i ≡ x → Is (same j i) → (has m j and same j i) ≡ (x and same j i)
only m i j x e (on t) = rw (same_on j i t, e)
only m i j x e (off f) = and_off_r (has m j) (same j i) f ∙ sym (and_off_r x (same j i) f)

meet_in : (m i : ℕ) → has m i ≡ true → bit_and m (2 ^ i) ≡ 2 ^ i
meet_in m i e =
    meet_one m i (2 ^ i) (pow-lt (omega arith))
    (λ j. only m i j true e (is (same j i)) ∙ and_on_l true (same j i) refl ∙ sym (has_one i j))

-- a member put in again
pub insert_same : (m i : ℕ) → has m i ≡ true → insert_of m i ≡ m
unfolding insert_of
insert_same m i e = omega (arith, or_add_and m (2 ^ i), meet_in m i e)

-- a member taken out: its digit goes from the number
pub remove_number : (m i : ℕ) → has m i ≡ true → remove_of m i + 2 ^ i ≡ m
unfolding remove_of difference_of
remove_number m i e =
    let z = meet_in m i e in
    let w : bit_and m (bit_and m (2 ^ i)) ≡ 2 ^ i = ap (bit_and m) z ∙ z in
    omega (arith, xor_add_and m (bit_and m (2 ^ i)), z, w)

pub size_insert_same : (m i : ℕ) → has m i ≡ true → size_of (insert_of m i) ≡ size_of m
size_insert_same m i e = ap size_of (insert_same m i e)

ones_pow : (i : ℕ) → ones (2 ^ i) ≡ 1
unfolding ones
ones_pow i = let e : 2 ^ i ≡ 1 * 2 ^ i + 0 = omega arith in ap ones e ∙ ones_cat i 1 0 (pow_pos i)

pub size_insert : (m i : ℕ) → has m i ≡ false → size_of (insert_of m i) ≡ suc (size_of m)
unfolding size_of insert_of union_of intersection_of
size_insert m i e =
    let z : bit_and m (2 ^ i) ≡ 0 =
    meet_one m i 0 (pow_pos (suc i))
    (λ j. only m i j false e (is (same j i)) ∙ and_off_l false (same j i) refl ∙ sym (has_empty j)) in
    omega (arith, size_union m (2 ^ i), ap ones z, size_empty, ones_pow i)

-- ---- the number 1 shifted, as the code makes the set of i alone
pub shifted_one : (w i : ℕ) → i < w → (1 * 2 ^ i) % 2 ^ w ≡ 2 ^ i
shifted_one w i h = shl_exact 1 i w (lit< tt) (omega arith) ∙ one-mul _
