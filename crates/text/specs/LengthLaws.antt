-- How long the text of a number is, and texts stored one after another in a buffer.
use Rattle.std.specs.Prelude.{◌≡◌, refl, List, [], ◌∷◌, ◌++◌, ℕ, zero, suc, ◌+◌, ◌*◌, ◌/◌, ◌%◌, ◌^◌, ◌≤◌, ◌<◌, length, set}
use Rattle.std.proofs.Common.{ap, ◌∙◌, ⊎_elim, mul-suc, mul-le-mul_left, add-one, arith, length-append}
use Rattle.sets.specs.TruthLaws.{le-or}
use Rattle.sets.specs.Lists.{joined}
use Rattle.bench.specs.TransitLaws.{Stores}
use Rattle.bench.proofs.TransitLaws.{stores_none, stores_length, stores_more}
use Rattle.text.specs.Text.{decimal, field_of}
use Rattle.text.specs.TextLaws.{decimal_low, decimal_more}

pub length_more : (x : ℕ) → 10 ≤ x → length (decimal x) ≡ length (decimal (x / 10)) + 1
length_more x h = ap length (decimal_more x h) ∙ length-append (decimal (x / 10)) ((48 + x % 10) ∷ [])

-- one digit more for each factor of ten
pub decimal-length : (k x : ℕ) → x < 10 ^ suc k → length (decimal x) ≤ suc k
decimal-length zero x h = omega (arith, ap length (decimal_low x (omega arith)))
decimal-length (suc k) x h =
    ⊎_elim (λ b. omega (arith, length_more x b, decimal-length k (x / 10) (omega arith)))
    (λ b. omega (arith, ap length (decimal_low x b))) (le-or 10 x)

-- ---- one text after another
pub stores_one : (out : List ℕ) (at b : ℕ) → Stores out at (b ∷ []) (set out at b) (at + 1)
stores_one out at b = record { place = refl; list = refl }

-- two of them, as the first two of a joined list
pair : List ℕ → List ℕ → ℕ → List ℕ
pair l m zero = l
pair l m (suc k) = m

pub stores_then : {out out₁ out₂ l m : List ℕ} {at at₁ at₂ : ℕ} → Stores out at l out₁ at₁ → Stores out₁ at₁ m out₂ at₂
    → Stores out at (l ++ m) out₂ at₂
unfolding joined pair
stores_then {out} {out₁} {out₂} {l} {m} {at} {at₁} {at₂} s t = stores_more (pair l m) out at 1 out₁ at₁ out₂ at₂ s t

-- a text of at most `most` bytes
pub record Puts (most : ℕ) (out : List ℕ) (at : ℕ) (l out' : List ℕ) (at' : ℕ) : Type 0 where
  pub stores : Stores out at l out' at'
  pub short : at' ≤ at + most

pub puts_length : {most : ℕ} {out l out' : List ℕ} {at at' : ℕ} → Puts most out at l out' at'
    → length out' ≡ length out
puts_length {most} {out} {l} {out'} {at} {at'} p = stores_length out at l out' at' p.stores

pub puts_none : (out : List ℕ) (at : ℕ) → Puts 0 out at [] out at
puts_none out at = record { stores = stores_none out at; short = omega arith }

-- a loop's texts f 0, f 1, .. of at most m bytes each
module _ (m : ℕ) (f : ℕ → List ℕ) {out out₁ : List ℕ} {at at₁ : ℕ} {k : ℕ}
    (p : Puts (m * k) out at (joined k f) out₁ at₁) where
  pub puts_more : {out₂ : List ℕ} {at₂ : ℕ} → Puts m out₁ at₁ (f k) out₂ at₂
      → Puts (m * (k + 1)) out at (joined (k + 1) f) out₂ at₂
  puts_more {out₂} {at₂} q =
      record {
        stores = stores_more f out at k out₁ at₁ out₂ at₂ p.stores q.stores;
        short = let e : m * (k + 1) ≡ m * k + m = rw add-one (mul-suc m k) in omega (arith, p.short, q.short);
      }

  -- the next one has room where all have
  pub puts_room : (n : ℕ) → k < n → at + m * n ≤ length out → at₁ + m ≤ length out₁
  puts_room n h room =
      let g : suc k ≤ n = omega arith in
      omega (arith, p.short, puts_length p, mul-suc m k, mul-le-mul_left m g)

-- the digits of a number of 64 bits, of 32 bits and of 16 bits
pub long_number : (x : ℕ) → x < 2 ^ 64 → length (decimal x) ≤ 20
long_number x h = decimal-length 19 x (omega arith)

pub short_number : (x : ℕ) → x < 2 ^ 32 → length (decimal x) ≤ 10
short_number x h = decimal-length 9 x (omega arith)

pub half_number : (x : ℕ) → x < 2 ^ 16 → length (decimal x) ≤ 5
half_number x h = decimal-length 4 x (omega arith)

pub half_field : (x : ℕ) → x < 2 ^ 16 → length (field_of x) ≤ 6
unfolding field_of
half_field x h = omega (arith, length-append (32 ∷ []) (decimal x), half_number x h)
