-- The list in transit, as code writes it: the bytes of each set one after another, and how many messages they are.
-- A loop's k turns store `joined k f`; each message is three bytes, so the bytes of a set are three times its size.
use Rattle.std.specs.Prelude.{◌≡◌, refl, List, [], ◌∷◌, ◌++◌, Bool, true, false, ℕ, zero, suc, ◌+◌, ◌*◌, ◌^◌, ◌≤◌, ◌<◌, length, set, drop}
use Rattle.std.proofs.Common.{sym, ap, ◌∙◌, ⊎_elim, add-zero, arith}
use Rattle.std.proofs.Math.Numerals.{add-one}
use Rattle.std.proofs.Math.ListN.{length-append}
use Rattle.std.proofs.Math.Seq as seq
use Rattle.sets.specs.Truth.{bit, select}
use Rattle.sets.specs.Lists.{count_to, joined}
use Rattle.sets.specs.Laws.{size_count}
use Rattle.sets.specs.Set.{has, size_of}
use Rattle.sets.specs.TruthLaws.{select_on, select_off, eq-or}
use Rattle.bench.specs.declared.Bench.{Bench}
use Rattle.bench.specs.State.{transit_at}
use Rattle.bench.specs.TransitList.{message_bytes, transit_bytes}
use Rattle.bench.specs.TransitLaws.{sender_bytes, round_bytes, Stores}

-- ---- the list by its parts: m is a set in transit, `words` all of them
pub message_in : (m r a b : ℕ) → has m b ≡ true → message_bytes m r a b ≡ (a + 1) ∷ (b + 1) ∷ r ∷ []
unfolding message_bytes
message_in m r a b e = select_on (has m b) ((a + 1) ∷ (b + 1) ∷ r ∷ []) [] e

pub message_none : (m r a b : ℕ) → has m b ≡ false → message_bytes m r a b ≡ []
unfolding message_bytes
message_none m r a b e = select_off (has m b) ((a + 1) ∷ (b + 1) ∷ r ∷ []) [] e

pub transit_by : (s : Bench) → transit_bytes s ≡ joined (s.t + 2) (round_bytes s.in_transit s.n)
unfolding transit_bytes transit_at sender_bytes round_bytes
transit_by s = refl

pub stores_none : (out : List ℕ) (at : ℕ) → Stores out at [] out at
stores_none out at = record { place = omega arith; list = refl }

pub stores_three : (out : List ℕ) (at x y z : ℕ)
    → Stores out at (x ∷ y ∷ z ∷ []) (set (set (set out at x) (at + 1) y) (at + 2) z) (at + 3)
stores_three out at x y z =
    let e₁ : at + 1 ≡ suc at = omega arith in
    let e₂ : at + 2 ≡ suc (suc at) = omega arith in
    record { place = refl; list = rw (e₁, e₂) }

pub stores_length : (out : List ℕ) (at : ℕ) (l out' : List ℕ) (at' : ℕ) → Stores out at l out' at'
    → length out' ≡ length out
stores_length out at l out' at' s = ap length s.list ∙ seq.length-sets out at l

-- stored at the front
pub stores_front : (out l out' : List ℕ) (at' : ℕ) → length l ≤ length out → Stores out 0 l out' at'
    → out' ≡ l ++ drop (length l) out
stores_front out l out' at' h s =
    let e : 0 + length l ≡ length l = omega arith in
    s.list ∙ seq.sets-eq l out 0 (omega arith) ∙ ap (λ (k : ℕ). l ++ drop k out) e

sets_more : (l m out : List ℕ) (at : ℕ) → seq.sets (seq.sets out at l) (at + length l) m ≡ seq.sets out at (l ++ m)
sets_more [] m out at = ap (λ (k : ℕ). seq.sets out k m) (add-zero at)
sets_more (x ∷ l) m out at =
    let e : at + suc (length l) ≡ suc at + length l = omega arith in
    ap (λ (k : ℕ). seq.sets (seq.sets (set out at x) (suc at) l) k m) e ∙ sets_more l m (set out at x) (suc at)

-- ---- the lists f 0, f 1, .. joined by a loop
module _ (f : ℕ → List ℕ) where
  pub joined_length : (k : ℕ) → length (joined (suc k) f) ≡ length (joined k f) + length (f k)
  unfolding joined
  joined_length k = length-append (joined k f) (f k)

  -- one more fits where all do
  pub joined_room : (n k : ℕ) → k < n → length (joined k f) + length (f k) ≤ length (joined n f)
  joined_room zero k h = absurd (omega arith)
  joined_room (suc n) k h =
      ⊎_elim (λ u. rw u (omega (arith, joined_length n)))
      (λ u. omega (arith, joined_length n, joined_room n k (omega arith))) (eq-or k n)

  pub stores_more : (out : List ℕ) (at k : ℕ) (out₁ : List ℕ) (at₁ : ℕ) (out₂ : List ℕ) (at₂ : ℕ)
      → Stores out at (joined k f) out₁ at₁ → Stores out₁ at₁ (f k) out₂ at₂
      → Stores out at (joined (k + 1) f) out₂ at₂
  unfolding joined
  stores_more out at k out₁ at₁ out₂ at₂ s t =
      rw add-one
      (record {
        place = omega (arith, s.place, t.place, length-append (joined k f) (f k));
        list = rw (t.list, s.list, s.place) (sets_more (joined k f) (f k) out at);
      })

  -- the next one has room where all have
  pub stores_room : (out : List ℕ) (at n k : ℕ) (out₁ : List ℕ) (at₁ : ℕ) → k < n
      → at + length (joined n f) ≤ length out
      → Stores out at (joined k f) out₁ at₁ → at₁ + length (f k) ≤ length out₁
  stores_room out at n k out₁ at₁ h room s =
      omega (arith, s.place, stores_length out at (joined k f) out₁ at₁ s, joined_room n k h)

  -- c messages so far, and s more
  pub sum_more : (c s k : ℕ) → c * 3 ≡ length (joined k f) → s * 3 ≡ length (f k)
      → (c + s) * 3 ≡ length (joined (k + 1) f)
  sum_more c s k p q = rw add-one (omega (arith, joined_length k))

-- ---- three bytes for each member
bit_length : (b : Bool) (x y z : ℕ) → length (select b (x ∷ y ∷ z ∷ []) []) ≡ bit b * 3
unfolding select bit
bit_length true x y z = refl
bit_length false x y z = refl

members_length : (m r a n : ℕ) → length (joined n (message_bytes m r a)) ≡ count_to n (has m) * 3
unfolding message_bytes joined count_to
members_length m r a zero = refl
members_length m r a (suc n) =
    omega (arith, joined_length (message_bytes m r a) n, bit_length (has m n) (a + 1) (n + 1) r, members_length m r a n)

pub size_length : (m r a n : ℕ) → m < 2 ^ n → size_of m * 3 ≡ length (joined n (message_bytes m r a))
size_length m r a n h = ap (λ (x : ℕ). x * 3) (size_count n m h) ∙ sym (members_length m r a n)
