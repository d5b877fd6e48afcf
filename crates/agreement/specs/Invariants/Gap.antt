-- The gap lemma: an entry that one process has in its estimate r and another lacks in its own has cost r crashes,
-- one for each round on the way.
use Rattle.std.specs.Prelude.{◌≡◌, refl, ◌⊎◌, true, false, ℕ, zero, suc, ◌≤◌, ◌<◌}
use Rattle.std.proofs.Common.{inl, inr, arith}
use Rattle.sets.specs.TruthLaws.{Is, is, on, off, clash, off_by, le-or}
use Rattle.sets.specs.Lists.{count_to}
use Rattle.agreement.specs.Numbers.Pigeonhole.{Tower, ground, storey, pigeon}
use Rattle.agreement.specs.View.View.{View}
use Rattle.agreement.specs.View.Basic.{Basic}
use Rattle.agreement.specs.View.NewEstimate.{closed_low}
use Rattle.agreement.specs.Invariants.Estimates.{Estimates}

-- k is new to x in its estimate l
record New (s : View) (k l x : ℕ) : Type 0 where
  closed : l < s.closed x
  has : s.row x l k ≡ true
  lacked : (p : ℕ) → l ≡ suc p → s.row x p k ≡ false

-- and x crashed
record Lost (s : View) (k l x : ℕ) : Type 0 where
  new : New s k l x
  crashed : s.crashed x ≡ true

module _ (n t : ℕ) (s : View) (B : Basic n t s) (E : Estimates n t s) where
  -- estimates only grow
  pub row_up : (x l m k : ℕ) → l ≤ m → m < s.closed x → s.row x l k ≡ true → s.row x m k ≡ true
  row_up x l zero k h d e = let z : l ≡ 0 = omega arith in rw z at e
  row_up x l (suc m) k h d e = go (le-or l m) (λ w. row_up x l m k w (omega arith) e)
    where
      go : (l ≤ m) ⊎ (m < l) → (l ≤ m → s.row x m k ≡ true) → s.row x (suc m) k ≡ true
      go (inl w) ih = E.grows x m k d (ih w)
      go (inr w) ih = let z : l ≡ suc m = omega arith in rw z at e

  -- an entry is new to a process once
  not_again : (k l m x : ℕ) → l < m → New s k l x → New s k m x → ⊥
  not_again k l zero x h N M = omega arith
  not_again k l (suc m) x h N M =
      clash (s.row x m k) (row_up x l m k (omega arith) (omega (arith, M.closed)) N.has) (M.lacked m refl)

  once : (k l m x : ℕ) → Lost s k l x → Lost s k m x → l ≡ m
  once k l m x N M = go (le-or m l) (le-or l m)
    where
      go : (m ≤ l) ⊎ (l < m) → (l ≤ m) ⊎ (m < l) → l ≡ m
      go (inl u) (inl v) = omega arith
      go (inr u) v = absurd (not_again k l m x u N.new M.new)
      go (inl u) (inr v) = absurd (not_again k m l x v M.new N.new)

  -- b lacks k in its estimate r
  module _ (b r k : ℕ) (d : r < s.closed b) (e : s.row b r k ≡ false) where
    lacks : (l : ℕ) → l ≤ r → s.row b l k ≡ false
    lacks l h = off_by (s.row b l k) (λ w. clash (s.row b r k) (row_up b l r k h d w) e)

    lost : (l x : ℕ) → suc l ≤ r → New s k l x → Lost s k l x
    lost l x h N =
        record { new = N; crashed = (E.missed x b l k N.closed (omega arith) N.has (lacks (suc l) h)).0 }

    -- a process to which k was new in a round before r crashed, and so did another for each round before
    tower : (l x : ℕ) → suc l ≤ r → New s k l x → Tower (Lost s k) (suc l)
    tower zero x h N = storey x (lost zero x h N) ground
    tower (suc l) x h N =
        let (y, c, e, f) = E.learnt x l k N.closed N.has (N.lacked l refl) in
        storey x (lost (suc l) x h N) (tower l y (omega arith) record { closed = c; has = e; lacked = f })

  pub gap : (a b r k : ℕ) → r < s.closed a → r < s.closed b → s.row a r k ≡ true → s.row b r k ≡ false
      → r ≤ count_to n s.crashed
  gap a b zero k d d' e f = omega arith
  gap a b (suc m) k d d' e f = go (is (s.row a m k))
    where
      high : (x : ℕ) → New s k m x → suc m ≤ count_to n s.crashed
      high x N =
          pigeon n (Lost s k) (once k) (λ l y L. closed_low n t s B y l L.new.closed)
          (tower b (suc m) k d' f m x (omega arith) N) s.crashed (λ l y w L. L.crashed)

      -- two rounds before r, a would have told b
      lacked : (p : ℕ) → m ≡ suc p → s.row a p k ≡ false
      lacked p h = off_by (s.row a p k) (λ v.
          omega (
            arith,
            (E.missed a b p k (omega arith) (omega arith) v (lacks b (suc m) k d' f (suc p) (omega arith))).1,
          ))

      go : Is (s.row a m k) → suc m ≤ count_to n s.crashed
      go (on w) = high a record { closed = omega arith; has = w; lacked = lacked }
      go (off w) = let (y, c, g, v) = E.learnt a m k d e w in high y record { closed = c; has = g; lacked = v }
