-- The quiet end: when no record but a crash would be accepted, every running process has decided. Of the running
-- processes that have not, take one with the least round: nothing that it waits for is missing, so its close is due.
use Rattle.std.specs.Prelude.{◌≡◌, ◌≢◌, ◌⊎◌, Bool, false, ℕ, zero, suc, ◌≤◌, ◌<◌}
use Rattle.std.proofs.Common.{sym, ap, inl, inr, arith}
use Rattle.std.proofs.Math.Bool.{true, not}
use Rattle.sets.specs.Truth.{◌and◌}
use Rattle.sets.specs.TruthLaws.{Is, on, off, is, clash, and_first, and_second, and_mk, off_by, not_on, eq-or, le-or}
use Rattle.agreement.specs.View.FourKinds.{at}
use Rattle.agreement.specs.View.View.{View}
use Rattle.agreement.specs.View.Basic.{Basic}
use Rattle.agreement.specs.Invariants.NoMessageLost.{Somewhere, Wire}

-- what the refusal of every record but a crash says of the state
pub record Still (n t : ℕ) (s : View) : Type 0 where
  -- no start
  pub started : (a : ℕ) → a < n → s.crashed a ≡ false → 1 ≤ s.round a
  -- no send
  pub owes_none : (a b : ℕ) → a < n → b < n → a ≢ b → s.crashed a ≡ false → s.outbox a b ≡ false
  -- no arrival
  pub arrived : (a r b : ℕ) → a < n → b < n → a ≢ b → r ≤ suc t → s.crashed b ≡ false → s.transit a r b ≡ false
  -- no suspicion
  pub suspected : (a b : ℕ) → a < n → b < n → a ≢ b → s.crashed a ≡ false → s.crashed b ≡ true
      → s.suspected a b ≡ true
  -- no close
  pub no_close : (a : ℕ) → a < n → s.crashed a ≡ false → s.decided a ≡ false → 1 ≤ s.round a
      → ((y : ℕ) → s.outbox a y ≡ false)
      → ((y : ℕ) → s.current a y ≡ true → (y ≡ a) ⊎ (s.received a (s.round a) y ≡ true) ⊎ (s.suspected a y ≡ true))
      → ⊥

-- ---- of the numbers below n that pass a test, one with the least measure

pub record Least (n : ℕ) (p : ℕ → Bool) (m : ℕ → ℕ) : Type 0 where
  pub at : ℕ
  pub low : at < n
  pub passes : p at ≡ true
  pub least : (z : ℕ) → z < n → p z ≡ true → m at ≤ m z

pub least_or : (n : ℕ) (p : ℕ → Bool) (m : ℕ → ℕ) → Least n p m ⊎ ((z : ℕ) → z < n → p z ≡ false)
least_or zero p m = inr (λ z h. absurd (omega arith))
least_or (suc n) p m = go (is (p n)) (least_or n p m)
  where
    up : (P : ℕ → Type 0) → P n → ((z : ℕ) → z < n → P z) → (z : ℕ) → z < suc n → P z
    up P h f = at {P = λ z. z < suc n → P z} n (λ d. h) (λ z ne d. f z (omega arith))

    old : (L : Least n p m) → (p n ≡ true → m L.at ≤ m n) → Least (suc n) p m
    old L h = record {
      at = L.at;
      low = omega (arith, L.low);
      passes = L.passes;
      least = up (λ z. p z ≡ true → m L.at ≤ m z) h L.least;
    }

    new : p n ≡ true → ((z : ℕ) → z < n → p z ≡ true → m n ≤ m z) → Least (suc n) p m
    new e f =
        record { at = n; low = omega arith; passes = e; least = up (λ z. p z ≡ true → m n ≤ m z) (λ q. omega arith) f }

    lower : p n ≡ true → (L : Least n p m) → (m L.at ≤ m n) ⊎ (m n < m L.at) → Least (suc n) p m
    lower e L (inl h) = old L (λ q. h)
    lower e L (inr h) = new e (λ z d q. omega (arith, L.least z d q))

    go : Is (p n) → Least n p m ⊎ ((z : ℕ) → z < n → p z ≡ false)
        → Least (suc n) p m ⊎ ((z : ℕ) → z < suc n → p z ≡ false)
    go (on e) (inl L) = inl (lower e L (le-or (m L.at) (m n)))
    go (on e) (inr f) = inl (new e (λ z d q. clash (p z) q (f z d)))
    go (off e) (inl L) = inl (old L (λ q. clash (p n) q e))
    go (off e) (inr f) = inr (up (λ z. p z ≡ false) e f)

-- ---- the quiet end

module _ (n t : ℕ) (s : View) (B : Basic n t s) (W : Wire n t s) (S : Still n t s) where
  -- a running process that has decided has told everybody (W3)
  told : (x y : ℕ) → x < n → x ≢ y → s.crashed x ≡ false → s.crashed y ≡ false → s.decided y ≡ true
      → s.decided x ≡ true
  told x y l ne c c' d = go (W.decisions x y l ne c d)
    where
      l' : y < n
      l' = B.low y (B.decided_started y d)

      go : (s.decided x ≡ true) ⊎ (s.outbox y x ≡ true) ⊎ (s.transit y 0 x ≡ true) → s.decided x ≡ true
      go (inl e) = e
      go (inr (inl e)) = clash (s.outbox y x) e (S.owes_none y x l' l (λ h. ne (sym h)) c')
      go (inr (inr e)) = clash (s.transit y 0 x) e (S.arrived y 0 x l' l (λ h. ne (sym h)) (omega arith) c)

  -- running and undecided
  waiting : ℕ → Bool
  waiting x = not (s.crashed x) and not (s.decided x)

  -- the one with the least round has heard its whole current set (W2)
  module _ (x : ℕ) (l : x < n) (c : s.crashed x ≡ false) (d : s.decided x ≡ false)
      (least : (z : ℕ) → z < n → s.crashed z ≡ false → s.decided z ≡ false → s.round x ≤ s.round z) where
    heard : (y : ℕ) → s.current x y ≡ true
        → (y ≡ x) ⊎ (s.received x (s.round x) y ≡ true) ⊎ (s.suspected x y ≡ true)
    heard y m = go (eq-or y x)
      where
        l' : y < n
        l' = B.current_low x y m

        arrived : y ≢ x → s.crashed y ≡ false → Somewhere s x y (s.round x) → s.received x (s.round x) y ≡ true
        arrived ne c' (inl e) =
            clash (s.transit y (s.round x) x) e (S.arrived y (s.round x) x l' l ne (B.bound x) c)
        arrived ne c' (inr (inl e)) = e
        arrived ne c' (inr (inr w)) = clash (s.outbox y x) w.1 (S.owes_none y x l' l ne c')

        undecided : y ≢ x → s.crashed y ≡ false → Is (s.decided y) → s.received x (s.round x) y ≡ true
        undecided ne c' (on e) = clash (s.decided x) (told x y l (λ h. ne (sym h)) c c' e) d
        undecided ne c' (off e) = arrived ne c' (W.estimates x y (s.round x) record {
          low = l;
          apart = λ h. ne (sym h);
          running = c;
          undecided = d;
          undecided_there = e;
          first = S.started x l c;
          from = omega arith;
          upto = least y l' c' e;
          awaited = inr m;
        })

        other : y ≢ x → Is (s.crashed y) → (s.received x (s.round x) y ≡ true) ⊎ (s.suspected x y ≡ true)
        other ne (on e) = inr (S.suspected x y l l' (λ h. ne (sym h)) c e)
        other ne (off e) = inl (undecided ne e (is (s.decided y)))

        go : (y ≡ x) ⊎ (y ≢ x) → (y ≡ x) ⊎ (s.received x (s.round x) y ≡ true) ⊎ (s.suspected x y ≡ true)
        go (inl e) = inl e
        go (inr ne) = inr (other ne (is (s.crashed y)))

    owes_nobody : (y : ℕ) → s.outbox x y ≡ false
    owes_nobody y =
        off_by _ (λ o.
        clash (s.outbox x y) o (S.owes_none x y l (B.outbox_low x y o) (λ h. B.outbox_other x y o (sym h)) c))

    stuck : ⊥
    stuck = S.no_close x l c d (S.started x l c) owes_nobody heard

  quiet_none : Least n waiting s.round → ⊥
  unfolding waiting
  quiet_none L = stuck L.at L.low (not_on _ (and_first _ _ L.passes)) (not_on _ (and_second _ _ L.passes))
      (λ z h c d. L.least z h (and_mk _ _ (ap not c) (ap not d)))

  quiet_go : (x : ℕ) → x < n → s.crashed x ≡ false → Is (s.decided x) → s.decided x ≡ true
  unfolding waiting
  quiet_go x l c (on d) = d
  quiet_go x l c (off d) = go (least_or n waiting s.round)
    where
      go : Least n waiting s.round ⊎ ((z : ℕ) → z < n → waiting z ≡ false) → s.decided x ≡ true
      go (inl L) = absurd (quiet_none L)
      go (inr f) = clash (waiting x) (and_mk _ _ (ap not c) (ap not d)) (f x l)

pub quiet_end : (n t : ℕ) (s : View) → Basic n t s → Wire n t s → Still n t s → (x : ℕ) → x < n → s.crashed x ≡ false
    → s.decided x ≡ true
quiet_end n t s B W S x l c = quiet_go n t s B W S x l c (is (s.decided x))
