-- What follows from the invariants in one view: agreement, validity, the bounds on rounds,
-- and what the first decision has.
use Rattle.std.specs.Prelude.{◌≡◌, refl, ◌≢◌, ◌⊎◌, true, false, ℕ, zero, suc, ◌+◌, ◌*◌, ◌≤◌, ◌<◌}
use Rattle.std.proofs.Common.{sym, ap, ◌∙◌, inl, inr, arith}
use Rattle.std.proofs.Math.Bool.{not}
use Rattle.sets.specs.TruthLaws.{Is, is, on, off, clash, not_on, eq-or, le-or}
use Rattle.sets.specs.Lists.{count_to}
use Rattle.sets.specs.CountLaws.{count_mono}
use Rattle.agreement.specs.View.View.{View, Others, SameDecision, Decide, OneStep}
use Rattle.agreement.specs.View.Basic.{Basic}
use Rattle.agreement.specs.View.FourKinds.{Adopted, Kind, quietly, starting, opening, deciding, kind}
use Rattle.agreement.specs.View.NewEstimate.{next_running, next-closed, close_fill}
use Rattle.agreement.specs.Invariants.Estimates.{Estimates, outside_crashed}
use Rattle.agreement.specs.Invariants.Gap.{gap}
use Rattle.agreement.specs.Invariants.Decisions.{Decisions, Source, outside}

module _ (n t : ℕ) (s : View) (B : Basic n t s) (E : Estimates n t s) (D : Decisions n t s) where
  -- after an early decision of a every estimate is the one decided on
  locked : (a q : ℕ) → s.closed a ≡ suc (s.round a) → s.round a ≡ suc q → q < t
      → (l : ℕ) → q ≤ l → (x k : ℕ) → k < n → l < s.closed x → s.row x l k ≡ s.row a (suc q) k
  locked a q c r d zero o x k kn w = let z : q ≡ 0 = omega arith in rw (← z) (D.lock a x q c r d (omega arith) k kn)
  locked a q c r d (suc l) o x k kn w = go (le-or q l) (λ h y v. locked a q c r d l h y k kn v)
    where
      by : ((y : ℕ) → l < s.closed y → s.row y l k ≡ s.row a (suc q) k) → Is (s.row x (suc l) k)
          → Is (s.row x l k) → s.row x (suc l) k ≡ s.row a (suc q) k
      by ih (on u) (on v) = u ∙ sym v ∙ ih x (omega arith)
      by ih (on u) (off v) = let (y, h, e, f) = E.learnt x l k w u v in u ∙ sym e ∙ ih y h
      by ih (off u) (on v) = clash (s.row x (suc l) k) (E.grows x l k w v) u
      by ih (off u) (off v) = u ∙ sym v ∙ ih x (omega arith)

      go : (q ≤ l) ⊎ (l < q) → (q ≤ l → (y : ℕ) → l < s.closed y → s.row y l k ≡ s.row a (suc q) k)
          → s.row x (suc l) k ≡ s.row a (suc q) k
      go (inl h) ih = by (ih h) (is (s.row x (suc l) k)) (is (s.row x l k))
      go (inr h) ih = let z : q ≡ suc l = omega arith in rw (← z) (D.lock a x q c r d (omega arith) k kn)

  -- two that decided at a close, the first no later: by the lock, or both in round t + 1 and by the gap lemma
  closers : (a b k : ℕ) → k < n → 1 ≤ s.round a → s.round a ≤ s.round b → s.closed a ≡ suc (s.round a)
      → s.closed b ≡ suc (s.round b)
      → s.row a (s.round a) k ≡ s.row b (s.round b) k
  closers a b k kn h d c c' = go (le-or (s.round a) t)
    where
      pos : (r : ℕ) → 1 ≤ r → (q : ℕ) × (r ≡ suc q)
      pos zero w = absurd (omega arith)
      pos (suc q) w = (q, refl)

      early : s.round a ≤ t → s.row a (s.round a) k ≡ s.row b (s.round b) k
      early w =
          let (q, e) = pos (s.round a) h in
          ap (λ l. s.row a l k) e ∙ sym (locked a q c e (omega arith) (s.round b) (omega arith) b k kn (omega arith))

      late : t < s.round a → Is (s.row a (s.round a) k) → Is (s.row b (s.round a) k)
          → s.row a (s.round a) k ≡ s.row b (s.round a) k
      late w (on u) (on v) = u ∙ sym v
      late w (off u) (off v) = u ∙ sym v
      late w (on u) (off v) =
          absurd (omega (arith, B.few, gap n t s B E a b (s.round a) k (omega arith) (omega arith) u v))
      late w (off u) (on v) =
          absurd (omega (arith, B.few, gap n t s B E b a (s.round a) k (omega arith) (omega arith) v u))

      go : (s.round a ≤ t) ⊎ (t < s.round a) → s.row a (s.round a) k ≡ s.row b (s.round b) k
      go (inl w) = early w
      go (inr w) =
          let z : s.round a ≡ s.round b = omega (arith, B.bound b) in
          late w (is (s.row a (s.round a) k)) (is (s.row b (s.round a) k)) ∙ ap (λ l. s.row b l k) z

  -- validity: a decided entry is the value that its process started with
  pub valid : (x k : ℕ) → s.decided x ≡ true → s.estimate x k ≡ true
      → (s.value x k ≡ s.entry k 0 k) × (1 ≤ s.round k)
  valid x k d e =
      let S = D.source x d in
      let (v, h) =
      E.entries S.closer (s.round S.closer) k (omega (arith, S.closed)) (sym (S.estimate k) ∙ e) in
      (S.value k ∙ v, h)

  -- agreement: two that have decided have the same entries, with the same values
  pub agree : (x y : ℕ) → s.decided x ≡ true → s.decided y ≡ true → (k : ℕ) → k < n
      → (s.estimate x k ≡ s.estimate y k) × (s.estimate x k ≡ true → s.value x k ≡ s.value y k)
  agree x y d d' k kn = (alike, λ e. (valid x k d e).0 ∙ sym (valid y k d' (sym alike ∙ e)).0)
    where
      by : (S : Source n s x) (S' : Source n s y)
          → (s.round S.closer ≤ s.round S'.closer) ⊎ (s.round S'.closer < s.round S.closer)
          → s.row S.closer (s.round S.closer) k ≡ s.row S'.closer (s.round S'.closer) k
      by S S' (inl w) = closers S.closer S'.closer k kn S.started w S.closed S'.closed
      by S S' (inr w) =
          sym (closers S'.closer S.closer k kn S'.started (omega arith) S'.closed S.closed)

      alike : s.estimate x k ≡ s.estimate y k
      alike =
          let S = D.source x d in
          let S' = D.source y d' in
          S.estimate k ∙ by S S' (le-or (s.round S.closer) (s.round S'.closer)) ∙ sym (S'.estimate k)

  -- who is outside either set has crashed
  outside_few : (a : ℕ) → 1 ≤ s.round a
      → (outside n (s.previous a) ≤ count_to n s.crashed) × (outside n (s.current a) ≤ count_to n s.crashed)
  unfolding outside
  outside_few a h = (
    count_mono n (λ y. not (s.previous a y)) s.crashed
        (λ y d e. outside_crashed n t s B a y d h (inr (not_on _ e))),
    count_mono n (λ y. not (s.current a y)) s.crashed
        (λ y d e. outside_crashed n t s B a y d h (inl (not_on _ e))),
  )

  pub rounds_crashes : (x : ℕ) → s.round x ≤ 3 * count_to n s.crashed + 2
  rounds_crashes x = go (le-or 1 (s.round x))
    where
      go : (1 ≤ s.round x) ⊎ (s.round x < 1) → s.round x ≤ 3 * count_to n s.crashed + 2
      go (inl h) = omega (arith, D.rounds x, (outside_few x h).0, (outside_few x h).1)
      go (inr h) = omega arith

-- a decision at a close has an entry for every running process
pub present_at_close : (n t : ℕ) (s s' : View) → Basic n t s → Estimates n t s → (a q : ℕ) → Decide n t s s' a q
    → (k : ℕ) → k < n → s.crashed k ≡ false → s'.estimate a k ≡ true
present_at_close n t s s' B E a q D k d e =
    let h = next_running n t s s' B a q D.close k d e in
    D.close.estimate k
    ∙ close_fill n t s s' B a q D.close k k h (E.own k q (next-closed n t s s' B a q D.close k h))

-- the first decision is one at a close
pub first_is_close : (n t : ℕ) (s s' : View) → Basic n t s → ((y : ℕ) → y < n → s.decided y ≡ false)
    → OneStep n t s s'
    → (x : ℕ) → s'.decided x ≡ true → (q : ℕ) × Decide n t s s' x q
first_is_close n t s s' B none S x e = go (kind n t s s' B S)
  where
    never : {A : Type 0} (y : ℕ) → s.decided y ≡ true → A
    never y h = clash (s.decided y) h (none y (B.low y (B.decided_started y h)))

    by : SameDecision s s' x ⊎ Adopted s s' x → (q : ℕ) × Decide n t s s' x q
    by (inl w) = never x (sym w.decided ∙ e)
    by (inr w) = never w.whose w.theirs

    -- only the acting process a can have come to decide
    acting : (a : ℕ) → Others s s' a → (x ≡ a → (q : ℕ) × Decide n t s s' x q) → (q : ℕ) × Decide n t s s' x q
    acting a O here = case (eq-or x a)
      where
        case : (x ≡ a) ⊎ (x ≢ a) → (q : ℕ) × Decide n t s s' x q
        case (inl w) = here w
        case (inr w) = never x (sym (O.decided x w) ∙ e)

    go : Kind n t s s' → (q : ℕ) × Decide n t s s' x q
    go (quietly Q) = by (Q.decision x)
    go (starting {a} {v} S) = acting a S.others (λ w. never a (sym S.decided ∙ ap s'.decided (sym w) ∙ e))
    go (opening {a} {q} O) =
        acting a O.close.others (λ w. clash (s'.decided a) (ap s'.decided (sym w) ∙ e) O.decided)
    go (deciding {a} {q} D) = acting a D.close.others (λ w. rw w (q, D))
