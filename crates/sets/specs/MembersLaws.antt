-- Laws of the list of members: it is empty for the empty set, and else the lowest member and the others.
use Rattle.std.specs.Prelude.{◌≡◌, ◌≢◌, refl, Bool, true, false, List, [], ◌∷◌, ℕ, zero, suc, ◌+◌, ◌^◌, ◌<◌, ◌≤◌}
use Rattle.std.specs.List.{filter, range_with_len}
use Rattle.std.proofs.Common.{sym, ap, ◌∙◌, ⊎_elim, arith}
use Rattle.sets.specs.Set.{has, remove_of, lowest_of, members_of}
use Rattle.sets.specs.TruthLaws.{eq-or, and_on_r, and_off_r, same_refl, same_off}
use Rattle.sets.specs.Laws.{has_empty, has_remove, remove_lt}
use Rattle.sets.specs.LowestLaws.{lowest_in, lowest_lt, lowest_least}

none_of : (p : ℕ → Bool) → ((i : ℕ) → p i ≡ false) → (n a : ℕ) → filter p (range_with_len a n) ≡ []
none_of p h zero a = refl
none_of p h (suc n) a = rw (h a) (none_of p h n (a + 1))

-- past l the tests agree
alike_past : (p q : ℕ → Bool) (l : ℕ) → ((i : ℕ) → i ≢ l → q i ≡ p i) → (n a : ℕ) → l < a
    → filter p (range_with_len a n) ≡ filter q (range_with_len a n)
alike_past p q l h zero a b = refl
alike_past p q l h (suc n) a b =
    rw (h a (omega arith), alike_past p q l h n (a + 1) (omega arith)) refl

-- what passes p first is l, and the others pass q
first_of : (p q : ℕ → Bool) (l : ℕ) → p l ≡ true → ((i : ℕ) → i < l → p i ≡ false) → q l ≡ false
    → ((i : ℕ) → i ≢ l → q i ≡ p i) → (n a : ℕ) → a ≤ l → l < a + n
    → filter p (range_with_len a n) ≡ l ∷ filter q (range_with_len a n)
first_of p q l t least f h zero a b c = absurd (omega arith)
first_of p q l t least f h (suc n) a b c =
    ⊎_elim
    (λ (e : a ≡ l). rw (e, t, f) (ap (λ (x : List ℕ). l ∷ x) (alike_past p q l h n (l + 1) (omega arith))))
    (λ (d : a ≢ l).
    let z : p a ≡ false = least a (omega arith) in
    rw (h a d, z) (first_of p q l t least f h n (a + 1) (omega arith) (omega arith)))
    (eq-or a l)

pub members_none : members_of 0 ≡ []
unfolding members_of
members_none = none_of (has 0) has_empty 16 0

pub members_first : (m : ℕ) → 0 < m → m < 2 ^ 16 → members_of m ≡ lowest_of m ∷ members_of (remove_of m (lowest_of m))
unfolding members_of
members_first m p h =
    let l = lowest_of m in
    first_of (has m) (has (remove_of m l)) l (lowest_in m p h) (lowest_least m p h)
    (has_remove m l l ∙ and_off_r _ _ (rw (same_refl l) refl))
    (λ i d. has_remove m l i ∙ and_on_r _ _ (rw (same_off i l d) refl)) 16 0 (omega arith)
    (omega (arith, lowest_lt m p h))

-- ---- a loop over the members
-- the members that are left are those of m
pub record Left (rest : List ℕ) (m : ℕ) : Type 0 where
  pub few : m < 2 ^ 16
  pub list : rest ≡ members_of m

-- a turn: k is a member, and the others are left
pub record Turn (rest : List ℕ) (m k : ℕ) : Type 0 where
  pub low : k < 16
  pub member : has m k ≡ true
  pub least : (i : ℕ) → i < k → has m i ≡ false
  pub others : Left rest (remove_of m k)

pub left_turn : {m k : ℕ} {all rest : List ℕ} → Left all m → all ≡ k ∷ rest → Turn rest m k
left_turn {m} {k} {all} {rest} w e =
    ⊎_elim
    (λ (z : m ≡ 0).
    let f : [] ≡ k ∷ rest = sym members_none ∙ rw (← z) (sym w.list ∙ e) in cc)
    (λ (d : m ≢ 0).
    let p : 0 < m = omega arith in
    let f : lowest_of m ∷ members_of (remove_of m (lowest_of m)) ≡ k ∷ rest =
    sym (members_first m p w.few) ∙ sym w.list ∙ e in
    let l : k ≡ lowest_of m = cc in
    let r : rest ≡ members_of (remove_of m (lowest_of m)) = cc in
    record {
      low = rw l (lowest_lt m p w.few);
      member = rw l (lowest_in m p w.few);
      least = rw l (lowest_least m p w.few);
      others = record { few = remove_lt 16 m k w.few; list = rw l r };
    })
    (eq-or m 0)

-- none is left
pub left_none : {m : ℕ} {all : List ℕ} → Left all m → all ≡ [] → m ≡ 0
left_none {m} {all} w e =
    ⊎_elim (λ (z : m ≡ 0). z)
    (λ (d : m ≢ 0).
    let f : lowest_of m ∷ members_of (remove_of m (lowest_of m)) ≡ [] =
    sym (members_first m (omega arith) w.few) ∙ sym w.list ∙ e in
    cc)
    (eq-or m 0)
