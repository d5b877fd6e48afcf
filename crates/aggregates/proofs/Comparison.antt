-- The comparison of candidates is a strict total order: each number decides, or leaves it to what follows; said once
-- of any number (`lex-*`), and used for portions, diet portions and the number. The last laws say that the derived
-- order is this one.
use Rattle.std.specs.Prelude.{◌≡◌, refl, ◌⊎◌, Bool, true, false, ℕ, ◌≤◌, ◌<◌}
use Rattle.std.proofs.Common.{sym, ◌∙◌, ap, inl, inr, ⊎_elim, arith}
use Rattle.std.specs.declared.cmp.Ordering.{Ordering}
use Rattle.std.specs.declared.cmp.Ordering.TheVariants.{Less, Equal, Greater}
use Rattle.std.specs.Ordering.{MatchOrdering, nat_cmp, ordering_then, is_gt, max_by_ordering}
use Rattle.std.proofs.lemmas.Cmp.{ranked}
use mathlib.Mathlib.Order.Defs.Unbundled.{IsStrictTotalOrder}
use Rattle.sets.specs.Truth.{◌and◌, ◌or◌, same, less, select}
use Rattle.sets.specs.TruthLaws.{or_cases, or_mk_l, or_none_l, or_off_l, and_first, and_second, and_on_l, and_off_l}
use Rattle.sets.specs.TruthLaws.{select_on, select_off}
use Rattle.sets.specs.TruthLaws.{same_on, same_mk, same_off, less_on, less_mk, less-not, less_off, clash, off_by}
use Rattle.sets.specs.TruthLaws.{Is, is, on, off}
use Rattle.aggregates.specs.declared.Candidate.{Candidate}
use Rattle.aggregates.specs.Leader.{better}

-- ---- a number, and what follows where it is the same

abbrev lex : ℕ → ℕ → Bool → Bool
lex x y next = less y x or (same y x and next)

lex_more : (x y : ℕ) (r : Bool) → y < x → lex x y r ≡ true
lex_more x y r h = or_mk_l _ _ (less_mk y x h)

lex-same : (x y : ℕ) (r : Bool) → y ≡ x → lex x y r ≡ r
lex-same x y r e = or_off_l _ _ (less_off y x (omega arith)) ∙ and_on_l _ _ (same_mk y x e)

lex_on : (x y : ℕ) (r : Bool) → lex x y r ≡ true → (y < x) ⊎ ((y ≡ x) × (r ≡ true))
lex_on x y r e =
    ⊎_elim (λ l. inl (less_on y x l)) (λ t. inr (same_on y x (and_first _ _ t), and_second _ _ t)) (or_cases _ _ e)

lex_trans : (x y z : ℕ) (r s t : Bool) → (r ≡ true → s ≡ true → t ≡ true) → lex x y r ≡ true → lex y z s ≡ true
    → lex x z t ≡ true
lex_trans x y z r s t f a b = go (lex_on x y r a) (lex_on y z s b)
  where
    go : (y < x) ⊎ ((y ≡ x) × (r ≡ true)) → (z < y) ⊎ ((z ≡ y) × (s ≡ true)) → lex x z t ≡ true
    go (inl h) (inl k) = lex_more x z t (omega arith)
    go (inl h) (inr k) = lex_more x z t (omega (arith, k.0))
    go (inr h) (inl k) = lex_more x z t (omega (arith, h.0))
    go (inr h) (inr k) = lex-same x z t (k.0 ∙ h.0) ∙ f h.1 k.1

-- where neither is first, the numbers are the same, and what follows puts neither first
lex_neither : (x y : ℕ) (r s : Bool) → lex x y r ≡ false → lex y x s ≡ false
    → (x ≡ y) × (r ≡ false) × (s ≡ false)
lex_neither x y r s a b =
    let e : x ≡ y = omega (arith, less-not y x (or_none_l _ _ a), less-not x y (or_none_l _ _ b)) in
    (e, sym (lex-same x y r (sym e)) ∙ a, sym (lex-same y x s e) ∙ b)

-- ---- the order

-- a leads before b
abbrev pub Ahead : Candidate → Candidate → Type 0
Ahead a b = better a b ≡ true

irreflexive : (a : Candidate) → Ahead a a → ⊥
unfolding better
irreflexive a h = clash _ h (lex-same _ _ _ refl ∙ lex-same _ _ _ refl ∙ less_off _ _ (omega arith))

transitive : (a b c : Candidate) → Ahead a b → Ahead b c → Ahead a c
unfolding better
transitive a b c =
    lex_trans _ _ _ _ _ _ (lex_trans _ _ _ _ _ _
    (λ h k. less_mk _ _ (omega (arith, less_on _ _ h, less_on _ _ k))))

-- any two different ones compare
compares : (a b : Candidate) → (Ahead a b → ⊥) → (Ahead b a → ⊥) → a ≡ b
unfolding better
compares a b h k =
    let p = lex_neither _ _ _ _ (off_by _ h) (off_by _ k) in
    let d = lex_neither _ _ _ _ p.1 p.2 in
    let n : a.process ≡ b.process = omega (arith, less-not _ _ d.1, less-not _ _ d.2) in
    λ i. record { value = record { portions = p.0 i; diet = d.0 i }; process = n i }

pub order : IsStrictTotalOrder Candidate Ahead
order = record {
  is_trichotomous = record { trichotomous = compares };
  is_strict_order = record {
    is_irrefl = record { irrefl = irreflexive };
    is_trans = record { trans = transitive };
  };
}

-- what definition and search use, as tests: none leads before itself
pub better_self : (a : Candidate) → better a a ≡ false
better_self a = off_by _ (order.is_strict_order.is_irrefl.irrefl a)

-- what does not lead before c does not before one that does
pub better_over : (a b c : Candidate) → better b c ≡ true → better a c ≡ false → better a b ≡ false
better_over a b c h k = off_by _ (λ e. clash _ (order.is_strict_order.is_trans.trans a b c e h) k)

-- two of which neither leads before the other are one
pub better_one : (a b : Candidate) → better a b ≡ false → better b a ≡ false → a ≡ b
better_one a b h k = order.is_trichotomous.trichotomous a b (λ e. clash _ e h) (λ e. clash _ e k)

-- nor does one that does not lead before b, where b does not lead before c, lead before c
pub better_upto : (a b c : Candidate) → better a b ≡ false → better b c ≡ false → better a c ≡ false
better_upto a b c h k = off_by _ (λ e. go e (is (better b a)))
  where
    go : better a c ≡ true → Is (better b a) → ⊥
    go e (on f) = clash _ (order.is_strict_order.is_trans.trans b a c f e) k
    go e (off f) = clash _ (ap (λ x. better x c) (sym (better_one a b h f)) ∙ e) k

-- so of two different ones, one leads before the other
pub better_either : (a b : Candidate) → (a ≡ b → ⊥) → Ahead a b ⊎ Ahead b a
better_either a b h = go (is (better a b)) (is (better b a))
  where
    go : Is (better a b) → Is (better b a) → Ahead a b ⊎ Ahead b a
    go (on e) k = inl e
    go (off e) (on k) = inr k
    go (off e) (off k) = absurd (h (better_one a b e k))

-- ---- in the request's words

-- a does not lead before b: it has no more portions; of equal portions no more diet portions; of those equal too no
-- higher number
pub record Behind (a b : Candidate) : Type 0 where
  pub most : a.value.portions ≤ b.value.portions
  pub diets : a.value.portions ≡ b.value.portions → a.value.diet ≤ b.value.diet
  pub highest : a.value.portions ≡ b.value.portions → a.value.diet ≡ b.value.diet → a.process ≤ b.process

pub better_off : (a b : Candidate) → better a b ≡ false → Behind a b
unfolding better
better_off a b e = record {
  most = less-not _ _ (or_none_l _ _ e);
  diets = λ p. less-not _ _ (or_none_l _ _ (sym (lex-same _ _ _ (sym p)) ∙ e));
  highest = λ p d. less-not _ _ (sym (lex-same _ _ _ (sym p) ∙ lex-same _ _ _ (sym d)) ∙ e);
}

pub behind_off : (a b : Candidate) → Behind a b → better a b ≡ false
unfolding better
behind_off a b t =
    off_by _ (λ e. ⊎_elim (λ h. omega (arith, t.most))
    (λ p. ⊎_elim (λ h. omega (arith, t.diets (sym p.0)))
    (λ d. omega (arith, less_on _ _ d.1, t.highest (sym p.0) (sym d.0))) (lex_on _ _ _ p.1))
    (lex_on _ _ _ e))

-- ---- as the derived order compares

-- what decides where the first numbers are the same
gt_lex : (x y : ℕ) (o : Ordering) → is_gt (ordering_then (nat_cmp x y) o) ≡ lex x y (is_gt o)
gt_lex x y o = go (nat_cmp x y) (ranked x y _ refl)
  where
    go : (c : Ordering) → MatchOrdering c (x < y) (x ≡ y) (y < x) → is_gt (ordering_then c o) ≡ lex x y (is_gt o)
    go Less h = sym (or_off_l _ _ (less_off y x (omega arith)) ∙ and_off_l _ _ (same_off y x (λ e. omega arith)))
    go Equal h = sym (lex-same x y _ (sym h))
    go Greater h = sym (lex_more x y _ h)

gt_less : (x y : ℕ) → is_gt (nat_cmp x y) ≡ less y x
gt_less x y = go (nat_cmp x y) (ranked x y _ refl)
  where
    go : (c : Ordering) → MatchOrdering c (x < y) (x ≡ y) (y < x) → is_gt c ≡ less y x
    go Less h = sym (less_off y x (omega arith))
    go Equal h = sym (less_off y x (omega arith))
    go Greater h = sym (less_mk y x h)

then_assoc : (o p q : Ordering) → ordering_then (ordering_then o p) q ≡ ordering_then o (ordering_then p q)
then_assoc Less p q = refl
then_assoc Equal p q = refl
then_assoc Greater p q = refl

-- by portions, then by diet portions, then by number
abbrev pub order_of : Candidate → Candidate → Ordering
order_of a b =
    ordering_then
    (ordering_then (nat_cmp a.value.portions b.value.portions) (nat_cmp a.value.diet b.value.diet))
    (nat_cmp a.process b.process)

pub greater_is : (a b : Candidate) → is_gt (order_of a b) ≡ better a b
unfolding better
greater_is a b =
    ap is_gt (then_assoc (nat_cmp a.value.portions b.value.portions) _ _) ∙ gt_lex _ _ _
    ∙ ap (lex a.value.portions b.value.portions) (gt_lex _ _ _ ∙ ap (lex a.value.diet b.value.diet) (gt_less _ _))

-- the greater of two is the one that leads before the other
pub greater_of : (a b : Candidate) (o : Ordering) → is_gt o ≡ better a b
    → max_by_ordering o a b ≡ select (better a b) a b
greater_of a b Less e = sym (select_off _ a b (sym e))
greater_of a b Equal e = sym (select_off _ a b (sym e))
greater_of a b Greater e = sym (select_on _ a b (sym e))
