-- Laws of the global data: each entry after filling, where a filled entry comes from, and what it is to be the same.
-- An entry is read by its present bit, and every law goes by whether that bit is set.
use Rattle.std.specs.Prelude.{◌≡◌, refl, ◌⊎◌, Bool, not, None, Some, List, length, get_or, set, replicate}
use Rattle.std.proofs.Math.Path.{sym}
use Rattle.std.proofs.Common.{ap, ◌∙◌, inl, inr, ⊎_elim, arith, length-set, get_or-set_same, get_or-set_other}
use Rattle.std.specs.Option.{option_or}
use Rattle.std.proofs.lemmas.Option.{same_Some}
use Rattle.std.proofs.Math.Bool.{true, false}
use Prim.Native.Nat.{ℕ, zero, suc, ◌+◌, ◌-◌, ◌^◌, ◌≤◌, ◌<◌}
use Rattle.sets.specs.EachLaws.{length-each, get_or_each, each-get_or, each_cong}
use Rattle.sets.specs.EveryLaws.{every_on, every_mk, every-not}
use Rattle.sets.specs.Laws.{has_empty, has_insert, has_union, has_intersection, has_difference, has_all, union_lt}
use Rattle.sets.specs.Laws.{has_remove, intersection_lt, all_lt, set_ext}
use Rattle.sets.specs.Set.{has, remove_of, union_of, intersection_of, difference_of, all_of}
use Rattle.sets.specs.TruthLaws as truth
use Rattle.sets.specs.Lists.{each, every}
use Rattle.sets.specs.Truth.{◌and◌, ◌or◌, same, less, select}
use Rattle.sets.specs.TruthLaws.{Is, on, off, is, clash, by_both, select_on}
use Rattle.sets.specs.TruthLaws.{select_off, or_off_r, or_mk_l, or_mk_r, and_first, and_second, and_mk, and_on_l}
use Rattle.sets.specs.TruthLaws.{eq-or}
use Rattle.sets.specs.TruthLaws.{and_on_r, and_off_r, off_by, less_on, less_mk}
use Rattle.global_data.specs.declared.Value.{Value}
use Rattle.global_data.specs.GlobalData.{Entry, value_in, entry_by, entry_of, same_entry, nothing_of, one_of}
use Rattle.global_data.specs.GlobalData.{filled_word, fill_of, fill_from, same_to, all_same}
use Rattle.global_data.specs.WordLaws.{value_word}
use Rattle.global_data.specs.declared.GlobalData.{GlobalData}

-- ---- entries
pub entry_present : (g : GlobalData) (k : ℕ) → has g.present k ≡ true
    → entry_of g k ≡ Some (value_in (get_or g.values k 0))
unfolding entry_of
entry_present g k e = select_on (has g.present k) (Some (value_in (get_or g.values k 0))) None e

pub entry_absent : (g : GlobalData) (k : ℕ) → has g.present k ≡ false → entry_of g k ≡ None
unfolding entry_of
entry_absent g k e = select_off (has g.present k) (Some (value_in (get_or g.values k 0))) None e

-- an entry is not absent and a value
pub not_both : {A : Type 0} (e : Entry) (v : Value) → e ≡ None → e ≡ Some v → A
not_both e v f g = cc

pub value_present : (g : GlobalData) (k : ℕ) (v : Value) → entry_of g k ≡ Some v → has g.present k ≡ true
value_present g k v e = go (is (has g.present k))
  where
    go : Is (has g.present k) → has g.present k ≡ true
    go (on t) = t
    go (off f) = not_both (entry_of g k) v (entry_absent g k f) e

pub absent_clear : (g : GlobalData) (k : ℕ) → entry_of g k ≡ None → has g.present k ≡ false
absent_clear g k e = go (is (has g.present k))
  where
    go : Is (has g.present k) → has g.present k ≡ false
    go (on t) = not_both (entry_of g k) _ e (entry_present g k t)
    go (off f) = f

-- an entry is absent or the value in a word, with the equation kept
pub absent_or : (g : GlobalData) (k : ℕ) → (entry_of g k ≡ None) ⊎ ((v : ℕ) × (entry_of g k ≡ Some (value_in v)))
absent_or g k = go (is (has g.present k))
  where
    go : Is (has g.present k) → (entry_of g k ≡ None) ⊎ ((v : ℕ) × (entry_of g k ≡ Some (value_in v)))
    go (on t) = inr (get_or g.values k 0, entry_present g k t)
    go (off f) = inl (entry_absent g k f)

-- ---- nothing, and one entry
pub entry_nothing : (k : ℕ) → entry_of nothing_of k ≡ None
unfolding nothing_of
entry_nothing k = entry_absent nothing_of k (has_empty k)

present_one : (i v k : ℕ) → has (one_of i v).present k ≡ same k i
unfolding one_of
present_one i v k = has_insert 0 i k ∙ or_off_r (same k i) (has 0 k) (has_empty k)

one_word : (i v : ℕ) → i < 16 → get_or (one_of i v).values i 0 ≡ v
unfolding one_of
one_word i v h = get_or-set_same (replicate 16 0) i v 0 h

pub entry_one : (i v k : ℕ) → i < 16 → entry_of (one_of i v) k ≡ select (same k i) (Some (value_in v)) None
entry_one i v k h = go (is (same k i))
  where
    go : Is (same k i) → entry_of (one_of i v) k ≡ select (same k i) (Some (value_in v)) None
    go (on t) =
        entry_present (one_of i v) k (present_one i v k ∙ t)
        ∙ ap (λ w. Some (value_in w)) (rw (truth.same_on k i t) (one_word i v h))
        ∙ sym (select_on (same k i) (Some (value_in v)) None t)
    go (off f) =
        entry_absent (one_of i v) k (present_one i v k ∙ f) ∙ sym (select_off (same k i) (Some (value_in v)) None f)

pub nothing_length : length nothing_of.values ≡ 16
unfolding nothing_of
nothing_length = refl

pub one_length : (i v : ℕ) → length (one_of i v).values ≡ 16
unfolding one_of
one_length i v = length-set (replicate 16 0) i v

-- ---- filling from one row
-- an absent entry takes the other, by `option_or`
pub or_entry_absent : (d e : Entry) → d ≡ None → option_or d e ≡ e
or_entry_absent d e h = ap (λ x. option_or x e) h

pub or_entry_value : (d e : Entry) (v : Value) → d ≡ Some v → option_or d e ≡ Some v
or_entry_value d e v h = ap (λ x. option_or x e) h

pub present_fill : (g row : GlobalData) (k : ℕ)
    → has (fill_of g row).present k ≡ (has g.present k or has row.present k)
unfolding fill_of
present_fill g row k = has_union g.present row.present k

pub fill_lt : (n : ℕ) (g row : GlobalData) → g.present < 2 ^ n → row.present < 2 ^ n → (fill_of g row).present < 2 ^ n
unfolding fill_of
fill_lt n g row hg hr = union_lt n g.present row.present hg hr

pub fill_length : (g row : GlobalData) → length (fill_of g row).values ≡ 16
unfolding fill_of
fill_length g row = length-each 16 (filled_word g row)

pub entry_fill : (g row : GlobalData) (k : ℕ) → k < 16
    → entry_of (fill_of g row) k ≡ option_or (entry_of g k) (entry_of row k)
unfolding entry_of fill_of filled_word select ◌and◌ ◌or◌
entry_fill g row k h =
    rw (
      has_union g.present row.present k,
      get_or_each 16 (filled_word g row) 0 k h,
      has_difference row.present g.present k,
    )
    (table (has g.present k) (has row.present k) (get_or g.values k 0) (get_or row.values k 0))
  where
    table : (a b : Bool) (x y : ℕ)
        → entry_by (a or b) (select (b and not a) y x) ≡ option_or (entry_by a x) (entry_by b y)
    table true true x y = refl
    table true false x y = refl
    table false true x y = refl
    table false false x y = refl

-- ---- the words as the code fills them
-- the words of l, but those of the members of m the row's
abbrev pub words_from : ℕ → List ℕ → List ℕ → List ℕ
words_from m row l = each 16 (λ k. select (has m k) (get_or row k 0) (get_or l k 0))

pub fill_words : (g row : GlobalData)
    → record {
      present = union_of g.present row.present;
      values = words_from (difference_of row.present g.present) row.values g.values;
    } ≡ fill_of g row
unfolding fill_of filled_word
fill_words g row = refl

-- a member's word is taken, and the others are left
pub words_more : (m : ℕ) (row l : List ℕ) (i : ℕ) → length l ≡ 16 → i < 16 → has m i ≡ true
    → words_from (remove_of m i) row (set l i (get_or row i 0)) ≡ words_from m row l
words_more m row l i e b t = each_cong 16 _ _ (λ k h. go k (eq-or k i))
  where
    go : (k : ℕ) → (k ≡ i) ⊎ (k ≡ i → ⊥)
        → select (has (remove_of m i) k) (get_or row k 0) (get_or (set l i (get_or row i 0)) k 0)
        ≡ select (has m k) (get_or row k 0) (get_or l k 0)
    go k (inl p) =
        select_off _ _ _ (has_remove m i k ∙ and_off_r _ _ (rw (truth.same_mk k i p)))
        ∙ rw p (get_or-set_same l i (get_or row i 0) 0 (omega arith) ∙ sym (select_on _ _ _ t))
    go k (inr p) =
        rw (
          has_remove m i k ∙ and_on_r _ _ (rw (truth.same_off k i p)),
          get_or-set_other l i k (get_or row i 0) 0 p,
        )

-- none is left
pub words_none : (row l : List ℕ) → length l ≡ 16 → words_from 0 row l ≡ l
words_none row l e = sym (each-get_or 16 _ 0 l e (λ k b. sym (select_off _ _ _ (has_empty k))))

-- ---- filling from the rows of the members
module _ (m : ℕ) (rows : ℕ → GlobalData) (g : GlobalData) where
  pub fill_from_on : (p : ℕ) → has m p ≡ true → fill_from (suc p) m rows g ≡ fill_of (fill_from p m rows g) (rows p)
  unfolding fill_from
  fill_from_on p t = select_on (has m p) (fill_of (fill_from p m rows g) (rows p)) (fill_from p m rows g) t

  pub fill_from_off : (p : ℕ) → has m p ≡ false → fill_from (suc p) m rows g ≡ fill_from p m rows g
  unfolding fill_from
  fill_from_off p f = select_off (has m p) (fill_of (fill_from p m rows g) (rows p)) (fill_from p m rows g) f

  -- what holds of g, and is kept by a member's row and past one that is no member, holds of g filled
  pub fill_from_ind : (P : ℕ → GlobalData → Type 0) → P 0 g
      → ((q : ℕ) → P q (fill_from q m rows g) → has m q ≡ true → P (suc q) (fill_of (fill_from q m rows g) (rows q)))
      → ((q : ℕ) → P q (fill_from q m rows g) → has m q ≡ false → P (suc q) (fill_from q m rows g))
      → (p : ℕ) → P p (fill_from p m rows g)
  unfolding fill_from
  fill_from_ind P z s t zero = z
  fill_from_ind P z s t (suc q) = go (is (has m q)) (fill_from_ind P z s t q)
    where
      go : Is (has m q) → P q (fill_from q m rows g) → P (suc q) (fill_from (suc q) m rows g)
      go (on e) h = rw (fill_from_on q e) (s q h e)
      go (off e) h = rw (fill_from_off q e) (t q h e)

  pub fill_from-lt : (n p : ℕ) → g.present < 2 ^ n → ((q : ℕ) → q < p → has m q ≡ true → (rows q).present < 2 ^ n)
      → (fill_from p m rows g).present < 2 ^ n
  fill_from-lt n p hg =
      fill_from_ind (λ (q : ℕ) (f : GlobalData).
      ((r : ℕ) → r < q → has m r ≡ true → (rows r).present < 2 ^ n) → f.present < 2 ^ n)
      (λ h. hg)
      (λ q ih e h. fill_lt n (fill_from q m rows g) (rows q) (ih (λ r l. h r (omega arith))) (h q (omega arith) e))
      (λ q ih e h. ih (λ r l. h r (omega arith))) p

  pub fill_from-length : (p : ℕ) → length g.values ≡ 16 → length (fill_from p m rows g).values ≡ 16
  fill_from-length p h =
      fill_from_ind (λ (q : ℕ) (f : GlobalData). length f.values ≡ 16) h
      (λ q ih e. fill_length (fill_from q m rows g) (rows q)) (λ q ih e. ih) p

  -- a present entry stays present
  pub fill_stays : (p k : ℕ) → has g.present k ≡ true → has (fill_from p m rows g).present k ≡ true
  fill_stays p k h =
      fill_from_ind (λ (q : ℕ) (f : GlobalData). has f.present k ≡ true) h
      (λ q ih e. present_fill (fill_from q m rows g) (rows q) k
      ∙ or_mk_l (has (fill_from q m rows g).present k) (has (rows q).present k) ih)
      (λ q ih e. ih) p

  -- an entry that a member's row has is present
  pub fill_has : (p q k : ℕ) → q < p → has m q ≡ true → has (rows q).present k ≡ true
      → has (fill_from p m rows g).present k ≡ true
  fill_has p q k l t h =
      fill_from_ind (λ (p : ℕ) (f : GlobalData). q < p → has f.present k ≡ true) (λ l. absurd (omega arith))
      (λ r ih e l.
      let a = has (fill_from r m rows g).present k in
      let b = has (rows r).present k in
      present_fill (fill_from r m rows g) (rows r) k
      ∙ ⊎_elim (λ (u : q ≡ r). or_mk_r a b (rw (← u) h)) (λ u. or_mk_l a b (ih (omega arith))) (eq-or q r))
      (λ r ih e l. ⊎_elim (λ (u : q ≡ r). clash (has m q) t (rw u e)) (λ u. ih (omega arith)) (eq-or q r))
      p l

  -- a value once there is kept
  pub fill_later : (q p k v : ℕ) → k < 16 → q ≤ p → entry_of (fill_from q m rows g) k ≡ Some (value_in v)
      → entry_of (fill_from p m rows g) k ≡ Some (value_in v)
  fill_later q p k v b l h = go (p - q) p (omega arith)
    where
      step : (p : ℕ) → Is (has m p) → entry_of (fill_from p m rows g) k ≡ Some (value_in v)
          → entry_of (fill_from (suc p) m rows g) k ≡ Some (value_in v)
      step p (on e) ih =
          ap (λ (f : GlobalData). entry_of f k) (fill_from_on p e) ∙ entry_fill (fill_from p m rows g) (rows p) k b
          ∙ or_entry_value _ _ _ ih
      step p (off e) ih = ap (λ (f : GlobalData). entry_of f k) (fill_from_off p e) ∙ ih

      go : (d p : ℕ) → p ≡ q + d → entry_of (fill_from p m rows g) k ≡ Some (value_in v)
      go zero p e = let e' : p ≡ q = omega arith in rw e' h
      go (suc d) p e =
          let e' : p ≡ suc (q + d) = omega arith in
          rw e' (step (q + d) (is (has m (q + d))) (go d (q + d) refl))

  pub fill_keeps : (p k v : ℕ) → k < 16 → entry_of g k ≡ Some (value_in v)
      → entry_of (fill_from p m rows g) k ≡ Some (value_in v)
  unfolding fill_from
  fill_keeps p k v b h = fill_later 0 p k v b (omega arith) h

  -- an entry is absent after filling just where it is absent in g and in each member's row
  pub fill_absent : (p k : ℕ) → k < 16 → entry_of g k ≡ None
      → ((q : ℕ) → q < p → has m q ≡ true → entry_of (rows q) k ≡ None) → entry_of (fill_from p m rows g) k ≡ None
  fill_absent p k b hg =
      fill_from_ind
      (λ (q : ℕ) (f : GlobalData).
      ((r : ℕ) → r < q → has m r ≡ true → entry_of (rows r) k ≡ None) → entry_of f k ≡ None)
      (λ h. hg)
      (λ q ih e h.
      entry_fill (fill_from q m rows g) (rows q) k b
      ∙ or_entry_absent _ _ (ih (λ r l. h r (omega arith)))
      ∙ h q (omega arith) e)
      (λ q ih e h. ih (λ r l. h r (omega arith))) p

  pub absent_own : (p k : ℕ) → entry_of (fill_from p m rows g) k ≡ None → entry_of g k ≡ None
  absent_own p k h = go (is (has g.present k))
    where
      go : Is (has g.present k) → entry_of g k ≡ None
      go (on t) =
          clash (has (fill_from p m rows g).present k) (fill_stays p k t) (absent_clear (fill_from p m rows g) k h)
      go (off f) = entry_absent g k f

  pub absent_rows : (p k : ℕ) → entry_of (fill_from p m rows g) k ≡ None → (q : ℕ) → q < p → has m q ≡ true
      → entry_of (rows q) k ≡ None
  absent_rows p k h q l e = go (is (has (rows q).present k))
    where
      go : Is (has (rows q).present k) → entry_of (rows q) k ≡ None
      go (on t) =
          clash (has (fill_from p m rows g).present k) (fill_has p q k l e t) (absent_clear (fill_from p m rows g) k h)
      go (off f) = entry_absent (rows q) k f

-- the value v of entry k comes from the lowest-numbered member of m below p whose row has one, and g has none
pub record Lowest (m : ℕ) (rows : ℕ → GlobalData) (g : GlobalData) (p k v : ℕ) : Type 0 where
  pub who : ℕ
  pub low : who < p
  pub member : has m who ≡ true
  pub shows : entry_of (rows who) k ≡ Some (value_in v)
  pub lacks : entry_of g k ≡ None
  pub none_before : (q : ℕ) → q < who → has m q ≡ true → entry_of (rows q) k ≡ None

module _ (m : ℕ) (rows : ℕ → GlobalData) (g : GlobalData) where
  -- where a value comes from
  pub fill_comes : (p k v : ℕ) → k < 16 → entry_of (fill_from p m rows g) k ≡ Some (value_in v)
      → (entry_of g k ≡ Some (value_in v)) ⊎ Lowest m rows g p k v
  fill_comes p k v b =
      fill_from_ind m rows g
      (λ (q : ℕ) (f : GlobalData). entry_of f k ≡ Some (value_in v)
      → (entry_of g k ≡ Some (value_in v)) ⊎ Lowest m rows g q k v)
      inl (λ q ih e h. filled q e ih (sym (entry_fill (fill_from q m rows g) (rows q) k b) ∙ h)
      (absent_or (fill_from q m rows g) k))
      (λ q ih e h. more q (ih h)) p
    where
      more : (q : ℕ) → (entry_of g k ≡ Some (value_in v)) ⊎ Lowest m rows g q k v
          → (entry_of g k ≡ Some (value_in v)) ⊎ Lowest m rows g (suc q) k v
      more q (inl h) = inl h
      more q (inr w) =
          inr record {
            who = w.who;
            low = omega (arith, w.low);
            member = w.member;
            shows = w.shows;
            lacks = w.lacks;
            none_before = w.none_before;
          }

      filled : (q : ℕ) → has m q ≡ true
          → (entry_of (fill_from q m rows g) k ≡ Some (value_in v)
          → (entry_of g k ≡ Some (value_in v)) ⊎ Lowest m rows g q k v)
          → option_or (entry_of (fill_from q m rows g) k) (entry_of (rows q) k) ≡ Some (value_in v)
          → (entry_of (fill_from q m rows g) k ≡ None)
          ⊎ ((w : ℕ) × (entry_of (fill_from q m rows g) k ≡ Some (value_in w)))
          → (entry_of g k ≡ Some (value_in v)) ⊎ Lowest m rows g (suc q) k v
      filled q e ih h (inl a) =
          inr record {
            who = q;
            low = omega arith;
            member = e;
            shows = sym (or_entry_absent _ _ a) ∙ h;
            lacks = absent_own m rows g q k a;
            none_before = absent_rows m rows g q k a;
          }
      filled q e ih h (inr w) =
          more q
          (ih (w.1 ∙ sym (or_entry_value _ _ _ w.1) ∙ h))

  -- and it is that member's value
  pub fill_lowest : (p k v : ℕ) → k < 16 → Lowest m rows g p k v
      → entry_of (fill_from p m rows g) k ≡ Some (value_in v)
  fill_lowest p k v b w =
      let q = w.who in
      fill_later m rows g (suc q) p k v b w.low
      (ap (λ (f : GlobalData). entry_of f k) (fill_from_on m rows g q w.member)
      ∙ entry_fill (fill_from q m rows g) (rows q) k b
      ∙ or_entry_absent _ _ (fill_absent m rows g q k b w.lacks w.none_before)
      ∙ w.shows)

-- ---- the same global data
pub same_entry_on : (d e : Entry) → same_entry d e ≡ true → d ≡ e
unfolding same_entry
same_entry_on None None h = refl
same_entry_on None (Some w) h = clash false h refl
same_entry_on (Some v) None h = clash false h refl
same_entry_on (Some v) (Some w) h =
    let p = truth.same_on v.portions w.portions (and_first _ _ h) in
    let d = truth.same_on v.diet w.diet (and_second _ _ h) in
    ap Some (λ i. record { portions = p i; diet = d i })

pub same_entry_refl : (e : Entry) → same_entry e e ≡ true
unfolding same_entry
same_entry_refl None = refl
same_entry_refl (Some v) = and_mk _ _ (truth.same_refl v.portions) (truth.same_refl v.diet)

module _ (n : ℕ) (g h : GlobalData) where
  pub same_on : same_to n g h ≡ true → (k : ℕ) → k < n → entry_of g k ≡ entry_of h k
  unfolding same_to
  same_on e k l =
      same_entry_on (entry_of g k) (entry_of h k) (every_on n (λ k. same_entry (entry_of g k) (entry_of h k)) e k l)

  pub same_mk : ((k : ℕ) → k < n → entry_of g k ≡ entry_of h k) → same_to n g h ≡ true
  unfolding same_to
  same_mk f =
      every_mk n (λ k. same_entry (entry_of g k) (entry_of h k)) (λ k l. rw (f k l) (same_entry_refl (entry_of h k)))

  pub same_not : same_to n g h ≡ false → (k : ℕ) × (k < n) × (entry_of g k ≡ entry_of h k → ⊥)
  unfolding same_to
  same_not e =
      let w = every-not n (λ k. same_entry (entry_of g k) (entry_of h k)) e in (
        w.0,
        w.1,
        λ u. clash (same_entry (entry_of g w.0) (entry_of h w.0)) (rw u (same_entry_refl (entry_of h w.0))) w.2,
      )

pub same_to_refl : (n : ℕ) (g : GlobalData) → same_to n g g ≡ true
same_to_refl n g = same_mk n g g (λ k l. refl)

pub same_to_sym : (n : ℕ) (g h : GlobalData) → same_to n g h ≡ same_to n h g
same_to_sym n g h =
    by_both (same_to n g h) (same_to n h g) (λ e. same_mk n h g (λ k l. sym (same_on n g h e k l)))
    (λ e. same_mk n g h (λ k l. sym (same_on n h g e k l)))

-- ---- the same by present marks and words, as the code compares
-- the entries below n that are present
abbrev pub marks : ℕ → GlobalData → ℕ
marks n g = intersection_of (all_of n) g.present

-- where entry k is asked for, its words are the same
abbrev pub words_same : ℕ → GlobalData → GlobalData → ℕ → Bool
words_same m g h k = select (has m k) (same (get_or g.values k 0) (get_or h.values k 0)) true

-- the same entry is present in both or in neither
same_present : (g h : GlobalData) (k : ℕ) → entry_of g k ≡ entry_of h k → has g.present k ≡ has h.present k
same_present g h k e = by_both _ _ (λ t. on_too g h e t) (λ t. on_too h g (sym e) t)
  where
    on_too : (g h : GlobalData) → entry_of g k ≡ entry_of h k → has g.present k ≡ true → has h.present k ≡ true
    on_too g h e t = value_present h k _ (sym e ∙ entry_present g k t)

has-marks : (n : ℕ) (g : GlobalData) (k : ℕ) → has (marks n g) k ≡ (less k n and has g.present k)
has-marks n g k = has_intersection _ _ k ∙ ap (λ (b : Bool). b and has g.present k) (has_all n k)

module _ (n : ℕ) (g h : GlobalData) where
  pub same-marks : same_to n g h ≡ true → marks n g ≡ marks n h
  same-marks e =
      set_ext n _ _ (intersection_lt n _ _ (all_lt n)) (intersection_lt n _ _ (all_lt n))
      (λ k l.
      has-marks n g k ∙ ap (λ (b : Bool). less k n and b) (same_present g h k (same_on n g h e k l))
      ∙ sym (has-marks n h k))

  pub same_unmarked : (marks n g ≡ marks n h → ⊥) → same_to n g h ≡ false
  same_unmarked f = off_by _ (λ e. f (same-marks e))

  -- where the same entries are present, their words are left to compare
  module _ (few : n ≤ 16) (m : marks n g ≡ marks n h) where
    -- entry k below n is present in h where it is in g
    there : (k : ℕ) → k < n → has g.present k ≡ has h.present k
    there k l =
        sym (has-marks n g k ∙ and_on_l _ _ (less_mk k n l)) ∙ ap (λ (x : ℕ). has x k) m ∙ has-marks n h k
        ∙ and_on_l _ _ (less_mk k n l)

    pub same_words_marked : same_to n g h ≡ every 16 (words_same (marks n g) g h)
    same_words_marked =
        by_both _ _ (λ e. every_mk 16 (words_same (marks n g) g h) (λ k b. words e k (is (has (marks n g) k))))
        (λ e. same_mk n g h (λ k l. entries k l (every_on 16 (words_same (marks n g) g h) e k (omega arith))
        (is (has g.present k))))
      where
        words : same_to n g h ≡ true → (k : ℕ) → Is (has (marks n g) k) → words_same (marks n g) g h k ≡ true
        words e k (off f) = select_off _ _ true f
        words e k (on t) =
            let b = sym (has-marks n g k) ∙ t in
            let l : k < n = less_on k n (and_first _ _ b) in
            let u : has g.present k ≡ true = and_second _ _ b in
            select_on _ _ true t
            ∙ truth.same_mk _ _ (value_word _ _ (same_Some _ _ (sym (entry_present g k u) ∙ same_on n g h e k l
            ∙ entry_present h k (sym (there k l) ∙ u))))

        entries : (k : ℕ) → k < n → words_same (marks n g) g h k ≡ true → Is (has g.present k)
            → entry_of g k ≡ entry_of h k
        entries k l e (off f) = entry_absent g k f ∙ sym (entry_absent h k (sym (there k l) ∙ f))
        entries k l e (on t) =
            entry_present g k t
            ∙ ap (λ w. Some (value_in w)) (truth.same_on _ _
            (sym (select_on _ _ true (has-marks n g k ∙ and_mk _ _ (less_mk k n l) t)) ∙ e))
            ∙ sym (entry_present h k (sym (there k l) ∙ t))

module _ (p n m : ℕ) (rows : ℕ → GlobalData) (g : GlobalData) where
  abbrev row_same : ℕ → Bool
  row_same q = select (has m q) (same_to n (rows q) g) true

  pub all_same_on : all_same p n m rows g ≡ true → (q : ℕ) → q < p → has m q ≡ true → same_to n (rows q) g ≡ true
  unfolding all_same
  all_same_on e q l t = sym (select_on (has m q) (same_to n (rows q) g) true t) ∙ every_on p row_same e q l

  pub all_same_mk : ((q : ℕ) → q < p → has m q ≡ true → same_to n (rows q) g ≡ true) → all_same p n m rows g ≡ true
  unfolding all_same
  all_same_mk h = every_mk p row_same (λ q l. go q l (is (has m q)))
    where
      go : (q : ℕ) → q < p → Is (has m q) → row_same q ≡ true
      go q l (on t) = select_on (has m q) (same_to n (rows q) g) true t ∙ h q l t
      go q l (off f) = select_off (has m q) (same_to n (rows q) g) true f

  pub all_same-not : all_same p n m rows g ≡ false → (q : ℕ) × (q < p) × (has m q ≡ true) × (same_to n (rows q) g ≡ false)
  unfolding all_same
  all_same-not e = let w = every-not p row_same e in go w.0 w.1 w.2 (is (has m w.0))
    where
      go : (q : ℕ) → q < p → row_same q ≡ false → Is (has m q)
          → (q : ℕ) × (q < p) × (has m q ≡ true) × (same_to n (rows q) g ≡ false)
      go q l u (on t) = (q, l, t, sym (select_on (has m q) (same_to n (rows q) g) true t) ∙ u)
      go q l u (off f) = clash (row_same q) (select_off (has m q) (same_to n (rows q) g) true f) u
