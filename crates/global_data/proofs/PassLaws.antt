-- Request C-16: one pass over the rows both fills and compares. `one_pass` is the law that it is enough: the filled
-- global data is the same as the old one and as each row just where each row is the same as the old one.
-- `Passing` is the pass, a process at a time from 0 on: the members below the one that it has come to are filled in
-- and compared, by the definitions.
use Rattle.std.specs.Prelude.{◌≡◌, ◌≢◌, Bool, false, ℕ, zero, suc, ◌+◌, ◌-◌, ◌/◌, ◌%◌, ◌^◌, ◌≤◌, ◌<◌, length}
use Rattle.std.proofs.Math.Path.{refl}
use Rattle.std.proofs.Common.{sym, ap, ◌∙◌, ⊎_elim, div-lt_iff_lt-mul, arith, pow_pos, pow_mono, shr-shr}
use Rattle.std.proofs.Math.Bool.{true}
use Rattle.std.proofs.Math.Nat.{div-eq_of_lt}
use Rattle.sets.specs.Set.{has}
use Rattle.sets.specs.Laws.{has_low, has_past}
use Rattle.sets.specs.Lists.{every}
use Rattle.sets.specs.Truth.{◌and◌, same}
use Rattle.sets.specs.TruthLaws.{by_both, select_on, select_off, and_first, and_second, and_mk, and_on_l, same_mk}
use Rattle.sets.specs.TruthLaws.{same_off}
use Rattle.sets.specs.TruthLaws.{le-or}
use Rattle.global_data.specs.declared.GlobalData.{GlobalData}
use Rattle.global_data.specs.GlobalData.{entry_of, fill_of, fill_from, same_to, all_same}
use Rattle.global_data.proofs.Laws as laws
use Rattle.global_data.proofs.Laws.{absent_or, fill_from_on, fill_from_off, fill_from-length, fill_absent}
use Rattle.global_data.proofs.Laws.{fill_keeps, all_same_on, all_same_mk}

-- ---- one pass is enough, for any set of members, any rows and any n; past 16 there are no entries
module _ (n p m : ℕ) (rows : ℕ → GlobalData) (g : GlobalData) (few : n ≤ 16) where
  abbrev filled : GlobalData
  filled = fill_from p m rows g

  -- where no row differs from g, filling changes no entry
  pub fill_idle : all_same p n m rows g ≡ true → (k : ℕ) → k < n → entry_of filled k ≡ entry_of g k
  fill_idle e k l =
      ⊎_elim
      (λ a.
      fill_absent m rows g p k (omega arith) a
      (λ q b t. laws.same_on n (rows q) g (all_same_on p n m rows g e q b t) k l ∙ a)
      ∙ sym a)
      (λ w. fill_keeps m rows g p k w.0 (omega arith) w.1 ∙ sym w.1) (absent_or g k)

  pub one_pass : (same_to n filled g and all_same p n m rows filled) ≡ all_same p n m rows g
  one_pass =
      by_both _ _
      (λ e.
      all_same_mk p n m rows g
      (λ q b t.
      laws.same_mk n (rows q) g
      (λ k l.
      laws.same_on n (rows q) filled (all_same_on p n m rows filled (and_second _ _ e) q b t) k l
      ∙ laws.same_on n filled g (and_first _ _ e) k l)))
      (λ e.
      and_mk _ _ (laws.same_mk n filled g (fill_idle e))
      (all_same_mk p n m rows filled
      (λ q b t.
      laws.same_mk n (rows q) filled
      (λ k l. laws.same_on n (rows q) g (all_same_on p n m rows g e q b t) k l ∙ sym (fill_idle e k l)))))

-- ---- one process more
module _ (n m : ℕ) (rows : ℕ → GlobalData) (g : GlobalData) (p : ℕ) where
  all_same_in : has m p ≡ true → all_same (suc p) n m rows g ≡ (same_to n (rows p) g and all_same p n m rows g)
  unfolding all_same every
  all_same_in t = rw (select_on (has m p) (same_to n (rows p) g) true t)

  all_same_off : has m p ≡ false → all_same (suc p) n m rows g ≡ all_same p n m rows g
  unfolding all_same every
  all_same_off f = and_on_l _ _ (select_off (has m p) (same_to n (rows p) g) true f)

-- ---- the pass over the rows of the members of m: those below `seen` are seen, and `left` has the bits of the others,
-- from `seen` on. g is the old global data filled from the rows seen, and ok says that none of these differs from the
-- old one.
pub record Passing (n m : ℕ) (rows : ℕ → GlobalData) (old : GlobalData) (seen left : ℕ) (g : GlobalData)
    (ok : Bool) : Type 0 where
  pub few : m < 2 ^ 16
  pub within : seen ≤ 16
  pub others : left ≡ m / 2 ^ seen
  pub fills : g ≡ fill_from seen m rows old
  pub compares : ok ≡ all_same seen n m rows old

module _ (n m : ℕ) (rows : ℕ → GlobalData) (old : GlobalData) where
  pub passing_new : (left : ℕ) → left < 2 ^ 16 → left ≡ m → Passing n m rows old 0 left old true
  unfolding fill_from all_same every
  passing_new left h e =
      record { few = rw (← e) h; within = omega arith; others = omega arith; fills = refl; compares = refl }

  -- no member from q on: filling and comparing end there
  module _ (q : ℕ) (h : m < 2 ^ q) where
    fill_past : (d : ℕ) → fill_from (q + d) m rows old ≡ fill_from q m rows old
    fill_past zero = ap (λ (p : ℕ). fill_from p m rows old) (omega arith)
    fill_past (suc d) =
        ap (λ (p : ℕ). fill_from p m rows old) (omega arith)
        ∙ fill_from_off m rows old (q + d) (has_past q m (q + d) h (omega arith)) ∙ fill_past d

    same_past : (p : ℕ) → q ≤ p → all_same p n m rows old ≡ all_same q n m rows old
    same_past p l =
        by_both _ _
        (λ e. all_same_mk q n m rows old (λ k b t. all_same_on p n m rows old e k (omega arith) t))
        (λ e. all_same_mk p n m rows old (λ k b t. all_same_on q n m rows old e k (has_low q m k h t) t))

  module _ (seen left : ℕ) (g : GlobalData) (ok : Bool) (w : Passing n m rows old seen left g ok) where
    -- where a member is left, not all sixteen are seen
    pub passing_lt : left ≢ 0 → seen < 16
    passing_lt z =
        ⊎_elim
        (λ l. absurd (z (w.others ∙ div-eq_of_lt {n = m} {m = 2 ^ seen} (omega (arith, w.few, pow_mono l)))))
        (λ l. l) (le-or 16 seen)

    -- the lowest bit says whether the next process is a member
    next_is : has m seen ≡ same (left % 2) 1
    unfolding has
    next_is = rw w.others

    half : left / 2 ≡ m / 2 ^ (seen + 1)
    half = rw w.others (shr-shr m seen 1)

    next_seen : suc seen ≡ seen + 1
    next_seen = omega arith

    -- a turn: the next process is no member
    pub passing_skip : left ≢ 0 → left % 2 ≢ 1 → Passing n m rows old (seen + 1) (left / 2) g ok
    passing_skip z o =
        let f : has m seen ≡ false = next_is ∙ same_off _ _ o in
        record {
          few = w.few;
          within = omega (arith, passing_lt z);
          others = half;
          fills = w.fills ∙ rw next_seen at (sym (fill_from_off m rows old seen f));
          compares = w.compares ∙ rw next_seen at (sym (all_same_off n m rows old seen f));
        }

    -- or it is one, and f and `still` are what comes of its row
    pub passing_more : left ≢ 0 → left % 2 ≡ 1 → (f : GlobalData) (still : Bool) → f ≡ fill_of g (rows seen)
        → still ≡ (same_to n (rows seen) old and ok) → Passing n m rows old (seen + 1) (left / 2) f still
    passing_more z o f still ef es =
        let t : has m seen ≡ true = next_is ∙ same_mk _ _ o in
        record {
          few = w.few;
          within = omega (arith, passing_lt z);
          others = half;
          fills = rw (ef, w.fills) (rw next_seen at (sym (fill_from_on m rows old seen t)));
          compares = rw (es, w.compares) (rw next_seen at (sym (all_same_in n m rows old seen t)));
        }

    -- none of the next d processes is a member: the pass comes past them
    pub passing_to : (d : ℕ) → seen + d ≤ 16 → ((i : ℕ) → seen ≤ i → i < seen + d → has m i ≡ false)
        → Passing n m rows old (seen + d) (m / 2 ^ (seen + d)) g ok
    passing_to zero l h =
        let e : seen + 0 ≡ seen = omega arith in
        record { few = w.few; within = l; others = refl; fills = rw e w.fills; compares = rw e w.compares }
    passing_to (suc d) l h =
        let e : seen + suc d ≡ suc (seen + d) = omega arith in
        let f : has m (seen + d) ≡ false = h (seen + d) (omega arith) (omega arith) in
        let v = passing_to d (omega arith) (λ i a b. h i a (omega arith)) in
        record {
          few = w.few;
          within = l;
          others = refl;
          fills = rw e (v.fills ∙ sym (fill_from_off m rows old (seen + d) f));
          compares = rw e (v.compares ∙ sym (all_same_off n m rows old (seen + d) f));
        }

    -- g has its sixteen words
    pub passing_long : length old.values ≡ 16 → length g.values ≡ 16
    passing_long e = rw w.fills (fill_from-length m rows old seen e)

    -- none is left: all are seen
    pub passing_done : left ≡ 0 → (g ≡ fill_from 16 m rows old) × (ok ≡ all_same 16 n m rows old)
    passing_done z =
        let b : m / 2 ^ seen < 1 = omega (arith, w.others) in
        let h : m < 2 ^ seen = omega (arith, (div-lt_iff_lt-mul (pow_pos seen)).0 b) in
        let e : seen + (16 - seen) ≡ 16 = omega (arith, w.within) in (
          w.fills ∙ sym (rw e at (fill_past seen h (16 - seen))),
          w.compares ∙ sym (same_past seen h 16 w.within),
        )
