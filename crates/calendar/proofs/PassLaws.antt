-- One pass over the records tells who takes part: of each kind and site it marks the weekdays that lie in a record,
-- and a site takes part where a day marked as term is not marked as closed. By induction on the records looked at.
use Rattle.std.specs.Prelude.{◌≡◌, refl, Bool, true, false, not, List, [], ℕ, suc, ◌+◌, ◌-◌, ◌*◌, ◌/◌, ◌≤◌, ◌<◌, min}
use Rattle.std.specs.Prelude.{length, ◌≢◌, ◌⊎◌, zero, get_or, set, take, drop, replicate}
use Rattle.std.proofs.Common.{◌∙◌, sym, ap, ap₂, arith, inl, inr, length-set, get_or-set_same, get_or-set_other}
use Rattle.std.proofs.Math.ListN.{length-replicate}
use Rattle.std.proofs.lemmas.List.{get_or-replicate, get_or-take, get_or-drop, drop-drop}
use Rattle.std.specs.Simd.{first_chunks}
use Rattle.sets.specs.EveryLaws.{some_on, some_mk, some_none, some_suc}
use Rattle.sets.specs.Laws.{has_all, has_difference, has_union, nothing_in, member_of}
use Rattle.sets.specs.Set.{has, difference_of, all_of}
use Rattle.sets.specs.Truth.{◌and◌, ◌or◌, same, less, one_to}
use Rattle.sets.specs.TruthLaws.{clash, by_both, and_first, and_second, and_mk, and_on_r, and_off_l, and_off_r}
use Rattle.sets.specs.TruthLaws.{or_off_l, or_off_r}
use Rattle.sets.specs.TruthLaws.{not_on, same_on, same_mk, same_not}
use Rattle.sets.specs.TruthLaws.{same_off, less_on, less_mk, less-not, less_off, eq-or, one_low, one_high, one_mk}
use Rattle.calendar.specs.declared.Kind.{Kind}
use Rattle.calendar.specs.declared.Kind.TheVariants.{Term, Closed}
use Rattle.calendar.specs.declared.Marks.{Marks}
use Rattle.calendar.specs.declared.Period.{Period}
use Rattle.calendar.specs.Calendar.{Record, kind_number, periods_in, period_at, well_formed, own_of, lies, has_day}
use Rattle.calendar.specs.Calendar.{lies_in, open_on}
use Rattle.calendar.specs.Calendar.{takes_part_in}
use Rattle.calendar.specs.PassLaws.{record_of, lies_in_to, no_marks, marked_by, with_days, Marked, some_day, open_in}

-- ---- the weekdays of one record: those before its end without those before its beginning
module _ (monday : ℕ) (p : Record) where
  pub weekdays : (i : ℕ)
      → has (difference_of (all_of (min (p.last + 1 - monday) 5)) (all_of (min (p.first - monday) 5))) i
      ≡ (less i 5 and lies (monday + i) p)
  unfolding lies
  weekdays i =
      has_difference _ _ i ∙ ap₂ (λ a b. a and not b) (has_all _ i) (has_all _ i)
      ∙ by_both _ _ there back
    where
      there : (less i (min (p.last + 1 - monday) 5) and not (less i (min (p.first - monday) 5))) ≡ true
          → (less i 5 and (not (less (monday + i) p.first) and not (less p.last (monday + i)))) ≡ true
      there e =
          let a : i < min (p.last + 1 - monday) 5 = less_on _ _ (and_first _ _ e) in
          let b : min (p.first - monday) 5 ≤ i = less-not _ _ (not_on _ (and_second _ _ e)) in
          and_mk _ _ (less_mk i 5 (omega arith))
          (and_mk _ _ (ap not (less_off (monday + i) p.first (omega arith)))
          (ap not (less_off p.last (monday + i) (omega arith))))

      back : (less i 5 and (not (less (monday + i) p.first) and not (less p.last (monday + i)))) ≡ true
          → (less i (min (p.last + 1 - monday) 5) and not (less i (min (p.first - monday) 5))) ≡ true
      back e =
          let a : i < 5 = less_on _ _ (and_first _ _ e) in
          let b : p.first ≤ monday + i = less-not _ _ (not_on _ (and_first _ _ (and_second _ _ e))) in
          let c : monday + i ≤ p.last = less-not _ _ (not_on _ (and_second _ _ (and_second _ _ e))) in
          and_mk _ _ (less_mk i _ (omega arith)) (ap not (less_off i (min (p.first - monday) 5) (omega arith)))

-- ---- a well-formed record by its parts
pub record Formed (p : Record) : Type 0 where
  pub low : 1 ≤ p.site
  pub high : p.site ≤ 16
  pub kinds : one_to 2 p.kind ≡ true
  pub order : p.first ≤ p.last
  pub nought : p.rest ≡ 0

module _ (p : Record) where
  pub formed_parts : well_formed p ≡ true → Formed p
  unfolding well_formed
  formed_parts e =
      let s : one_to 16 p.site ≡ true = and_first _ _ e in
      let k = and_second _ _ e in
      let d = and_second _ _ k in
      record {
        low = one_low 16 p.site s;
        high = one_high 16 p.site s;
        kinds = and_first _ _ k;
        order = less-not p.last p.first (not_on _ (and_first _ _ d));
        nought = same_on p.rest 0 (and_second _ _ d);
      }

  pub formed_mk : Formed p → well_formed p ≡ true
  unfolding well_formed
  formed_mk f =
      and_mk _ _ (one_mk 16 p.site f.low f.high)
      (and_mk _ _ f.kinds (and_mk _ _ (ap not (less_off p.last p.first f.order)) (same_mk p.rest 0 f.nought)))

-- ---- what is marked

no_days : (kind : Kind) → marked_by kind no_marks ≡ 0
no_days Term = refl
no_days Closed = refl

-- some days more of one kind, and the days of each
has_with : (m : Marks) (kind k : Kind) (days i : ℕ)
    → has (marked_by k (with_days m kind days)) i
    ≡ (has (marked_by k m) i or (same (kind_number kind) (kind_number k) and has days i))
unfolding same ◌and◌
has_with m Term Term days i = has_union m.term days i
has_with m Closed Closed days i = has_union m.closed days i
has_with m Term Closed days i = sym (or_off_r (has m.closed i) false refl)
has_with m Closed Term days i = sym (or_off_r (has m.term i) false refl)

and_none : (b : Bool) → false ≡ (b and false)
and_none b = sym (and_off_r b false refl)

-- one record more: o says that it is of the kind and site
more_days : (b l c o : Bool) → ((b and l) or (o and (b and c))) ≡ (b and ((o and c) or l))
unfolding ◌and◌ ◌or◌
more_days true true true true = refl
more_days true true true false = refl
more_days true true false true = refl
more_days true true false false = refl
more_days true false true true = refl
more_days true false true false = refl
more_days true false false true = refl
more_days true false false false = refl
more_days false l c true = refl
more_days false l c false = refl

module _ (calendar : List ℕ) (monday : ℕ) where
  pub mark_none : Marked calendar monday 0 (replicate 16 no_marks)
  unfolding lies_in_to
  mark_none = record {
    long = length-replicate {A = Marks} 16 no_marks;
    marked = λ kind k i l.
        ap (λ m. has (marked_by kind m) i) (get_or-replicate {A = Marks} 16 k no_marks no_marks l)
        ∙ nothing_in _ (no_days kind) i ∙ and_none (less i 5)
        ∙ ap (λ b. less i 5 and b) (sym (some_none 0 _ (λ k l. absurd (omega arith))));
  }

  module _ (j days : ℕ) (period : Period) (sites : List Marks) (e : record_of period ≡ period_at calendar j)
      (s : one_to 16 period.site ≡ true)
      (h : (i : ℕ) → has days i ≡ (less i 5 and lies (monday + i) (record_of period)))
      (m : Marked calendar monday j sites) where
    abbrev at : ℕ
    at = period.site - 1

    abbrev after : List Marks
    after = set sites at (with_days (get_or sites at no_marks) period.kind days)

    -- a day in one of the first j records, or in this one
    lies_more : (kind : Kind) (site day : ℕ)
        → lies_in_to calendar (suc j) kind site day
        ≡ (has_day kind site day (record_of period) or lies_in_to calendar j kind site day)
    unfolding lies_in_to
    lies_more kind site day =
        some_suc j _ ∙ ap (λ p. has_day kind site day p or lies_in_to calendar j kind site day) (sym e)

    abbrev Here : Kind → ℕ → ℕ → Type 0
    Here kind k i =
        has (marked_by kind (get_or after k no_marks)) i
        ≡ (less i 5 and lies_in_to calendar (suc j) kind (k + 1) (monday + i))

    its_own : (kind : Kind) (k i : ℕ) → k < 16 → k ≡ at → Here kind k i
    unfolding own_of
    its_own kind k i l u =
        let v : period.site ≡ k + 1 = omega (arith, one_low 16 period.site s) in
        let w : at < 16 = omega arith in
        ap (λ x. has (marked_by kind (get_or after x no_marks)) i) u
        ∙ ap (λ x. has (marked_by kind x) i) (get_or-set_same sites at _ no_marks (omega (arith, w, m.long)))
        ∙ has_with (get_or sites at no_marks) period.kind kind days i
        ∙ ap₂ (λ x y. x or (y and has days i))
        (ap (λ x. has (marked_by kind (get_or sites x no_marks)) i) (sym u) ∙ m.marked kind k i l)
        (sym (and_on_r _ _ (same_mk _ _ v)))
        ∙ ap (λ x. (less i 5 and lies_in_to calendar j kind (k + 1) (monday + i))
        or (own_of kind (k + 1) (record_of period) and x)) (h i)
        ∙ more_days (less i 5) _ (lies (monday + i) (record_of period)) (own_of kind (k + 1) (record_of period))
        ∙ ap (λ b. less i 5 and b) (sym (lies_more kind (k + 1) (monday + i)))

    another : (kind : Kind) (k i : ℕ) → k < 16 → k ≢ at → Here kind k i
    unfolding own_of
    another kind k i l d =
        let o : own_of kind (k + 1) (record_of period) ≡ false =
        and_off_r _ _ (same_off _ _ (λ v. d (omega arith))) in
        ap (λ x. has (marked_by kind x) i) (get_or-set_other sites at k _ no_marks d) ∙ m.marked kind k i l
        ∙ ap (λ b. less i 5 and b)
        (sym (or_off_l _ _ (and_off_l _ _ o)) ∙ sym (lies_more kind (k + 1) (monday + i)))

    pub mark_more : Marked calendar monday (suc j) after
    mark_more = record {
      long = length-set sites at _ ∙ m.long;
      marked = λ kind k i l. go kind k i l (eq-or k at);
    }
      where
        go : (kind : Kind) (k i : ℕ) → k < 16 → (k ≡ at) ⊎ (k ≢ at) → Here kind k i
        go kind k i l (inl u) = its_own kind k i l u
        go kind k i l (inr d) = another kind k i l d

-- ---- from the marks to who takes part

shared : (b x y : Bool) → ((b and x) and not (b and y)) ≡ (b and (x and not y))
unfolding ◌and◌
shared true x y = refl
shared false x y = refl

module _ (calendar : List ℕ) (week : ℕ) (sites : List Marks)
    (m : Marked calendar (7 * week) (periods_in calendar) sites) where
  open_day : (i d : ℕ) → i < 16
      → has (difference_of (get_or sites i no_marks).term (get_or sites i no_marks).closed) d
      ≡ (less d 5 and open_on calendar (i + 1) (7 * week + d))
  unfolding open_on lies_in lies_in_to
  open_day i d l =
      has_difference _ _ d ∙ ap₂ (λ x y. x and not y) (m.marked Term i d l) (m.marked Closed i d l)
      ∙ shared (less d 5) _ _

  pub part_is : (i : ℕ) → i < 16 → open_in sites (i + 1) ≡ takes_part_in calendar week (i + 1)
  unfolding some_day takes_part_in
  part_is i l =
      let e : i + 1 - 1 ≡ i = omega arith in
      ap (λ k. some_day (get_or sites k no_marks)) e
      ∙ by_both _ _
      (λ e.
      let w = member_of left (same_not left 0 (not_on _ e)) in
      let b : (less w.0 5 and open_on calendar (i + 1) (7 * week + w.0)) ≡ true =
      sym (open_day i w.0 l) ∙ w.1 in
      some_mk 5 _ w.0 (less_on w.0 5 (and_first _ _ b)) (and_second _ _ b))
      (λ e.
      let w = some_on 5 _ e in
      ap not (same_off left 0 (λ z. clash (has left w.0)
      (open_day i w.0 l ∙ and_mk _ _ (less_mk w.0 5 w.1) w.2) (nothing_in left z w.0))))
    where
      left : ℕ
      left = difference_of (get_or sites i no_marks).term (get_or sites i no_marks).closed

-- ---- the records as the pass has them: eight bytes each
chunk_at : (k : ℕ) (xs : List ℕ) (j : ℕ) → j < k → get_or (first_chunks 8 k xs) j [] ≡ take 8 (drop (8 * j) xs)
chunk_at zero xs j l = absurd (omega arith)
chunk_at (suc k) xs zero l = refl
chunk_at (suc k) xs (suc j) l =
    let e : 8 * j + 8 ≡ 8 * suc j = omega arith in
    chunk_at k (drop 8 xs) j (omega arith) ∙ ap (take 8) (drop-drop (8 * j) 8 xs)
    ∙ ap (λ (i : ℕ). take 8 (drop i xs)) (omega arith)

-- each has the record at its place
pub record_in : (xs : List ℕ) (j : ℕ) → j < length xs / 8
    → period_at (get_or (first_chunks 8 (length xs / 8) xs) j []) 0 ≡ period_at xs j
unfolding period_at
record_in xs j l = ap (λ b. period_at b 0) (chunk_at (length xs / 8) xs j l) ∙ fields
  where
    byte : (k : ℕ) → k < 8 → get_or (take 8 (drop (8 * j) xs)) k 0 ≡ get_or xs (8 * j + k) 0
    byte k l = get_or-take 8 (drop (8 * j) xs) k 0 l ∙ get_or-drop (8 * j) xs k 0

    first : get_or (take 8 (drop (8 * j) xs)) 0 0 ≡ get_or xs (8 * j) 0
    first = let e : 8 * j + 0 ≡ 8 * j = omega arith in byte 0 (omega arith) ∙ ap (λ (i : ℕ). get_or xs i 0) e

    fields : period_at (take 8 (drop (8 * j) xs)) 0 ≡ period_at xs j
    fields =
        rw (
          first,
          byte 1 (omega arith),
          byte 2 (omega arith),
          byte 3 (omega arith),
          byte 4 (omega arith),
          byte 5 (omega arith),
          byte 6 (omega arith),
          byte 7 (omega arith),
        )
