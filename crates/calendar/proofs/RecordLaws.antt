-- The answer depends on which records a calendar has, and on nothing else: not on their order, nor on how often one
-- stands there. A record of another site does not move a site, and one that has none of a week's weekdays moves
-- nothing in that week. All by one reading: a day lies in some record just where there is such a record.
use Rattle.std.specs.Prelude.{◌≡◌, true, false, not, Err, List, ◌++◌, ◌≢◌, ◌⊎◌, ℕ, ◌+◌, ◌-◌, ◌*◌, ◌/◌, ◌%◌, ◌≤◌, ◌<◌}
use Rattle.std.proofs.Math.Path.{refl, ap, fun_ext}
use Rattle.std.proofs.Common.{sym, ◌∙◌, ap₂, inl, inr, ⊎_elim, get_or-append-add}
use native.Mathlib.Omega.{arith}
use Rattle.std.proofs.Math.ListN.{length, get_or, length-append, get_or-append}
use Rattle.sets.specs.EveryLaws.{every_on, every_mk, some_on, some_mk, some_cong, some_none}
use Rattle.sets.specs.Truth.{◌and◌, same}
use Rattle.sets.specs.TruthLaws.{by_both, off_by, and_first, and_second, and_mk, and_off_l, same_on, same_mk}
use Rattle.sets.specs.TruthLaws.{less-not, not_on, le-or}
use Rattle.refusal.specs.declared.Refusal.TheVariants.{NoSite}
use Rattle.calendar.specs.declared.Kind.{Kind}
use Rattle.calendar.specs.declared.Kind.TheVariants.{Term, Closed}
use Rattle.calendar.specs.Calendar.{Record, pair_of, periods_in, period_at, well_formed, own_of, lies, lies_in}
use Rattle.calendar.specs.Calendar.{open_on, day_of, takes_part_in, whole_records, all_well_formed, week_refusal}
use Rattle.calendar.specs.Calendar.{week_of}
use Rattle.calendar.specs.RefusalLaws.{nobody_14}

-- p is one of the calendar's records
pub record In (p : Record) (calendar : List ℕ) : Type 0 where
  pub place : ℕ
  pub inside : place < periods_in calendar
  pub found : period_at calendar place ≡ p

-- ---- records of two parts, one after the other; the first has whole records
abbrev pub Whole : List ℕ → Type 0
Whole x = length x % 8 ≡ 0

module _ (x y : List ℕ) (w : Whole x) where
  records_append : periods_in (x ++ y) ≡ periods_in x + periods_in y
  unfolding periods_in
  records_append = omega (arith, length-append x y)

  byte_left : (k : ℕ) → k < length x → get_or (x ++ y) k 0 ≡ get_or x k 0
  byte_left k l = get_or-append x y 0 k l

  byte_right : (k : ℕ) → get_or (x ++ y) (length x + k) 0 ≡ get_or y k 0
  byte_right k = get_or-append-add x y k 0

  record_left : (j : ℕ) → j < periods_in x → period_at (x ++ y) j ≡ period_at x j
  unfolding periods_in period_at
  record_left j l =
      rw (
        byte_left (8 * j) (omega arith),
        byte_left (8 * j + 1) (omega arith),
        byte_left (8 * j + 2) (omega arith),
        byte_left (8 * j + 3) (omega arith),
        byte_left (8 * j + 4) (omega arith),
        byte_left (8 * j + 5) (omega arith),
        byte_left (8 * j + 6) (omega arith),
        byte_left (8 * j + 7) (omega arith),
      )

  record_right : (j : ℕ) → period_at (x ++ y) (periods_in x + j) ≡ period_at y j
  unfolding periods_in period_at
  record_right j = rw (first, at 1, at 2, at 3, at 4, at 5, at 6, at 7)
    where
      first : get_or (x ++ y) (8 * (length x / 8 + j)) 0 ≡ get_or y (8 * j) 0
      first =
          let e : 8 * (length x / 8 + j) ≡ length x + 8 * j = omega arith in
          ap (λ (i : ℕ). get_or (x ++ y) i 0) e ∙ byte_right (8 * j)

      at : (k : ℕ) → get_or (x ++ y) (8 * (length x / 8 + j) + k) 0 ≡ get_or y (8 * j + k) 0
      at k =
          let e : 8 * (length x / 8 + j) + k ≡ length x + (8 * j + k) = omega arith in
          ap (λ (i : ℕ). get_or (x ++ y) i 0) e ∙ byte_right (8 * j + k)

  pub in_left : (p : Record) → In p x → In p (x ++ y)
  in_left p h = record {
    place = h.place;
    inside = omega (arith, h.inside, records_append);
    found = record_left h.place h.inside ∙ h.found;
  }

  pub in_right : (p : Record) → In p y → In p (x ++ y)
  in_right p h = record {
    place = periods_in x + h.place;
    inside = omega (arith, h.inside, records_append);
    found = record_right h.place ∙ h.found;
  }

  pub in_either : (p : Record) → In p (x ++ y) → In p x ⊎ In p y
  in_either p h = go (le-or (periods_in x) h.place)
    where
      go : (periods_in x ≤ h.place) ⊎ (h.place < periods_in x) → In p x ⊎ In p y
      go (inr l) =
          inl (record { place = h.place; inside = l; found = sym (record_left h.place l) ∙ h.found })
      go (inl l) =
          let e : periods_in x + (h.place - periods_in x) ≡ h.place = omega arith in
          inr (record {
            place = h.place - periods_in x;
            inside = omega (arith, h.inside, records_append);
            found = sym (record_right (h.place - periods_in x)) ∙ ap (period_at (x ++ y)) e ∙ h.found;
          })

-- ---- the answer by the calendar's records
module _ (calendar : List ℕ) where
  -- every record is well formed, and a day lies in some record of a kind and site
  pub formed_on : all_well_formed calendar ≡ true
      → (p : Record) → In p calendar → well_formed p ≡ true
  formed_on e p h = ap well_formed (sym h.found) ∙ every_on _ _ e h.place h.inside

  pub formed_mk : ((p : Record) → In p calendar → well_formed p ≡ true)
      → all_well_formed calendar ≡ true
  formed_mk f = every_mk _ _ (λ j l. f _ (record { place = j; inside = l; found = refl }))

  pub lies_on : (kind : Kind) (site day : ℕ) → lies_in calendar kind site day ≡ true
      → (p : Record) × In p calendar × (own_of kind site p ≡ true) × (lies day p ≡ true)
  unfolding lies_in
  lies_on kind site day e =
      let w = some_on _ _ e in
      let there : In (period_at calendar w.0) calendar = record { place = w.0; inside = w.1; found = refl } in
      (period_at calendar w.0, there, and_first _ _ w.2, and_second _ _ w.2)

  pub lies_mk : (kind : Kind) (site day : ℕ) (p : Record) → In p calendar → own_of kind site p ≡ true
      → lies day p ≡ true
      → lies_in calendar kind site day ≡ true
  unfolding lies_in
  lies_mk kind site day p h o l =
      some_mk _ _ h.place h.inside
      (and_mk _ _ (ap (own_of kind site) h.found ∙ o) (ap (lies day) h.found ∙ l))

-- whether a site takes part, by the days that lie in its records
pub part_cong : (a b : List ℕ) (week site : ℕ)
    → ((kind : Kind) (i : ℕ) → i < 5 → lies_in a kind site (day_of week i) ≡ lies_in b kind site (day_of week i))
    → takes_part_in a week site ≡ takes_part_in b week site
unfolding takes_part_in open_on
part_cong a b week site h = some_cong 5 _ _ (λ i l. ap₂ (λ s c. s and not c) (h Term i l) (h Closed i l))

-- the answer, by its three parts
pub week_cong : (a b : List ℕ) (week : ℕ) → whole_records a ≡ whole_records b
    → all_well_formed a ≡ all_well_formed b
    → ((site : ℕ) → takes_part_in a week site ≡ takes_part_in b week site) → week_of a week ≡ week_of b week
unfolding week_of week_refusal
week_cong a b week w f t =
    let e : takes_part_in a week ≡ takes_part_in b week = fun_ext t in
    rw (w, f, e)

-- ---- the laws

-- calendars with the same records have one answer
pub same_records : (a b : List ℕ) (week : ℕ) → length a % 8 ≡ length b % 8
    → ((p : Record) → In p a → In p b) → ((p : Record) → In p b → In p a) → week_of a week ≡ week_of b week
same_records a b week e f g =
    week_cong a b week (ap (λ (k : ℕ). same k 0) e)
    (by_both _ _ (λ h. formed_mk b (λ p i. formed_on a h p (g p i)))
    (λ h. formed_mk a (λ p i. formed_on b h p (f p i))))
    (λ site. part_cong a b week site (λ kind i l.
    by_both _ _ (moved a b f kind site (day_of week i)) (moved b a g kind site (day_of week i))))
  where
    moved : (x y : List ℕ) → ((p : Record) → In p x → In p y) → (kind : Kind) (site day : ℕ)
        → lies_in x kind site day ≡ true → lies_in y kind site day ≡ true
    moved x y f kind site day h =
        let w = lies_on x kind site day h in lies_mk y kind site day w.0 (f w.0 w.1) w.2 w.3

-- their order changes nothing: two neighbouring parts change places
pub order_free : (x r s y : List ℕ) (week : ℕ) → Whole x → Whole r → Whole s
    → week_of (x ++ (r ++ (s ++ y))) week ≡ week_of (x ++ (s ++ (r ++ y))) week
order_free x r s y week wx wr ws =
    same_records (x ++ (r ++ (s ++ y))) (x ++ (s ++ (r ++ y))) week
    (omega (
      arith,
      length-append x (r ++ (s ++ y)),
      length-append r (s ++ y),
      length-append s y,
      length-append x (s ++ (r ++ y)),
      length-append s (r ++ y),
      length-append r y,
    ))
    (turn r s wr ws) (turn s r ws wr)
  where
    turn : (r s : List ℕ) → Whole r → Whole s → (p : Record) → In p (x ++ (r ++ (s ++ y)))
        → In p (x ++ (s ++ (r ++ y)))
    turn r s wr ws p h =
        ⊎_elim (in_left x (s ++ (r ++ y)) wx p)
        (λ i. in_right x (s ++ (r ++ y)) wx p (⊎_elim (λ k. in_right s (r ++ y) ws p (in_left r y wr p k))
        (λ k. ⊎_elim (in_left s (r ++ y) ws p) (λ q. in_right s (r ++ y) ws p (in_right r y wr p q))
        (in_either s y ws p k)) (in_either r (s ++ y) wr p i)))
        (in_either x (r ++ (s ++ y)) wx p h)

-- ---- what a record moves
module _ (x r y : List ℕ) (week : ℕ) (wx : Whole x) (wr : Whole r) where
  in_more : (p : Record) → In p (x ++ y) → In p (x ++ (r ++ y))
  in_more p h =
      ⊎_elim (in_left x (r ++ y) wx p) (λ i. in_right x (r ++ y) wx p (in_right r y wr p i)) (in_either x y wx p h)

  in_less : (p : Record) → In p (x ++ (r ++ y)) → In p r ⊎ In p (x ++ y)
  in_less p h =
      ⊎_elim (λ i. inr (in_left x y wx p i))
      (λ i. ⊎_elim inl (λ k. inr (in_right x y wx p k)) (in_either r y wr p i)) (in_either x (r ++ y) wx p h)

  -- records that stand there already change nothing
  pub there_already : ((p : Record) → In p r → In p (x ++ y)) → week_of (x ++ (r ++ y)) week ≡ week_of (x ++ y) week
  there_already f =
      same_records (x ++ (r ++ y)) (x ++ y) week
      (omega (arith, length-append x (r ++ y), length-append r y, length-append x y))
      (λ p h. ⊎_elim (f p) (λ i. i) (in_less p h)) in_more

  -- records of r in which no weekday of the week lies that counts for the site
  unmoved : (site : ℕ)
      → ((p : Record) → In p r → (kind : Kind) (i : ℕ) → i < 5 → own_of kind site p ≡ true
      → lies (day_of week i) p ≡ true → ⊥)
      → takes_part_in (x ++ (r ++ y)) week site ≡ takes_part_in (x ++ y) week site
  unmoved site f =
      part_cong (x ++ (r ++ y)) (x ++ y) week site (λ kind i l.
      by_both _ _
      (λ e.
      let w = lies_on (x ++ (r ++ y)) kind site (day_of week i) e in
      ⊎_elim (λ k. absurd (f w.0 k kind i l w.2 w.3))
      (λ k. lies_mk (x ++ y) kind site (day_of week i) w.0 k w.2 w.3) (in_less w.0 w.1))
      (λ e.
      let w = lies_on (x ++ y) kind site (day_of week i) e in
      lies_mk (x ++ (r ++ y)) kind site (day_of week i) w.0 (in_more w.0 w.1) w.2 w.3))

  -- records of other sites, closed or term, do not change whether a site takes part
  pub other_site : (site : ℕ) → ((p : Record) → In p r → p.site ≢ site)
      → takes_part_in (x ++ (r ++ y)) week site ≡ takes_part_in (x ++ y) week site
  unfolding own_of
  other_site site f = unmoved site (λ p k kind i l o e. f p k (same_on p.site site (and_second _ _ o)))

  -- well-formed records in which none of the week's Monday to Friday lies change nothing at all
  pub no_weekday : ((p : Record) → In p r → well_formed p ≡ true)
      → ((p : Record) → In p r → (i : ℕ) → i < 5 → lies (day_of week i) p ≡ true → ⊥)
      → week_of (x ++ (r ++ y)) week ≡ week_of (x ++ y) week
  no_weekday f g =
      week_cong (x ++ (r ++ y)) (x ++ y) week
      (ap (λ (k : ℕ). same k 0)
      (omega (arith, length-append x (r ++ y), length-append r y, length-append x y)))
      (by_both _ _ (λ e. formed_mk (x ++ y) (λ p h. formed_on (x ++ (r ++ y)) e p (in_more p h)))
      (λ e. formed_mk (x ++ (r ++ y)) (λ p h. ⊎_elim (f p) (formed_on (x ++ y) e p) (in_less p h))))
      (λ site. unmoved site (λ p k kind i l o. g p k i l))

  -- such as those over a weekend alone, of any week v
  pub weekend_only : ((p : Record) → In p r → well_formed p ≡ true)
      → ((p : Record) → In p r → (v : ℕ) × (day_of v 5 ≤ p.first) × (p.last ≤ day_of v 6))
      → week_of (x ++ (r ++ y)) week ≡ week_of (x ++ y) week
  unfolding lies
  weekend_only f g =
      no_weekday f (λ p k i l e.
      let w = g p k in
      omega (
        arith,
        w.1,
        w.2,
        less-not (day_of week i) p.first (not_on _ (and_first _ _ e)),
        less-not p.last (day_of week i) (not_on _ (and_second _ _ e)),
      ))

-- a record twice is a record once, wherever the second stands
pub twice_once : (x r y z : List ℕ) (week : ℕ) → Whole x → Whole r → Whole y
    → week_of ((x ++ (r ++ y)) ++ (r ++ z)) week ≡ week_of ((x ++ (r ++ y)) ++ z) week
twice_once x r y z week wx wr wy =
    let w : Whole (x ++ (r ++ y)) = omega (arith, length-append x (r ++ y), length-append r y) in
    there_already (x ++ (r ++ y)) r z week w wr
    (λ p h. in_left (x ++ (r ++ y)) z w p (in_right x (r ++ y) wx p (in_left r y wr p h)))

-- ---- weeks past 9,362: day 65,535 is the Tuesday of that week
module _ (calendar : List ℕ) (bytes : (k : ℕ) → get_or calendar k 0 < 256) (week : ℕ) (late : 9362 < week) where
  last_small : (p : Record) → In p calendar → p.last ≤ 65535
  unfolding period_at pair_of
  last_small p h =
      let e : p.last ≡ pair_of (get_or calendar (8 * h.place + 4) 0) (get_or calendar (8 * h.place + 5) 0) =
      ap (λ (q : Record). q.last) (sym h.found) in
      omega (arith, bytes (8 * h.place + 4), bytes (8 * h.place + 5))

  last_there : (p : Record) (i : ℕ) → lies (day_of week i) p ≡ true → day_of week i ≤ p.last
  unfolding lies
  last_there p i e = less-not p.last (day_of week i) (not_on _ (and_second _ _ e))

  pub past_part : (site : ℕ) → takes_part_in calendar week site ≡ false
  unfolding takes_part_in open_on
  past_part site = some_none 5 _ (λ i l. and_off_l _ _ (off_by _ (λ e.
      let w = lies_on calendar Term site (day_of week i) e in
      omega (arith, last_small w.0 w.1, last_there w.0 i w.3))))

  -- nobody takes part, so 14 if it is not 13
  pub past_weeks : Whole calendar → all_well_formed calendar ≡ true
      → week_of calendar week ≡ Err NoSite
  past_weeks w f = nobody_14 calendar week (same_mk _ 0 w) f (some_none 16 _ (λ i l. past_part (i + 1)))
