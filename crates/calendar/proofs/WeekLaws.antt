-- What an answer says, of any test of who takes part: n is how many do, each of them and nobody else has a number of 1
-- to n, the two ways are inverse to each other, and sites rise with processes; and no other numbering has all of this.
-- From the laws of the numbering; that there is no other, by going up the processes.
use Rattle.std.specs.Prelude.{◌≡◌, IsOkAnd, Ok, Bool, true, List, ◌≢◌, ◌⊎◌, ℕ, zero, suc, ◌+◌, ◌-◌, ◌≤◌, ◌<◌, length}
use Rattle.std.specs.Prelude.{get_or}
use Rattle.std.proofs.Math.Path.{refl, ap}
use Rattle.std.proofs.Common.{sym, ◌∙◌, inl, inr, ext_get_or}
use Rattle.std.proofs.Math.Bool.{false}
use native.Mathlib.Omega.{arith}
use Rattle.std.proofs.Math.ListN.{get_or-eq_default}
use Rattle.sets.specs.EachLaws.{length-each, get_or_each}
use Rattle.sets.specs.EveryLaws.{some_on}
use Rattle.sets.specs.Truth.{one_to}
use Rattle.sets.specs.TruthLaws.{Is, is, on, off, select_on, select_off, same_mk, one_low, one_high, one_mk}
use Rattle.sets.specs.TruthLaws.{le-or, eq-or, check-zero}
use Rattle.calendar.specs.declared.Numbering.{Numbering}
use Rattle.calendar.specs.Calendar.{takes_part_in, sites_to, how_many, process_of_site, site_of_process, numbering_of}
use Rattle.calendar.specs.Calendar.{week_refusal}
use Rattle.calendar.specs.Calendar.{week_of}
use Rattle.calendar.proofs.NumberingLaws.{length_sites, many_bound, many_on, many_le, Placed, placed}
use Rattle.calendar.proofs.NumberingLaws.{number_one}

-- the process of a site and the site of a process, as an answer has them; both are numbered from 1
abbrev pub process_in : Numbering → ℕ → ℕ
process_in a site = get_or a.process_of (site - 1) 0

abbrev pub site_in : Numbering → ℕ → ℕ
site_in a process = get_or a.site_of (process - 1) 0

pub record Numbers (takes : ℕ → Bool) (a : Numbering) : Type 0 where
  -- how many take part
  pub many : a.n ≡ how_many takes 16
  -- none is left out, and no other has a number
  pub numbered : (s : ℕ) → one_to 16 s ≡ true → takes s ≡ true → one_to a.n (process_in a s) ≡ true
  pub no_process_lem : (s : ℕ) → one_to 16 s ≡ true → takes s ≡ false → process_in a s ≡ 0
  pub no_site : (p : ℕ) → a.n < p → site_in a p ≡ 0
  -- inverse to each other
  pub site_back : (s : ℕ) → one_to 16 s ≡ true → takes s ≡ true → site_in a (process_in a s) ≡ s
  pub site_part : (p : ℕ) → one_to a.n p ≡ true → (one_to 16 (site_in a p) ≡ true) × (takes (site_in a p) ≡ true)
  pub process_back : (p : ℕ) → one_to a.n p ≡ true → process_in a (site_in a p) ≡ p
  -- in rising number
  pub rises : (p q : ℕ) → 1 ≤ p → p < q → q ≤ a.n → site_in a p < site_in a q

module _ (takes : ℕ → Bool) where
  abbrev a : Numbering
  a = numbering_of takes

  n_is : a.n ≡ how_many takes 16
  unfolding numbering_of
  n_is = refl

  n_low : a.n ≤ 16
  n_low = omega (arith, n_is, many_bound takes 16)

  process_is : (s : ℕ) → one_to 16 s ≡ true → process_in a s ≡ process_of_site takes s
  unfolding numbering_of
  process_is s e =
      let k : s - 1 + 1 ≡ s = omega (arith, one_low 16 s e) in
      get_or_each 16 _ 0 (s - 1) (omega (arith, one_low 16 s e, one_high 16 s e)) ∙ ap (process_of_site takes) k

  process_on : (s : ℕ) → one_to 16 s ≡ true → takes s ≡ true → process_in a s ≡ how_many takes s
  unfolding process_of_site
  process_on s e t = process_is s e ∙ select_on (takes s) _ 0 t

  site_is : (p : ℕ) → 1 ≤ p → p ≤ 16 → site_in a p ≡ get_or (sites_to takes 16) (p - 1) 0
  unfolding numbering_of site_of_process sites_to
  site_is p l h =
      let k : p - 1 + 1 ≡ p = omega arith in
      get_or_each 16 _ 0 (p - 1) (omega arith) ∙ ap (site_of_process takes) k

  its_site : (p : ℕ) → one_to a.n p ≡ true → Placed takes 16 (p - 1) (site_in a p)
  its_site p e =
      rw (site_is p (one_low a.n p e) (omega (arith, one_high a.n p e, n_low)))
      (placed takes 16 (p - 1) (omega (arith, one_low a.n p e, one_high a.n p e, n_is)))

  -- a site that takes part is at least the first of them
  number_low : (s : ℕ) → 1 ≤ s → takes s ≡ true → 1 ≤ how_many takes s
  number_low (suc s) l t =
      let e : suc s ≡ s + 1 = omega arith in omega (arith, many_on takes s (ap takes (sym e) ∙ t))
  number_low zero l t = absurd (omega arith)

  has_number : (s : ℕ) → one_to 16 s ≡ true → takes s ≡ true → one_to a.n (process_in a s) ≡ true
  has_number s e t =
      rw (process_on s e t)
      (one_mk a.n (how_many takes s) (number_low s (one_low 16 s e) t)
      (omega (arith, many_le takes s 16 (one_high 16 s e), n_is)))

  past : (p : ℕ) → a.n < p → site_in a p ≡ 0
  unfolding numbering_of
  past p l = go (le-or p 16)
    where
      go : (p ≤ 16) ⊎ (16 < p) → site_in a p ≡ 0
      go (inl h) =
          site_is p (omega arith) h
          ∙ get_or-eq_default (sites_to takes 16) 0 (omega (arith, length_sites takes 16, n_is))
      go (inr h) = get_or-eq_default a.site_of 0 (omega (arith, length-each 16 (λ i. site_of_process takes (i + 1))))

  pub numbering_is : Numbers takes a
  unfolding process_of_site
  numbering_is = record {
    many = n_is;
    numbered = has_number;
    no_process_lem = λ s e t. process_is s e ∙ none s t;
    no_site = past;
    site_back = λ s e t.
        let h = its_site (process_in a s) (has_number s e t) in
        number_one takes _ s h.low (one_low 16 s e) h.part t
        (h.number ∙ omega (arith, process_on s e t, number_low s (one_low 16 s e) t));
    site_part = λ p e. let h = its_site p e in (one_mk 16 _ h.low h.high, h.part);
    process_back = λ p e.
        let h = its_site p e in
        process_on _ (one_mk 16 _ h.low h.high) h.part ∙ h.number ∙ omega (arith, one_low a.n p e);
    rises = λ p q l k m.
        let h = its_site p (one_mk a.n p l (omega arith)) in
        let g = its_site q (one_mk a.n q (omega arith) m) in
        in_order (site_in a p) (site_in a q) (omega (arith, h.number, g.number));
  }
    where
      none : (s : ℕ) → takes s ≡ false → process_of_site takes s ≡ 0
      none s t = select_off (takes s) _ 0 t

      in_order : (s r : ℕ) → how_many takes s < how_many takes r → s < r
      in_order s r l = go (le-or r s)
        where
          go : (r ≤ s) ⊎ (s < r) → s < r
          go (inl h) = absurd (omega (arith, many_le takes r s h))
          go (inr h) = h

-- ---- and nothing else does: two numberings of which this holds are one

-- where the sites of the processes below p are the same in both, that of p in x is not below that of p in y: it would
-- be that of no process in y
not-less : (takes : ℕ → Bool) (x y : Numbering) → Numbers takes x → Numbers takes y → (p : ℕ) → one_to x.n p ≡ true
    → ((q : ℕ) → one_to x.n q ≡ true → q < p → site_in x q ≡ site_in y q) → site_in y p ≤ site_in x p
not-less takes x y hx hy p e before = go (le-or (site_in y p) (site_in x p))
  where
    go : (site_in y p ≤ site_in x p) ⊎ (site_in x p < site_in y p) → site_in y p ≤ site_in x p
    go (inl h) = h
    go (inr h) = absurd (at (le-or p q))
      where
        s : ℕ
        s = site_in x p

        q : ℕ
        q = process_in y s

        in_y : one_to y.n q ≡ true
        in_y = hy.numbered s (hx.site_part p e).0 (hx.site_part p e).1

        in_x : one_to x.n q ≡ true
        in_x = one_mk x.n q (one_low y.n q in_y) (omega (arith, one_high y.n q in_y, hx.many, hy.many))

        back : site_in y q ≡ s
        back = hy.site_back s (hx.site_part p e).0 (hx.site_part p e).1

        at : (p ≤ q) ⊎ (q < p) → ⊥
        at (inr l) =
            omega (arith, hx.rises q p (one_low x.n q in_x) l (one_high x.n p e), before q in_x l, back)
        at (inl l) = later (eq-or p q)
          where
            later : (p ≡ q) ⊎ (p ≢ q) → ⊥
            later (inl u) = omega (arith, ap (site_in y) u, back)
            later (inr d) =
                omega (arith, hy.rises p q (one_low x.n p e) (omega arith) (one_high y.n q in_y), back)

module _ (takes : ℕ → Bool) (x y : Numbering) (hx : Numbers takes x) (hy : Numbers takes y) where
  n_same : x.n ≡ y.n
  n_same = hx.many ∙ sym hy.many

  to_y : (p : ℕ) → one_to x.n p ≡ true → one_to y.n p ≡ true
  to_y p e = rw n_same at e

  sites_below : (m p : ℕ) → p < m → one_to x.n p ≡ true → site_in x p ≡ site_in y p
  sites_below zero p l e = absurd (omega arith)
  sites_below (suc m) p l e =
      let before : (q : ℕ) → one_to x.n q ≡ true → q < p → site_in x q ≡ site_in y q =
      λ q f k. sites_below m q (omega arith) f in
      omega (
        arith,
        not-less takes x y hx hy p e before,
        not-less takes y x hy hx p (to_y p e) (λ q f k. sym (before q (rw (sym n_same) at f) k)),
      )

  site_same : (p : ℕ) → one_to x.n p ≡ true → site_in x p ≡ site_in y p
  site_same p e = sites_below (suc p) p (omega arith) e

  process_same : (s : ℕ) → one_to 16 s ≡ true → process_in x s ≡ process_in y s
  process_same s e = go (is (takes s))
    where
      go : Is (takes s) → process_in x s ≡ process_in y s
      go (off t) = hx.no_process_lem s e t ∙ sym (hy.no_process_lem s e t)
      go (on t) =
          let f = hx.numbered s e t in
          sym (hy.process_back (process_in x s) (to_y _ f))
          ∙ ap (process_in y) (sym (site_same (process_in x s) f) ∙ hx.site_back s e t)

  any_site : (p : ℕ) → 1 ≤ p → site_in x p ≡ site_in y p
  any_site p l = go (le-or p x.n)
    where
      go : (p ≤ x.n) ⊎ (x.n < p) → site_in x p ≡ site_in y p
      go (inl h) = site_same p (one_mk x.n p l h)
      go (inr h) = hx.no_site p h ∙ sym (hy.no_site p (omega (arith, n_same)))

-- sixteen entries each way, as the struct has them
pub record Sixteen (a : Numbering) : Type 0 where
  pub processes : length a.process_of ≡ 16
  pub sites : length a.site_of ≡ 16

pub numbering_only : (takes : ℕ → Bool) (x y : Numbering) → Sixteen x → Sixteen y → Numbers takes x → Numbers takes y
    → x ≡ y
numbering_only takes x y lx ly hx hy = λ i. record {
  n = n_same takes x y hx hy i;
  process_of = processes i;
  site_of = sites i;
}
  where
    processes : x.process_of ≡ y.process_of
    processes = ext_get_or 0 _ _ (lx.processes ∙ sym ly.processes) (λ k l.
        let e : k + 1 - 1 ≡ k = omega arith in
        let h : one_to 16 (k + 1) ≡ true = one_mk 16 (k + 1) (omega arith) (omega (arith, lx.processes)) in
        rw e at (process_same takes x y hx hy (k + 1) h))

    sites : x.site_of ≡ y.site_of
    sites = ext_get_or 0 _ _ (lx.sites ∙ sym ly.sites) (λ k l.
        let e : k + 1 - 1 ≡ k = omega arith in rw e at (any_site takes x y hx hy (k + 1) (omega arith)))

pub numbering_sixteen : (takes : ℕ → Bool) → Sixteen (numbering_of takes)
unfolding numbering_of
numbering_sixteen takes = record { processes = length-each 16 _; sites = length-each 16 _ }

-- so it is of every answer that is not a refusal
pub week_numbers : (calendar : List ℕ) (week : ℕ) → week_refusal calendar week ≡ 0
    → IsOkAnd (week_of calendar week) (Numbers (takes_part_in calendar week))
unfolding week_of
week_numbers calendar week e =
    let w : week_of calendar week ≡ Ok (numbering_of (takes_part_in calendar week)) =
    select_on _ _ _ (same_mk _ 0 e) in
    rw w (numbering_is (takes_part_in calendar week))

-- and its n is 1 to 16, as a bench asks: a bench of the week opens with any t below n
pub week_size : (calendar : List ℕ) (week : ℕ) → week_refusal calendar week ≡ 0
    → IsOkAnd (week_of calendar week) (λ a. one_to 16 a.n ≡ true)
unfolding week_of week_refusal
week_size calendar week e =
    let a = check-zero _ 13 _ (omega arith) e in
    let b = check-zero _ 13 _ (omega arith) a.1 in
    let w = some_on 16 _ (check-zero _ 14 _ (omega arith) b.1).0 in
    let h = numbering_is (takes_part_in calendar week) in
    let p = h.numbered (w.0 + 1) (one_mk 16 (w.0 + 1) (omega arith) (omega (arith, w.1))) w.2 in
    let is_ok : week_of calendar week ≡ Ok (numbering_of (takes_part_in calendar week)) =
    select_on _ _ _ (same_mk _ 0 e) in
    rw is_ok (one_mk 16 _ (omega (arith, one_low _ _ p, one_high _ _ p)) (n_low (takes_part_in calendar week)))
