-- The site of an open day is stored, and its process with it; of another site nothing is.
use Rattle.std.proofs.Common.{◌≡◌, ◌+◌, ◌-◌, ℕ, get_or, set, refl, sym, ◌∙◌, ap, add-one, arith, rules}
use Rattle.std.proofs.lemmas.List.{get_or-replicate}
use Rattle.sets.specs.EachLaws.{each_done}
use Rattle.sets.specs.Lists.{each, joined}
use Rattle.calendar.specs.declared.Numbering.{Numbering}
use Rattle.calendar.specs.Calendar.{sites_to, how_many, numbering_of, process_of_site}
use Rattle.calendar.specs.PassLaws.{some_day, open_in, no_marks}
use Rattle.calendar.proofs.NumberingLaws.{many_zero, many_on, many_off}
use Rattle.calendar.proofs.NumberingLaws.{stored_on, stored_off, stored_all}
use Rattle.calendar.proofs.NumberingLaws.{numbers_on, numbers_off}
use Rattle.calendar.proofs.numbered.Invariants.{zeros}
use Rattle.calendar.proofs.numbered.Goals.{then-has_open_day, else-has_open_day}
use Rattle.calendar.proofs.numbered.Goals as goal

pub loop-i-init : goal.loop-i-init
unfolding each sites_to joined
loop-i-init c = let e = many_zero (open_in c.args.sites.now) in (search rules, sym e, refl, rw e)

pub loop-i-preserved : goal.loop-i-preserved
loop-i-preserved c =
    let sites = c.args.sites.now in
    let t = open_in sites in
    let l = c.loop-i in
    let h = l.invariant in
    let k = c.loop-i-test.true in
    let e : l.i + 1 - 1 ≡ l.i = omega arith in
    let m = ap (λ j. some_day (get_or sites j no_marks)) e ∙ sym c.has_open_day.ensures in
    let next = ap (how_many t) (add-one l.i) in
    elim c.if-has_open_day.branch [
      | then-has_open_day w ↦
          let on = m ∙ w.if-has_open_day.true in
          let n : l.numbering.n + 1 ≡ how_many t (l.i + 1) = omega (arith, h.1, next, many_on t l.i on) in (
            omega (arith, ap (λ (x : Numbering). x.n) w.numbering-is),
            ap (λ (x : Numbering). x.n) w.numbering-is ∙ n,
            ap (λ (x : Numbering). x.process_of) w.numbering-is
                ∙ (λ j. set (h.2 j) l.i (n j)) ∙ numbers_on t l.i zeros on k,
            ap (λ (x : Numbering). x.site_of) w.numbering-is
                ∙ rw (h.3, h.1) (stored_on t l.i zeros on (omega (arith, h.1, h.0))),
          )
      | else-has_open_day w ↦
          let off = m ∙ w.if-has_open_day.false in (
            omega (arith, ap (λ (x : Numbering). x.n) w.numbering-is),
            omega (arith, ap (λ (x : Numbering). x.n) w.numbering-is, h.1, next, many_off t l.i off),
            ap (λ (x : Numbering). x.process_of) w.numbering-is
                ∙ h.2 ∙ numbers_off t l.i zeros off k (get_or-replicate {A = ℕ} 16 l.i 0 0 k),
            ap (λ (x : Numbering). x.site_of) w.numbering-is ∙ h.3 ∙ stored_off t l.i zeros off,
          )
    ]

pub returns : goal.returns
unfolding numbering_of
returns c =
    let t = open_in c.args.sites.now in
    let l = c.loop-i in
    let e : l.i ≡ 16 = omega arith in
    λ k. record {
      n = (rw e at l.invariant.1) k;
      process_of = ((rw e at l.invariant.2) ∙ each_done 16 (λ i. process_of_site t (i + 1)) zeros refl) k;
      site_of = ((rw e at l.invariant.3) ∙ stored_all t) k;
    }
