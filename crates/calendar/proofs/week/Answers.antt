-- `week` answers as the definition does: check by check, by what the pass has marked.
use Rattle.std.proofs.Common.{◌≡◌, ◌*◌, false, ℕ, List, Ok, Err, sym, ◌∙◌, ap}
use Rattle.std.proofs.lemmas.Result.{err_from_is_err_and}
use Rattle.refusal.specs.declared.Refusal.TheVariants.{Calendar}
use Rattle.sets.specs.Truth.{◌and◌}
use Rattle.sets.specs.TruthLaws.{Is, is, on, off, and_on_l}
use Rattle.calendar.specs.Calendar.{periods_in, takes_part_in, how_many, numbering_of, whole_records, all_well_formed}
use Rattle.calendar.specs.Calendar.{week_of}
use Rattle.calendar.specs.declared.Numbering.{Numbering}
use Rattle.calendar.specs.declared.Marks.{Marks}
use Rattle.calendar.specs.PassLaws.{Marked, open_in}
use Rattle.calendar.proofs.NumberingLaws.{numbering_cong, nobody, somebody}
use Rattle.calendar.proofs.PassLaws.{part_is}
use Rattle.calendar.specs.RefusalLaws.{partial_13, record_13, nobody_14, answered}
use Rattle.calendar.proofs.week.Goals as goal

-- a partial record or one that is not well formed is 13
at_fault : (calendar : List ℕ) (week : ℕ) → (whole_records calendar and all_well_formed calendar) ≡ false
    → week_of calendar week ≡ Err Calendar
at_fault calendar week e = go (is (whole_records calendar))
  where
    go : Is (whole_records calendar) → week_of calendar week ≡ Err Calendar
    go (off w) = partial_13 calendar week w
    go (on w) = record_13 calendar week w (sym (and_on_l _ _ w) ∙ e)

pub returns-in_err-sites : goal.returns-in_err-sites
returns-in_err-sites c =
    let p = err_from_is_err_and c.from_residual.result c.from_residual.ensures.1 in
    let h = c.in_err-sites.ensures in
    p.1 ∙ ap Err (p.2 ∙ h.0) ∙ sym (at_fault c.args.calendar.now c.args.week h.1)

-- the numbering is that of the sites that take part
module _ (calendar : List ℕ) (week : ℕ) (sites : List Marks)
    (m : Marked calendar (7 * week) (periods_in calendar) sites) where
  same_numbering : numbering_of (open_in sites) ≡ numbering_of (takes_part_in calendar week)
  same_numbering = numbering_cong _ _ (part_is calendar week sites m)

  same_many : (numbering_of (open_in sites)).n ≡ how_many (takes_part_in calendar week) 16
  unfolding numbering_of
  same_many = ap (λ (x : Numbering). x.n) same_numbering

pub returns-then-numbering-eq0 : goal.returns-then-numbering-eq0
returns-then-numbering-eq0 c =
    let a = c.args in
    let h = c.in_ok-sites.ensures in
    let n = ap (λ (x : Numbering). x.n) c.numbered-numbering.ensures ∙ same_many a.calendar.now a.week _ h.2 in
    sym (nobody_14 a.calendar.now a.week h.0 h.1 (nobody _ (sym n ∙ c.if-numbering-eq0.true)))

pub returns : goal.returns
returns c =
    let a = c.args in
    let h = c.in_ok-sites.ensures in
    let n = ap (λ (x : Numbering). x.n) c.numbered-numbering.ensures ∙ same_many a.calendar.now a.week _ h.2 in
    ap Ok (c.numbered-numbering.ensures ∙ same_numbering a.calendar.now a.week _ h.2)
    ∙ sym (answered a.calendar.now a.week h.0 h.1 (somebody _ (λ e. c.if-numbering-eq0.false (n ∙ e))))
