-- The fields are the record's, and the tests are those of the definition.
use Rattle.std.proofs.Common.{◌≡◌, true, get_or, refl, sym, ◌∙◌, arith}
use Rattle.std.proofs.lemmas.Grind.{common_steps}
use Rattle.std.proofs.lemmas.Result.{err_from_is_err_and}
use Rattle.sets.specs.Truth.{one_to}
use Rattle.sets.specs.TruthLaws.{clash, off_by, one_mk}
use Rattle.calendar.specs.declared.Kind.{Kind}
use Rattle.calendar.specs.declared.Kind.TheVariants.{Term, Closed}
use Rattle.calendar.specs.Calendar.{kind_number, pair_of, period_at}
use Rattle.calendar.proofs.PassLaws.{formed_parts, formed_mk}
use Rattle.calendar.proofs.PeriodTryFromRefArrayU88.try_from.Goals.{then-not-contains-via-then-not-contains}
use Rattle.calendar.proofs.PeriodTryFromRefArrayU88.try_from.Goals.{then-not-contains-via-else-not-contains+then-last-first}
use Rattle.calendar.proofs.PeriodTryFromRefArrayU88.try_from.Goals.{then-not-contains-via-else-not-contains+else-last-first+then-rest-ne0}
use Rattle.calendar.proofs.PeriodTryFromRefArrayU88.try_from.Goals as goal

kind_one : (k : Kind) → one_to 2 (kind_number k) ≡ true
kind_one Term = one_mk 2 1 (omega arith) (omega arith)
kind_one Closed = one_mk 2 2 (omega arith) (omega arith)

pub returns-in_err-kind : goal.returns-in_err-kind
unfolding period_at
returns-in_err-kind c =
    let p = err_from_is_err_and c.from_residual.result c.from_residual.ensures.1 in
    let other = c.in_err-kind.ensures.1 in
    rw (p.1, p.2)
    (c.in_err-kind.ensures.0, off_by _ (λ e. clash _ (formed_parts (period_at c.args.bytes.now 0) e).kinds other))

pub returns-then-not-contains : goal.returns-then-not-contains
unfolding period_at pair_of
returns-then-not-contains c = (
  refl,
  off_by _ (λ e.
      let f = formed_parts (period_at c.args.bytes.now 0) e in
      let low = f.low in
      let high = f.high in
      elim c.then-not-contains.branch [
        | then-not-contains-via-then-not-contains w ↦
            grind (arith, common_steps, w.if-not-contains.ensures.value, c.new.ensures)
        | then-not-contains-via-else-not-contains+then-last-first w ↦ omega (arith, f.order)
        | then-not-contains-via-else-not-contains+else-last-first+then-rest-ne0 w ↦
            w.if-rest-ne0.true (omega (arith, f.nought))
      ]),
)

pub returns : goal.returns
unfolding period_at pair_of
returns c =
    let b = c.args.bytes.now in
    let rest : (period_at b 0).rest ≡ 0 = sym c.from_le_bytes-rest.ensures ∙ c.if-rest-ne0.false in (
      λ i. record {
        site = get_or b 0 0;
        kind = c.in_ok-kind.ensures i;
        first = c.from_le_bytes-first.ensures i;
        last = c.from_le_bytes-last.ensures i;
        rest = sym rest i;
      },
      formed_mk (period_at b 0) (record {
        low = grind (arith, common_steps, c.if-not-contains.ensures.cases);
        high = grind (arith, common_steps, c.if-not-contains.ensures.cases);
        kinds = rw (sym c.in_ok-kind.ensures) (kind_one c.in_ok-kind.kind);
        order = omega (arith, c.from_le_bytes-first.ensures, c.from_le_bytes-last.ensures, c.if-last-first.false);
        nought = rest;
      }),
    )
