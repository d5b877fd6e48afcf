-- Each return is one of the laws of the opening record: the checks before it have passed, and its own fails.
use Rattle.std.proofs.Common.{◌≡◌, sym, ◌∙◌, arith, length}
use Rattle.sets.specs.TruthLaws.{same_mk, same_off}
use Rattle.bench.specs.Record.{word_of}
use Rattle.simulate.specs.OpeningLaws.{opening_size, opening_kind, opening_r, opening_value, opening_opens}
use Rattle.simulate.proofs.opening.opening.Goals.{then-r-ne0-via-then-r-ne0, then-r-ne0-via-else-r-ne0+then-from_le_bytes-ne0}
use Rattle.simulate.proofs.opening.opening.Goals as goal

pub returns-in_default : goal.returns-in_default
returns-in_default c = sym (opening_size _ (λ e. omega (arith, c.in_default.len_below)))

pub returns-in_default-2 : goal.returns-in_default-2
returns-in_default-2 c = sym (opening_size _ (λ e. omega (arith, c.in_default.len_at_least)))

pub returns-then-kind-ne0 : goal.returns-then-kind-ne0
returns-then-kind-ne0 c =
    let l : length c.args.bytes.now ≡ 8 = omega (arith, c.in-len8.len_at_least, c.in-len8.len_below) in
    sym (opening_kind _ l c.if-kind-ne0.true)

pub returns-then-r-ne0 : goal.returns-then-r-ne0
unfolding word_of
returns-then-r-ne0 c =
    let l : length c.args.bytes.now ≡ 8 = omega (arith, c.in-len8.len_at_least, c.in-len8.len_below) in
    let k = c.if-kind-ne0.false in
    elim c.then-r-ne0.branch [
      | then-r-ne0-via-then-r-ne0 w ↦ sym (opening_r _ l k w.if-r-ne0.true)
      | then-r-ne0-via-else-r-ne0+then-from_le_bytes-ne0 w ↦
          sym (opening_value _ l k (same_off _ _ (λ z. w.if-from_le_bytes-ne0.true (w.from_le_bytes.ensures ∙ z))))
    ]

pub returns : goal.returns
unfolding word_of
returns c =
    let l : length c.args.bytes.now ≡ 8 = omega (arith, c.in-len8.len_at_least, c.in-len8.len_below) in
    let v = same_mk _ _ (sym c.from_le_bytes.ensures ∙ c.if-from_le_bytes-ne0.false) in
    c.«open».ensures ∙ sym (opening_opens _ l c.if-kind-ne0.false c.if-r-ne0.false v)
