-- `fill_words` fills: it takes the row's words where the row has what the marks lack.
use Rattle.std.specs.Prelude.{◌≡◌, ℕ}
use mathlib.Core.Path.{sym, ap, ◌∙◌}
use Rattle.sets.specs.Set.{difference_of}
use Rattle.global_data.proofs.Laws.{fill_words, words_from, words_none}
use Rattle.global_data.proofs.fill_words.Goals.{then-lacking-ne0, else-lacking-ne0}
use Rattle.global_data.proofs.fill_words.Goals as goal

pub returns : goal.returns
returns c =
    let row = c.args.row in
    let old = c.args.values.now in
    let m : ℕ = difference_of row.present c.args.marks in
    let d : c.difference-lacking.result ≡ m = c.difference-lacking.ensures in
    elim c.if-lacking-ne0.branch [
      | then-lacking-ne0 w ↦
          let v : c.if-lacking-ne0.values ≡ words_from m row.values old =
          w.values-is ∙ w.take_words.ensures ∙ ap (λ (k : ℕ). words_from k row.values old) d in
          rw (c.union.ensures, v) (sym (fill_words _ row))
      | else-lacking-ne0 w ↦
          let v : c.if-lacking-ne0.values ≡ words_from m row.values old =
          w.values-is ∙ sym (words_none row.values old c.told-values)
          ∙ ap (λ (k : ℕ). words_from k row.values old) (sym w.if-lacking-ne0.false ∙ d) in
          rw (c.union.ensures, v) (sym (fill_words _ row))
    ]
