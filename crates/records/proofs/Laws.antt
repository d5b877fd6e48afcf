-- The tests of a record's fields, and document 01's table kind by kind: what eight bytes of a kind are decoded to.
use Rattle.std.specs.Prelude.{◌≡◌, ◌≢◌, refl, List, Bool, true, false, ℕ, ◌+◌, ◌-◌, ◌*◌, get_or, length, Ok, Err, Some}
use Rattle.std.proofs.Common.{◌∙◌, ap, arith}
use Rattle.sets.specs.Truth.{◌and◌, ◌or◌, same, less, one_to, select}
use Rattle.sets.specs.TruthLaws.{select_on, select_off, and_mk, and_off_l, and_off_r, same_mk, same_off}
use Rattle.sets.specs.TruthLaws.{less_mk, less_off, one_low, one_mk}
use Rattle.global_data.specs.GlobalData.{value_in, diet_fits}
use Rattle.refusal.specs.declared.Refusal.TheVariants.{Kind, Field, Diet}
use Rattle.bench.specs.declared.Message.TheVariants.{Estimate, Decision}
use Rattle.bench.specs.declared.Event.{Event}
use Rattle.bench.specs.declared.Event.TheVariants.{Start, Send, Arrive, Close, Crash, Suspect}
use Rattle.bench.specs.Record.{word_of, uses_b, fields, message_from, event_of, parts_of, value_of}
use Rattle.bench.specs.Record.{start_fits, check_diet, decode_of}
use Rattle.bench.proofs.RecordLaws.{parts_unknown, diet_refused, decode_size, decode_parts}
use Rattle.records.specs.Parts.{pair_in}

-- ---- the fields
pub decision_law : (r : ℕ) → r ≡ 0 → message_from r ≡ Decision
unfolding message_from
decision_law r e = select_on _ _ _ (same_mk r 0 e)

pub estimate_law : (r : ℕ) → r ≢ 0 → message_from r ≡ Estimate r
unfolding message_from
estimate_law r h = select_off _ _ _ (same_off r 0 h)

pub ruleset tests =
    (one_low, and_mk, and_off_l, and_off_r, same_mk, same_off, less_mk, less_off, decision_law, estimate_law)

-- ---- the table. The fields are tested in turn, and then refusal 15; or the first two at once, of two processes
alone_tests : (x y z w : Bool) (e : Event) → check_diet (select (x and (y and (z and w))) (Ok e) (Err Field))
    ≡ select x (select y (select z (select w (check_diet (Ok e)) (Err Field)) (Err Field)) (Err Field)) (Err Field)
unfolding ◌and◌ select check_diet
alone_tests false y z w e = refl
alone_tests true false z w e = refl
alone_tests true true false w e = refl
alone_tests true true true false e = refl
alone_tests true true true true e = refl

pair_tests : (x y z w : Bool) (e : Event) → check_diet (select (x and (y and (z and w))) (Ok e) (Err Field))
    ≡ select (x and y) (select z (select w (check_diet (Ok e)) (Err Field)) (Err Field)) (Err Field)
unfolding ◌and◌ select check_diet
pair_tests false y z w e = refl
pair_tests true false z w e = refl
pair_tests true true false w e = refl
pair_tests true true true false e = refl
pair_tests true true true true e = refl

pub value_law : (l : List ℕ)
    → value_of l ≡ get_or l 4 0 + get_or l 5 0 * 256 + get_or l 6 0 * 65536 + get_or l 7 0 * 16777216
unfolding value_of word_of
value_law l = refl

module _ (n t : ℕ) (l : List ℕ) (size : length l ≡ 8) where
  parts : (k : ℕ) → get_or l 0 0 ≡ k → one_to 6 k ≡ true
      → decode_of n t l
      ≡ check_diet (select (fields n t k (get_or l 1 0) (get_or l 2 0) (get_or l 3 0) (value_of l))
      (Ok (event_of k (get_or l 1 0 - 1) (get_or l 2 0 - 1) (get_or l 3 0) (value_of l))) (Err Field))
  unfolding parts_of
  parts k e known = decode_parts n t l size ∙ rw e (ap check_diet (select_on _ _ _ known))

  pub kind_law : one_to 6 (get_or l 0 0) ≡ false → decode_of n t l ≡ Err Kind
  kind_law e = decode_parts n t l size ∙ ap check_diet (parts_unknown _ _ _ _ _ _ _ e) ∙ diet_refused _

  pub start_law : get_or l 0 0 ≡ 1
      → decode_of n t l
      ≡ select (one_to n (get_or l 1 0)) (select (same (get_or l 2 0) 0) (select (same (get_or l 3 0) 0)
      (select (diet_fits (Some (value_in (value_of l)))) (Ok (Start (get_or l 1 0 - 1) (value_of l))) (Err Diet))
      (Err Field)) (Err Field)) (Err Field)
  unfolding fields uses_b event_of start_fits check_diet same select ◌or◌
  start_law e = parts 1 e (one_mk 6 1 (omega arith) (omega arith)) ∙ alone_tests _ _ _ true _

  pub send_law : get_or l 0 0 ≡ 2
      → decode_of n t l
      ≡ select (pair_in n (get_or l 1 0) (get_or l 2 0)) (select (same (get_or l 3 0) 0) (select (same (value_of l) 0)
      (Ok (Send (get_or l 1 0 - 1) (get_or l 2 0 - 1))) (Err Field)) (Err Field)) (Err Field)
  unfolding pair_in fields uses_b event_of start_fits check_diet same select ◌or◌
  send_law e = parts 2 e (one_mk 6 2 (omega arith) (omega arith)) ∙ pair_tests _ _ _ _ _

  pub arrive_law : get_or l 0 0 ≡ 3
      → decode_of n t l
      ≡ select (pair_in n (get_or l 1 0) (get_or l 2 0)) (select (less (get_or l 3 0) (t + 2))
      (select (same (value_of l) 0)
      (Ok (Arrive (get_or l 1 0 - 1) (get_or l 2 0 - 1) (message_from (get_or l 3 0))))
      (Err Field)) (Err Field)) (Err Field)
  unfolding pair_in fields uses_b event_of start_fits check_diet same select ◌or◌
  arrive_law e = parts 3 e (one_mk 6 3 (omega arith) (omega arith)) ∙ pair_tests _ _ _ _ _

  pub close_law : get_or l 0 0 ≡ 4
      → decode_of n t l
      ≡ select (one_to n (get_or l 1 0)) (select (same (get_or l 2 0) 0) (select (same (get_or l 3 0) 0)
      (select (same (value_of l) 0) (Ok (Close (get_or l 1 0 - 1))) (Err Field)) (Err Field)) (Err Field)) (Err Field)
  unfolding fields uses_b event_of start_fits check_diet same select ◌or◌
  close_law e = parts 4 e (one_mk 6 4 (omega arith) (omega arith)) ∙ alone_tests _ _ _ _ _

  pub crash_law : get_or l 0 0 ≡ 5
      → decode_of n t l
      ≡ select (one_to n (get_or l 1 0)) (select (same (get_or l 2 0) 0) (select (same (get_or l 3 0) 0)
      (select (same (value_of l) 0) (Ok (Crash (get_or l 1 0 - 1))) (Err Field)) (Err Field)) (Err Field)) (Err Field)
  unfolding fields uses_b event_of start_fits check_diet same select ◌or◌
  crash_law e = parts 5 e (one_mk 6 5 (omega arith) (omega arith)) ∙ alone_tests _ _ _ _ _

  pub suspect_law : get_or l 0 0 ≡ 6
      → decode_of n t l
      ≡ select (pair_in n (get_or l 1 0) (get_or l 2 0)) (select (same (get_or l 3 0) 0) (select (same (value_of l) 0)
      (Ok (Suspect (get_or l 1 0 - 1) (get_or l 2 0 - 1))) (Err Field)) (Err Field)) (Err Field)
  unfolding pair_in fields uses_b event_of start_fits check_diet same select ◌or◌
  suspect_law e = parts 6 e (one_mk 6 6 (omega arith) (omega arith)) ∙ pair_tests _ _ _ _ _

pub ruleset table = (
  decode_size,
  kind_law,
  start_law,
  send_law,
  arrive_law,
  close_law,
  crash_law,
  suspect_law,
  value_law,
  same_mk,
  same_off,
)
