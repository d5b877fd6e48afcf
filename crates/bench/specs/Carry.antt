-- Carrying a bench of before request C-15 over to the new form, with diet portions 0 (request C-17): refused by 2,
-- then by 16 where it holds a value that portions have no room for. A word at most 65,535 already is those portions
-- and no diet portions (`plain_word`), so carrying changes no word.
use Rattle.std.specs.Prelude.{List, [], ◌∷◌, ◌++◌, Bool, true, ℕ, zero, suc, ◌/◌, get_or, length, take, drop}
use Rattle.sets.specs.Lists.{every, every_in}
use Rattle.sets.specs.Set.{has}
use Rattle.sets.specs.Truth.{◌and◌, less, select, check}
use Rattle.global_data.specs.declared.GlobalData.{GlobalData}
use Rattle.process.specs.declared.Process.{Process}
use Rattle.bench.specs.declared.Bench.{Bench}
use Rattle.bench.specs.declared.Carried.{Carried}
use Rattle.bench.specs.declared.Event.{Event}
use Rattle.bench.specs.Sound.{sound_of}
use Rattle.bench.specs.Record.{is_kind, by_kind}
use Rattle.bench.specs.Calls.{answer_of}

-- no present entry is above 65,535; a word under an absent one does not count
unfoldable pub plain_data : GlobalData → Bool
plain_data g = every 16 (λ k. select (has g.present k) (less (get_or g.values k 0) 65536) true)

unfoldable pub plain_process : Process → Bool
plain_process p = plain_data p.estimate

-- in every estimate and every row of what was sent, used or not
unfoldable pub plain_bench : Bench → Bool
plain_bench s = every_in plain_process s.processes and every_in plain_data s.sent

-- 2, 16, or 0
unfoldable pub carry_refusal : Bench → ℕ
carry_refusal s = check (sound_of s) 2 (check (plain_bench s) 16 0)

unfoldable pub carry_of : Bench → Carried
carry_of s = record { answer = answer_of (carry_refusal s); bench = s }

-- a start with a value of at most 65,535, or another event
unfoldable pub plain_start : Event → Bool
plain_start e = by_kind (λ a v. less v 65536) (λ a. true) true true e

-- ---- records: a start rewritten with diet portions 0, its last two bytes
unfoldable pub rewritten_record : List ℕ → List ℕ
rewritten_record bytes = select (is_kind 1 bytes) (take 6 bytes ++ (0 ∷ 0 ∷ [])) bytes

-- of the first k records in a schedule, and of all that are whole
unfoldable pub rewritten_to : ℕ → List ℕ → List ℕ
rewritten_to zero l = l
rewritten_to (suc k) l = rewritten_record (take 8 l) ++ rewritten_to k (drop 8 l)

unfoldable pub rewritten_schedule : List ℕ → List ℕ
rewritten_schedule l = rewritten_to (length l / 8) l
