-- The global data call on a sound bench with a long enough slice: it shows what a decided process holds,
-- and refuses an undecided one by 11.
use Rattle.std.specs.Prelude.{◌≡◌, List, ◌++◌, ℕ, suc, ◌+◌, ◌-◌, ◌≤◌, ◌<◌, length, Ok, Err}
use Rattle.std.proofs.Math.Path.{ap}
use Rattle.std.proofs.Common.{◌∙◌, arith}
use Rattle.std.proofs.Math.Bool.{true, false, not}
use Rattle.std.proofs.Math.ListN.{drop}
use Rattle.sets.specs.Lists.{each}
use Rattle.sets.specs.Truth.{same, one_to, check}
use Rattle.sets.specs.TruthLaws.{select_on, select_off, and_mk, same_mk, same_off}
use Rattle.sets.specs.TruthLaws.{less_mk, less_off, check_on, check_off}
use Rattle.refusal.specs.declared.Refusal.TheVariants.{Undecided}
use Rattle.refusal.specs.Numbers.{refused}
use Rattle.process.specs.Steps.{has_decided}
use Rattle.bench.specs.declared.Bench.{Bench}
use Rattle.bench.specs.State.{process_at}
use Rattle.bench.specs.Sound.{sound_of}
use Rattle.bench.specs.Calls.{word_at, show_refusal, show_of, shown_in}

module _ (s : Bench) (x : ℕ) (out : List ℕ) (sound : sound_of s ≡ true) (low : x < s.n)
    (room : s.n ≤ length out) where
  number : suc x - 1 ≡ x
  number = omega arith

  -- only the last check is left
  last_check : show_refusal s (suc x) out ≡ check (has_decided (process_at s x)) 11 0
  unfolding show_refusal one_to
  last_check =
      check_on _ 2 _ sound
      ∙ check_on _ 5 _ (and_mk _ _ (less_mk 0 (suc x) (omega arith)) (less_mk (suc x) (s.n + 1) (omega arith)))
      ∙ check_on _ 10 _ (ap not (less_off (length out) s.n room))
      ∙ ap (λ (y : ℕ). check (has_decided (process_at s y)) 11 0) number

  pub shows_decided : has_decided (process_at s x) ≡ true
      → (show_of s (suc x) out ≡ Ok (process_at s x).estimate.present)
      × (shown_in s (suc x) out ≡ each s.n (word_at (process_at s x).estimate) ++ drop s.n out)
  unfolding show_of shown_in
  shows_decided d =
      let z : same (show_refusal s (suc x) out) 0 ≡ true = same_mk _ 0 (last_check ∙ check_on _ 11 0 d) in (
        select_on _ _ _ z ∙ ap (λ (y : ℕ). Ok (process_at s y).estimate.present) number,
        select_on _ _ _ z ∙ ap (λ (y : ℕ). each s.n (word_at (process_at s y).estimate) ++ drop s.n out) number,
      )

  pub hides_undecided : has_decided (process_at s x) ≡ false
      → (show_of s (suc x) out ≡ Err Undecided) × (shown_in s (suc x) out ≡ out)
  unfolding show_of shown_in
  hides_undecided d =
      let e : show_refusal s (suc x) out ≡ 11 = last_check ∙ check_off _ 11 0 d in
      let z : same (show_refusal s (suc x) out) 0 ≡ false = same_off _ 0 (omega arith) in
      (select_off _ _ _ z ∙ ap (λ (k : ℕ). Err (refused k)) e, select_off _ _ _ z)
