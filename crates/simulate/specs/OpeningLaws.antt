-- What the opening record gives, by the first check that fails.
use Rattle.std.specs.Prelude.{◌≡◌, ◌≢◌, List, true, false, ℕ, suc, length, get_or, Result, Ok, Err}
use Rattle.std.proofs.Math.Path.{ap}
use Rattle.std.proofs.Common.{sym, ◌∙◌, arith}
use Rattle.sets.specs.TruthLaws.{Is, on, off, is, select_on, select_off, same_mk, same_off}
use Rattle.sets.specs.TruthLaws.{and_mk, and_off_l, and_off_r, check_on, check_off}
use Rattle.sets.specs.Truth.{same}
use Rattle.refusal.specs.declared.Refusal.{Refusal}
use Rattle.refusal.specs.declared.Refusal.TheVariants.{Size, Length, Kind, Field}
use Rattle.refusal.specs.Numbers.{refused}
use Rattle.bench.specs.declared.Bench.{Bench}
use Rattle.bench.specs.State.{opened_of}
use Rattle.bench.specs.Sound.{opens, sound_of}
use Rattle.bench.proofs.SoundLaws.{sound_opened}
use Rattle.bench.specs.Record.{word_of}
use Rattle.bench.specs.Calls.{open_of}
use Rattle.simulate.specs.Output.{opening_refusal, opening_of}

module _ (l : List ℕ) where
  number : (k : ℕ) → opening_refusal l ≡ suc k → opening_of l ≡ Err (refused (suc k))
  unfolding opening_of
  number k e = select_off _ _ _ (same_off _ _ (λ z. omega arith)) ∙ ap (λ k. Err (refused k)) e

  pub opening_size : length l ≢ 8 → opening_of l ≡ Err Length
  unfolding opening_refusal
  opening_size h = number 2 (check_off _ _ _ (same_off _ _ h))

  module _ (s : length l ≡ 8) where
    pub opening_kind : get_or l 0 0 ≢ 0 → opening_of l ≡ Err Kind
    unfolding opening_refusal
    opening_kind h = number 3 (check_on _ _ _ (same_mk _ _ s) ∙ check_off _ _ _ (same_off _ _ h))

    module _ (k : get_or l 0 0 ≡ 0) where
      pub opening_r : get_or l 3 0 ≢ 0 → opening_of l ≡ Err Field
      unfolding opening_refusal
      opening_r h =
          number 4
          (check_on _ _ _ (same_mk _ _ s) ∙ check_on _ _ _ (same_mk _ _ k)
          ∙ check_off _ _ _ (and_off_l _ _ (same_off _ _ h)))

      pub opening_value : same (word_of (get_or l 4 0) (get_or l 5 0) (get_or l 6 0) (get_or l 7 0)) 0 ≡ false
          → opening_of l ≡ Err Field
      unfolding opening_refusal
      opening_value h =
          number 4
          (check_on _ _ _ (same_mk _ _ s) ∙ check_on _ _ _ (same_mk _ _ k) ∙ check_off _ _ _ (and_off_r _ _ h))

      pub opening_opens : get_or l 3 0 ≡ 0 → same (word_of (get_or l 4 0) (get_or l 5 0) (get_or l 6 0) (get_or l 7 0)) 0 ≡ true
          → opening_of l ≡ open_of (get_or l 1 0) (get_or l 2 0)
      unfolding opening_refusal opening_of
      opening_opens r v =
          select_on _ _ _
          (same_mk _ _
          (check_on _ _ _ (same_mk _ _ s) ∙ check_on _ _ _ (same_mk _ _ k)
          ∙ check_on _ _ _ (and_mk _ _ (same_mk _ _ r) v)))

-- ---- what is opened is sound
refused-not : {A : Type 0} (r : Refusal) (s : Bench) → ◌≡◌ {A = Result Bench Refusal} (Err r) (Ok s) → A
refused-not r s e = let z : ◌≡◌ {A = ℕ} 0 1 = cc in absurd (omega arith)

open_sound : (n t : ℕ) (s : Bench) → open_of n t ≡ Ok s → sound_of s ≡ true
unfolding open_of
open_sound n t s a = go (is (opens n t))
  where
    go : Is (opens n t) → sound_of s ≡ true
    go (on e) =
        let q : ◌≡◌ {A = Result Bench Refusal} (Ok (opened_of n t)) (Ok s) = sym (select_on (opens n t) _ _ e) ∙ a in
        let z : opened_of n t ≡ s = cc in
        rw (← z) (sound_opened n t e)
    go (off e) = refused-not Size s (sym (select_off (opens n t) _ _ e) ∙ a)

pub opening_sound : (l : List ℕ) (s : Bench) → opening_of l ≡ Ok s → sound_of s ≡ true
unfolding opening_of
opening_sound l s a = go (is (same (opening_refusal l) 0))
  where
    go : Is (same (opening_refusal l) 0) → sound_of s ≡ true
    go (on e) = open_sound (get_or l 1 0) (get_or l 2 0) s (sym (select_on (same (opening_refusal l) 0) _ _ e) ∙ a)
    go (off e) = refused-not _ s (sym (select_off (same (opening_refusal l) 0) _ _ e) ∙ a)
