-- Laws of the word of a value: its two numbers are found, and put together again they are the word, so that one
-- comparison of words compares both. A word is p + 65536 * d with p below 65536.
use Rattle.std.specs.Prelude.{◌≡◌, true, false, Some, ℕ, ◌+◌, ◌*◌, ◌^◌, ◌≤◌, ◌<◌}
use Rattle.std.proofs.Common.{ap, arith}
use Rattle.sets.specs.Truth.{same}
use Rattle.sets.specs.TruthLaws.{by_both, and_first, and_second, and_mk, same_on, same_mk, less_on, less_mk}
use Rattle.sets.specs.TruthLaws.{less-not, less_off, not_on, not_off}
use Rattle.global_data.specs.declared.Value.{Value}
use Rattle.global_data.specs.GlobalData.{portions_of, diet_of, value_in, same_entry, diet_fits}

-- ---- put together
pub word_is : (w : ℕ) → portions_of w + 65536 * diet_of w ≡ w
unfolding portions_of diet_of
word_is w = omega arith

-- ---- found
pub portions_in : (p d : ℕ) → p < 65536 → portions_of (p + 65536 * d) ≡ p
unfolding portions_of
portions_in p d h = omega arith

pub diet_in : (p d : ℕ) → p < 65536 → diet_of (p + 65536 * d) ≡ d
unfolding diet_of
diet_in p d h = omega arith

-- ---- each has 16 bits
pub portions_lt : (w : ℕ) → portions_of w < 65536
unfolding portions_of
portions_lt w = omega arith

pub diet_lt : (w : ℕ) → w < 2 ^ 32 → diet_of w < 65536
unfolding diet_of
diet_lt w h = omega arith

-- a value below 65536 has no diet portions
pub plain_word : (w : ℕ) → w < 65536 → (portions_of w ≡ w) × (diet_of w ≡ 0)
unfolding portions_of diet_of
plain_word w h = (omega arith, omega arith)

-- ---- words are the same just where both numbers are
pub same_word : (v w : ℕ) → portions_of v ≡ portions_of w → diet_of v ≡ diet_of w → v ≡ w
same_word v w p d = omega (arith, word_is v, word_is w)

pub value_word : (v w : ℕ) → value_in v ≡ value_in w → v ≡ w
value_word v w e = same_word v w (ap (λ x. x.portions) e) (ap (λ x. x.diet) e)

pub same_words : (v w : ℕ) → same_entry (Some (value_in v)) (Some (value_in w)) ≡ same v w
unfolding same_entry
same_words v w =
    by_both _ _
    (λ e. same_mk v w (same_word v w (same_on _ _ (and_first _ _ e)) (same_on _ _ (and_second _ _ e))))
    (λ e. let q = same_on v w e in and_mk _ _ (same_mk _ _ (ap portions_of q)) (same_mk _ _ (ap diet_of q)))

-- ---- what refusal 15 looks at
pub fits_on : (v : Value) → diet_fits (Some v) ≡ true → v.diet ≤ v.portions
unfolding diet_fits
fits_on v e = less-not v.portions v.diet (not_on _ e)

pub fits_mk : (v : Value) → v.diet ≤ v.portions → diet_fits (Some v) ≡ true
unfolding diet_fits
fits_mk v h = rw (less_off v.portions v.diet h)

pub fits_not : (v : Value) → diet_fits (Some v) ≡ false → v.portions < v.diet
unfolding diet_fits
fits_not v e = less_on v.portions v.diet (not_off _ e)

pub fits_off : (v : Value) → v.portions < v.diet → diet_fits (Some v) ≡ false
unfolding diet_fits
fits_off v h = rw (less_mk v.portions v.diet h)
