-- How a loop finds out whether every element passes: it joins one test after another. And the kit's test of bytes.
use Rattle.std.specs.Prelude.{◌≡◌, List, [], ◌∷◌, Bool, ℕ, ◌+◌, ◌≤◌, ◌<◌, length, get_or, drop}
use Rattle.std.proofs.Math.Path.{refl, sym}
use Rattle.std.proofs.Common.{◌∙◌, add-one, drop_of_length-le, drop-cons}
use Rattle.std.proofs.Math.Bool.{true, false}
use Rattle.std.proofs.Math.Bool as core
use Rattle.std.proofs.Math.Pow.{are_bytes}
use Rattle.sets.specs.Tests.{both_are}
use Rattle.sets.specs.Truth.{◌and◌, less}
use Rattle.sets.specs.TruthLaws.{and_on_r}
use Rattle.sets.specs.Lists.{every_in}

module _ {A : Type 0} (p : A → Bool) where
  -- a loop's flag and the elements from k on say together whether every one passes
  abbrev pub Tested : List A → ℕ → Bool → Type 0
  Tested l k ok = (ok and every_in p (drop k l)) ≡ every_in p l

  pub tested_none : (l : List A) → Tested l 0 true
  unfolding ◌and◌
  tested_none l = refl

  -- x is the test of the element at k
  pub tested_more : (d : A) (l : List A) (k : ℕ) (ok x : Bool) → k < length l → x ≡ p (get_or l k d) → Tested l k ok
      → Tested l (k + 1) (core.◌&&◌ ok x)
  unfolding every_in ◌and◌
  tested_more d l k true x h e t = rw (add-one, e) (rw (drop-cons l k d) at t)
  tested_more d l k false x h e t = t

  pub tested_all : (l : List A) (k : ℕ) (ok : Bool) → length l ≤ k → Tested l k ok → ok ≡ every_in p l
  unfolding every_in
  tested_all l k ok h t = sym (and_on_r ok true refl) ∙ (rw (drop_of_length-le l) at t)

-- the kit's test of bytes is that of every one
pub bytes_every : (l : List ℕ) → are_bytes l ≡ every_in (λ b. less b 256) l
unfolding every_in less
bytes_every [] = refl
bytes_every (d ∷ l) = both_are refl (bytes_every l)
