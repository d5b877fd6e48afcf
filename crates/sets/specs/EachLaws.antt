-- Laws of `each`, which a loop over an array uses.
use Rattle.std.specs.Prelude.{◌≡◌, length, get_or, set, drop}
use Rattle.std.proofs.Math.Path.{refl, ap₂}
use Rattle.std.proofs.Common.{sym, ◌∙◌, add-one, drop_of_length-le, ext_get_or}
use mathlib.Core.List.{List, [], ◌∷◌, ◌++◌, append_assoc, append-nil}
use Rattle.std.proofs.Math.Logic.{⊎_elim}
use Prim.Native.Nat.{ℕ, zero, suc, ◌+◌, ◌<◌, ◌≤◌}
use native.Mathlib.Omega.{arith}
use Rattle.std.proofs.Math.ListN.{length-append, get_or-append}
use Rattle.std.proofs.Math.Seq.{drop-cons, set_at}
use Rattle.std.proofs.lemmas.List.{get_or_at}
use Rattle.sets.specs.Lists.{each}
use Rattle.sets.specs.TruthLaws.{le-or}

module _ {ℓ} {A : Type ℓ} where
  pub length-each : (n : ℕ) (f : ℕ → A) → length (each n f) ≡ n
  unfolding each
  length-each zero f = refl
  length-each (suc n) f = length-append (each n f) (f n ∷ []) ∙ omega (arith, length-each n f)

  pub get_or_each : (n : ℕ) (f : ℕ → A) (d : A) (k : ℕ) → k < n → get_or (each n f) k d ≡ f k
  unfolding each
  get_or_each zero f d k h = absurd (omega arith)
  get_or_each (suc n) f d k h =
      ⊎_elim
      (λ l. let e : k ≡ n = omega arith in rw e (get_or_at (each n f) (f n) [] d n (length-each n f)))
      (λ l. get_or-append (each n f) (f n ∷ []) d k (omega (arith, length-each n f)) ∙ get_or_each n f d k l)
      (le-or n k)

  -- a loop that stores entry after entry
  pub each_step : (d : A) (n : ℕ) (f : ℕ → A) (l : List A) → n < length l
      → set (each n f ++ drop n l) n (f n) ≡ each (n + 1) f ++ drop (n + 1) l
  unfolding each
  each_step d n f l h =
      rw (add-one, drop-cons l n d, set_at (each n f) _ _ (f n) n (length-each n f))
      (sym (append_assoc (each n f) (f n ∷ []) (drop (suc n) l)))

  -- the entry that it is at
  pub each_next : (d : A) (n : ℕ) (f : ℕ → A) (l : List A) → n < length l
      → get_or (each n f ++ drop n l) n d ≡ get_or l n d
  each_next d n f l h = rw (drop-cons l n d) (get_or_at (each n f) (get_or l n d) _ d n (length-each n f))

  -- the same loop at its end
  pub each_done : (n : ℕ) (f : ℕ → A) (l : List A) → length l ≡ n → each n f ++ drop n l ≡ each n f
  each_done n f l h = let g : length l ≤ n = omega arith in rw (drop_of_length-le l) (append-nil (each n f))

  -- a list is `each` of its own entries
  pub each-get_or : (n : ℕ) (f : ℕ → A) (d : A) (l : List A) → length l ≡ n → ((k : ℕ) → k < n → get_or l k d ≡ f k)
      → l ≡ each n f
  each-get_or n f d l e h =
      ext_get_or d l (each n f) (e ∙ sym (length-each n f))
      (λ k b. h k (omega arith) ∙ sym (get_or_each n f d k (omega arith)))

  pub each_cong : (n : ℕ) (f g : ℕ → A) → ((k : ℕ) → k < n → f k ≡ g k) → each n f ≡ each n g
  unfolding each
  each_cong zero f g h = refl
  each_cong (suc n) f g h = ap₂ (λ l x. l ++ (x ∷ [])) (each_cong n f g (λ k l. h k (omega arith))) (h n (omega arith))
