-- What is stored where what is given is mapped to the word first.
use Rattle.std.specs.Prelude.{◌≡◌, refl, Result, Ok, Err, MatchResult, IsOkAnd}
use Rattle.refusal.specs.declared.Refusal.{Refusal}
use Rattle.refusal.specs.Host.{answer_number, word_in, stored_in}

pub mapped : {A B : Type 0} (f : A → B) (a : Result A Refusal) (r : Result B Refusal) (old : B)
    → MatchResult a (λ x. IsOkAnd r (λ y. y ≡ f x)) (λ e. r ≡ Err e)
    → (answer_number r ≡ answer_number a) × (stored_in r old ≡ word_in f a old)
mapped f (Ok x) (Ok y) old h = (refl, h)
mapped f (Ok x) (Err e) old h = absurd h
mapped f (Err d) r old h = rw h (refl, refl)
