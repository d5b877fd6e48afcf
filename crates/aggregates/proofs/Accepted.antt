-- What the calls share: the entries that passed the checks are those of the call, n of them.
use Rattle.std.specs.Prelude.{◌≡◌, refl, List, ℕ, length}

pub worked : {B : Type 0} (f : ℕ → List ℕ → ℕ → B) (n : ℕ) {words entries : List ℕ} {m marks : ℕ}
    → words ≡ entries → m ≡ marks → length entries ≡ n → f (length words) words m ≡ f n entries marks
worked f n w k long = rw (w, k, long) refl
