-- What the calls for a process's global data and for the list in transit answer and write,
-- by the first check that fails.
use Rattle.std.specs.Prelude.{◌≡◌, List, ◌++◌, true, false, not, ℕ, suc, ◌-◌, ◌/◌, ◌≤◌, ◌<◌, length, drop, Ok, Err}
use Rattle.std.proofs.Common.{ap, ◌∙◌, arith}
use Rattle.sets.specs.Lists.{each}
use Rattle.sets.specs.Truth.{same, less, select, one_to, check}
use Rattle.sets.specs.TruthLaws.{select_on, select_off, same_mk, same_off, less_mk, less_off, check_on, check_off}
use Rattle.refusal.specs.Numbers.{refused}
use Rattle.process.specs.Steps.{has_decided}
use Rattle.bench.specs.declared.Bench.{Bench}
use Rattle.bench.specs.Sound.{sound_of}
use Rattle.bench.specs.State.{process_at}
use Rattle.bench.specs.Calls.{word_at, show_refusal, show_of, shown_in}
use Rattle.bench.specs.TransitList.{transit_bytes, list_refusal, list_of, listed_in}

-- a slice of length x is long enough for y, or too short
long : (x y : ℕ) → y ≤ x → not (less x y) ≡ true
long x y h = ap not (less_off x y h)

short : (x y : ℕ) → x < y → not (less x y) ≡ false
short x y h = ap not (less_mk x y h)

-- ---- by the number: 0 is the answer itself
module _ {A : Type 0} (r : ℕ) (x : A) (f : ℕ → A) where
  by_none : r ≡ 0 → select (same r 0) x (f r) ≡ x
  by_none e = select_on (same r 0) x (f r) (same_mk r 0 e)

  by_number : (k : ℕ) → r ≡ suc k → select (same r 0) x (f r) ≡ f (suc k)
  by_number k e = select_off (same r 0) x (f r) (same_off r 0 (λ z. omega arith)) ∙ ap f e

-- ---- global data of process x
module _ (s : Bench) (x : ℕ) (out : List ℕ) where
  pub show_damaged : sound_of s ≡ false → show_refusal s x out ≡ 2
  unfolding show_refusal
  show_damaged e = check_off _ _ _ e

  module _ (e : sound_of s ≡ true) where
    pub show_unknown : one_to s.n x ≡ false → show_refusal s x out ≡ 5
    unfolding show_refusal
    show_unknown u = check_on _ _ _ e ∙ check_off _ _ _ u

    module _ (i : one_to s.n x ≡ true) where
      pub show_short : length out < s.n → show_refusal s x out ≡ 10
      unfolding show_refusal
      show_short h = check_on _ _ _ e ∙ check_on _ _ _ i ∙ check_off _ _ _ (short (length out) s.n h)

      module _ (h : s.n ≤ length out) where
        decision : show_refusal s x out ≡ check (has_decided (process_at s (x - 1))) 11 0
        unfolding show_refusal
        decision = check_on _ _ _ e ∙ check_on _ _ _ i ∙ check_on _ _ _ (long (length out) s.n h)

        pub show_undecided : has_decided (process_at s (x - 1)) ≡ false → show_refusal s x out ≡ 11
        show_undecided d = decision ∙ check_off _ _ _ d

        pub show_decided : has_decided (process_at s (x - 1)) ≡ true → show_refusal s x out ≡ 0
        show_decided d = decision ∙ check_on _ _ _ d

  pub show_refused : (k : ℕ) → show_refusal s x out ≡ suc k
      → (show_of s x out ≡ Err (refused (suc k))) × (shown_in s x out ≡ out)
  unfolding show_of shown_in
  show_refused k e = (by_number _ _ (λ r. Err (refused r)) k e, by_number _ _ (λ r. out) k e)

  pub show_shown : show_refusal s x out ≡ 0
      → (show_of s x out ≡ Ok (process_at s (x - 1)).estimate.present)
      × (shown_in s x out ≡ each s.n (word_at (process_at s (x - 1)).estimate) ++ drop s.n out)
  unfolding show_of shown_in
  show_shown e = (by_none _ _ (λ r. Err (refused r)) e, by_none _ _ (λ r. out) e)

-- ---- the list in transit
module _ (s : Bench) (out : List ℕ) where
  pub list_damaged : sound_of s ≡ false → list_refusal s out ≡ 2
  unfolding list_refusal
  list_damaged e = check_off _ _ _ e

  module _ (e : sound_of s ≡ true) where
    pub list_short : length out < length (transit_bytes s) → list_refusal s out ≡ 10
    unfolding list_refusal
    list_short h = check_on _ _ _ e ∙ check_off _ _ _ (short (length out) (length (transit_bytes s)) h)

    pub list_fits : length (transit_bytes s) ≤ length out → list_refusal s out ≡ 0
    unfolding list_refusal
    list_fits h = check_on _ _ _ e ∙ check_on _ _ _ (long (length out) (length (transit_bytes s)) h)

  pub list_refused : (k : ℕ) → list_refusal s out ≡ suc k
      → (list_of s out ≡ Err (refused (suc k))) × (listed_in s out ≡ out)
  unfolding list_of listed_in
  list_refused k e = (by_number _ _ (λ r. Err (refused r)) k e, by_number _ _ (λ r. out) k e)

  pub list_listed : list_refusal s out ≡ 0
      → (list_of s out ≡ Ok (length (transit_bytes s) / 3))
      × (listed_in s out ≡ transit_bytes s ++ drop (length (transit_bytes s)) out)
  unfolding list_of listed_in
  list_listed e = (by_none _ _ (λ r. Err (refused r)) e, by_none _ _ (λ r. out) e)
