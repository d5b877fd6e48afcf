-- Lists of messages as request C-13 has them, of any bench: the order, what two such lists say of each other, and how
-- they are put together. Two lists are read from the top: where they part, the lesser message is not in the other one.
-- Lists one after another are a list where each message of an earlier one comes before each of a later one.
use Rattle.std.specs.Prelude.{◌≡◌, refl, ◌↔◌, ◌⊎◌, Bool, true, false, length}
use Rattle.std.proofs.Math.Path.{sym, ap₂}
use Rattle.std.proofs.Common.{ap, subst, ◌∙◌, inl, inr, arith}
use Rattle.std.proofs.Math.Logic.{⊎_elim, ∥∥₁_elim}
use mathlib.Core.List.{List, [], ◌∷◌, ◌++◌, cons≢nil, nil≢cons, head-eq_of_cons-eq, tail-eq_of_cons-eq}
use mathlib.Core.List.{Pairwise, Pairwise-singleton, Pairwise-cons, Pairwise-append}
use mathlib.Core.List.{rel_of_Pairwise-cons}
use mathlib.Core.List.Memᴰ.{head as here}
use mathlib.Core.List.Memᴰ.{tail as later}
use mathlib.Core.List.{Memᴰ as In}
use mathlib.Core.List.Memᴰ.{cases_cons as in-cases}
use mathlib.Core.List.Memᴰ.{not-nil as not_in}
use mathlib.Core.List.Memᴰ.{append_cases as in_either}
use mathlib.Core.List.Memᴰ.{eq_of_singleton as in_one}
use mathlib.Core.List.Memᴰ.{append_left as in_left}
use mathlib.Core.List.Memᴰ.{append_right as in_right}
use mathlib.Mathlib.Order.Defs.Unbundled.Std
use Prim.Native.Nat.{ℕ, zero, suc, ◌*◌, ◌<◌}
use Rattle.std.proofs.Math.Nat.{ℕ_set}
use Rattle.std.proofs.Math.Bridge.{le_prop}
use Rattle.sets.specs.Lists.{joined}
use Rattle.sets.specs.Truth.{select}
use Rattle.sets.specs.TruthLaws.{clash, eq-or, le-or}
use Rattle.bench.specs.TransitOrder.{ListedMessage, bytes_of, Before, by_round, by_sender, by_receiver}
use Rattle.bench.specs.TransitOrder.{Lists, Extra}

-- ---- the order
-- of two messages at most one comes before the other
pub before_not : (x y : ListedMessage) → Before x y → Before y x → ⊥
before_not x y (by_round h) (by_round k) = omega arith
before_not x y (by_round h) (by_sender d k) = omega arith
before_not x y (by_round h) (by_receiver d e k) = omega arith
before_not x y (by_sender d h) (by_round k) = omega arith
before_not x y (by_sender d h) (by_sender e k) = omega arith
before_not x y (by_sender d h) (by_receiver e f k) = omega arith
before_not x y (by_receiver d e h) (by_round k) = omega arith
before_not x y (by_receiver d e h) (by_sender f k) = omega arith
before_not x y (by_receiver d e h) (by_receiver f g k) = omega arith

-- and none before itself
pub before_never : Std.Irrefl Before
before_never = record { irrefl = λ x h. before_not x x h h }

-- of two that differ, one does
pub before_or : (x y : ListedMessage) → (x ≡ y) ⊎ (Before x y ⊎ Before y x)
before_or x y = go (eq-or x.round y.round) (eq-or x.sender y.sender) (eq-or x.receiver y.receiver)
  where
    less : (i j : ℕ) → (i ≡ j → ⊥) → (i < j) ⊎ (j < i)
    less i j h = ⊎_elim (λ l. inl (omega arith)) (λ l. inr l) (le-or i j)

    go : (x.round ≡ y.round) ⊎ (x.round ≡ y.round → ⊥) → (x.sender ≡ y.sender) ⊎ (x.sender ≡ y.sender → ⊥)
        → (x.receiver ≡ y.receiver) ⊎ (x.receiver ≡ y.receiver → ⊥) → (x ≡ y) ⊎ (Before x y ⊎ Before y x)
    go (inl d) (inl e) (inl f) = inl (λ i. record { sender = e i; receiver = f i; round = d i })
    go (inl d) (inl e) (inr h) =
        inr (⊎_elim (λ l. inl (by_receiver d e l)) (λ l. inr (by_receiver (sym d) (sym e) l)) (less _ _ h))
    go (inl d) (inr h) f = inr (⊎_elim (λ l. inl (by_sender d l)) (λ l. inr (by_sender (sym d) l)) (less _ _ h))
    go (inr h) e f = inr (⊎_elim (λ l. inl (by_round l)) (λ l. inr (by_round l)) (less _ _ h))

before_prop : (x y : ListedMessage) → IsProp (Before x y)
before_prop x y (by_round h) (by_round k) = ap by_round (le_prop h k)
before_prop x y (by_sender d h) (by_sender e k) = ap₂ by_sender (ℕ_set _ _ d e) (le_prop h k)
before_prop x y (by_receiver d e h) (by_receiver f g k) =
    λ i. by_receiver (ℕ_set _ _ d f i) (ℕ_set _ _ e g i) (le_prop h k i)
before_prop x y (by_round h) (by_sender d k) = absurd (omega arith)
before_prop x y (by_round h) (by_receiver d e k) = absurd (omega arith)
before_prop x y (by_sender d h) (by_round k) = absurd (omega arith)
before_prop x y (by_sender d h) (by_receiver e f k) = absurd (omega arith)
before_prop x y (by_receiver d e h) (by_round k) = absurd (omega arith)
before_prop x y (by_receiver d e h) (by_sender f k) = absurd (omega arith)

-- ---- two rising lists, read from the top
Told : List ListedMessage → List ListedMessage → Type 0
Told l k =
    (bytes_of l ≡ bytes_of k)
    ⊎ (Extra (λ m. In m l) (λ m. In m k) (bytes_of l) (bytes_of k)
    ⊎ Extra (λ m. In m k) (λ m. In m l) (bytes_of k) (bytes_of l))

extra_here : (x : ListedMessage) (l k : List ListedMessage)
    → ((y : ListedMessage) (k' : List ListedMessage) → k ≡ y ∷ k' → Before x y) → (In x k → ⊥)
    → Extra (λ m. In m (x ∷ l)) (λ m. In m k) (bytes_of (x ∷ l)) (bytes_of k)
extra_here x l k b h =
    record {
      above = [];
      message = x;
      rest = l;
      other = k;
      first_is = refl;
      second_is = refl;
      lesser = b;
      in_first = here refl;
      not_in_second = h;
    }

extra_later : (x y : ListedMessage) (l k : List ListedMessage) → x ≡ y → Pairwise Before (x ∷ l)
    → Extra (λ m. In m l) (λ m. In m k) (bytes_of l) (bytes_of k)
    → Extra (λ m. In m (x ∷ l)) (λ m. In m (y ∷ k)) (bytes_of (x ∷ l)) (bytes_of (y ∷ k))
unfolding bytes_of
extra_later x y l k e p w =
    record {
      above = x ∷ w.above;
      message = w.message;
      rest = w.rest;
      other = w.other;
      first_is = ap (λ (b : List ℕ). x.sender ∷ x.receiver ∷ x.round ∷ b) w.first_is;
      second_is = rw (sym e, w.second_is);
      lesser = w.lesser;
      in_first = later w.in_first;
      not_in_second = λ h.
          ⊎_elim
          (λ u. before_never.irrefl x (subst (Before x) (u ∙ sym e) (rel_of_Pairwise-cons p ∣ w.in_first ∣₁)))
          w.not_in_second (in-cases h);
    }

-- who comes before the head of a rising list is not in it
not_there : (x y : ListedMessage) (k : List ListedMessage) → Before x y → Pairwise Before (y ∷ k) → In x (y ∷ k) → ⊥
not_there x y k b q h =
    ⊎_elim (λ u. before_never.irrefl x (subst (Before x) (sym u) b))
    (λ u. before_not x y b (rel_of_Pairwise-cons q ∣ u ∣₁)) (in-cases h)

told : (l k : List ListedMessage) → Pairwise Before l → Pairwise Before k → Told l k
unfolding Told bytes_of
told [] [] p q = inl refl
told (x ∷ l) [] p q = inr (inl (extra_here x l [] (λ y k e. absurd (nil≢cons e)) not_in))
told [] (y ∷ k) p q = inr (inr (extra_here y k [] (λ x l e. absurd (nil≢cons e)) not_in))
told (x ∷ l) (y ∷ k) p q = go (told l k (Pairwise-cons.0 p).1 (Pairwise-cons.0 q).1) (before_or x y)
  where
    go : Told l k → (x ≡ y) ⊎ (Before x y ⊎ Before y x) → Told (x ∷ l) (y ∷ k)
    go w (inr (inl b)) =
        inr (inl (extra_here x l (y ∷ k) (λ z m e. subst (Before x) (head-eq_of_cons-eq e) b) (not_there x y k b q)))
    go w (inr (inr b)) =
        inr (inr (extra_here y k (x ∷ l) (λ z m e. subst (Before y) (head-eq_of_cons-eq e) b) (not_there y x l b p)))
    go (inl d) (inl e) = inl (rw (e, d))
    go (inr (inl w)) (inl e) = inr (inl (extra_later x y l k e p w))
    go (inr (inr w)) (inl e) = inr (inr (extra_later y x k l (sym e) q w))

-- by what their lists name
extra_as : (P Q : ListedMessage → Type 0) (first second : List ℕ) (v : Lists P first) (w : Lists Q second)
    → Extra (λ m. In m v.messages) (λ m. In m w.messages) (bytes_of v.messages) (bytes_of w.messages)
    → Extra P Q first second
extra_as P Q first second v w x =
    record {
      above = x.above;
      message = x.message;
      rest = x.rest;
      other = x.other;
      first_is = v.spelt ∙ x.first_is;
      second_is = w.spelt ∙ x.second_is;
      lesser = x.lesser;
      in_first = (v.exact x.message).0 x.in_first;
      not_in_second = λ q. x.not_in_second ((w.exact x.message).1 q);
    }

-- two lists are the same, or one has a message that the other lacks
pub lists_differ : (P Q : ListedMessage → Type 0) (first second : List ℕ) → Lists P first → Lists Q second
    → (first ≡ second) ⊎ (Extra P Q first second ⊎ Extra Q P second first)
unfolding Told
lists_differ P Q first second v w = go (told v.messages w.messages v.rising w.rising)
  where
    go : Told v.messages w.messages → (first ≡ second) ⊎ (Extra P Q first second ⊎ Extra Q P second first)
    go (inl e) = inl (v.spelt ∙ e ∙ sym w.spelt)
    go (inr (inl x)) = inr (inl (extra_as P Q first second v w x))
    go (inr (inr x)) = inr (inr (extra_as Q P second first w v x))

-- there is but one list of the same messages
pub lists_same : (P Q : ListedMessage → Type 0) (first second : List ℕ) → ((m : ListedMessage) → P m ↔ Q m)
    → Lists P first → Lists Q second → first ≡ second
lists_same P Q first second h v w = go (lists_differ P Q first second v w)
  where
    go : (first ≡ second) ⊎ (Extra P Q first second ⊎ Extra Q P second first) → first ≡ second
    go (inl e) = e
    go (inr (inl x)) = absurd (x.not_in_second ((h x.message).0 x.in_first))
    go (inr (inr x)) = absurd (x.not_in_second ((h x.message).1 x.in_first))

-- ---- the bytes of a list: of two parts, how many, and of one list alone
bytes_append : (l k : List ListedMessage) → bytes_of (l ++ k) ≡ bytes_of l ++ bytes_of k
unfolding bytes_of
bytes_append [] k = refl
bytes_append (m ∷ l) k = ap (λ (b : List ℕ). m.sender ∷ m.receiver ∷ m.round ∷ b) (bytes_append l k)

pub bytes_length : (l : List ListedMessage) → length (bytes_of l) ≡ length l * 3
unfolding bytes_of
bytes_length [] = refl
bytes_length (m ∷ l) = omega (arith, bytes_length l)

pub bytes_tell : (l k : List ListedMessage) → bytes_of l ≡ bytes_of k → l ≡ k
unfolding bytes_of
bytes_tell [] [] e = refl
bytes_tell (x ∷ l) [] e = absurd (cons≢nil e)
bytes_tell [] (y ∷ k) e = absurd (nil≢cons e)
bytes_tell (x ∷ l) (y ∷ k) e =
    let e₁ = tail-eq_of_cons-eq e in
    let e₂ = tail-eq_of_cons-eq e₁ in
    λ i.
    record {
      sender = head-eq_of_cons-eq e i;
      receiver = head-eq_of_cons-eq e₁ i;
      round = head-eq_of_cons-eq e₂ i;
    } ∷ bytes_tell l k (tail-eq_of_cons-eq e₂) i

-- ---- lists put together
-- what a list names, said otherwise
pub lists_as : (P Q : ListedMessage → Type 0) (bytes : List ℕ) → ((m : ListedMessage) → P m ↔ Q m) → Lists P bytes
    → Lists Q bytes
lists_as P Q bytes h w =
    record {
      messages = w.messages;
      spelt = w.spelt;
      rising = w.rising;
      exact = λ m. (λ u. (h m).0 ((w.exact m).0 u), λ u. (w.exact m).1 ((h m).1 u));
    }

-- one message, where a test says so
pub lists_one : (b : Bool) (x : ListedMessage)
    → Lists (λ m. (m ≡ x) × (b ≡ true)) (select b (x.sender ∷ x.receiver ∷ x.round ∷ []) [])
unfolding select bytes_of
lists_one true x =
    record {
      messages = x ∷ [];
      spelt = refl;
      rising = Pairwise-singleton Before x;
      exact = λ m. (λ u. (in_one u, refl), λ u. here u.0);
    }
lists_one false x =
    record {
      messages = [];
      spelt = refl;
      rising = Pairwise.nil;
      exact = λ m. (λ u. absurd (not_in u), λ u. clash false u.1 refl);
    }

-- one of P 0, P 1, .. P (n - 1) holds
pub record Among (P : ℕ → ListedMessage → Type 0) (n : ℕ) (m : ListedMessage) : Type 0 where
  pub index : ℕ
  pub low : index < n
  pub of : P index m

-- lists one after another, each of them before the next
module _ (P : ℕ → ListedMessage → Type 0) (f : ℕ → List ℕ) (part : (k : ℕ) → Lists (P k) (f k))
    (apart : (i j : ℕ) (x y : ListedMessage) → i < j → P i x → P j y → Before x y) where
  pub lists_joined : (n : ℕ) → Lists (Among P n) (joined n f)
  unfolding joined bytes_of
  lists_joined zero =
      record {
        messages = [];
        spelt = refl;
        rising = Pairwise.nil;
        exact = λ m. (λ u. absurd (not_in u), λ u. absurd (omega (arith, u.low)));
      }
  lists_joined (suc n) =
      let v = lists_joined n in
      let w = part n in
      record {
        messages = v.messages ++ w.messages;
        spelt = ap₂ ◌++◌ v.spelt w.spelt ∙ sym (bytes_append v.messages w.messages);
        rising =
            (Pairwise-append before_prop).1 (
              v.rising,
              w.rising,
              λ x p y q.
                  ∥∥₁_elim p (before_prop x y) (λ p.
                  ∥∥₁_elim q (before_prop x y) (λ q.
                  let u = (v.exact x).0 p in apart u.index n x y u.low u.of ((w.exact y).0 q))),
            );
        exact = λ m. (
          λ u.
              ⊎_elim
              (λ i. let a = (v.exact m).0 i in record { index = a.index; low = omega (arith, a.low); of = a.of })
              (λ i. record { index = n; low = omega arith; of = (w.exact m).0 i })
              (in_either v.messages u),
          λ u.
              ⊎_elim
              (λ e. in_right v.messages ((w.exact m).1 (subst (λ (k : ℕ). P k m) e u.of)))
              (λ e.
              let a : Among P n m = record { index = u.index; low = omega (arith, u.low); of = u.of } in
              in_left w.messages ((v.exact m).1 a))
              (eq-or u.index n),
        );
      }
