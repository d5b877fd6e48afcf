-- The leader is the one process that request C-18 describes, and the search finds it: of a list there is at most one
-- greatest, since any two compare; and what comes forward last leads, or the leader so far does. By the laws of the
-- order alone.
use Rattle.std.specs.Prelude.{◌≡◌, ◌⊎◌, Bool, true, false, not, Option, None, Some, List, [], ◌∷◌, ◌++◌}
use Rattle.std.specs.Prelude.{option_to_list}
use Rattle.std.specs.List.{fold, reduce}
use Rattle.std.proofs.lemmas.Option.{none-some, same_Some}
use Rattle.std.proofs.Math.Path.{refl, subst}
use Rattle.std.proofs.Common.{sym, ◌∙◌, ap, inl, inr, append-nil, append_assoc, add-one, arith}
use Rattle.std.proofs.Math.Logic.{⊎_elim}
use mathlib.Core.List.Memᴰ.{head as here}
use mathlib.Core.List.Memᴰ.{tail as later}
use mathlib.Core.List.{Memᴰ as In}
use mathlib.Core.List.Memᴰ.{cases_cons as in-cases}
use mathlib.Core.List.Memᴰ.{not-nil as not_in}
use mathlib.Core.List.Memᴰ.{append_cases as in_either}
use mathlib.Core.List.Memᴰ.{eq_of_singleton as in_one}
use mathlib.Core.List.Memᴰ.{append_left as in_left}
use mathlib.Core.List.Memᴰ.{append_right as in_right}
use mathlib.Core.List.Memᴰ.{cast as in-cast}
use Prim.Native.Nat.{ℕ, zero, suc, ◌-◌, ◌≤◌, ◌<◌}
use Rattle.sets.specs.Lists.{joined, every_in}
use Rattle.sets.specs.EveryLaws.{every_in_on, every_in_mk}
use Rattle.sets.specs.Truth.{select}
use Rattle.sets.specs.TruthLaws.{select_on, select_off, Is, is, on, off, clash, eq-or, not_on}
use Rattle.global_data.specs.declared.Value.{Value}
use Rattle.global_data.specs.GlobalData.{Entry}
use Rattle.aggregates.specs.declared.Candidate.{Candidate}
use Rattle.aggregates.specs.Leader.{better, contender, candidates, is_greatest, first_in, leader_to}
use Rattle.aggregates.specs.Search.{contend, with_entry}
use Rattle.aggregates.proofs.Comparison.{Behind, better_off, behind_off, better_self, better_over, better_one}
use Rattle.aggregates.proofs.Comparison.{better_upto}

-- ---- the greatest of a list

record Greatest (l : List Candidate) (c : Candidate) : Type 0 where
  its : In c l
  best : (a : Candidate) → In a l → better a c ≡ false

-- a test that c alone passes
first_at : (test : Candidate → Bool) (l : List Candidate) (c : Candidate) → In c l → test c ≡ true
    → ((a : Candidate) → In a l → test a ≡ true → a ≡ c) → first_in test l ≡ Some c
unfolding first_in
first_at test [] c i t only = absurd (not_in i)
first_at test (a ∷ l) c i t only =
    go (is (test a)) (in-cases i) (λ j. first_at test l c j t (λ b k. only b (later k)))
  where
    go : Is (test a) → (c ≡ a) ⊎ In c l → (In c l → first_in test l ≡ Some c)
        → select (test a) (Some a) (first_in test l) ≡ Some c
    go (on e) i f = select_on _ _ _ e ∙ ap Some (only a (here refl) e)
    go (off e) (inl q) f = clash (test a) (ap test (sym q) ∙ t) e
    go (off e) (inr j) f = select_off _ _ _ e ∙ f j

found_greatest : (l : List Candidate) (c : Candidate) → Greatest l c → first_in (is_greatest l) l ≡ Some c
unfolding is_greatest
found_greatest l c t =
    first_at (λ b. every_in (λ a. not (better a b)) l) l c t.its
    (every_in_mk (λ a. not (better a c)) l (λ a i. ap not (t.best a i)))
    (λ a i e. better_one a c (t.best a i) (not_on _ (every_in_on (λ b. not (better b a)) l e c t.its)))

-- ---- the greatest by one pass

-- none leads an empty list
abbrev Heads : List Candidate → Option Candidate → Type 0
Heads l None = l ≡ []
Heads l (Some b) = Greatest l b

module _ (l : List Candidate) (c : Candidate) where
  takes : ((a : Candidate) → In a l → better a c ≡ false) → Greatest (l ++ (c ∷ [])) c
  takes f = record {
    its = in_right l (here refl);
    best = λ a i. ⊎_elim (λ j. f a j) (λ j. ap (λ b. better b c) (in_one j) ∙ better_self c) (in_either l i);
  }

  stays : (b : Candidate) → Greatest l b → better c b ≡ false → Greatest (l ++ (c ∷ [])) b
  stays b t e = record {
    its = in_left (c ∷ []) t.its;
    best = λ a i. ⊎_elim (λ j. t.best a j) (λ j. ap (λ x. better x b) (in_one j) ∙ e) (in_either l i);
  }

-- greater gives the one of two that leads before the other; of one candidate it gives either, as they are the same
module _ (greater : Candidate → Candidate → Candidate)
    (is_greater : (a b : Candidate) → greater a b ≡ select (better a b) a b) where
  -- b is the greatest of those before, and c comes next
  passed : (l : List Candidate) (b c : Candidate) → Greatest l b → Greatest (l ++ (c ∷ [])) (greater b c)
  passed l b c t = rw (is_greater b c) (go (is (better b c)))
    where
      go : Is (better b c) → Greatest (l ++ (c ∷ [])) (select (better b c) b c)
      go (on e) = rw (select_on _ b c e) (stays l c b t (better_over c b c e (better_self c)))
      go (off e) = rw (select_off _ b c e) (takes l c (λ a i. better_upto a b c (t.best a i) e))

  pass : (l k : List Candidate) (b : Candidate) → Greatest l b → Greatest (l ++ k) (fold greater b k)
  pass l [] b t = rw (append-nil l) t
  pass l (c ∷ k) b t =
      subst (λ m. Greatest m (fold greater (greater b c) k)) (append_assoc l (c ∷ []) k)
      (pass (l ++ (c ∷ [])) k (greater b c) (passed l b c t))

  reduced : (l : List Candidate) → Heads l (reduce greater l)
  reduced [] = refl
  reduced (c ∷ l) =
      pass (c ∷ []) l c
      record { its = here refl; best = λ a i. ap (λ b. better b c) (in_one i) ∙ better_self c }

  pub reduced_is : (l : List Candidate) → reduce greater l ≡ first_in (is_greatest l) l
  unfolding first_in
  reduced_is [] = refl
  reduced_is (c ∷ l) = sym (found_greatest (c ∷ l) _ (reduced (c ∷ l)))

-- the leader, in the same words
heads : (n : ℕ) (g : ℕ → Entry) → Heads (candidates n g) (leader_to n g)
unfolding leader_to
heads n g =
    subst (Heads (candidates n g)) (reduced_is either_of (λ a b. refl) (candidates n g))
    (reduced either_of (λ a b. refl) (candidates n g))
  where
    either_of : Candidate → Candidate → Candidate
    either_of a b = select (better a b) a b

-- ---- one process more

heads_contend : (l : List Candidate) (c : Candidate) (m : Option Candidate) → Heads l m
    → Heads (l ++ (c ∷ [])) (contend m c)
heads_contend l c None e = takes l c (λ a i. absurd (not_in (subst (In a) e i)))
heads_contend l c (Some b) t = go (is (better c b))
  where
    go : Is (better c b) → Heads (l ++ (c ∷ [])) (select (better c b) (Some c) (Some b))
    go (on e) = rw (select_on _ (Some c) (Some b) e) (takes l c (λ a i. better_over a c b e (t.best a i)))
    go (off e) = rw (select_off _ (Some c) (Some b) e) (stays l c b t e)

heads_found : (l : List Candidate) (m : Option Candidate) → Heads l m → first_in (is_greatest l) l ≡ m
unfolding first_in
heads_found l None e = ap (λ k. first_in (is_greatest k) k) e
heads_found l (Some b) t = found_greatest l b t

heads_entry : (l : List Candidate) (m : Option Candidate) (n : ℕ) (e : Entry) → Heads l m
    → Heads (l ++ option_to_list (contender n e)) (with_entry m (suc n) e)
heads_entry l m n None t = rw (← append-nil l) at t
heads_entry l m n (Some v) t = rw (add-one) (heads_contend l (record { value = v; process = suc n }) m t)

module _ (g : ℕ → Entry) where
  -- the search finds it
  pub leader_next : (n : ℕ) → leader_to (suc n) g ≡ with_entry (leader_to n g) (suc n) (g n)
  unfolding candidates joined leader_to
  leader_next n =
      heads_found (candidates (suc n) g) _
      (heads_entry (joined n (λ i. option_to_list (contender i (g i)))) (leader_to n g) n (g n) (heads n g))

  pub leader_start : leader_to 0 g ≡ None
  unfolding candidates joined leader_to first_in
  leader_start = refl

-- ---- in the request's words

-- b is the process, from 1 to n, whose entry is present, and that no present entry leads before
pub record IsLead (n : ℕ) (g : ℕ → Entry) (b : Candidate) : Type 0 where
  pub from : 1 ≤ b.process
  pub to : b.process ≤ n
  pub present : g (b.process - 1) ≡ Some b.value
  pub others : (i : ℕ) (v : Value) → i < n → g i ≡ Some v → Behind (record { value = v; process = suc i }) b

-- process i + 1 with value v
abbrev holds : ℕ → Value → Candidate
holds i v = record { value = v; process = suc i }

module _ (g : ℕ → Entry) where
  -- who comes forward: one of the processes 1 to n, with what its entry holds
  abbrev Comes : ℕ → Candidate → Type 0
  Comes n c = (i : ℕ) × (i < n) × (c.process ≡ suc i) × (g i ≡ Some c.value)

  last_comes : (n : ℕ) (c : Candidate) (e : Entry) → g n ≡ e → In c (option_to_list (contender n e)) → Comes (suc n) c
  last_comes n c None q i = absurd (not_in i)
  last_comes n c (Some v) q i =
      let r = in_one i in
      (n, omega arith, ap (λ x. x.process) r ∙ omega arith, q ∙ ap (λ x. Some x.value) (sym r))

  comes : (n : ℕ) (c : Candidate) → In c (candidates n g) → Comes n c
  unfolding candidates joined
  comes zero c i = absurd (not_in i)
  comes (suc n) c i =
      ⊎_elim (λ j. let w = comes n c j in (w.0, omega (arith, w.1), w.2, w.3)) (λ j. last_comes n c (g n) refl j)
      (in_either (joined n (λ i. option_to_list (contender i (g i)))) i)

  alone : (i : ℕ) (v : Value) → g i ≡ Some v → In (holds i v) (option_to_list (contender i (g i)))
  alone i v q =
      subst (λ e. In (holds i v) (option_to_list (contender i e))) (sym q)
      (here (λ j. record { value = v; process = sym (add-one i) j }))

  forward : (n i : ℕ) (v : Value) → i < n → g i ≡ Some v → In (holds i v) (candidates n g)
  unfolding candidates joined
  forward zero i v h q = absurd (omega arith)
  forward (suc n) i v h q =
      ⊎_elim
      (λ e. in_right (joined n (λ i. option_to_list (contender i (g i))))
      (subst (λ k. In (holds i v) (option_to_list (contender k (g k)))) e (alone i v q)))
      (λ l. in_left _ (forward n i v (omega arith) q)) (eq-or i n)

  is_lead : (n : ℕ) (b : Candidate) → Greatest (candidates n g) b → IsLead n g b
  is_lead n b t =
      let w = comes n b t.its in
      let s : b.process - 1 ≡ w.0 = omega (arith, w.2) in
      record {
        from = omega (arith, w.2);
        to = omega (arith, w.1, w.2);
        present = ap g s ∙ w.3;
        others = λ i v h q. better_off _ b (t.best _ (forward n i v h q));
      }

  of_lead : (n : ℕ) (b : Candidate) → IsLead n g b → Greatest (candidates n g) b
  of_lead n b t =
      let s : b.process ≡ suc (b.process - 1) = omega (arith, t.from) in
      record {
        its = in-cast (λ i. record { value = b.value; process = s i })
            (forward n (b.process - 1) b.value (omega (arith, t.from, t.to)) t.present);
        best = λ a i.
            let w = comes n a i in
            ap (λ p. better (record { value = a.value; process = p }) b) w.2
            ∙ behind_off _ b (t.others w.0 a.value w.1 w.3);
      }

-- where nobody leads, all are absent
pub lead_none : (n : ℕ) (g : ℕ → Entry) → leader_to n g ≡ None → (i : ℕ) → i < n → g i ≡ None
lead_none n g e i h = go (g i) refl
  where
    empty : candidates n g ≡ []
    empty = subst (Heads (candidates n g)) e (heads n g)

    go : (x : Entry) → g i ≡ x → g i ≡ None
    go None q = q
    go (Some v) q = absurd (not_in (subst (In _) empty (forward g n i v h q)))

pub lead_is : (n : ℕ) (g : ℕ → Entry) (b : Candidate) → leader_to n g ≡ Some b → IsLead n g b
lead_is n g b e = is_lead g n b (subst (Heads (candidates n g)) e (heads n g))

-- such a process is the leader
pub lead_the : (n : ℕ) (g : ℕ → Entry) (b : Candidate) → IsLead n g b → leader_to n g ≡ Some b
unfolding leader_to
lead_the n g b t = found_greatest (candidates n g) b (of_lead g n b t)

-- so there is at most one
pub lead_one : (n : ℕ) (g : ℕ → Entry) (a b : Candidate) → IsLead n g a → IsLead n g b → a ≡ b
lead_one n g a b p q = let e : Some a ≡ Some b = sym (lead_the n g a p) ∙ lead_the n g b q in cc

-- one with more portions than every other present entry leads, whatever the diet portions and the numbers are
pub lead_alone : (n : ℕ) (g : ℕ → Entry) (b : Candidate) → 1 ≤ b.process → b.process ≤ n
    → g (b.process - 1) ≡ Some b.value
    → ((i : ℕ) (v : Value) → i < n → (suc i ≡ b.process → ⊥) → g i ≡ Some v → v.portions < b.value.portions)
    → leader_to n g ≡ Some b
lead_alone n g b from to present fewer =
    lead_the n g b (record {
      from = from;
      to = to;
      present = present;
      others = λ i v h q.
          ⊎_elim (λ e. itself i v e q) (λ e. other i v (fewer i v h e q)) (eq-or (suc i) b.process);
    })
  where
    itself : (i : ℕ) (v : Value) → suc i ≡ b.process → g i ≡ Some v → Behind (holds i v) b
    itself i v e q =
        let s : b.process - 1 ≡ i = omega arith in
        let r : v ≡ b.value = same_Some _ _ (sym q ∙ ap g (sym s) ∙ present) in
        let p : v.portions ≡ b.value.portions = ap (λ x. x.portions) r in
        let k : v.diet ≡ b.value.diet = ap (λ x. x.diet) r in
        record { most = omega arith; diets = λ x. omega arith; highest = λ x y. omega arith }

    other : (i : ℕ) (v : Value) → v.portions < b.value.portions → Behind (holds i v) b
    other i v h =
        record { most = omega arith; diets = λ e. absurd (omega arith); highest = λ e k. absurd (omega arith) }

-- and where all are absent, nobody leads
pub none_lead : (n : ℕ) (g : ℕ → Entry) → ((i : ℕ) → i < n → g i ≡ None) → leader_to n g ≡ None
none_lead n g h = go (leader_to n g) refl
  where
    go : (l : Option Candidate) → leader_to n g ≡ l → leader_to n g ≡ None
    go None e = e
    go (Some b) e =
        let t : IsLead n g b = lead_is n g b e in
        absurd (none-some b.value (sym (h (b.process - 1) (omega (arith, t.to, t.from))) ∙ t.present))
