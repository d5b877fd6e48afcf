-- The list of those who take part and how many they are, for any test: by induction along the sites, the list of those
-- up to m has as many entries as take part, and each stands at its own number. Then what a loop over the sites stores.
use Rattle.std.specs.Prelude.{◌≡◌, ◌≢◌, Bool, true, false, ◌⊎◌, set, replicate}
use Rattle.std.proofs.Math.Path.{refl, sym, ap, ap₂}
use Rattle.std.proofs.Common.{◌∙◌, inl, inr, ⊎_elim, add-one, arith, length-drop, get_or-append-add, get_or-drop}
use Rattle.std.proofs.Common.{drop-cons}
use mathlib.Core.List.{List, [], ◌∷◌, ◌++◌, append_assoc, append-nil}
use Prim.Native.Nat.{ℕ, zero, suc, ◌+◌, ◌-◌, ◌≤◌, ◌<◌}
use Rattle.std.proofs.Math.ListN.{length, get_or, drop, length-append, get_or-append, get_or-eq_default}
use Rattle.std.proofs.lemmas.List.{get_or-replicate, get_or_at, set_at, set-get_or}
use Rattle.sets.specs.CountLaws.{count_cong}
use Rattle.sets.specs.EachLaws.{length-each, each_step, each_cong, each-get_or}
use Rattle.sets.specs.EveryLaws.{some_mk, some_none}
use Rattle.sets.specs.Lists.{each, joined, some_to, count_to}
use Rattle.sets.specs.Truth.{bit, select}
use Rattle.sets.specs.TruthLaws.{Is, is, on, off, off_by, select_on, select_off, le-or, eq-or}
use Rattle.calendar.specs.Calendar.{sites_to, how_many, process_of_site, site_of_process, numbering_of}

module _ (takes : ℕ → Bool) where
  pub sites_on : (m : ℕ) → takes (m + 1) ≡ true → sites_to takes (suc m) ≡ sites_to takes m ++ ((m + 1) ∷ [])
  unfolding sites_to joined
  sites_on m e = ap (λ l. sites_to takes m ++ l) (select_on (takes (m + 1)) ((m + 1) ∷ []) [] e)

  pub sites_off : (m : ℕ) → takes (m + 1) ≡ false → sites_to takes (suc m) ≡ sites_to takes m
  unfolding sites_to joined
  sites_off m e = ap (λ l. sites_to takes m ++ l) (select_off (takes (m + 1)) ((m + 1) ∷ []) [] e) ∙ append-nil _

  pub many_zero : how_many takes 0 ≡ 0
  unfolding how_many count_to
  many_zero = refl

  pub many_on : (m : ℕ) → takes (m + 1) ≡ true → how_many takes (suc m) ≡ suc (how_many takes m)
  unfolding how_many count_to bit
  many_on m e = omega (arith, ap bit e)

  pub many_off : (m : ℕ) → takes (m + 1) ≡ false → how_many takes (suc m) ≡ how_many takes m
  unfolding how_many count_to bit
  many_off m e = omega (arith, ap bit e)

  -- one site more is at most one more, and none less
  pub many_step : (m : ℕ) → (how_many takes m ≤ how_many takes (suc m)) × (how_many takes (suc m) ≤ suc (how_many takes m))
  many_step m = go (is (takes (m + 1)))
    where
      go : Is (takes (m + 1))
          → (how_many takes m ≤ how_many takes (suc m)) × (how_many takes (suc m) ≤ suc (how_many takes m))
      go (on e) = (omega (arith, many_on m e), omega (arith, many_on m e))
      go (off e) = (omega (arith, many_off m e), omega (arith, many_off m e))

  pub many_le : (m k : ℕ) → m ≤ k → how_many takes m ≤ how_many takes k
  many_le m zero h = let e : m ≡ 0 = omega arith in rw e (omega arith)
  many_le m (suc k) h =
      ⊎_elim (λ e. rw e (omega arith)) (λ d. omega (arith, many_le m k (omega arith), (many_step k).0))
      (eq-or m (suc k))

  pub many_bound : (m : ℕ) → how_many takes m ≤ m
  many_bound zero = omega (arith, many_zero)
  many_bound (suc m) = omega (arith, many_bound m, (many_step m).1)

  pub length_sites : (m : ℕ) → length (sites_to takes m) ≡ how_many takes m
  unfolding sites_to joined
  length_sites zero = sym many_zero
  length_sites (suc m) = go (is (takes (m + 1))) (length_sites m)
    where
      go : Is (takes (m + 1)) → length (sites_to takes m) ≡ how_many takes m
          → length (sites_to takes (suc m)) ≡ how_many takes (suc m)
      go (on e) h =
          ap length (sites_on m e) ∙ length-append (sites_to takes m) ((m + 1) ∷ []) ∙ omega (arith, h, many_on m e)
      go (off e) h = ap length (sites_off m e) ∙ h ∙ sym (many_off m e)

  -- what stands at place p of the list: a site of 1 to m that takes part, the p + 1st of them
  pub record Placed (m p s : ℕ) : Type 0 where
    pub low : 1 ≤ s
    pub high : s ≤ m
    pub part : takes s ≡ true
    pub number : how_many takes s ≡ suc p

  later : (m p s : ℕ) → Placed m p s → Placed (suc m) p s
  later m p s h = record { low = h.low; high = omega (arith, h.high); part = h.part; number = h.number }

  pub placed : (m p : ℕ) → p < how_many takes m → Placed m p (get_or (sites_to takes m) p 0)
  placed zero p h = absurd (omega (arith, many_zero))
  placed (suc m) p h = go (is (takes (m + 1))) (placed m p)
    where
      go : Is (takes (m + 1)) → (p < how_many takes m → Placed m p (get_or (sites_to takes m) p 0))
          → Placed (suc m) p (get_or (sites_to takes (suc m)) p 0)
      go (off e) ih = rw (sites_off m e) (later m p _ (ih (omega (arith, many_off m e))))
      go (on e) ih = rw (sites_on m e) (⊎_elim front end (le-or (how_many takes m) p))
        where
          end : p < how_many takes m → Placed (suc m) p (get_or (sites_to takes m ++ ((m + 1) ∷ [])) p 0)
          end l =
              rw (get_or-append (sites_to takes m) ((m + 1) ∷ []) 0 p (omega (arith, length_sites m)))
              (later m p _ (ih l))

          front : how_many takes m ≤ p → Placed (suc m) p (get_or (sites_to takes m ++ ((m + 1) ∷ [])) p 0)
          front l =
              let q : p ≡ how_many takes m = omega (arith, many_on m e) in
              rw (get_or_at (sites_to takes m) (m + 1) [] 0 p (length_sites m ∙ sym q))
              (record {
                low = omega arith;
                high = omega arith;
                part = e;
                number = rw (add-one, q) (many_on m e);
              })

  -- two places with the same number of sites before them are one
  pub number_one : (s r : ℕ) → 1 ≤ s → 1 ≤ r → takes s ≡ true → takes r ≡ true → how_many takes s ≡ how_many takes r
      → s ≡ r
  number_one s r ls lr es er e = go (le-or s r) (le-or r s)
    where
      before : (a b : ℕ) → a < b → takes b ≡ true → how_many takes a < how_many takes b
      before a zero h t = elim h [ ]
      before a (suc b) h t =
          omega (arith, many_le a b (omega arith), many_on b (rw add-one t))

      go : (s ≤ r) ⊎ (r < s) → (r ≤ s) ⊎ (s < r) → s ≡ r
      go (inr l) k = absurd (omega (arith, before r s l es))
      go (inl l) (inl k) = omega arith
      go (inl l) (inr k) = absurd (omega (arith, before s r k er))

-- somebody takes part where they are not none
module _ (takes : ℕ → Bool) where
  pub nobody : how_many takes 16 ≡ 0 → some_to 16 (λ i. takes (i + 1)) ≡ false
  nobody e =
      some_none 16 _ (λ i l. off_by _ (λ t. omega (arith, many_on takes i t, many_le takes (suc i) 16 (omega arith))))

  pub somebody : how_many takes 16 ≢ 0 → some_to 16 (λ i. takes (i + 1)) ≡ true
  somebody d =
      let h = placed takes 16 0 (omega arith) in
      let e : get_or (sites_to takes 16) 0 0 - 1 + 1 ≡ get_or (sites_to takes 16) 0 0 = omega (arith, h.low) in
      some_mk 16 _ (get_or (sites_to takes 16) 0 0 - 1) (omega (arith, h.low, h.high)) (ap takes e ∙ h.part)

-- ---- a loop that stores the sites one after the other
module _ (takes : ℕ → Bool) where
  abbrev pub stored_to : ℕ → List ℕ → List ℕ
  stored_to m l = sites_to takes m ++ drop (how_many takes m) l

  pub stored_on : (m : ℕ) (l : List ℕ) → takes (m + 1) ≡ true → how_many takes m < length l
      → set (stored_to m l) (how_many takes m) (m + 1) ≡ stored_to (m + 1) l
  stored_on m l e h =
      let s : set (stored_to m l) (how_many takes m) (m + 1) ≡ stored_to (suc m) l =
      rw (
        many_on takes m e,
        sites_on takes m e,
        drop-cons l (how_many takes m) 0 h,
        set_at (sites_to takes m) _ _ (m + 1) (how_many takes m) (length_sites takes m),
      )
      (sym (append_assoc (sites_to takes m) ((m + 1) ∷ []) (drop (suc (how_many takes m)) l))) in
      s ∙ ap (λ (k : ℕ). stored_to k l) (sym (add-one m))

  pub stored_off : (m : ℕ) (l : List ℕ) → takes (m + 1) ≡ false → stored_to m l ≡ stored_to (m + 1) l
  stored_off m l e = rw (add-one, many_off takes m e, sites_off takes m e)

  pub stored_all : stored_to 16 (replicate 16 0) ≡ each 16 (λ i. site_of_process takes (i + 1))
  unfolding site_of_process sites_to
  stored_all = each-get_or 16 _ 0 (stored_to 16 (replicate 16 0)) long (λ k l. go k l (le-or (how_many takes 16) k))
    where
      rest : List ℕ
      rest = drop (how_many takes 16) (replicate 16 0)

      long : length (stored_to 16 (replicate 16 0)) ≡ 16
      long =
          length-append (sites_to takes 16) rest
          ∙ omega (
            arith,
            length_sites takes 16,
            length-drop {A = ℕ} (how_many takes 16) (replicate 16 0),
            many_bound takes 16,
          )

      go : (k : ℕ) → k < 16 → (how_many takes 16 ≤ k) ⊎ (k < how_many takes 16)
          → get_or (stored_to 16 (replicate 16 0)) k 0 ≡ get_or (sites_to takes 16) (k + 1 - 1) 0
      go k l (inr h) =
          let e : k + 1 - 1 ≡ k = omega arith in
          get_or-append (sites_to takes 16) rest 0 k (omega (arith, length_sites takes 16))
          ∙ ap (λ (i : ℕ). get_or (sites_to takes 16) i 0) (sym e)
      go k l (inl h) =
          let e : k ≡ length (sites_to takes 16) + (k - how_many takes 16) = omega (arith, length_sites takes 16) in
          ap (λ (i : ℕ). get_or (sites_to takes 16 ++ rest) i 0) e
          ∙ get_or-append-add (sites_to takes 16) rest (k - how_many takes 16) 0
          ∙ get_or-drop (how_many takes 16) (replicate 16 0) (k - how_many takes 16) 0
          ∙ get_or-replicate {A = ℕ} 16 (how_many takes 16 + (k - how_many takes 16)) 0 0 (omega arith)
          ∙ sym (get_or-eq_default (sites_to takes 16) 0 (omega (arith, length_sites takes 16)))

-- ---- a loop that stores the process of each site, over noughts
module _ (takes : ℕ → Bool) where
  abbrev pub numbers_to : ℕ → List ℕ → List ℕ
  numbers_to m l = each m (λ i. process_of_site takes (i + 1)) ++ drop m l

  pub numbers_on : (m : ℕ) (l : List ℕ) → takes (m + 1) ≡ true → m < length l
      → set (numbers_to m l) m (how_many takes (m + 1)) ≡ numbers_to (m + 1) l
  unfolding process_of_site
  numbers_on m l e h =
      ap (set (numbers_to m l) m) (sym (select_on (takes (m + 1)) (how_many takes (m + 1)) 0 e))
      ∙ each_step 0 m (λ i. process_of_site takes (i + 1)) l h

  pub numbers_off : (m : ℕ) (l : List ℕ) → takes (m + 1) ≡ false → m < length l → get_or l m 0 ≡ 0
      → numbers_to m l ≡ numbers_to (m + 1) l
  unfolding process_of_site
  numbers_off m l e h z =
      sym (set-get_or (numbers_to m l) m 0)
      ∙ ap (set (numbers_to m l) m) (there ∙ sym (select_off (takes (m + 1)) (how_many takes (m + 1)) 0 e))
      ∙ each_step 0 m (λ i. process_of_site takes (i + 1)) l h
    where
      there : get_or (numbers_to m l) m 0 ≡ 0
      there =
          rw (drop-cons l m 0 h)
          (get_or_at (each m (λ i. process_of_site takes (i + 1))) (get_or l m 0) _ 0 m (length-each m _) ∙ z)

-- tests that agree on the sites 1 to m have one list of them, and count alike
module _ (t u : ℕ → Bool) where
  pub sites_cong : (m : ℕ) → ((i : ℕ) → i < m → t (i + 1) ≡ u (i + 1)) → sites_to t m ≡ sites_to u m
  unfolding sites_to joined
  sites_cong zero h = refl
  sites_cong (suc m) h =
      ap₂ ◌++◌ (sites_cong m (λ i l. h i (omega arith))) (ap (λ b. select b ((m + 1) ∷ []) []) (h m (omega arith)))

  pub many_cong : (m : ℕ) → ((i : ℕ) → i < m → t (i + 1) ≡ u (i + 1)) → how_many t m ≡ how_many u m
  unfolding how_many
  many_cong m h = count_cong m _ _ h

  pub numbering_cong : ((i : ℕ) → i < 16 → t (i + 1) ≡ u (i + 1)) → numbering_of t ≡ numbering_of u
  unfolding numbering_of process_of_site site_of_process sites_to
  numbering_cong h = λ k. record {
    n = many_cong 16 h k;
    process_of =
        each_cong 16 _ _
        (λ i l. ap₂ (λ b n. select b n 0) (h i l) (many_cong (i + 1) (λ j d. h j (omega arith)))) k;
    site_of = each 16 (λ i. get_or (sites_cong 16 h k) (i + 1 - 1) 0);
  }
