-- Laws of the steps, which proofs cite instead of the definitions' text: a step by cases,
-- who is in which set, when a close decides, and what each step keeps (every set within the n processes,
-- the round at most t + 1, the length of `received`).
use Rattle.std.specs.Prelude.{◌≡◌, ◌≢◌, ◌⊎◌, List, [], ◌∷◌, true, false, not, ℕ, zero, suc, ◌+◌, ◌-◌, ◌^◌, ◌≤◌, ◌<◌, length, set, replicate}
use Rattle.std.proofs.Math.Path.{refl, sym}
use Rattle.std.proofs.Common.{◌∙◌, arith, length-set, get_or-set_same, get_or-set_other}
use Rattle.std.proofs.Math.Logic.{inl, inr, ⊎_elim}
use Rattle.std.proofs.Math.ListN.{get_or}
use Rattle.std.proofs.Math.Pow.{pow_pos}
use Rattle.sets.specs.Set.{has, insert_of, remove_of}
use Rattle.sets.specs.Lists.{each}
use Rattle.sets.specs.EachLaws.{each-get_or}
use Rattle.sets.specs.Truth.{◌and◌, ◌or◌, same, less, select}
use Rattle.sets.specs.TruthLaws.{Is, on, off, is, and_first, and_second, and_mk, and_cases, and_on_l, or_mk_l}
use Rattle.sets.specs.TruthLaws.{or_mk_r, or_off_l, or_none_l, or_none_r, not_on, not_off, off_by, clash}
use Rattle.sets.specs.TruthLaws.{same_on, same_mk, same_off, same_not, eq-or, select_on, select_off, select_by}
use Rattle.sets.specs.Laws.{has_insert, has_remove, has_union, has_intersection, has_difference, has_all}
use Rattle.sets.specs.Laws.{nothing_in, empty_by, all_lt, insert_lt, remove_lt, difference_lt, intersection_lt}
use Rattle.global_data.specs.declared.GlobalData.{GlobalData}
use Rattle.global_data.specs.GlobalData.{nothing_of, one_of, same_to, all_same}
use Rattle.global_data.proofs.Laws.{fill_from-lt}
use Rattle.process.specs.declared.Process.{Process}
use Rattle.process.specs.Fields.{with_received}
use Rattle.process.specs.Steps.{idle_of, has_decided, takes_part, open_round_of, start_of, keeps, receive_of}
use Rattle.process.specs.Steps.{arrived_of, due_of, next_of, peers_of, filled_of, agreed_of, closing_of}
use Rattle.process.specs.Steps.{closing_number, opens_next, decides_of, owed_of, decide_of, advance_of}
use Rattle.process.specs.Steps.{close_of, adopt_of, send_of, suspect_of}

-- ---- a step by cases

-- the set j of l, with y in it where j is `at`
abbrev pub word_of : List ℕ → ℕ → ℕ → ℕ → ℕ
word_of l at y j = select (same at j) (insert_of (get_or l j 0) y) (get_or l j 0)

-- the sets of l, with y in the one at `at`, each written anew
unfoldable pub words_with : List ℕ → ℕ → ℕ → List ℕ
words_with l at y = each 16 (word_of l at y)

module _ (l : List ℕ) (at y : ℕ) (e : length l ≡ 16) where
  -- the one at `at` changes
  pub words_set : at < 16 → words_with l at y ≡ set l at (insert_of (get_or l at 0) y)
  unfolding words_with
  words_set h =
      sym (each-get_or 16 (λ j. select (same at j) (insert_of (get_or l j 0) y) (get_or l j 0)) 0
      (set l at (insert_of (get_or l at 0) y))
      (length-set l at (insert_of (get_or l at 0) y) ∙ e) (λ k b. go k (eq-or at k)))
    where
      go : (k : ℕ) → (at ≡ k) ⊎ (at ≢ k)
          → get_or (set l at (insert_of (get_or l at 0) y)) k 0 ≡ select (same at k) (insert_of (get_or l k 0) y) (get_or l k 0)
      go k (inl p) =
          rw (select_on (same at k) (insert_of (get_or l k 0) y) (get_or l k 0) (same_mk at k p), ← p)
          (get_or-set_same l at (insert_of (get_or l at 0) y) 0 (omega arith))
      go k (inr p) =
          rw (select_off (same at k) (insert_of (get_or l k 0) y) (get_or l k 0) (same_off at k p))
          (get_or-set_other l at k (insert_of (get_or l at 0) y) 0 (λ q. p (sym q)))

  -- past the last, none does
  pub words_kept : 16 ≤ at → words_with l at y ≡ l
  unfolding words_with
  words_kept h =
      sym (each-get_or 16 (λ j. select (same at j) (insert_of (get_or l j 0) y) (get_or l j 0)) 0 l e
      (λ k b.
      sym (select_off (same at k) (insert_of (get_or l k 0) y) (get_or l k 0) (same_off at k (λ p. omega (arith, p))))))

-- step 3 with every set written anew; `at` is past the last where the estimate is not kept
pub receive_words : (y r at : ℕ) (p : Process) → length p.received ≡ 16 → r ≤ 16 → 1 ≤ r
    → at ≡ select (keeps p y r) (r - 1) 16
    → with_received (words_with p.received at y) p ≡ receive_of y r p
unfolding receive_of
receive_words y r at p e h l a = go (is (keeps p y r))
  where
    go : Is (keeps p y r) → with_received (words_with p.received at y) p ≡ receive_of y r p
    go (on k) =
        let b : at ≡ r - 1 = a ∙ select_on (keeps p y r) (r - 1) 16 k in
        rw (select_on (keeps p y r) _ p k, words_set p.received at y e (omega arith), b)
    go (off k) =
        let b : at ≡ 16 = a ∙ select_off (keeps p y r) (r - 1) 16 k in
        rw (select_off (keeps p y r) _ p k, words_kept p.received at y e (omega arith))

module _ (n t a : ℕ) (rows : ℕ → GlobalData) (p : Process) where
  pub close_on : decides_of n t a rows p ≡ true → close_of n t a rows p ≡ decide_of (filled_of a rows p) (owed_of n a p) p
  unfolding close_of
  close_on = select_on _ _ _

  pub close_off : decides_of n t a rows p ≡ false → close_of n t a rows p ≡ advance_of a (filled_of a rows p) p
  unfolding close_of
  close_off = select_off _ _ _

  pub close_by : (P : Process → Type 0)
      → (decides_of n t a rows p ≡ true → P (decide_of (filled_of a rows p) (owed_of n a p) p))
      → (decides_of n t a rows p ≡ false → P (advance_of a (filled_of a rows p) p)) → P (close_of n t a rows p)
  unfolding close_of
  close_by P = select_by P _ _ _

module _ (n a k : ℕ) (g : GlobalData) (p : Process) where
  pub adopt_on : takes_part p ≡ true → adopt_of n a k g p ≡ decide_of g (remove_of (owed_of n a p) k) p
  unfolding adopt_of
  adopt_on = select_on _ _ _

  pub adopt_off : takes_part p ≡ false → adopt_of n a k g p ≡ p
  unfolding adopt_of
  adopt_off = select_off _ _ _

  adopt_by : (P : Process → Type 0) → P (decide_of g (remove_of (owed_of n a p) k) p) → P p → P (adopt_of n a k g p)
  unfolding adopt_of
  adopt_by P x y = select_by P _ _ _ (λ e. x) (λ e. y)

-- ---- who has decided: step 6 says so, whatever the byte was, and no other step changes it
module _ (p : Process) where
  pub decide_decided : (g : GlobalData) (m : ℕ) → has_decided (decide_of g m p) ≡ true
  unfolding has_decided decide_of same
  decide_decided g m = refl

  pub open_decided : (a : ℕ) → has_decided (open_round_of a p) ≡ has_decided p
  unfolding has_decided open_round_of
  open_decided a = refl

  pub start_decided : (n a v : ℕ) → has_decided (start_of n a v p) ≡ has_decided p
  unfolding has_decided start_of open_round_of
  start_decided n a v = refl

  pub advance_decided : (a : ℕ) (g : GlobalData) → has_decided (advance_of a g p) ≡ has_decided p
  unfolding has_decided advance_of open_round_of
  advance_decided a g = refl

  pub send_decided : (b : ℕ) → has_decided (send_of b p) ≡ has_decided p
  unfolding has_decided send_of
  send_decided b = refl

  pub suspect_decided : (b : ℕ) → has_decided (suspect_of b p) ≡ has_decided p
  unfolding has_decided suspect_of
  suspect_decided b = refl

  pub receive_decided : (y r : ℕ) → has_decided (receive_of y r p) ≡ has_decided p
  unfolding has_decided receive_of
  receive_decided y r = select_by (λ (q : Process). has_decided q ≡ has_decided p) _ _ _ (λ e. refl) (λ e. refl)

-- ---- who is in which set
module _ (a : ℕ) (p : Process) (y : ℕ) where
  pub has_arrived : has (arrived_of a p) y ≡ (same y a or has (get_or p.received (p.round - 1) 0) y)
  unfolding arrived_of
  has_arrived = has_insert _ _ _

  pub has-next : has (next_of a p) y ≡ (has p.current y and has (arrived_of a p) y)
  unfolding next_of
  has-next = has_intersection _ _ _

  pub has_peers : has (peers_of a p) y ≡ (has (next_of a p) y and not (same y a))
  unfolding peers_of
  has_peers = has_remove _ _ _

  pub has_owed : (n : ℕ) → has (owed_of n a p) y ≡ ((less y n and not (same y a)) and not (has p.suspected y))
  unfolding owed_of
  has_owed n =
      rw (has_difference, has_remove, has_all)

-- a close is due exactly when each member of the current set has arrived or is suspected
module _ (a : ℕ) (p : Process) where
  pub due_on : due_of a p ≡ true → (y : ℕ) → has p.current y ≡ true
      → (has (arrived_of a p) y or has p.suspected y) ≡ true
  unfolding due_of
  due_on e y h =
      let z = sym (has_difference _ _ y) ∙ nothing_in _ (same_on _ _ e) y in
      sym (has_union _ _ y) ∙ not_off _ (sym (and_on_l _ _ h) ∙ z)

  pub due_mk : (n : ℕ) → p.current < 2 ^ n
      → ((y : ℕ) → has p.current y ≡ true → (has (arrived_of a p) y or has p.suspected y) ≡ true)
      → due_of a p ≡ true
  unfolding due_of
  due_mk n l h =
      same_mk _ _
      (empty_by n _ (difference_lt n _ _ l)
      (λ y k.
      has_difference _ _ y ∙ off_by _ (λ e. clash _ (has_union _ _ y
      ∙ h y (and_first _ _ e)) (not_on _ (and_second _ _ e)))))

-- ---- step 5: when a close decides
module _ (n t a : ℕ) (rows : ℕ → GlobalData) (p : Process) where
  -- by one ground or the other
  pub decides_is : decides_of n t a rows p ≡ (same p.round (t + 1) or agreed_of n a rows p)
  unfolding decides_of closing_of closing_number opens_next same select ◌or◌
  decides_is = go (is (same p.round (t + 1))) (is (agreed_of n a rows p))
    where
      go : Is (same p.round (t + 1)) → Is (agreed_of n a rows p)
          → decides_of n t a rows p ≡ (same p.round (t + 1) or agreed_of n a rows p)
      go (on e) (on f) = simp (e, f)
      go (on e) (off f) = simp (e, f)
      go (off e) (on f) = simp (e, f)
      go (off e) (off f) = simp (e, f)

  pub last_decides : p.round ≡ t + 1 → decides_of n t a rows p ≡ true
  last_decides e = decides_is ∙ or_mk_l _ _ (same_mk _ _ e)

  pub decides_by : p.previous ≡ next_of a p → same_to n (filled_of a rows p) p.estimate ≡ true
      → all_same 16 n (peers_of a p) rows (filled_of a rows p) ≡ true → decides_of n t a rows p ≡ true
  unfolding agreed_of
  decides_by e f g =
      decides_is ∙ or_mk_r _ _ (and_mk _ _ (same_mk _ _ e) (and_mk _ _ f g))

  -- in an earlier round it decides by the test alone
  module _ (e : decides_of n t a rows p ≡ true) (early : p.round ≢ t + 1) where
    decides_agreed : agreed_of n a rows p ≡ true
    decides_agreed = sym (decides_is ∙ or_off_l _ _ (same_off _ _ early)) ∙ e

    pub decides_set : p.previous ≡ next_of a p
    unfolding agreed_of
    decides_set = same_on _ _ (and_first _ _ decides_agreed)

    pub decides_own : same_to n (filled_of a rows p) p.estimate ≡ true
    unfolding agreed_of
    decides_own = and_first _ _ (and_second _ _ decides_agreed)

    pub decides_peers : all_same 16 n (peers_of a p) rows (filled_of a rows p) ≡ true
    unfolding agreed_of
    decides_peers = and_second _ _ (and_second _ _ decides_agreed)

  -- where it does not decide, the round is not the last, and a part of the test fails
  module _ (e : decides_of n t a rows p ≡ false) where
    neither : (same p.round (t + 1) or agreed_of n a rows p) ≡ false
    neither = sym (decides_is) ∙ e

    pub open_round : p.round ≢ t + 1
    open_round = same_not _ _ (or_none_l _ _ neither)

    pub open_test : (p.previous ≢ next_of a p)
        ⊎ ((same_to n (filled_of a rows p) p.estimate ≡ false)
        ⊎ (all_same 16 n (peers_of a p) rows (filled_of a rows p) ≡ false))
    unfolding agreed_of
    open_test = ⊎_elim (λ f. inl (same_not _ _ f)) (λ f. inr (and_cases _ _ f)) (and_cases _ _ (or_none_r _ _ neither))

-- ---- what each step keeps: every set and present mark is within the n processes, and the round is at most t + 1
pub record Within (n t : ℕ) (p : Process) : Type 0 where
  pub round : p.round ≤ t + 1
  pub previous : p.previous < 2 ^ n
  pub current : p.current < 2 ^ n
  pub suspected : p.suspected < 2 ^ n
  pub outbox : p.outbox < 2 ^ n
  pub estimate : p.estimate.present < 2 ^ n
  pub received : (k : ℕ) → get_or p.received k 0 < 2 ^ n

pub next-lt : (n a : ℕ) (p : Process) → p.current < 2 ^ n → next_of a p < 2 ^ n
unfolding next_of
next-lt n a p h = intersection_lt n _ _ h

pub owed_lt : (n a : ℕ) (p : Process) → owed_of n a p < 2 ^ n
unfolding owed_of
owed_lt n a p = difference_lt n _ _ (remove_lt n _ _ (all_lt n))

pub filled-lt : (n a : ℕ) (rows : ℕ → GlobalData) (p : Process) → ((q : ℕ) → (rows q).present < 2 ^ n)
    → p.estimate.present < 2 ^ n → (filled_of a rows p).present < 2 ^ n
unfolding filled_of
filled-lt n a rows p h e = fill_from-lt _ _ _ n 16 e (λ q l m. h q)

-- a list of words below b, with one of them replaced
set-lt : (b : ℕ) (l : List ℕ) (i v k : ℕ) → v < b → get_or l k 0 < b → get_or (set l i v) k 0 < b
set-lt b [] i v k hv h = h
set-lt b (x ∷ l) zero v zero hv h = hv
set-lt b (x ∷ l) zero v (suc k) hv h = h
set-lt b (x ∷ l) (suc i) v zero hv h = h
set-lt b (x ∷ l) (suc i) v (suc k) hv h = set-lt b l i v k hv h

zeros : (m k : ℕ) → ◌≡◌ {A = ℕ} (get_or (replicate m 0) k 0) 0
zeros zero k = refl
zeros (suc m) zero = refl
zeros (suc m) (suc k) = zeros m k

module _ (n t : ℕ) where
  pub within_idle : Within n t idle_of
  unfolding idle_of nothing_of
  within_idle =
      let z = pow_pos n in
      record {
        round = omega arith;
        previous = z;
        current = z;
        suspected = z;
        outbox = z;
        estimate = z;
        received = λ k. rw (zeros 16 k) z;
      }

  module _ (p : Process) (w : Within n t p) where
    pub within_open : (a : ℕ) → p.round ≤ t → Within n t (open_round_of a p)
    unfolding open_round_of
    within_open a h =
        record {
          round = omega arith;
          previous = w.previous;
          current = w.current;
          suspected = w.suspected;
          outbox = remove_lt n _ _ w.current;
          estimate = w.estimate;
          received = w.received;
        }

    pub within_decide : (g : GlobalData) (m : ℕ) → g.present < 2 ^ n → m < 2 ^ n → Within n t (decide_of g m p)
    unfolding decide_of
    within_decide g m hg hm =
        record {
          round = w.round;
          previous = w.previous;
          current = w.current;
          suspected = w.suspected;
          outbox = hm;
          estimate = hg;
          received = w.received;
        }

    pub within_send : (b : ℕ) → Within n t (send_of b p)
    unfolding send_of
    within_send b =
        record {
          round = w.round;
          previous = w.previous;
          current = w.current;
          suspected = w.suspected;
          outbox = remove_lt n _ _ w.outbox;
          estimate = w.estimate;
          received = w.received;
        }

    pub within_suspect : (b : ℕ) → b < n → Within n t (suspect_of b p)
    unfolding suspect_of
    within_suspect b h =
        record {
          round = w.round;
          previous = w.previous;
          current = w.current;
          suspected = insert_lt n _ _ w.suspected h;
          outbox = w.outbox;
          estimate = w.estimate;
          received = w.received;
        }

    pub within_receive : (y r : ℕ) → y < n → Within n t (receive_of y r p)
    unfolding receive_of
    within_receive y r h =
        select_by (Within n t) _ _ _
        (λ e.
        record {
          round = w.round;
          previous = w.previous;
          current = w.current;
          suspected = w.suspected;
          outbox = w.outbox;
          estimate = w.estimate;
          received = λ k. set-lt (2 ^ n) p.received _ _ k (insert_lt n _ _ (w.received (r - 1)) h) (w.received k);
        })
        (λ e. w)

    pub within_adopt : (a k : ℕ) (g : GlobalData) → g.present < 2 ^ n → Within n t (adopt_of n a k g p)
    within_adopt a k g h = adopt_by n a k g p (Within n t) (within_decide g _ h (remove_lt n _ _ (owed_lt n a p))) w

  module _ (p : Process) (w : Within n t p) where
    pub within_start : (a v : ℕ) → a < n → Within n t (start_of n a v p)
    unfolding start_of one_of
    within_start a v h =
        within_open _
        (record {
          round = omega arith;
          previous = all_lt n;
          current = difference_lt n _ _ (all_lt n);
          suspected = w.suspected;
          outbox = w.outbox;
          estimate = insert_lt n _ _ (pow_pos n) h;
          received = w.received;
        })
        a (omega arith)

    within_advance : (a : ℕ) (g : GlobalData) → g.present < 2 ^ n → p.round ≤ t → Within n t (advance_of a g p)
    unfolding advance_of
    within_advance a g h l =
        within_open _
        (record {
          round = w.round;
          previous = w.current;
          current = next-lt n a p w.current;
          suspected = w.suspected;
          outbox = w.outbox;
          estimate = h;
          received = w.received;
        })
        a l

    pub within_close : (a : ℕ) (rows : ℕ → GlobalData) → ((q : ℕ) → (rows q).present < 2 ^ n)
        → Within n t (close_of n t a rows p)
    within_close a rows h =
        close_by n t a rows p (Within n t)
        (λ e. within_decide p w _ _ (filled-lt n a rows p h w.estimate) (owed_lt n a p))
        (λ e. within_advance a _ (filled-lt n a rows p h w.estimate) (omega (arith, open_round n t a rows p e)))

-- ---- `received` keeps its length
abbrev Kept : Process → Process → Type 0
Kept p q = length q.received ≡ length p.received

pub idle_length : length idle_of.received ≡ 16
unfolding idle_of
idle_length = refl

module _ (p : Process) where
  pub open_length : (a : ℕ) → Kept p (open_round_of a p)
  unfolding open_round_of
  open_length a = refl

  pub start_length : (n a v : ℕ) → Kept p (start_of n a v p)
  unfolding start_of open_round_of
  start_length n a v = refl

  pub receive_length : (y r : ℕ) → Kept p (receive_of y r p)
  unfolding receive_of
  receive_length y r = select_by (Kept p) _ _ _ (λ e. simp length-set) (λ e. refl)

  pub decide_length : (g : GlobalData) (m : ℕ) → Kept p (decide_of g m p)
  unfolding decide_of
  decide_length g m = refl

  pub close_length : (n t a : ℕ) (rows : ℕ → GlobalData) → Kept p (close_of n t a rows p)
  unfolding advance_of open_round_of
  close_length n t a rows = close_by n t a rows p (Kept p) (λ e. decide_length _ _) (λ e. refl)

  pub adopt_length : (n a k : ℕ) (g : GlobalData) → Kept p (adopt_of n a k g p)
  adopt_length n a k g = adopt_by n a k g p (Kept p) (decide_length _ _) refl

  pub send_length : (b : ℕ) → Kept p (send_of b p)
  unfolding send_of
  send_length b = refl

  pub suspect_length : (b : ℕ) → Kept p (suspect_of b p)
  unfolding suspect_of
  suspect_length b = refl
