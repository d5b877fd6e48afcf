-- Laws of a sound bench: soundness as bounds, both ways, and that every record keeps it.
-- A list is sound when each of its entries is, and a stored entry is: so each step is shown for the one process,
-- row or set that it stores.
use Rattle.std.specs.Prelude.{◌≡◌, Bool, true, false, get_or, set, replicate}
use Rattle.std.proofs.Math.Path.{refl}
use Rattle.std.proofs.Common.{⊎_elim, arith, pow_pos}
use mathlib.Core.List.{List, [], ◌∷◌}
use Prim.Native.Nat.{ℕ, zero, suc, ◌^◌, ◌≤◌, ◌<◌}
use Rattle.sets.specs.Laws.{insert_lt, remove_lt}
use Rattle.sets.specs.Truth.{◌and◌, less, one_to}
use Rattle.sets.specs.TruthLaws.{Is, on, off, is, clash, select_on, select_off, and_first, and_second, and_mk}
use Rattle.sets.specs.TruthLaws.{and_on_r, less_on, less_mk, one_low, one_high, one_mk, eq-or}
use Rattle.global_data.specs.declared.GlobalData.{GlobalData}
use Rattle.global_data.specs.GlobalData.{no_data, nothing_of}
use Rattle.process.specs.declared.Process.{Process}
use Rattle.process.specs.Steps.{has_decided, no_process, idle_of, receive_of, adopt_of, send_of}
use Rattle.process.specs.Laws.{Within, within_idle, within_start, within_send}
use Rattle.process.specs.Laws.{within_receive, within_adopt, within_close, within_suspect}
use Rattle.bench.specs.declared.Bench.{Bench}
use Rattle.bench.specs.declared.Message.TheVariants.{Estimate, Decision}
use Rattle.bench.specs.declared.Event.{Event}
use Rattle.bench.specs.declared.Event.TheVariants.{Start, Send, Arrive, Close, Crash, Suspect}
use Rattle.bench.specs.State.{process_at, sent_at, transit_at, with_process}
use Rattle.bench.specs.State.{with_sent, with_transit, with_crashed, opened_of}
use Rattle.bench.specs.Sound.{opens, sound_data, sound_process, sound_of}
use Rattle.sets.specs.Lists.{every_in}
use Rattle.sets.specs.Set.{within}
use Rattle.bench.proofs.RecordLaws.{InRange}
use Rattle.bench.specs.Refuse.{refusal}
use Rattle.bench.proofs.RefuseLaws.{refused-keeps, accepted}
use Rattle.bench.specs.Effect.{opens_round, rows_at, sends, arrives, closes_as, effect}
use Rattle.bench.specs.Calls.{after_record}
use Rattle.bench.specs.SoundLaws.{sound_parts}

-- ---- lists: what holds of each entry, and of what stands outside
module _ {A : Type 0} where
  pub every_on : (p : A → Bool) (d : A) (l : List A) → p d ≡ true → every_in p l ≡ true → (i : ℕ)
      → p (get_or l i d) ≡ true
  unfolding every_in
  every_on p d [] h e i = h
  every_on p d (x ∷ l) h e zero = and_first (p x) (every_in p l) e
  every_on p d (x ∷ l) h e (suc i) = every_on p d l h (and_second (p x) (every_in p l) e) i

  pub every_mk : (p : A → Bool) (d : A) (l : List A) → ((i : ℕ) → p (get_or l i d) ≡ true) → every_in p l ≡ true
  unfolding every_in
  every_mk p d [] h = refl
  every_mk p d (x ∷ l) h = and_mk (p x) (every_in p l) (h zero) (every_mk p d l (λ i. h (suc i)))

  -- each entry after one is stored
  pub each_set : (P : A → Type 0) (d : A) (l : List A) (j : ℕ) (v : A) → ((i : ℕ) → P (get_or l i d)) → P v
      → (i : ℕ) → P (get_or (set l j v) i d)
  each_set P d [] j v h w i = h i
  each_set P d (x ∷ l) zero v h w zero = w
  each_set P d (x ∷ l) zero v h w (suc i) = h (suc i)
  each_set P d (x ∷ l) (suc j) v h w zero = h zero
  each_set P d (x ∷ l) (suc j) v h w (suc i) = each_set P d l j v (λ k. h (suc k)) w i

  pub each-replicate : (P : A → Type 0) (d : A) (n : ℕ) (v : A) → P d → P v → (i : ℕ) → P (get_or (replicate n v) i d)
  each-replicate P d zero v h w i = h
  each-replicate P d (suc n) v h w zero = w
  each-replicate P d (suc n) v h w (suc i) = each-replicate P d n v h w i

-- five tests, of which the fourth is made last
swap_off : (a b c d e : Bool) → (a and (b and (c and e))) ≡ false → (a and (b and (c and (d and e)))) ≡ false
unfolding ◌and◌
swap_off true true true true e p = p
swap_off true true true false e p = refl
swap_off true true false d e p = refl
swap_off true false c d e p = refl
swap_off false b c d e p = refl

swap_on : (a b c d e : Bool) → (a and (b and (c and e))) ≡ true → (a and (b and (c and (d and e)))) ≡ d
unfolding ◌and◌
swap_on true true true d e p = and_on_r d e p
swap_on true true false d e p = clash false p refl
swap_on true false c d e p = clash false p refl
swap_on false b c d e p = clash false p refl

-- ---- sizes that open
module _ (n t : ℕ) where
  pub open_some : opens n t ≡ true → 0 < n
  unfolding opens
  open_some e = one_low 16 n (and_first (one_to 16 n) (less t n) e)

  pub open_few : opens n t ≡ true → n < 17
  unfolding opens
  open_few e = omega (arith, one_high 16 n (and_first (one_to 16 n) (less t n) e))

  pub open_limit : opens n t ≡ true → t < n
  unfolding opens
  open_limit e = less_on t n (and_second (one_to 16 n) (less t n) e)

  pub open_mk : 0 < n → n < 17 → t < n → opens n t ≡ true
  unfolding opens
  open_mk l h m = and_mk (one_to 16 n) (less t n) (one_mk 16 n l (omega arith)) (less_mk t n m)

pub parts_small : (n t crashed : ℕ) (processes : List Process) (words : List ℕ)
    → sound_parts n t crashed processes words ≡ true → n ≤ 16
unfolding sound_parts
parts_small n t crashed processes words e = omega (arith, open_few n t (and_first _ _ e))

module _ (b : Bench) where
  abbrev parts : Bool
  parts = sound_parts b.n b.t b.crashed b.processes b.in_transit

  pub sound_off : parts ≡ false → sound_of b ≡ false
  unfolding sound_parts sound_of
  sound_off e = swap_off _ _ _ _ _ e

  pub sound_rows : parts ≡ true → sound_of b ≡ every_in (sound_data b.n) b.sent
  unfolding sound_parts sound_of
  sound_rows e = swap_on _ _ _ _ _ e

-- ---- soundness as bounds; those of one process are `Within` of process
pub record Bounds (s : Bench) : Type 0 where
  pub some : 0 < s.n
  pub few : s.n < 17
  pub limit : s.t < s.n
  pub crashed : s.crashed < 2 ^ s.n
  pub process : (a : ℕ) → Within s.n s.t (get_or s.processes a no_process)
  pub sent : (i : ℕ) → (get_or s.sent i no_data).present < 2 ^ s.n
  pub transit : (i : ℕ) → get_or s.in_transit i 0 < 2 ^ s.n

-- a set within n
pub within_on : (n m : ℕ) → within n m ≡ true → m < 2 ^ n
unfolding within
within_on n m e = less_on m (2 ^ n) e

pub within_mk : (n m : ℕ) → m < 2 ^ n → within n m ≡ true
unfolding within
within_mk n m h = less_mk m (2 ^ n) h

none_low : (n : ℕ) → 0 < 2 ^ n
none_low n = pow_pos n

pub process_on : (n t : ℕ) (p : Process) → sound_process n t p ≡ true → Within n t p
unfolding sound_process sound_data
process_on n t p e =
    let e1 = and_second _ _ e in
    let e2 = and_second _ _ e1 in
    let e3 = and_second _ _ e2 in
    let e4 = and_second _ _ e3 in
    let e5 = and_second _ _ e4 in
    record {
      round = let h = less_on _ _ (and_first _ _ e) in omega arith;
      previous = within_on _ _ (and_first _ _ e1);
      current = within_on _ _ (and_first _ _ e2);
      suspected = within_on _ _ (and_first _ _ e3);
      outbox = within_on _ _ (and_first _ _ e4);
      estimate = within_on _ _ (and_first _ _ e5);
      received =
          λ i. within_on _ _ (every_on (within n) 0 p.received (within_mk n 0 (none_low n)) (and_second _ _ e5) i);
    }

pub process_mk : (n t : ℕ) (p : Process) → Within n t p → sound_process n t p ≡ true
unfolding sound_process sound_data
process_mk n t p b =
    and_mk _ _ (less_mk _ _ (omega (arith, b.round)))
    (and_mk _ _ (within_mk _ _ b.previous)
    (and_mk _ _ (within_mk _ _ b.current)
    (and_mk _ _ (within_mk _ _ b.suspected)
    (and_mk _ _ (within_mk _ _ b.outbox)
    (and_mk _ _ (within_mk _ _ b.estimate)
    (every_mk (within n) 0 p.received (λ i. within_mk _ _ (b.received i))))))))

-- what stands outside the array of processes
no_process_lem : (n t : ℕ) → Within n t no_process
no_process_lem n t =
    let z = none_low n in
    record {
      round = omega arith;
      previous = z;
      current = z;
      suspected = z;
      outbox = z;
      estimate = z;
      received = λ k. z;
    }

pub sound_on : (s : Bench) → sound_of s ≡ true → Bounds s
unfolding sound_of sound_data
sound_on s e =
    let o = and_first _ _ e in
    let e1 = and_second _ _ e in
    let e2 = and_second _ _ e1 in
    let e3 = and_second _ _ e2 in
    record {
      some = open_some _ _ o;
      few = open_few _ _ o;
      limit = open_limit _ _ o;
      crashed = within_on _ _ (and_first _ _ e1);
      process =
          λ a. process_on _ _ _
          (every_on (sound_process s.n s.t) no_process s.processes (process_mk _ _ _ (no_process_lem s.n s.t))
          (and_first _ _ e2) a);
      sent =
          λ i. within_on _ _
          (every_on (sound_data s.n) no_data s.sent (within_mk _ 0 (none_low s.n)) (and_first _ _ e3) i);
      transit =
          λ i. within_on _ _
          (every_on (within s.n) 0 s.in_transit (within_mk _ 0 (none_low s.n)) (and_second _ _ e3) i);
    }

pub sound_mk : (s : Bench) → Bounds s → sound_of s ≡ true
unfolding sound_of sound_data
sound_mk s b =
    and_mk _ _ (open_mk _ _ b.some b.few b.limit)
    (and_mk _ _ (within_mk _ _ b.crashed)
    (and_mk _ _ (every_mk (sound_process s.n s.t) no_process s.processes (λ a. process_mk _ _ _ (b.process a)))
    (and_mk _ _ (every_mk (sound_data s.n) no_data s.sent (λ i. within_mk _ _ (b.sent i)))
    (every_mk (within s.n) 0 s.in_transit (λ i. within_mk _ _ (b.transit i))))))

-- ---- the bench with one part changed
module _ (s : Bench) (b : Bounds s) where
  pub process_low : (a : ℕ) → Within s.n s.t (process_at s a)
  unfolding process_at
  process_low a = b.process a

  pub sent_low : (a r : ℕ) → (sent_at s a r).present < 2 ^ s.n
  unfolding sent_at
  sent_low a r = b.sent _

  pub transit_low : (a r : ℕ) → transit_at s a r < 2 ^ s.n
  unfolding transit_at
  transit_low a r = b.transit _

  with_process_lem : (a : ℕ) (p : Process) → Within s.n s.t p → Bounds (with_process s a p)
  unfolding with_process
  with_process_lem a p h =
      record {
        some = b.some;
        few = b.few;
        limit = b.limit;
        crashed = b.crashed;
        process = each_set (Within s.n s.t) no_process s.processes a p b.process h;
        sent = b.sent;
        transit = b.transit;
      }

  with_sent_lem : (a r : ℕ) (g : GlobalData) → g.present < 2 ^ s.n → Bounds (with_sent s a r g)
  unfolding with_sent
  with_sent_lem a r g h =
      record {
        some = b.some;
        few = b.few;
        limit = b.limit;
        crashed = b.crashed;
        process = b.process;
        sent = each_set (λ (x : GlobalData). x.present < 2 ^ s.n) no_data s.sent _ g b.sent h;
        transit = b.transit;
      }

  with_transit_lem : (a r m : ℕ) → m < 2 ^ s.n → Bounds (with_transit s a r m)
  unfolding with_transit
  with_transit_lem a r m h =
      record {
        some = b.some;
        few = b.few;
        limit = b.limit;
        crashed = b.crashed;
        process = b.process;
        sent = b.sent;
        transit = each_set (λ x. x < 2 ^ s.n) 0 s.in_transit _ m b.transit h;
      }

  with_crashed_lem : (a : ℕ) → a < s.n → Bounds (with_crashed s a)
  unfolding with_crashed
  with_crashed_lem a h =
      record {
        some = b.some;
        few = b.few;
        limit = b.limit;
        crashed = insert_lt s.n s.crashed a b.crashed h;
        process = b.process;
        sent = b.sent;
        transit = b.transit;
      }

opens_low : (s : Bench) → Bounds s → (a : ℕ) (p : Process) → Within s.n s.t p → Bounds (opens_round s a p)
unfolding opens_round with_process
opens_low s b a p h = with_sent_lem (with_process s a p) (with_process_lem s b a p h) a p.round p.estimate h.estimate

sends_low : (s : Bench) → Bounds s → (a r y : ℕ) → y < s.n → Bounds (sends s a r y)
unfolding sends
sends_low s b a r y h = with_transit_lem s b a r _ (insert_lt s.n (transit_at s a r) y (transit_low s b a r) h)

arrives_low : (s : Bench) → Bounds s → (a r y : ℕ) → Bounds (arrives s a r y)
unfolding arrives
arrives_low s b a r y = with_transit_lem s b a r _ (remove_lt s.n (transit_at s a r) y (transit_low s b a r))

closes_low : (s : Bench) → Bounds s → (a : ℕ) (p : Process) → Within s.n s.t p → Bounds (closes_as s a p)
unfolding closes_as
closes_low s b a p h = go (is (has_decided p))
  where
    go : Is (has_decided p) → Bounds (closes_as s a p)
    go (on e) = rw (select_on (has_decided p) _ (opens_round s a p) e) (with_process_lem s b a p h)
    go (off e) = rw (select_off (has_decided p) (with_process s a p) _ e) (opens_low s b a p h)

rows_low : (s : Bench) → Bounds s → (r y : ℕ) → (rows_at s r y).present < 2 ^ s.n
unfolding rows_at
rows_low s b r y = sent_low s b y r

-- ---- every event in range keeps the bounds
effect_low : (s : Bench) → Bounds s → (e : Event) → InRange s.n s.t e → Bounds (effect e s)
unfolding effect InRange with_process
effect_low s b (Start a v) h = opens_low s b a _ (within_start s.n s.t _ (process_low s b a) a v h)
effect_low s b (Send a y) h =
    sends_low (with_process s a (send_of y (process_at s a)))
    (with_process_lem s b a _ (within_send s.n s.t _ (process_low s b a) y)) a _ y h.second
effect_low s b (Arrive a y (Estimate r)) h =
    arrives_low (with_process s y (receive_of a r (process_at s y)))
    (with_process_lem s b y _ (within_receive s.n s.t _ (process_low s b y) a r h.0.first)) a r y
effect_low s b (Arrive a y Decision) h =
    arrives_low (with_process s y (adopt_of s.n y a (process_at s a).estimate (process_at s y)))
    (with_process_lem s b y _ (within_adopt s.n s.t _ (process_low s b y) y a _ (process_low s b a).estimate)) a 0 y
effect_low s b (Close a) h =
    closes_low s b a _ (within_close s.n s.t _ (process_low s b a) a _ (λ y. rows_low s b _ y))
effect_low s b (Crash a) h = with_crashed_lem s b a h
effect_low s b (Suspect a y) h =
    with_process_lem s b a _ (within_suspect s.n s.t _ (process_low s b a) y h.second)

-- ---- every event leaves the sizes
pub record SameSizes (s s' : Bench) : Type 0 where
  pub n : s'.n ≡ s.n
  pub t : s'.t ≡ s.t

closes_sizes : (s : Bench) (a : ℕ) (p : Process) → SameSizes s (closes_as s a p)
unfolding closes_as opens_round with_process with_sent
closes_sizes s a p = go (is (has_decided p))
  where
    go : Is (has_decided p) → SameSizes s (closes_as s a p)
    go (on e) = rw (select_on (has_decided p) _ (opens_round s a p) e) (record { n = refl; t = refl })
    go (off e) = rw (select_off (has_decided p) (with_process s a p) _ e) (record { n = refl; t = refl })

pub effect_sizes : (e : Event) (s : Bench) → SameSizes s (effect e s)
unfolding effect opens_round sends arrives with_process with_sent with_transit with_crashed
effect_sizes (Start a v) s = record { n = refl; t = refl }
effect_sizes (Send a y) s = record { n = refl; t = refl }
effect_sizes (Arrive a y (Estimate r)) s = record { n = refl; t = refl }
effect_sizes (Arrive a y Decision) s = record { n = refl; t = refl }
effect_sizes (Close a) s = closes_sizes s a _
effect_sizes (Crash a) s = record { n = refl; t = refl }
effect_sizes (Suspect a y) s = record { n = refl; t = refl }

-- ---- every event in range, and so every record, keeps a bench sound, and an opened one is
pub sound_effect : (s : Bench) → sound_of s ≡ true → (e : Event) → InRange s.n s.t e → sound_of (effect e s) ≡ true
sound_effect s h e r = sound_mk _ (effect_low s (sound_on s h) e r)

pub sound_step : (s : Bench) (l : List ℕ) → sound_of s ≡ true → sound_of (after_record s l) ≡ true
sound_step s l h = ⊎_elim taken (λ r. rw (refused-keeps s l r) h) (eq-or (refusal s l) 0)
  where
    taken : refusal s l ≡ 0 → sound_of (after_record s l) ≡ true
    taken z =
        let w = accepted s l z in
        rw w.effects (sound_effect s h w.event w.range)

pub sizes_step : (s : Bench) (l : List ℕ) → SameSizes s (after_record s l)
sizes_step s l = ⊎_elim taken (λ r. rw (refused-keeps s l r) (record { n = refl; t = refl })) (eq-or (refusal s l) 0)
  where
    taken : refusal s l ≡ 0 → SameSizes s (after_record s l)
    taken z = let w = accepted s l z in rw w.effects (effect_sizes w.event s)

pub sound_opened : (n t : ℕ) → opens n t ≡ true → sound_of (opened_of n t) ≡ true
unfolding opened_of nothing_of
sound_opened n t e =
    sound_mk (opened_of n t)
    (record {
      some = open_some n t e;
      few = open_few n t e;
      limit = open_limit n t e;
      crashed = none_low n;
      process = each-replicate (Within n t) no_process 16 idle_of (no_process_lem n t) (within_idle n t);
      sent = each-replicate (λ (x : GlobalData). x.present < 2 ^ n) no_data 256 nothing_of (none_low n) (none_low n);
      transit = each-replicate (λ x. x < 2 ^ n) 0 272 0 (none_low n) (none_low n);
    })
