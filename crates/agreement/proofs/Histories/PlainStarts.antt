-- Carrying what a history left is refused by 16 exactly where one of its starts has a value above 65,535. Without one
-- no entry of the bench is above it, since every event keeps it so; one that was accepted is still what its process
-- sent in round 1. By induction along the history.
use Rattle.std.specs.Prelude.{◌≡◌, refl, Some, List, [], ◌∷◌, ◌++◌, Bool, true, false, ℕ, ◌≤◌, ◌<◌}
use Rattle.std.proofs.Common.{sym, ◌∙◌, ⊎_elim}
use Rattle.std.proofs.Math.Path.{ap}
use native.Mathlib.Omega.{arith}
use Rattle.sets.specs.Lists.{every_in}
use Rattle.sets.specs.Truth.{◌and◌, select}
use Rattle.sets.specs.TruthLaws.{Is, on, off, is, clash, select_on, select_off, and_first, and_second, and_cases}
use Rattle.sets.specs.TruthLaws.{off_by, same_on, same_refl, less_mk, less-not, le-or}
use Rattle.global_data.specs.GlobalData.{value_in, entry_of}
use Rattle.global_data.proofs.Laws.{entry_present, not_both, or_entry_absent, or_entry_value}
use Rattle.bench.specs.declared.Event.{Event}
use Rattle.bench.specs.declared.Event.TheVariants.{Start, Send, Arrive, Close, Crash, Suspect}
use Rattle.bench.specs.State.{process_at, sent_at}
use Rattle.bench.proofs.SoundLaws.{sound_on}
use Rattle.bench.proofs.RecordLaws.{InRange}
use Rattle.bench.proofs.RefuseLaws.{passes_on}
use Rattle.bench.specs.Refuse.{passes7}
use Rattle.bench.specs.Carry.{plain_bench, carry_refusal, plain_start}
use Rattle.bench.proofs.CarryLaws.{carry_large, carry_plain, PlainBench, bench_on, bench_mk, plain_opened, plain_effect}
use Rattle.bench.specs.Calls.{after_events}
use Rattle.agreement.specs.Statement.History.{after_history, started_with}
use Rattle.agreement.specs.Bridge.BenchView.{row_of, view_of}
use Rattle.agreement.specs.Histories.Append.{started_append}
use Rattle.agreement.specs.Histories.Replay.{Next, reached_next, reached_sizes, sizes_to}
use Rattle.agreement.specs.Histories.InvariantsHold.{Along}
use Rattle.agreement.proofs.Histories.HistoryMatchesBench.{Told}

-- a process started with a value above 65,535
pub record Large (h : List Event) : Type 0 where
  pub who : ℕ
  pub value : ℕ
  pub exceeds : 65536 ≤ value
  pub started : started_with h who ≡ Some (value_in value)

pub record Starts (n t : ℕ) (h : List Event) : Type 0 where
  pub plain : every_in plain_start h ≡ true → PlainBench (after_history n t h)
  pub large : every_in plain_start h ≡ false → Large h

pub starts_opened : (n t : ℕ) → Starts n t []
unfolding after_history after_events every_in
starts_opened n t = record { plain = λ e. plain_opened n t; large = λ e. clash true refl e }

-- an event that is not plain is a start
large_start : (e : Event) → plain_start e ≡ false → (a v : ℕ) × (e ≡ Start a v) × (65536 ≤ v)
unfolding plain_start
large_start (Start a v) f = (a, v, refl, less-not v 65536 f)
large_start (Send a b) f = clash true refl f
large_start (Arrive a b m) f = clash true refl f
large_start (Close a) f = clash true refl f
large_start (Crash a) f = clash true refl f
large_start (Suspect a b) f = clash true refl f

pub every_append : {A : Type 0} (p : A → Bool) (h : List A) (e : A) → every_in p (h ++ (e ∷ [])) ≡ (every_in p h and p e)
unfolding every_in ◌and◌
every_append p [] e = go (p e)
  where
    go : (b : Bool) → (b and true) ≡ b
    go true = refl
    go false = refl
every_append p (x ∷ h) e = ap (λ b. p x and b) (every_append p h e) ∙ go (p x)
  where
    go : (b : Bool) → (b and (every_in p h and p e)) ≡ ((b and every_in p h) and p e)
    go true = refl
    go false = refl

module _ (n t : ℕ) (h : List Event) (e : Event) (N : Next n t h e) (T : Told n t h) (S : Starts n t h) where
  keeps_plain : every_in plain_start (h ++ (e ∷ [])) ≡ true → PlainBench (after_history n t (h ++ (e ∷ [])))
  keeps_plain f =
      let q = sym (every_append plain_start h e) ∙ f in
      let B = sound_on (after_history n t h) N.sound in
      rw (reached_next n t h e)
      (plain_effect (after_history n t h) (omega (arith, B.few)) (S.plain (and_first _ _ q)) e
      (sizes_to n t h (λ m u. InRange m u e) N.range) (and_second _ _ q))

  -- one that stands there already stays; a new one is the first of its process
  stays : Large h → Large (h ++ (e ∷ []))
  stays L =
      record {
        who = L.who;
        value = L.value;
        exceeds = L.exceeds;
        started = started_append h (e ∷ []) L.who ∙ or_entry_value _ _ _ L.started;
      }

  begins : (a v : ℕ) → e ≡ Start a v → 65536 ≤ v → Large (h ++ (e ∷ []))
  unfolding started_with passes7
  begins a v q l =
      let z = same_on _ 0 (passes_on (Start a v) (after_history n t h) (rw q at N.passes)).pass7 in
      record {
        who = a;
        value = v;
        exceeds = l;
        started =
            started_append h (e ∷ []) a ∙ or_entry_absent _ _ ((T.begun a).unstarted z)
            ∙ ap (λ x. started_with (x ∷ []) a) q ∙ select_on _ _ _ (same_refl a);
      }

  comes : plain_start e ≡ false → Large (h ++ (e ∷ []))
  comes f = let (a, v, q, l) = large_start e f in begins a v q l

  pub starts_next : Starts n t (h ++ (e ∷ []))
  starts_next =
      record {
        plain = keeps_plain;
        large = λ f. ⊎_elim (λ g. stays (S.large g)) comes (and_cases _ _ (sym (every_append plain_start h e) ∙ f));
      }

module _ (n t : ℕ) (h : List Event) (A : Along n t h) (T : Told n t h) (S : Starts n t h) where
  -- who has a value has started
  begun : (k v : ℕ) → started_with h k ≡ Some (value_in v) → 1 ≤ (process_at (after_history n t h) k).round
  begun k v e = ⊎_elim (λ l. l) no (le-or 1 (process_at (after_history n t h) k).round)
    where
      no : (process_at (after_history n t h) k).round < 1 → 1 ≤ (process_at (after_history n t h) k).round
      no l = absurd (not_both (started_with h k) _ ((T.begun k).unstarted (omega arith)) e)

  -- what it sent in round 1 has its own entry, the value of its start
  shown : (k v : ℕ) → started_with h k ≡ Some (value_in v)
      → entry_of (sent_at (after_history n t h) k 1) k ≡ Some (value_in v)
  unfolding view_of row_of
  shown k v e =
      let p = process_at (after_history n t h) k in
      let row = sent_at (after_history n t h) k 1 in
      let l = begun k v e in
      let first = select_on _ row p.estimate (less_mk 0 p.round l) in
      let own = A.fit.good.estimates.own k 0 (omega arith) in
      entry_present row k (rw first at own) ∙ (rw first at (sym ((T.begun k).started l))) ∙ e

  not_plain : Large h → plain_bench (after_history n t h) ≡ false
  unfolding sent_at view_of
  not_plain L =
      off_by _ (λ p.
      let low : L.who < 16 = omega (
        arith,
        A.fit.good.basic.low L.who (begun L.who L.value L.started),
        (sound_on (after_history n t h) A.sound).few,
        (reached_sizes n t h).0,
      ) in
      omega (
        arith,
        L.exceeds,
        (bench_on (after_history n t h) p).sent _ L.who L.value low (shown L.who L.value L.started),
      ))

  pub carry_history : carry_refusal (after_history n t h) ≡ select (every_in plain_start h) 0 16
  carry_history = go (is (every_in plain_start h))
    where
      go : Is (every_in plain_start h) → carry_refusal (after_history n t h) ≡ select (every_in plain_start h) 0 16
      go (on e) =
          carry_plain (after_history n t h) A.sound (bench_mk (after_history n t h) (S.plain e))
          ∙ sym (select_on _ _ _ e)
      go (off e) = carry_large (after_history n t h) A.sound (not_plain (S.large e)) ∙ sym (select_off _ _ _ e)
