-- A history grows at its end: what each reading of a history gives of one history followed by another,
-- by induction on the first.
use Rattle.std.specs.Prelude.{◌≡◌, refl, List, [], ◌∷◌, ◌++◌, Bool, true, false, ◌⊎◌, ℕ, ◌+◌, Option, Some, None, is_some}
use Rattle.std.specs.Option.{option_or, option_map_or}
use Rattle.std.proofs.Common.{sym, ap, ◌∙◌, inl, inr, arith}
use Rattle.std.specs.Option.{option_or}
use Rattle.sets.specs.Truth.{◌and◌, ◌or◌, same, select}
use Rattle.sets.specs.TruthLaws.{Is, on, off, is, clash, select_on, or_none_l, or_none_r, or_cases, same_refl}
use Rattle.global_data.specs.declared.GlobalData.{GlobalData}
use Rattle.global_data.specs.GlobalData.{value_in}
use Rattle.process.specs.declared.Process.{Process}
use Rattle.process.specs.Steps.{has_decided, close_of}
use Rattle.bench.specs.declared.Bench.{Bench}
use Rattle.bench.specs.declared.Message.TheVariants.{Estimate, Decision}
use Rattle.bench.specs.declared.Event.{Event}
use Rattle.bench.specs.declared.Event.TheVariants.{Start, Send, Arrive, Close, Crash, Suspect}
use Rattle.bench.specs.State.{process_at, with_process, with_sent, with_transit, with_crashed}
use Rattle.bench.specs.Effect.{opens_round, rows_at, sends, arrives, closes_as, effect}
use Rattle.bench.specs.Calls.{after_events}
use Rattle.bench.specs.Refuse.{actor, is_crash}
use Rattle.agreement.specs.Statement.History.{decides_at, outcome, before_decision}
use Rattle.agreement.specs.Statement.History.{started_with, crashed_in, crash_count, rounds}

-- ---- the bench
pub over_append : (s : Bench) (h g : List Event) → after_events s (h ++ g) ≡ after_events (after_events s h) g
unfolding after_events
over_append s [] g = refl
over_append s (e ∷ h) g = over_append (effect e s) h g

-- no record changes n or t
pub effect_sizes : (e : Event) (s : Bench) → ((effect e s).n ≡ s.n) × ((effect e s).t ≡ s.t)
unfolding effect opens_round sends arrives closes_as with_process with_sent with_transit with_crashed select
effect_sizes (Start a v) s = (refl, refl)
effect_sizes (Send a b) s = (refl, refl)
effect_sizes (Arrive a b (Estimate r)) s = (refl, refl)
effect_sizes (Arrive a b Decision) s = (refl, refl)
effect_sizes (Close a) s = go (close_of s.n s.t a (rows_at s (process_at s a).round) (process_at s a)) (is _)
  where
    go : (p : Process) → Is (has_decided p) → ((closes_as s a p).n ≡ s.n) × ((closes_as s a p).t ≡ s.t)
    go p (on d) = rw d (refl, refl)
    go p (off d) = rw d (refl, refl)
effect_sizes (Crash a) s = (refl, refl)
effect_sizes (Suspect a b) s = (refl, refl)

pub over_sizes : (s : Bench) (h : List Event) → ((after_events s h).n ≡ s.n) × ((after_events s h).t ≡ s.t)
unfolding after_events
over_sizes s [] = (refl, refl)
over_sizes s (e ∷ h) =
    let E = effect_sizes e s in
    let H = over_sizes (effect e s) h in
    (H.0 ∙ E.0, H.1 ∙ E.1)

-- ---- outcomes
-- on what a record decides x
unfoldable pub decides_for : Event → Bench → ℕ → Option GlobalData
decides_for e s x = select (same (actor e) x) (decides_at e s) None

-- it is the crash of k
abbrev pub is_crash_of : Event → ℕ → Bool
is_crash_of e k = is_crash e and same (actor e) k

first_assoc : (a b c : Option GlobalData) → option_or (option_or a b) c ≡ option_or a (option_or b c)
first_assoc None b c = refl
first_assoc (Some g) b c = refl

pub first_none : (o : Option GlobalData) → option_or o None ≡ o
first_none None = refl
first_none (Some g) = refl

pub outcome-append : (s : Bench) (h g : List Event) (x : ℕ)
    → outcome s (h ++ g) x ≡ option_or (outcome s h x) (outcome (after_events s h) g x)
unfolding after_events outcome decides_for
outcome-append s [] g x = refl
outcome-append s (e ∷ h) g x =
    ap (option_or (decides_for e s x)) (outcome-append (effect e s) h g x)
    ∙ sym (first_assoc (decides_for e s x) (outcome (effect e s) h x) (outcome (after_events (effect e s) h) g x))

-- ---- rounds, crashes and starts
pub rounds-append : (s : Bench) (h g : List Event) (x : ℕ)
    → rounds s (h ++ g) x ≡ rounds s h x + rounds (after_events s h) g x
unfolding after_events rounds
rounds-append s [] g x = omega arith
rounds-append s (e ∷ h) g x = omega (arith, rounds-append (effect e s) h g x)

or_regroup : (a b c : Bool) → (a or (b or c)) ≡ ((a or b) or c)
unfolding ◌or◌
or_regroup true b c = refl
or_regroup false b c = refl

pub crashed_append : (h g : List Event) (k : ℕ) → crashed_in (h ++ g) k ≡ (crashed_in h k or crashed_in g k)
unfolding crashed_in ◌or◌
crashed_append [] g k = refl
crashed_append (e ∷ h) g k =
    ap (λ (b : Bool). is_crash_of e k or b) (crashed_append h g k)
    ∙ or_regroup (is_crash_of e k) (crashed_in h k) (crashed_in g k)

pub crashes_append : (h g : List Event) → crash_count (h ++ g) ≡ crash_count h + crash_count g
unfolding crash_count
crashes_append [] g = omega arith
crashes_append (e ∷ h) g = omega (arith, crashes_append h g)

pub started_append : (h g : List Event) (k : ℕ)
    → started_with (h ++ g) k ≡ option_or (started_with h k) (started_with g k)
unfolding started_with select
started_append [] g k = refl
started_append (Start a v ∷ h) g k = go (same a k) (started_append h g k)
  where
    go : (b : Bool) → started_with (h ++ g) k ≡ option_or (started_with h k) (started_with g k)
        → select b (Some (value_in v)) (started_with (h ++ g) k)
        ≡ option_or (select b (Some (value_in v)) (started_with h k)) (started_with g k)
    go true ih = refl
    go false ih = ih
started_append (Send a b ∷ h) g k = started_append h g k
started_append (Arrive a b m ∷ h) g k = started_append h g k
started_append (Close a ∷ h) g k = started_append h g k
started_append (Crash a ∷ h) g k = started_append h g k
started_append (Suspect a b ∷ h) g k = started_append h g k

-- ---- the records before the first decision
first_decided : (o p : Option GlobalData) → is_some (option_or o p) ≡ (is_some o or is_some p)
unfolding ◌or◌
first_decided None p = refl
first_decided (Some g) p = refl

-- the first record decides, or it does not
before_on : (e : Event) (s : Bench) (h : List Event) → is_some (decides_at e s) ≡ true → before_decision s (e ∷ h) ≡ []
unfolding before_decision
before_on e s h = go (decides_at e s)
  where
    go : (o : Option GlobalData) → is_some o ≡ true
        → option_map_or (λ g. []) o (e ∷ before_decision (effect e s) h) ≡ []
    go None d = clash false d refl
    go (Some g) d = refl

before_off : (e : Event) (s : Bench) (h : List Event) → is_some (decides_at e s) ≡ false
    → before_decision s (e ∷ h) ≡ e ∷ before_decision (effect e s) h
unfolding before_decision
before_off e s h = go (decides_at e s)
  where
    go : (o : Option GlobalData) → is_some o ≡ false
        → option_map_or (λ g. []) o (e ∷ before_decision (effect e s) h) ≡ e ∷ before_decision (effect e s) h
    go None d = refl
    go (Some g) d = clash true refl d

-- a record that decides x decides
for_decides : (e : Event) (s : Bench) (x : ℕ) → is_some (decides_for e s x) ≡ true → is_some (decides_at e s) ≡ true
unfolding decides_for select
for_decides e s x = go (same (actor e) x)
  where
    go : (b : Bool) → is_some (select b (decides_at e s) None) ≡ true → is_some (decides_at e s) ≡ true
    go true d = d
    go false d = clash false d refl

-- some process has decided: what comes after does not matter
pub before_decided : (s : Bench) (h g : List Event) (x : ℕ) → is_some (outcome s h x) ≡ true
    → before_decision s (h ++ g) ≡ before_decision s h
unfolding outcome decides_for
before_decided s [] g x d = clash false d refl
before_decided s (e ∷ h) g x d =
    go (is (is_some (decides_at e s))) (or_cases (is_some (decides_for e s x)) (is_some (outcome (effect e s) h x))
    (sym (first_decided (decides_for e s x) (outcome (effect e s) h x)) ∙ d))
    (before_decided (effect e s) h g x)
  where
    go : Is (is_some (decides_at e s))
        → (is_some (decides_for e s x) ≡ true) ⊎ (is_some (outcome (effect e s) h x) ≡ true)
        → (is_some (outcome (effect e s) h x) ≡ true
        → before_decision (effect e s) (h ++ g) ≡ before_decision (effect e s) h)
        → before_decision s (e ∷ (h ++ g)) ≡ before_decision s (e ∷ h)
    go (on w) c ih = before_on e s (h ++ g) w ∙ sym (before_on e s h w)
    go (off w) (inl u) ih = clash (is_some (decides_at e s)) (for_decides e s x u) w
    go (off w) (inr u) ih =
        before_off e s (h ++ g) w ∙ ap (λ (r : List Event). e ∷ r) (ih u) ∙ sym (before_off e s h w)

-- none has: the whole first history is before
pub before_none : (s : Bench) (h g : List Event) → ((x : ℕ) → is_some (outcome s h x) ≡ false)
    → before_decision s (h ++ g) ≡ h ++ before_decision (after_events s h) g
unfolding after_events outcome decides_for
before_none s [] g f = refl
before_none s (e ∷ h) g f =
    before_off e s (h ++ g) (acts (or_none_l _ _ (both_off (actor e))))
    ∙ ap (λ (r : List Event). e ∷ r) (before_none (effect e s) h g (λ x. or_none_r _ _ (both_off x)))
  where
    both_off : (x : ℕ) → (is_some (decides_for e s x) or is_some (outcome (effect e s) h x)) ≡ false
    both_off x = sym (first_decided (decides_for e s x) (outcome (effect e s) h x)) ∙ f x

    acts : is_some (decides_for e s (actor e)) ≡ false → is_some (decides_at e s) ≡ false
    acts d = rw (select_on (same (actor e) (actor e)) (decides_at e s) None (same_refl (actor e))) at d
