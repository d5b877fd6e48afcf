-- What one event adds to what a history says of a process is what it changes in the bench: outcome, rounds,
-- start and crash, and how many have crashed. It is read at the process that acts and at the others.
use Rattle.std.specs.Prelude.{◌≡◌, refl, [], ◌∷◌, Bool, true, false, ◌≢◌, ◌⊎◌, ℕ, ◌+◌, ◌<◌, length, Option, Some, None}
use Rattle.std.specs.Option.{option_or, option_map_or}
use Rattle.std.proofs.Common.{sym, ap, ◌∙◌, inl, inr, arith}
use Rattle.sets.specs.Set.{has, size_of}
use Rattle.sets.specs.Laws.{has_insert, size_insert}
use Rattle.sets.specs.Truth.{◌and◌, ◌or◌, same, select, bit}
use Rattle.sets.specs.TruthLaws.{Is, on, off, is, select_on, select_off, select_by, and_first, and_second}
use Rattle.sets.specs.TruthLaws.{not_on, off_by, or_off_r, same_on, same_mk, same_off, same_refl}
use Rattle.sets.specs.TruthLaws.{less_on, by_both, eq-or}
use Rattle.global_data.specs.declared.GlobalData.{GlobalData}
use Rattle.global_data.specs.GlobalData.{value_in}
use Rattle.process.specs.declared.Process.{Process}
use Rattle.process.specs.Steps.{has_decided, takes_part, open_round_of, start_of, keeps, receive_of}
use Rattle.process.specs.Steps.{decides_of, decide_of, advance_of, close_of, adopt_of, send_of, suspect_of}
use Rattle.process.specs.Laws.{start_decided, decide_decided, send_decided}
use Rattle.process.specs.Laws.{suspect_decided, receive_decided, advance_decided}
use Rattle.bench.specs.declared.Bench.{Bench}
use Rattle.bench.specs.declared.Message.TheVariants.{Estimate, Decision}
use Rattle.bench.specs.declared.Event.{Event}
use Rattle.bench.specs.declared.Event.TheVariants.{Start, Send, Arrive, Close, Crash, Suspect}
use Rattle.bench.specs.State.{process_at, crashed_at, with_process, with_sent, with_transit, with_crashed}
use Rattle.bench.specs.Refuse.{actor, passes7, is_crash}
use Rattle.bench.proofs.RefuseLaws.{Passes}
use Rattle.bench.specs.Effect.{opens_round, rows_at, sends, arrives, closes_as, effect}
use Rattle.agreement.specs.Statement.History.{decides_at, started_with, opens_at}
use Rattle.agreement.specs.Histories.Append.{decides_for, is_crash_of, first_none}
use Rattle.agreement.specs.Bridge.Places.{process_here, process_there}

-- the acting process after an event
unfoldable pub turned : Event → Bench → Process
turned (Start a v) s = start_of s.n a v (process_at s a)
turned (Send a b) s = send_of b (process_at s a)
turned (Arrive a b (Estimate r)) s = receive_of a r (process_at s b)
turned (Arrive a b Decision) s = adopt_of s.n b a (process_at s a).estimate (process_at s b)
turned (Close a) s = close_of s.n s.t a (rows_at s (process_at s a).round) (process_at s a)
turned (Crash a) s = process_at s a
turned (Suspect a b) s = suspect_of b (process_at s a)

-- closing, deciding or not, changes the process alone
closes_process : (s : Bench) (a x : ℕ) (p : Process) → process_at (closes_as s a p) x ≡ process_at (with_process s a p) x
unfolding closes_as opens_round with_sent process_at select
closes_process s a x p = go (has_decided p)
  where
    go : (d : Bool) → process_at (select d (with_process s a p) (opens_round s a p)) x ≡ process_at (with_process s a p) x
    go true = refl
    go false = refl

pub turned_here : (e : Event) (s : Bench) → length s.processes ≡ 16 → actor e < 16
    → process_at (effect e s) (actor e) ≡ turned e s
unfolding effect turned actor opens_round sends arrives with_sent with_transit with_crashed process_at
turned_here (Start a v) s z l = process_here s a _ z l
turned_here (Send a b) s z l = process_here s a _ z l
turned_here (Arrive a b (Estimate r)) s z l = process_here s b _ z l
turned_here (Arrive a b Decision) s z l = process_here s b _ z l
turned_here (Close a) s z l = closes_process s a a _ ∙ process_here s a _ z l
turned_here (Crash a) s z l = refl
turned_here (Suspect a b) s z l = process_here s a _ z l

pub turned_there : (e : Event) (s : Bench) (x : ℕ) → x ≢ actor e → process_at (effect e s) x ≡ process_at s x
unfolding effect actor opens_round sends arrives with_sent with_transit with_crashed process_at
turned_there (Start a v) s x ne = process_there s a x _ ne
turned_there (Send a b) s x ne = process_there s a x _ ne
turned_there (Arrive a b (Estimate r)) s x ne = process_there s b x _ ne
turned_there (Arrive a b Decision) s x ne = process_there s b x _ ne
turned_there (Close a) s x ne = closes_process s a x _ ∙ process_there s a x _ ne
turned_there (Crash a) s x ne = refl
turned_there (Suspect a b) s x ne = process_there s a x _ ne

-- ---- outcomes
-- what a process holds of its decision
unfoldable pub decision_of : Process → Option GlobalData
decision_of p = select (has_decided p) (Some p.estimate) None

decision_same : (p q : Process) → has_decided q ≡ has_decided p → q.estimate ≡ p.estimate
    → decision_of q ≡ option_or (decision_of p) None
unfolding decision_of
decision_same p q d e = rw (d, e) (sym (first_none _))

pub decision_off : (p : Process) → has_decided p ≡ false → decision_of p ≡ None
unfolding decision_of
decision_off p d = select_off _ _ _ d

pub decision_on : (p : Process) → has_decided p ≡ true → decision_of p ≡ Some p.estimate
unfolding decision_of
decision_on p d = select_on _ _ _ d

pub decision_got : (p : Process) (g : GlobalData) → decision_of p ≡ Some g
    → (has_decided p ≡ true) × (p.estimate ≡ g)
decision_got p g e = go (is (has_decided p))
  where
    go : Is (has_decided p) → (has_decided p ≡ true) × (p.estimate ≡ g)
    go (on d) = let f = decision_on p d in (d, cc)
    go (off d) = let f = decision_off p d in absurd (let z : ◌≡◌ {A = ℕ} 0 1 = cc in omega arith)

pub decision_none : (p : Process) → decision_of p ≡ None → has_decided p ≡ false
decision_none p e = off_by _ (λ d. let f = decision_on p d in let z : ◌≡◌ {A = ℕ} 0 1 = cc in omega arith)

-- an undecided process comes to q, which holds the decision o
decision_new : (p q : Process) (o : Option GlobalData) → has_decided p ≡ false → decision_of q ≡ o
    → decision_of q ≡ option_or (decision_of p) o
decision_new p q o d e = rw (decision_off p d) e

-- a record decides its acting process, and no other
decides_here : (e : Event) (s : Bench) → decides_for e s (actor e) ≡ decides_at e s
unfolding decides_for
decides_here e s = select_on _ _ _ (same_refl (actor e))

decides_there : (e : Event) (s : Bench) (x : ℕ) → x ≢ actor e → decides_for e s x ≡ None
unfolding decides_for
decides_there e s x ne = select_off _ _ _ (same_off (actor e) x (λ w. ne (sym w)))

-- by the test d a process p comes to q, which has decided on g, or to one that holds the same decision as p
decision_choice : (d : Bool) (p q q' : Process) (g : GlobalData) → (d ≡ true → has_decided p ≡ false)
    → decision_of q ≡ Some g
    → decision_of q' ≡ decision_of p
    → decision_of (select d q q') ≡ option_or (decision_of p) (select d (Some g) None)
unfolding select
decision_choice true p q q' g u e f = decision_new p q (Some g) (u refl) e
decision_choice false p q q' g u e f = f ∙ sym (first_none _)

takes_undecided : (p : Process) → takes_part p ≡ true → has_decided p ≡ false
unfolding takes_part
takes_undecided p e = not_on _ (and_second _ _ e)

takes_started : (p : Process) → takes_part p ≡ true → p.round ≢ 0
unfolding takes_part
takes_started p e z = omega (arith, less_on 0 p.round (and_first _ _ e))

-- a start is of an undecided process, which `started` says
decision_turned : (e : Event) (s : Bench) → Passes e s
    → ((process_at s (actor e)).round ≡ 0 → has_decided (process_at s (actor e)) ≡ false)
    → decision_of (turned e s) ≡ option_or (decision_of (process_at s (actor e))) (decides_at e s)
unfolding turned actor decides_at passes7 send_of suspect_of receive_of adopt_of close_of decide_of
decision_turned (Start a v) s A started =
    let d = started (same_on _ 0 A.pass7) in
    decision_new (process_at s a) (start_of s.n a v (process_at s a)) None d
    (decision_off _ (start_decided (process_at s a) s.n a v ∙ d))
decision_turned (Send a b) s A started =
    decision_same (process_at s a) (send_of b (process_at s a)) (send_decided (process_at s a) b) refl
decision_turned (Arrive a b (Estimate r)) s A started =
    decision_same (process_at s b) _ (receive_decided (process_at s b) a r)
    (select_by (λ (q : Process). q.estimate ≡ (process_at s b).estimate) (keeps (process_at s b) a r) _ _
    (λ e. refl) (λ e. refl))
decision_turned (Arrive a b Decision) s A started =
    decision_choice (takes_part (process_at s b)) (process_at s b) _ _ _ (takes_undecided (process_at s b))
    (decision_on _ (decide_decided (process_at s b) _ _)) refl
decision_turned (Close a) s A started =
    let p = process_at s a in
    let d = takes_undecided p (and_first _ _ A.pass7) in
    decision_choice (decides_of s.n s.t a (rows_at s p.round) p) p _ _ _ (λ w. d)
    (decision_on _ (decide_decided p _ _)) (decision_off _ (advance_decided p a _ ∙ d) ∙ sym (decision_off p d))
decision_turned (Crash a) s A started = decision_same (process_at s a) (process_at s a) refl refl
decision_turned (Suspect a b) s A started =
    decision_same (process_at s a) (suspect_of b (process_at s a)) (suspect_decided (process_at s a) b) refl

-- ---- rounds
-- how many a record opens at x
abbrev pub opens_for : Event → Bench → ℕ → ℕ
opens_for e s x = select (same (actor e) x) (opens_at e s) 0

-- a close by the test d
close_round : (d : Bool) (r : ℕ) (q q' : Process) (g : GlobalData) → q.round ≡ r → q'.round ≡ r + 1
    → (select d q q').round ≡ r + option_map_or (λ f. 0) (select d (Some g) None) 1
unfolding select
close_round true r q q' g e f = omega arith
close_round false r q q' g e f = omega arith

round_turned : (e : Event) (s : Bench) → Passes e s
    → (turned e s).round ≡ (process_at s (actor e)).round + opens_at e s
unfolding turned actor opens_at decides_at passes7 start_of open_round_of send_of suspect_of receive_of adopt_of close_of
    decide_of advance_of select
round_turned (Start a v) s A = omega (arith, same_on _ 0 A.pass7)
round_turned (Send a b) s A = omega arith
round_turned (Arrive a b (Estimate r)) s A =
    select_by (λ (q : Process). q.round ≡ (process_at s b).round + 0) (keeps (process_at s b) a r) _ _
    (λ e. omega arith) (λ e. omega arith)
round_turned (Arrive a b Decision) s A =
    select_by (λ (q : Process). q.round ≡ (process_at s b).round + 0) (takes_part (process_at s b)) _ _
    (λ e. omega arith) (λ e. omega arith)
round_turned (Close a) s A =
    close_round (decides_of s.n s.t a (rows_at s (process_at s a).round) (process_at s a)) _ _ _ _ refl refl
round_turned (Crash a) s A = omega arith
round_turned (Suspect a b) s A = omega arith

-- ---- crashes
turn_same : (x y : ℕ) → same x y ≡ same y x
turn_same x y = by_both _ _ (λ e. same_mk y x (sym (same_on x y e))) (λ e. same_mk x y (sym (same_on y x e)))

or_swap : (a b : Bool) → (a or b) ≡ (b or a)
unfolding ◌or◌
or_swap true true = refl
or_swap true false = refl
or_swap false true = refl
or_swap false false = refl

-- who has crashed after an event, and how many: with `more` new ones by the test `new`
pub record CrashesAdded (s s' : Bench) (new : ℕ → Bool) (more : ℕ) : Type 0 where
  pub who : (k : ℕ) → crashed_at s' k ≡ (crashed_at s k or new k)
  pub size : size_of s'.crashed ≡ size_of s.crashed + more

no_crash : (s s' : Bench) → s'.crashed ≡ s.crashed → CrashesAdded s s' (λ k. false) 0
unfolding crashed_at
no_crash s s' e = record { who = λ k. rw e (sym (or_off_r _ false refl)); size = omega (arith, ap size_of e) }

new_crash : (s : Bench) (a : ℕ) → crashed_at s a ≡ false → CrashesAdded s (with_crashed s a) (same a) 1
unfolding crashed_at with_crashed
new_crash s a f = record {
  who = λ k. has_insert s.crashed a k ∙ or_swap _ _ ∙ ap (λ (b : Bool). has s.crashed k or b) (turn_same k a);
  size = omega (arith, size_insert s.crashed a f);
}

pub crash_effect : (e : Event) (s : Bench) → crashed_at s (actor e) ≡ false
    → CrashesAdded s (effect e s) (is_crash_of e) (bit (is_crash e))
unfolding actor effect is_crash bit ◌and◌ opens_round sends arrives closes_as with_process with_sent with_transit
crash_effect (Start a v) s f = no_crash s _ refl
crash_effect (Send a b) s f = no_crash s _ refl
crash_effect (Arrive a b (Estimate r)) s f = no_crash s _ refl
crash_effect (Arrive a b Decision) s f = no_crash s _ refl
crash_effect (Close a) s f =
    select_by (λ (s' : Bench). CrashesAdded s s' (λ k. false) 0) _ _ _
    (λ e. no_crash s _ refl) (λ e. no_crash s _ refl)
crash_effect (Crash a) s f = new_crash s a f
crash_effect (Suspect a b) s f = no_crash s _ refl

-- ---- any process after an event
module _ (e : Event) (s : Bench) (z : length s.processes ≡ 16) (low : actor e < 16) (A : Passes e s) where
  -- at the process that acts, and elsewhere
  turned-at : (P : ℕ → Process → Type 0) → P (actor e) (turned e s) → ((x : ℕ) → x ≢ actor e → P x (process_at s x))
      → (x : ℕ) → P x (process_at (effect e s) x)
  turned-at P here there x = go (eq-or x (actor e))
    where
      go : (x ≡ actor e) ⊎ (x ≢ actor e) → P x (process_at (effect e s) x)
      go (inl w) = rw (w, turned_here e s z low) here
      go (inr w) = rw (turned_there e s x w) (there x w)

  pub decision_effect : ((process_at s (actor e)).round ≡ 0 → has_decided (process_at s (actor e)) ≡ false)
      → (x : ℕ) → decision_of (process_at (effect e s) x) ≡ option_or (decision_of (process_at s x)) (decides_for e s x)
  decision_effect started =
      turned-at (λ x p. decision_of p ≡ option_or (decision_of (process_at s x)) (decides_for e s x))
      (rw (decides_here e s) (decision_turned e s A started))
      (λ x w. rw (decides_there e s x w) (sym (first_none _)))

  pub round_effect : (x : ℕ) → (process_at (effect e s) x).round ≡ (process_at s x).round + opens_for e s x
  round_effect =
      turned-at (λ x p. p.round ≡ (process_at s x).round + opens_for e s x)
      (rw (select_on _ (opens_at e s) 0 (same_refl (actor e))) (round_turned e s A))
      (λ x w. rw (select_off _ (opens_at e s) 0 (same_off (actor e) x (λ v. w (sym v)))) (omega arith))

-- ---- starts
select-same : (b : Bool) (x : ℕ) → select b x x ≡ x
unfolding select
select-same true x = refl
select-same false x = refl

-- a record is the start of k, or starts nobody there and opens no first round
pub start_or : (e : Event) (s : Bench) (k : ℕ) → Passes e s
    → ((v : ℕ) × (e ≡ Start k v))
    ⊎ ((started_with (e ∷ []) k ≡ None) × ((process_at s k).round ≡ 0 → opens_for e s k ≡ 0))
unfolding started_with opens_at actor passes7
start_or (Start a v) s k A = go (eq-or a k)
  where
    go : (a ≡ k) ⊎ (a ≢ k)
        → ((u : ℕ) × (Start a v ≡ Start k u))
        ⊎ ((select (same a k) (Some (value_in v)) None ≡ None)
        × ((process_at s k).round ≡ 0 → ◌≡◌ {A = ℕ} (select (same a k) 1 0) 0))
    go (inl w) = inl (v, ap (λ (x : ℕ). Start x v) w)
    go (inr w) = inr (select_off _ _ _ (same_off a k w), λ z. select_off _ _ _ (same_off a k w))
start_or (Send a b) s k A = inr (refl, λ z. select-same _ 0)
start_or (Arrive a b m) s k A = inr (refl, λ z. select-same _ 0)
start_or (Close a) s k A = inr (
  refl,
  λ z. select_off _ _ _ (same_off a k (λ w. takes_started (process_at s a) (and_first _ _ A.pass7) (rw w z))),
)
start_or (Crash a) s k A = inr (refl, λ z. select-same _ 0)
start_or (Suspect a b) s k A = inr (refl, λ z. select-same _ 0)
