-- Demand 3, proved: after the history of any list of calls the bench has every invariant and holds what the history
-- tells, and each part of the demand is read off that one state.
use Rattle.std.specs.Prelude.{◌≡◌, ◌≢◌, List, [], ◌∷◌, ◌++◌, true, false, ℕ, suc, ◌+◌, ◌-◌, ◌*◌, ◌^◌, ◌≤◌, ◌<◌, length, get_or, drop, Some, None, Ok, Err, IsSome}
use Rattle.std.proofs.Math.Path.{sym, ap}
use Rattle.std.proofs.Common.{◌∙◌}
use native.Mathlib.Omega.{arith}
use Rattle.std.proofs.Math.Pow.{are_bytes}
use Rattle.sets.specs.Set.{has}
use Rattle.sets.specs.Laws.{size_count}
use Rattle.sets.specs.Lists.{count_to, each, every_in}
use Rattle.sets.specs.Truth.{select}
use Rattle.sets.specs.TruthLaws.{Is, on, off, is}
use Rattle.global_data.specs.declared.GlobalData.{GlobalData}
use Rattle.global_data.specs.declared.Value.{Value}
use Rattle.global_data.specs.GlobalData.{value_in, entry_of, same_to}
use Rattle.global_data.proofs.Laws.{entry_present, entry_absent, value_present, absent_clear, same_mk}
use Rattle.process.specs.Steps.{has_decided}
use Rattle.refusal.specs.declared.Refusal.TheVariants.{Undecided}
use Rattle.bench.specs.declared.Event.{Event}
use Rattle.bench.specs.State.{process_at, crashed_at, opened_of}
use Rattle.bench.specs.Sound.{opens}
use Rattle.bench.proofs.SoundLaws.{sound_on}
use Rattle.bench.specs.Refuse.{refusal}
use Rattle.bench.specs.Record.{is_kind}
use Rattle.bench.specs.Calls.{after_events, word_at, show_of, shown_in}
use Rattle.agreement.specs.Statement.History.{Call, after_calls, after_history, history}
use Rattle.agreement.specs.Statement.History.{outcome, before_decision, started_with, crashed_in, crash_count}
use Rattle.agreement.specs.Statement.History.{rounds}
use Rattle.bench.specs.Carry.{carry_of, carry_refusal, plain_start}
use Rattle.bench.proofs.OldRulesLaws.{refused_now}
use Rattle.agreement.specs.Statement.Demand3.{Holds, Demand3}
use Rattle.agreement.specs.Statement.Carrying.{Across}
use Rattle.agreement.specs.Histories.Replay.{Next, along, sizes_to, sizes_from, replay}
use Rattle.agreement.specs.Invariants.Safety.{Good}
use Rattle.agreement.specs.Invariants.Agreement.{agree, valid, rounds_crashes}
use Rattle.agreement.specs.Invariants.RecordBound.{work_bound}
use Rattle.agreement.specs.Invariants.QuietEnd.{Still, quiet_end}
use Rattle.agreement.specs.Bridge.BenchView.{view_of}
use Rattle.agreement.specs.Bridge.EveryEvent.{still_view}
use Rattle.agreement.specs.Histories.OneEvent.{decision_got, decision_none}
use Rattle.agreement.specs.Histories.InvariantsHold.{Along, along_opened, along_next}
use Rattle.agreement.proofs.Histories.HistoryMatchesBench.{Told, told_opened, told_next}
use Rattle.agreement.proofs.Histories.AbsentCrashed.{Decided, first_opened, first_next, decided_is}
use Rattle.agreement.proofs.Histories.PlainStarts.{Starts, starts_opened, starts_next, carry_history}
use Rattle.agreement.specs.Histories.GlobalDataCall.{shows_decided, hides_undecided}
use Rattle.agreement.specs.Bridge.RefusedBytes.{refused_events}

-- all that is shown by induction along a history
record Account (n t : ℕ) (h : List Event) : Type 0 where
  along_it : Along n t h
  told : Told n t h
  first : Decided n t h
  starts : Starts n t h

account_next : (n t : ℕ) (h : List Event) (e : Event) → Next n t h e → Account n t h → Account n t (h ++ (e ∷ []))
account_next n t h e N A =
    let F = along_next n t h e N A.along_it in
    record {
      along_it = F.further;
      told = told_next n t h e N A.along_it F A.told;
      first = first_next n t h e N A.along_it F A.told A.first;
      starts = starts_next n t h e N A.told A.starts;
    }

account : (n t : ℕ) → opens n t ≡ true → (calls : List Call) → Account n t (history n t [] calls)
account n t o calls =
    along n t (Account n t) (account_next n t) [] calls
    (record {
      along_it = along_opened n t o;
      told = told_opened n t;
      first = first_opened n t;
      starts = starts_opened n t;
    })

-- two entries that are present together, with one value
entry_same : (g g' : GlobalData) (k : ℕ) → has g.present k ≡ has g'.present k
    → (has g.present k ≡ true → get_or g.values k 0 ≡ get_or g'.values k 0) → entry_of g k ≡ entry_of g' k
entry_same g g' k e f = go (is (has g.present k))
  where
    go : Is (has g.present k) → entry_of g k ≡ entry_of g' k
    go (on u) = entry_present g k u ∙ ap (λ w. Some (value_in w)) (f u) ∙ sym (entry_present g' k (sym e ∙ u))
    go (off u) = entry_absent g k u ∙ sym (entry_absent g' k (sym e ∙ u))

module _ (n t : ℕ) (h : List Event) (A : Account n t h) where
  -- what x decided on is what it holds
  holds : (x : ℕ) (g : GlobalData) → outcome (opened_of n t) h x ≡ Some g
      → (has_decided (process_at (after_history n t h) x) ≡ true) × ((process_at (after_history n t h) x).estimate ≡ g)
  holds x g e = decision_got _ g (sym (A.told.outcome_is x) ∙ e)

  good : Good n t (view_of (after_history n t h) A.along_it.closers)
  good = A.along_it.fit.good

  -- two that have decided agree on every entry
  same_entry_lem : (x y k : ℕ) → k < n → has_decided (process_at (after_history n t h) x) ≡ true
      → has_decided (process_at (after_history n t h) y) ≡ true
      → entry_of (process_at (after_history n t h) x).estimate k ≡ entry_of (process_at (after_history n t h) y).estimate k
  unfolding view_of
  same_entry_lem x y k l d d' =
      let E = agree n t _ good.basic good.estimates good.decisions x y d d' k l in
      entry_same _ _ k E.0 E.1

  agreement_of : (x y : ℕ) (g g' : GlobalData) → outcome (opened_of n t) h x ≡ Some g
      → outcome (opened_of n t) h y ≡ Some g'
      → same_to n g g' ≡ true
  agreement_of x y g g' e e' =
      let (d, u) = holds x g e in
      let (d', u') = holds y g' e' in
      same_mk n g g' (λ k l.
      ap (λ (f : GlobalData). entry_of f k) (sym u) ∙ same_entry_lem x y k l d d' ∙ ap (λ (f : GlobalData). entry_of f k) u')

  validity_of : (x k : ℕ) (v : Value) (g : GlobalData) → outcome (opened_of n t) h x ≡ Some g → entry_of g k ≡ Some v
      → started_with h k ≡ Some v
  unfolding view_of
  validity_of x k v g e w =
      let (f, u) = holds x g e in
      let w' : entry_of (process_at (after_history n t h) x).estimate k ≡ Some v = rw u w in
      let o = value_present _ k v w' in
      let E = valid n t _ good.basic good.estimates good.decisions x k f o in
      (A.told.begun k).started E.1 ∙ ap (λ w. Some (value_in w)) (sym E.0) ∙ sym (entry_present _ k o) ∙ w'

  absence_of : (x k : ℕ) (g : GlobalData) → x < n → k < n → outcome (opened_of n t) h x ≡ Some g → entry_of g k ≡ None
      → crashed_in (before_decision (opened_of n t) h) k ≡ true
  absence_of x k g l kn e w =
      let (d, u) = holds x g e in
      let F = A.first x l d in
      F.absence k kn (absent_clear _ k (same_entry_lem F.who x k kn F.decided d ∙ rw u w))

  crashes_of : count_to n (view_of (after_history n t h) A.along_it.closers).crashed ≡ crash_count h
  unfolding view_of crashed_at
  crashes_of =
      sym (size_count n (after_history n t h).crashed
      (sizes_from n t h (λ m u. (after_history n t h).crashed < 2 ^ m) (sound_on _ A.along_it.sound).crashed))
      ∙ sym A.told.crashes_is

  last_round_of : (x : ℕ) → rounds (opened_of n t) h x ≤ t + 1
  unfolding view_of
  last_round_of x = omega (arith, A.told.round_is x, good.basic.bound x)

  early_round_of : (x : ℕ) → rounds (opened_of n t) h x ≤ 3 * crash_count h + 2
  unfolding view_of
  early_round_of x =
      omega (
        arith,
        A.told.round_is x,
        crashes_of,
        rounds_crashes n t _ good.basic good.estimates good.decisions x,
      )

  records_of : length h ≤ 2 * n * (t + 1) + 2 * n * (n - 1) * (t + 2)
  records_of = omega (arith, A.along_it.fit.worked, work_bound good.basic)

  quiet_of : ((bytes : List ℕ) → are_bytes bytes ≡ true → is_kind 5 bytes ≡ false
      → refusal (after_history n t h) bytes ≢ 0)
      → (x : ℕ) → x < n → crashed_in h x ≡ false → IsSome (outcome (opened_of n t) h x)
  unfolding view_of
  quiet_of f x l c =
      let S = still_view (after_history n t h) A.along_it.closers A.along_it.sound
      (refused_events (after_history n t h) A.along_it.sound f) in
      decided_is n t h A.told x
      ∙ quiet_end n t _ good.basic A.along_it.fit.wire
      (sizes_from n t h (λ m u. Still m u (view_of (after_history n t h) A.along_it.closers)) S) x l
      (sym (A.told.crashed_is x) ∙ c)

  shows_of : (x : ℕ) (g : GlobalData) (out : List ℕ) → x < n → n ≤ length out → outcome (opened_of n t) h x ≡ Some g
      → (show_of (after_history n t h) (suc x) out ≡ Ok g.present)
      × (shown_in (after_history n t h) (suc x) out ≡ each n (word_at g) ++ drop n out)
  shows_of x g out l r e =
      let (d, u) = holds x g e in
      sizes_from n t h (λ m v. (show_of (after_history n t h) (suc x) out ≡ Ok g.present)
      × (shown_in (after_history n t h) (suc x) out ≡ each m (word_at g) ++ drop m out))
      (rw u at (shows_decided (after_history n t h) x out A.along_it.sound (sizes_to n t h (λ m v. x < m) l)
      (sizes_to n t h (λ m v. m ≤ length out) r) d))

  hides_of : (x : ℕ) (out : List ℕ) → x < n → n ≤ length out → outcome (opened_of n t) h x ≡ None
      → (show_of (after_history n t h) (suc x) out ≡ Err Undecided)
      × (shown_in (after_history n t h) (suc x) out ≡ out)
  hides_of x out l r e =
      hides_undecided (after_history n t h) x out A.along_it.sound (sizes_to n t h (λ m v. x < m) l)
      (sizes_to n t h (λ m v. m ≤ length out) r)
      (decision_none _ (sym (A.told.outcome_is x) ∙ e))

  holds_of : Holds n t h (after_history n t h)
  holds_of =
      record {
        shows = shows_of;
        hides = hides_of;
        agreement = λ x y g g' l l'. agreement_of x y g g';
        validity = λ x k v g l l'. validity_of x k v g;
        absence = absence_of;
        last_round = λ x l. last_round_of x;
        early_round = λ x l. early_round_of x;
        records = records_of;
        quiet_end = λ f r. quiet_of (λ bytes b k. refused_now f _ bytes (r bytes b k));
      }

-- what calls leave is where their history leads
come_to : (n t : ℕ) (calls : List Call) → after_calls (opened_of n t) calls ≡ after_history n t (history n t [] calls)
unfolding after_history after_events
come_to n t calls = (replay n t [] calls).bench

pub demand3 : (n t : ℕ) (calls : List Call) → opens n t ≡ true → Demand3 n t calls
unfolding after_history after_events
demand3 n t calls o =
    let R = replay n t [] calls in
    record {
      bench = R.bench;
      given = R.given;
      holds = rw R.bench (holds_of n t _ (account n t o calls));
    }

-- ---- carrying a running week over (request C-17): what any calls left is refused by 16 exactly where a start in their
-- history has a value above 65,535; and demand 3 goes on with the bench that carrying gave (that the calls do the same
-- on a new bench, and what they left is accepted: Carrying.antt)
pub carry_answers : (n t : ℕ) (calls : List Call) → opens n t ≡ true
    → carry_refusal (after_calls (opened_of n t) calls) ≡ select (every_in plain_start (history n t [] calls)) 0 16
carry_answers n t calls o =
    let A = account n t o calls in
    rw (come_to n t calls) (carry_history n t _ A.along_it A.told A.starts)

pub across : (n t : ℕ) (old new : List Call) → opens n t ≡ true → Across n t old new
unfolding carry_of
across n t old new o =
    let R = replay n t (history n t [] old) new in
    let A = along n t (Account n t) (account_next n t) (history n t [] old) new (account n t o old) in
    record {
      bench = rw (come_to n t old) R.bench;
      given = rw (come_to n t old) R.given;
      holds = rw (come_to n t old, R.bench) (holds_of n t _ A);
    }
