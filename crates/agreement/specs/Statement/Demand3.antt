-- Demand 3 as one statement, over every list of calls on an opened bench, each call by the rules of now or by those
-- before request C-15, mixed in any order. The theorem is in ../../proofs/Theorem.antt.
use Rattle.std.specs.Prelude.{◌≡◌, ◌≢◌, List, [], ◌++◌, true, false, ℕ, suc, ◌+◌, ◌-◌, ◌*◌, ◌≤◌, ◌<◌, length, drop, Some, None, Ok, Err, IsSome}
use Rattle.std.proofs.Math.Pow.{are_bytes}
use Rattle.sets.specs.Lists.{each}
use Rattle.global_data.specs.declared.GlobalData.{GlobalData}
use Rattle.global_data.specs.declared.Value.{Value}
use Rattle.global_data.specs.GlobalData.{entry_of, same_to}
use Rattle.bench.specs.declared.Bench.{Bench}
use Rattle.bench.specs.declared.Event.{Event}
use Rattle.refusal.specs.declared.Refusal.TheVariants.{Undecided}
use Rattle.bench.specs.Calls.{word_at, show_of, shown_in}
use Rattle.bench.specs.State.{opened_of}
use Rattle.bench.specs.Record.{is_kind, Form}
use Rattle.bench.specs.Refuse.{refusal_by}
use Rattle.agreement.specs.Statement.History.{Call, after_calls, answers, history, after_history, ruled}
use Rattle.agreement.specs.Statement.History.{outcome, before_decision, started_with, crashed_in, crash_count}
use Rattle.agreement.specs.Statement.History.{rounds}

-- ---- what holds of a history h, and of the bench s that it left. Processes are counted from 0; a call takes their
-- numbers, from 1
pub record Holds (n t : ℕ) (h : List Event) (s : Bench) : Type 0 where
  -- b: the global data call on that bench, with a long enough slice, shows what x decided on,
  -- exactly where it has decided
  pub shows : (x : ℕ) (g : GlobalData) (out : List ℕ) → x < n → n ≤ length out → outcome (opened_of n t) h x ≡ Some g
      → (show_of s (suc x) out ≡ Ok g.present) × (shown_in s (suc x) out ≡ each n (word_at g) ++ drop n out)
  pub hides : (x : ℕ) (out : List ℕ) → x < n → n ≤ length out → outcome (opened_of n t) h x ≡ None
      → (show_of s (suc x) out ≡ Err Undecided) × (shown_in s (suc x) out ≡ out)
  -- c: agreement, of crashed processes too: absent entries, portions and diet portions are the same
  pub agreement : (x y : ℕ) (g g' : GlobalData) → x < n → y < n → outcome (opened_of n t) h x ≡ Some g
      → outcome (opened_of n t) h y ≡ Some g' → same_to n g g' ≡ true
  -- d: validity: a present entry has the portions and the diet portions of that process's start
  pub validity : (x k : ℕ) (v : Value) (g : GlobalData) → x < n → k < n → outcome (opened_of n t) h x ≡ Some g
      → entry_of g k ≡ Some v → started_with h k ≡ Some v
  -- e: an absent entry only where that process crashed before the first decision
  pub absence : (x k : ℕ) (g : GlobalData) → x < n → k < n → outcome (opened_of n t) h x ≡ Some g → entry_of g k ≡ None
      → crashed_in (before_decision (opened_of n t) h) k ≡ true
  -- f: how many rounds x has opened: at most t + 1, and by the number of crashes in the history
  pub last_round : (x : ℕ) → x < n → rounds (opened_of n t) h x ≤ t + 1
  pub early_round : (x : ℕ) → x < n → rounds (opened_of n t) h x ≤ 3 * crash_count h + 2
  -- g: a bound on the number of records
  pub records : length h ≤ 2 * n * (t + 1) + 2 * n * (n - 1) * (t + 2)
  -- h: the quiet end: where the call for one record, of either form, refuses all bytes that are not a record of
  -- kind 5, every running process has decided
  pub quiet_end : (f : Form) → ((bytes : List ℕ) → are_bytes bytes ≡ true → is_kind 5 bytes ≡ false
      → refusal_by f s bytes ≢ 0)
      → (x : ℕ) → x < n → crashed_in h x ≡ false → IsSome (outcome (opened_of n t) h x)

pub record Demand3 (n t : ℕ) (calls : List Call) : Type 0 where
  -- a: the bench left is where the protocol steps take the opened one over the whole history, and each call gave what
  -- the rules give where the history before it leads: on both sides a call is worked by `given_by`, here on the bench that
  -- the calls before it left, there on the one to which their history leads. That a call of form v2 does what `given_by`
  -- says is its contract (../Histories/Contracts.antt), and that a run so said is document 01's loop is the law
  -- `run_loop` of bench
  pub bench : after_calls (opened_of n t) calls ≡ after_history n t (history n t [] calls)
  pub given : answers (opened_of n t) calls ≡ ruled n t [] calls
  -- b to h
  pub holds : Holds n t (history n t [] calls) (after_calls (opened_of n t) calls)
