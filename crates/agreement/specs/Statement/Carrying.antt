-- Carrying a running week over (request C-17), as statements over every list of calls on an opened bench: what it
-- gives after old calls whose accepted starts have values of at most 65,535; and that demand 3 goes on across it. The
-- theorems are in ../../proofs, Carrying.antt and Theorem.antt, with what carrying answers after any calls.
use Rattle.std.specs.Prelude.{◌≡◌, List, [], map, Bool, ℕ, Ok}
use Rattle.std.proofs.Math.Pow.{are_bytes}
use Rattle.bench.specs.State.{opened_of}
use Rattle.bench.specs.Record.{v1, v2}
use Rattle.bench.specs.Carry.{carry_of, rewritten_record, rewritten_schedule}
use Rattle.agreement.specs.Statement.History.{Call, step, run, Given, stepped, ran, after_calls, answers}
use Rattle.agreement.specs.Statement.History.{after_history, history, ruled}
use Rattle.agreement.specs.Statement.Demand3.{Holds}

-- a call, whatever form it names, as one of form v1, and as one of form v2 with its records rewritten with diet
-- portions 0
unfoldable pub as_old : Call → Call
as_old (step f bytes tally) = step v1 bytes tally
as_old (run f bytes budget) = run v1 bytes budget

unfoldable pub rewritten : Call → Call
rewritten (step f bytes tally) = step v2 (rewritten_record bytes) tally
rewritten (run f bytes budget) = run v2 (rewritten_schedule bytes) budget

-- what a call gave, with the records that a run did not take rewritten
unfoldable pub rewritten_rest : Given → Given
rewritten_rest (stepped answer tally closing) = stepped answer tally closing
rewritten_rest (ran accepted cause closing rest) = ran accepted cause closing (rewritten_schedule rest)

-- what it takes is bytes
unfoldable pub takes_bytes : Call → Bool
takes_bytes (step f bytes tally) = are_bytes bytes
takes_bytes (run f bytes budget) = are_bytes bytes

pub record Carrying (n t : ℕ) (calls : List Call) : Type 0 where
  -- carrying what the old calls left is accepted, and gives the bench that the same records, rewritten, give a new one
  -- opened alike
  pub carries : carry_of (after_calls (opened_of n t) (map as_old calls))
      ≡ record { answer = Ok tt; bench = after_calls (opened_of n t) (map rewritten calls) }
  -- and every call gave the same, the bytes that a run left being rewritten
  pub given : map rewritten_rest (answers (opened_of n t) (map as_old calls))
      ≡ answers (opened_of n t) (map rewritten calls)

-- old calls, carrying, and new calls on the bench that carrying gave: the bench left, what the new calls gave, and
-- parts b to h of demand 3, all of one history, that of the old calls with what the new ones add. Calls of form v1
-- before and v2 after an accepted carrying are request C-17's; nothing is asked of either
pub record Across (n t : ℕ) (old new : List Call) : Type 0 where
  pub bench : after_calls (carry_of (after_calls (opened_of n t) old)).bench new
      ≡ after_history n t (history n t (history n t [] old) new)
  pub given : answers (carry_of (after_calls (opened_of n t) old)).bench new ≡ ruled n t (history n t [] old) new
  pub holds : Holds n t (history n t (history n t [] old) new)
      (after_calls (carry_of (after_calls (opened_of n t) old)).bench new)
