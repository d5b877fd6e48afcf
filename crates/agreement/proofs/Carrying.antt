-- Carrying a running week over (request C-17): the calls do the same on a new bench, and what they left is accepted.
use Rattle.std.specs.Prelude.{◌≡◌, List, [], map, true, ℕ, ⊤, Result}
use Rattle.std.proofs.Common.{ap₂, ◌∙◌}
use Rattle.sets.specs.Lists.{every_in}
use Rattle.sets.specs.TruthLaws.{select_on, same_mk as number_same}
use Rattle.bench.specs.declared.Bench.{Bench}
use Rattle.refusal.specs.declared.Refusal.{Refusal}
use Rattle.bench.specs.declared.Carried.{Carried}
use Rattle.bench.specs.State.{opened_of}
use Rattle.bench.specs.Sound.{opens}
use Rattle.bench.specs.Calls.{answer_of, after_events}
use Rattle.agreement.specs.Statement.History.{Call, after_calls, after_history, history}
use Rattle.bench.specs.Carry.{carry_of, carry_refusal, plain_start}
use Rattle.agreement.specs.Statement.Carrying.{as_old, takes_bytes, Carrying}
use Rattle.agreement.proofs.Histories.RewrittenCalls.{AlikeFrom, calls_alike}
use Rattle.agreement.proofs.Theorem.{carry_answers}

carried_of : Result ⊤ Refusal → Bench → Carried
carried_of a s = record { answer = a; bench = s }

pub carrying : (n t : ℕ) (calls : List Call) → opens n t ≡ true → every_in takes_bytes calls ≡ true
    → every_in plain_start (history n t [] (map as_old calls)) ≡ true → Carrying n t calls
unfolding after_history after_events carry_of answer_of carried_of
carrying n t calls o b p =
    let A : AlikeFrom (opened_of n t) calls = calls_alike n t [] calls b p in
    let z = carry_answers n t (map as_old calls) o ∙ select_on _ _ _ p in
    record {
      carries =
          ap₂ carried_of
          (select_on _ _ _ (number_same (carry_refusal (after_calls (opened_of n t) (map as_old calls))) 0 z)) A.bench;
      given = A.given;
    }
