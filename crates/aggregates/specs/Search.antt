-- The search for the leader, entry by entry. `leader_next` (LeaderLaws.antt) says that it finds the greatest.
use Rattle.std.specs.Prelude.{Option, None, Some, ℕ}
use Rattle.sets.specs.Truth.{select}
use Rattle.global_data.specs.GlobalData.{Entry}
use Rattle.aggregates.specs.declared.Candidate.{Candidate}
use Rattle.aggregates.specs.Leader.{better}

-- the leader once c has come forward
abbrev pub contend : Option Candidate → Candidate → Option Candidate
contend None c = Some c
contend (Some b) c = select (better c b) (Some c) (Some b)

-- process p comes forward with its entry; where that is absent it is passed over
abbrev pub with_entry : Option Candidate → ℕ → Entry → Option Candidate
with_entry l p None = l
with_entry l p (Some v) = contend l (record { value = v; process = p })
