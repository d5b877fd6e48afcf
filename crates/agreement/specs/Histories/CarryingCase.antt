-- The smallest calls that have a larger value among what they are given and are carried all the same: n 1, t 0, a run
-- of start 1 with 5 and start 1 with 65,536, which is refused by 7. The premises of `carrying`, computed.
use Rattle.std.specs.Prelude.{◌≡◌, refl, List, [], ◌∷◌, map, true}
use Rattle.sets.specs.Set.{has, insert_of, remove_of, difference_of, all_of, within}
use Rattle.std.specs.Int.Count.{ones}
use Rattle.sets.specs.Truth.{◌and◌, ◌or◌, same, less, select, one_to, check}
use Rattle.sets.specs.Lists.{each, every, every_in}
use Rattle.global_data.specs.GlobalData.{nothing_of, one_of}
use Rattle.process.specs.Steps.{idle_of, open_round_of, start_of}
use Rattle.bench.specs.State.{process_at, crashed_at, with_process, with_sent, opened_of}
use Rattle.bench.specs.Sound.{opens, sound_data, sound_process, sound_of}
use Rattle.bench.specs.Record.{word_of, uses_b}
use Rattle.bench.specs.Record.{fields, event_of, parts_of, value_of, read_of, decode_as}
use Rattle.bench.specs.Refuse.{actor, is_crash, passes7, passes8, passes9, refuses, refuses_decoded, refusal_by}
use Rattle.bench.specs.Effect.{opens_round, effect}
use Rattle.bench.specs.Record.{v1}
use Rattle.bench.specs.Calls.{event_in, accepted_one, after_events, accepted_in}
use Rattle.bench.specs.Carry.{plain_start}
use Rattle.agreement.specs.Statement.History.{Call, run, after_history, accepted_by, add_call, history}
use Rattle.agreement.specs.Statement.Carrying.{as_old, takes_bytes}

pub calls : List Call
calls = run v1 (1 ∷ 1 ∷ 0 ∷ 0 ∷ 5 ∷ 0 ∷ 0 ∷ 0 ∷ 1 ∷ 1 ∷ 0 ∷ 0 ∷ 0 ∷ 0 ∷ 1 ∷ 0 ∷ []) 2 ∷ []

pub premises : (every_in takes_bytes calls and every_in plain_start (history 1 0 [] (map as_old calls))) ≡ true
unfolding calls takes_bytes as_old history add_call accepted_by after_history event_in accepted_one after_events
    accepted_in plain_start
    has insert_of remove_of difference_of all_of ones ◌and◌ ◌or◌ same less select each every nothing_of one_of idle_of
    open_round_of start_of process_at crashed_at with_process with_sent opened_of opens every_in within sound_data sound_process
    sound_of word_of one_to uses_b fields event_of parts_of value_of read_of check actor is_crash
    passes7 passes8 passes9 refuses refuses_decoded opens_round effect decode_as refusal_by
premises = refl
