-- A list in transit, computed by the checker from the definition. With the three keys of request C-13 in any other
-- order its bytes are others, and so they are with decisions last, or where a message is left out or stands twice.
use Rattle.std.specs.Prelude.{◌≡◌, refl, [], ◌∷◌}
use Rattle.sets.specs.Lists.{joined}
use Rattle.sets.specs.Set.{has}
use Rattle.sets.specs.Truth.{same, select}
use Rattle.bench.specs.declared.Bench.{Bench}
use Rattle.bench.specs.State.{transit_at, with_transit, opened_of}
use Rattle.bench.specs.TransitList.{message_bytes, transit_bytes}
use Rattle.bench.specs.TransitOrder.{listed, bytes_of}

-- three processes, of which two may crash: a decision of 3, and estimates of the rounds 1 to 3. The last two sets are
-- of a round past t + 1 and of a sender past n: no schedule reaches them, and what is in them is not listed
unfoldable pub several : Bench
several =
    let decision = with_transit (opened_of 3 2) 2 0 2 in
    let round1 = with_transit (with_transit decision 0 1 4) 1 1 5 in
    let round2 = with_transit round1 0 2 2 in
    let round3 = with_transit round2 1 3 1 in
    with_transit (with_transit round3 0 4 2) 3 1 1

pub several-listed : transit_bytes several
    ≡ bytes_of
    (listed 3 2 0 ∷ listed 1 3 1 ∷ listed 2 1 1 ∷ listed 2 3 1 ∷ listed 1 2 2 ∷ listed 2 1 3 ∷ [])
unfolding several listed opened_of with_transit transit_at has same select joined message_bytes transit_bytes bytes_of
several-listed = refl
