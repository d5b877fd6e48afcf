use Rattle.std.proofs.Common.{◌≡◌, ℕ, ◌≤◌, List, replicate}
use Rattle.calendar.specs.Calendar.{how_many}
use Rattle.calendar.specs.PassLaws.{open_in}
use Rattle.calendar.proofs.NumberingLaws.{numbers_to, stored_to}
use Rattle.calendar.proofs.numbered.Given as goal

abbrev pub zeros : List ℕ
zeros = replicate 16 0

-- the first i sites have their processes, and those of them that take part are stored
abbrev pub invariant-loop-i : goal.invariant-loop-i
invariant-loop-i l =
    (l.numbering.n ≤ l.i) × (l.numbering.n ≡ how_many (open_in l.sites) l.i)
    × (l.numbering.process_of ≡ numbers_to (open_in l.sites) l.i zeros)
    × (l.numbering.site_of ≡ stored_to (open_in l.sites) l.i zeros)
