-- A page: a lent slice and how many of its bytes are written, from the front on.
use Rattle.std.specs.Prelude.{◌≡◌, List, ℕ, ◌+◌, ◌≤◌, length}
use Rattle.bench.specs.TransitLaws.{Stores}
use Rattle.transit.specs.declared.Page.{Page}

-- there is room for some bytes
abbrev pub Room : Page → List ℕ → Type 0
Room p l = p.at + length l ≤ length p.out.now

-- they have been written, and the slice is the same one
pub record Writes (p : Page) (l : List ℕ) (q : Page) : Type 0 where
  pub same_slice : q.out.ghost_name ≡ p.out.ghost_name
  pub stored : Stores p.out.now p.at l q.out.now q.at
