-- How rounds ended, one after another.
use Rattle.std.specs.Prelude.{◌≡◌, refl, false, Option, Some, None, is_none}
use Rattle.sets.specs.Truth.{select}
use Rattle.sets.specs.TruthLaws.{select_on, select_off}
use Rattle.process.specs.declared.Closing.{Closing}
use Rattle.bench.specs.Closings.{last_of}

-- one after another: a later close is the one, and none adds nothing
pub last_close : (c d : Option Closing) → is_none d ≡ false → last_of c d ≡ d
unfolding last_of
last_close c d e = select_off _ _ _ e

pub last_none : (c : Option Closing) → last_of c None ≡ c
unfolding last_of
last_none c = select_on _ _ _ refl

pub none_last : (d : Option Closing) → last_of None d ≡ d
unfolding last_of select
none_last None = refl
none_last (Some x) = refl

pub last_last : (c d e : Option Closing) → last_of (last_of c d) e ≡ last_of c (last_of d e)
unfolding last_of select
last_last c d None = refl
last_last c d (Some x) = refl
