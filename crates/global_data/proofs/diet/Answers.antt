-- The high half of the word, by its definition; it fits 16 bits.
use mathlib.Core.Path.{refl}
use Rattle.global_data.specs.GlobalData.{diet_of}
use Rattle.global_data.proofs.diet.Goals as goal

pub returns : goal.returns
unfolding diet_of
returns c = refl
