-- The low half of the word, by its definition; it fits 16 bits.
use mathlib.Core.Path.{refl}
use Rattle.global_data.specs.GlobalData.{portions_of}
use Rattle.global_data.proofs.portions.Goals as goal

pub returns : goal.returns
unfolding portions_of
returns c = refl
