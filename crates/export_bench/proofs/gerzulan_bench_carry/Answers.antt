-- The bench stays, and its check is the answer.
use Rattle.std.proofs.Common.{refl, ap, ◌∙◌}
use Rattle.bench.specs.Carry.{carry_of}
use Rattle.refusal.specs.Host.{answer_number}
use Rattle.export_bench.proofs.gerzulan_bench_carry.Goals as goal

pub returns : goal.returns
unfolding carry_of
returns c = (c.answer_number.ensures ∙ ap answer_number c.checked.ensures, refl)
