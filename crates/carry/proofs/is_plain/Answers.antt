use Rattle.std.proofs.Common.{rules}
use Rattle.sets.specs.Tests.{both_are}
use Rattle.bench.specs.Carry.{plain_data, plain_process, plain_bench}
use Rattle.carry.proofs.is_plain.Goals as goal

pub returns : goal.returns
unfolding plain_bench plain_process
returns c =
    both_are (c.all_pass.ensures plain_process (λ x r h. search rules))
    (c.all_pass-2.ensures plain_data (λ x r h. search rules))
