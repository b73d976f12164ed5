use Rattle.std.proofs.Common.{refl, arith}
use Rattle.rl_script.specs.declared.names.TheConstants.{IN_NAMES}
use Rattle.rl_script.specs.Names.{begins_name}
use Rattle.rl_script.proofs.TableLemmas.{agree_below, from_high}
use Rattle.rl_script.proofs.names.begins_name.Goals as goal

pub returns : goal.returns
unfolding agree_below
returns c = from_high begins_name IN_NAMES c.args.byte (omega arith) refl
