use Rattle.std.proofs.Common.{refl, arith}
use Rattle.rl_script.specs.declared.names.TheConstants.{IN_NAMES}
use Rattle.rl_script.specs.Names.{is_in_name}
use Rattle.rl_script.proofs.TableLemmas.{agree_below, from_table}
use Rattle.rl_script.proofs.names.is_in_name.Goals as goal

pub returns : goal.returns
unfolding agree_below
returns c = from_table is_in_name IN_NAMES c.args.byte (omega arith) refl
