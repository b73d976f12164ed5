use Rattle.std.proofs.Common.{◌≡◌, length, true}
use Rattle.rl_access.specs.Operation.{HasNumbers, is_single}
use Rattle.rl_script.specs.Said.{line_said}
use Rattle.rl_log.specs.Named.{op_named}
use Rattle.rl_log.proofs.Numbers.{op_numbers, op_single}
use Rattle.rl_play.proofs.NamedLemmas.{holds_where}
use Rattle.rl_play.proofs.resolve.op_of.Goals as goal

pub returns-clause-numbers : goal.returns-clause-numbers
returns-clause-numbers c =
    let m = c.args.model.now in
    let l = line_said c.args.line.now in
    holds_where (HasNumbers m.chip (length m.layout.maps)) c.line_op.result (op_named m l) c.line_op.ensures (op_numbers m l)

pub returns-clause-single : goal.returns-clause-single
returns-clause-single c =
    let m = c.args.model.now in
    let l = line_said c.args.line.now in
    holds_where (λ op. is_single op ≡ true) c.line_op.result (op_named m l) c.line_op.ensures (op_single m l)
