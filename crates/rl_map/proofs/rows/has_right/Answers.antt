use Rattle.std.proofs.Common.{ap, ◌∙◌, sym}
use Rattle.rl_map.specs.Layout.{has_right}
use Rattle.rl_map.proofs.Rights.{reads, writes}
use Rattle.rl_map.proofs.rows.has_right.Goals as goal

pub returns-then-write : goal.returns-then-write
returns-then-write c = c.contains.ensures _ ∙ writes c.args.rights.bits ∙ sym (ap (λ b. has_right c.args.rights b) c.if-write.true)

pub returns-else-write : goal.returns-else-write
returns-else-write c = c.contains-else-write.ensures _ ∙ reads c.args.rights.bits ∙ sym (ap (λ b. has_right c.args.rights b) c.if-write.false)
