use Rattle.std.proofs.Common.{refl, []}
use Rattle.rl_access.specs.declared.event.End.TheVariants as end
use Rattle.rl_access.specs.declared.event.Op.TheVariants as op
use Rattle.rl_access.proofs.OverBus.{is_show}
use Rattle.rl_access.proofs.Performed.{quiet_performs}
use Rattle.rl_access.proofs.wishes.show_into.Goals as goal

pub returns-clause-performs : goal.returns-clause-performs
returns-clause-performs c adapters account device =
    let m = c.args.model.now in
    let asked = op.Show c.args.reg in
    quiet_performs m m asked asked 0 c.args.reg c.args.reg end.Done [] c.fill.new.event adapters account device refl refl (is_show m c.args.reg) refl refl c.fill.ensures.event
