use Rattle.rl_desc.proofs.Places.{text_is}
use Rattle.rl_desc.proofs.ThereLemmas.{kind_some}
use Rattle.rl_desc.proofs.flaw.kind_at.Goals as goal

pub returns-clause-kind : goal.returns-clause-kind
returns-clause-kind c = text_is c.args.name.now c.args.chip.now.kinds _ (rw c.text.ensures at c.kind_by_name.ensures)

pub returns-clause-there : goal.returns-clause-there
returns-clause-there c =
    kind_some c.args.chip.now c.args.name.now _ (text_is c.args.name.now c.args.chip.now.kinds _ (rw c.text.ensures at c.kind_by_name.ensures))
