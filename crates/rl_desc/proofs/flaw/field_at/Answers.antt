use Rattle.rl_desc.proofs.Places.{field_is}
use Rattle.rl_desc.proofs.ThereLemmas.{field_some}
use Rattle.rl_desc.proofs.flaw.field_at.Goals as goal

pub returns-clause-field : goal.returns-clause-field
returns-clause-field c = field_is c.args.chip.now c.args.path.now _ (rw c.text.ensures at c.field_by_path.ensures)

pub returns-clause-there : goal.returns-clause-there
returns-clause-there c =
    field_some c.args.chip.now c.args.path.now _ (field_is c.args.chip.now c.args.path.now _ (rw c.text.ensures at c.field_by_path.ensures))
