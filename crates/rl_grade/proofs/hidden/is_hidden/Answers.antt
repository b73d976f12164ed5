use Rattle.rl_grade.proofs.HiddenTests.{there}
use Rattle.rl_grade.proofs.hidden.is_hidden.Goals as goal

pub is_silent_by-requires : goal.is_silent_by-requires
is_silent_by-requires c = there c.args.chip.now c.args.layout.now c.args.flaw c.requires

pub is_unchecked-requires : goal.is_unchecked-requires
is_unchecked-requires c = there c.args.chip.now c.args.layout.now c.args.flaw c.requires
