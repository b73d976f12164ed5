use Rattle.std.proofs.Common.{subst}
use Rattle.rl_seq.specs.Visits.{IsVisit}
use Rattle.rl_seq.proofs.Turning.{mem_in, reg_in}
use Rattle.rl_seq.proofs.visit.Visit.turns.Goals as goal

pub bytes-requires : goal.bytes-requires
bytes-requires c =
    let m = c.args.model.now in
    reg_in _ (subst (IsVisit m.chip m.layout) c.in-Bash.is c.requires).0 c.chip.ensures.chip

pub size-requires : goal.size-requires
size-requires c =
    let m = c.args.model.now in
    mem_in _ (subst (IsVisit m.chip m.layout) c.in-Walk.is c.requires).0 c.chip-in-Walk.ensures.chip
