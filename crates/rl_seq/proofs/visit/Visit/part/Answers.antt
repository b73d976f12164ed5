use Rattle.std.proofs.Common.{Some, sym, ap, ◌∙◌}
use Rattle.rl_seq.specs.Visits.{part_of}
use Rattle.rl_seq.proofs.visit.Visit.part.Goals as goal

pub returns-in-Check-clause-part : goal.returns-in-Check-clause-part
returns-in-Check-clause-part c =
    let m = c.args.model.now in
    sym (ap (λ v. part_of m.chip m.layout m.mirror v c.args.turn c.args.part) c.in-Check.is)

pub returns-in-Bash-clause-part : goal.returns-in-Bash-clause-part
returns-in-Bash-clause-part c =
    let m = c.args.model.now in
    ap Some c.bash.ensures.part ∙ sym (ap (λ v. part_of m.chip m.layout m.mirror v c.args.turn c.args.part) c.in-Bash.is)

pub returns-in-Access-clause-part : goal.returns-in-Access-clause-part
returns-in-Access-clause-part c =
    let m = c.args.model.now in
    ap Some c.access.ensures.part ∙ sym (ap (λ v. part_of m.chip m.layout m.mirror v c.args.turn c.args.part) c.in-Access.is)

pub returns-in-Share-clause-part : goal.returns-in-Share-clause-part
returns-in-Share-clause-part c =
    let m = c.args.model.now in
    c.share.ensures.part ∙ sym (ap (λ v. part_of m.chip m.layout m.mirror v c.args.turn c.args.part) c.in-Share.is)

pub returns-in-Walk-clause-part : goal.returns-in-Walk-clause-part
returns-in-Walk-clause-part c =
    let m = c.args.model.now in
    c.walk.ensures.part ∙ sym (ap (λ v. part_of m.chip m.layout m.mirror v c.args.turn c.args.part) c.in-Walk.is)
