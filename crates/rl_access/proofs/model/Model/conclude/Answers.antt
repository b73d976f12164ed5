use Rattle.std.proofs.Common.{ap, ◌∙◌}
use Rattle.rl_mirror.specs.Mirror.{MirrorData, mirrored_of, desired_of}
use Rattle.rl_access.proofs.Places.{event_fits}
use Rattle.rl_access.proofs.model.Model.conclude.Goals as goal

pub returns-clause-fits : goal.returns-clause-fits
returns-clause-fits c =
    let r = c.requires in
    let believed = c.mirror-mirror.ensures in
    event_fits c.args.self.now c.args.event.now.op c.args.reg c.args.end c.args.event.now.trace c.mirrored-event.result c.desired-event.result
    c.args.differ believed.sound r.reg r.register r.numbers r.ends r.within r.items r.differ
    (c.mirrored-event.ensures ∙ ap (λ (x : MirrorData). mirrored_of x c.args.reg) believed.mirror)
    (c.desired-event.ensures ∙ ap (λ (x : MirrorData). desired_of x c.args.reg) believed.mirror)
