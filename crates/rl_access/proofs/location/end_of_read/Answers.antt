use Rattle.std.proofs.Common.{◌<◌, ◌^◌, sym, subst, ◌∙◌}
use Rattle.rl_map.specs.Layout.{place_at}
use Rattle.rl_split.proofs.Sent.{joined_fits}
use Rattle.rl_access.specs.Items.{words_answered}
use Rattle.rl_access.specs.Rules.{location_bytes}
use Rattle.rl_access.proofs.Locations.{location_digits}
use Rattle.rl_access.proofs.Places.{location_at}
use Rattle.rl_access.proofs.location.end_of_read.Goals as goal

pub returns-in-None-clause-within : goal.returns-in-None-clause-within
returns-in-None-clause-within c =
    let m = c.args.model.now in
    let l = m.layout in
    location_digits m c.args.mem c.args.place c.args.value c.layout.ensures.sound c.requires.place
    (subst (λ v. v < 256 ^ (place_at l c.args.place).bytes) (sym (c.requires.value (sym c.failed_at.ensures ∙ c.in-None.is)))
    (joined_fits l c.args.place c.args.index (location_bytes m c.args.mem) (words_answered c.args.trace.now) c.layout.ensures.sound.layout
    (location_at m c.args.mem c.args.place c.args.index c.layout.ensures.sound c.requires.place c.requires.index)))
