use Rattle.std.proofs.Common.{◌&&◌, ap, ◌∙◌}
use Rattle.std.specs.Prelude.{position}
use Rattle.rl_map.specs.Layout.{same_item, is_in, place_of}
use Rattle.rl_map.proofs.Linking.{there_is}
use Rattle.rl_map.proofs.layout.Layout.place_of.Goals as goal

pub returns-clause-place : goal.returns-clause-place
returns-clause-place c =
    c.place_of.ensures ∙ ap (position (λ p. same_item p.item c.args.item && is_in c.args.map p.map)) c.deref.ensures.value
    ∙ ap (λ v. place_of v c.args.item c.args.map) c.self.view_is

pub returns-clause-there : goal.returns-clause-there
returns-clause-there c = there_is c.args.self.now c.args.item c.args.map c.place_of.result (returns-clause-place c)
