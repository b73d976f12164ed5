use Rattle.std.proofs.Common.{[], sym, ap, ◌∙◌, subst, refl}
use Rattle.rl_map.specs.Maps.{IsBuiltWith}
use Rattle.rl_desc.specs.Data.{DescData}
use Rattle.rl_session.specs.Judged.{first_world}
use Rattle.rl_session.proofs.FirstLemmas.{first_is}
use Rattle.rl_session.proofs.opening.model_of.Goals as goal

pub build-requires : goal.build-requires
build-requires c = record { built_with = subst (λ (d : DescData). IsBuiltWith d.layout d.chip) (sym c.desc.view_is) c.requires.built_with }

pub returns-clause-layout : goal.returns-clause-layout
returns-clause-layout c = c.in_ok-model.ensures.layout ∙ ap (λ (d : DescData). d.layout) c.desc.view_is

pub returns-clause-first : goal.returns-clause-first
returns-clause-first c =
    let m = c.in_ok-model.ensures in
    let chip = m.chip ∙ ap (λ (d : DescData). d.chip) c.desc.view_is in
    let layout = m.layout ∙ ap (λ (d : DescData). d.layout) c.desc.view_is in
    let mirror = m.mirror ∙ ap (λ (d : DescData). (first_world d []).model.mirror) c.desc.view_is in
    λ adapters. (first_is adapters c.in_ok-model.model c.args.desc _ chip layout mirror m.nothing_gathered m.sound refl).model_is
