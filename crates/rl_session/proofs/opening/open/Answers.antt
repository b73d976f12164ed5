use Rattle.std.proofs.Common.{◌≡◌, List, [], Some, refl, sym, ap, ◌∙◌, subst}
use Rattle.rl_map.specs.Maps.{IsBuiltWith}
use Rattle.rl_access.specs.Model.{IsModel, ModelData}
use Rattle.rl_flaw.specs.Flaws.{AreFlawsOf, first_of}
use Rattle.rl_bench.specs.State.{bench_state}
use Rattle.rl_desc.specs.Data.{DescData}
use Rattle.rl_session.proofs.FirstLemmas.{device_built}
use Rattle.rl_model.specs.Rows.{ChipData}
use Rattle.rl_map.specs.Layout.{LayoutData}
use Rattle.rl_flaw.specs.declared.flaw.Flaw.{Flaw}
use Rattle.rl_session.proofs.opening.open.Goals as goal

-- its parts are those of the description
first_built : (d : DescData) (chip : ChipData) (layout : LayoutData) (flaws own : List Flaw) → flaws ≡ own
    → record { chip = chip; layout = layout; flaws = own } ≡ d
    → first_of chip layout flaws ≡ first_of d.chip d.layout d.flaws
first_built d chip layout flaws own same is =
    ap (first_of chip layout) same ∙ ap (λ (d : DescData). first_of d.chip d.layout d.flaws) is

pub build-requires-clause-built_with : goal.build-requires-clause-built_with
build-requires-clause-built_with c =
    subst (λ (d : DescData). IsBuiltWith d.layout d.chip) (sym c.desc.view_is) c.requires.built_with

pub build-requires-clause-flaws : goal.build-requires-clause-flaws
build-requires-clause-flaws c =
    subst (AreFlawsOf c.desc.inside.chip c.desc.inside.layout) (sym c.deref.ensures.value)
    (subst (λ (d : DescData). AreFlawsOf d.chip d.layout d.flaws) (sym c.desc.view_is) c.requires.flaws)

pub returns-clause-opened : goal.returns-clause-opened
returns-clause-opened c =
    let m = c.in_ok-model.ensures in
    let d = c.args.desc in
    let chip = ap (λ (m : ModelData). m.chip) (m.first []) in
    record {
      chip = chip;
      layout = m.layout;
      device = device_built c.in_ok-model.model d.chip d.layout d.flaws (bench_state c.in_ok-bench.bench) chip m.layout
          (c.in_ok-bench.ensures.state ∙ first_built d c.desc.inside.chip c.desc.inside.layout c.deref.result.now _ c.deref.ensures.value c.desc.view_is);
    }

pub returns-clause-first : goal.returns-clause-first
returns-clause-first c = λ adapters. record {
  model_is = c.in_ok-model.ensures.first adapters;
  adapters_are = refl;
  device_is = ap Some (c.in_ok-bench.ensures.state
      ∙ first_built c.args.desc c.desc.inside.chip c.desc.inside.layout c.deref.result.now _ c.deref.ensures.value c.desc.view_is);
}

pub returns-clause-sound : goal.returns-clause-sound
returns-clause-sound c = λ adapters. subst IsModel (c.in_ok-model.ensures.first adapters) c.in_ok-model.ensures.sound
