use Rattle.std.proofs.Common.{◌++◌, [], Some, sym, ap, subst, ◌∙◌}
use Rattle.rl_access.specs.Model.{IsModel}
use Rattle.rl_access.specs.World.{IsAt}
use Rattle.rl_desc.specs.Data.{DescData}
use Rattle.rl_flaw.specs.Flaws.{AreFlawsOf}
use Rattle.rl_grade.specs.Prelude.{IsBuiltWith, bench_state, first_world}
use Rattle.rl_grade.specs.Together.{with_flaws}
use Rattle.rl_grade.proofs.Trials.{sound_by}
use Rattle.rl_grade.proofs.trial.begin.Goals as goal

pub open-requires-clause-built_with : goal.open-requires-clause-built_with
open-requires-clause-built_with c = subst (λ (d : DescData). IsBuiltWith d.layout d.chip) (sym c.desc.view_is) c.requires.built_with

pub open-requires-clause-flaws : goal.open-requires-clause-flaws
open-requires-clause-flaws c =
    let own = c.extend_from_slice.new.self.items in
    let same = c.in_ok-extend_from_slice.ensures.items ∙ ap (λ xs. xs ++ c.args.flaws.now) c.new-own.ensures.items in
    subst (λ (d : DescData). AreFlawsOf d.chip d.layout own) (sym c.desc.view_is)
    (subst (AreFlawsOf c.args.desc.chip c.args.desc.layout) (sym same) c.requires.flaws)

pub returns-clause-begun : goal.returns-clause-begun
returns-clause-begun c =
    let opened = c.in_ok-model.ensures.opened in
    let own = c.extend_from_slice.new.self.items in
    let same = c.in_ok-extend_from_slice.ensures.items ∙ ap (λ xs. xs ++ c.args.flaws.now) c.new-own.ensures.items in
    record {
      chip = opened.chip ∙ ap (λ (d : DescData). d.chip) c.desc.view_is;
      layout = opened.layout ∙ ap (λ (d : DescData). d.layout) c.desc.view_is;
      declared_are = ap (λ (d : DescData). d.flaws) c.desc.view_is;
      device = opened.device;
      first = λ adapters.
          subst (λ (d : DescData). IsAt c.in_ok-model.model adapters (Some (bench_state c.in_ok-model.bench)) (first_world d adapters))
          (ap (λ (d : DescData). with_flaws d own) c.desc.view_is ∙ ap (with_flaws c.args.desc) same) (c.in_ok-model.ensures.first adapters);
    }

pub returns-clause-sound : goal.returns-clause-sound
returns-clause-sound c =
    let own = c.extend_from_slice.new.self.items in
    sound_by c.args.desc own (subst (λ (d : DescData). IsModel (first_world d []).model) (ap (λ (d : DescData). with_flaws d own) c.desc.view_is)
    (c.in_ok-model.ensures.sound []))
