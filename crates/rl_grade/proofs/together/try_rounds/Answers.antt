use Rattle.std.proofs.Common.{◌≡◌, length, refl, sym, subst, ◌∙◌}
use Rattle.rl_desc.specs.Data.{DescData}
use Rattle.rl_flaw.specs.Flaws.{AreFlawsOf}
use Rattle.rl_grade.specs.Batch.{AreKnown, IsShown}
use Rattle.rl_grade.specs.Prelude.{IsBuiltWith, TasksFit, fresh_standings, kinds_of}
use Rattle.rl_grade.proofs.Rounds.{known_back, none_known}
use Rattle.rl_grade.proofs.together.try_rounds.Goals as goal

pub loop-init : goal.loop-init
loop-init g c = record {
  same = refl;
  known = none_known c.args.desc c.args.tasks.now c.args.shown.now.seen.items c.args.flaws.now _ c.in_ok-known.ensures;
}

pub try_round-requires-clause-built_with : goal.try_round-requires-clause-built_with
try_round-requires-clause-built_with g c = subst (λ (d : DescData). IsBuiltWith d.layout d.chip) (sym c.loop.invariant.same) c.requires.built_with

pub try_round-requires-clause-kinds : goal.try_round-requires-clause-kinds
try_round-requires-clause-kinds g c =
    subst (λ (d : DescData). d.layout.kinds ≡ kinds_of fresh_standings) (sym c.loop.invariant.same) c.requires.kinds

pub try_round-requires-clause-fits : goal.try_round-requires-clause-fits
try_round-requires-clause-fits g c =
    subst (λ (d : DescData). TasksFit d.chip (length d.layout.maps) c.args.tasks.now) (sym c.loop.invariant.same) c.requires.fits

pub try_round-requires-clause-flaws : goal.try_round-requires-clause-flaws
try_round-requires-clause-flaws g c =
    subst (λ (d : DescData). AreFlawsOf d.chip d.layout c.args.flaws.now) (sym c.loop.invariant.same) c.requires.flaws

pub try_round-requires-clause-shown : goal.try_round-requires-clause-shown
try_round-requires-clause-shown g c =
    subst (λ d. IsShown d c.args.tasks.now c.args.shown.now.seen.items) (sym c.loop.invariant.same) c.requires.shown

pub try_round-requires-clause-known : goal.try_round-requires-clause-known
try_round-requires-clause-known g c =
    subst (λ d. AreKnown d c.args.tasks.now c.args.shown.now.seen.items c.args.flaws.now c.loop.rounds.known.items) (sym c.loop.invariant.same) c.loop.invariant.known

pub loop-preserved : goal.loop-preserved
loop-preserved g c =
    let e = c.in_ok-rounds.ensures in
    record {
      same = e.desc ∙ c.loop.invariant.same;
      known = known_back c.args.desc c.args.tasks.now c.args.shown.now.seen.items _ c.args.flaws.now _ c.loop.invariant.same e.known;
    }
