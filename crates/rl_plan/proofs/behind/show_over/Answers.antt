use Rattle.std.proofs.Common.{[], sym, ap, ◌∙◌}
use Rattle.rl_bus.specs.Standing.{kinds_of}
use Rattle.rl_map.specs.Layout.{LayoutData}
use Rattle.rl_grade.specs.Find.{all_seen}
use Rattle.rl_grade.specs.Job.{heard_by}
use Rattle.rl_grade.specs.Record.{items_from}
use Rattle.rl_plan.proofs.BehindLemmas.{desc_kept, fits_again, none_are, world_is}
use Rattle.rl_plan.proofs.behind.show_over.Goals as goal

pub open-requires-clause-flaws : goal.open-requires-clause-flaws
open-requires-clause-flaws g c = none_are c.args.desc.chip c.args.desc.layout c.args.desc.flaws c.requires.none

pub show-requires-clause-ready : goal.show-requires-clause-ready
show-requires-clause-ready g c =
    let opened = c.in_ok-model.ensures.opened in
    record {
      kinds = ap kinds_of c.requires.fresh ∙ sym c.requires.can_try.kinds ∙ ap (λ (l : LayoutData). l.kinds) (sym opened.layout);
      device = opened.device;
    }

pub show-requires-clause-fits : goal.show-requires-clause-fits
show-requires-clause-fits g c = fits_again c.args.desc _ (c.in_ok-model.ensures.first []).model_is _ c.requires.can_try.fits

pub returns-clause-desc : goal.returns-clause-desc
returns-clause-desc g c =
    c.unflawed_desc.ensures.desc
    ∙ desc_kept c.args.desc _ _ (c.in_ok-model.ensures.first []).model_is c.show.ensures.parts c.requires.none

pub returns-clause-seen : goal.returns-clause-seen
returns-clause-seen g c =
    c.in_ok-shown.ensures.seen
    ∙ ap (λ w. all_seen (heard_by w c.args.tasks.now)) (world_is _ _ c.args.desc _ c.requires.fresh (c.in_ok-model.ensures.first _))

pub returns-clause-items : goal.returns-clause-items
returns-clause-items g c =
    c.in_ok-shown.ensures.items
    ∙ ap (λ w. items_from 0 (heard_by w c.args.tasks.now)) (world_is _ _ c.args.desc _ c.requires.fresh (c.in_ok-model.ensures.first _))
