use Rattle.rl_grade.specs.declared.recorders.Keep.{Keep}
use Rattle.rl_grade.proofs.Finding.{kept_all, kept_items}
use Rattle.rl_grade.proofs.run.show.Goals as goal

pub returns-in-Ok-clause-seen : goal.returns-in-Ok-clause-seen
returns-in-Ok-clause-seen g c =
    kept_all (λ (k : Keep). k.seen.items) (λ (k : Keep). k.items) _ _ _ c.in-Ok.ensures.drives.whole c.new.ensures.items

pub returns-in-Ok-clause-items : goal.returns-in-Ok-clause-items
returns-in-Ok-clause-items g c =
    kept_items (λ (k : Keep). k.seen.items) (λ (k : Keep). k.items) _ _ _ c.in-Ok.ensures.drives.whole
