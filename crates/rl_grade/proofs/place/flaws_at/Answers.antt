use Rattle.std.proofs.Common.{◌<◌, length, sym, subst}
use Rattle.std.specs.Prelude.{All, IfOk}
use Rattle.rl_flaw.specs.Flaws.{IsFlawOf}
use Rattle.rl_desc.specs.Data.{DescData}
use Rattle.rl_model.specs.Chip.{HasItem}
use Rattle.rl_policy.specs.declared.policy.TheConstants.{POLICIES}
use Rattle.rl_grade.specs.Flaws.{field_flaws, item_flaws}
use Rattle.rl_grade.proofs.Listed.{each_of, field_flaws_are, item_flaws_are}
use Rattle.rl_grade.proofs.place.flaws_at.Goals as goal

pub returns-in-OfItem-clause-each : goal.returns-in-OfItem-clause-each
returns-in-OfItem-clause-each c =
    let d = c.desc.inside in
    let item = c.in-OfItem.item in
    let there = subst (λ (d : DescData). HasItem d.chip item) (sym c.desc.view_is) (rw c.in-OfItem.is at c.requires.place) in
    subst (λ (d : DescData). IfOk c.item_flaws.result (λ flaws. All (IsFlawOf d.chip d.layout) flaws.items)) c.desc.view_is
    (each_of c.item_flaws.result (λ flaws. flaws.items) (All (IsFlawOf d.chip d.layout)) (item_flaws d.chip d.layout item)
    c.item_flaws.ensures (item_flaws_are d.chip c.regs.ensures.sound d.layout c.ports.ensures.sound item there))

pub returns-in-OfField-clause-each : goal.returns-in-OfField-clause-each
returns-in-OfField-clause-each c =
    let d = c.desc.inside in
    let field = c.in-OfField.field in
    let there = subst (λ (d : DescData). field < length d.chip.fields) (sym c.desc.view_is) (rw c.in-OfField.is at c.requires.place) in
    subst (λ (d : DescData). IfOk c.field_flaws.result (λ flaws. All (IsFlawOf d.chip d.layout) flaws.items)) c.desc.view_is
    (each_of c.field_flaws.result (λ flaws. flaws.items) (All (IsFlawOf d.chip d.layout)) (field_flaws d.chip field POLICIES)
    c.field_flaws.ensures (field_flaws_are d.chip c.regs.ensures.sound d.layout field POLICIES there))
