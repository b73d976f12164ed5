use denote.Param.Object.{read_made}
use mir.Syntax.{Dict}
use Rattle.std.proofs.Common.{refl, ap, ◌∙◌}
use Rattle.rl_apb.specs.declared.adapter.ApbAdapter.{ApbAdapter}
use Rattle.rl_apb.specs.Kinds.{apb_kind}
use Rattle.rl_bus.specs.declared.adapter.Adapter.{Ghosts}
use Rattle.rl_bus.specs.declared.plain.PlainAdapter.{PlainAdapter}
use Rattle.rl_bus.specs.Kinds.{plain_kind}
use Rattle.rl_bus.specs.Standing.{Standing}
use Rattle.rl_grade.specs.contracts.sort.try_flaws.{dyn-1-ghosts}
use Rattle.rl_grade.proofs.sort.try_flaws_afresh.OwnLists.{at-1-1, at-1-2, lawful-own-1, own-1}
use Rattle.rl_grade.proofs.Sorting.{sorted_afresh}
use Rattle.rl_grade.proofs.Started.{kinds_afresh, two_are}
use Rattle.rl_grade.proofs.sort.try_flaws_afresh.Goals as goal

abbrev plain_standing : PlainAdapter → Standing
plain_standing a = record { kind = plain_kind; tag = a.next_tag; trail = a.trail }

abbrev apb_standing : ApbAdapter → Standing
apb_standing a = record { kind = apb_kind; tag = a.next_serial; trail = a.trail }

pub try_flaws-requires-clause-kinds : goal.try_flaws-requires-clause-kinds
try_flaws-requires-clause-kinds c =
    kinds_afresh _ _
    (two_are _ _ _ _ _ _ _ _ c.in_ok-push-2.ensures.items c.in_ok-push.ensures.items c.new-adapters.ensures.items
    (read_made {G = Ghosts} {C = Dict} (dyn-1-ghosts (own-1, lawful-own-1)).0 _ at-1-1 refl Standing (λ j v. j.1.standing v)
    c.into_dyn_box.result.vtable c.into_dyn_box.result.value c.in_ok-new.field-0.value c.into_dyn_box.ensures.1 ∙ ap plain_standing (c.in_ok-new.ensures.ok ∙ c.fresh_adapters.ensures.plain))
    (read_made {G = Ghosts} {C = Dict} (dyn-1-ghosts (own-1, lawful-own-1)).0 _ at-1-2 refl Standing (λ j v. j.1.standing v)
    c.into_dyn_box-in_ok-new-2.result.vtable c.into_dyn_box-in_ok-new-2.result.value c.in_ok-new-2.field-0.value
    c.into_dyn_box-in_ok-new-2.ensures.1 ∙ ap apb_standing (c.in_ok-new-2.ensures.ok ∙ c.fresh_adapters.ensures.apb)))
    c.requires.kinds

pub returns-clause-found : goal.returns-clause-found
returns-clause-found c =
    sorted_afresh c.args.desc c.args.flaws.now c.args.tasks.now c.args.base.now c.try_flaws.result _
    (two_are _ _ _ _ _ _ _ _ c.in_ok-push-2.ensures.items c.in_ok-push.ensures.items c.new-adapters.ensures.items
    (read_made {G = Ghosts} {C = Dict} (dyn-1-ghosts (own-1, lawful-own-1)).0 _ at-1-1 refl Standing (λ j v. j.1.standing v)
    c.into_dyn_box.result.vtable c.into_dyn_box.result.value c.in_ok-new.field-0.value c.into_dyn_box.ensures.1 ∙ ap plain_standing (c.in_ok-new.ensures.ok ∙ c.fresh_adapters.ensures.plain))
    (read_made {G = Ghosts} {C = Dict} (dyn-1-ghosts (own-1, lawful-own-1)).0 _ at-1-2 refl Standing (λ j v. j.1.standing v)
    c.into_dyn_box-in_ok-new-2.result.vtable c.into_dyn_box-in_ok-new-2.result.value c.in_ok-new-2.field-0.value
    c.into_dyn_box-in_ok-new-2.ensures.1 ∙ ap apb_standing (c.in_ok-new-2.ensures.ok ∙ c.fresh_adapters.ensures.apb)))
    c.try_flaws.ensures.found
