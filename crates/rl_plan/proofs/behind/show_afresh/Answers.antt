use denote.Param.Object.{read_made}
use mir.Syntax.{Dict}
use Rattle.std.proofs.Common.{refl, ap, ◌∙◌}
use Rattle.rl_apb.specs.declared.adapter.ApbAdapter.{ApbAdapter}
use Rattle.rl_apb.specs.Kinds.{apb_kind}
use Rattle.rl_bus.specs.declared.adapter.Adapter.{Ghosts}
use Rattle.rl_bus.specs.declared.plain.PlainAdapter.{PlainAdapter}
use Rattle.rl_bus.specs.Kinds.{plain_kind}
use Rattle.rl_bus.specs.Standing.{Standing}
use Rattle.rl_plan.specs.contracts.behind.show_over.{dyn-1-ghosts}
use Rattle.rl_plan.proofs.behind.show_afresh.OwnLists.{at-1-1, at-1-2, lawful-own-1, own-1}
use Rattle.rl_plan.proofs.BehindLemmas.{two_are}
use Rattle.rl_plan.proofs.behind.show_afresh.Goals as goal

abbrev plain_standing : PlainAdapter → Standing
plain_standing a = record { kind = plain_kind; tag = a.next_tag; trail = a.trail }

abbrev apb_standing : ApbAdapter → Standing
apb_standing a = record { kind = apb_kind; tag = a.next_serial; trail = a.trail }

pub show_over-requires-clause-fresh : goal.show_over-requires-clause-fresh
show_over-requires-clause-fresh c =
    two_are _ _ _ _ _ _ _ _ c.in_ok-push-2.ensures.items c.in_ok-push.ensures.items c.new-adapters.ensures.items
    (read_made {G = Ghosts} {C = Dict} (dyn-1-ghosts (own-1, lawful-own-1)).0 _ at-1-1 refl Standing (λ j v. j.1.standing v)
    c.into_dyn_box.result.vtable c.into_dyn_box.result.value c.in_ok-new.field-0.value c.into_dyn_box.ensures.1 ∙ ap plain_standing (c.in_ok-new.ensures.ok ∙ c.fresh_adapters.ensures.plain))
    (read_made {G = Ghosts} {C = Dict} (dyn-1-ghosts (own-1, lawful-own-1)).0 _ at-1-2 refl Standing (λ j v. j.1.standing v)
    c.into_dyn_box-in_ok-new-2.result.vtable c.into_dyn_box-in_ok-new-2.result.value c.in_ok-new-2.field-0.value
    c.into_dyn_box-in_ok-new-2.ensures.1 ∙ ap apb_standing (c.in_ok-new-2.ensures.ok ∙ c.fresh_adapters.ensures.apb))
