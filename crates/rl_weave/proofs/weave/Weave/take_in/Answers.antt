use Rattle.std.proofs.Common.{◌≡◌, rules, [], All, ap, sym, ◌∙◌, subst, arith}
use Rattle.std.proofs.lemmas.Fn.{filter_same}
use Rattle.std.proofs.lemmas.List.Elements.{All-push, All-nil}
use Rattle.rl_access.specs.Event.{ItemFits}
use Rattle.rl_weave.specs.declared.woven.Woven.{Woven}
use Rattle.rl_weave.specs.Access.{IsWovenOn}
use Rattle.rl_weave.specs.Weave.{WeaveData, without, stepped}
use Rattle.rl_weave.proofs.Endings.{few_words}
use Rattle.rl_weave.proofs.Granted.{granted_is}
use Rattle.rl_weave.proofs.Weaves.{found_in, weave_closed, weave_kept, stepped_over, on_kept, on_with, not_over}
use Rattle.rl_weave.proofs.weave.Weave.take_in.Goals as goal

pub push-requires : goal.push-requires
push-requires c =
    let v = c.index_mut-woven.result.now in
    let f = found_in c.args.model.now _ _ c.args.which v c.self.view_is c.self.invariant.0 c.requires.open c.requires.on c.index_mut-woven.ensures.value in
    let at = granted_is c.args.model.now v.access.reg v.access.map v.access.value v.place f.on.granted in
    omega (arith, f.short, f.on.words, few_words c.args.model.now v.place c.layout.ensures.sound at.there.inside)

pub invariant_of-self : goal.invariant_of-self
invariant_of-self c =
    let v = c.index_mut-woven.result.now in
    let w : WeaveData = record { accesses = c.self.inside.accesses.items; still_open = c.self.inside.still_open.items; fresh = c.self.inside.fresh } in
    let f = found_in c.args.model.now _ _ c.args.which v c.self.view_is c.self.invariant.0 c.requires.open c.requires.on c.index_mut-woven.ensures.value in
    let left : c.retain.new.self.items ≡ without c.args.which c.self.inside.still_open.items = filter_same _ _ _ (λ x b f' k. search rules) _ _ c.retain.ensures.filtered in (
      rw left (weave_closed w c.args.which c.close.new.self c.self.invariant.0 f.inside
          (ap (λ (u : Woven). u.access.reg) c.close.ensures.left ∙ ap (λ (u : Woven). u.access.reg) f.here)),
      c.self.invariant.1,
      omega (arith, c.retain.ensures.capacity, c.self.invariant.2),
    )

pub invariant_of-self-else-is_over : goal.invariant_of-self-else-is_over
invariant_of-self-else-is_over c =
    let v = c.index_mut-woven.result.now in
    let w : WeaveData = record { accesses = c.self.inside.accesses.items; still_open = c.self.inside.still_open.items; fresh = c.self.inside.fresh } in
    let f = found_in c.args.model.now _ _ c.args.which v c.self.view_is c.self.invariant.0 c.requires.open c.requires.on c.index_mut-woven.ensures.value in (
      weave_kept w c.args.which (record v { items = c.push.new.self }) c.self.invariant.0 f.inside (ap (λ (u : Woven). u.access.reg) f.here)
          (not_over v c.args.item c.push.new.self f.short (sym c.is_over.ensures ∙ c.if-is_over.false) c.push.ensures),
      c.self.invariant.1,
      c.self.invariant.2,
    )

pub returns-then-is_over-clause-stepped : goal.returns-then-is_over-clause-stepped
returns-then-is_over-clause-stepped c =
    let v = c.index_mut-woven.result.now in
    let f = found_in c.args.model.now _ _ c.args.which v c.self.view_is c.self.invariant.0 c.requires.open c.requires.on c.index_mut-woven.ensures.value in
    let left : c.retain.new.self.items ≡ without c.args.which c.self.inside.still_open.items = filter_same _ _ _ (λ x b f' k. search rules) _ _ c.retain.ensures.filtered in
    let w : WeaveData = record { accesses = c.self.inside.accesses.items; still_open = c.self.inside.still_open.items; fresh = c.self.inside.fresh } in
    stepped_over w c.args.which v c.close.new.self c.args.item c.retain.new.self.items f.here (sym c.is_over.ensures ∙ c.if-is_over.true) c.close.ensures.left left
    ∙ ap (λ (x : WeaveData). stepped x c.args.which c.args.item) c.self.view_is

pub returns-then-is_over-clause-on : goal.returns-then-is_over-clause-on
returns-then-is_over-clause-on c =
    let v = c.index_mut-woven.result.now in
    let all = subst (λ (x : WeaveData). All (IsWovenOn c.args.model.now) x.accesses) (sym c.self.view_is) c.requires.on in
    let f = found_in c.args.model.now _ _ c.args.which v c.self.view_is c.self.invariant.0 c.requires.open c.requires.on c.index_mut-woven.ensures.value in
    on_kept c.args.model.now c.self.inside.accesses.items c.args.which c.close.new.self all
    (subst (IsWovenOn c.args.model.now) (sym c.close.ensures.left) (on_with c.args.model.now v [] f.on (All-nil (ItemFits c.args.model.now.layout))))

pub returns-else-is_over-clause-on : goal.returns-else-is_over-clause-on
returns-else-is_over-clause-on c =
    let v = c.index_mut-woven.result.now in
    let all = subst (λ (x : WeaveData). All (IsWovenOn c.args.model.now) x.accesses) (sym c.self.view_is) c.requires.on in
    let f = found_in c.args.model.now _ _ c.args.which v c.self.view_is c.self.invariant.0 c.requires.open c.requires.on c.index_mut-woven.ensures.value in
    let fit : All (ItemFits c.args.model.now.layout) c.push.new.self =
    subst (All (ItemFits c.args.model.now.layout)) (sym c.push.ensures) (All-push (ItemFits c.args.model.now.layout) v.items c.args.item f.on.items c.requires.item) in
    on_kept c.args.model.now c.self.inside.accesses.items c.args.which (record v { items = c.push.new.self }) all
    (on_with c.args.model.now v c.push.new.self f.on fit)
