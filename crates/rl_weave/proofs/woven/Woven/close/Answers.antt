use Rattle.std.proofs.Common.{◌≡◌, true, All, ap, sym, ◌∙◌, subst}
use Rattle.std.proofs.lemmas.List.Elements.{All-push}
use Rattle.rl_access.specs.declared.event.Op.{Op}
use Rattle.rl_access.specs.Event.{ItemFits}
use Rattle.rl_access.specs.Operation.{has_end}
use Rattle.rl_access.specs.Rules.{named}
use Rattle.rl_map.specs.Layout.{place_at}
use Rattle.rl_model.specs.Fields.{size_of}
use Rattle.rl_weave.specs.declared.woven.Woven.{Woven}
use Rattle.rl_weave.specs.Access.{op_of}
use Rattle.rl_weave.proofs.Endings.{named_ends, named_fails}
use Rattle.rl_weave.proofs.Granted.{granted_is, granted_size}
use Rattle.rl_weave.proofs.woven.Woven.close.Goals as goal
use Rattle.rl_weave.proofs.woven.Woven.close.Goals.{then-item, else-item}

pub good_end-end-requires-clause-bytes : goal.good_end-end-requires-clause-bytes
good_end-end-requires-clause-bytes c =
    let m = c.args.model.now in
    let v = c.args.self.now in
    ap (λ (u : Woven). (place_at m.layout u.place).bytes) c.give_items.ensures.left
    ∙ granted_size m v.access.reg v.access.map v.access.value v.place c.layout.ensures.sound (granted_is m v.access.reg v.access.map v.access.value v.place c.requires.on.granted)
    ∙ sym (ap (λ (u : Woven). size_of m.chip u.access.reg) c.give_items.ensures.left)

pub conclude-requires-clause-ends : goal.conclude-requires-clause-ends
conclude-requires-clause-ends c =
    let m = c.args.model.now in
    let v = c.args.self.now in
    elim c.if-item.branch [
      | then-item w ↦
          ap (λ (o : Op). has_end o c.if-item.end) c.op_used-event.ensures
          ∙ ap (has_end (named m (op_of v.access))) w.end-is
          ∙ named_fails m v.access.reg c.len-word.result v.access.map v.access.value
      | else-item w ↦
          ap (λ (o : Op). has_end o c.if-item.end) c.op_used-event.ensures
          ∙ ap (has_end (named m (op_of v.access))) w.end-is
          ∙ named_ends m v.access.reg v.access.map v.access.value w.good_end-end.result
          (subst (λ (u : Woven). has_end (op_of u.access) w.good_end-end.result ≡ true) c.give_items.ensures.left w.good_end-end.ensures.ends)
    ]

pub conclude-requires-clause-items : goal.conclude-requires-clause-items
conclude-requires-clause-items c =
    let fits = ItemFits c.args.model.now.layout in
    subst (All fits) (sym c.give_items.ensures.items) (All-push fits c.args.self.now.items c.args.item c.requires.on.items c.requires.item)
