-- What the event of a done operation tells.
use Rattle.std.proofs.Common.{◌≡◌, ℕ, List, [], Option, None, Some, refl, sym, ap, ◌∙◌}
use Rattle.rl_mirror.specs.Mirror.{MirrorData}
use Rattle.rl_access.specs.declared.event.End.{End}
use Rattle.rl_access.specs.declared.event.End.TheVariants as end
use Rattle.rl_access.specs.declared.event.Event.{Event}
use Rattle.rl_access.specs.declared.event.Op.{Op}
use Rattle.rl_access.specs.declared.event.Refused.{Refused}
use Rattle.rl_access.specs.declared.trace.TraceItem.{TraceItem}
use Rattle.rl_access.specs.Call.{Scene, IsDone, IsRefused}
use Rattle.rl_access.specs.Model.{ModelData}
use Rattle.rl_access.specs.Operation.{register_of}
use Rattle.rl_access.specs.Rules.{Outcome, named, outcome, quiet, event_at}
use Rattle.rl_plain.specs.Machine.{Machine, mirror_of, value_at, told}
use Rattle.rl_plain.specs.Calls.{without_items}

-- an event without items, by its parts
abbrev told_at : Option ℕ → Op → End → (differ : ℕ) → MirrorData → Event
told_at on op e differ m = record { op = op; end = e; trace = []; mirrored = value_at on m.mirrored; desired = value_at on m.desired; differ = differ }

bare_is : (on : Option ℕ) (op : Op) (items : List TraceItem) (o : Outcome) → without_items (event_at on op items o) ≡ told_at on op o.end o.differ o.model.mirror
bare_is None op items o = refl
bare_is (Some reg) op items o = refl

end_at : (on : Option ℕ) (op : Op) (items : List TraceItem) (o : Outcome) → (event_at on op items o).end ≡ o.end
end_at None op items o = refl
end_at (Some reg) op items o = refl

differ_at : (on : Option ℕ) (op : Op) (items : List TraceItem) (o : Outcome) → (event_at on op items o).differ ≡ o.differ
differ_at None op items o = refl
differ_at (Some reg) op items o = refl

pub done_told : (s new : Scene) (op : Op) (place : ℕ) (event : Event) (e : End) (differ : ℕ) (p : Machine) → IsDone s new op place event → event.end ≡ e → event.differ ≡ differ →
    new.model.mirror ≡ mirror_of p →
    without_items event ≡ told s.model.chip (named s.model op) e differ p
done_told s new op place event e differ p done ends finds mirror =
    let is = named s.model op in
    let on = register_of s.model.chip is in
    let o : Outcome = outcome s.model op place done.sampled event.trace in
    let first : o.end ≡ e = sym (ap (λ (e : Event). e.end) done.event_is ∙ end_at on is event.trace o) ∙ ends in
    let second : o.differ ≡ differ = sym (ap (λ (e : Event). e.differ) done.event_is ∙ differ_at on is event.trace o) ∙ finds in
    let third : o.model.mirror ≡ mirror_of p = sym (ap (λ (m : ModelData). m.mirror) done.model) ∙ mirror in
    ap without_items done.event_is
    ∙ bare_is on is event.trace o
    ∙ ap (λ x. told_at on is x o.differ o.model.mirror) first
    ∙ ap (λ x. told_at on is e x o.model.mirror) second
    ∙ ap (told_at on is e differ) third

pub refused_told : (s new : Scene) (op : Op) (why : Refused) (event : Event) (p : Machine) → IsRefused s new op why event → s.model.mirror ≡ mirror_of p →
    without_items event ≡ told s.model.chip (named s.model op) (end.Refused why) 0 p
refused_told s new op why event p refused mirror =
    let is = named s.model op in
    let on = register_of s.model.chip is in
    ap without_items refused.event_is ∙ bare_is on is [] (quiet (end.Refused why) s.model) ∙ ap (told_at on is (end.Refused why) 0) mirror
