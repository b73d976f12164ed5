-- What a call performs over a device that tells its state is the step.
use Rattle.std.proofs.Common.{◌≡◌, ℕ, ◌+◌, length, Bool, true, false, List, [], ◌∷◌, if◌then◌else◌, Option, Some, None, Ok, Err, MatchResult, refl, sym, ap, subst, ◌∙◌}
use Rattle.std.specs.Bool.{MatchBool}
use Rattle.rl_bus.specs.Account.{Account, Request, without_peer}
use Rattle.rl_bus.proofs.Asking.{asks_alone}
use Rattle.rl_bus.specs.Standing.{Standing, standing_at}
use Rattle.rl_bus.specs.State.{State, answer_of, state_after}
use Rattle.rl_bus.specs.declared.op.BusOp.{BusOp}
use Rattle.rl_access.specs.declared.event.Event.{Event}
use Rattle.rl_access.specs.declared.event.Op.{Op}
use Rattle.rl_access.specs.declared.event.Refused.{Refused}
use Rattle.rl_access.specs.declared.trace.TraceItem.{TraceItem}
use Rattle.rl_access.specs.Call.{Scene, scene, IsRefused, IsDone, Performs}
use Rattle.rl_access.specs.Items.{AreItemsOf, item_of, items_of, took_item, moved_on_by_all, port_for, adapter_for}
use Rattle.rl_access.specs.Operation.{register_of}
use Rattle.rl_access.specs.Rules.{Grant, grant, named, sends, Outcome, outcome, event_at, event_of, found_by, device_after, deposited, asks_of}
use Rattle.rl_access.specs.World.{World, IsAt, Step, scene_at, IsStepOf, IsPerformed, items_at, done_at, unchanged, step_by, step_of}

-- the scene is this world
abbrev pub IsWorld : Scene → World → Type 0
IsWorld s w = IsAt s.model s.adapters s.device w

-- an event, and the world after it
record IsStepTo (new : Scene) (e : Event) (st : Step) : Type 0 where
  event : e ≡ st.event
  world : IsWorld new st.world

done : (w : World) (account : Account) (new : Scene) (op : Op) (place : ℕ) (e : Event)
    → IsDone (scene_at w account) new op place e → IsStepTo new e (done_at w op place)
done w account new op place e h =
    let found : h.sampled ≡ found_by w.device op = h.found w.device refl in
    let items : e.trace ≡ items_at w op place = h.answers w.device refl in
    let same : outcome w.model op place h.sampled e.trace
    ≡ outcome w.model op place (found_by w.device op) (items_at w op place)
    = ap (λ s. outcome w.model op place s e.trace) found ∙ ap (outcome w.model op place (found_by w.device op)) items in
    record {
      event = h.event_is
          ∙ ap (λ t. event_of w.model (named w.model op) t (outcome w.model op place h.sampled e.trace)) items
          ∙ ap (event_of w.model (named w.model op) (items_at w op place)) same;
      world = record {
        model_is = h.model ∙ ap (λ o. o.model) same;
        adapters_are = h.adapters ∙ ap (moved_on_by_all w.adapters (adapter_for w.model.layout place)) items;
        device_is = h.goes ∙ ap Some (ap (λ s. device_after w.model op s e.trace w.device) found
            ∙ ap (λ t. device_after w.model op (found_by w.device op) t w.device) items);
      };
    }

refused : (w : World) (account : Account) (new : Scene) (op : Op) (why : Refused) (e : Event)
    → IsRefused (scene_at w account) new op why e → IsStepTo new e (unchanged w op why)
refused w account new op why e h = record {
  event = h.event_is;
  world = record {
    model_is = ap (λ s. s.model) h.unchanged;
    adapters_are = ap (λ s. s.adapters) h.unchanged;
    device_is = ap (λ s. s.device) h.unchanged;
  };
}

by_grant : (w : World) (account : Account) (new : Scene) (op : Op) (e : Event) (g : Grant)
    → MatchResult g (λ place. IsDone (scene_at w account) new op place e)
    (λ why. IsRefused (scene_at w account) new op why e) → IsStepTo new e (step_by w op g)
by_grant w account new op e (Ok place) h = done w account new op place e h
by_grant w account new op e (Err why) h = refused w account new op why e h

pub call_does_step : (w : World) (account : Account) (new : Scene) (op : Op) (e : Event)
    → Performs (scene_at w account) new op e → IsStepOf w op e new.model new.adapters new.device
unfolding step_of
call_does_step w account new op e p =
    let st = by_grant w account new op e (grant w.model op) p in record { event_is = st.event; after = st.world }

-- ---- from a scene that is this world

scene_is : (s : Scene) (w : World) → IsWorld s w → s ≡ scene_at w s.account
scene_is s w h =
    ap (λ m. scene m s.adapters s.account s.device) h.model_is
    ∙ ap (λ a. scene w.model a s.account s.device) h.adapters_are
    ∙ ap (scene w.model w.adapters s.account) h.device_is

pub performed : (s new : Scene) (w : World) (op : Op) (e : Event) → IsWorld s w → Performs s new op e
    → IsStepOf w op e new.model new.adapters new.device
performed s new w op e h p = call_does_step w s.account new op e (subst (λ x. Performs x new op e) (scene_is s w h) p)

pub refused_alone : (s new : Scene) (w : World) (op : Op) (why : Refused) (e : Event) → IsWorld s w
    → IsRefused s new op why e → (e ≡ (unchanged w op why).event) × IsWorld new w
refused_alone s new w op why e h r =
    let st = refused w s.account new op why e (subst (λ x. IsRefused x new op why e) (scene_is s w h) r) in
    (st.event, st.world)

-- ---- the step is what a call performs

after_item : (b : Bool) (s : Standing) (port : ℕ) (ops : List BusOp) (rest : List TraceItem) → AreItemsOf s port ops rest
    → MatchBool b ((if b then [] else rest) ≡ []) (AreItemsOf s port ops (if b then [] else rest))
after_item true s port ops rest h = refl
after_item false s port ops rest h = h

items_are : (s : Standing) (d : State) (port : ℕ) (ops : List BusOp) → AreItemsOf s port ops (items_of s d port ops)
items_are s d port [] = tt
items_are s d port (op ∷ ops) =
    let item = item_of s port op (answer_of d port op) in (
      refl,
      after_item item.answer.failed (took_item s item) port ops (items_of (took_item s item) (state_after d port op) port ops)
          (items_are (took_item s item) (state_after d port op) port ops),
    )

trace_is : (r : Option ℕ) (op : Op) (items : List TraceItem) (o : Outcome) → (event_at r op items o).trace ≡ items
trace_is None op items o = refl
trace_is (Some reg) op items o = refl

some_is : {A : Type 0} {x y : A} → Some x ≡ Some y → x ≡ y
some_is e = cc

-- what is asked of the device
abbrev asked_here : World → Op → (place : ℕ) → List Request
asked_here w op place = asks_of op (deposited w.model op (found_by w.device op)) (done_at w op place).event.trace

done_here : (w : World) (op : Op) (errors place : ℕ)
    → IsDone (scene_at w (without_peer errors)) (scene_at (done_at w op place).world (without_peer (errors + length (asked_here w op place))))
    op place (done_at w op place).event
done_here w op errors place =
    let items : List TraceItem = items_at w op place in
    let adapter : Standing = standing_at w.adapters (adapter_for w.model.layout place) in
    let port : ℕ = port_for w.model.layout place in
    let found : ℕ = found_by w.device op in
    let e : Event = (done_at w op place).event in
    let is : e.trace ≡ items =
    trace_is (register_of w.model.chip (named w.model op)) (named w.model op) items (outcome w.model op place found items) in
    record {
      sampled = found;
      items = subst (AreItemsOf adapter port (sends w.model op place)) (sym is)
          (items_are adapter w.device port (sends w.model op place));
      adapters = ap (moved_on_by_all w.adapters (adapter_for w.model.layout place)) (sym is);
      asked = asks_alone errors (asked_here w op place);
      event_is = ap (λ t. event_of w.model (named w.model op) t (outcome w.model op place found t)) (sym is);
      model = ap (λ t. (outcome w.model op place found t).model) (sym is);
      found = λ d same. ap (λ d. found_by d op) (some_is same);
      answers = λ d same. is ∙ ap (λ d. items_of adapter d port (sends w.model op place)) (some_is same);
      goes = ap (λ t. Some (device_after w.model op found t w.device)) (sym is);
    }

by_either : (w : World) (op : Op) (errors : ℕ) (g : Grant) → (later : ℕ) × MatchResult g
    (λ place. IsDone (scene_at w (without_peer errors)) (scene_at (step_by w op g).world (without_peer later)) op place (step_by w op g).event)
    (λ why. IsRefused (scene_at w (without_peer errors)) (scene_at (step_by w op g).world (without_peer later)) op why (step_by w op g).event)
by_either w op errors (Ok place) = (errors + length (asked_here w op place), done_here w op errors place)
by_either w op errors (Err why) = (errors, record { event_is = refl; unchanged = refl })

pub step_is_call : (w : World) (op : Op) (errors : ℕ) → IsPerformed w op errors
unfolding step_of
step_is_call w op errors = let r = by_either w op errors (grant w.model op) in record { later = r.0; performs = r.1 }
