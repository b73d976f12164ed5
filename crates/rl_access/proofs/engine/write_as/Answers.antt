use Rattle.std.proofs.Common.{◌≡◌, true, List, All, ap, sym, subst, ◌∙◌}
use Rattle.std.proofs.lemmas.Nat.{pow_pos}
use Rattle.rl_map.specs.Layout.{LayoutData}
use Rattle.rl_access.specs.declared.event.Event.{Event}
use Rattle.rl_access.specs.declared.trace.TraceItem.{TraceItem}
use Rattle.rl_access.specs.Access.{outgoing_of}
use Rattle.rl_access.specs.Event.{ItemFits}
use Rattle.rl_access.specs.Rules.{Outcome, register_event, write_outcome}
use Rattle.rl_access.proofs.Begun.{ready_same}
use Rattle.rl_access.proofs.Concluded.{write_concluded, told_by_trace}
use Rattle.rl_access.proofs.Locations.{told_sent}
use Rattle.rl_access.proofs.engine.write_as.Goals as goal

pub conclude-requires : goal.conclude-requires
conclude-requires g c =
    let done = write_concluded c.args.model.now c.conclude_write-end.new.model c.args.good c.conclude_write-end.result c.args.access.now c.args.event.now.op c.send.new.trace
    c.requires.told c.requires.ends c.requires.within c.conclude_write-end.ensures.end c.conclude_write-end.ensures.model in
    record {
      reg = done.told.reg_in;
      register = done.told.register;
      numbers = done.told.numbers;
      ends = done.ends;
      within = done.within;
      items = subst (λ (l : LayoutData). All (ItemFits l) c.send.new.trace) (sym done.parts.layout) c.send.ensures.fit;
      differ = pow_pos _;
    }

pub returns-clause-event : goal.returns-clause-event
returns-clause-event g c =
    let done = write_concluded c.args.model.now c.conclude_write-end.new.model c.args.good c.conclude_write-end.result c.args.access.now c.args.event.now.op c.send.new.trace
    c.requires.told c.requires.ends c.requires.within c.conclude_write-end.ensures.end c.conclude_write-end.ensures.model in
    told_by_trace (λ items. write_outcome c.args.model.now c.args.good c.args.access.now items) c.args.event.now.op c.args.access.now.reg c.send.new.trace c.conclude.new.event
    (c.conclude.ensures.event ∙ ap (λ (o : Outcome). register_event c.args.event.now.op c.args.access.now.reg c.send.new.trace o) done.outcome)

pub returns-clause-parts : goal.returns-clause-parts
returns-clause-parts g c =
    (write_concluded c.args.model.now c.conclude_write-end.new.model c.args.good c.conclude_write-end.result c.args.access.now c.args.event.now.op c.send.new.trace
    c.requires.told c.requires.ends c.requires.within c.conclude_write-end.ensures.end c.conclude_write-end.ensures.model).parts

pub send-requires-clause-outgoing : goal.send-requires-clause-outgoing
send-requires-clause-outgoing g c = c.outgoing.ensures.on c.args.model.now c.requires.access

pub returns-clause-ready : goal.returns-clause-ready
returns-clause-ready g c =
    let done = write_concluded c.args.model.now c.conclude_write-end.new.model c.args.good c.conclude_write-end.result c.args.access.now c.args.event.now.op c.send.new.trace
    c.requires.told c.requires.ends c.requires.within c.conclude_write-end.ensures.end c.conclude_write-end.ensures.model in
    ready_same c.args.model.now c.conclude_write-end.new.model done.parts c.send.ensures.ready

pub returns-clause-sent : goal.returns-clause-sent
returns-clause-sent g c =
    told_sent c.args.model.now.layout c.outgoing.result (outgoing_of c.args.access.now true) c.outgoing.ensures.outgoing (ap (λ (x : Event). x.trace) c.conclude.ensures.event) c.send.ensures.sent

pub returns-clause-model : goal.returns-clause-model
returns-clause-model g c =
    subst (λ (t : List TraceItem). c.conclude_write-end.new.model ≡ (write_outcome c.args.model.now c.args.good c.args.access.now t).model) (sym (ap (λ (x : Event). x.trace) c.conclude.ensures.event))
    c.conclude_write-end.ensures.model
