use Rattle.std.proofs.Common.{◌<◌, ℕ, true, refl, sym, ap, subst, ◌∙◌, arith}
use Rattle.rl_access.specs.declared.event.Op.{Op}
use Rattle.rl_access.specs.Event.{IsEndWithin}
use Rattle.rl_access.specs.Operation.{has_end, register_of}
use Rattle.rl_access.specs.Rules.{Outcome, marked, memory_size, memory_event, outgoing_at, quiet}
use Rattle.rl_access.proofs.Begun.{location_read_named, read_location_in, read_mem_inside, write_location_in}
use Rattle.rl_access.proofs.Carried.{begun_as, does_so, location_read_place, write_location_place}
use Rattle.rl_access.proofs.Locations.{read_at, same_sent}
use Rattle.rl_access.proofs.MemoryPerforms.{location_read_performs, mem_write_performs}
use Rattle.rl_access.proofs.operation.reach_location.Goals as goal

pub outgoing_at-outgoing-requires-clause-place : goal.outgoing_at-outgoing-requires-clause-place
outgoing_at-outgoing-requires-clause-place g c =
    let begun = begun_as c.in-MemWrite.is c.requires.begun in
    write_location_place c.args.model.now c.in-MemWrite.mem c.in-MemWrite.index c.in-MemWrite.value c.args.place c.in-MemWrite.map begun.granted

pub read_location-end-requires-clause-place : goal.read_location-end-requires-clause-place
read_location-end-requires-clause-place g c = location_read_place c.args.model.now c.args.op c.in-MemRead.mem c.in-MemRead.index c.args.place c.in-MemRead.is c.requires.begun.granted

pub returns-in-MemWrite : goal.returns-in-MemWrite
returns-in-MemWrite g c =
    let m = c.args.model.now in
    let at = c.in-MemWrite in
    let begun = begun_as at.is c.requires.begun in
    let end = c.end_of_write-end.result in
    let sent = same_sent m.layout c.outgoing_at-outgoing.result (outgoing_at m at.mem c.args.place at.index at.value true)
    (c.outgoing_at-outgoing.ensures.outgoing ∙ ap (λ i. outgoing_at m at.mem c.args.place i at.value true) c.location-index.ensures) c.send.ensures.sent in
    does_so c.args.op _ _ _ _ at.is (record {
      performs =
          mem_write_performs m _ _ _ _ _ _ at.mem at.index at.value c.args.place at.map _ end c.send.new.trace _ begun.granted refl sent (c.end_of_write-end.ensures.end m)
          (c.conclude_memory.ensures.event ∙ ap (λ (o : Op). memory_event o c.send.new.trace (quiet end m)) begun.named);
      ready = c.send.ensures.ready;
      parts = record { chip = refl; layout = refl };
      fits = c.conclude_memory.ensures.fits;
    })

pub returns-in-MemRead : goal.returns-in-MemRead
returns-in-MemRead g c =
    let m = c.args.model.now in
    let at = c.in-MemRead in
    let done = c.read_location-end in
    let found = read_at m at.mem c.args.place c.location-index-in-MemRead.result at.index done.new.trace done.result _ _ _ _ _ _ c.location-index-in-MemRead.ensures done.ensures.sent
    done.ensures.end in
    let out = λ (mark : ℕ). let o : Outcome = record { end = done.result; model = m; differ = mark } in o in
    record {
      performs =
          location_read_performs m _ _ _ _ _ _ c.args.op c.args.event.now.op at.mem at.index c.args.place done.result done.new.trace _ at.is c.requires.begun.granted c.requires.begun.named
          found.0 found.1 (c.conclude_memory-in-MemRead.ensures.event ∙ ap (λ n. memory_event c.args.event.now.op done.new.trace (out n))
          (c.marked.ensures.value ∙ ap (λ (x : Op). marked x done.result) at.op-is));
      ready = done.ensures.ready;
      parts = record { chip = refl; layout = refl };
      fits = c.conclude_memory-in-MemRead.ensures.fits;
    }

-- ---- what the calls on the way ask

pub location-index-requires-clause-index : goal.location-index-requires-clause-index
location-index-requires-clause-index g c =
    let begun = begun_as c.in-MemWrite.is c.requires.begun in
    (write_location_in c.args.model.now c.in-MemWrite.mem c.in-MemWrite.index c.in-MemWrite.value c.args.place c.in-MemWrite.map begun.granted).0

pub outgoing_at-outgoing-requires-clause-index : goal.outgoing_at-outgoing-requires-clause-index
outgoing_at-outgoing-requires-clause-index g c =
    let begun = begun_as c.in-MemWrite.is c.requires.begun in
    subst (λ i. i < memory_size c.args.model.now.chip c.in-MemWrite.mem) (sym c.location-index.ensures)
    (write_location_in c.args.model.now c.in-MemWrite.mem c.in-MemWrite.index c.in-MemWrite.value c.args.place c.in-MemWrite.map begun.granted).0

pub outgoing_at-outgoing-requires-clause-value : goal.outgoing_at-outgoing-requires-clause-value
outgoing_at-outgoing-requires-clause-value g c =
    let begun = begun_as c.in-MemWrite.is c.requires.begun in
    (write_location_in c.args.model.now c.in-MemWrite.mem c.in-MemWrite.index c.in-MemWrite.value c.args.place c.in-MemWrite.map begun.granted).1

pub conclude_memory-requires : goal.conclude_memory-requires
conclude_memory-requires g c =
    let m = c.args.model.now in
    let begun = begun_as c.in-MemWrite.is c.requires.begun in
    let done = c.end_of_write-end in
    record {
      register = ap (register_of m.chip) begun.named;
      numbers = begun.told;
      ends = ap (λ x. has_end x done.result) begun.named ∙ done.ensures.ends;
      within = done.ensures.within _;
      items = c.send.ensures.fit;
      differ = omega arith;
    }

pub location-index-requires-in-MemRead : goal.location-index-requires-in-MemRead
location-index-requires-in-MemRead g c =
    let at = c.in-MemRead in
    let begun = c.requires.begun in
    record {
      mem = read_mem_inside c.args.model.now c.args.op at.mem at.index at.is begun.numbers;
      index = read_location_in c.args.model.now c.args.op at.mem at.index c.args.place at.is begun.granted;
    }

pub read_location-end-requires-clause-mem : goal.read_location-end-requires-clause-mem
read_location-end-requires-clause-mem g c = read_mem_inside c.args.model.now c.args.op c.in-MemRead.mem c.in-MemRead.index c.in-MemRead.is c.requires.begun.numbers

pub read_location-end-requires-clause-index : goal.read_location-end-requires-clause-index
read_location-end-requires-clause-index g c =
    subst (λ i. i < memory_size c.args.model.now.chip c.in-MemRead.mem) (sym c.location-index-in-MemRead.ensures)
    (read_location_in c.args.model.now c.args.op c.in-MemRead.mem c.in-MemRead.index c.args.place c.in-MemRead.is c.requires.begun.granted)

pub conclude_memory-requires-in-MemRead : goal.conclude_memory-requires-in-MemRead
conclude_memory-requires-in-MemRead g c =
    let begun = c.requires.begun in
    let done = c.read_location-end in
    let names = location_read_named c.args.model.now c.args.op c.args.event.now.op c.in-MemRead.mem c.in-MemRead.index c.in-MemRead.is begun.named in
    record {
      register = names.register;
      numbers = begun.told;
      ends = names.ends done.result ∙ done.ensures.ends;
      within = subst (λ n. IsEndWithin n done.result) (sym names.digits) done.ensures.within;
      items = done.ensures.items;
      differ = c.marked.ensures.mark;
    }
