use Rattle.std.proofs.Common.{◌≡◌, ◌<◌, ◌^◌, false, true, refl, sym, ap, subst, ◌∙◌}
use Rattle.rl_mirror.specs.Prediction.{needs_update}
use Rattle.rl_model.specs.declared.rows.Item.TheVariants as item
use Rattle.rl_access.specs.declared.event.End.TheVariants as end
use Rattle.rl_access.specs.declared.access.Access.{Access}
use Rattle.rl_access.specs.Model.{ModelData}
use Rattle.rl_access.specs.Operation.{digits_of}
use Rattle.rl_access.specs.Rules.{field_written, forgetting, forgetting_field, whole, write_outcome}
use Rattle.rl_model.specs.Fields.{size_of}
use Rattle.rl_access.proofs.Begun.{entered, is_told, plain_write_named, plain_write_inside, plain_write_fits, field_write_named, field_write_fits, update_named}
use Rattle.rl_access.proofs.Bytes.{below_digits}
use Rattle.rl_access.proofs.Carried.{begun_as, carried, does_so, field_write_place, plain_write, plain_write_place, update_write_of, field_write_of, way_place}
use Rattle.rl_access.proofs.OverBus.{is_no_update}
use Rattle.rl_access.proofs.Performed.{quiet_performs}
use Rattle.rl_access.proofs.operation.write_register.Goals as goal

pub whole-access-requires-in-Write-clause-place : goal.whole-access-requires-in-Write-clause-place
whole-access-requires-in-Write-clause-place g c =
    plain_write_place c.args.model.now c.args.op c.in-Write.reg c.in-Write.value c.args.place c.in-Write.is c.requires.begun.granted

pub field_written-access-requires-clause-place : goal.field_written-access-requires-clause-place
field_written-access-requires-clause-place g c =
    let begun = begun_as c.in-FieldWrite.is c.requires.begun in
    field_write_place c.args.model.now c.in-FieldWrite.field c.in-FieldWrite.value c.args.place c.in-FieldWrite.map begun.granted

pub whole-access-requires-clause-place : goal.whole-access-requires-clause-place
whole-access-requires-clause-place g c =
    let begun = begun_as c.in-Update.is c.requires.begun in
    way_place c.args.model.now (item.Reg c.in-Update.reg) c.in-Update.map true c.args.place begun.granted

pub returns-in-Write : goal.returns-in-Write
returns-in-Write g c =
    let m = c.args.model.now in
    let sent = c.write_as-in-Write in
    carried (λ entry. write_outcome entry end.Done) true m (forgetting m c.args.place) c.forget-in-Write.new.self sent.new.model c.args.op c.args.place
    (whole m c.in-Write.reg c.args.place c.in-Write.value) c.whole-access-in-Write.result c.args.event.now sent.new.event c.requires.begun
    (plain_write m c.args.op c.in-Write.reg c.in-Write.value c.args.place c.in-Write.is) refl c.forget-in-Write.ensures
    c.whole-access-in-Write.ensures.access (record { sent = sent.ensures.sent; event_is = sent.ensures.event; model = sent.ensures.model }) sent.ensures.ready sent.ensures.parts
    sent.ensures.fits

pub returns-in-FieldWrite : goal.returns-in-FieldWrite
returns-in-FieldWrite g c =
    let m = c.args.model.now in
    let field = c.in-FieldWrite.field in
    let sent = c.write_as in
    carried (λ entry. write_outcome entry end.Done) true m (forgetting_field m field c.args.place true) c.forget_around.new.self sent.new.model c.args.op c.args.place
    (field_written m field c.args.place c.in-FieldWrite.value) c.field_written-access.result c.args.event.now sent.new.event c.requires.begun
    (field_write_of m c.args.op field c.in-FieldWrite.map c.in-FieldWrite.value c.args.place c.in-FieldWrite.is) refl c.forget_around.ensures
    c.field_written-access.ensures.access (record { sent = sent.ensures.sent; event_is = sent.ensures.event; model = sent.ensures.model }) sent.ensures.ready sent.ensures.parts
    sent.ensures.fits

pub returns-else-not-needs_update : goal.returns-else-not-needs_update
returns-else-not-needs_update g c =
    let m = c.args.model.now in
    let sent = c.write_as-in-Update in
    let word = c.update_word_of-word.result in
    let needed : needs_update m.mirror c.in-Update.reg ≡ true = sym c.needs_update.ensures ∙ c.if-not-needs_update.false in
    carried (λ entry. write_outcome entry (end.Sent word)) true m (forgetting m c.args.place) c.forget.new.self sent.new.model c.args.op c.args.place
    (whole m c.in-Update.reg c.args.place word) c.whole-access.result c.args.event.now sent.new.event c.requires.begun
    (update_write_of m c.args.op c.in-Update.reg c.in-Update.map c.args.place word needed c.update_word_of-word.ensures.word c.in-Update.is) refl c.forget.ensures
    c.whole-access.ensures.access (record { sent = sent.ensures.sent; event_is = sent.ensures.event; model = sent.ensures.model }) sent.ensures.ready sent.ensures.parts
    sent.ensures.fits

pub returns-then-not-needs_update : goal.returns-then-not-needs_update
returns-then-not-needs_update g c =
    let m = c.args.model.now in
    let reg = c.in-Update.reg in
    let begun = begun_as c.in-Update.is c.requires.begun in
    let nothing : needs_update m.mirror reg ≡ false = sym c.needs_update.ensures ∙ c.if-not-needs_update.true in
    does_so c.args.op _ _ _ _ c.in-Update.is (record {
      performs =
          quiet_performs m m _ c.args.event.now.op c.args.place reg reg end.Nothing c.args.event.now.trace c.conclude.new.event _
          (g.D.Device.account c.args.device.now) (g.D.Device.state c.args.device.now) begun.granted begun.named
          (is_no_update m reg c.in-Update.map c.args.place nothing) refl c.requires.begun.empty c.conclude.ensures.event;
      ready = c.requires.ready;
      parts = record { chip = refl; layout = refl };
      fits = c.conclude.ensures.fits;
    })

-- ---- what the calls on the way ask

pub whole-access-requires-in-Write-clause-reg : goal.whole-access-requires-in-Write-clause-reg
whole-access-requires-in-Write-clause-reg g c = plain_write_inside c.args.model.now c.args.op c.in-Write.reg c.in-Write.value c.in-Write.is c.requires.begun.numbers

pub whole-access-requires-in-Write-clause-value : goal.whole-access-requires-in-Write-clause-value
whole-access-requires-in-Write-clause-value g c =
    plain_write_fits c.args.model.now c.args.op c.in-Write.reg c.in-Write.value c.args.place c.in-Write.is c.requires.begun.granted

pub forget-requires-in-Write : goal.forget-requires-in-Write
forget-requires-in-Write g c =
    let there = plain_write_place c.args.model.now c.args.op c.in-Write.reg c.in-Write.value c.args.place c.in-Write.is c.requires.begun.granted in
    there.inside

pub write_as-requires-in-Write : goal.write_as-requires-in-Write
write_as-requires-in-Write g c =
    let m = c.args.model.now in
    let begun = c.requires.begun in
    let a = c.whole-access-in-Write in
    let told = c.args.event.now.op in
    let is = plain_write_named m c.args.op told c.in-Write.reg c.in-Write.value c.in-Write.is begun.named in
    let reg = ap (λ (x : Access). x.reg) a.ensures.access in
    let at = entered m c.forget-in-Write.new.self a.result told
    (record { chip = ap (λ (x : ModelData). x.chip) c.forget-in-Write.ensures; layout = ap (λ (x : ModelData). x.layout) c.forget-in-Write.ensures })
    c.requires.ready a.ensures.valid (is_told m told c.in-Write.reg a.result.reg is.names begun.told reg a.ensures.valid.reg) in
    record { empty = begun.empty; ready = at.ready; access = at.access; told = at.told; ends = is.ends; within = tt }

pub field_written-access-requires-clause-value : goal.field_written-access-requires-clause-value
field_written-access-requires-clause-value g c =
    let begun = begun_as c.in-FieldWrite.is c.requires.begun in
    field_write_fits c.args.model.now c.in-FieldWrite.field c.in-FieldWrite.value c.args.place c.in-FieldWrite.map begun.granted

pub forget_around-requires-clause-place : goal.forget_around-requires-clause-place
forget_around-requires-clause-place g c =
    let begun = begun_as c.in-FieldWrite.is c.requires.begun in
    let there = field_write_place c.args.model.now c.in-FieldWrite.field c.in-FieldWrite.value c.args.place c.in-FieldWrite.map begun.granted in
    there.inside

pub write_as-requires : goal.write_as-requires
write_as-requires g c =
    let m = c.args.model.now in
    let begun = begun_as c.in-FieldWrite.is c.requires.begun in
    let a = c.field_written-access in
    let told = c.args.event.now.op in
    let is = field_write_named m told c.in-FieldWrite.field c.in-FieldWrite.value c.in-FieldWrite.map begun.named in
    let at = entered m c.forget_around.new.self a.result told
    (record { chip = ap (λ (x : ModelData). x.chip) c.forget_around.ensures; layout = ap (λ (x : ModelData). x.layout) c.forget_around.ensures })
    c.requires.ready a.ensures.valid (is_told m told _ a.result.reg is.names begun.told a.ensures.reg a.ensures.valid.reg) in
    record { empty = begun.empty; ready = at.ready; access = at.access; told = at.told; ends = is.ends; within = tt }

pub forget-requires : goal.forget-requires
forget-requires g c =
    let begun = begun_as c.in-Update.is c.requires.begun in
    let there = way_place c.args.model.now (item.Reg c.in-Update.reg) c.in-Update.map true c.args.place begun.granted in
    there.inside

pub write_as-requires-in-Update : goal.write_as-requires-in-Update
write_as-requires-in-Update g c =
    let m = c.args.model.now in
    let begun = begun_as c.in-Update.is c.requires.begun in
    let a = c.whole-access in
    let told = c.args.event.now.op in
    let word = c.update_word_of-word.result in
    let is = update_named m told c.in-Update.reg word c.in-Update.map begun.named in
    let reg = ap (λ (x : Access). x.reg) a.ensures.access in
    let at = entered m c.forget.new.self a.result told
    (record { chip = ap (λ (x : ModelData). x.chip) c.forget.ensures; layout = ap (λ (x : ModelData). x.layout) c.forget.ensures })
    c.requires.ready a.ensures.valid (is_told m told c.in-Update.reg a.result.reg is.names begun.told reg a.ensures.valid.reg) in
    record {
      empty = begun.empty;
      ready = at.ready;
      access = at.access;
      told = at.told;
      ends = is.ends;
      within =
          subst (λ (x : ModelData). word < 16 ^ digits_of x.chip told) (sym c.forget.ensures)
          (subst (λ x. word < 16 ^ digits_of m.chip x) (sym begun.named) (below_digits (size_of m.chip c.in-Update.reg) word c.update_word_of-word.ensures.fits));
    }
