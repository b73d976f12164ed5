use Rattle.std.proofs.Common.{false, true, refl, ap}
use Rattle.rl_model.specs.declared.rows.Item.TheVariants as item
use Rattle.rl_access.specs.declared.access.Access.{Access}
use Rattle.rl_access.specs.Model.{ModelData}
use Rattle.rl_access.specs.Operation.{reg_of}
use Rattle.rl_access.specs.Rules.{forgetting, read_outcome, whole}
use Rattle.rl_access.proofs.Begun.{entered, is_told, place_digits, plain_read_named, plain_read_inside, check_named}
use Rattle.rl_access.proofs.Carried.{begun_as, carried, check_read, does_so, plain_read, plain_read_place, way_place}
use Rattle.rl_access.proofs.OverBus.{field_read_performs, parts_around}
use Rattle.rl_access.proofs.operation.read_register.Goals as goal

pub whole_read-access-requires-in-Read-clause-place : goal.whole_read-access-requires-in-Read-clause-place
whole_read-access-requires-in-Read-clause-place g c = plain_read_place c.args.model.now c.args.op c.in-Read.reg c.args.place c.in-Read.is c.requires.begun.granted

pub whole_read-access-requires-clause-place : goal.whole_read-access-requires-clause-place
whole_read-access-requires-clause-place g c =
    let begun = begun_as c.in-Check.is c.requires.begun in
    way_place c.args.model.now (item.Reg c.in-Check.reg) c.in-Check.map false c.args.place begun.granted

pub field_read-access-requires-clause-place : goal.field_read-access-requires-clause-place
field_read-access-requires-clause-place g c =
    let begun = begun_as c.in-FieldRead.is c.requires.begun in
    way_place c.args.model.now (item.Reg (reg_of c.args.model.now.chip c.in-FieldRead.field)) c.in-FieldRead.map false c.args.place begun.granted

pub returns-in-Read : goal.returns-in-Read
returns-in-Read g c =
    let m = c.args.model.now in
    let sent = c.read_as-in-Read in
    carried (λ entry. read_outcome entry false) false m (forgetting m c.args.place) c.forget-in-Read.new.self sent.new.model c.args.op c.args.place (whole m c.in-Read.reg c.args.place 0)
    c.whole_read-access-in-Read.result c.args.event.now sent.new.event c.requires.begun (plain_read m c.args.op c.in-Read.reg c.args.place c.in-Read.is) refl c.forget-in-Read.ensures
    c.whole_read-access-in-Read.ensures.access (record { sent = sent.ensures.sent; event_is = sent.ensures.event; model = sent.ensures.model }) sent.ensures.ready sent.ensures.parts
    sent.ensures.fits

pub returns-in-Check : goal.returns-in-Check
returns-in-Check g c =
    let m = c.args.model.now in
    let sent = c.read_as in
    carried (λ entry. read_outcome entry true) false m (forgetting m c.args.place) c.forget.new.self sent.new.model c.args.op c.args.place (whole m c.in-Check.reg c.args.place 0)
    c.whole_read-access.result c.args.event.now sent.new.event c.requires.begun (check_read m c.args.op c.in-Check.reg c.in-Check.map c.args.place c.in-Check.is) refl c.forget.ensures
    c.whole_read-access.ensures.access (record { sent = sent.ensures.sent; event_is = sent.ensures.event; model = sent.ensures.model }) sent.ensures.ready sent.ensures.parts
    sent.ensures.fits

pub returns-in-FieldRead : goal.returns-in-FieldRead
returns-in-FieldRead g c =
    let m = c.args.model.now in
    let field = c.in-FieldRead.field in
    let begun = begun_as c.in-FieldRead.is c.requires.begun in
    let entry = c.forget_around.new.self in
    let new = c.read-whole.new.model in
    does_so c.args.op _ _ _ _ c.in-FieldRead.is (record {
      performs = field_read_performs m entry new field c.field-shape.result c.in-FieldRead.map c.args.event.now.op c.args.place
          c.field_read-access.result c.read-whole.new.trace c.read-whole.result.0 c.part_of-end.result c.conclude.new.event begun.granted begun.named
          c.field-shape.ensures.field c.forget_around.ensures c.field_read-access.ensures.access
          c.read-whole.ensures.sent c.read-whole.ensures.end c.read-whole.ensures.model c.part_of-end.ensures.part c.conclude.ensures.event;
      ready = c.read-whole.ensures.ready;
      parts = parts_around m entry new field c.args.place false c.forget_around.ensures c.read-whole.ensures.parts;
      fits = c.conclude.ensures.fits;
    })

-- ---- what the calls on the way ask

pub whole_read-access-requires-in-Read-clause-reg : goal.whole_read-access-requires-in-Read-clause-reg
whole_read-access-requires-in-Read-clause-reg g c = plain_read_inside c.args.model.now c.args.op c.in-Read.reg c.in-Read.is c.requires.begun.numbers

pub forget-requires-in-Read : goal.forget-requires-in-Read
forget-requires-in-Read g c =
    let there = plain_read_place c.args.model.now c.args.op c.in-Read.reg c.args.place c.in-Read.is c.requires.begun.granted in
    there.inside

pub read_as-requires-in-Read : goal.read_as-requires-in-Read
read_as-requires-in-Read g c =
    let m = c.args.model.now in
    let begun = c.requires.begun in
    let a = c.whole_read-access-in-Read in
    let told = c.args.event.now.op in
    let entry = c.forget-in-Read in
    let is = plain_read_named m c.args.op told c.in-Read.reg c.in-Read.is begun.named in
    let chip = ap (λ (x : ModelData). x.chip) entry.ensures in
    let layout = ap (λ (x : ModelData). x.layout) entry.ensures in
    let at = entered m entry.new.self a.result told (record { chip = chip; layout = layout }) c.requires.ready a.ensures.valid
    (is_told m told c.in-Read.reg a.result.reg is.names begun.told (ap (λ (x : Access). x.reg) a.ensures.access) a.ensures.valid.reg) in
    record {
      empty = begun.empty;
      ready = at.ready;
      access = at.access;
      told = at.told;
      ends = is.ends;
      digits = place_digits m entry.new.self told c.in-Read.reg a.result (whole m c.in-Read.reg c.args.place 0) is chip layout a.ensures.access a.ensures.digits;
    }

pub forget-requires : goal.forget-requires
forget-requires g c =
    let begun = begun_as c.in-Check.is c.requires.begun in
    let there = way_place c.args.model.now (item.Reg c.in-Check.reg) c.in-Check.map false c.args.place begun.granted in
    there.inside

pub read_as-requires : goal.read_as-requires
read_as-requires g c =
    let m = c.args.model.now in
    let begun = begun_as c.in-Check.is c.requires.begun in
    let a = c.whole_read-access in
    let told = c.args.event.now.op in
    let entry = c.forget in
    let is = check_named m told c.in-Check.reg c.in-Check.map begun.named in
    let chip = ap (λ (x : ModelData). x.chip) entry.ensures in
    let layout = ap (λ (x : ModelData). x.layout) entry.ensures in
    let at = entered m entry.new.self a.result told (record { chip = chip; layout = layout }) c.requires.ready a.ensures.valid
    (is_told m told c.in-Check.reg a.result.reg is.names begun.told (ap (λ (x : Access). x.reg) a.ensures.access) a.ensures.valid.reg) in
    record {
      empty = begun.empty;
      ready = at.ready;
      access = at.access;
      told = at.told;
      ends = is.ends;
      digits = place_digits m entry.new.self told c.in-Check.reg a.result (whole m c.in-Check.reg c.args.place 0) is chip layout a.ensures.access a.ensures.digits;
    }
