use Rattle.std.proofs.Common.{◌≡◌, arith}
use Rattle.rl_model.specs.Fields.{field_of}
use Rattle.rl_mirror.proofs.FieldLemmas.{field_answer, seated}
use Rattle.rl_mirror.proofs.fields.numbered_field.Goals as goal

pub returns : goal.returns
returns c =
    let chip = c.args.chip.now in
    let seat = seated chip c.args.field c.field.ensures.sound c.requires in
    let is : c.field.result ≡ (field_of chip c.args.field).shape = field_answer chip c.args.field c.field.result c.requires c.field.ensures.value in
    record {
      sound = c.field.ensures.sound;
      field = is;
      reg = rw is seat.reg;
      some = rw is seat.some;
      inside = rw is (omega (arith, seat.inside, seat.bytes));
    }
