use Rattle.std.proofs.Common.{◌≡◌, Some, subst}
use Rattle.rl_model.specs.Rows.{ChipData}
use Rattle.rl_model.specs.Chip.{bytes_of}
use Rattle.rl_model.specs.declared.rows.Item.TheVariants as item
use Rattle.rl_access.proofs.Tables.{location_there}
use Rattle.rl_access.proofs.Locations.{taken_digits, taken_low}
use Rattle.rl_access.proofs.location.location_sampled.Goals as goal

pub peek-bits-requires : goal.peek-bits-requires
peek-bits-requires g c = record { cell = location_there c.args.model.now _ c.args.mem c.args.index c.requires.device c.requires.mem c.requires.index }

pub returns-clause-found : goal.returns-clause-found
returns-clause-found g c =
    let bytes = subst (λ (h : ChipData). bytes_of h (item.Mem c.args.mem) ≡ Some c.bytes.result) c.chip.ensures.chip c.bytes.ensures.value in
    record {
      sampled = c.peek-bits.result;
      found = c.peek-bits.ensures.step;
      value_is = taken_low c.args.model.now.chip c.args.mem c.bytes.result c.take.result c.peek-bits.result bytes c.take.ensures;
    }

pub returns-clause-digits : goal.returns-clause-digits
returns-clause-digits g c =
    let bytes = subst (λ (h : ChipData). bytes_of h (item.Mem c.args.mem) ≡ Some c.bytes.result) c.chip.ensures.chip c.bytes.ensures.value in
    taken_digits c.args.model.now.chip c.args.mem c.bytes.result c.take.result _ bytes c.take.ensures
