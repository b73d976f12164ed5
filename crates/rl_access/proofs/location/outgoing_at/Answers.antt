use Rattle.std.proofs.Common.{◌≡◌, ◌<◌, ◌^◌, Some, sym, subst}
use Rattle.rl_model.specs.Rows.{ChipData}
use Rattle.rl_model.specs.Chip.{bytes_of}
use Rattle.rl_model.specs.declared.rows.Item.TheVariants as item
use Rattle.rl_access.proofs.Locations.{location_chosen}
use Rattle.rl_access.proofs.Places.{location_at, place_size}
use Rattle.rl_access.proofs.location.outgoing_at.Goals as goal

pub returns-clause-on : goal.returns-clause-on
returns-clause-on c =
    let m = c.args.model.now in
    let bytes = subst (λ (h : ChipData). bytes_of h (item.Mem c.args.mem) ≡ Some c.bytes.result) c.chip.ensures.chip c.bytes.ensures.value in
    record {
      location = location_at m c.args.mem c.args.place c.args.index c.chip.ensures.sound c.requires.place c.requires.index;
      chosen = location_chosen m c.args.mem c.args.place c.bytes.result c.all_bytes.result c.chip.ensures.sound c.requires.place bytes c.bytes.ensures.range.0 c.all_bytes.ensures;
      value = subst (λ n. c.args.value < 256 ^ n) (sym (place_size m (item.Mem c.args.mem) c.args.place c.chip.ensures.sound c.requires.place)) c.requires.value;
    }
