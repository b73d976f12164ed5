-- What a grant says of the place.
use Rattle.std.proofs.Common.{◌≡◌, ℕ, Bool, Option, Ok}
use Rattle.rl_model.specs.declared.rows.Item.TheVariants as item
use Rattle.rl_split.specs.Law.{IsPlaceOf}
use Rattle.rl_access.specs.Model.{ModelData, IsModel}
use Rattle.rl_access.specs.Rules.{watched_way}
use Rattle.rl_access.proofs.Granted.{watched_way_found as watched_there}
pub use Rattle.rl_access.proofs.Granted.{only_ok, IsWay, way_found}

pub watched_way_found : (m : ModelData) (reg : ℕ) (map : Option ℕ) (write : Bool) (place : ℕ) → watched_way m reg map write ≡ Ok place → IsWay m.layout (item.Reg reg) write place
watched_way_found m reg map write place e = (watched_there m reg map write place e).way

pub place_for : (m : ModelData) (reg place : ℕ) (write : Bool) → IsModel m → IsWay m.layout (item.Reg reg) write place → IsPlaceOf m.chip m.layout place reg write
place_for m reg place write ok at = record {
  chip = ok.chip;
  layout = ok.layout;
  built_with = ok.built;
  place_in = at.there.inside;
  item = at.there.item_is;
  right = at.right;
}
