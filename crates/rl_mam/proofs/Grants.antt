-- What a granted access to a location of a memory says of the place.
use Rattle.std.proofs.Common.{◌≡◌, ℕ, ◌<◌, ◌^◌, Bool, true, false, Option, None, Some, option_map, Ok, subst}
use Rattle.std.specs.Prelude.{nat_lt, slice_get}
use Rattle.std.specs.Option.{option_map_or}
use Rattle.std.proofs.lemmas.Bool.{ltb-true}
use Rattle.rl_model.specs.declared.rows.Item.TheVariants as item
use Rattle.rl_map.specs.Layout.{place_at, has_right, IsLocation}
use Rattle.rl_access.specs.declared.event.Op.TheVariants as op
use Rattle.rl_access.specs.declared.event.Refused.TheVariants.{NotWritable, OutOfRange, TooWide}
use Rattle.rl_access.specs.Model.{ModelData, IsModel}
use Rattle.rl_access.specs.Rules.{grant, way, at_location, writable, memory_size, is_writable, item_size}
use Rattle.rl_access.proofs.Granted.{only_ok, way_found}

size_of_some : {A : Type 0} (f : A → ℕ) (o : Option A) (n : ℕ) → option_map f o ≡ Some n → option_map_or f o 0 ≡ n
size_of_some f None n e = absurd (cc)
size_of_some f (Some a) n e = cc

-- a place of the memory with the right of the direction, and a location there
pub record IsReached (m : ModelData) (mem index : ℕ) (write : Bool) (place : ℕ) : Type 0 where
  pub there : IsLocation m.layout place index
  pub item_is : (place_at m.layout place).item ≡ item.Mem mem
  pub right : has_right (place_at m.layout place).rights write ≡ true
  pub index_in : index < memory_size m.chip mem

reached : (m : ModelData) (mem index : ℕ) (map : Option ℕ) (write : Bool) (place : ℕ) → IsModel m → way m (item.Mem mem) map write ≡ Ok place → index < memory_size m.chip mem →
    IsReached m mem index write place
reached m mem index map write place ok e low =
    let at = way_found m (item.Mem mem) map write place e in
    let sizes = (ok.built place at.there.inside).1 mem at.there.item_is in
    record {
      there = record { place_in = at.there.inside; index_in = subst (λ n. index < n) (size_of_some (λ m. m.size) (slice_get m.chip.mems mem) (place_at m.layout place).size sizes) low };
      item_is = at.there.item_is;
      right = at.right;
      index_in = low;
    }

pub write_reaches : (m : ModelData) (mem index value : ℕ) (map : Option ℕ) (place : ℕ) → IsModel m → grant m (op.MemWrite mem map index value) ≡ Ok place → IsReached m mem index true place
write_reaches m mem index value map place ok e =
    let along = way m (item.Mem mem) map true in
    let first = only_ok (at_location m mem index (writable m mem along)) (nat_lt value (256 ^ item_size m.chip (item.Mem mem))) TooWide place e in
    let second = only_ok (writable m mem along) (nat_lt index (memory_size m.chip mem)) OutOfRange place first.0 in
    let third = only_ok along (is_writable m.chip mem) NotWritable place second.0 in
    reached m mem index map true place ok third.0 (ltb-true index (memory_size m.chip mem) second.1)

pub read_reaches : (m : ModelData) (mem index : ℕ) (map : Option ℕ) (place : ℕ) → IsModel m → grant m (op.MemRead mem map index) ≡ Ok place → IsReached m mem index false place
read_reaches m mem index map place ok e =
    let both = only_ok (way m (item.Mem mem) map false) (nat_lt index (memory_size m.chip mem)) OutOfRange place e in
    reached m mem index map false place ok both.0 (ltb-true index (memory_size m.chip mem) both.1)
