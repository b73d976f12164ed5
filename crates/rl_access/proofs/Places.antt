-- Places of items, and what stands at them.
use Rattle.std.proofs.Common.{◌≡◌, ℕ, ◌*◌, ◌^◌, ◌<◌, ◌≤◌, true, List, length, replicate, All, Option, None, Some, option_map, refl, sym, ap, ◌∙◌, subst, arith}
use Rattle.std.specs.Option.{option_map_or}
use Rattle.std.proofs.lemmas.List.{length-replicate}
use Rattle.std.proofs.lemmas.List.Elements.{All-replicate, All-get_or}
use Rattle.std.proofs.lemmas.Nat.{pow_below}
use Rattle.rl_model.specs.Rows.{ChipData}
use Rattle.rl_model.specs.Chip.{bytes_of}
use Rattle.rl_model.specs.declared.rows.Item.{Item}
use Rattle.rl_model.specs.declared.rows.Item.TheVariants as item
use Rattle.rl_map.specs.Layout.{LayoutData, place_at, IsLocation, words_of, IsSound}
use Rattle.rl_split.specs.Access.{IsChoice, all_bytes}
use Rattle.rl_model.specs.Fields.{size_of, count_of}
use Rattle.rl_mirror.specs.Mirror.{mirrored_of, desired_of}
use Rattle.rl_access.specs.declared.event.End.{End}
use Rattle.rl_access.specs.declared.event.Op.{Op}
use Rattle.rl_access.specs.declared.event.Event.{Event}
use Rattle.rl_access.specs.declared.trace.TraceItem.{TraceItem}
use Rattle.rl_access.specs.Access.{IsAccessOn, IsPlaceFor}
use Rattle.rl_access.specs.Event.{EventFits, ItemFits, IsEndWithin, HasValues}
use Rattle.rl_access.specs.Gathering.{IsPredictorOf, IsNothingGathered, no_words, gathered_at}
use Rattle.rl_access.specs.Model.{ModelData, IsModel}
use Rattle.rl_access.specs.Operation.{register_of, HasNumbers, digits_of, has_end}
use Rattle.rl_access.specs.Rules.{item_size, memory_size}
use Rattle.rl_access.proofs.Bytes.{bytes_digits}

-- ---- a place has its item's bytes

map_or_of : {A : Type 0} (f : A → ℕ) (o : Option A) (x d : ℕ) → option_map f o ≡ Some x → option_map_or f o d ≡ x
map_or_of f None x d e = cc
map_or_of f (Some a) x d e = cc

pub size_is : (c : ChipData) (i : Item) (bytes : ℕ) → bytes_of c i ≡ Some bytes → item_size c i ≡ bytes
size_is c (item.Reg reg) bytes e = map_or_of (λ r. r.bytes) _ bytes 0 e
size_is c (item.Mem mem) bytes e = map_or_of (λ m. m.bytes) _ bytes 0 e

pub place_size : (m : ModelData) (i : Item) (place : ℕ) → IsModel m → IsPlaceFor m i place → (place_at m.layout place).bytes ≡ item_size m.chip i
place_size m i place ok there =
    sym (ap (item_size m.chip) (sym there.item_is) ∙ size_is m.chip (place_at m.layout place).item (place_at m.layout place).bytes (ok.built place there.inside).0)

pub first_location : (m : ModelData) (place : ℕ) → IsModel m → place < length m.layout.places → IsLocation m.layout place 0
first_location m place ok inside = let here = ok.layout.each_place place inside in record { place_in = inside; index_in = omega (arith, here.size) }

-- a location of a memory, at a place of it
pub location_at : (m : ModelData) (mem place index : ℕ) → IsModel m → IsPlaceFor m (item.Mem mem) place → index < memory_size m.chip mem → IsLocation m.layout place index
location_at m mem place index ok there inside =
    let size : memory_size m.chip mem ≡ (place_at m.layout place).size = map_or_of (λ r. r.size) _ _ 0 ((ok.built place there.inside).1 mem there.item_is) in
    record { place_in = there.inside; index_in = subst (λ n. index < n) size inside }

pub all_chosen : (bytes : ℕ) → 1 ≤ bytes → IsChoice bytes (all_bytes bytes)
all_chosen bytes some = let more = pow_below 0 bytes (omega arith) in record { some = omega (arith, more); within = omega (arith, more) }

pub whole_valid : (m : ModelData) (reg place value bytes chosen fields : ℕ) → IsModel m → reg < length m.chip.regs → IsPlaceFor m (item.Reg reg) place → value < 256 ^ size_of m.chip reg →
    size_of m.chip reg ≡ bytes → 1 ≤ bytes → chosen ≡ all_bytes bytes
    → IsAccessOn m (record { reg = reg; place = place; chosen = chosen; fields = fields; value = value })
whole_valid m reg place value bytes chosen fields ok inside there fits size some all =
    let same : (place_at m.layout place).bytes ≡ size_of m.chip reg = place_size m (item.Reg reg) place ok there in
    record {
      reg = inside;
      location = first_location m place ok there.inside;
      chosen = subst (λ n. IsChoice n chosen) (sym (same ∙ size)) (subst (λ n. IsChoice bytes n) (sym all) (all_chosen bytes some));
      value = subst (λ n. value < 256 ^ n) (sym same) fits;
    }

-- ---- an event that fits

pub event_fits : (m : ModelData) (op : Op) (reg : ℕ) (e : End) (items : List TraceItem) (mirrored desired differ : ℕ) → IsModel m → reg < length m.chip.regs → register_of m.chip op ≡ Some reg →
    HasNumbers m.chip (length m.layout.maps) op
    → has_end op e ≡ true → IsEndWithin (digits_of m.chip op) e → All (ItemFits m.layout) items → differ < 2 ^ count_of m.chip reg → mirrored ≡ mirrored_of m.mirror reg →
    desired ≡ desired_of m.mirror reg
    → EventFits m (record { op = op; end = e; trace = items; mirrored = mirrored; desired = desired; differ = differ })
event_fits m op reg e items mirrored desired differ ok inside register numbers ends within fit fields is_mirrored is_desired =
    let event : Event = record { op = op; end = e; trace = items; mirrored = mirrored; desired = desired; differ = differ } in
    let digits = bytes_digits (size_of m.chip reg) in
    record {
      ends = ends;
      numbers = numbers;
      values = subst (λ o. HasValues m.chip o event) (sym register) (
        subst (λ n. mirrored < n) (sym digits) (subst (λ n. n < 256 ^ size_of m.chip reg) (sym is_mirrored) (ok.mirror.mirrored reg inside).fits),
        subst (λ n. desired < n) (sym digits) (subst (λ n. n < 256 ^ size_of m.chip reg) (sym is_desired) (ok.mirror.desired reg inside).fits),
        fields,
      );
      within = within;
      items = fit;
    }

-- ---- nothing gathered

pub none_gathered : (n : ℕ) → IsNothingGathered (replicate n no_words)
none_gathered n = All-replicate (λ g. g ≡ no_words) n no_words refl

pub fresh_predictor : (l : LayoutData) (n : ℕ) → IsSound l → n ≡ length l.places → IsPredictorOf l (replicate n no_words)
fresh_predictor l n ok same = record {
  count = length-replicate n no_words ∙ same;
  shorter = λ p inside.
      let held : gathered_at (replicate n no_words) p ≡ no_words = All-get_or (λ g. g ≡ no_words) (replicate n no_words) p no_words (subst (λ k. p < k) (sym (length-replicate n no_words ∙ same))
      inside) (none_gathered n) in
      let some : 0 < length (words_of l p 0) = (ok.each_location p 0 (record { place_in = inside; index_in = let here = ok.each_place p inside in omega (arith, here.size) })).some in
      subst (λ g. length g.words < length (words_of l p 0)) (sym held) some;
}

-- the digits of a register hold what its bytes hold
pub sized_digits : (m : ModelData) (reg place : ℕ) → IsModel m → IsPlaceFor m (item.Reg reg) place → 16 ^ (2 * size_of m.chip reg) ≡ 256 ^ (place_at m.layout place).bytes
sized_digits m reg place ok there = bytes_digits (size_of m.chip reg) ∙ sym (ap (λ n. 256 ^ n) (place_size m (item.Reg reg) place ok there))
