-- Places that no condition refuses, but for shared addresses.
use Rattle.std.proofs.Common.{◌≡◌, ℕ, zero, suc, ◌+◌, ◌<◌, ◌≤◌, Bool, false, ◌&&◌, nat_lt, nat_le, List, [], ◌∷◌, ◌++◌, length, map, slice_get, take, drop, sum_by}
use Rattle.std.proofs.Common.{Option, Some, None, is_none, unwrap_or, option_map, refl, sym, ap, ◌∙◌, subst, arith, append_assoc, append-nil, length-append, length-take}
use Rattle.std.specs.Option.{option_or}
use Rattle.std.specs.Prelude.{bytes_eq, position}
use Rattle.std.proofs.lemmas.Bool.Decides.{nat_tests}
use Rattle.std.proofs.lemmas.List.Elements.{All-nil}
use Rattle.std.proofs.lemmas.List.Quantifiers.{position-Some}
use Rattle.std.proofs.lemmas.List.Sums.{sum_by-cons}
use Rattle.rl_model.specs.declared.fault.Array.TheVariants as array
use Rattle.rl_model.specs.declared.rows.Item.{Item}
use Rattle.rl_model.specs.declared.rows.Item.TheVariants as item
use Rattle.rl_model.specs.declared.rows.MemRow.{MemRow}
use Rattle.rl_model.specs.declared.rows.RegRow.{RegRow}
use Rattle.rl_model.specs.Rows.{ChipData}
use Rattle.rl_model.specs.Chip.{HasItem, bytes_of, IsSound}
use Rattle.rl_model.proofs.SoundLemmas.{both_None, there}
use Rattle.rl_bus.specs.declared.op.AdapterKind.{AdapterKind}
use Rattle.rl_bus.specs.declared.table.WordRow.{WordRow}
use Rattle.rl_map.specs.declared.parts.PlacePart.{PlacePart}
use Rattle.rl_map.specs.declared.rows.MapRow.{MapRow}
use Rattle.rl_map.specs.declared.rows.PortRow.{PortRow}
use Rattle.rl_map.specs.declared.rows.PlaceRow.{PlaceRow}
use Rattle.rl_map.specs.Building.{AreTables, IsPlacedIn, IsPlaceRow, IsSeated, ArePlaces, placed_in, rows_of, rows_of_all}
use Rattle.rl_map.specs.Faults.{row_at, is_mem, is_placed, word_count, some_byte, is_above, is_unaligned}
use Rattle.rl_map.specs.Layout.{no_map}
use Rattle.rl_map.specs.Level.{has_fifo}
use Rattle.rl_map.specs.Maps.{IsPlaceIn, map_number, map_with, item_at, item_bytes, item_size, place_row}
use Rattle.rl_map.specs.Steps.{own_checks, own_fault, own_faults, place_of_part}
use Rattle.rl_map.proofs.Bools.{ge_from}
use Rattle.rl_map.proofs.Placing.{places_more, length-rows_of}
use Rattle.rl_session_laws.proofs.Maps.{passed}

-- ---- an item

size_low : (mems : List MemRow) (n : ℕ) (m : MemRow) → slice_get mems n ≡ Some m → m.size ≤ sum_by (λ m. m.size) mems
size_low [] n m at = absurd (cc)
size_low (x ∷ xs) zero m at =
    let is : x ≡ m = cc in omega (arith, ap (λ (m : MemRow). m.size) is, sum_by-cons (λ (m : MemRow). m.size) x xs)
size_low (x ∷ xs) (suc n) m at = omega (arith, size_low xs n m at, sum_by-cons (λ (m : MemRow). m.size) x xs)

-- a place of this map and this item
abbrev row_with : ChipData → List MapRow → PlacePart → Option ℕ → Option Item → PlaceRow
row_with chip maps part number found = record {
  map = unwrap_or number 0;
  item = unwrap_or found (item.Reg 0);
  offset = part.offset;
  rights = part.rights;
  bytes = item_bytes chip (unwrap_or found (item.Reg 0));
  size = item_size chip (unwrap_or found (item.Reg 0));
  port = (map_with maps number).port;
  fifo = has_fifo (map_with maps number).path;
}

-- one of an item whose numbers are within the limits
placed_by : (chip : ChipData) (maps : List MapRow) (part : PlacePart) (map : ℕ) (i : Item) → map < length maps
    → (1 ≤ item_bytes chip i) × (item_bytes chip i ≤ 8) → (1 ≤ item_size chip i) × (item_size chip i ≤ 65536)
    → ((r : ℕ) → i ≡ item.Reg r → item_size chip i ≡ 1) → IsPlaceIn chip (row_with chip maps part (Some map) (Some i))
    → IsPlacedIn chip maps (row_with chip maps part (Some map) (Some i))
placed_by chip maps part map i in_maps bytes size reg known = record {
  map = in_maps;
  port = refl;
  some = bytes.0;
  most = bytes.1;
  size = size.0;
  sizes = size.1;
  reg = reg;
  fifo = refl;
  known = known;
}

-- an item that is there has them, and so has a place of it
item_placed : (chip : ChipData) (maps : List MapRow) (part : PlacePart) (map : ℕ) (i : Item) → IsSound chip → map < length maps → HasItem chip i
    → IsPlacedIn chip maps (row_with chip maps part (Some map) (Some i))
item_placed chip maps part map (item.Reg n) ok in_maps low =
    let (r, at) = there chip.regs n low in
    let fits = ok.each_reg n r at in
    let is : item_bytes chip (item.Reg n) ≡ r.bytes = ap (λ (o : Option RegRow). unwrap_or (option_map (λ r. r.bytes) o) 0) at in
    placed_by chip maps part map (item.Reg n) in_maps (omega (arith, is, fits.0), omega (arith, is, fits.1)) (omega arith, omega arith) (λ r is. refl)
    (ap (option_map (λ (r : RegRow). r.bytes)) at ∙ ap Some (sym is), λ m is. absurd (cc))
item_placed chip maps part map (item.Mem n) ok in_maps low =
    let (m, at) = there chip.mems n low in
    let fits = ok.each_mem n m at in
    let is : item_bytes chip (item.Mem n) ≡ m.bytes = ap (λ (o : Option MemRow). unwrap_or (option_map (λ m. m.bytes) o) 0) at in
    let size : item_size chip (item.Mem n) ≡ m.size = ap (λ (o : Option MemRow). unwrap_or (option_map (λ m. m.size) o) 0) at in
    placed_by chip maps part map (item.Mem n) in_maps (omega (arith, is, fits.0), omega (arith, is, fits.1))
    (omega (arith, size, fits.2), omega (arith, size, size_low chip.mems n m at, ok.locations)) (λ r is. absurd (cc)) (
      ap (option_map (λ (m : MemRow). m.bytes)) at ∙ ap Some (sym is),
      λ k same.
          let e : n ≡ k = cc in subst (λ k. option_map (λ (m : MemRow). m.size) (slice_get chip.mems k) ≡ Some (item_size chip (item.Mem n))) e
          (ap (option_map (λ (m : MemRow). m.size)) at ∙ ap Some (sym size)),
    )

-- what a look-up finds is there
item_found : (chip : ChipData) (path : List ℕ) (i : Item) → item_at chip path ≡ Some i → HasItem chip i
item_found chip path i is =
    by (position (bytes_eq path) (take (length chip.regs) (drop chip.scopes chip.paths)))
    (position (bytes_eq path) (take (length chip.mems) (drop (chip.scopes + length chip.regs) chip.paths))) refl refl is
  where
    by : (a b : Option ℕ) → position (bytes_eq path) (take (length chip.regs) (drop chip.scopes chip.paths)) ≡ a
        → position (bytes_eq path) (take (length chip.mems) (drop (chip.scopes + length chip.regs) chip.paths)) ≡ b
        → option_or (option_map (λ n. item.Reg n) a) (option_map (λ n. item.Mem n) b) ≡ Some i → HasItem chip i
    by (Some n) b p q e =
        let low = (position-Some (bytes_eq path) _ n [] p).0 in
        let same : item.Reg n ≡ i = cc in
        subst (HasItem chip) same (omega (arith, low, length-take (length chip.regs) (drop chip.scopes chip.paths)))
    by None (Some n) p q e =
        let low = (position-Some (bytes_eq path) _ n [] q).0 in
        let same : item.Mem n ≡ i = cc in
        subst (HasItem chip) same (omega (arith, low, length-take (length chip.mems) (drop (chip.scopes + length chip.regs) chip.paths)))
    by None None p q e = absurd (cc)

-- ---- a place

row_fits : (chip : ChipData) (maps : List MapRow) (part : PlacePart) → IsSound chip → (number : Option ℕ) (found : Option Item)
    → map_number maps part.map ≡ number → item_at chip part.item ≡ found → is_none number ≡ false → is_none found ≡ false
    → IsPlacedIn chip maps (row_with chip maps part number found)
row_fits chip maps part ok None found p q a b = absurd (cc)
row_fits chip maps part ok (Some n) None p q a b = absurd (cc)
row_fits chip maps part ok (Some n) (Some i) p q a b =
    let at = position-Some (λ (r : MapRow). bytes_eq r.name part.map) maps n no_map p in
    item_placed chip maps part n i ok at.0 (item_found chip part.item i q)

is_memory : (i : Item) (m : ℕ) (fifo : Bool) → i ≡ item.Mem m → (is_mem i && fifo) ≡ false → fifo ≡ false
is_memory (item.Reg n) m fifo is none = absurd (cc)
is_memory (item.Mem n) m fifo is none = none

module _ (chip : ChipData) (kinds : List AdapterKind) (maps : List MapRow) (ports : List PortRow) (ok : IsSound chip) (tables : AreTables kinds maps ports) where
  -- one place more
  place_more : (earlier : List PlaceRow) (rows : List WordRow) (part : PlacePart) → ArePlaces chip maps ports earlier rows
      → own_fault chip maps ports earlier (length rows) part ≡ None
      → ArePlaces chip maps ports (earlier ++ place_row chip maps part ∷ []) (rows ++ rows_of maps ports (length earlier) (place_row chip maps part))
  place_more earlier rows part h none =
      let row = place_row chip maps part in
      let p = place_of_part chip maps ports part in
      let all = passed (row_at array.Place (length earlier)) (own_checks chip maps earlier (length rows) part p) none in
      let many : nat_le 4096 (length earlier) ≡ false = all 0 _ refl in
      let map_there : is_none (map_number maps part.map) ≡ false = all 1 _ refl in
      let item_there : is_none (item_at chip part.item) ≡ false = all 2 _ refl in
      let new : is_placed earlier row ≡ false = all 3 _ refl in
      let lined : (is_mem row.item && row.fifo) ≡ false = all 4 _ refl in
      let room : nat_lt 1048576 (length rows + word_count p) ≡ false = all 5 _ refl in
      let low : some_byte p (is_above p) ≡ false = all 6 _ refl in
      let straight : some_byte p (is_unaligned p) ≡ false = all 7 _ refl in
      let placed : IsPlacedIn chip maps row = row_fits chip maps part ok (map_number maps part.map) (item_at chip part.item) refl refl map_there item_there in
      let fits : IsPlaceRow chip maps ports row = record {
        placed = placed;
        port_in = subst (λ n. n < length ports) (sym placed.port) (tables.each_map row.map no_map placed.map).port;
        mem = λ m is. is_memory row.item m row.fifo is lined;
      } in
      places_more chip maps ports earlier rows row (length earlier) (length rows) earlier (earlier ++ row ∷ []) (rows ++ rows_of maps ports (length earlier) row) h fits
      (record { room = ge_from 1048576 (length rows + word_count p) room; seated = record { low = low; straight = straight } })
      refl (let few : length earlier < 4096 = grind (arith, nat_tests) in few) new refl refl refl refl

  -- all of them
  record Placed (earlier : List PlaceRow) (parts : List PlacePart) : Type 0 where
    rows : List WordRow
    are : ArePlaces chip maps ports (earlier ++ map (place_row chip maps) parts) rows

  places_fit : (parts : List PlacePart) (earlier : List PlaceRow) (rows : List WordRow) → ArePlaces chip maps ports earlier rows
      → own_faults chip maps ports earlier (length rows) parts ≡ None → Placed earlier parts
  places_fit [] earlier rows h none = record { rows = rows; are = subst (λ x. ArePlaces chip maps ports x rows) (sym (append-nil earlier)) h }
  places_fit (part ∷ parts) earlier rows h none =
      let row = place_row chip maps part in
      let step = both_None _ _ none in
      let rows' = rows ++ rows_of maps ports (length earlier) row in
      let long : length rows' ≡ length rows + word_count (place_of_part chip maps ports part) =
      length-append rows (rows_of maps ports (length earlier) row) ∙ ap (λ n. length rows + n) (length-rows_of maps ports (length earlier) row) in
      let rest = places_fit parts (earlier ++ row ∷ []) rows' (place_more earlier rows part h step.0)
      (subst (λ n. own_faults chip maps ports (earlier ++ row ∷ []) n parts ≡ None) (sym long) step.1) in
      record { rows = rest.rows; are = subst (λ x. ArePlaces chip maps ports x rest.rows) (append_assoc earlier (row ∷ []) (map (place_row chip maps) parts)) rest.are }

  no_places : ArePlaces chip maps ports [] []
  no_places = record {
    few = omega arith;
    once = λ p q a b. absurd (omega (arith, a));
    each = All-nil (IsPlaceRow chip maps ports);
    seated = All-nil (λ p. IsSeated (placed_in maps ports p));
    words_are = refl;
    few_words = omega arith;
  }

  pub places_sound : (parts : List PlacePart) → own_faults chip maps ports [] 0 parts ≡ None
      → ArePlaces chip maps ports (map (place_row chip maps) parts) (rows_of_all maps ports (map (place_row chip maps) parts))
  places_sound parts none =
      let all = places_fit parts [] [] no_places none in
      subst (ArePlaces chip maps ports (map (place_row chip maps) parts)) all.are.words_are all.are
