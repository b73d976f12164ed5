-- Maps that no condition refuses make sound tables.
use Rattle.std.proofs.Common.{◌≡◌, ℕ, zero, suc, ◌+◌, ◌<◌, ◌≤◌, Bool, true, false, not, ◌==◌, ◌&&◌, ◌||◌, inl, inr, nat_lt, nat_le, List, [], ◌∷◌, length, get_or, slice_get, Option, Some}
use Rattle.std.proofs.Common.{None, is_some, is_none, unwrap_or, refl, sym, ap, ◌∙◌, subst, arith, eqb-true}
use Rattle.std.specs.Prelude.{fold, bytes_eq}
use Rattle.std.proofs.lemmas.Bool.Decides.{nat_tests}
use Rattle.std.proofs.lemmas.List.Elements.{All-nil}
use Rattle.std.proofs.lemmas.List.Quantifiers.{position-Some}
use Rattle.rl_bus.specs.Lanes.{IsWidth}
use Rattle.rl_bus.specs.declared.op.AdapterKind.{AdapterKind}
use Rattle.rl_model.specs.declared.fault.Array.TheVariants as array
use Rattle.rl_model.specs.declared.fault.Spot.{Spot}
use Rattle.rl_model.proofs.SoundLemmas.{both_None, none_fails}
use Rattle.rl_map.specs.declared.fault.MapFault.TheVariants.{Bad}
use Rattle.rl_map.specs.declared.parts.MapNode.{MapNode}
use Rattle.rl_map.specs.declared.rows.MapRow.{MapRow}
use Rattle.rl_map.specs.declared.rows.PortRow.{PortRow}
use Rattle.rl_map.specs.Building.{IsMapRow, IsPortRow, AreTables, IsUnder, HasPort}
use Rattle.rl_map.specs.Faults.{Check, first_of, row_at, is_width, has_parent, map_checks, maps_fault}
use Rattle.rl_map.specs.Layout.{no_map, no_kind}
use Rattle.rl_map.specs.Maps.{MapTables, no_tables, with_map, tables_of, map_number, map_with, level_of, path_under, kind_number, kind_with, port_row}
use Rattle.rl_map.proofs.Chunks.{by_width}
use Rattle.rl_map.proofs.Growing.{tables_more}
use Rattle.rl_map.proofs.Bools.{ge_from}
use Rattle.rl_map.proofs.Lookups.{default_any, got_at}
use Rattle.rl_session_laws.specs.Sound.{AreKinds}

-- ---- conditions that did not fail

pub passed : (spot : Spot) (cs : List Check) → first_of spot cs ≡ None → (k : ℕ) (c : Check) → slice_get cs k ≡ Some c → c.0 ≡ false
passed spot = none_fails (λ cause. Bad cause spot)

pub not_false : (b : Bool) → not b ≡ false → b ≡ true
not_false true h = refl
not_false false h = absurd (cc)

width_from : (n : ℕ) → is_width n ≡ true → IsWidth n
width_from n h = by (n == 1) (n == 2) (n == 4) (n == 8) refl refl refl refl h
  where
    by : (a b c d : Bool) → (n == 1) ≡ a → (n == 2) ≡ b → (n == 4) ≡ c → (n == 8) ≡ d → (a || b || c || d) ≡ true → IsWidth n
    by true b c d p q r s e = inl (eqb-true n 1 p)
    by false true c d p q r s e = inr (inl (eqb-true n 2 q))
    by false false true d p q r s e = inr (inr (inl (eqb-true n 4 r)))
    by false false false true p q r s e = inr (inr (inr (eqb-true n 8 s)))
    by false false false false p q r s e = absurd (cc)

-- ---- a map

under_fits : (maps : List MapRow) (m : MapNode) (parent : Option (List ℕ)) → not (has_parent maps parent) ≡ false
    → nat_lt 4 (length (path_under maps parent (level_of m))) ≡ false → IsUnder maps parent
under_fits maps m None there short = tt
under_fits maps m (Some name) there short = by (map_number maps name) refl there short
  where
    by : (o : Option ℕ) → map_number maps name ≡ o → not (is_some o) ≡ false → nat_lt 4 (length (level_of m ∷ (map_with maps o).path)) ≡ false
        → (n : ℕ) × (map_number maps name ≡ Some n) × (n < length maps) × (length (get_or maps n no_map).path < 4)
    by None is there short = absurd (cc)
    by (Some n) is there short =
        (n, is, (position-Some (λ (r : MapRow). bytes_eq r.name name) maps n no_map is).0, (let low : length (get_or maps n no_map).path < 4 = grind (arith, nat_tests) in low))

port_fits : (kinds : List AdapterKind) (number : ℕ) (m : MapNode) → AreKinds kinds → IsWidth m.bytes → (o : Option ℕ) → kind_number kinds m.adapter ≡ o
    → is_none o ≡ false → nat_lt (kind_with kinds o).most_bytes m.bytes ≡ false → IsPortRow kinds (number + 1) (port_row kinds number m)
port_fits kinds number m k wide None is there fits = absurd (cc)
port_fits kinds number m k wide (Some n) is there fits =
    let at = position-Some (λ (a : AdapterKind). bytes_eq a.name m.adapter) kinds n no_kind is in
    subst (λ o. IsPortRow kinds (number + 1) (record {
      map = number;
      base = m.base;
      bytes = m.bytes;
      adapter = unwrap_or o 0;
      kind = kind_with kinds o;
      explicit = m.explicit;
    })) (sym is) (record {
      map = omega arith;
      width = wide;
      wide = ge_from (get_or kinds n no_kind).most_bytes m.bytes fits;
      adapter = got_at kinds n (get_or kinds n no_kind) at.0 (default_any kinds n no_kind (get_or kinds n no_kind) at.0);
      adapter_in = at.0;
      narrow = by_width (λ b. b ≤ 8) m.bytes wide (omega arith) (omega arith) (omega arith) (omega arith);
      most = k.low n no_kind at.0;
    })

has_port : (kinds : List AdapterKind) (number : ℕ) (m : MapNode) (parent : Option (List ℕ)) → AreKinds kinds → IsWidth m.bytes
    → (is_none parent && is_none (kind_number kinds m.adapter)) ≡ false
    → (is_none parent && nat_lt (kind_with kinds (kind_number kinds m.adapter)).most_bytes m.bytes) ≡ false → HasPort kinds number parent m
has_port kinds number m (Some name) k wide there fits = tt
has_port kinds number m None k wide there fits =
    by (kind_number kinds m.adapter) refl there fits
  where
    by : (o : Option ℕ) → kind_number kinds m.adapter ≡ o → is_none o ≡ false → nat_lt (kind_with kinds o).most_bytes m.bytes ≡ false
        → IsPortRow kinds (number + 1) (port_row kinds number m)
    by o is there fits = port_fits kinds number m k wide o is there fits

map_fits : (kinds : List AdapterKind) (t : MapTables) (m : MapNode) → AreKinds kinds → AreTables kinds t.maps t.ports
    → first_of (row_at array.Map (length t.maps)) (map_checks kinds t.maps m) ≡ None → AreTables kinds (with_map kinds t m).maps (with_map kinds t m).ports
map_fits kinds t m k h none =
    let spot = row_at array.Map (length t.maps) in
    let all = passed spot (map_checks kinds t.maps m) none in
    let many : nat_le 64 (length t.maps) ≡ false = all 0 _ refl in
    let there : not (has_parent t.maps m.parent) ≡ false = all 3 _ refl in
    let short : nat_lt 4 (length (path_under t.maps m.parent (level_of m))) ≡ false = all 4 _ refl in
    let wide : not (is_width m.bytes) ≡ false = all 5 _ refl in
    let adapter : (is_none m.parent && is_none (kind_number kinds m.adapter)) ≡ false = all 6 _ refl in
    let most : (is_none m.parent && nat_lt (kind_with kinds (kind_number kinds m.adapter)).most_bytes m.bytes) ≡ false = all 7 _ refl in
    let few : length t.maps < 64 = grind (arith, nat_tests) in
    let width : IsWidth m.bytes = width_from m.bytes (not_false (is_width m.bytes) wide) in
    tables_more kinds t.maps t.ports m h few width (under_fits t.maps m m.parent there short) (has_port kinds (length t.maps) m m.parent k width adapter most)

-- ---- all maps

maps_fit : (kinds : List AdapterKind) (ms : List MapNode) (t : MapTables) → AreKinds kinds → AreTables kinds t.maps t.ports → maps_fault kinds t ms ≡ None
    → AreTables kinds (fold (with_map kinds) t ms).maps (fold (with_map kinds) t ms).ports
maps_fit kinds [] t k h none = h
maps_fit kinds (m ∷ ms) t k h none =
    let step = both_None _ _ none in
    maps_fit kinds ms (with_map kinds t m) k (map_fits kinds t m k h step.0) step.1

no_maps : (kinds : List AdapterKind) → AreTables kinds [] []
no_maps kinds = record { few = omega arith; fewer = omega arith; each_map = All-nil (IsMapRow []); each_port = All-nil (IsPortRow kinds 0) }

pub tables_sound : (kinds : List AdapterKind) (maps : List MapNode) → AreKinds kinds → maps_fault kinds no_tables maps ≡ None
    → AreTables kinds (tables_of kinds maps).maps (tables_of kinds maps).ports
tables_sound kinds maps k none = maps_fit kinds maps no_tables k (no_maps kinds) none
