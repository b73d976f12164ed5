-- The rows of the description have no fault where the adapters that they name are at hand.
use Rattle.std.proofs.Common.{◌≡◌, ℕ, Bool, false, nat_lt, if◌then◌else◌, List, [], ◌∷◌, length, Option, Some, None, codes, refl, sym, ap, ◌∙◌}
use Rattle.std.specs.Fmt.{digits}
use Rattle.std.specs.List.{position_or_len}
use Rattle.std.specs.Option.{option_map, is_none, unwrap_or}
use Rattle.std.specs.Str.{bytes_eq}
use Rattle.std.proofs.lemmas.Bool.{lt-ltb}
use Rattle.std.proofs.lemmas.List.Folds.{find_at}
use Rattle.std.proofs.lemmas.Option.{slice_get_within, get_or_from_slice_get}
use Rattle.rl_policy.specs.Bits.{bit}
use Rattle.rl_model.specs.declared.fault.Array.TheVariants as array
use Rattle.rl_model.specs.Build.{chip_of, chip_fault}
use Rattle.rl_bus.specs.declared.op.AdapterKind.{AdapterKind}
use Rattle.rl_bus.specs.Kinds.{plain_kind}
use Rattle.rl_apb.specs.Kinds.{apb_kind}
use Rattle.rl_map.specs.declared.fault.MapFault.{MapFault}
use Rattle.rl_map.specs.declared.path.Kind.TheVariants.{Big, Little}
use Rattle.rl_map.specs.declared.parts.MapNode.{MapNode}
use Rattle.rl_map.specs.declared.rows.MapRow.{MapRow}
use Rattle.rl_map.specs.declared.rows.PortRow.{PortRow}
use Rattle.rl_map.specs.Layout.{no_kind}
use Rattle.rl_map.specs.Maps.{MapTables, no_tables, with_map, tables_of, layout_of, map_row, kind_number, kind_with}
use Rattle.rl_map.specs.Faults.{first_of, row_at, map_checks, maps_fault, places_fault, layout_fault}
use Rattle.rl_model.specs.Rules.{or_else}
use Rattle.rl_desc.specs.Data.{DocumentData}
use Rattle.rl_desc.specs.Faults.{of_model, of_map}
use Rattle.rl_desc.specs.Flaws.{flaws_fault}
use Rattle.rl_desc.specs.Refusals.{first}
use Rattle.rl_desc.specs.Described.{rows_fault, described}
use Rattle.rl_session.specs.Session.{said_by}
use Rattle.rl_session.specs.Soak.{policy_of}
use Rattle.rl_session_laws.specs.SoakDescription.{map_data, soak_data}
use Rattle.rl_session_laws.specs.SoakNoFault.{IsAtHand, HasNoFault, DescriptionHasNoFault}
use Rattle.rl_session_laws.proofs.SoakTable.{description_reads}

-- ---- the adapters

-- the number of a kind's name among the kinds, and what is there
record IsFound (kind : AdapterKind) (kinds : List AdapterKind) : Type 0 where
  number : ℕ
  first : kind_number kinds kind.name ≡ Some number
  is_kind : kind_with kinds (kind_number kinds kind.name) ≡ kind

found : (kind : AdapterKind) (kinds : List AdapterKind) → IsAtHand kind kinds → IsFound kind kinds
found kind kinds here =
    let test = λ (k : AdapterKind). bytes_eq k.name kind.name in
    let n = position_or_len test kinds in
    let at = sym (find_at test kinds) ∙ here in
    let within = slice_get_within kinds n kind at in
    let first : kind_number kinds kind.name ≡ Some n = ap (λ b. if b then Some n else None) (lt-ltb n (length kinds) within) in
    record { number = n; first = first; is_kind = ap (kind_with kinds) first ∙ get_or_from_slice_get kinds n kind no_kind at }

-- ---- the chip

chip_passes : chip_fault soak_data.parts ≡ None
unfolding chip_fault soak_data digits policy_of
chip_passes = refl

-- ---- the maps

abbrev bus : MapNode
bus = map_data (codes "bus") 2 Big (codes "plain")

abbrev per : MapNode
per = map_data (codes "per") 4 Little (codes "apb")

-- the rows of the two maps
abbrev bus_row : MapRow
bus_row = map_row 0 [] bus

abbrev per_row : MapRow
per_row = map_row 1 (bus_row ∷ []) per

two_pass : (a b : Bool) (x y : Option MapFault) → a ≡ false → b ≡ false → (if a then x else if b then y else None) ≡ None
two_pass a b x y ea eb = ap (λ t. if t then x else if b then y else None) ea ∙ ap (λ t. if t then y else None) eb

bus_passes : (kinds : List AdapterKind) → IsFound plain_kind kinds → first_of (row_at array.Map 0) (map_checks kinds [] bus) ≡ None
bus_passes kinds at =
    let number = kind_number kinds (codes "plain") in
    two_pass (is_none number) (nat_lt (kind_with kinds number).most_bytes 2) _ _ (ap is_none at.first)
    (ap (λ (k : AdapterKind). nat_lt k.most_bytes 2) at.is_kind)

per_passes : (kinds : List AdapterKind) → IsFound apb_kind kinds
    → first_of (row_at array.Map 1) (map_checks kinds (bus_row ∷ []) per) ≡ None
per_passes kinds at =
    let number = kind_number kinds (codes "apb") in
    two_pass (is_none number) (nat_lt (kind_with kinds number).most_bytes 4) _ _ (ap is_none at.first)
    (ap (λ (k : AdapterKind). nat_lt k.most_bytes 4) at.is_kind)

maps_pass : (kinds : List AdapterKind) → IsFound plain_kind kinds → IsFound apb_kind kinds
    → maps_fault kinds no_tables (bus ∷ per ∷ []) ≡ None
maps_pass kinds plain apb =
    ap (λ o. or_else o (maps_fault kinds (with_map kinds no_tables bus) (per ∷ []))) (bus_passes kinds plain)
    ∙ ap (λ o. or_else o None) (per_passes kinds apb)

-- ---- the places

-- a root of so many bytes, over adapter number a, which is of this kind
abbrev port : (map bytes a : ℕ) → AdapterKind → PortRow
port map bytes a kind = record { map = map; base = 0; bytes = bytes; adapter = a; kind = kind; explicit = false }

abbrev tables : (a b : ℕ) (k l : AdapterKind) → MapTables
tables a b k l = record { maps = bus_row ∷ per_row ∷ []; ports = port 0 2 a k ∷ port 1 4 b l ∷ [] }

tables_are : (kinds : List AdapterKind) (plain : IsFound plain_kind kinds) (apb : IsFound apb_kind kinds)
    → tables_of kinds (bus ∷ per ∷ [])
    ≡ tables (unwrap_or (kind_number kinds (codes "plain")) 0) (unwrap_or (kind_number kinds (codes "apb")) 0) plain_kind apb_kind
tables_are kinds plain apb =
    let a = unwrap_or (kind_number kinds (codes "plain")) 0 in
    let b = unwrap_or (kind_number kinds (codes "apb")) 0 in
    ap (λ k. tables a b k (kind_with kinds (kind_number kinds (codes "apb")))) plain.is_kind
    ∙ ap (λ l. tables a b plain_kind l) apb.is_kind

places_pass : (a b : ℕ) → places_fault (chip_of soak_data.parts) (tables a b plain_kind apb_kind) [] 0 soak_data.places ≡ None
unfolding chip_of soak_data digits policy_of bit
places_pass a b = refl

layout_passes : (kinds : List AdapterKind) → IsFound plain_kind kinds → IsFound apb_kind kinds
    → layout_fault (chip_of soak_data.parts) soak_data.maps soak_data.places kinds ≡ None
unfolding layout_fault soak_data
layout_passes kinds plain apb =
    let chip = chip_of soak_data.parts in
    ap (λ o. or_else o (places_fault chip (tables_of kinds (bus ∷ per ∷ [])) [] 0 soak_data.places)) (maps_pass kinds plain apb)
    ∙ ap (λ t. places_fault chip t [] 0 soak_data.places) (tables_are kinds plain apb)
    ∙ places_pass (unwrap_or (kind_number kinds (codes "plain")) 0) (unwrap_or (kind_number kinds (codes "apb")) 0)

-- ---- the description

no_flaws : soak_data.flaws ≡ []
unfolding soak_data
no_flaws = refl

-- rows pass whose chip and layout do, and that have no flaw
parts_pass : (rows : DocumentData) (kinds : List AdapterKind) → chip_fault rows.parts ≡ None
    → layout_fault (chip_of rows.parts) rows.maps rows.places kinds ≡ None → rows.flaws ≡ [] → rows_fault rows kinds ≡ None
unfolding rows_fault
parts_pass rows kinds chip_fits layout_fits none =
    let chip = chip_of rows.parts in
    let layout = layout_of chip rows.maps rows.places kinds in
    let flaws = flaws_fault chip layout 0 rows.flaws in
    ap (λ o. first (option_map of_model o ∷ option_map of_map (layout_fault chip rows.maps rows.places kinds) ∷ flaws ∷ [])) chip_fits
    ∙ ap (λ o. first (option_map of_map o ∷ flaws ∷ [])) layout_fits
    ∙ ap (λ parts. first (flaws_fault chip layout 0 parts ∷ [])) none

rows_pass : (kinds : List AdapterKind) → IsFound plain_kind kinds → IsFound apb_kind kinds → rows_fault soak_data kinds ≡ None
rows_pass kinds plain apb = parts_pass soak_data kinds chip_passes (layout_passes kinds plain apb) no_flaws

pub no_fault : DescriptionHasNoFault
no_fault kinds plain apb =
    let rows = rows_pass kinds (found plain_kind kinds plain) (found apb_kind kinds apb) in
    record {
      rows = rows;
      text = description_reads.fault kinds ∙ rows;
      opens = λ n. description_reads.opens n kinds ∙ ap (λ fault. said_by fault (Some (described soak_data kinds))) rows;
    }
