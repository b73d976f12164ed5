-- The reset kinds and the maps of what was built have names.
use Rattle.std.proofs.Common.{◌≡◌, ℕ, ◌+◌, Bool, true, false, not, ◌&&◌, if◌then◌else◌, List, [], ◌∷◌, ◌++◌, length, map, fold, take, drop, nat_le, codes, All, Option, Some, None, inl, inr, refl, sym}
use Rattle.std.specs.List.{list_all}
use Rattle.std.proofs.lemmas.Bool.{cases_Bool, true≢false, and_parts}
use Rattle.std.proofs.lemmas.List.Elements.{All-nil, All-push}
use Rattle.std.proofs.lemmas.Option.{none-some}
use Rattle.rl_model.specs.declared.fault.Array.TheVariants as array
use Rattle.rl_model.specs.declared.fault.Spot.{Spot}
use Rattle.rl_model.specs.declared.fault.ModelFault.TheVariants as model_fault
use Rattle.rl_model.specs.declared.parts.ResetPart.{ResetPart}
use Rattle.rl_model.specs.Data.{FieldData, RegData, PartsData}
use Rattle.rl_model.specs.Paths.{is_among, with_text}
use Rattle.rl_model.specs.Rules.{is_name, or_else, first_of, field_of, row_of, reg_path, scope_path, field_checks, field_fault, fields_fault, kinds_fault}
use Rattle.rl_model.specs.Rules.{kinds_with, kinds_after, all_kinds, is_bad_width, path_fault, reg_fault, regs_fault, scopes_fault}
use Rattle.rl_model.specs.declared.fault.ModelCause.TheVariants.{BadName, BadWidth}
use Rattle.rl_model.specs.Build.{first_kinds, chip_of, chip_fault}
use Rattle.rl_bus.specs.declared.op.AdapterKind.{AdapterKind}
use Rattle.rl_map.specs.declared.fault.MapCause.TheVariants as map_cause
use Rattle.rl_map.specs.declared.fault.MapFault.TheVariants as map_fault
use Rattle.rl_map.specs.declared.parts.MapNode.{MapNode}
use Rattle.rl_map.specs.declared.rows.MapRow.{MapRow}
use Rattle.rl_map.specs.Maps.{MapTables, with_map, no_tables, map_row, layout_of}
use Rattle.rl_map.specs.Faults.{first_of as first_of_map, row_at, map_checks, maps_fault, layout_fault}
use Rattle.rl_report.specs.WithoutItems.{BuiltOnesHaveNames}

abbrev AreNames : List (List ℕ) → Type 0
AreNames texts = All (λ text. is_name text ≡ true) texts

-- ---- where there is no fault, no condition fails

neither : {X : Type 0} (a b : Option X) → or_else a b ≡ None → (a ≡ None) × (b ≡ None)
neither None b h = (refl, h)
neither (Some x) b h = absurd (none-some x (sym h))

is_first : {C F : Type 0} (fault : C → F) (b : Bool) (c : C) (rest : Option F) → (if b then Some (fault c) else rest) ≡ None → (b ≡ false) × (rest ≡ None)
is_first fault true c rest h = absurd (none-some (fault c) (sym h))
is_first fault false c rest h = (refl, h)

passed : (b : Bool) → not b ≡ false → b ≡ true
passed true h = refl
passed false h = absurd (true≢false h)

-- ---- reset kinds

names-with_text : (texts : List (List ℕ)) (text : List ℕ) → AreNames texts → is_name text ≡ true → AreNames (with_text texts text)
names-with_text texts text names name =
    elim (cases_Bool (is_among text texts)) [
      | inl there ↦ rw there names
      | inr other ↦ rw other (All-push (λ text. is_name text ≡ true) texts text names name)
    ]

names-kinds_with : (kinds : List (List ℕ)) (rs : List ResetPart) → AreNames kinds → list_all (λ r. is_name r.kind) rs ≡ true → AreNames (kinds_with kinds rs)
names-kinds_with kinds [] names each = names
names-kinds_with kinds (r ∷ rs) names each =
    let both = and_parts (is_name r.kind) (list_all (λ r. is_name r.kind) rs) each in
    names-kinds_with (with_text kinds r.kind) rs (names-with_text kinds r.kind names both.0) both.1

field_is_named : (spot : Spot) (bytes : ℕ) (earlier : List FieldData) (f : FieldData) → first_of spot (field_checks bytes earlier f) ≡ None
    → (is_name f.name && list_all (λ r. is_name r.kind) f.resets) ≡ true
field_is_named spot bytes earlier f h =
    passed (is_name f.name && list_all (λ r. is_name r.kind) f.resets)
    (is_first (λ cause. model_fault.Bad cause spot) (not (is_name f.name && list_all (λ r. is_name r.kind) f.resets)) BadName
    (first_of spot (drop 1 (field_checks bytes earlier f))) h).0

names-kinds_after : (spot : Spot) (r : RegData) (i : ℕ) (kinds : List (List ℕ)) (fs : List FieldData) → AreNames kinds → fields_fault spot r i kinds fs ≡ None → AreNames (kinds_after kinds fs)
names-kinds_after spot r i kinds [] names h = names
names-kinds_after spot r i kinds (f ∷ fs) names h =
    let rest = fields_fault spot r (i + 1) (kinds_with kinds f.resets) fs in
    let here = field_fault (field_of spot i) r.bytes (take i r.fields) kinds f in
    let parts = neither here rest h in
    let checks = neither (first_of (field_of spot i) (field_checks r.bytes (take i r.fields) f)) (kinds_fault (field_of spot i) (kinds_with kinds f.resets)) parts.0 in
    let named : (is_name f.name && list_all (λ r. is_name r.kind) f.resets) ≡ true = field_is_named (field_of spot i) r.bytes (take i r.fields) f checks.0 in
    let kind_names = (and_parts (is_name f.name) (list_all (λ r. is_name r.kind) f.resets) named).1 in
    names-kinds_after spot r (i + 1) (kinds_with kinds f.resets) fs (names-kinds_with kinds f.resets names kind_names) parts.1

names-all_kinds : (i scopes : ℕ) (paths kinds : List (List ℕ)) (rs : List RegData) → AreNames kinds → regs_fault i scopes paths kinds rs ≡ None → AreNames (all_kinds kinds rs)
names-all_kinds i scopes paths kinds [] names h = names
names-all_kinds i scopes paths kinds (r ∷ rs) names h =
    let spot = row_of array.Reg i in
    let parts = neither (reg_fault spot scopes paths kinds r) (regs_fault (i + 1) scopes (paths ++ reg_path r ∷ []) (kinds_after kinds r.fields) rs) h in
    let behind_path = (neither (path_fault spot 1024 scopes paths r.of r.name) _ parts.0).1 in
    let fields = (neither (first_of spot ((is_bad_width r.bytes, BadWidth) ∷ [])) (fields_fault spot r 0 kinds r.fields) behind_path).1 in
    names-all_kinds (i + 1) scopes (paths ++ reg_path r ∷ []) (kinds_after kinds r.fields) rs (names-kinds_after spot r 0 kinds r.fields names fields) parts.1

first_names : AreNames first_kinds
first_names = All-push (λ text. is_name text ≡ true) (codes "HARD" ∷ []) (codes "SOFT") (All-push (λ text. is_name text ≡ true) [] (codes "HARD") (All-nil (λ text. is_name text ≡ true)) refl) refl

kinds_are_names : (parts : PartsData) → chip_fault parts ≡ None → AreNames (chip_of parts).kinds
unfolding chip_fault chip_of
kinds_are_names parts h =
    let blocks = map scope_path parts.blocks in
    let scopes = blocks ++ map scope_path parts.files in
    let behind_blocks = (neither (scopes_fault array.Block 0 [] parts.blocks) _ h).1 in
    let behind_files = (neither (scopes_fault array.File 0 blocks parts.files) _ behind_blocks).1 in
    let regs = (neither (regs_fault 0 (length scopes) scopes first_kinds parts.regs) _ behind_files).0 in
    names-all_kinds 0 (length scopes) scopes first_kinds parts.regs first_names regs

-- ---- maps

map_is_named : (spot : Spot) (kinds : List AdapterKind) (earlier : List MapRow) (m : MapNode) → first_of_map spot (map_checks kinds earlier m) ≡ None → is_name m.name ≡ true
map_is_named spot kinds earlier m h =
    let checks = map_checks kinds earlier m in
    let few = is_first (λ cause. map_fault.Bad cause spot) (nat_le 64 (length earlier)) map_cause.TooMany (first_of_map spot (drop 1 checks)) h in
    passed (is_name m.name) (is_first (λ cause. map_fault.Bad cause spot) (not (is_name m.name)) map_cause.BadName (first_of_map spot (drop 2 checks)) few.1).0

names-with_map : (kinds : List AdapterKind) (t : MapTables) (ms : List MapNode) → All (λ row. is_name row.name ≡ true) t.maps → maps_fault kinds t ms ≡ None
    → All (λ row. is_name row.name ≡ true) (fold (with_map kinds) t ms).maps
names-with_map kinds t [] names h = names
names-with_map kinds t (m ∷ ms) names h =
    let spot = row_at array.Map (length t.maps) in
    let parts = neither (first_of_map spot (map_checks kinds t.maps m)) (maps_fault kinds (with_map kinds t m) ms) h in
    let named = map_is_named spot kinds t.maps m parts.0 in
    names-with_map kinds (with_map kinds t m) ms (All-push (λ row. is_name row.name ≡ true) t.maps (map_row (length t.ports) t.maps m) names named) parts.1

pub built_ones_have_names : BuiltOnesHaveNames
unfolding layout_fault layout_of
built_ones_have_names parts maps places kinds chip layout =
    let no_maps : All (λ row. is_name row.name ≡ true) no_tables.maps = All-nil (λ (row : MapRow). is_name row.name ≡ true) in
    let each = names-with_map kinds no_tables maps no_maps (neither (maps_fault kinds no_tables maps) _ layout).0 in
    record { kinds = kinds_are_names parts chip; maps = each }
