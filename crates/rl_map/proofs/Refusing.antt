-- The first condition that fails, step by step.
use Rattle.std.proofs.Common.{◌≡◌, ℕ, zero, suc, ◌+◌, ◌<◌, ◌≤◌, Bool, true, false, not, cond, List, [], ◌∷◌, ◌++◌, length, get_or, drop, nat_lt, Option, Some, None, refl, sym, ap, ◌∙◌, subst, arith}
use Rattle.std.specs.Prelude.{Result, Err, is_some, bytes_eq, ⊤}
use Rattle.std.proofs.lemmas.Bool.Decides.{nat_tests}
use Rattle.std.proofs.lemmas.List.Quantifiers.{position-Some}
use Rattle.rl_model.specs.declared.fault.Array.TheVariants as array
use Rattle.rl_model.specs.declared.fault.Spot.{Spot}
use Rattle.rl_model.specs.Rules.{or_else}
use Rattle.rl_bus.specs.declared.op.AdapterKind.{AdapterKind}
use Rattle.rl_map.specs.declared.fault.MapCause.TheVariants.{NoSuchMap, TooDeep, BadBytes}
use Rattle.rl_map.specs.declared.fault.MapFault.{MapFault}
use Rattle.rl_map.specs.declared.fault.MapFault.TheVariants.{Bad}
use Rattle.rl_map.specs.declared.path.Level.{Level}
use Rattle.rl_map.specs.declared.parts.MapNode.{MapNode}
use Rattle.rl_map.specs.declared.rows.MapRow.{MapRow}
use Rattle.rl_map.specs.declared.rows.PortRow.{PortRow}
use Rattle.rl_map.specs.Layout.{no_map}
use Rattle.rl_map.specs.Maps.{MapTables, map_number, map_with, level_of, path_under, map_row, ports_with, with_map}
use Rattle.rl_map.specs.Faults.{Check, first_of, row_at, has_parent, is_width, map_checks, maps_fault, Fails, Passes}
use Rattle.rl_map.specs.Steps.{name_checks, under_checks, row_checks, port_checks}
use Rattle.rl_map.proofs.Lookups.{read_is}
use Rattle.rl_map.proofs.Lists.{dropped}

-- ---- a list of conditions after another

pub first_append : (spot : Spot) (a b : List Check) → first_of spot (a ++ b) ≡ or_else (first_of spot a) (first_of spot b)
first_append spot [] b = refl
first_append spot (c ∷ cs) b = by c.0 (first_append spot cs b)
  where
    by : (t : Bool) → first_of spot (cs ++ b) ≡ or_else (first_of spot cs) (first_of spot b)
        → cond t (Some (Bad c.1 spot)) (first_of spot (cs ++ b)) ≡ or_else (cond t (Some (Bad c.1 spot)) (first_of spot cs)) (first_of spot b)
    by true more = refl
    by false more = more

pub first_met : (spot : Spot) (a b : List Check) (e : MapFault) → first_of spot a ≡ Some e → first_of spot (a ++ b) ≡ Some e
first_met spot a b e h = first_append spot a b ∙ ap (λ o. or_else o (first_of spot b)) h

pub first_later : (spot : Spot) (a b : List Check) → first_of spot a ≡ None → first_of spot (a ++ b) ≡ first_of spot b
first_later spot a b h = first_append spot a b ∙ ap (λ o. or_else o (first_of spot b)) h

-- ---- what the exit of a call returns

pub failed : {X : Type 0} (r : Result X MapFault) (fault : Option MapFault) (e y : MapFault) → r ≡ Err y → y ≡ e → Fails e fault → Passes r fault (λ _. ⊤)
failed r fault e y at same h = subst (λ x. Passes x fault (λ _. ⊤)) (sym at) (subst (λ x. Fails x fault) (sym same) h)

-- ---- a map under its parent

-- the conditions on a parent
abbrev parent_checks : List MapRow → Level → Option (List ℕ) → List Check
parent_checks maps level parent = (not (has_parent maps parent), NoSuchMap) ∷ (nat_lt 4 (length (path_under maps parent level)), TooDeep) ∷ []

no_parent : (spot : Spot) (maps : List MapRow) (level : Level) (name : List ℕ) → map_number maps name ≡ None
    → first_of spot (parent_checks maps level (Some name)) ≡ Some (Bad NoSuchMap spot)
no_parent spot maps level name h =
    subst (λ o. first_of spot ((not (is_some o), NoSuchMap) ∷ (nat_lt 4 (length (level ∷ (map_with maps o).path)), TooDeep) ∷ []) ≡ Some (Bad NoSuchMap spot)) (sym h) refl

a_parent : (spot : Spot) (maps : List MapRow) (level : Level) (name : List ℕ) (n : ℕ) (row : MapRow) → map_number maps name ≡ Some n → row ≡ get_or maps n row
    → first_of spot (parent_checks maps level (Some name)) ≡ cond (nat_lt 4 (length (level ∷ row.path))) (Some (Bad TooDeep spot)) None
a_parent spot maps level name n row h read =
    let at = position-Some (λ (m : MapRow). bytes_eq m.name name) maps n no_map h in
    subst (λ o. first_of spot ((not (is_some o), NoSuchMap) ∷ (nat_lt 4 (length (level ∷ (map_with maps o).path)), TooDeep) ∷ []) ≡ cond
    (nat_lt 4 (length (level ∷ row.path))) (Some (Bad TooDeep spot)) None) (sym h)
    (ap (λ (r : MapRow). cond (nat_lt 4 (length (level ∷ r.path))) (Some (Bad TooDeep spot)) None) (sym (read_is maps n row no_map at.0 read)))

pub under_none : (spot : Spot) (maps : List MapRow) (m : MapNode) (name : List ℕ) → m.parent ≡ Some name → map_number maps name ≡ None
    → first_of spot (under_checks maps m) ≡ Some (Bad NoSuchMap spot)
under_none spot maps m name e h =
    subst (λ o. first_of spot (parent_checks maps (level_of m) o) ≡ Some (Bad NoSuchMap spot)) (sym e) (no_parent spot maps (level_of m) name h)

is_deep : (n : ℕ) → 4 ≤ n → nat_lt 4 (suc n) ≡ true
is_deep n h = grind (arith, nat_tests)

is_flat : (n : ℕ) → n < 4 → nat_lt 4 (suc n) ≡ false
is_flat n h = grind (arith, nat_tests)

pub under_deep : (spot : Spot) (maps : List MapRow) (m : MapNode) (name : List ℕ) (n : ℕ) (row : MapRow) → m.parent ≡ Some name → map_number maps name ≡ Some n
    → row ≡ get_or maps n row → 4 ≤ length row.path → first_of spot (under_checks maps m) ≡ Some (Bad TooDeep spot)
under_deep spot maps m name n row e h read deep =
    subst (λ o. first_of spot (parent_checks maps (level_of m) o) ≡ Some (Bad TooDeep spot)) (sym e)
    (a_parent spot maps (level_of m) name n row h read ∙ ap (λ t. cond t (Some (Bad TooDeep spot)) None) (is_deep (length row.path) deep))

pub under_fine : (spot : Spot) (maps : List MapRow) (m : MapNode) (name : List ℕ) (n : ℕ) (row : MapRow) → m.parent ≡ Some name → map_number maps name ≡ Some n
    → row ≡ get_or maps n row → length row.path < 4 → first_of spot (under_checks maps m) ≡ None
under_fine spot maps m name n row e h read flat =
    subst (λ o. first_of spot (parent_checks maps (level_of m) o) ≡ None) (sym e)
    (a_parent spot maps (level_of m) name n row h read ∙ ap (λ t. cond t (Some (Bad TooDeep spot)) None) (is_flat (length row.path) flat))

-- ---- a map's row, and the map

abbrev width_checks : MapNode → List Check
width_checks m = (not (is_width m.bytes), BadBytes) ∷ []

pub row_by_name : (spot spot' : Spot) (maps : List MapRow) (m : MapNode) (e : MapFault) → spot' ≡ spot → Fails e (first_of spot' (name_checks maps m))
    → Fails e (first_of spot (row_checks maps m))
row_by_name spot spot' maps m e same h other = first_met spot (name_checks maps m) (under_checks maps m ++ width_checks m) e (subst (λ s. first_of s (name_checks maps m) ≡ Some e) same (h other))

pub row_by_path : (spot spot' : Spot) (maps : List MapRow) (m : MapNode) (e : MapFault) → spot' ≡ spot → first_of spot' (name_checks maps m) ≡ None
    → Fails e (first_of spot' (under_checks maps m)) → Fails e (first_of spot (row_checks maps m))
row_by_path spot spot' maps m e same fine h other =
    first_later spot (name_checks maps m) (under_checks maps m ++ width_checks m) (subst (λ s. first_of s (name_checks maps m) ≡ None) same fine)
    ∙ first_met spot (under_checks maps m) (width_checks m) e (subst (λ s. first_of s (under_checks maps m) ≡ Some e) same (h other))

pub row_by_width : (spot spot' : Spot) (maps : List MapRow) (m : MapNode) (e : MapFault) → spot' ≡ spot → first_of spot' (name_checks maps m) ≡ None
    → first_of spot' (under_checks maps m) ≡ None → is_width m.bytes ≡ false → e ≡ Bad BadBytes spot' → Fails e (first_of spot (row_checks maps m))
row_by_width spot spot' maps m e same named under narrow is other =
    first_later spot (name_checks maps m) (under_checks maps m ++ width_checks m) (subst (λ s. first_of s (name_checks maps m) ≡ None) same named)
    ∙ first_later spot (under_checks maps m) (width_checks m) (subst (λ s. first_of s (under_checks maps m) ≡ None) same under)
    ∙ ap (λ t. cond (not t) (Some (Bad BadBytes spot)) None) narrow ∙ ap (λ s. Some (Bad BadBytes s)) (sym same) ∙ ap Some (sym is)

pub row_fine : (spot spot' : Spot) (maps : List MapRow) (m : MapNode) → spot' ≡ spot → first_of spot' (name_checks maps m) ≡ None
    → first_of spot' (under_checks maps m) ≡ None → is_width m.bytes ≡ true → first_of spot (row_checks maps m) ≡ None
row_fine spot spot' maps m same named under wide =
    first_later spot (name_checks maps m) (under_checks maps m ++ width_checks m) (subst (λ s. first_of s (name_checks maps m) ≡ None) same named)
    ∙ first_later spot (under_checks maps m) (width_checks m) (subst (λ s. first_of s (under_checks maps m) ≡ None) same under)
    ∙ ap (λ t. cond (not t) (Some (Bad BadBytes spot)) None) wide

pub map_by_row : (kinds : List AdapterKind) (spot : Spot) (maps : List MapRow) (m : MapNode) (e : MapFault) → Fails e (first_of spot (row_checks maps m))
    → Fails e (first_of spot (map_checks kinds maps m))
map_by_row kinds spot maps m e h other = first_met spot (row_checks maps m) (port_checks kinds m) e (h other)

-- a map whose row passes
pub map_by_port : (kinds : List AdapterKind) (maps maps' : List MapRow) (m : MapNode) (number : ℕ) → maps' ≡ maps → number ≡ length maps
    → first_of (row_at array.Map (length maps')) (row_checks maps' m) ≡ None
    → first_of (row_at array.Map (length maps)) (map_checks kinds maps m) ≡ first_of (row_at array.Map number) (port_checks kinds m)
map_by_port kinds maps maps' m number same count fine =
    first_later (row_at array.Map (length maps)) (row_checks maps m) (port_checks kinds m)
    (subst (λ x. first_of (row_at array.Map (length x)) (row_checks x m) ≡ None) same fine)
    ∙ ap (λ n. first_of (row_at array.Map n) (port_checks kinds m)) (sym count)

-- ---- all maps

abbrev tables : List MapRow → List PortRow → MapTables
tables maps ports = record { maps = maps; ports = ports }

abbrev pub maps_from : List AdapterKind → List MapRow → List PortRow → List MapNode → Option MapFault
maps_from kinds maps ports parts = maps_fault kinds (record { maps = maps; ports = ports }) parts

-- a map that is refused
pub maps_end : (kinds : List AdapterKind) (maps : List MapRow) (ports : List PortRow) (parts : List MapNode) (i : ℕ) (m : MapNode) (whole : Option MapFault) (e : MapFault)
    → i < length parts → m ≡ get_or parts i m → maps_from kinds maps ports (drop i parts) ≡ whole
    → Fails e (first_of (row_at array.Map (length maps)) (map_checks kinds maps m)) → Fails e whole
maps_end kinds maps ports parts i m whole e low read was h other =
    sym was ∙ ap (maps_from kinds maps ports) (dropped parts i m low read)
    ∙ ap (λ o. or_else o (maps_fault kinds (with_map kinds (tables maps ports) m) (drop (i + 1) parts))) (h other)

-- a map that is added
pub maps_next : (kinds : List AdapterKind) (maps : List MapRow) (ports : List PortRow) (maps' : List MapRow) (ports' : List PortRow)
    (parts : List MapNode) (i : ℕ) (m : MapNode) (whole : Option MapFault)
    → i < length parts → m ≡ get_or parts i m → maps_from kinds maps ports (drop i parts) ≡ whole
    → first_of (row_at array.Map (length maps)) (map_checks kinds maps m) ≡ None
    → maps' ≡ maps ++ map_row (length ports) maps m ∷ [] → ports' ≡ ports_with kinds (length maps) ports m.parent m
    → maps_from kinds maps' ports' (drop (i + 1) parts) ≡ whole
maps_next kinds maps ports maps' ports' parts i m whole low read was fine a b =
    ap (λ x. maps_from kinds x ports' (drop (i + 1) parts)) a ∙ ap (λ y. maps_from kinds (maps ++ map_row (length ports) maps m ∷ []) y (drop (i + 1) parts)) b
    ∙ sym (ap (λ o. or_else o (maps_fault kinds (with_map kinds (tables maps ports) m) (drop (i + 1) parts))) fine)
    ∙ ap (maps_from kinds maps ports) (sym (dropped parts i m low read)) ∙ was

-- no map is left
pub maps_done : (kinds : List AdapterKind) (maps : List MapRow) (ports : List PortRow) (parts : List MapNode) (i : ℕ) (whole : Option MapFault)
    → length parts ≤ i → maps_from kinds maps ports (drop i parts) ≡ whole → whole ≡ None
maps_done kinds maps ports parts i whole high was = sym was ∙ ap (maps_from kinds maps ports) (nothing parts i high)
  where
    nothing : {X : Type 0} (xs : List X) (i : ℕ) → length xs ≤ i → drop i xs ≡ []
    nothing [] zero h = refl
    nothing [] (suc i) h = refl
    nothing (x ∷ xs) zero h = absurd (omega arith)
    nothing (x ∷ xs) (suc i) h = nothing xs i (omega arith)
