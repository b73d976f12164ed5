-- The first fault of all, and the layout where there is none.
use Rattle.std.proofs.Common.{◌≡◌, ◌<◌, ◌^◌, List, [], ◌++◌, length, map, Option, Some, None, refl, sym, ap, ◌∙◌, subst}
use Rattle.std.specs.Prelude.{All, IsPermutation, option_map, Result, Err}
use Rattle.std.specs.List.Sorted.{IsStableByKey}
use Rattle.std.specs.Ordering.{nat_cmp}
use Rattle.std.proofs.lemmas.List.Elements.{All-from_recursion}
use Rattle.std.proofs.lemmas.List.Sorted.{length_permutation, All-permutation}
use Rattle.rl_model.specs.Rows.{ChipData}
use Rattle.rl_model.specs.Rules.{or_else}
use Rattle.rl_bus.specs.declared.op.AdapterKind.{AdapterKind}
use Rattle.rl_bus.specs.declared.table.WordRow.{WordRow}
use Rattle.rl_map.specs.declared.fault.MapFault.{MapFault}
use Rattle.rl_map.specs.declared.parts.MapNode.{MapNode}
use Rattle.rl_map.specs.declared.parts.PlacePart.{PlacePart}
use Rattle.rl_map.specs.declared.rows.MapRow.{MapRow}
use Rattle.rl_map.specs.declared.rows.PortRow.{PortRow}
use Rattle.rl_map.specs.declared.rows.PlaceRow.{PlaceRow}
use Rattle.rl_map.specs.declared.places.Placing.{Placing}
use Rattle.rl_map.specs.declared.shared.Shared.{Shared}
use Rattle.rl_map.specs.Layout.{LayoutData, key_of, IsAscending, IsRowOf}
use Rattle.rl_map.specs.Maps.{no_tables, tables_of, place_row, all_rows, by_address, layout_of}
use Rattle.rl_map.specs.Faults.{maps_fault, places_fault, layout_fault, Fails, Passes}
use Rattle.rl_map.specs.Steps.{own_faults, accepted, shared_faults}
use Rattle.rl_map.specs.Building.{rows_of_all, AreTables, ArePlaces}
use Rattle.rl_map.specs.Clashes.{IsLeast, IsMade, clash_fault, first_fault}
use Rattle.rl_map.specs.Ordered.{AreOrdered}
use Rattle.rl_map.proofs.Closing.{built, rows_same, tested}
use Rattle.rl_map.proofs.Sound.{all_rows_are}
use Rattle.rl_map.proofs.Stable.{sorted_is}
use Rattle.rl_map.proofs.Finding.{shared_is}
use Rattle.rl_map.proofs.Accepting.{split, all_accepted}

-- a map is refused
pub by_maps : (chip : ChipData) (maps : List MapNode) (places : List PlacePart) (kinds : List AdapterKind) (e : MapFault)
    → Fails e (maps_fault kinds no_tables maps) → Fails e (layout_fault chip maps places kinds)
unfolding layout_fault
by_maps chip maps places kinds e h other = ap (λ o. or_else o (places_fault chip (tables_of kinds maps) [] 0 places)) (h other)

-- what the maps, the ports and the accepted places are
pub record AreAccepted (chip : ChipData) (maps : List MapNode) (places : List PlacePart) (kinds : List AdapterKind) (map_rows : List MapRow)
    (ports : List PortRow) (rows : List PlaceRow) : Type 0 where
  pub fine : maps_fault kinds no_tables maps ≡ None
  pub maps_are : map_rows ≡ (tables_of kinds maps).maps
  pub ports_are : ports ≡ (tables_of kinds maps).ports
  pub rows_are : rows ≡ accepted chip map_rows ports [] 0 places

-- no map is refused
pub by_places : (chip : ChipData) (maps : List MapNode) (places : List PlacePart) (kinds : List AdapterKind) (map_rows : List MapRow) (ports : List PortRow) (rows : List PlaceRow)
    → AreAccepted chip maps places kinds map_rows ports rows
    → layout_fault chip maps places kinds ≡ or_else (shared_faults map_rows ports [] rows) (own_faults chip map_rows ports [] 0 places)
unfolding layout_fault
by_places chip maps places kinds map_rows ports rows h =
    ap (λ o. or_else o (places_fault chip (tables_of kinds maps) [] 0 places)) h.fine
    ∙ split chip (tables_of kinds maps) [] 0 places
    ∙ ap (λ m. or_else (shared_faults m (tables_of kinds maps).ports [] (accepted chip m (tables_of kinds maps).ports [] 0 places))
    (own_faults chip m (tables_of kinds maps).ports [] 0 places)) (sym h.maps_are)
    ∙ ap (λ p. or_else (shared_faults map_rows p [] (accepted chip map_rows p [] 0 places)) (own_faults chip map_rows p [] 0 places)) (sym h.ports_are)
    ∙ ap (λ r. or_else (shared_faults map_rows ports [] r) (own_faults chip map_rows ports [] 0 places)) (sym h.rows_are)

-- the layout of places that are all accepted
pub layout_is : (chip : ChipData) (maps : List MapNode) (places : List PlacePart) (kinds : List AdapterKind) (map_rows : List MapRow) (ports : List PortRow) (rows : List PlaceRow)
    (kinds' : List AdapterKind) (words : List WordRow)
    → AreAccepted chip maps places kinds map_rows ports rows → own_faults chip map_rows ports [] 0 places ≡ None → kinds' ≡ kinds
    → words ≡ by_address (rows_of_all map_rows ports rows) → built map_rows rows ports kinds' words ≡ layout_of chip maps places kinds
unfolding layout_of
layout_is chip maps places kinds map_rows ports rows kinds' words h none k w =
    let rows_are : rows ≡ map (place_row chip map_rows) places = h.rows_are ∙ all_accepted chip map_rows ports [] 0 places none in
    let whole : List MapRow → List PlaceRow → List PortRow → LayoutData = λ m r p. built m r p kinds (by_address (all_rows (built m r p kinds []))) in
    ap (λ x. built map_rows rows ports x words) k
    ∙ ap (λ x. built map_rows rows ports kinds x) (w ∙ ap by_address (sym (rows_same map_rows rows ports kinds [])))
    ∙ ap (λ r. whole map_rows r ports) rows_are
    ∙ ap (λ m. whole m (map (place_row chip m) places) ports) h.maps_are
    ∙ ap (λ p. whole (tables_of kinds maps).maps (map (place_row chip (tables_of kinds maps).maps) places) p) h.ports_are

-- what is known once all parts are made and the rows are in order
pub record AreMade (chip : ChipData) (maps : List MapNode) (places : List PlacePart) (kinds : List AdapterKind) (map_rows : List MapRow) (ports : List PortRow) (rows : List PlaceRow)
    (first words : List WordRow) (best : Option Shared) (refused : Option MapFault) : Type 0 where
  pub accepted : AreAccepted chip maps places kinds map_rows ports rows
  pub tables : AreTables kinds map_rows ports
  pub few : length kinds < 2 ^ 32
  pub placed : ArePlaces chip map_rows ports rows first
  pub refused_is : refused ≡ own_faults chip map_rows ports [] 0 places
  pub moved : IsPermutation first words
  pub ascending : IsAscending words
  pub stable : IsStableByKey key_of nat_cmp first words
  pub least : IsLeast rows words best
  pub made : (s : Shared) → best ≡ Some s → IsMade rows words s

pub fault_is : (chip : ChipData) (maps : List MapNode) (places : List PlacePart) (kinds : List AdapterKind) (map_rows : List MapRow) (ports : List PortRow) (rows : List PlaceRow)
    (first words : List WordRow) (best : Option Shared) (refused : Option MapFault) → AreMade chip maps places kinds map_rows ports rows first words best refused
    → layout_fault chip maps places kinds ≡ first_fault best refused
fault_is chip maps places kinds map_rows ports rows first words best refused h =
    let l : LayoutData = built map_rows rows ports kinds words in
    let all : first ≡ all_rows l = h.placed.words_are ∙ sym (rows_same map_rows rows ports kinds words) in
    let moves : IsPermutation (all_rows l) words = subst (λ x. IsPermutation x words) all h.moved in
    let tests = tested chip map_rows rows ports kinds first words h.tables h.placed h.few (length_permutation first words h.moved) in
    let of_all : All (IsRowOf l) (all_rows l) = All-from_recursion (IsRowOf l) (all_rows l) (all_rows_are l tests) in
    let of_words : All (IsRowOf l) words = All-permutation (IsRowOf l) (all_rows l) words moves of_all in
    by_places chip maps places kinds map_rows ports rows h.accepted
    ∙ ap (λ o. or_else o (own_faults chip map_rows ports [] 0 places)) (shared_is l tests moves of_words best h.least h.made)
    ∙ ap (λ o. or_else (option_map clash_fault best) o) (sym h.refused_is)

neither : (a b : Option MapFault) → or_else a b ≡ None → b ≡ None
neither None b h = h
neither (Some x) b h = cc

no_best : (best : Option Shared) (refused : Option MapFault) → first_fault best refused ≡ None → best ≡ None
no_best None refused h = refl
no_best (Some s) refused h = cc

pub none_shared : (best : Option Shared) (refused whole : Option MapFault) → whole ≡ first_fault best refused → whole ≡ None → best ≡ None
none_shared best refused whole is none = no_best best refused (sym is ∙ none)

pub whole_is : (chip : ChipData) (maps : List MapNode) (places : List PlacePart) (kinds : List AdapterKind) (map_rows : List MapRow) (ports : List PortRow) (rows : List PlaceRow)
    (first words : List WordRow) (best : Option Shared) (refused : Option MapFault) (kinds' : List AdapterKind) → AreMade chip maps places kinds map_rows ports rows first words best refused
    → first_fault best refused ≡ None → kinds' ≡ kinds → built map_rows rows ports kinds' words ≡ layout_of chip maps places kinds
whole_is chip maps places kinds map_rows ports rows first words best refused kinds' h none same =
    layout_is chip maps places kinds map_rows ports rows kinds' words h.accepted (sym h.refused_is ∙ neither (option_map clash_fault best) refused none) same
    (sorted_is first words h.ascending h.stable ∙ ap by_address h.placed.words_are)

-- ---- where no place was before

pub accepted_by : (chip : ChipData) (parts : List PlacePart) (maps : List MapRow) (ports : List PortRow) (old rows : List PlaceRow) (words : List WordRow)
    → old ≡ [] → words ≡ [] → rows ≡ old ++ accepted chip maps ports old (length words) parts → rows ≡ accepted chip maps ports [] 0 parts
accepted_by chip parts maps ports old rows words e f h =
    h ∙ ap (λ o. o ++ accepted chip maps ports o (length words) parts) e ∙ ap (λ (w : List WordRow). accepted chip maps ports [] (length w) parts) f

pub refused_by : (chip : ChipData) (parts : List PlacePart) (maps : List MapRow) (ports : List PortRow) (old : List PlaceRow) (refused : Option MapFault) (words : List WordRow)
    → old ≡ [] → words ≡ [] → refused ≡ own_faults chip maps ports old (length words) parts → refused ≡ own_faults chip maps ports [] 0 parts
refused_by chip parts maps ports old refused words e f h =
    h ∙ ap (λ o. own_faults chip maps ports o (length words) parts) e ∙ ap (λ (w : List WordRow). own_faults chip maps ports [] (length w) parts) f

-- ---- what was seen through references

pub seen : (chip : ChipData) (parts : List PlacePart) (maps maps' : List MapRow) (ports ports' : List PortRow) (p : Placing) (fault : Option MapFault)
    → maps ≡ maps' → ports ≡ ports' → AreOrdered chip maps ports parts p fault → AreOrdered chip maps' ports' parts p fault
seen chip parts maps maps' ports ports' p fault a b o =
    subst (λ m. AreOrdered chip m ports' parts p fault) a (subst (λ q. AreOrdered chip maps q parts p fault) b o)

pub made_of : (chip : ChipData) (nodes : List MapNode) (parts : List PlacePart) (kinds : List AdapterKind) (maps : List MapRow) (ports : List PortRow) (p : Placing) (fault : Option MapFault)
    → maps_fault kinds no_tables nodes ≡ None → maps ≡ (tables_of kinds nodes).maps → ports ≡ (tables_of kinds nodes).ports → AreTables kinds maps ports → length kinds < 2 ^ 32
    → (o : AreOrdered chip maps ports parts p fault) → AreMade chip nodes parts kinds maps ports p.places.items o.first p.rows.items o.best o.refused
made_of chip nodes parts kinds maps ports p fault fine maps_are ports_are tables few o = record {
  accepted = record { fine = fine; maps_are = maps_are; ports_are = ports_are; rows_are = o.rows_are };
  tables = tables;
  few = few;
  placed = o.placed;
  refused_is = o.refused_is;
  moved = o.moved;
  ascending = o.ascending;
  stable = o.stable;
  least = o.least;
  made = o.made;
}

pub failed : (chip : ChipData) (maps : List MapNode) (places : List PlacePart) (kinds : List AdapterKind) (r : Result LayoutData MapFault) (e y : MapFault) → r ≡ Err y → y ≡ e
    → Fails e (layout_fault chip maps places kinds) → Passes r (layout_fault chip maps places kinds) (λ l. l ≡ layout_of chip maps places kinds)
failed chip maps places kinds r e y at same h =
    subst (λ x. Passes x (layout_fault chip maps places kinds) (λ l. l ≡ layout_of chip maps places kinds)) (sym at)
    (subst (λ x. Fails x (layout_fault chip maps places kinds)) (sym same) h)
