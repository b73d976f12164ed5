-- The layout of maps and places that no condition refuses is sound.
use Rattle.std.proofs.Common.{◌≡◌, ℕ, zero, suc, ◌+◌, ◌*◌, ◌^◌, ◌<◌, ◌≤◌, Bool, true, false, ◌==◌, cond, nat_lt, List, [], ◌∷◌, ◌++◌, length, map, get_or, Option, None, refl, sym, ap, ◌∙◌}
use Rattle.std.proofs.Common.{subst, arith}
use Rattle.std.specs.Prelude.{All, filter, IsPermutation}
use Rattle.std.proofs.lemmas.List.Elements.{All-from_recursion}
use Rattle.std.proofs.lemmas.List.Sorted.{All-permutation, length_permutation, IsPermutation-refl, IsPermutation-cons, IsPermutation-trans, IsPermutation-middle}
use Rattle.std.specs.List.{AllByRecursion}
use Rattle.rl_model.specs.Rows.{ChipData}
use Rattle.rl_model.specs.Chip.{IsSound as IsChip}
use Rattle.rl_model.proofs.SoundLemmas.{both_None}
use Rattle.rl_bus.specs.declared.op.AdapterKind.{AdapterKind}
use Rattle.rl_bus.specs.declared.table.WordRow.{WordRow}
use Rattle.rl_map.specs.declared.parts.MapNode.{MapNode}
use Rattle.rl_map.specs.declared.parts.PlacePart.{PlacePart}
use Rattle.rl_map.specs.declared.rows.MapRow.{MapRow}
use Rattle.rl_map.specs.declared.rows.PortRow.{PortRow}
use Rattle.rl_map.specs.declared.rows.PlaceRow.{PlaceRow}
use Rattle.rl_map.specs.Building.{AreTables, ArePlaces, rows_of_all}
use Rattle.rl_map.specs.Faults.{layout_fault, maps_fault, places_fault}
use Rattle.rl_map.specs.Layout.{LayoutData, IsSound, IsRowOf, IsAscending, key_of, no_place}
use Rattle.rl_map.specs.Maps.{no_tables, tables_of, place_row, all_rows, row_into, by_address, layout_of}
use Rattle.rl_map.specs.Steps.{own_faults, accepted, shared_faults}
use Rattle.rl_map.proofs.Accepting.{split, all_accepted}
use Rattle.rl_map.proofs.Closing.{built, rows_same, tested}
use Rattle.rl_map.proofs.Sorting.{standing_by_key}
use Rattle.rl_map.proofs.Sound.{IsTested, KeepsOrder, all_rows_are, sound_of}
use Rattle.rl_map.proofs.Stable.{at_key, Rising, rising_by, filter_by}
use Rattle.rl_session_laws.specs.Sound.{AreKinds, IsLayoutOf}
use Rattle.rl_session_laws.proofs.Maps.{tables_sound}
use Rattle.rl_session_laws.proofs.Places.{places_sound}
use Rattle.rl_session_laws.proofs.Shares.{none_clash}

-- ---- rows by address

into_moves : (r : WordRow) (rows : List WordRow) → IsPermutation (r ∷ rows) (row_into r rows)
into_moves r [] = IsPermutation-refl (r ∷ [])
into_moves r (s ∷ rows) = by (nat_lt (key_of s) (key_of r)) (into_moves r rows)
  where
    by : (t : Bool) → IsPermutation (r ∷ rows) (row_into r rows) → IsPermutation (r ∷ s ∷ rows) (cond t (s ∷ row_into r rows) (r ∷ s ∷ rows))
    by true more = IsPermutation-trans (r ∷ s ∷ rows) (s ∷ r ∷ rows) (s ∷ row_into r rows) (IsPermutation-middle (r ∷ []) s rows) (IsPermutation-cons s (r ∷ rows) (row_into r rows) more)
    by false more = IsPermutation-refl (r ∷ s ∷ rows)

by_moves : (rows : List WordRow) → IsPermutation rows (by_address rows)
unfolding by_address
by_moves [] = IsPermutation-refl []
by_moves (r ∷ rows) =
    IsPermutation-trans (r ∷ rows) (r ∷ by_address rows) (row_into r (by_address rows)) (IsPermutation-cons r rows (by_address rows) (by_moves rows)) (into_moves r (by_address rows))

after_first : (r : WordRow) (rows : List WordRow) (j : ℕ) (d : WordRow) → AllByRecursion (λ s. key_of r ≤ key_of s) rows → j < length rows → key_of r ≤ key_of (get_or rows j d)
after_first r rows j d h low = All-from_recursion (λ s. key_of r ≤ key_of s) rows h j d low

ascending : (rows : List WordRow) → Rising rows → IsAscending rows
ascending [] h i j d p q = absurd (omega (arith, q))
ascending (r ∷ rows) h zero zero d p q = omega arith
ascending (r ∷ rows) h zero (suc j) d p q = after_first r rows j d h.0 (omega (arith, q))
ascending (r ∷ rows) h (suc i) zero d p q = absurd (omega (arith, p))
ascending (r ∷ rows) h (suc i) (suc j) d p q = ascending rows h.1 i j d (omega (arith, p)) (omega (arith, q))

-- ---- the layout

module _ (chip : ChipData) (maps : List MapRow) (ports : List PortRow) (places : List PlaceRow) (kinds : List AdapterKind) where
  abbrev first : List WordRow
  first = rows_of_all maps ports places

  abbrev words : List WordRow
  words = by_address (rows_of_all maps ports places)

  abbrev made : LayoutData
  made = built maps places ports kinds (by_address (rows_of_all maps ports places))

  built_tested : AreKinds kinds → AreTables kinds maps ports → ArePlaces chip maps ports places first → IsTested made
  built_tested k tables placed = tested chip maps places ports kinds first words tables placed k.few (length_permutation first words (by_moves first))

  made_sound : AreKinds kinds → AreTables kinds maps ports → ArePlaces chip maps ports places first → shared_faults maps ports [] places ≡ None → IsSound made
  made_sound k tables placed none =
      let l = made in
      let tests = built_tested k tables placed in
      let all : first ≡ all_rows l = sym (rows_same maps places ports kinds words) in
      let moves : IsPermutation (all_rows l) words = subst (λ x. IsPermutation x words) all (by_moves first) in
      let of_all : All (IsRowOf l) (all_rows l) = All-from_recursion (IsRowOf l) (all_rows l) (all_rows_are l tests) in
      let of_rows : All (IsRowOf l) words = All-permutation (IsRowOf l) (all_rows l) words moves of_all in
      let keeps : KeepsOrder l = λ port address low.
      standing_by_key words port address low (λ n d in_n. (of_rows n d in_n).low)
      ∙ filter_by (port * 2 ^ 64 + address) first ∙ ap (filter (at_key (port * 2 ^ 64 + address))) all
      ∙ sym (standing_by_key (all_rows l) port address low (λ n d in_n. (of_all n d in_n).low)) in
      sound_of l tests (none_clash l tests none) keeps moves (ascending words (rising_by first))

-- what the conditions are of
record Fine (chip : ChipData) (maps : List MapNode) (places : List PlacePart) (kinds : List AdapterKind) : Type 0 where
  fine : maps_fault kinds no_tables maps ≡ None
  own : own_faults chip (tables_of kinds maps).maps (tables_of kinds maps).ports [] 0 places ≡ None
  shared : shared_faults (tables_of kinds maps).maps (tables_of kinds maps).ports [] (map (place_row chip (tables_of kinds maps).maps) places) ≡ None

fine_of : (chip : ChipData) (maps : List MapNode) (places : List PlacePart) (kinds : List AdapterKind) → layout_fault chip maps places kinds ≡ None → Fine chip maps places kinds
unfolding layout_fault
fine_of chip maps places kinds none =
    let t = tables_of kinds maps in
    let a = both_None _ _ none in
    let b = both_None _ _ (sym (split chip t [] 0 places) ∙ a.1) in
    record { fine = a.0; own = b.1; shared = subst (λ x. shared_faults t.maps t.ports [] x ≡ None) (all_accepted chip t.maps t.ports [] 0 places b.1) b.0 }

whole : (chip : ChipData) (maps : List MapNode) (places : List PlacePart) (kinds : List AdapterKind)
    → layout_of chip maps places kinds ≡ made chip (tables_of kinds maps).maps (tables_of kinds maps).ports (map (place_row chip (tables_of kinds maps).maps) places) kinds
unfolding layout_of
whole chip maps places kinds =
    let t = tables_of kinds maps in
    let rows = map (place_row chip t.maps) places in
    ap (λ x. built t.maps rows t.ports kinds (by_address x)) (rows_same t.maps rows t.ports kinds [])

pub each_layout_sound : (chip : ChipData) (maps : List MapNode) (places : List PlacePart) (kinds : List AdapterKind) → IsChip chip → AreKinds kinds
    → layout_fault chip maps places kinds ≡ None → IsLayoutOf chip (layout_of chip maps places kinds)
each_layout_sound chip maps places kinds ok k none =
    let f = fine_of chip maps places kinds none in
    let t = tables_of kinds maps in
    let rows = map (place_row chip t.maps) places in
    let tables = tables_sound kinds maps k f.fine in
    let placed = places_sound chip kinds t.maps t.ports ok tables places f.own in
    subst (IsLayoutOf chip) (sym (whole chip maps places kinds)) (record {
      sound = made_sound chip t.maps t.ports rows kinds k tables placed f.shared;
      built = λ n low. (placed.each n no_place low).placed.known;
    })
