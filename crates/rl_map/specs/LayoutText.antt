-- The layout as text.
use Rattle.std.specs.Prelude.{ℕ, true, false, if◌then◌else◌, List, ◌∷◌, ◌++◌, length, flat_map, reverse, codes, decimal, slice_index}
use Rattle.std.specs.List.{range_with_len}
use Rattle.rl_policy.specs.Bits.{bit}
use Rattle.rl_policy.specs.Numbers.{spelled}
use Rattle.rl_model.specs.Rows.{ChipData}
use Rattle.rl_model.specs.Chip.{path_of_item}
use Rattle.rl_model.specs.declared.sets.Rights.{Rights}
use Rattle.rl_map.specs.declared.word.Word.{Word}
use Rattle.rl_map.specs.Layout.{LayoutData, map_at, port_at, place_at, has_right, words_of}

-- ---- a place

abbrev pub rights_text : Rights → List ℕ
rights_text rights =
    if has_right rights false then (if has_right rights true then codes "rw" else codes "ro") else codes "wo"

-- a lane: the number of the item's byte there, or a dash
abbrev pub lane_text : Word → ℕ → List ℕ
lane_text w lane = 32 ∷ (if bit w.lanes lane then decimal (slice_index w.bytes lane) else codes "-")

-- the lanes of a word on a port of so many bytes, from the highest down
abbrev pub lanes_text : ℕ → Word → List ℕ
lanes_text port_bytes w = flat_map (lane_text w) (reverse (range_with_len 0 port_bytes))

abbrev pub word_text : List ℕ → ℕ → Word → List ℕ
word_text root port_bytes w =
    codes "  " ++ root ++ codes " " ++ spelled w.address ++ codes ":" ++ lanes_text port_bytes w ++ codes "\n"

-- a place with the words of its first location
abbrev pub place_text : ChipData → LayoutData → ℕ → List ℕ
place_text chip l place =
    let p = place_at l place in
    let port = port_at l p.port in
    codes "place " ++ path_of_item chip p.item ++ codes " @" ++ (map_at l p.map).name ++ codes " "
    ++ rights_text p.rights ++ codes "\n"
    ++ flat_map (word_text (map_at l port.map).name port.bytes) (words_of l place 0)

-- ---- the text

unfoldable pub layout_text : ChipData → LayoutData → List ℕ
layout_text chip l =
    flat_map (place_text chip l) (range_with_len 0 (length l.places))
    ++ codes "end: " ++ decimal (length l.places) ++ codes " places\n"
