-- The parts of a layout's text.
use Rattle.std.specs.Prelude.{ℕ, List, [], ◌∷◌, length, flat_map, codes}
use Rattle.std.specs.List.{range_with_len}
use Rattle.rl_policy.specs.Numbers.{hex_digits}
use Rattle.rl_model.specs.Rows.{ChipData}
use Rattle.rl_model.specs.Chip.{path_of_item}
use Rattle.rl_map.specs.declared.word.Word.{Word}
use Rattle.rl_map.specs.Layout.{LayoutData, map_at, port_at, place_at, words_of}
use Rattle.rl_map.specs.LayoutText.{rights_text, lanes_text, word_text, place_text}
use Rattle.rl_report.specs.Pieces.{joined}

-- a place, without its words
abbrev pub heading_text : ChipData → LayoutData → ℕ → List ℕ
heading_text chip l place =
    let at = place_at l place in
    joined (codes "place " ∷ path_of_item chip at.item ∷ codes " @" ∷ (map_at l at.map).name
    ∷ codes " " ∷ rights_text at.rights ∷ codes "\n" ∷ [])

-- a word of a port of so many bytes, whose root map has this name
abbrev pub word_line : List ℕ → ℕ → Word → List ℕ
word_line root port_bytes w =
    joined (codes "  " ∷ root ∷ codes " 0x" ∷ hex_digits w.address
    ∷ codes ":" ∷ lanes_text port_bytes w ∷ codes "\n" ∷ [])

-- the words of a place's first location
abbrev pub words_text : LayoutData → ℕ → List ℕ
words_text l place =
    let port = port_at l (place_at l place).port in
    flat_map (word_text (map_at l port.map).name port.bytes) (words_of l place 0)

abbrev pub places_text : ChipData → LayoutData → List ℕ
places_text chip l = flat_map (place_text chip l) (range_with_len 0 (length l.places))
