-- What a whole access sends.
use Rattle.std.proofs.Common.{◌≡◌, ℕ, ◌<◌, Bool, true, not, eqb, length, get_or, ap, ◌∙◌, arith}
use Rattle.std.proofs.lemmas.Bool.Decides.{nat_tests}
use Rattle.std.proofs.lemmas.List.{length-map}
use Rattle.rl_map.specs.Layout.{LayoutData, place_at, words_of, IsSound, IsLocation}
use Rattle.rl_map.specs.Words.{no_word}
use Rattle.rl_split.specs.Access.{all_bytes, chosen_lanes, has_chosen, sent_words, op_of, ops_of, sent_of}
use Rattle.rl_split.proofs.Sending.{all_numbered, filter_all, all_chosen, small_lanes, byte_in, IsHere, is_here}

-- each word has a byte
pub all_sent : (l : LayoutData) (place index : ℕ) → IsHere l place index → sent_words (all_bytes (place_at l place).bytes) (words_of l place index) ≡ words_of l place index
all_sent l place index here =
    let words = words_of l place index in
    let bytes = (place_at l place).bytes in
    let whole : (k : ℕ) → k < length words → chosen_lanes (all_bytes bytes) (get_or words k no_word) ≡ (get_or words k no_word).lanes =
    λ k inside. all_chosen (get_or words k no_word) bytes (small_lanes _ _ here.port.width (here.words.on k no_word inside).enabled) (λ j low on. byte_in words bytes k j here.words.reach inside low
    on) in
    filter_all (has_chosen (all_bytes bytes)) words
    (all_numbered (λ w. has_chosen (all_bytes bytes) w ≡ true) words no_word (λ k inside. some_chosen (chosen_lanes (all_bytes bytes) (get_or words k no_word)) (omega (
      arith,
      whole k inside,
      (here.words.on k no_word inside).some,
    ))))
  where
    some_chosen : (x : ℕ) → 0 < x → not (eqb x 0) ≡ true
    some_chosen x low = grind (arith, nat_tests)

-- a whole access has as many operations as the place has words
pub whole_count : (l : LayoutData) (place index value : ℕ) (write : Bool) → IsSound l → IsLocation l place index → length (ops_of l place index (all_bytes (place_at l place).bytes) value write) ≡
    length (words_of l place index)
unfolding ops_of sent_of
whole_count l place index value write sound at =
    length-map (sent_words (all_bytes (place_at l place).bytes) (words_of l place index)) (op_of l place (all_bytes (place_at l place).bytes) value write)
    ∙ ap length (all_sent l place index (is_here l place index sound at))

-- ---- a place of a register

pub first_of_place : (l : LayoutData) (place : ℕ) → IsSound l → place < length l.places → IsLocation l place 0
first_of_place l place sound inside = let here = sound.each_place place inside in record { place_in = inside; index_in = omega (arith, here.size) }
