-- A layout's text in pieces.
use Rattle.std.proofs.Common.{◌≡◌, ℕ, ◌+◌, ◌-◌, ◌<◌, List, [], ◌∷◌, ◌++◌, length, drop, Some, codes, decimal, Result, Ok, Err, IsErr, sym, ap, ◌∙◌, subst, append_assoc}
use Rattle.std.specs.List.{flat_map, range_with_len, slice_get}
use Rattle.rl_policy.specs.Numbers.{hex_digits}
use Rattle.rl_model.specs.Rows.{ChipData}
use Rattle.rl_map.specs.declared.word.Word.{Word}
use Rattle.rl_map.specs.Layout.{LayoutData}
use Rattle.rl_map.specs.LayoutText.{lanes_text, word_text, place_text, layout_text}
use Rattle.rl_report.specs.declared.sink.Sink.{Ghosts as Sink}
use Rattle.rl_report.specs.Pieces.{PutsText, joined}
use Rattle.rl_report.proofs.PieceLemmas.{text_after, text_stopped}
use Rattle.rl_session.specs.LayoutPieces.{heading_text, word_line, words_text, places_text}
use Rattle.rl_session.proofs.ListingLemmas.{next_item, next_number}

in_a_line : (root digits lanes : List ℕ)
    → joined (codes "  " ∷ root ∷ codes " 0x" ∷ digits ∷ codes ":" ∷ lanes ∷ codes "\n" ∷ []) ≡ codes "  " ++ root
    ++ codes " " ++ (48 ∷ 120 ∷ digits) ++ codes ":" ++ lanes ++ codes "\n"
unfolding joined
in_a_line root digits lanes = simp append_assoc

in_a_heading : (path map rights words : List ℕ)
    → joined (codes "place " ∷ path ∷ codes " @" ∷ map ∷ codes " " ∷ rights ∷ codes "\n" ∷ [])
    ++ words ≡ codes "place " ++ path ++ codes " @" ++ map ++ codes " " ++ rights ++ codes "\n" ++ words
unfolding joined
in_a_heading path map rights words = simp append_assoc

at_the_end : (places count : List ℕ) → places ++ codes "end: " ++ count ++ codes " places\n" ≡ places ++ joined
    (codes "end: " ∷ count ∷ codes " places\n" ∷ [])
unfolding joined
at_the_end places count = simp append_assoc

line_is : (root : List ℕ) (bytes : ℕ) (w : Word) → word_text root bytes w ≡ word_line root bytes w
line_is root bytes w = sym (in_a_line root (hex_digits w.address) (lanes_text bytes w))

place_is : (chip : ChipData) (l : LayoutData) (place : ℕ) → place_text chip l place ≡ heading_text chip l place
    ++ words_text l place
place_is chip l place = sym (in_a_heading _ _ _ (words_text l place))

pub layout_is : (chip : ChipData) (l : LayoutData) → layout_text chip l ≡ places_text chip l ++ joined
    (codes "end: " ∷ decimal (length l.places) ∷ codes " places\n" ∷ [])
unfolding layout_text
layout_is chip l = at_the_end (places_text chip l) (decimal (length l.places))

pub next_word : (root : List ℕ) (bytes : ℕ) (words : List Word) (k : ℕ) (w : Word) → slice_get words k ≡ Some w
    → flat_map (word_text root bytes) (drop k words) ≡ word_line root bytes w ++ flat_map (word_text root bytes)
    (drop (k + 1) words)
next_word root bytes words k w h =
    next_item (word_text root bytes) words k w h ∙ ap (λ t. t ++ flat_map (word_text root bytes) (drop (k + 1) words))
    (line_is root bytes w)

pub next_place : (chip : ChipData) (l : LayoutData) (i n : ℕ) → i < n
    → flat_map (place_text chip l) (range_with_len i (n - i)) ≡ (heading_text chip l i ++ words_text l i) ++ flat_map
    (place_text chip l) (range_with_len (i + 1) (n - (i + 1)))
next_place chip l i n h =
    next_number (place_text chip l) i n h ∙ ap (λ t. t ++ flat_map (place_text chip l)
    (range_with_len (i + 1) (n - (i + 1)))) (place_is chip l i)

-- ---- a name behind a word, in a text of pieces

pieces_are : (word name : List ℕ) (others : List (List ℕ)) → (word ++ name) ++ joined others ≡ joined (word ∷ name ∷ others)
unfolding joined
pieces_are word name others = append_assoc word name (joined others)

pub named_then : {K U F T E : Type 0} (sink : Sink K) (a b c : K) (word name : List ℕ) (others : List (List ℕ)) (v : U) (r : Result T E)
    → PutsText {T = U} {E = F} sink a b (word ++ name) (Ok v) → PutsText sink b c (joined others) r
    → PutsText sink a c (joined (word ∷ name ∷ others)) r
named_then sink a b c word name others v r p q =
    subst (λ t. PutsText sink a c t r) (pieces_are word name others) (text_after sink a b c (word ++ name) (joined others) v r p q)

pub named_failed : {K U F T E : Type 0} (sink : Sink K) (a b : K) (word name : List ℕ) (others : List (List ℕ)) (e : F) (r : Result T E)
    → IsErr r → PutsText {T = U} {E = F} sink a b (word ++ name) (Err e) → PutsText sink a b (joined (word ∷ name ∷ others)) r
named_failed sink a b word name others e r is p =
    subst (λ t. PutsText sink a b t r) (pieces_are word name others) (text_stopped sink a b (word ++ name) (joined others) e r is p)
