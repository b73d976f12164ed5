-- The words of a whole access, as a predictor sees them one after another.
use Rattle.std.proofs.Common.{◌≡◌, ◌⊎◌, ℕ, zero, suc, ◌<◌, Bool, true, false, ◌&&◌, cond, eqb, if◌then◌else◌, List, [], ◌∷◌, ◌++◌, length, map, set, get_or, Option, None, Some, refl, sym, ap, ◌∙◌, inl, inr}
use Rattle.std.proofs.Common.{arith, eq-eqb}
use Rattle.std.proofs.lemmas.List.{set-set}
use Rattle.rl_bus.specs.declared.op.Answer.{Answer}
use Rattle.rl_bus.specs.declared.op.BusOp.{BusOp}
use Rattle.rl_model.specs.declared.rows.Item.{Item}
use Rattle.rl_model.specs.declared.rows.Item.TheVariants as item
use Rattle.rl_model.specs.Rows.{ChipData}
use Rattle.rl_map.specs.declared.word.Word.{Word}
use Rattle.rl_map.specs.Layout.{LayoutData, place_at, port_at, words_of, row_of, here_of, standing, has_right, HasWords}
use Rattle.rl_map.specs.Words.{words_with, no_word}
use Rattle.rl_mirror.specs.Mirror.{MirrorData}
use Rattle.rl_access.specs.declared.predictor.Gathered.{Gathered}
use Rattle.rl_access.specs.Gathering.{no_words, gathered_at, gathered_with, emptied, appended, is_next, same_direction, IsRegister, IsRegisterPlace}
use Rattle.rl_access.specs.Observed.{Seen, seen, as_register, register_there, watched_place, word_told, is_whole, predicted, taken_in, observed_at, observed}

-- ---- the place of a word

as_register_is : (i : Item) (place : ℕ) → IsRegister i → as_register i place ≡ Some place
as_register_is (item.Reg reg) place is = refl
as_register_is (item.Mem mem) place is = absurd is

clash : (b : Bool) → b ≡ true → b ≡ false → ⊥
clash b p q = cc

-- some word stands there, so the place is found
here_with : (l : LayoutData) (place a : ℕ) (ws : List Word) (k : ℕ) → k < length ws → (get_or ws k no_word).address ≡ a → register_there l (here_of (map (row_of l place 0) (words_with a ws))) ≡
    as_register (place_at l place).item place
here_with l place a [] k inside at = absurd (omega arith)
here_with l place a (w ∷ ws) k inside at = by (eqb w.address a) refl k inside at (λ j within here. here_with l place a ws j within here)
  where
    by : (t : Bool) → eqb w.address a ≡ t → (k : ℕ) → k < length (w ∷ ws) → (get_or (w ∷ ws) k no_word).address ≡ a →
        ((j : ℕ) → j < length ws → (get_or ws j no_word).address ≡ a → register_there l (here_of (map (row_of l place 0) (words_with a ws))) ≡ as_register (place_at l place).item place) →
        register_there l (here_of (map (row_of l place 0) (cond t (w ∷ words_with a ws) (words_with a ws)))) ≡ as_register (place_at l place).item place
    by true e k inside at more = refl
    by false e zero inside at more = absurd (clash (eqb w.address a) (eq-eqb w.address a at) e)
    by false e (suc k) inside at more = more k (omega arith) at

pub watched_is : (l : LayoutData) (place k : ℕ) (write : Bool) (op : BusOp) → HasWords l place 0 → IsRegisterPlace l place → (port_at l (place_at l place).port).explicit ≡ true →
    has_right (place_at l place).rights write ≡ true →
    k < length (words_of l place 0) → op.write ≡ write → op.address ≡ (get_or (words_of l place 0) k no_word).address → watched_place l (place_at l place).port op ≡ Some place
watched_is l place k write op words there explicit right inside direction at =
    ap (λ e. if e then register_there l (here_of (standing l (place_at l place).port op.address op.write)) else None) explicit
    ∙ ap (λ a. register_there l (here_of (standing l (place_at l place).port a op.write))) at
    ∙ ap (λ w. register_there l (here_of (standing l (place_at l place).port (get_or (words_of l place 0) k no_word).address w))) direction
    ∙ ap (λ rows. register_there l (here_of rows)) (words.found write k inside right)
    ∙ here_with l place (get_or (words_of l place 0) k no_word).address (words_of l place 0) k inside refl
    ∙ as_register_is (place_at l place).item place there.register

-- ---- one word more

same_way : (b : Bool) → same_direction b b ≡ true
same_way true = refl
same_way false = refl

either_way : (t : Bool) (g : Gathered) → (if t then g else g) ≡ g
either_way true g = refl
either_way false g = refl

pub next_gathered : (l : LayoutData) (place word : ℕ) (op : BusOp) (g : Gathered) → (g.write ≡ op.write) ⊎ (g ≡ no_words) → is_next l place op g ≡ true → gathered_with l place op word g ≡ record
    { write = op.write; words = g.words ++ word ∷ [] }
next_gathered l place word op g (inl same) next =
    let kept : emptied l place op g ≡ g =
    ap (λ w. if same_direction w op.write && is_next l place op g then g else no_words) same
    ∙ ap (λ t. if t && is_next l place op g then g else no_words) (same_way op.write)
    ∙ ap (λ t. if t then g else no_words) next
    in
    ap (appended l place op word) kept ∙ ap (λ t. if t then (let more : Gathered = record { write = op.write; words = g.words ++ word ∷ [] } in more) else g) next
next_gathered l place word op g (inr none) next =
    let kept : emptied l place op g ≡ g =
    ap (λ (x : Gathered). if same_direction g.write op.write && is_next l place op g then x else no_words) none ∙ either_way (same_direction g.write op.write && is_next l place op g) no_words ∙ sym
    none
    in
    ap (appended l place op word) kept ∙ ap (λ t. if t then (let more : Gathered = record { write = op.write; words = g.words ++ word ∷ [] } in more) else g) next

pub one_observed : (c : ChipData) (l : LayoutData) (port place : ℕ) (op : BusOp) (answer : Answer) (gathered : List Gathered) (m : MirrorData) (g : Gathered) → watched_place l port op ≡ Some place →
    answer.failed ≡ false → gathered_at gathered place ≡ g →
    (g.write ≡ op.write) ⊎ (g ≡ no_words) → is_next l place op g ≡ true →
    observed c l port op answer gathered m ≡ taken_in c l place (record { write = op.write; words = g.words ++ word_told op answer ∷ [] }) gathered m
one_observed c l port place op answer gathered m g watched quiet at same next =
    ap (λ p. observed_at c l p op answer gathered m) watched
    ∙ ap (λ t. if t then seen (set gathered place no_words) m else taken_in c l place (gathered_with l place op (word_told op answer) (gathered_at gathered place)) gathered m) quiet
    ∙ ap (λ x. taken_in c l place (gathered_with l place op (word_told op answer) x) gathered m) at
    ∙ ap (λ x. taken_in c l place x gathered m) (next_gathered l place (word_told op answer) op g same next)

-- the last word of a place empties its list
pub whole_taken : (c : ChipData) (l : LayoutData) (place : ℕ) (g : Gathered) (first mid last : List Gathered) (m : MirrorData) → mid ≡ set first place g → last ≡ set mid place no_words →
    is_whole l place g ≡ true → last ≡ (taken_in c l place g first m).gathered
whole_taken c l place g first mid last m taken emptied whole =
    emptied
    ∙ ap (λ v. set v place no_words) taken
    ∙ set-set first place g no_words
    ∙ ap (λ t. let s : Seen = if t then seen (set first place no_words) (predicted c l place g m) else seen (set first place g) m in s.gathered) (sym whole)

-- ---- an item whose place is known

pub nowhere_observed : (c : ChipData) (l : LayoutData) (watched : Option ℕ) (op : BusOp) (answer : Answer) (gathered : List Gathered) (m : MirrorData) → watched ≡ None →
    observed_at c l watched op answer gathered m ≡ seen gathered m
nowhere_observed c l watched op answer gathered m none = ap (λ p. observed_at c l p op answer gathered m) none

pub word_observed : (c : ChipData) (l : LayoutData) (watched : Option ℕ) (place word : ℕ) (op : BusOp) (answer : Answer) (gathered : List Gathered) (m : MirrorData) → watched ≡ Some place →
    answer.failed ≡ false → word ≡ word_told op answer →
    observed_at c l watched op answer gathered m ≡ taken_in c l place (gathered_with l place op word (gathered_at gathered place)) gathered m
word_observed c l watched place word op answer gathered m at quiet is =
    ap (λ p. observed_at c l p op answer gathered m) at
    ∙ ap (λ t. if t then seen (set gathered place no_words) m else taken_in c l place (gathered_with l place op (word_told op answer) (gathered_at gathered place)) gathered m) quiet
    ∙ ap (λ w. taken_in c l place (gathered_with l place op w (gathered_at gathered place)) gathered m) (sym is)
