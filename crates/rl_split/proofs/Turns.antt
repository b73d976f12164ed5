-- Operations that go to the words of one cell by turns: each meets its word, since the beats count those before it.
use Rattle.std.proofs.Common.{◌≡◌, ℕ, suc, ◌+◌, ◌<◌, Bool, true, false, ◌&&◌, cond, eqb, ltb, List, [], ◌∷◌, ◌++◌, length, map, Some, refl, sym, ap, ◌∙◌, arith, eq-eqb, eqb-true}
use Rattle.std.specs.Prelude.{All, slice_get, slice_index}
use Rattle.std.proofs.lemmas.List.{length-map}
use Rattle.std.proofs.lemmas.Bool.Decides.{nat_tests}
use Rattle.rl_bus.specs.declared.op.BusOp.{BusOp}
use Rattle.rl_bus.specs.declared.table.Cell.{Cell}
use Rattle.rl_bus.specs.declared.table.Lanes.{Lanes}
use Rattle.rl_bus.specs.declared.table.WordRow.{WordRow}
use Rattle.rl_bus.specs.Setup.{Setup, words_at}
use Rattle.rl_bus.specs.Spread.{lanes_in}
use Rattle.rl_bus.specs.State.{State, beats_on}
use Rattle.rl_map.specs.declared.word.Word.{Word}
use Rattle.rl_map.specs.Words.{words_with}
use Rattle.rl_split.specs.Law.{no_flaws}
use Rattle.rl_split.proofs.Items.{Meets}

-- the word is met by its operation: the rows at its address are those of the words that are sent there
pub record IsTurn (t : Setup) (port : ℕ) (write : Bool) (cell : Cell) (row : Word → WordRow) (op : Word → BusOp) (lanes : Word → Lanes) (sent : List Word) (w : Word) : Type 0 where
  pub address : (op w).address ≡ w.address
  pub write_is : (op w).write ≡ write
  pub width : (op w).bytes ≡ slice_index t.ports port
  pub rows : words_at t port w.address write ≡ map row (words_with w.address sent)
  pub cell_is : (row w).cell ≡ cell
  pub lanes_are : lanes_in (row w).lanes (op w).lanes ≡ lanes w

pub record AreTurns (t : Setup) (port : ℕ) (write : Bool) (cell : Cell) (row : Word → WordRow) (op : Word → BusOp) (lanes : Word → Lanes) (sent : List Word) : Type 0 where
  pub flawless : t.flaws ≡ no_flaws
  pub each : All (IsTurn t port write cell row op lanes sent) sent

-- ---- how many stand at an address

abbrev pub count_at : ℕ → List Word → ℕ
count_at a ws = length (words_with a ws)

-- the number of the next one, and after the last one 0
abbrev pub wrapped : ℕ → ℕ → ℕ
wrapped total n = cond (ltb n total) n 0

count_append : (a : ℕ) (xs ys : List Word) → count_at a (xs ++ ys) ≡ count_at a xs + count_at a ys
count_append a [] ys = omega arith
count_append a (x ∷ xs) ys = by (eqb x.address a) (count_append a xs ys)
  where
    by : (t : Bool) → count_at a (xs ++ ys) ≡ count_at a xs + count_at a ys → length (cond t (x ∷ words_with a (xs ++ ys)) (words_with a (xs ++ ys))) ≡ length (cond t (x ∷ words_with a xs)
        (words_with a xs)) + count_at a ys
    by true h = omega (arith, h)
    by false h = h

own : (w : Word) → count_at w.address (w ∷ []) ≡ 1
own w = ap (λ t. length (cond t (w ∷ []) [])) (eq-eqb w.address w.address refl)

other : (w : Word) (a : ℕ) → eqb w.address a ≡ false → count_at a (w ∷ []) ≡ 0
other w a e = ap (λ t. length (cond t (w ∷ []) [])) e

-- the word behind some others is the one whose number is theirs
word_behind : (row : Word → WordRow) (xs : List Word) (w : Word) (ys : List Word) → slice_get (map row (words_with w.address (xs ++ w ∷ ys))) (count_at w.address xs) ≡ Some (row w)
word_behind row [] w ys = ap (λ t. slice_get (map row (cond t (w ∷ words_with w.address ys) (words_with w.address ys))) 0) (eq-eqb w.address w.address refl)
word_behind row (x ∷ xs) w ys = by (eqb x.address w.address) (word_behind row xs w ys)
  where
    by : (t : Bool) → slice_get (map row (words_with w.address (xs ++ w ∷ ys))) (count_at w.address xs) ≡ Some (row w) →
        slice_get (map row (cond t (x ∷ words_with w.address (xs ++ w ∷ ys)) (words_with w.address (xs ++ w ∷ ys)))) (length (cond t (x ∷ words_with w.address xs) (words_with w.address xs))) ≡ Some
        (row w)
    by true h = h
    by false h = h

-- ---- the beats once some of the words were sent

pub record Stands (s : State) (port : ℕ) (sent done : List Word) : Type 0 where
  pub at : (p a : ℕ) → s.beats p a ≡ cond (eqb p port) (wrapped (count_at a sent) (count_at a done)) 0

same_either_way : (t : Bool) (n : ℕ) → cond t n n ≡ n
same_either_way true n = refl
same_either_way false n = refl

same_twice : (t u : Bool) (n : ℕ) → n ≡ cond t (cond u n n) n
same_twice true true n = refl
same_twice true false n = refl
same_twice false u n = refl

pub first_stands : (s : State) (port : ℕ) (sent : List Word) → ((p a : ℕ) → s.beats p a ≡ 0) → Stands s port sent []
first_stands s port sent none = record { at = λ p a. none p a ∙ same_twice (eqb p port) (ltb 0 (count_at a sent)) 0 }

all_wrapped : (n : ℕ) → wrapped n n ≡ 0
all_wrapped n = grind (arith, nat_tests)

pub last_stands : (s : State) (port : ℕ) (sent : List Word) → Stands s port sent sent → (p a : ℕ) → s.beats p a ≡ 0
last_stands s port sent stands p a = stands.at p a ∙ ap (λ n. cond (eqb p port) n 0) (all_wrapped (count_at a sent)) ∙ same_either_way (eqb p port) 0

not_all : (total n : ℕ) → n < total → wrapped total n ≡ n
not_all total n l = grind (arith, nat_tests)

pub left_over : (sent done rest : List Word) (w : Word) → sent ≡ done ++ w ∷ rest → count_at w.address done < count_at w.address sent
left_over sent done rest w is =
    let total : count_at w.address sent ≡ count_at w.address done + (count_at w.address (w ∷ []) + count_at w.address rest) =
    ap (count_at w.address) is ∙ count_append w.address done (w ∷ rest) ∙ ap (λ n. count_at w.address done + n) (count_append w.address (w ∷ []) rest) in
    omega (arith, total, own w)

same_port : (p : ℕ) → eqb p p ≡ true
same_port p = eq-eqb p p refl

-- the beat of the next word
pub beat_is : (s : State) (port : ℕ) (sent done rest : List Word) (w : Word) → sent ≡ done ++ w ∷ rest → Stands s port sent done → s.beats port w.address ≡ count_at w.address done
beat_is s port sent done rest w is stands =
    stands.at port w.address
    ∙ ap (λ t. cond t (wrapped (count_at w.address sent) (count_at w.address done)) 0) (same_port port)
    ∙ not_all (count_at w.address sent) (count_at w.address done) (left_over sent done rest w is)

-- ---- a turn

pub turn_meets : (s : State) (t : Setup) (port : ℕ) (write : Bool) (cell : Cell) (row : Word → WordRow) (op : Word → BusOp) (lanes : Word → Lanes) (sent done rest : List Word) (w : Word) →
    s.setup ≡ t → t.flaws ≡ no_flaws → IsTurn t port write cell row op lanes sent w → sent ≡ done ++ w ∷ rest → Stands s port sent done → Meets s port (op w) cell (lanes w)
turn_meets s t port write cell row op lanes sent done rest w same flawless turn is stands = record {
  flawless = ap (λ (u : Setup). u.flaws) same ∙ flawless;
  width = turn.width ∙ ap (λ (u : Setup). slice_index u.ports port) (sym same);
  row = row w;
  found =
      ap (λ a. slice_get (words_at s.setup port a (op w).write) (s.beats port a)) turn.address
      ∙ ap (λ b. slice_get (words_at s.setup port w.address b) (s.beats port w.address)) turn.write_is
      ∙ ap (λ (u : Setup). slice_get (words_at u port w.address write) (s.beats port w.address)) same
      ∙ ap (λ n. slice_get (words_at t port w.address write) n) (beat_is s port sent done rest w is stands)
      ∙ ap (λ ws. slice_get ws (count_at w.address done)) turn.rows
      ∙ ap (λ ws. slice_get (map row (words_with w.address ws)) (count_at w.address done)) is
      ∙ word_behind row done w rest;
  cell_is = turn.cell_is;
  lanes_are = turn.lanes_are;
}

beat_moves : (t u : Bool) (x n m : ℕ) → (t ≡ true → u ≡ true → n ≡ m) → (t ≡ true → u ≡ false → x ≡ m) → (t ≡ false → x ≡ 0) → cond (t && u) n x ≡ cond t m 0
beat_moves true true x n m here there away = here refl refl
beat_moves true false x n m here there away = there refl refl
beat_moves false u x n m here there away = away refl

turned : (a b : ℕ) → eqb a b ≡ false → eqb b a ≡ false
turned a b e = grind (arith, nat_tests)

none_more : (n : ℕ) → n + 0 ≡ n
none_more n = omega arith

-- the beats after it
pub turn_moves : (s next : State) (t : Setup) (port : ℕ) (write : Bool) (cell : Cell) (row : Word → WordRow) (op : Word → BusOp) (lanes : Word → Lanes) (sent done rest : List Word) (w : Word) →
    s.setup ≡ t → IsTurn t port write cell row op lanes sent w → sent ≡ done ++ w ∷ rest → Stands s port sent done → ((p a : ℕ) → next.beats p a ≡ beats_on s port (op w) p a) →
    Stands next port sent (done ++ w ∷ [])
turn_moves s next t port write cell row op lanes sent done rest w same turn is stands moves = record {
  at = λ p a.
      moves p a
      ∙ beat_moves (eqb p port) (eqb a (op w).address) (s.beats p a) _ _
      (λ q h. here p a (eqb-true p port q) (eqb-true a (op w).address h ∙ turn.address))
      (λ q h. there p a q h)
      (λ q. stands.at p a ∙ ap (λ t. cond t (wrapped (count_at a sent) (count_at a done)) 0) q);
}
  where
    total : length (words_at s.setup port (op w).address (op w).write) ≡ count_at w.address sent
    total =
        ap (λ a. length (words_at s.setup port a (op w).write)) turn.address
        ∙ ap (λ b. length (words_at s.setup port w.address b)) turn.write_is
        ∙ ap (λ (u : Setup). length (words_at u port w.address write)) same
        ∙ ap length turn.rows
        ∙ length-map (words_with w.address sent) row

    beat : s.beats port (op w).address ≡ count_at w.address done
    beat = ap (s.beats port) turn.address ∙ beat_is s port sent done rest w is stands

    one_more : (a : ℕ) → a ≡ w.address → count_at a (done ++ w ∷ []) ≡ count_at w.address done + 1
    one_more a e = ap (λ a. count_at a (done ++ w ∷ [])) e ∙ count_append w.address done (w ∷ []) ∙ ap (λ n. count_at w.address done + n) (own w)

    here : (p a : ℕ) → p ≡ port → a ≡ w.address → wrapped (length (words_at s.setup port (op w).address (op w).write)) (s.beats port (op w).address + 1) ≡ wrapped (count_at a sent) (count_at a
        (done ++ w ∷ []))
    here p a q e =
        ap (λ n. wrapped n (s.beats port (op w).address + 1)) total
        ∙ ap (λ n. wrapped (count_at w.address sent) (n + 1)) beat
        ∙ ap (wrapped (count_at w.address sent)) (sym (one_more a e))
        ∙ ap (λ b. wrapped (count_at b sent) (count_at a (done ++ w ∷ []))) (sym e)

    apart : (a : ℕ) → eqb a (op w).address ≡ false → eqb w.address a ≡ false
    apart a h = turned a w.address (ap (eqb a) (sym turn.address) ∙ h)

    there : (p a : ℕ) → eqb p port ≡ true → eqb a (op w).address ≡ false → s.beats p a ≡ wrapped (count_at a sent) (count_at a (done ++ w ∷ []))
    there p a q h =
        stands.at p a
        ∙ ap (λ t. cond t (wrapped (count_at a sent) (count_at a done)) 0) q
        ∙ ap (wrapped (count_at a sent)) (sym (count_append a done (w ∷ []) ∙ ap (λ n. count_at a done + n) (other w a (apart a h)) ∙ none_more (count_at a done)))

pub all_head : {A : Type 0} (P : A → Type 0) (x : A) (xs : List A) → All P (x ∷ xs) → P x
all_head P x xs h = h 0 x (omega arith)

pub all_tail : {A : Type 0} (P : A → Type 0) (x : A) (xs : List A) → All P (x ∷ xs) → All P xs
all_tail P x xs h = λ i d l. h (suc i) d (omega arith)
