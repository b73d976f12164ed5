-- Which places are accepted, and which condition refuses the next.
use Rattle.std.proofs.Common.{◌≡◌, ℕ, zero, suc, ◌+◌, ◌<◌, ◌≤◌, Bool, true, false, cond, List, [], ◌∷◌, ◌++◌, length, get_or, take}
use Rattle.std.proofs.Common.{drop, map, nat_lt, nat_le, Option, Some, None, refl, sym, ap, ◌∙◌, subst, arith, length-append}
use Rattle.std.specs.Prelude.{All, slice_get, position, bytes_eq, is_some, option_map, ◌↔◌, Result, Err}
use Rattle.std.specs.List.{position_or_len}
use Rattle.std.specs.Option.{option_or}
use Rattle.std.proofs.Common.{get_or-take, get_or-drop, length-take, length-drop}
use Rattle.std.proofs.lemmas.Bool.Decides.{nat_tests}
use Rattle.std.proofs.lemmas.List.Sums.{position_or_len_is}
use Rattle.std.proofs.lemmas.Option.{slice_get_within, slice_get-get_or, get_or_from_slice_get}
use Rattle.std.proofs.lemmas.Slice.Eq.{bytes_eq-Decides}
use Rattle.rl_model.specs.declared.fault.Array.TheVariants as array
use Rattle.rl_model.specs.declared.fault.Spot.{Spot}
use Rattle.rl_model.specs.declared.rows.Item.TheVariants as item
use Rattle.rl_model.specs.Rows.{ChipData}
use Rattle.rl_model.specs.Rules.{or_else}
use Rattle.rl_bus.specs.declared.table.WordRow.{WordRow}
use Rattle.rl_map.specs.declared.fault.MapCause.{MapCause}
use Rattle.rl_map.specs.declared.fault.MapCause.TheVariants.{TooMany, PlacedTwice}
use Rattle.rl_map.specs.declared.fault.MapFault.{MapFault}
use Rattle.rl_map.specs.declared.fault.MapFault.TheVariants.{Bad}
use Rattle.rl_map.specs.declared.path.Level.{Level}
use Rattle.rl_map.specs.declared.parts.PlacePart.{PlacePart}
use Rattle.rl_map.specs.declared.rows.MapRow.{MapRow}
use Rattle.rl_map.specs.declared.rows.PortRow.{PortRow}
use Rattle.rl_map.specs.declared.rows.PlaceRow.{PlaceRow}
use Rattle.rl_map.specs.Layout.{no_map, no_port}
use Rattle.rl_map.specs.Maps.{MapTables, item_at, place_row}
use Rattle.rl_map.specs.Faults.{Check, first_of, row_at, Placed, word_count, is_placed, places_fault}
use Rattle.rl_map.specs.Steps.{first_cause, Tells, there_checks, fifo_checks, word_checks, own_checks, place_of_part, own_fault, own_faults, accepted, shared_check, shared_faults}
use Rattle.rl_map.specs.Building.{path_in, port_for, placed_in, placed_at, ArePlaces, HasTables, IsPlacedIn, rows_of, rows_of_all}
use Rattle.rl_map.proofs.Lookups.{read_is}
use Rattle.rl_map.proofs.Growing.{rows_more}
use Rattle.rl_map.proofs.Placing.{length-rows_of}
use Rattle.rl_map.proofs.Refusing.{first_append}
use Rattle.rl_map.proofs.Bools.{lt_true, not_true}
use Rattle.rl_map.proofs.Lists.{append_twice, dropped}

-- ---- an item by its path

-- nothing is some
no_some : {P : Type 0} → false ≡ true → P
no_some e = cc

pub no_value : {X : Type 0} {P : Type 0} (x : X) → None ≡ Some x → P
no_value x e = cc

lt_same : (a : ℕ) → nat_lt a a ≡ false
lt_same a = grind (arith, nat_tests)

pub at_first : {X : Type 0} (p : X → Bool) (xs : List X) (n : ℕ) → position_or_len p xs ≡ n → n < length xs → position p xs ≡ Some n
at_first p xs n e low = ap (λ t. cond t (Some (position_or_len p xs)) None) (lt_true _ _ (omega (arith, e))) ∙ ap Some e

pub at_none : {X : Type 0} (p : X → Bool) (xs : List X) → position_or_len p xs ≡ length xs → position p xs ≡ None
at_none p xs e = ap (λ n. cond (nat_lt n (length xs)) (Some (position_or_len p xs)) None) e ∙ ap (λ t. cond t (Some (position_or_len p xs)) None) (lt_same (length xs))

-- what a look-up says of a number
abbrev IsFoundIn : List (List ℕ) → (first len : ℕ) → List ℕ → Option ℕ → Type 0
IsFoundIn paths first len path o = (n : ℕ) → (o ≡ Some n) ↔ ((n < len) × (slice_get paths (first + n) ≡ Some path))

part_length : {X : Type 0} (xs : List X) (first len k : ℕ) → k < length (take len (drop first xs)) → (k < len) × (first + k < length xs)
part_length xs first len k low = let n = length-take len (drop first xs) in let m = length-drop first xs in (omega arith, omega arith)

part_inside : {X : Type 0} (xs : List X) (first len k : ℕ) → k < len → first + k < length xs → k < length (take len (drop first xs))
part_inside xs first len k low high = let n = length-take len (drop first xs) in let m = length-drop first xs in omega arith

part_at : {X : Type 0} (xs : List X) (first len k : ℕ) (d : X) → k < len → get_or (take len (drop first xs)) k d ≡ get_or xs (first + k) d
part_at xs first len k d low = get_or-take len (drop first xs) k d low ∙ get_or-drop first xs k d

-- what holds of a whole list holds of a part
pub all_part : {X : Type 0} (P : X → Type 0) (xs : List X) (first len : ℕ) → All P xs → All P (take len (drop first xs))
all_part P xs first len h k d low =
    let inside = part_length xs first len k low in
    subst P (sym (part_at xs first len k d inside.0)) (h (first + k) d inside.1)

found_by : (paths : List (List ℕ)) (first len : ℕ) (path : List ℕ) (o : Option ℕ) → IsFoundIn paths first len path o → position (bytes_eq path) (take len (drop first paths)) ≡ o
found_by paths first len path o h = by o refl
  where
    xs : List (List ℕ)
    xs = take len (drop first paths)

    other : (k : ℕ) → k < length (take len (drop first paths)) → (o ≡ Some k → ⊥) → bytes_eq path (get_or (take len (drop first paths)) k []) ≡ false
    other k low refuse =
        let in_part = part_length paths first len k low in
        not_true _ (λ e. let same : path ≡ get_or paths (first + k) [] = (bytes_eq-Decides path (get_or (take len (drop first paths)) k [])).0 e ∙ part_at paths first len k [] in_part.0 in
        refuse ((h k).1 (in_part.0, slice_get-get_or paths (first + k) [] in_part.1 ∙ ap Some (sym same))))

    by : (v : Option ℕ) → o ≡ v → position (bytes_eq path) (take len (drop first paths)) ≡ v
    by None e = at_none (bytes_eq path) (take len (drop first paths))
        (position_or_len_is (bytes_eq path) (take len (drop first paths)) (length (take len (drop first paths))) [] (omega arith)
        (λ k low. other k low (λ f. let g = sym e ∙ f in cc)) (λ low. absurd (omega arith)))
    by (Some n) e =
        let at = (h n).0 e in
        let inside : n < length (take len (drop first paths)) = part_inside paths first len n at.0 (slice_get_within paths (first + n) path at.1) in
        let read : path ≡ get_or (take len (drop first paths)) n [] = sym (part_at paths first len n [] at.0 ∙ get_or_from_slice_get paths (first + n) path [] at.1) in
        at_first (bytes_eq path) (take len (drop first paths)) n
        (position_or_len_is (bytes_eq path) (take len (drop first paths)) n [] (omega arith)
        (λ k less. other k (omega arith) (λ f. let g : Some n ≡ Some k = sym e ∙ f in let m : n ≡ k = cc in absurd (omega arith)))
        (λ low. (bytes_eq-Decides path (get_or (take len (drop first paths)) n [])).1 read)) inside

abbrev reg_in : ChipData → List ℕ → Option ℕ → Type 0
reg_in chip path o = (n : ℕ) → (o ≡ Some n) ↔ ((n < length chip.regs) × (slice_get chip.paths (chip.scopes + n) ≡ Some path))

abbrev mem_in : ChipData → List ℕ → Option ℕ → Type 0
mem_in chip path o = (n : ℕ) → (o ≡ Some n) ↔ ((n < length chip.mems) × (slice_get chip.paths (chip.scopes + length chip.regs + n) ≡ Some path))

pub item_reg : (chip : ChipData) (path : List ℕ) (o : Option ℕ) (r : ℕ) → reg_in chip path o → o ≡ Some r → Some (item.Reg r) ≡ item_at chip path
item_reg chip path o r h e =
    let at : position (bytes_eq path) (take (length chip.regs) (drop chip.scopes chip.paths)) ≡ Some r = found_by chip.paths chip.scopes (length chip.regs) path o h ∙ e in
    sym (ap (λ x. option_or (option_map (λ n. item.Reg n) x) (option_map (λ n. item.Mem n) (position (bytes_eq path) (take (length chip.mems) (drop (chip.scopes + length chip.regs) chip.paths))))) at)

pub item_other : (chip : ChipData) (path : List ℕ) (o p : Option ℕ) → reg_in chip path o → o ≡ None → mem_in chip path p → option_map (λ n. item.Mem n) p ≡ item_at chip path
item_other chip path o p h e g =
    let none : position (bytes_eq path) (take (length chip.regs) (drop chip.scopes chip.paths)) ≡ None = found_by chip.paths chip.scopes (length chip.regs) path o h ∙ e in
    let at : position (bytes_eq path) (take (length chip.mems) (drop (chip.scopes + length chip.regs) chip.paths)) ≡ p =
    found_by chip.paths (chip.scopes + length chip.regs) (length chip.mems) path p g in
    sym (ap (λ x. option_or (option_map (λ n. item.Reg n) x)
    (option_map (λ n. item.Mem n) (position (bytes_eq path) (take (length chip.mems) (drop (chip.scopes + length chip.regs) chip.paths))))) none
    ∙ ap (λ x. option_map (λ n. item.Mem n) x) at)

-- ---- causes

pub cause_met : (a b : List Check) (e : MapCause) → first_cause a ≡ Some e → first_cause (a ++ b) ≡ Some e
cause_met [] b e h = cc
cause_met (c ∷ cs) b e h = by c.0 h (cause_met cs b e)
  where
    by : (t : Bool) → cond t (Some c.1) (first_cause cs) ≡ Some e → (first_cause cs ≡ Some e → first_cause (cs ++ b) ≡ Some e) → cond t (Some c.1) (first_cause (cs ++ b)) ≡ Some e
    by true h more = h
    by false h more = more h

pub cause_later : (a b : List Check) → first_cause a ≡ None → first_cause (a ++ b) ≡ first_cause b
cause_later [] b h = refl
cause_later (c ∷ cs) b h = by c.0 h (cause_later cs b)
  where
    by : (t : Bool) → cond t (Some c.1) (first_cause cs) ≡ None → (first_cause cs ≡ None → first_cause (cs ++ b) ≡ first_cause b) → cond t (Some c.1) (first_cause (cs ++ b)) ≡ first_cause b
    by true h more = cc
    by false h more = more h

pub first_cause-of : (spot : Spot) (cs : List Check) → first_of spot cs ≡ option_map (λ c. Bad c spot) (first_cause cs)
first_cause-of spot [] = refl
first_cause-of spot (c ∷ cs) = by c.0 (first_cause-of spot cs)
  where
    by : (t : Bool) → first_of spot cs ≡ option_map (λ c. Bad c spot) (first_cause cs)
        → cond t (Some (Bad c.1 spot)) (first_of spot cs) ≡ option_map (λ c. Bad c spot) (cond t (Some c.1) (first_cause cs))
    by true more = refl
    by false more = more

-- what the exit of a call tells
pub told : {X : Type 0} (r : Result X MapCause) (checks : List Check) (e y : MapCause) → r ≡ Err y → y ≡ e → first_cause checks ≡ Some e → Tells r checks
told r checks e y at same h = subst (λ x. Tells x checks) (sym at) (h ∙ ap Some (sym same))

le_false : (a b : ℕ) → b < a → nat_le a b ≡ false
le_false a b h = grind (arith, nat_tests)

module _ (chip : ChipData) (maps : List MapRow) (ports : List PortRow) (earlier : List PlaceRow) (words : ℕ) (part : PlacePart) where
  abbrev own : List Check
  own = own_checks chip maps earlier words part (place_of_part chip maps ports part)

  -- the conditions from PlacedTwice on
  abbrev later : PlaceRow → Placed → List Check
  later row p = (is_placed earlier row, PlacedTwice) ∷ fifo_checks row ++ word_checks words p

  own_some : length earlier < 4096 → first_cause own ≡ first_cause (there_checks chip maps part ++ later (place_row chip maps part) (place_of_part chip maps ports part))
  own_some h = ap (λ t. cond t (Some TooMany) (first_cause (there_checks chip maps part ++ later (place_row chip maps part) (place_of_part chip maps ports part)))) (le_false 4096 (length earlier) h)

  pub own_many : 4096 ≤ length earlier → first_cause own ≡ Some TooMany
  own_many h =
      let many : nat_le 4096 (length earlier) ≡ true = grind (arith, nat_tests) in
      ap (λ t. cond t (Some TooMany) (first_cause (there_checks chip maps part ++ later (place_row chip maps part) (place_of_part chip maps ports part)))) many

  pub own_absent : (e : MapCause) → length earlier < 4096 → first_cause (there_checks chip maps part) ≡ Some e → first_cause own ≡ Some e
  own_absent e few h = own_some few ∙ cause_met (there_checks chip maps part) (later (place_row chip maps part) (place_of_part chip maps ports part)) e h

  own_there : (row : PlaceRow) → length earlier < 4096 → first_cause (there_checks chip maps part) ≡ None → row ≡ place_row chip maps part
      → first_cause own ≡ first_cause (later row (placed_in maps ports row))
  own_there row few h same =
      own_some few ∙ cause_later (there_checks chip maps part) (later (place_row chip maps part) (place_of_part chip maps ports part)) h
      ∙ ap (λ r. first_cause (later r (placed_in maps ports r))) (sym same)

  pub own_twice : (row : PlaceRow) → length earlier < 4096 → first_cause (there_checks chip maps part) ≡ None → row ≡ place_row chip maps part
      → is_placed earlier row ≡ true → first_cause own ≡ Some PlacedTwice
  own_twice row few h same twice =
      own_there row few h same ∙ ap (λ t. cond t (Some PlacedTwice) (first_cause (fifo_checks row ++ word_checks words (placed_in maps ports row)))) twice

  own_once : (row : PlaceRow) → length earlier < 4096 → first_cause (there_checks chip maps part) ≡ None → row ≡ place_row chip maps part
      → is_placed earlier row ≡ false → first_cause own ≡ first_cause (fifo_checks row ++ word_checks words (placed_in maps ports row))
  own_once row few h same once =
      own_there row few h same ∙ ap (λ t. cond t (Some PlacedTwice) (first_cause (fifo_checks row ++ word_checks words (placed_in maps ports row)))) once

  pub own_lined : (row : PlaceRow) (e : MapCause) → length earlier < 4096 → first_cause (there_checks chip maps part) ≡ None → row ≡ place_row chip maps part
      → is_placed earlier row ≡ false → first_cause (fifo_checks row) ≡ Some e → first_cause own ≡ Some e
  own_lined row e few h same once g = own_once row few h same once ∙ cause_met (fifo_checks row) (word_checks words (placed_in maps ports row)) e g

  -- the words' conditions decide
  pub own_words : (row : PlaceRow) (p : Placed) → length earlier < 4096 → first_cause (there_checks chip maps part) ≡ None → row ≡ place_row chip maps part
      → is_placed earlier row ≡ false → first_cause (fifo_checks row) ≡ None → p ≡ placed_in maps ports row
      → first_cause own ≡ first_cause (word_checks words p)
  own_words row p few h same once g at =
      own_once row few h same once ∙ cause_later (fifo_checks row) (word_checks words (placed_in maps ports row)) g ∙ ap (λ x. first_cause (word_checks words x)) (sym at)

  pub own_fine : first_cause own ≡ None → None ≡ own_fault chip maps ports earlier words part
  own_fine h = sym (first_cause-of (row_at array.Place (length earlier)) own ∙ ap (λ o. option_map (λ c. Bad c (row_at array.Place (length earlier))) o) h)

  pub own_met : (cause : MapCause) (spot : Spot) (e : MapFault) → first_cause own ≡ Some cause → e ≡ Bad cause spot → spot ≡ row_at array.Place (length earlier)
      → Some e ≡ own_fault chip maps ports earlier words part
  own_met cause spot e h made at =
      ap Some (made ∙ ap (Bad cause) at)
      ∙ sym (first_cause-of (row_at array.Place (length earlier)) own ∙ ap (λ o. option_map (λ c. Bad c (row_at array.Place (length earlier))) o) h)

pub seat_is : (maps : List MapRow) (ports : List PortRow) (row : PlaceRow) (map : MapRow) (port : PortRow) (path : List Level)
    → row.map < length maps → row.port < length ports → map ≡ get_or maps row.map map → port ≡ get_or ports row.port port → path ≡ map.path → placed_at row path port ≡ placed_in maps ports row
seat_is maps ports row map port path low_m low_p a b e =
    let path_is : path ≡ path_in maps row = e ∙ ap (λ (m : MapRow). m.path) (read_is maps row.map map no_map low_m a) in
    let port_is : port ≡ port_for ports row = read_is ports row.port port no_port low_p b in
    ap (λ x. placed_at row x port) path_is ∙ ap (λ x. placed_at row (path_in maps row) x) port_is

-- the same of a row that is one of a chip's in these tables
pub row_seat : (chip : ChipData) (maps : List MapRow) (ports : List PortRow) (row : PlaceRow) (map : MapRow) (port : PortRow) (path : List Level)
    → HasTables maps ports → IsPlacedIn chip maps row → map ≡ get_or maps row.map map → port ≡ get_or ports row.port port → path ≡ map.path
    → placed_at row path port ≡ placed_in maps ports row
row_seat chip maps ports row map port path tables placed a b e =
    seat_is maps ports row map port path placed.map (subst (λ n. n < length ports) (sym placed.port) (tables.1.each_map row.map no_map placed.map).port) a b e

-- ---- place by place

nothing : {X : Type 0} (xs : List X) (i : ℕ) → length xs ≤ i → drop i xs ≡ []
nothing [] zero h = refl
nothing [] (suc i) h = refl
nothing (x ∷ xs) zero h = absurd (omega arith)
nothing (x ∷ xs) (suc i) h = nothing xs i (omega arith)

append_none : {X : Type 0} (xs : List X) → xs ++ [] ≡ xs
append_none [] = refl
append_none (x ∷ xs) = ap (λ ys. x ∷ ys) (append_none xs)

-- the words of one place more
words_more : (chip : ChipData) (maps : List MapRow) (ports : List PortRow) (places places' : List PlaceRow) (rows rows' : List WordRow) (p : PlaceRow)
    → ArePlaces chip maps ports places rows → ArePlaces chip maps ports places' rows' → places' ≡ places ++ p ∷ [] → length rows' ≡ length rows + word_count (placed_in maps ports p)
words_more chip maps ports places places' rows rows' p t t' e =
    ap length (t'.words_are ∙ ap (rows_of_all maps ports) e ∙ rows_more maps ports places p)
    ∙ length-append (rows_of_all maps ports places) (rows_of maps ports (length places) p)
    ∙ ap (λ n. n + length (rows_of maps ports (length places) p)) (ap length (sym t.words_are))
    ∙ ap (λ n. length rows + n) (length-rows_of maps ports (length places) p)

module _ (chip : ChipData) (maps : List MapRow) (ports : List PortRow) (parts : List PlacePart) (i : ℕ) (part : PlacePart) (low : i < length parts) (read : part ≡ get_or parts i part) where
  abbrev rest : List PlacePart
  rest = drop (i + 1) parts

  -- a place that is refused
  pub faults_end : (places : List PlaceRow) (words : ℕ) (refused whole : Option MapFault) → is_some refused ≡ true → refused ≡ own_fault chip maps ports places words part
      → own_faults chip maps ports places words (drop i parts) ≡ whole → refused ≡ whole
  faults_end places words refused whole some is was =
      by refused some is ∙ sym (ap (own_faults chip maps ports places words) (dropped parts i part low read)) ∙ was
    where
      by : (o : Option MapFault) → is_some o ≡ true → o ≡ own_fault chip maps ports places words part
          → o ≡ or_else (own_fault chip maps ports places words part)
          (own_faults chip maps ports (places ++ place_row chip maps part ∷ []) (words + word_count (place_of_part chip maps ports part)) (drop (i + 1) parts))
      by None e f = no_some e
      by (Some x) e f = ap (λ o. or_else o (own_faults chip maps ports (places ++ place_row chip maps part ∷ []) (words + word_count (place_of_part chip maps ports part)) (drop (i + 1) parts))) f

  pub accepted_end : (places places' : List PlaceRow) (words : ℕ) (refused : Option MapFault) (whole : List PlaceRow) → is_some refused ≡ true → refused ≡ own_fault chip maps ports places words part
      → ((e : MapFault) → refused ≡ Some e → places' ≡ places) → places ++ accepted chip maps ports places words (drop i parts) ≡ whole → places' ≡ whole
  accepted_end places places' words refused whole some is kept was =
      by refused some kept ∙ sym (append_none places)
      ∙ ap (λ xs. places ++ xs) (sym (ap (λ t. cond t [] more) (ap is_some (sym is) ∙ some)))
      ∙ ap (λ xs. places ++ xs) (sym (ap (accepted chip maps ports places words) (dropped parts i part low read))) ∙ was
    where
      more : List PlaceRow
      more = place_row chip maps part ∷ accepted chip maps ports (places ++ place_row chip maps part ∷ []) (words + word_count (place_of_part chip maps ports part)) (drop (i + 1) parts)

      by : (o : Option MapFault) → is_some o ≡ true → ((e : MapFault) → o ≡ Some e → places' ≡ places) → places' ≡ places
      by None e f = no_some e
      by (Some x) e f = f x refl

  -- a place that is added
  pub faults_next : (places places' : List PlaceRow) (rows rows' : List WordRow) (refused whole : Option MapFault) → is_some refused ≡ false
      → refused ≡ own_fault chip maps ports places (length rows) part → (refused ≡ None → places' ≡ places ++ place_row chip maps part ∷ [])
      → ArePlaces chip maps ports places rows → ArePlaces chip maps ports places' rows'
      → own_faults chip maps ports places (length rows) (drop i parts) ≡ whole → own_faults chip maps ports places' (length rows') (drop (i + 1) parts) ≡ whole
  faults_next places places' rows rows' refused whole none is added t t' was =
      let nothing : refused ≡ None = by refused none in
      let more = added nothing in
      ap (λ n. own_faults chip maps ports places' n (drop (i + 1) parts)) (words_more chip maps ports places places' rows rows' (place_row chip maps part) t t' more)
      ∙ ap (λ xs. own_faults chip maps ports xs (length rows + word_count (place_of_part chip maps ports part)) (drop (i + 1) parts)) more
      ∙ sym (ap (λ o. or_else o
      (own_faults chip maps ports (places ++ place_row chip maps part ∷ []) (length rows + word_count (place_of_part chip maps ports part)) (drop (i + 1) parts))) (sym is ∙ nothing))
      ∙ ap (own_faults chip maps ports places (length rows)) (sym (dropped parts i part low read)) ∙ was
    where
      by : (o : Option MapFault) → is_some o ≡ false → o ≡ None
      by None e = refl
      by (Some x) e = cc

  pub accepted_next : (places places' : List PlaceRow) (rows rows' : List WordRow) (refused : Option MapFault) (whole : List PlaceRow) → is_some refused ≡ false
      → refused ≡ own_fault chip maps ports places (length rows) part → (refused ≡ None → places' ≡ places ++ place_row chip maps part ∷ [])
      → ArePlaces chip maps ports places rows → ArePlaces chip maps ports places' rows'
      → places ++ accepted chip maps ports places (length rows) (drop i parts) ≡ whole → places' ++ accepted chip maps ports places' (length rows') (drop (i + 1) parts) ≡ whole
  accepted_next places places' rows rows' refused whole none is added t t' was =
      let nothing : refused ≡ None = by refused none in
      let more = added nothing in
      ap (λ n. places' ++ accepted chip maps ports places' n (drop (i + 1) parts)) (words_more chip maps ports places places' rows rows' (place_row chip maps part) t t' more)
      ∙ ap (λ xs. xs ++ accepted chip maps ports xs (length rows + word_count (place_of_part chip maps ports part)) (drop (i + 1) parts)) more
      ∙ append_twice places (place_row chip maps part ∷ [])
      (accepted chip maps ports (places ++ place_row chip maps part ∷ []) (length rows + word_count (place_of_part chip maps ports part)) (drop (i + 1) parts))
      ∙ ap (λ xs. places ++ xs)
      (sym (ap (λ t. cond t []
      (place_row chip maps part ∷ accepted chip maps ports (places ++ place_row chip maps part ∷ []) (length rows + word_count (place_of_part chip maps ports part)) (drop (i + 1) parts)))
      (ap is_some (sym is) ∙ none)))
      ∙ ap (λ xs. places ++ accepted chip maps ports places (length rows) xs) (sym (dropped parts i part low read)) ∙ was
    where
      by : (o : Option MapFault) → is_some o ≡ false → o ≡ None
      by None e = refl
      by (Some x) e = cc

-- ---- shared addresses among the other conditions

or_assoc : (a b c : Option MapFault) → or_else (or_else a b) c ≡ or_else a (or_else b c)
or_assoc None b c = refl
or_assoc (Some x) b c = refl

-- the first fault of all is that of the first shared address among the accepted places, or else the first other one
pub split : (chip : ChipData) (t : MapTables) (earlier : List PlaceRow) (words : ℕ) (parts : List PlacePart)
    → places_fault chip t earlier words parts
    ≡ or_else (shared_faults t.maps t.ports earlier (accepted chip t.maps t.ports earlier words parts)) (own_faults chip t.maps t.ports earlier words parts)
split chip t earlier words [] = refl
split chip t earlier words (part ∷ parts) =
    ap (λ o. or_else o (places_fault chip t (earlier ++ row ∷ []) (words + word_count p) parts))
    (first_append spot (own_checks chip t.maps earlier words part p) (shared_check (map (placed_in t.maps t.ports) earlier) p))
    ∙ ap (λ o. or_else (or_else (own_fault chip t.maps t.ports earlier words part) one) o) (split chip t (earlier ++ row ∷ []) (words + word_count p) parts)
    ∙ by (own_fault chip t.maps t.ports earlier words part)
  where
    row : PlaceRow
    row = place_row chip t.maps part

    p : Placed
    p = place_of_part chip t.maps t.ports part

    spot : Spot
    spot = row_at array.Place (length earlier)

    one : Option MapFault
    one = first_of (row_at array.Place (length earlier)) (shared_check (map (placed_in t.maps t.ports) earlier) (place_of_part chip t.maps t.ports part))

    rows : List PlaceRow
    rows = accepted chip t.maps t.ports (earlier ++ place_row chip t.maps part ∷ []) (words + word_count (place_of_part chip t.maps t.ports part)) parts

    faults : Option MapFault
    faults = own_faults chip t.maps t.ports (earlier ++ place_row chip t.maps part ∷ []) (words + word_count (place_of_part chip t.maps t.ports part)) parts

    by : (o : Option MapFault) → or_else (or_else o one) (or_else (shared_faults t.maps t.ports (earlier ++ row ∷ []) rows) faults)
        ≡ or_else (shared_faults t.maps t.ports earlier (cond (is_some o) [] (row ∷ rows))) (or_else o faults)
    by None = sym (or_assoc one (shared_faults t.maps t.ports (earlier ++ row ∷ []) rows) faults)
    by (Some x) = refl

-- where no place is refused, all are accepted
pub all_accepted : (chip : ChipData) (maps : List MapRow) (ports : List PortRow) (earlier : List PlaceRow) (words : ℕ) (parts : List PlacePart)
    → own_faults chip maps ports earlier words parts ≡ None → accepted chip maps ports earlier words parts ≡ map (place_row chip maps) parts
all_accepted chip maps ports earlier words [] h = refl
all_accepted chip maps ports earlier words (part ∷ parts) h =
    by (own_fault chip maps ports earlier words part) h (all_accepted chip maps ports (earlier ++ place_row chip maps part ∷ []) (words + word_count (place_of_part chip maps ports part)) parts)
  where
    faults : Option MapFault
    faults = own_faults chip maps ports (earlier ++ place_row chip maps part ∷ []) (words + word_count (place_of_part chip maps ports part)) parts

    rows : List PlaceRow
    rows = accepted chip maps ports (earlier ++ place_row chip maps part ∷ []) (words + word_count (place_of_part chip maps ports part)) parts

    by : (o : Option MapFault) → or_else o faults ≡ None → (faults ≡ None → rows ≡ map (place_row chip maps) parts)
        → cond (is_some o) [] (place_row chip maps part ∷ rows) ≡ place_row chip maps part ∷ map (place_row chip maps) parts
    by None h more = ap (λ xs. place_row chip maps part ∷ xs) (more h)
    by (Some x) h more = cc
