-- What the look-ups of a layout find.
use Rattle.std.proofs.Common.{◌≡◌, ℕ, zero, suc, ◌<◌, ◌≤◌, Bool, true, false, ◌==◌, ◌&&◌, cond, List, [], ◌∷◌, length, get_or, map, Option, Some, None, refl, sym, ap, ◌∙◌, subst, arith, eqb-true}
use Rattle.std.specs.Prelude.{filter, find, slice_get}
use Rattle.std.specs.List.{AllByRecursion}
use Rattle.std.proofs.lemmas.List.Elements.{recursion_from_All}
use Rattle.std.proofs.lemmas.List.Quantifiers.{position-Some}
use Rattle.rl_model.specs.declared.rows.Item.{Item}
use Rattle.rl_model.specs.declared.rows.Item.TheVariants as item
use Rattle.rl_bus.specs.declared.table.WordRow.{WordRow}
use Rattle.rl_bus.specs.Setup.{stands_at}
use Rattle.rl_map.specs.declared.path.Level.{Level}
use Rattle.rl_map.specs.declared.seat.Location.{Location}
use Rattle.rl_map.specs.declared.word.Word.{Word}
use Rattle.rl_map.specs.declared.rows.MapRow.{MapRow}
use Rattle.rl_map.specs.declared.rows.PortRow.{PortRow}
use Rattle.rl_map.specs.declared.rows.PlaceRow.{PlaceRow}
use Rattle.rl_map.specs.declared.rows.Here.{Here}
use Rattle.rl_map.specs.Seat.{seat_of, AddressesFit}
use Rattle.rl_map.specs.Words.{item_words, words_with, no_word}
use Rattle.rl_map.specs.Layout.{LayoutData, no_place, map_at, port_at, place_at, location_of, words_of, seat_at, row_of, index_of, has_right, lets_through}
use Rattle.rl_map.specs.Layout.{standing, here_of, found, words_here, words_found, same_item, is_in, place_of, IsLocation, IsRowOf, IsHere, IsSound}
use Rattle.rl_map.proofs.Lists.{filter_both, filter_find, filter_found, mapped_length}
use Rattle.rl_map.proofs.Bools.{and_true}

-- ---- reads

pub default_any : {X : Type 0} (xs : List X) (i : ℕ) (d e : X) → i < length xs → get_or xs i d ≡ get_or xs i e
default_any [] i d e low = absurd (omega arith)
default_any (x ∷ xs) zero d e low = refl
default_any (x ∷ xs) (suc i) d e low = default_any xs i d e (omega arith)

pub read_is : {X : Type 0} (xs : List X) (i : ℕ) (x d : X) → i < length xs → x ≡ get_or xs i x → x ≡ get_or xs i d
read_is xs i x d low e = e ∙ default_any xs i x d low

pub got : {X : Type 0} (xs : List X) (k : ℕ) (x d : X) → slice_get xs k ≡ Some x → get_or xs k d ≡ x
got [] k x d e = cc
got (y ∷ xs) zero x d e = let same : y ≡ x = cc in same
got (y ∷ xs) (suc k) x d e = got xs k x d e

pub got_at : {X : Type 0} (xs : List X) (i : ℕ) (x : X) → i < length xs → x ≡ get_or xs i x → slice_get xs i ≡ Some x
got_at [] i x low e = absurd (omega arith)
got_at (y ∷ xs) zero x low e = ap Some (sym e)
got_at (y ∷ xs) (suc i) x low e = got_at xs i x (omega arith) e

pub none_stand : (l : LayoutData) (port address : ℕ) (write : Bool) → found l port address write ≡ None → length (standing l port address write) ≡ 0
none_stand l port address write e = by (standing l port address write) e
  where
    by : (rows : List WordRow) → here_of rows ≡ None → length rows ≡ 0
    by [] h = refl
    by (r ∷ rs) h = cc

-- ---- a location, by its rows

pub seat_shown : (l : LayoutData) (place index byte : ℕ) (row : PlaceRow) (map : MapRow) (port : PortRow) (path : List Level) (loc : Location)
    → row ≡ place_at l place → map ≡ map_at l row.map → port ≡ port_at l row.port → path ≡ map.path → loc ≡ location_of row index
    → seat_of path port.base loc byte ≡ seat_at l place index byte
seat_shown l place index byte row map port path loc a b c d e =
    ap (λ p. seat_of p port.base loc byte) (d ∙ ap (λ (m : MapRow). m.path) (b ∙ ap (λ (r : PlaceRow). map_at l r.map) a))
    ∙ ap (λ n. seat_of (map_at l (place_at l place).map).path n loc byte) (ap (λ (p : PortRow). p.base) (c ∙ ap (λ (r : PlaceRow). port_at l r.port) a))
    ∙ ap (λ i. seat_of (map_at l (place_at l place).map).path (port_at l (place_at l place).port).base i byte) (e ∙ ap (λ r. location_of r index) a)

-- ---- a location that is read

pub record Shown (l : LayoutData) (place index : ℕ) (path : List Level) (base : ℕ) (loc : Location) : Type 0 where
  pub words : item_words path base loc ≡ words_of l place index
  pub fits : AddressesFit path base loc

-- ---- what stands at an address

pub filter_le : {X : Type 0} (p : X → Bool) (xs : List X) → length (filter p xs) ≤ length xs
filter_le p [] = omega arith
filter_le p (x ∷ xs) = by (p x) (filter_le p xs)
  where
    by : (t : Bool) → length (filter p xs) ≤ length xs → length (cond t (x ∷ filter p xs) (filter p xs)) ≤ length (x ∷ xs)
    by true h = omega arith
    by false h = omega arith

pub standing_group : (l : LayoutData) (port address : ℕ) (write : Bool) (group : List WordRow) → group ≡ filter (stands_at port address) l.rows
    → standing l port address write ≡ filter (lets_through write) group
standing_group l port address write group e = filter_both (stands_at port address) (lets_through write) l.rows ∙ ap (filter (lets_through write)) (sym e)

pub found_none : (l : LayoutData) (port address : ℕ) (write : Bool) (group : List WordRow) → group ≡ filter (stands_at port address) l.rows
    → find (lets_through write) group ≡ None → found l port address write ≡ None
found_none l port address write group e none = ap here_of (standing_group l port address write group e ∙ filter_find (lets_through write) group none)

here_is : (rows : List WordRow) (row : WordRow) (rest : List WordRow) (index count : ℕ) → rows ≡ row ∷ rest → index ≡ index_of row.cell → count ≡ length rows
    → here_of rows ≡ Some (record { place = row.place; index = index; count = count })
here_is rows row rest index count e i c =
    ap here_of e
    ∙ ap (λ x. Some (let h : Here = record { place = row.place; index = x; count = length (row ∷ rest) } in h)) (sym i)
    ∙ ap (λ x. Some (let h : Here = record { place = row.place; index = index; count = x } in h)) (sym (c ∙ ap length e))

pub found_some : (l : LayoutData) (port address : ℕ) (write : Bool) (group : List WordRow) (row : WordRow) (index count : ℕ) → group ≡ filter (stands_at port address) l.rows
    → find (lets_through write) group ≡ Some row → index ≡ index_of row.cell → count ≡ length (filter (lets_through write) group)
    → Some (record { place = row.place; index = index; count = count }) ≡ found l port address write
found_some l port address write group row index count e first i c =
    let rest = filter_found (lets_through write) group row first in
    let all = standing_group l port address write group e in
    sym (here_is (standing l port address write) row rest.0 index count (all ∙ rest.1) i (c ∙ ap length (sym all)))

-- the first of a filter's that passes
pub first_in : (P : WordRow → Type 0) (st lets : WordRow → Bool) (rows : List WordRow) (row : WordRow) → AllByRecursion P rows → find lets (filter st rows) ≡ Some row
    → P row × (st row ≡ true) × (lets row ≡ true)
first_in P st lets [] row h e = cc
first_in P st lets (r ∷ rows) row h e = by (st r) (lets r) refl refl e (first_in P st lets rows row h.1)
  where
    by : (s t : Bool) → st r ≡ s → lets r ≡ t → find lets (cond s (r ∷ filter st rows) (filter st rows)) ≡ Some row
        → (find lets (filter st rows) ≡ Some row → P row × (st row ≡ true) × (lets row ≡ true)) → P row × (st row ≡ true) × (lets row ≡ true)
    by true true p q e more =
        let same : r ≡ row = here (lets r) q e in
        (subst P same h.0, subst (λ x. st x ≡ true) same p, subst (λ x. lets x ≡ true) same q)
      where
        here : (t : Bool) → t ≡ true → cond t (Some r) (find lets (filter st rows)) ≡ Some row → r ≡ row
        here true q e = cc
        here false q e = cc
    by true false p q e more = more (there (lets r) q e)
      where
        there : (t : Bool) → t ≡ false → cond t (Some r) (find lets (filter st rows)) ≡ Some row → find lets (filter st rows) ≡ Some row
        there false q e = e
        there true q e = cc
    by false t p q e more = more e

right_is : (l : LayoutData) (p i : ℕ) (w : Word) (write : Bool) → lets_through write (row_of l p i w) ≡ has_right (place_at l p).rights write
right_is l p i w true = refl
right_is l p i w false = refl

pub is_here : (l : LayoutData) → IsSound l → (port address : ℕ) (write : Bool) (group : List WordRow) (row : WordRow) (index count : ℕ) → group ≡ filter (stands_at port address) l.rows
    → find (lets_through write) group ≡ Some row → index ≡ index_of row.cell → count ≡ length (filter (lets_through write) group)
    → IsHere l port address write (record { place = row.place; index = index; count = count })
is_here l sound port address write group row index count e first i c =
    let at = first_in (IsRowOf l) (stands_at port address) (lets_through write) l.rows row (recursion_from_All (IsRowOf l) l.rows sound.each_row)
    (ap (find (lets_through write)) (sym e) ∙ first) in
    let r = at.0 in
    let j = index_of row.cell in
    let w = get_or (words_of l row.place j) r.number no_word in
    let stands = and_true (row.port == port) (row.address == address) at.1 in
    let port_is : (place_at l row.place).port ≡ port = sym (ap (λ (x : WordRow). x.port) r.row) ∙ eqb-true row.port port stands.0 in
    let address_is : w.address ≡ address = sym (ap (λ (x : WordRow). x.address) r.row) ∙ eqb-true row.address address stands.1 in
    let right : has_right (place_at l row.place).rights write ≡ true = sym (right_is l row.place j w write) ∙ ap (lets_through write) (sym r.row) ∙ at.2 in
    let words = sound.each_location row.place j r.location in
    let all = standing_group l port address write group e in
    let here : standing l port address write ≡ map (row_of l row.place j) (words_with address (words_of l row.place j)) =
    subst (λ x. standing l port x write ≡ map (row_of l row.place j) (words_with x (words_of l row.place j))) address_is
    (subst (λ x. standing l x w.address write ≡ map (row_of l row.place j) (words_with w.address (words_of l row.place j))) port_is (words.found write r.number r.number_in right)) in
    let many : count ≡ length (words_with address (words_of l row.place j)) =
    c ∙ ap length (sym all) ∙ ap length here ∙ mapped_length (row_of l row.place j) (words_with address (words_of l row.place j)) in
    let rest = filter_found (lets_through write) group row first in
    let some : 0 < count = let n = c ∙ ap length rest.1 in omega (arith, n) in
    record {
      location = subst (λ x. IsLocation l row.place x) (sym i) r.location;
      port_is = port_is;
      right = right;
      some = some;
      few = omega (arith, many, filter_le (λ (v : Word). v.address == address) (words_of l row.place j), words.few);
      count = ap length all ∙ sym c;
      words = many ∙ ap (λ x. length (words_with address (words_of l row.place x))) (sym i);
    }

pub words_found_is : (l : LayoutData) (port address : ℕ) (write : Bool) (h : Here) → found l port address write ≡ Some h
    → words_found l port address write ≡ words_with address (words_of l h.place h.index)
words_found_is l port address write h e = by (standing l port address write) e
  where
    by : (rows : List WordRow) → here_of rows ≡ Some h → words_here l address rows ≡ words_with address (words_of l h.place h.index)
    by [] e = cc
    by (r ∷ rs) e =
        let same : record { place = r.place; index = index_of r.cell; count = length (r ∷ rs) } ≡ h = inside _ h e in
        ap (λ (x : Here). words_with address (words_of l x.place x.index)) same
      where
        inside : (a b : Here) → Some a ≡ Some b → a ≡ b
        inside a b e = cc

-- ---- places

pub same_from : (a b : Item) → same_item a b ≡ true → a ≡ b
same_from (item.Reg a) (item.Reg b) e = ap (λ x. item.Reg x) (eqb-true a b e)
same_from (item.Mem a) (item.Mem b) e = ap (λ x. item.Mem x) (eqb-true a b e)
same_from (item.Reg a) (item.Mem b) e = cc
same_from (item.Mem a) (item.Reg b) e = cc

pub place_there : (l : LayoutData) (i : Item) (map : Option ℕ) (p : ℕ) → place_of l i map ≡ Some p → (p < length l.places) × ((place_at l p).item ≡ i)
place_there l i map p e =
    let at = position-Some (λ q. same_item q.item i && is_in map q.map) l.places p no_place e in
    (at.0, same_from _ i (and_true (same_item (place_at l p).item i) (is_in map (place_at l p).map) at.1).0)
