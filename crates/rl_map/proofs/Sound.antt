-- What a build has tested of a layout makes it sound.
use Rattle.std.proofs.Common.{◌≡◌, ◌≢◌, ℕ, zero, suc, ◌^◌, ◌<◌, ◌≤◌, ◌⊎◌, inl, inr, Bool, true, false, ◌==◌, ◌&&◌, cond}
use Rattle.std.proofs.Common.{List, [], ◌∷◌, length, get_or, map, refl, sym, ap, ◌∙◌, subst, arith, eq-eqb, eqb-true}
use Rattle.std.specs.Prelude.{filter, IsPermutation}
use Rattle.std.specs.List.{AllByRecursion, range_with_len}
use Rattle.std.proofs.lemmas.List.Elements.{recursion_from_All, All-from_recursion}
use Rattle.std.proofs.lemmas.List.Sorted.{All-permutation}
use Rattle.std.proofs.lemmas.List.FromFn.{length-map-range_with_len}
use Rattle.rl_model.specs.declared.rows.Item.{Item}
use Rattle.rl_model.specs.declared.rows.Item.TheVariants as item
use Rattle.rl_bus.specs.declared.table.WordRow.{WordRow}
use Rattle.rl_bus.specs.Setup.{stands_at, stands_for}
use Rattle.rl_map.specs.declared.word.Word.{Word}
use Rattle.rl_map.specs.declared.rows.PlaceRow.{PlaceRow}
use Rattle.rl_map.specs.Level.{IsPath, root_bytes}
use Rattle.rl_map.specs.Access.{IsAligned}
use Rattle.rl_map.specs.Seat.{access_of}
use Rattle.rl_map.specs.Seat.{slots}
use Rattle.rl_map.specs.Words.{words_with, word_of, orders_below, no_word}
use Rattle.rl_map.proofs.Orders.{length-orders_below}
use Rattle.rl_map.specs.Partition.{IsWordOn}
use Rattle.rl_map.specs.Layout.{LayoutData, place_at, port_at, map_at, path_of, base_of, location_of, words_of, place_seats, row_of, cell_of, index_of, has_right}
use Rattle.rl_map.specs.Layout.{lets_through, standing, IsLocation, IsMapOf, IsPortOf, IsPlaceOf, HasWords, IsRowOf, Occupies, PlacedOnce, IsAscending, IsSound}
use Rattle.rl_map.specs.Maps.{location_rows, place_rows, all_rows}
use Rattle.rl_map.proofs.Partition.{words_partition}
use Rattle.rl_map.proofs.WordsApart.{words_apart}
use Rattle.rl_map.proofs.Reaching.{parts_from, reach_from}
use Rattle.rl_map.proofs.Fitting.{AreOn, words_fit}
use Rattle.rl_map.proofs.Lists.{filter_both, filter_flat, filter_mapped, filter_none, filter_same, flat_nothing, flat_one, all_flat, mapped_length}
use Rattle.rl_map.proofs.Bools.{and_true, at_zero, not_true, true_false}

pub record IsTested (l : LayoutData) : Type 0 where
  pub maps : length l.maps ≤ 64
  pub ports : length l.ports ≤ 64
  pub places : length l.places ≤ 4096
  pub kinds : length l.kinds < 2 ^ 32
  pub rows : length l.rows ≤ 1048576
  pub each_map : (m : ℕ) → m < length l.maps → IsMapOf l (map_at l m)
  pub each_port : (p : ℕ) → p < length l.ports → IsPortOf l (port_at l p)
  pub each_place : (p : ℕ) → p < length l.places → IsPlaceOf l (place_at l p)
  pub once : PlacedOnce l.places
  pub paths : (m : ℕ) → m < length l.maps → 0 < length (map_at l m).path
  pub narrow : (p : ℕ) → p < length l.ports → (port_at l p).bytes ≤ 8
  pub most : (p : ℕ) → p < length l.ports → (port_at l p).kind.most_address < 2 ^ 64
  pub on : (p i : ℕ) → IsLocation l p i → AreOn (path_of l p) (base_of l p) (location_of (place_at l p) i) (port_at l (place_at l p).port).kind (port_at l (place_at l p).port).bytes
  pub straight : (p i j : ℕ) → IsLocation l p i → j < (place_at l p).bytes → IsAligned (access_of (location_of (place_at l p) i) j) (path_of l p)

-- two places that may not share an address
abbrev pub may_not : PlaceRow → PlaceRow → Type 0
may_not p q = ((write : Bool) × (has_right p.rights write ≡ true) × (has_right q.rights write ≡ true)) ⊎ (p.fifo ≡ true) ⊎ (q.fifo ≡ true)

-- words of two places at one address of a port
pub record IsShared (l : LayoutData) (p i k q j m : ℕ) : Type 0 where
  pub here : IsLocation l p i
  pub here_in : k < length (words_of l p i)
  pub there : IsLocation l q j
  pub there_in : m < length (words_of l q j)
  pub port : (place_at l p).port ≡ (place_at l q).port
  pub address : (get_or (words_of l p i) k no_word).address ≡ (get_or (words_of l q j) m no_word).address

abbrev pub NoneClash : LayoutData → Type 0
NoneClash l = (p i k q j m : ℕ) → IsShared l p i k q j m → may_not (place_at l p) (place_at l q) → p ≡ q

-- the rows of an address are those of all places there, in their order
abbrev pub KeepsOrder : LayoutData → Type 0
KeepsOrder l = (port address : ℕ) → address < 2 ^ 64 → filter (stands_at port address) l.rows ≡ filter (stands_at port address) (all_rows l)

-- ---- a location by itself

pub is_path : (l : LayoutData) → IsTested l → (p : ℕ) → p < length l.places → IsPath (path_of l p)
is_path l t p low = (t.each_map (place_at l p).map (t.each_place p low).map).path

root_is : (l : LayoutData) → IsTested l → (p : ℕ) → p < length l.places → root_bytes (path_of l p) ≡ (port_at l (place_at l p).port).bytes
root_is l t p low =
    let m = t.each_map (place_at l p).map (t.each_place p low).map in
    m.root ∙ ap (λ port. (port_at l port).bytes) (sym (t.each_place p low).port)

word_on : (l : LayoutData) → IsTested l → (p i : ℕ) → IsLocation l p i → (k : ℕ) → k < length (words_of l p i)
    → IsWordOn (port_at l (place_at l p).port).kind (port_at l (place_at l p).port).bytes (get_or (words_of l p i) k no_word)
unfolding words_of
word_on l t p i loc k inside =
    let low = loc.place_in in
    let place = t.each_place p low in
    let root = root_is l t p low in
    let narrow = t.narrow (place_at l p).port place.port_in in
    let on = t.on p i loc in
    subst (λ n. IsWordOn (port_at l (place_at l p).port).kind n (get_or (words_of l p i) k no_word)) root
    (words_fit (path_of l p) (base_of l p) (location_of (place_at l p) i) (port_at l (place_at l p).port).kind (is_path l t p low) place.most
    (t.paths (place_at l p).map place.map) (omega (arith, root, narrow))
    (subst (λ n. AreOn (path_of l p) (base_of l p) (location_of (place_at l p) i) (port_at l (place_at l p).port).kind n) (sym root) on) k inside)

word_low : (l : LayoutData) → IsTested l → (p i : ℕ) → IsLocation l p i → (k : ℕ) → k < length (words_of l p i) → (get_or (words_of l p i) k no_word).address < 2 ^ 64
word_low l t p i loc k inside =
    omega (arith, (word_on l t p i loc k inside).address, t.most (place_at l p).port (t.each_place p loc.place_in).port_in)

fifo_one : (l : LayoutData) → IsTested l → (p : ℕ) → p < length l.places → (place_at l p).fifo ≡ true → (place_at l p).size ≡ 1
fifo_one l t p low e = by (place_at l p).item refl
  where
    by : (it : Item) → (place_at l p).item ≡ it → (place_at l p).size ≡ 1
    by (item.Reg r) h = (t.each_place p low).reg r h
    by (item.Mem m) h = absurd (true_false (place_at l p).fifo e ((t.each_place p low).mem m h))

index_is : (l : LayoutData) → IsTested l → (p i : ℕ) → IsLocation l p i → index_of (cell_of (place_at l p).item i) ≡ i
index_is l t p i loc = by (place_at l p).item refl
  where
    by : (it : Item) → (place_at l p).item ≡ it → index_of (cell_of it i) ≡ i
    by (item.Reg r) h = omega (arith, (t.each_place p loc.place_in).reg r h, loc.index_in)
    by (item.Mem m) h = refl

-- words of one place at one address are one word, where no map is a FIFO
plain_same : (l : LayoutData) → IsTested l → (p i j : ℕ) → IsLocation l p i → IsLocation l p j → (place_at l p).fifo ≡ false → (k m : ℕ)
    → k < length (words_of l p i) → m < length (words_of l p j) → (get_or (words_of l p i) k no_word).address ≡ (get_or (words_of l p j) m no_word).address → (i ≡ j) × (k ≡ m)
unfolding words_of
plain_same l t p i j here there plain k m a b e =
    let place = t.each_place p here.place_in in
    words_apart (path_of l p) (base_of l p) (location_of (place_at l p) i) (is_path l t p here.place_in) place.most (sym place.fifo ∙ plain) i j k m
    (λ x low. t.straight p i x here low) (λ x low. t.straight p j x there low) a b e

-- and of one location in any case
same_location : (l : LayoutData) → IsTested l → (p i j : ℕ) → IsLocation l p i → IsLocation l p j → (k m : ℕ)
    → k < length (words_of l p i) → m < length (words_of l p j) → (get_or (words_of l p i) k no_word).address ≡ (get_or (words_of l p j) m no_word).address → i ≡ j
same_location l t p i j here there k m a b e = by (place_at l p).fifo refl
  where
    by : (f : Bool) → (place_at l p).fifo ≡ f → i ≡ j
    by true h = omega (arith, fifo_one l t p here.place_in h, here.index_in, there.index_in)
    by false h = (plain_same l t p i j here there h k m a b e).0

-- ---- rows

all_mapped : {X Y : Type 0} (f : X → Y) (P : Y → Type 0) (xs : List X) (d : X) → ((k : ℕ) → k < length xs → P (f (get_or xs k d))) → AllByRecursion P (map f xs)
all_mapped f P [] d h = tt
all_mapped f P (x ∷ xs) d h = (h 0 (omega arith), all_mapped f P xs d (λ k low. h (suc k) (omega arith)))

row_is : (l : LayoutData) → IsTested l → (p i : ℕ) → IsLocation l p i → (k : ℕ) → k < length (words_of l p i) → IsRowOf l (row_of l p i (get_or (words_of l p i) k no_word))
row_is l t p i loc k inside =
    let e = sym (index_is l t p i loc) in
    record {
      location = subst (λ j. IsLocation l p j) e loc;
      low = word_low l t p i loc k inside;
      number = k;
      number_in = subst (λ j. k < length (words_of l p j)) e inside;
      row = ap (λ j. row_of l p j (get_or (words_of l p j) k no_word)) e;
    }

pub all_rows_are : (l : LayoutData) → IsTested l → AllByRecursion (IsRowOf l) (all_rows l)
all_rows_are l t =
    all_flat (place_rows l) (IsRowOf l) 0 (length l.places) (λ p low_p. subst (λ x. AllByRecursion (IsRowOf l) (place_rows l x)) (sym (at_zero p))
    (all_flat (location_rows l p) (IsRowOf l) 0 (place_at l p).size (λ i low_i. subst (λ x. AllByRecursion (IsRowOf l) (location_rows l p x)) (sym (at_zero i))
    (all_mapped (row_of l p i) (IsRowOf l) (words_of l p i) no_word (λ k inside. row_is l t p i (record { place_in = low_p; index_in = low_i }) k inside)))))

-- ---- what stands at an address

right_is : (l : LayoutData) (p i : ℕ) (w : Word) (write : Bool) → lets_through write (row_of l p i w) ≡ has_right (place_at l p).rights write
right_is l p i w true = refl
right_is l p i w false = refl

-- a row of the place that passes
pub record Passing (l : LayoutData) (p i : ℕ) (w : Word) (port address : ℕ) (write : Bool) : Type 0 where
  pub port_is : (place_at l p).port ≡ port
  pub address_is : w.address ≡ address
  pub right : has_right (place_at l p).rights write ≡ true

passing : (l : LayoutData) (p i : ℕ) (w : Word) (port address : ℕ) (write : Bool) → stands_for port address write (row_of l p i w) ≡ true → Passing l p i w port address write
passing l p i w port address write e =
    let a = and_true (stands_at port address (row_of l p i w)) (lets_through write (row_of l p i w)) e in
    let b = and_true ((place_at l p).port == port) (w.address == address) a.0 in
    record { port_is = eqb-true _ _ b.0; address_is = eqb-true _ _ b.1; right = sym (right_is l p i w write) ∙ a.1 }

passes : (l : LayoutData) (p i : ℕ) (w : Word) (address : ℕ) (write : Bool) → has_right (place_at l p).rights write ≡ true
    → stands_for (place_at l p).port address write (row_of l p i w) ≡ (w.address == address)
passes l p i w address write e =
    ap (λ t. (t && (w.address == address)) && lets_through write (row_of l p i w)) (eq-eqb (place_at l p).port _ refl)
    ∙ ap (λ t. (w.address == address) && t) (right_is l p i w write ∙ e) ∙ and_right (w.address == address)
  where
    and_right : (b : Bool) → (b && true) ≡ b
    and_right true = refl
    and_right false = refl

all_same : (l : LayoutData) (p i address : ℕ) (write : Bool) → has_right (place_at l p).rights write ≡ true → (ws : List Word)
    → AllByRecursion (λ w. stands_for (place_at l p).port address write (row_of l p i w) ≡ (w.address == address)) ws
all_same l p i address write e [] = tt
all_same l p i address write e (w ∷ ws) = (passes l p i w address write e, all_same l p i address write e ws)

standing_in_all : (l : LayoutData) → KeepsOrder l → (port address : ℕ) (write : Bool) → address < 2 ^ 64
    → standing l port address write ≡ filter (stands_for port address write) (all_rows l)
standing_in_all l keeps port address write low =
    filter_both (stands_at port address) (lets_through write) l.rows
    ∙ ap (filter (lets_through write)) (keeps port address low)
    ∙ sym (filter_both (stands_at port address) (lets_through write) (all_rows l))

-- those at the address of a word, in a direction of its place, are the words of its location there
found_of : (l : LayoutData) → IsTested l → NoneClash l → KeepsOrder l → (p i : ℕ) → IsLocation l p i → (write : Bool) (k : ℕ) → k < length (words_of l p i)
    → has_right (place_at l p).rights write ≡ true
    → let address = (get_or (words_of l p i) k no_word).address in
    standing l (place_at l p).port address write ≡ map (row_of l p i) (words_with address (words_of l p i))
found_of l t none keeps p i loc write k inside right =
    let a = (get_or (words_of l p i) k no_word).address in
    let port = (place_at l p).port in
    let T : WordRow → Bool = stands_for port a write in
    let shut : (q j : ℕ) → IsLocation l q j → ((m : ℕ) → m < length (words_of l q j) → Passing l q j (get_or (words_of l q j) m no_word) port a write → ⊥) → filter T (location_rows l q j) ≡ [] =
    λ q j there h. filter_none T (location_rows l q j)
    (all_mapped (row_of l q j) (λ r. T r ≡ false) (words_of l q j) no_word
    (λ m low. not_true (T (row_of l q j (get_or (words_of l q j) m no_word))) (λ e. h m low (passing l q j (get_or (words_of l q j) m no_word) port a write e)))) in
    let other_place : (q : ℕ) → q < length l.places → q ≢ p → filter T (place_rows l q) ≡ [] =
    λ q low other. filter_flat T (location_rows l q) (range_with_len 0 (place_at l q).size)
    ∙ flat_nothing (λ j. filter T (location_rows l q j)) 0 (place_at l q).size (λ j low_j. subst (λ x. filter T (location_rows l q x) ≡ []) (sym (at_zero j))
    (shut q j (record { place_in = low; index_in = low_j })
    (λ m low_m pass. other (sym (none p i k q j m
    (record { here = loc; here_in = inside; there = record { place_in = low; index_in = low_j }; there_in = low_m; port = sym pass.port_is; address = sym pass.address_is })
    (inl (write, right, pass.right))))))) in
    let other_index : (j : ℕ) → j < (place_at l p).size → j ≢ i → filter T (location_rows l p j) ≡ [] =
    λ j low other. let there : IsLocation l p j = record { place_in = loc.place_in; index_in = low } in
    shut p j there (λ m low_m pass. other (same_location l t p j i there loc m k low_m inside pass.address_is)) in
    standing_in_all l keeps port a write (word_low l t p i loc k inside)
    ∙ filter_flat T (place_rows l) (range_with_len 0 (length l.places))
    ∙ flat_one (λ q. filter T (place_rows l q)) 0 (length l.places) p loc.place_in
    (λ q low other. subst (λ x. filter T (place_rows l x) ≡ []) (sym (at_zero q)) (other_place q low other))
    ∙ ap (λ x. filter T (place_rows l x)) (at_zero p)
    ∙ filter_flat T (location_rows l p) (range_with_len 0 (place_at l p).size)
    ∙ flat_one (λ j. filter T (location_rows l p j)) 0 (place_at l p).size i loc.index_in
    (λ j low other. subst (λ x. filter T (location_rows l p x) ≡ []) (sym (at_zero j)) (other_index j low other))
    ∙ ap (λ x. filter T (location_rows l p x)) (at_zero i)
    ∙ filter_mapped (row_of l p i) T (words_of l p i)
    ∙ ap (map (row_of l p i)) (filter_same (λ w. T (row_of l p i w)) (λ w. w.address == a) (words_of l p i) (all_same l p i a write right (words_of l p i)))

-- ---- as many of each direction

no_more : (a : ℕ) (ws : List Word) → ((k : ℕ) → k < length ws → (get_or ws k no_word).address ≢ a) → length (words_with a ws) ≡ 0
no_more a [] h = refl
no_more a (w ∷ ws) h =
    let here : (w.address == a) ≡ false = not_true (w.address == a) (λ e. h 0 (omega arith) (eqb-true w.address a e)) in
    rw here (no_more a ws (λ k low. h (suc k) (omega arith)))

one_at : (a : ℕ) (ws : List Word)
    → ((i k : ℕ) → i < length ws → k < length ws → (get_or ws i no_word).address ≡ (get_or ws k no_word).address → i ≡ k) → length (words_with a ws) ≤ 1
one_at a [] h = omega arith
one_at a (w ∷ ws) h = by (w.address == a) refl (one_at a ws (λ i k p q f. let s = h (suc i) (suc k) (omega arith) (omega arith) f in omega arith))
  where
    by : (t : Bool) → (w.address == a) ≡ t → length (words_with a ws) ≤ 1 → length (cond t (w ∷ words_with a ws) (words_with a ws)) ≤ 1
    by true e more =
        let none = no_more a ws (λ k low f. absurd (omega (arith, h 0 (suc k) (omega arith) (omega arith) (eqb-true w.address a e ∙ sym f)))) in
        omega (arith, none)
    by false e more = more

-- the head of what passes
head_of : (T : WordRow → Bool) (P : WordRow → Type 0) (rows : List WordRow) → AllByRecursion P rows → 0 < length (filter T rows) → (r : WordRow) × P r × (T r ≡ true)
head_of T P [] h some = absurd (omega arith)
head_of T P (r ∷ rows) h some = by (T r) refl some (head_of T P rows h.1)
  where
    by : (t : Bool) → T r ≡ t → 0 < length (cond t (r ∷ filter T rows) (filter T rows)) → (0 < length (filter T rows) → (r : WordRow) × P r × (T r ≡ true)) → (r : WordRow) × P r × (T r ≡ true)
    by true e more rest = (r, h.0, e)
    by false e more rest = rest more

-- who stands there
pub record Stander (l : LayoutData) (port address : ℕ) (write : Bool) : Type 0 where
  pub place : ℕ
  pub index : ℕ
  pub number : ℕ
  pub location : IsLocation l place index
  pub number_in : number < length (words_of l place index)
  pub pass : Passing l place index (get_or (words_of l place index) number no_word) port address write

stander : (l : LayoutData) → IsTested l → AllByRecursion (IsRowOf l) l.rows → (port address : ℕ) (write : Bool) → 0 < length (standing l port address write) → Stander l port address write
stander l t rows port address write some =
    let h = head_of (stands_for port address write) (IsRowOf l) l.rows rows some in
    let r = h.0 in
    let i = index_of r.cell in
    record {
      place = r.place;
      index = i;
      number = h.1.number;
      location = h.1.location;
      number_in = h.1.number_in;
      pass = passing l r.place i (get_or (words_of l r.place i) h.1.number no_word) port address write (subst (λ x. stands_for port address write x ≡ true) h.1.row h.2);
    }

stander_count : (l : LayoutData) → IsTested l → NoneClash l → KeepsOrder l → (port address : ℕ) (write : Bool) → (s : Stander l port address write)
    → length (standing l port address write) ≡ length (words_with address (words_of l s.place s.index))
stander_count l t none keeps port address write s =
    let a = (get_or (words_of l s.place s.index) s.number no_word).address in
    let found = found_of l t none keeps s.place s.index s.location write s.number s.number_in s.pass.right in
    let at : standing l port address write ≡ map (row_of l s.place s.index) (words_with address (words_of l s.place s.index)) =
    subst (λ x. standing l port x write ≡ map (row_of l s.place s.index) (words_with x (words_of l s.place s.index))) s.pass.address_is
    (subst (λ x. standing l x a write ≡ map (row_of l s.place s.index) (words_with a (words_of l s.place s.index))) s.pass.port_is found) in
    ap length at ∙ mapped_length (row_of l s.place s.index) (words_with address (words_of l s.place s.index))

alone_of : (l : LayoutData) → IsTested l → (p i : ℕ) → IsLocation l p i → (place_at l p).fifo ≡ false → (k m : ℕ) → k < length (words_of l p i) → m < length (words_of l p i)
    → (get_or (words_of l p i) k no_word).address ≡ (get_or (words_of l p i) m no_word).address → k ≡ m
alone_of l t p i loc plain k m a b e = (plain_same l t p i i loc loc plain k m a b e).1

two_ways : {X : Type 0} (f g : Bool) → (f ≡ true → X) → (g ≡ true → X) → (f ≡ false → g ≡ false → X) → X
two_ways true g a b c = a refl
two_ways false true a b c = b refl
two_ways false false a b c = c refl refl

even_of : (l : LayoutData) → IsTested l → NoneClash l → KeepsOrder l → AllByRecursion (IsRowOf l) l.rows → (port address : ℕ) (one other : Bool)
    → 0 < length (standing l port address one) → 0 < length (standing l port address other)
    → length (standing l port address one) ≡ length (standing l port address other)
even_of l t none keeps rows port address one other some_a some_b =
    let a = stander l t rows port address one some_a in
    let b = stander l t rows port address other some_b in
    let count_a = stander_count l t none keeps port address one a in
    let count_b = stander_count l t none keeps port address other b in
    let shared : IsShared l a.place a.index a.number b.place b.index b.number =
    record { here = a.location; here_in = a.number_in; there = b.location; there_in = b.number_in; port = a.pass.port_is ∙ sym b.pass.port_is; address = a.pass.address_is ∙ sym b.pass.address_is } in
    let same : a.place ≡ b.place → length (standing l port address one) ≡ length (standing l port address other) =
    λ e. let there : IsLocation l a.place b.index = subst (λ x. IsLocation l x b.index) (sym e) b.location in
    let index = same_location l t a.place a.index b.index a.location there a.number b.number a.number_in
    (subst (λ x. b.number < length (words_of l x b.index)) (sym e) b.number_in)
    (a.pass.address_is ∙ sym b.pass.address_is ∙ ap (λ x. (get_or (words_of l x b.index) b.number no_word).address) (sym e)) in
    count_a ∙ ap (λ x. length (words_with address (words_of l x a.index))) e ∙ ap (λ x. length (words_with address (words_of l b.place x))) index ∙ sym count_b in
    let fifo_a : (place_at l a.place).fifo ≡ true → a.place ≡ b.place = λ f. none a.place a.index a.number b.place b.index b.number shared (inr (inl f)) in
    let fifo_b : (place_at l b.place).fifo ≡ true → a.place ≡ b.place = λ f. none a.place a.index a.number b.place b.index b.number shared (inr (inr f)) in
    let single_a : (place_at l a.place).fifo ≡ false → length (words_with address (words_of l a.place a.index)) ≤ 1 =
    λ f. one_at address (words_of l a.place a.index) (alone_of l t a.place a.index a.location f) in
    let single_b : (place_at l b.place).fifo ≡ false → length (words_with address (words_of l b.place b.index)) ≤ 1 =
    λ f. one_at address (words_of l b.place b.index) (alone_of l t b.place b.index b.location f) in
    two_ways (place_at l a.place).fifo (place_at l b.place).fifo (λ f. same (fifo_a f)) (λ f. same (fifo_b f))
    (λ f g. omega (arith, count_a, count_b, single_a f, single_b g, some_a, some_b))

-- ---- who stands at an address of a FIFO path

owner_of : (l : LayoutData) → IsTested l → NoneClash l → (port address p i q j : ℕ) → Occupies l port address p i → Occupies l port address q j
    → (place_at l p).fifo ≡ true → (p ≡ q) × (i ≡ j)
owner_of l t none port address p i q j a b fifo =
    let shared : IsShared l p i a.number q j b.number =
    record { here = a.location; here_in = a.number_in; there = b.location; there_in = b.number_in; port = a.port_is ∙ sym b.port_is; address = a.address_is ∙ sym b.address_is } in
    let same : p ≡ q = none p i a.number q j b.number shared (inr (inl fifo)) in
    let there : IsLocation l p j = subst (λ x. IsLocation l x j) (sym same) b.location in (
      same,
      same_location l t p i j a.location there a.number b.number a.number_in
          (subst (λ x. b.number < length (words_of l x j)) (sym same) b.number_in)
          (a.address_is ∙ sym b.address_is ∙ ap (λ x. (get_or (words_of l x j) b.number no_word).address) (sym same)),
    )

-- ---- the whole

few_words : (l : LayoutData) → IsTested l → (p i : ℕ) → IsLocation l p i → (0 < length (words_of l p i)) × (length (words_of l p i) ≤ 8)
unfolding words_of
few_words l t p i loc =
    let place = t.each_place p loc.place_in in
    let seats = place_seats l p i in
    let long : length seats ≡ (place_at l p).bytes = length-map-range_with_len _ 0 (place_at l p).bytes in
    let whole = words_partition (path_of l p) (base_of l p) (location_of (place_at l p) i) (is_path l t p loc.place_in) place.most in
    let few = length-orders_below seats (slots (place_at l p).bytes (path_of l p)) in
    let counted = mapped_length (word_of seats) (orders_below seats (slots (place_at l p).bytes (path_of l p))) in
    (omega (arith, (whole.placed 0 (omega (arith, long, place.some))).0), omega (arith, few, counted, long, place.most))

has_words : (l : LayoutData) → IsTested l → NoneClash l → KeepsOrder l → (p i : ℕ) → IsLocation l p i → HasWords l p i
unfolding words_of
has_words l t none keeps p i loc =
    let place = t.each_place p loc.place_in in
    let item = location_of (place_at l p) i in
    let long : length (place_seats l p i) ≡ (place_at l p).bytes = length-map-range_with_len _ 0 (place_at l p).bytes in
    let whole = words_partition (path_of l p) (base_of l p) item (is_path l t p loc.place_in) place.most in
    let few = few_words l t p i loc in
    record {
      some = few.0;
      few = few.1;
      fits = λ byte low. omega (arith, (t.on p i loc).address byte low, t.most (place_at l p).port place.port_in);
      on = λ k d inside. subst (λ w. IsWordOn (port_at l (place_at l p).port).kind (port_at l (place_at l p).port).bytes w)
          (same_default (words_of l p i) k no_word d inside) (word_on l t p i loc k inside);
      partition = whole;
      parts = parts_from (place_seats l p i) (words_of l p i) whole;
      reach = reach_from (place_seats l p i) (words_of l p i) (place_at l p).bytes long whole;
      found = found_of l t none keeps p i loc;
      alone = alone_of l t p i loc;
    }
  where
    same_default : (ws : List Word) (k : ℕ) (d e : Word) → k < length ws → get_or ws k d ≡ get_or ws k e
    same_default [] k d e low = absurd (omega arith)
    same_default (w ∷ ws) zero d e low = refl
    same_default (w ∷ ws) (suc k) d e low = same_default ws k d e (omega arith)

pub sound_of : (l : LayoutData) → IsTested l → NoneClash l → KeepsOrder l → IsPermutation (all_rows l) l.rows → IsAscending l.rows → IsSound l
sound_of l t none keeps moved ascending =
    let rows = All-permutation (IsRowOf l) (all_rows l) l.rows moved (All-from_recursion (IsRowOf l) (all_rows l) (all_rows_are l t)) in
    record {
      maps = t.maps;
      ports = t.ports;
      places = t.places;
      kinds = t.kinds;
      rows = t.rows;
      each_map = t.each_map;
      each_port = t.each_port;
      each_place = t.each_place;
      once = t.once;
      ascending = ascending;
      each_row = rows;
      each_location = has_words l t none keeps;
      even = even_of l t none keeps (recursion_from_All (IsRowOf l) l.rows rows);
      owner = owner_of l t none;
    }
