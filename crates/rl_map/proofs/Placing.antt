-- One place more.
use Rattle.std.proofs.Common.{◌≡◌, ℕ, zero, suc, ◌+◌, ◌*◌, ◌^◌, ◌<◌, ◌≤◌, ◌⊎◌, inl, inr, Bool, true, false, eq-eqb, List, [], ◌∷◌, ◌++◌, length, get_or, map, refl, sym, ap, ◌∙◌, subst, arith}
use Rattle.std.specs.Prelude.{flat_map, IsPermutation}
use Rattle.std.specs.List.{list_any, range_with_len, AllByRecursion}
use Rattle.std.proofs.Common.{length-append}
use Rattle.std.proofs.lemmas.List.Elements.{All-push, All-from_recursion}
use Rattle.std.proofs.lemmas.List.Sorted.{All-permutation}
use Rattle.std.proofs.lemmas.Bool.{cases_lt}
use Rattle.std.proofs.lemmas.List.{get_or_append_left}
use Rattle.std.proofs.Math.Seq.{get_or-append_seam}
use Rattle.rl_model.specs.declared.rows.Item.{Item}
use Rattle.rl_model.specs.declared.rows.Item.TheVariants as item
use Rattle.rl_model.specs.Rows.{ChipData}
use Rattle.rl_bus.specs.declared.table.WordRow.{WordRow}
use Rattle.rl_map.specs.declared.path.Level.{Level}
use Rattle.rl_map.specs.declared.word.Word.{Word}
use Rattle.rl_map.specs.declared.rows.MapRow.{MapRow}
use Rattle.rl_map.specs.declared.rows.PortRow.{PortRow}
use Rattle.rl_map.specs.declared.rows.PlaceRow.{PlaceRow}
use Rattle.rl_map.specs.Seat.{AddressesFit}
use Rattle.rl_map.specs.Words.{item_words}
use Rattle.rl_map.specs.Layout.{no_map, no_port, no_place, location_of, word_row, same_item, PlacedOnce}
use Rattle.rl_map.specs.Faults.{is_above, is_same_place, is_placed}
use Rattle.rl_map.specs.Building.{path_in, port_for, placed_in, placed_at, IsPlaceRow, IsSeated, HasRoom, ArePlaces, AreRowsOf, location_rows_of, rows_of, rows_of_all}
use Rattle.rl_map.proofs.Fitting.{as_many}
use Rattle.rl_map.proofs.Lookups.{read_is}
use Rattle.rl_map.proofs.Growing.{none_of, rows_more, flat_more}
use Rattle.std.proofs.Common.{map as mapped}
use Rattle.rl_map.proofs.Bools.{or_false, ge_from}
use Rattle.rl_map.proofs.Lists.{all_appended, append_twice, mapped_length}

pub room_is : (maps : List MapRow) (ports : List PortRow) (words : ℕ) (p : PlaceRow) (map : MapRow) (port : PortRow) (path : List Level)
    → p.map < length maps → p.port < length ports → map ≡ get_or maps p.map map → port ≡ get_or ports p.port port → path ≡ map.path
    → words + p.size * length (item_words path port.base (location_of p 0)) ≤ 1048576 → IsSeated (placed_at p path port) → HasRoom maps ports words p
room_is maps ports words p map port path low_m low_p a b e room seated =
    let path_is : path ≡ path_in maps p = e ∙ ap (λ (m : MapRow). m.path) (read_is maps p.map map no_map low_m a) in
    let port_is : port ≡ port_for ports p = read_is ports p.port port no_port low_p b in
    record {
      room = subst (λ x. words + p.size * length (item_words (path_in maps p) x.base (location_of p 0)) ≤ 1048576) port_is
          (subst (λ x. words + p.size * length (item_words x port.base (location_of p 0)) ≤ 1048576) path_is room);
      seated = subst (λ x. IsSeated (placed_at p (path_in maps p) x)) port_is (subst (λ x. IsSeated (placed_at p x port)) path_is seated);
    }

pub fits_of : (maps : List MapRow) (ports : List PortRow) (p : PlaceRow) → IsSeated (placed_in maps ports p) → (port_for ports p).kind.most_address < 2 ^ 64
    → (index : ℕ) → index < p.size → AddressesFit (path_in maps p) (port_for ports p).base (location_of p index)
fits_of maps ports p seated most index low byte in_byte =
    let test = is_above (placed_in maps ports p) in
    let under = none_of (test index) p.bytes (none_of (λ i. list_any (test i) (range_with_len 0 p.bytes)) p.size seated.low index low) byte in_byte in
    omega (arith, ge_from _ _ under, most)

-- ---- rows

flat_length : {Y : Type 0} (f : ℕ → List Y) (first n c : ℕ) → ((j : ℕ) → length (f j) ≡ c) → length (flat_map f (range_with_len first n)) ≡ n * c
flat_length f first zero c h = omega arith
flat_length f first (suc n) c h = omega (arith, length-append (f first) (flat_map f (range_with_len (first + 1) n)), h first, flat_length f (first + 1) n c h)

pub length-rows_of : (maps : List MapRow) (ports : List PortRow) (number : ℕ) (p : PlaceRow)
    → length (rows_of maps ports number p) ≡ p.size * length (item_words (path_in maps p) (port_for ports p).base (location_of p 0))
length-rows_of maps ports number p =
    let path = path_in maps p in
    let base = (port_for ports p).base in
    flat_length (location_rows_of maps ports number p) 0 p.size (length (item_words path base (location_of p 0)))
    (λ j. mapped_length (word_row p number j) (item_words path base (location_of p j)) ∙ as_many path base base (location_of p 0) j 0)

-- ---- an item has one place in a map

not_any : {X : Type 0} (t : X → Bool) (xs : List X) (i : ℕ) (d : X) → list_any t xs ≡ false → i < length xs → t (get_or xs i d) ≡ false
not_any t [] i d e low = absurd (omega arith)
not_any t (x ∷ xs) zero d e low = (or_false (t x) (list_any t xs) e).0
not_any t (x ∷ xs) (suc i) d e low = not_any t xs i d (or_false (t x) (list_any t xs) e).1 (omega arith)

same_self : (it : Item) → same_item it it ≡ true
same_self (item.Reg r) = eq-eqb r r refl
same_self (item.Mem m) = eq-eqb m m refl

is_same : (p q : PlaceRow) → p.item ≡ q.item → p.map ≡ q.map → is_same_place p q ≡ true
is_same p q e f = rw (eq-eqb p.map q.map f) (subst (λ it. same_item p.item it ≡ true) e (same_self p.item))

pub once_more : (places : List PlaceRow) (row : PlaceRow) → PlacedOnce places → is_placed places row ≡ false → PlacedOnce (places ++ row ∷ [])
once_more places row once new p q low_p low_q = by (cases_lt p (length places)) (cases_lt q (length places))
  where
    At : ℕ → PlaceRow
    At n = get_or (places ++ row ∷ []) n no_place

    end : (n : ℕ) → n < length (places ++ row ∷ []) → length places ≤ n → n ≡ length places
    end n low high = omega (arith, length-append places (row ∷ []))

    old : (n : ℕ) → n < length places → At n ≡ get_or places n no_place
    old n low = get_or_append_left places (row ∷ []) no_place n low

    last : (n : ℕ) → n ≡ length places → At n ≡ row
    last n e = ap At e ∙ get_or-append_seam places row [] no_place

    clash : (n : ℕ) → n < length places → (get_or places n no_place).item ≡ row.item → (get_or places n no_place).map ≡ row.map → ⊥
    clash n low e f = let h = not_any (λ q. is_same_place q row) places n no_place new low in absurd (let g = is_same (get_or places n no_place) row e f in cc)

    by : (p < length places) ⊎ (length places ≤ p) → (q < length places) ⊎ (length places ≤ q) → (At p).item ≡ (At q).item → (At p).map ≡ (At q).map → p ≡ q
    by (inl a) (inl b) e f =
        once p q a b (ap (λ (r : PlaceRow). r.item) (sym (old p a)) ∙ e ∙ ap (λ (r : PlaceRow). r.item) (old q b))
        (ap (λ (r : PlaceRow). r.map) (sym (old p a)) ∙ f ∙ ap (λ (r : PlaceRow). r.map) (old q b))
    by (inl a) (inr b) e f =
        let there = last q (end q low_q b) in
        absurd (clash p a (ap (λ (r : PlaceRow). r.item) (sym (old p a)) ∙ e ∙ ap (λ (r : PlaceRow). r.item) there)
        (ap (λ (r : PlaceRow). r.map) (sym (old p a)) ∙ f ∙ ap (λ (r : PlaceRow). r.map) there))
    by (inr a) (inl b) e f =
        let here = last p (end p low_p a) in
        absurd (clash q b (ap (λ (r : PlaceRow). r.item) (sym (old q b)) ∙ sym e ∙ ap (λ (r : PlaceRow). r.item) here)
        (ap (λ (r : PlaceRow). r.map) (sym (old q b)) ∙ sym f ∙ ap (λ (r : PlaceRow). r.map) here))
    by (inr a) (inr b) e f = end p low_p a ∙ sym (end q low_q b)

pub places_more : (chip : ChipData) (maps : List MapRow) (ports : List PortRow) (places : List PlaceRow) (rows : List WordRow) (p : PlaceRow) (number words : ℕ)
    (seen places' : List PlaceRow) (rows' : List WordRow)
    → ArePlaces chip maps ports places rows → IsPlaceRow chip maps ports p → HasRoom maps ports words p → seen ≡ places → length seen < 4096
    → is_placed seen p ≡ false
    → number ≡ length places → words ≡ length rows → places' ≡ places ++ p ∷ [] → rows' ≡ rows ++ rows_of maps ports number p
    → ArePlaces chip maps ports places' rows'
places_more chip maps ports places rows p number words seen places' rows' t fits room see few new a b e f =
    let all : rows' ≡ rows_of_all maps ports (places ++ p ∷ []) =
    f ∙ ap (λ n. rows ++ rows_of maps ports n p) a ∙ ap (λ x. x ++ rows_of maps ports (length places) p) t.words_are ∙ sym (rows_more maps ports places p) in
    let long : length rows' ≡ length rows + length (rows_of maps ports number p) = ap length f ∙ length-append rows (rows_of maps ports number p) in
    subst (λ x. ArePlaces chip maps ports x rows') (sym e) (record {
      few = omega (arith, length-append places (p ∷ []), ap length see);
      once = once_more places p t.once (subst (λ x. is_placed x p ≡ false) see new);
      each = All-push (IsPlaceRow chip maps ports) places p t.each fits;
      seated = All-push (λ q. IsSeated (placed_in maps ports q)) places p t.seated room.seated;
      words_are = all;
      few_words = omega (arith, long, length-rows_of maps ports number p, room.room, b);
    })

-- the rows of one location more
pub location_more : (maps : List MapRow) (ports : List PortRow) (number : ℕ) (p : PlaceRow) (i : ℕ) (old rows rows' : List WordRow) (words : List Word)
    → rows ≡ old ++ flat_map (location_rows_of maps ports number p) (range_with_len 0 i)
    → rows' ≡ rows ++ mapped (word_row p number i) words → words ≡ item_words (path_in maps p) (port_for ports p).base (location_of p i)
    → rows' ≡ old ++ flat_map (location_rows_of maps ports number p) (range_with_len 0 (i + 1))
location_more maps ports number p i old rows rows' words was now e =
    let f = location_rows_of maps ports number p in
    now ∙ ap (λ ws. rows ++ mapped (word_row p number i) ws) e
    ∙ ap (λ x. x ++ f i) was
    ∙ append_twice old (flat_map f (range_with_len 0 i)) (f i)
    ∙ ap (λ x. old ++ x) (sym (flat_more f i))

-- ---- the places of rows

all_mapped : {X Y : Type 0} (f : X → Y) (P : Y → Type 0) (xs : List X) → ((x : X) → P (f x)) → AllByRecursion P (map f xs)
all_mapped f P [] h = tt
all_mapped f P (x ∷ xs) h = (h x, all_mapped f P xs h)

all_flat : {Y : Type 0} (f : ℕ → List Y) (P : Y → Type 0) (first n : ℕ) → ((j : ℕ) → first ≤ j → j < first + n → AllByRecursion P (f j)) → AllByRecursion P (flat_map f (range_with_len first n))
all_flat f P first zero h = tt
all_flat f P first (suc n) h =
    all_appended P (f first) (flat_map f (range_with_len (first + 1) n)) (h first (omega arith) (omega arith))
    (all_flat f P (first + 1) n (λ j low high. h j (omega arith) (omega arith)))

pub rows_in : (chip : ChipData) (maps : List MapRow) (ports : List PortRow) (places : List PlaceRow) (first rows : List WordRow)
    → ArePlaces chip maps ports places first → IsPermutation first rows → AreRowsOf places rows
rows_in chip maps ports places first rows t moved =
    let P : WordRow → Type 0 = λ r. r.place < length places in
    let all : AllByRecursion P (rows_of_all maps ports places) =
    all_flat (λ q. rows_of maps ports q (get_or places q no_place)) P 0 (length places) (λ q low high.
    all_flat (location_rows_of maps ports q (get_or places q no_place)) P 0 (get_or places q no_place).size (λ i low_i high_i.
    all_mapped (word_row (get_or places q no_place) q i) P
    (item_words (path_in maps (get_or places q no_place)) (port_for ports (get_or places q no_place)).base (location_of (get_or places q no_place) i)) (λ w. omega arith))) in
    All-permutation P first rows moved (All-from_recursion P first (subst (AllByRecursion P) (sym t.words_are) all))
