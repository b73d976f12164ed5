-- A layout that was built is sound.
use Rattle.std.proofs.Common.{◌≡◌, ◌≢◌, ℕ, zero, suc, ◌+◌, ◌*◌, ◌%◌, ◌^◌, ◌<◌, ◌⊎◌, inl, inr, Bool, true, false, not, ◌==◌, ◌&&◌, ◌||◌}
use Rattle.std.proofs.Common.{cond, List, [], ◌∷◌, length, get_or, map, nat_lt, refl, sym, ap, ◌∙◌, subst, arith, eq-eqb, eqb-true}
use Rattle.std.specs.Prelude.{All, filter, flat_map, Contains, IsPermutation}
use Rattle.std.specs.List.{list_any, range_with_len, AllByRecursion}
use Rattle.std.specs.List.Sorted.{IsStableByKey}
use Rattle.std.specs.Ordering.{nat_cmp, is_lt}
use Rattle.std.specs.declared.cmp.Ordering.TheVariants.{Less, Equal, Greater}
use Rattle.std.proofs.lemmas.List.Elements.{Contains-append_left, Contains-append_right, All-from_recursion}
use Rattle.std.proofs.lemmas.List.Sorted.{Contains-permutation, length_permutation, All-permutation}
use Rattle.rl_model.specs.Rows.{ChipData}
use Rattle.rl_bus.specs.declared.op.AdapterKind.{AdapterKind}
use Rattle.rl_bus.specs.declared.table.WordRow.{WordRow}
use Rattle.rl_bus.specs.declared.table.Cell.TheVariants as cell
use Rattle.rl_map.specs.declared.path.Level.{Level}
use Rattle.rl_map.specs.declared.seat.Access.{Access}
use Rattle.rl_map.specs.declared.word.Word.{Word}
use Rattle.rl_map.specs.declared.rows.MapRow.{MapRow}
use Rattle.rl_map.specs.declared.rows.PortRow.{PortRow}
use Rattle.rl_map.specs.declared.rows.PlaceRow.{PlaceRow}
use Rattle.rl_map.specs.Access.{IsAligned, through}
use Rattle.rl_map.specs.Seat.{access_of}
use Rattle.rl_map.specs.Words.{no_word}
use Rattle.rl_map.specs.Layout.{LayoutData, no_map, no_port, no_place, place_at, port_at, path_of, location_of, words_of, row_of, has_right, key_of, IsLocation, IsRowOf, IsAscending, IsSound}
use Rattle.rl_map.specs.Maps.{location_rows, place_rows, all_rows}
use Rattle.rl_map.specs.Faults.{is_above, is_askew, is_unaligned}
use Rattle.rl_map.specs.Locations.{AreStraight}
use Rattle.rl_map.specs.Building.{IsPortRow, AreTables, IsPlaceRow, IsSeated, ArePlaces, path_in, placed_in, rows_of_all, rows_clash, NoRowsClash}
use Rattle.rl_map.proofs.Lists.{filter_same, mapped_length}
use Rattle.rl_map.proofs.Lookups.{default_any}
use Rattle.rl_map.proofs.Growing.{none_of}
use Rattle.rl_map.proofs.Sorting.{standing_by_key}
use Rattle.rl_map.proofs.Sound.{IsTested, NoneClash, KeepsOrder, may_not, all_rows_are, sound_of}
use Rattle.rl_map.proofs.Bools.{both, differ, ge_from, lt_false, lt_true, or_false, three, true_false}

-- ---- what the tests say

pub aligned_from : (b : Bool) (x : ℕ) → (b && not (x == 0)) ≡ false → b ≡ true → x ≡ 0
aligned_from true x e f = by (x == 0) refl e
  where
    by : (t : Bool) → (x == 0) ≡ t → not t ≡ false → x ≡ 0
    by true p q = eqb-true x 0 p
    by false p q = cc
aligned_from false x e f = cc

straight_step : (w l : Bool) (x : ℕ) → (not w && (l && not (x == 0))) ≡ false → w ≡ false → l ≡ true → x ≡ 0
straight_step true l x e f g = cc
straight_step false l x e f g = aligned_from l x e g

pub straight_from : (path : List Level) (a : Access) → is_askew a path ≡ false → IsAligned a path
straight_from [] a e = tt
straight_from (level ∷ up) a e =
    let h = or_false (not a.word && (level.word && not (a.address % a.bytes == 0))) (is_askew (through a level) up) e in
    (straight_step a.word level.word (a.address % a.bytes) h.0, straight_from up (through a level) h.1)

pub straight_of : (maps : List MapRow) (ports : List PortRow) (p : PlaceRow) → IsSeated (placed_in maps ports p) → AreStraight (path_in maps p) (location_of p 0) p.size
straight_of maps ports p seated index byte low low_byte =
    let test = is_unaligned (placed_in maps ports p) in
    let h = none_of (test index) p.bytes (none_of (λ i. list_any (test i) (range_with_len 0 p.bytes)) p.size seated.straight index low) byte low_byte in
    straight_from (path_in maps p) (access_of (location_of p index) byte) (or_false _ _ h).1

-- ---- the layout

abbrev pub built : List MapRow → List PlaceRow → List PortRow → List AdapterKind → List WordRow → LayoutData
built maps places ports kinds rows = record { maps = maps; places = places; ports = ports; kinds = kinds; rows = rows }

pub rows_same : (maps : List MapRow) (places : List PlaceRow) (ports : List PortRow) (kinds : List AdapterKind) (rows : List WordRow)
    → all_rows (built maps places ports kinds rows) ≡ rows_of_all maps ports places
unfolding words_of
rows_same maps places ports kinds rows = refl

pub tested : (chip : ChipData) (maps : List MapRow) (places : List PlaceRow) (ports : List PortRow) (kinds : List AdapterKind) (first rows : List WordRow)
    → AreTables kinds maps ports → ArePlaces chip maps ports places first → length kinds < 2 ^ 32 → length rows ≡ length first → IsTested (built maps places ports kinds rows)
tested chip maps places ports kinds first rows t p few same =
    let l = built maps places ports kinds rows in
    let placed : (q : ℕ) → q < length places → IsPlaceRow chip maps ports (place_at l q) = λ q low. p.each q no_place low in
    let port : (n : ℕ) → n < length ports → IsPortRow kinds (length maps) (port_at l n) = λ n low. t.each_port n no_port low in
    let low : (q i j : ℕ) → IsLocation l q i → j < (place_at l q).bytes → is_above (placed_in maps ports (place_at l q)) i j ≡ false =
    λ q i j loc in_j. none_of (is_above (placed_in maps ports (place_at l q)) i) (place_at l q).bytes
    (none_of (λ i. list_any (is_above (placed_in maps ports (place_at l q)) i) (range_with_len 0 (place_at l q).bytes)) (place_at l q).size
    (p.seated q no_place loc.place_in).low i loc.index_in) j in_j in
    let straight : (q i j : ℕ) → IsLocation l q i → j < (place_at l q).bytes → is_unaligned (placed_in maps ports (place_at l q)) i j ≡ false =
    λ q i j loc in_j. none_of (is_unaligned (placed_in maps ports (place_at l q)) i) (place_at l q).bytes
    (none_of (λ i. list_any (is_unaligned (placed_in maps ports (place_at l q)) i) (range_with_len 0 (place_at l q).bytes))
    (place_at l q).size (p.seated q no_place loc.place_in).straight i loc.index_in) j in_j in
    record {
      maps = t.few;
      ports = omega (arith, t.few, t.fewer);
      places = p.few;
      kinds = few;
      rows = omega (arith, same, p.few_words);
      each_map = λ m in_m. let h = t.each_map m no_map in_m in record { path = h.path; port = h.port; root = h.root };
      each_port = λ n in_n. let h = port n in_n in record { map = h.map; width = h.width; wide = h.wide; adapter = h.adapter; adapter_in = h.adapter_in };
      each_place = λ q in_q. let r = placed q in_q in let h = r.placed in
          record { map = h.map; port = h.port; port_in = r.port_in; some = h.some; most = h.most; size = h.size; sizes = h.sizes; reg = h.reg; fifo = h.fifo; mem = r.mem };
      once = p.once;
      paths = λ m in_m. (t.each_map m no_map in_m).some;
      narrow = λ n in_n. (port n in_n).narrow;
      most = λ n in_n. (port n in_n).most;
      on = λ q i loc. record {
        address = λ j in_j. ge_from _ _ (low q i j loc in_j);
        aligned = λ j in_j on. let h = or_false _ _ (straight q i j loc in_j) in aligned_from _ _ h.0 on;
      };
      straight = λ q i j loc in_j. let h = or_false _ _ (straight q i j loc in_j) in straight_from (path_of l q) (access_of (location_of (place_at l q) i) j) h.1;
    }

-- ---- two rows of one address

contains_flat : {Y : Type 0} (f : ℕ → List Y) (first n j : ℕ) (y : Y) → j < n → Contains (f (first + j)) y → Contains (flat_map f (range_with_len first n)) y
contains_flat f first zero j y low h = absurd (omega arith)
contains_flat f first (suc n) zero y low h =
    Contains-append_left (f first) (flat_map f (range_with_len (first + 1) n)) y (subst (λ k. Contains (f k) y) (let e : first + 0 ≡ first = omega arith in e) h)
contains_flat f first (suc n) (suc j) y low h =
    Contains-append_right (f first) (flat_map f (range_with_len (first + 1) n)) y
    (contains_flat f (first + 1) n j y (omega arith) (subst (λ k. Contains (f k) y) (let e : first + suc j ≡ first + 1 + j = omega arith in e) h))

mapped_at : {X Y : Type 0} (f : X → Y) (xs : List X) (k : ℕ) (d : X) (e : Y) → k < length xs → get_or (map f xs) k e ≡ f (get_or xs k d)
mapped_at f [] k d e low = absurd (omega arith)
mapped_at f (x ∷ xs) zero d e low = refl
mapped_at f (x ∷ xs) (suc k) d e low = mapped_at f xs k d e (omega arith)

pub row_in : (l : LayoutData) (p i k : ℕ) → IsLocation l p i → k < length (words_of l p i) → Contains (all_rows l) (row_of l p i (get_or (words_of l p i) k no_word))
row_in l p i k loc low =
    let r = row_of l p i (get_or (words_of l p i) k no_word) in
    let here : Contains (location_rows l p i) r = (k, omega (arith, low, mapped_length (row_of l p i) (words_of l p i)), mapped_at (row_of l p i) (words_of l p i) k no_word r low) in
    let zero_add : (n : ℕ) → 0 + n ≡ n = λ n. omega arith in
    contains_flat (place_rows l) 0 (length l.places) p r loc.place_in (subst (λ x. Contains (place_rows l x) r) (sym (zero_add p))
    (contains_flat (location_rows l p) 0 (place_at l p).size i r loc.index_in (subst (λ x. Contains (location_rows l p x) r) (sym (zero_add i)) here)))

or_any : (a b c d : Bool) → (a ≡ true) ⊎ (b ≡ true) ⊎ (c ≡ true) ⊎ (d ≡ true) → ((a || b) || c || d) ≡ true
or_any true b c d h = refl
or_any false true c d h = refl
or_any false false true d h = refl
or_any false false false true h = refl
or_any false false false false (inl h) = cc
or_any false false false false (inr (inl h)) = cc
or_any false false false false (inr (inr (inl h))) = cc
or_any false false false false (inr (inr (inr h))) = cc

clashes : (l : LayoutData) (p i q j : ℕ) (w v : Word) → p ≢ q → may_not (place_at l p) (place_at l q) → rows_clash l.places (row_of l p i w) (row_of l q j v) ≡ true
clashes l p i q j w v other may = both _ _ (differ p q other) (or_any _ _ _ _ (ways may))
  where
    a : PlaceRow
    a = place_at l p

    b : PlaceRow
    b = place_at l q

    ways : may_not a b → ((has_right a.rights false && has_right b.rights false) ≡ true) ⊎ ((has_right a.rights true && has_right b.rights true) ≡ true) ⊎ (a.fifo ≡ true) ⊎ (b.fifo ≡ true)
    ways (inl (false, x, y)) = inl (both _ _ x y)
    ways (inl (true, x, y)) = inr (inl (both _ _ x y))
    ways (inr (inl f)) = inr (inr (inl f))
    ways (inr (inr f)) = inr (inr (inr f))

other_way : (p q : PlaceRow) → may_not p q → may_not q p
other_way p q (inl (write, x, y)) = inl (write, y, x)
other_way p q (inr (inl f)) = inr (inr f)
other_way p q (inr (inr f)) = inr (inl f)

at_none : (places : List PlaceRow) (rows : List WordRow) (x y : ℕ) (r s : WordRow) → NoRowsClash places rows → x < y → y < length rows → get_or rows x r ≡ r → get_or rows y s ≡ s
    → key_of r ≡ key_of s → rows_clash places r s ≡ false
at_none places rows x y r s none less low at_x at_y key =
    let far : get_or rows x s ≡ r = default_any rows x s r (omega arith) ∙ at_x in
    subst (λ v. rows_clash places v s ≡ false) far (subst (λ v. rows_clash places (get_or rows x s) v ≡ false) at_y
    (none x y s less low (ap key_of far ∙ key ∙ ap key_of (sym at_y))))

none_clash : (l : LayoutData) → IsPermutation (all_rows l) l.rows → NoRowsClash l.places l.rows → NoneClash l
none_clash l moved none p i k q j m shared may =
    let r = row_of l p i (get_or (words_of l p i) k no_word) in
    let s = row_of l q j (get_or (words_of l q j) m no_word) in
    let at_r = Contains-permutation (all_rows l) l.rows r moved (row_in l p i k shared.here shared.here_in) in
    let at_s = Contains-permutation (all_rows l) l.rows s moved (row_in l q j m shared.there shared.there_in) in
    let key : key_of r ≡ key_of s = ap (λ x. x * 2 ^ 64 + r.address) shared.port ∙ ap (λ x. (place_at l q).port * 2 ^ 64 + x) shared.address in
    let refuse : p ≢ q → ⊥ = λ other. three at_r.0 at_s.0
    (λ less. true_false _ (clashes l p i q j (get_or (words_of l p i) k no_word) (get_or (words_of l q j) m no_word) other may)
    (at_none l.places l.rows at_r.0 at_s.0 r s none less at_s.1 at_r.2 at_s.2 key))
    (λ less. true_false _ (clashes l q j p i (get_or (words_of l q j) m no_word) (get_or (words_of l p i) k no_word) (λ e. other (sym e))
    (other_way (place_at l p) (place_at l q) may)) (at_none l.places l.rows at_s.0 at_r.0 s r none less at_r.1 at_s.2 at_r.2 (sym key)))
    (λ same. other (ap (λ (x : WordRow). x.place) (sym at_r.2 ∙ ap (λ n. get_or l.rows n r) same ∙ default_any l.rows at_s.0 r s at_s.1 ∙ at_s.2))) in
    three p q (λ less. absurd (refuse (λ e. absurd (omega (arith, e))))) (λ less. absurd (refuse (λ e. absurd (omega (arith, e))))) (λ e. e)

-- ---- the order

eq_false : (a b : ℕ) → a ≢ b → (a == b) ≡ false
eq_false a b h = by (a == b) refl
  where
    by : (t : Bool) → (a == b) ≡ t → t ≡ false
    by true e = absurd (h (eqb-true a b e))
    by false e = refl

compared : (a b : ℕ) → is_lt (nat_cmp a b) ≡ nat_lt a b
compared a b = by (nat_lt a b) (a == b)
  where
    by : (s t : Bool) → is_lt (cond s Less (cond t Equal Greater)) ≡ s
    by true t = refl
    by false true = refl
    by false false = refl

tied : (a b : ℕ) → (not (is_lt (nat_cmp a b)) && not (is_lt (nat_cmp b a))) ≡ (b == a)
tied a b = rw (compared a b, compared b a) (three a b
    (λ less. rw (lt_true a b less, eq_false b a (λ e. absurd (omega (arith, e)))) refl)
    (λ less. rw (lt_false a b (omega arith), lt_true b a less, eq_false b a (λ e. absurd (omega (arith, e)))) refl)
    (λ e. rw (lt_false a b (omega (arith, e)), lt_false b a (omega (arith, e)), eq-eqb b a (sym e)) refl))

all_tied : (x : WordRow) (rows : List WordRow) → AllByRecursion (λ r. (not (is_lt (nat_cmp (key_of x) (key_of r))) && not (is_lt (nat_cmp (key_of r) (key_of x)))) ≡ (key_of r == key_of x)) rows
all_tied x [] = tt
all_tied x (r ∷ rows) = (tied (key_of x) (key_of r), all_tied x rows)

row_at : ℕ → ℕ → WordRow
row_at port address = record { port = port; address = address; reads = false; writes = false; cell = cell.Reg 0; place = 0; lanes = record { enabled = 0; bytes = [] } }

key_at : (port address : ℕ) → key_of (row_at port address) ≡ port * 2 ^ 64 + address
unfolding row_at
key_at port address = refl

pub same_key : (first rows : List WordRow) (port address : ℕ) → IsStableByKey key_of nat_cmp first rows
    → filter (λ r. key_of r == port * 2 ^ 64 + address) rows ≡ filter (λ r. key_of r == port * 2 ^ 64 + address) first
same_key first rows port address stable =
    let x = row_at port address in
    let t : WordRow → Bool = λ r. not (is_lt (nat_cmp (key_of x) (key_of r))) && not (is_lt (nat_cmp (key_of r) (key_of x))) in
    subst (λ n. filter (λ r. key_of r == n) rows ≡ filter (λ r. key_of r == n) first) (key_at port address)
    (sym (filter_same t (λ r. key_of r == key_of x) rows (all_tied x rows)) ∙ (stable x ∙ filter_same t (λ r. key_of r == key_of x) first (all_tied x first)))

-- ---- the whole

pub built_sound : (chip : ChipData) (maps : List MapRow) (places : List PlaceRow) (ports : List PortRow) (kinds : List AdapterKind) (first rows : List WordRow)
    → AreTables kinds maps ports → ArePlaces chip maps ports places first → length kinds < 2 ^ 32
    → IsPermutation first rows → IsAscending rows → IsStableByKey key_of nat_cmp first rows → NoRowsClash places rows
    → IsSound (built maps places ports kinds rows)
built_sound chip maps places ports kinds first rows t p few moved ascending stable none =
    let l = built maps places ports kinds rows in
    let all : first ≡ all_rows l = p.words_are ∙ sym (rows_same maps places ports kinds rows) in
    let moves : IsPermutation (all_rows l) rows = subst (λ x. IsPermutation x rows) all moved in
    let tests = tested chip maps places ports kinds first rows t p few (length_permutation first rows moved) in
    let of_all : All (IsRowOf l) (all_rows l) = All-from_recursion (IsRowOf l) (all_rows l) (all_rows_are l tests) in
    let of_rows : All (IsRowOf l) rows = All-permutation (IsRowOf l) (all_rows l) rows moves of_all in
    let keeps : KeepsOrder l = λ port address low.
    standing_by_key rows port address low (λ k d in_k. (of_rows k d in_k).low)
    ∙ (same_key first rows port address stable ∙ ap (filter (λ r. key_of r == port * 2 ^ 64 + address)) all)
    ∙ sym (standing_by_key (all_rows l) port address low (λ k d in_k. (of_all k d in_k).low)) in
    sound_of l tests (none_clash l moves none) keeps moves ascending
