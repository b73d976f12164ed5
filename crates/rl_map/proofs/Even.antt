-- The locations of a memory stand evenly apart.
use Rattle.std.proofs.Common.{◌≡◌, ℕ, zero, suc, ◌+◌, ◌-◌, ◌*◌, ◌/◌, ◌%◌, ◌^◌, ◌<◌, ◌≤◌, Bool, true, false, ◌==◌, ◌&&◌, ◌||◌, cond}
use Rattle.std.proofs.Common.{List, [], ◌∷◌, ◌++◌, map, Option, Some, is_some, unwrap_or, refl, sym, ap, ◌∙◌, subst, arith}
use Rattle.std.specs.Int.{div_ceil}
use Rattle.std.specs.List.{list_any, range_with_len}
use Rattle.std.proofs.lemmas.Nat.{div-add-mod', same_from_place}
use Rattle.std.proofs.lemmas.List.{map-append}
use Rattle.std.proofs.lemmas.List.Elements.{recursion_from_All}
use Rattle.rl_bus.specs.Lanes.{IsWidth}
use Rattle.rl_map.specs.declared.path.Kind.{Kind}
use Rattle.rl_map.specs.declared.path.Kind.TheVariants.{Little, Big, LittleFifo, BigFifo}
use Rattle.rl_map.specs.declared.path.Level.{Level}
use Rattle.rl_map.specs.declared.seat.Access.{Access}
use Rattle.rl_map.specs.declared.seat.Location.{Location}
use Rattle.rl_map.specs.declared.seat.Seat.{Seat}
use Rattle.rl_map.specs.declared.word.Word.{Word}
use Rattle.rl_map.specs.Level.{IsPath, stride_of}
use Rattle.rl_map.specs.Access.{IsAligned, carried, through, climb, address_of}
use Rattle.rl_map.specs.Seat.{access_of, seat_of, slots}
use Rattle.rl_map.specs.Words.{mask_of, byte_from, byte_at, address_at, word_of, orders_below, words_below, item_words}
use Rattle.rl_map.specs.Locations.{further, all_further, address_of as lowest_address, AreStraight, AreLocations}
use Rattle.rl_map.proofs.Apart.{Wide, moved}
use Rattle.rl_map.proofs.Addresses.{carry, width_pos}

-- ---- one map

-- what is a multiple of b twice is one at each further step
pub step_even : (A D b : ℕ) → 0 < b → A % b ≡ 0 → (A + D) % b ≡ 0 → D % b ≡ 0
step_even A D b some e f =
    let a : A / b * b + 0 ≡ A = omega (arith, div-add-mod' A b, e) in
    let s : (A + D) / b * b + 0 ≡ A + D = omega (arith, div-add-mod' (A + D) b, f) in
    let d = div-add-mod' D b in
    let low : D % b < b = omega arith in
    (same_from_place (A / b + D / b) (D % b) ((A + D) / b) 0 b low some (omega (arith, a, s, d))).1

even_place : (A D b i : ℕ) → 0 < b → A % b ≡ 0 → D % b ≡ 0 → ((A + i * D) / b ≡ A / b + i * (D / b)) × ((A + i * D) % b ≡ 0)
even_place A D b i some e f =
    let a : A / b * b ≡ A = omega (arith, div-add-mod' A b, e) in
    let d : D / b * b ≡ D = omega (arith, div-add-mod' D b, f) in
    let m : i * (D / b * b) ≡ i * D = ap (λ x. i * x) d in
    let s = div-add-mod' (A + i * D) b in
    let low : (A + i * D) % b < b = omega arith in
    same_from_place ((A + i * D) / b) ((A + i * D) % b) (A / b + i * (D / b)) 0 b low some (omega (arith, a, m, s))

pub multiple_even : (A D b i : ℕ) → 0 < b → A % b ≡ 0 → D % b ≡ 0 → (A + i * D) % b ≡ 0
multiple_even A D b i some e f = (even_place A D b i some e f).1

spread_twice : (x i y c : ℕ) → (x + i * y) * c ≡ x * c + i * (y * c)
spread_twice x i y c = omega arith

carry_even : (word parent : Bool) (A D b c n i : ℕ) → 0 < b → (word ≡ false → parent ≡ true → A % b ≡ 0) → (word ≡ false → parent ≡ true → (A + D) % b ≡ 0)
    → carry word parent (A + i * D) b c n ≡ carry word parent A b c n + i * carry word parent D b c n
carry_even true true A D b c n i some e f = omega arith
carry_even true false A D b c n i some e f = omega arith
carry_even false true A D b c n i some e f =
    ap (λ x. x * c) (even_place A D b i some (e refl refl) (step_even A D b some (e refl refl) (f refl refl))).0 ∙ spread_twice (A / b) i (D / b) c
carry_even false false A D b c n i some e f = refl

address_even : (kind : Kind) (start more stride count i : ℕ) → address_of kind (start + more) stride count i ≡ address_of kind start stride count i + more
address_even Little start more stride count i = omega arith
address_even Big start more stride count i = omega arith
address_even LittleFifo start more stride count i = refl
address_even BigFifo start more stride count i = refl

-- ---- the whole path

-- what a distance between two accesses of a width is above one map
carried_far : ℕ → Bool → Level → ℕ → ℕ
carried_far bytes word level d = carry word level.word d bytes (div_ceil bytes level.bytes) level.bytes

-- and at the root
pub distance : List Level → ℕ → Bool → ℕ → ℕ
distance [] bytes word d = d
distance (level ∷ up) bytes word d = distance up level.bytes level.word (carried_far bytes word level d)

-- an access so much further
abbrev pub onward : Access → ℕ → Access
onward a more = moved a (a.address + more) a.byte a.order

through_even : (level : Level) (a : Access) (d i : ℕ) → 0 < a.bytes → (a.word ≡ false → level.word ≡ true → a.address % a.bytes ≡ 0)
    → (a.word ≡ false → level.word ≡ true → (a.address + d) % a.bytes ≡ 0)
    → through (onward a (i * d)) level ≡ onward (through a level) (i * carried_far a.bytes a.word level d)
unfolding carried_far
through_even level a d i some e f =
    let count = div_ceil a.bytes level.bytes in
    let chunk = a.byte / level.bytes in
    let more = i * carry a.word level.word d a.bytes count level.bytes in
    let start = a.offset + carried a level in
    let moves : a.offset + carried (onward a (i * d)) level ≡ start + more =
    ap (λ x. a.offset + x) (carry_even a.word level.word a.address d a.bytes count level.bytes i some e f) ∙ (let g : a.offset + (carried a level + more) ≡ start + more = omega arith in g) in
    ap (λ y. moved (through a level) y (through a level).byte (through a level).order)
    (ap (λ x. address_of level.kind x (stride_of level) count chunk) moves ∙ address_even level.kind start more (stride_of level) count chunk)

once : (level : Level) (a : Access) (d : ℕ) → 0 < a.bytes → (a.word ≡ false → level.word ≡ true → a.address % a.bytes ≡ 0)
    → (a.word ≡ false → level.word ≡ true → (a.address + d) % a.bytes ≡ 0) → through (onward a d) level ≡ onward (through a level) (carried_far a.bytes a.word level d)
once level a d some e f =
    let one : (x : ℕ) → 1 * x ≡ x = λ x. omega arith in
    ap (λ x. through (onward a x) level) (sym (one d)) ∙ through_even level a d 1 some e f ∙ ap (onward (through a level)) (one (carried_far a.bytes a.word level d))

pub climb_even : (up : List Level) → Wide up → (a : Access) (d i : ℕ) → 0 < a.bytes → IsAligned a up → IsAligned (onward a d) up
    → climb (onward a (i * d)) up ≡ onward (climb a up) (i * distance up a.bytes a.word d)
unfolding distance
climb_even [] w a d i some e f = refl
climb_even (level ∷ up) w a d i some e f =
    ap (λ x. climb x up) (through_even level a d i some e.0 f.0)
    ∙ climb_even up w.1 (through a level) (carried_far a.bytes a.word level d) i (width_pos level.bytes w.0) e.1 (subst (λ x. IsAligned x up) (once level a d some e.0 f.0) f.1)

-- what is straight twice is so at each further step
pub aligned_even : (up : List Level) → Wide up → (a : Access) (d i : ℕ) → 0 < a.bytes → IsAligned a up → IsAligned (onward a d) up → IsAligned (onward a (i * d)) up
aligned_even [] w a d i some e f = tt
aligned_even (level ∷ up) w a d i some e f = (
  λ word parent. multiple_even a.address d a.bytes i some (e.0 word parent) (step_even a.address d a.bytes some (e.0 word parent) (f.0 word parent)),
  subst (λ x. IsAligned x up) (sym (through_even level a d i some e.0 f.0))
      (aligned_even up w.1 (through a level) (carried_far a.bytes a.word level d) i (width_pos level.bytes w.0) e.1 (subst (λ x. IsAligned x up) (once level a d some e.0 f.0) f.1)),
)

-- ---- the bytes of an item

-- how far apart the locations of an item stand
pub step_of : List Level → Location → ℕ
step_of path item = distance path item.bytes true 1

-- a seat so much further
abbrev pub seat_on : ℕ → Seat → Seat
seat_on by seat = record seat { address = seat.address + by }

seat_by : ℕ → Access → Seat
seat_by base top = record { order = top.order; address = base + top.address; lane = top.byte }

pub seat_even : (path : List Level) (base : ℕ) (item : Location) (byte index : ℕ) → IsPath path → byte < item.bytes
    → IsAligned (access_of (record item { index = 0 }) byte) path → IsAligned (access_of (record item { index = 1 }) byte) path
    → seat_of path base (record item { index = index }) byte ≡ seat_on (index * step_of path item) (seat_of path base (record item { index = 0 }) byte)
unfolding step_of seat_by
seat_even path base item byte index ok low e f =
    let w = recursion_from_All (λ level. IsWidth level.bytes) path ok.widths in
    let a = access_of (record item { index = 0 }) byte in
    let from : index ≡ 0 + index * 1 = omega arith in
    let some : 0 < item.bytes = omega arith in
    let top = climb a path in
    let more = index * distance path item.bytes true 1 in
    ap (λ x. seat_by base (climb (moved a x byte 0) path)) from
    ∙ ap (seat_by base) (climb_even path w a 1 index some e f)
    ∙ ap (λ y. let s : Seat = record { order = top.order; address = y; lane = top.byte } in s) (let g : base + (top.address + more) ≡ base + top.address + more = omega arith in g)

mapped_even : (f g : ℕ → Seat) (by first n : ℕ) → ((j : ℕ) → j < n → f (first + j) ≡ seat_on by (g (first + j))) → map f (range_with_len first n) ≡ map (seat_on by) (map g (range_with_len first n))
mapped_even f g by first zero h = refl
mapped_even f g by first (suc n) h =
    let here : f first ≡ seat_on by (g first) = subst (λ k. f k ≡ seat_on by (g k)) (let e : first + 0 ≡ first = omega arith in e) (h 0 (omega arith)) in
    ap (λ s. s ∷ map f (range_with_len (first + 1) n)) here
    ∙ ap (λ ss. seat_on by (g first) ∷ ss)
    (mapped_even f g by (first + 1) n (λ j low. subst (λ k. f k ≡ seat_on by (g k)) (let e : first + suc j ≡ first + 1 + j = omega arith in e) (h (suc j) (omega arith))))

-- ---- the words

byte_even : (by : ℕ) (seats : List Seat) (first order lane : ℕ) → byte_from first (map (seat_on by) seats) order lane ≡ byte_from first seats order lane
byte_even by [] first order lane = refl
byte_even by (seat ∷ seats) first order lane = ap (λ o. cond ((seat.order == order) && (seat.lane == lane)) (Some first) o) (byte_even by seats (first + 1) order lane)

any_even : (by : ℕ) (seats : List Seat) (n : ℕ) → list_any (λ s. s.order == n) (map (seat_on by) seats) ≡ list_any (λ s. s.order == n) seats
any_even by [] n = refl
any_even by (seat ∷ seats) n = ap (λ t. (seat.order == n) || t) (any_even by seats n)

address_on : (by : ℕ) (seats : List Seat) (n : ℕ) → list_any (λ s. s.order == n) seats ≡ true → address_at (map (seat_on by) seats) n ≡ address_at seats n + by
address_on by [] n e = cc
address_on by (seat ∷ seats) n e = at (seat.order == n) e (address_on by seats n)
  where
    at : (t : Bool) → (t || list_any (λ s. s.order == n) seats) ≡ true → (list_any (λ s. s.order == n) seats ≡ true → address_at (map (seat_on by) seats) n ≡ address_at seats n + by)
        → cond t (seat.address + by) (address_at (map (seat_on by) seats) n) ≡ cond t seat.address (address_at seats n) + by
    at true e more = refl
    at false e more = more e

mask_same : (f g : ℕ → Option ℕ) (n : ℕ) → ((k : ℕ) → f k ≡ g k) → mask_of (λ k. is_some (f k)) n ≡ mask_of (λ k. is_some (g k)) n
mask_same f g zero h = refl
mask_same f g (suc n) h = ap (λ x. x + cond (is_some (f n)) (2 ^ n) 0) (mask_same f g n h) ∙ ap (λ o. mask_of (λ k. is_some (g k)) n + cond (is_some o) (2 ^ n) 0) (h n)

bytes_same : (f g : ℕ → Option ℕ) (ks : List ℕ) → ((k : ℕ) → f k ≡ g k) → map (λ k. unwrap_or (f k) 0) ks ≡ map (λ k. unwrap_or (g k) 0) ks
bytes_same f g [] h = refl
bytes_same f g (k ∷ ks) h = ap (λ o. unwrap_or o 0 ∷ map (λ k. unwrap_or (f k) 0) ks) (h k) ∙ ap (λ bs. unwrap_or (g k) 0 ∷ bs) (bytes_same f g ks h)

word_by : ℕ → ℕ → ℕ → List ℕ → Word
word_by order address lanes bytes = record { order = order; address = address; lanes = lanes; bytes = bytes }

word_even : (by : ℕ) (seats : List Seat) (n : ℕ) → list_any (λ s. s.order == n) seats ≡ true → word_of (map (seat_on by) seats) n ≡ further by (word_of seats n)
unfolding word_by
word_even by seats n e =
    let f = byte_at (map (seat_on by) seats) n in
    let g = byte_at seats n in
    let same : (k : ℕ) → f k ≡ g k = λ k. byte_even by seats 0 n k in
    ap (λ x. word_by n x (mask_of (λ k. is_some (f k)) 8) (map (λ k. unwrap_or (f k) 0) (range_with_len 0 8))) (address_on by seats n e)
    ∙ ap (λ x. word_by n (address_at seats n + by) x (map (λ k. unwrap_or (f k) 0) (range_with_len 0 8))) (mask_same f g 8 same)
    ∙ ap (word_by n (address_at seats n + by) (mask_of (λ k. is_some (g k)) 8)) (bytes_same f g (range_with_len 0 8) same)

words_even : (by : ℕ) (seats : List Seat) (n : ℕ) → words_below (map (seat_on by) seats) n ≡ all_further by (words_below seats n)
words_even by seats zero = refl
words_even by seats (suc n) =
    ap (λ t. map (word_of (map (seat_on by) seats)) (cond t (orders_below (map (seat_on by) seats) n ++ n ∷ []) (orders_below (map (seat_on by) seats) n))) (any_even by seats n)
    ∙ at (list_any (λ s. s.order == n) seats) refl (words_even by seats n)
  where
    at : (t : Bool) → list_any (λ s. s.order == n) seats ≡ t → words_below (map (seat_on by) seats) n ≡ all_further by (words_below seats n)
        → map (word_of (map (seat_on by) seats)) (cond t (orders_below (map (seat_on by) seats) n ++ n ∷ []) (orders_below (map (seat_on by) seats) n))
        ≡ map (further by) (map (word_of seats) (cond t (orders_below seats n ++ n ∷ []) (orders_below seats n)))
    at true e more =
        map-append (word_of (map (seat_on by) seats)) (orders_below (map (seat_on by) seats) n) (n ∷ [])
        ∙ ap (λ ws. ws ++ word_of (map (seat_on by) seats) n ∷ []) more
        ∙ ap (λ w. map (further by) (words_below seats n) ++ w ∷ []) (word_even by seats n e)
        ∙ sym (ap (map (further by)) (map-append (word_of seats) (orders_below seats n) (n ∷ [])) ∙ map-append (further by) (words_below seats n) (word_of seats n ∷ []))
    at false e more = more

no_further : (by : ℕ) (words : List Word) → by ≡ 0 → words ≡ all_further by words
no_further by [] e = refl
no_further by (w ∷ ws) e =
    ap (λ x. (let v : Word = record w { address = x } in v) ∷ ws) (let f : w.address ≡ w.address + by = omega arith in f)
    ∙ ap (λ vs. further by w ∷ vs) (no_further by ws e)

-- the words of a location are those of the first, moved
pub words_on : (path : List Level) (base : ℕ) (item : Location) (size : ℕ) → IsPath path → AreStraight path item size → (index : ℕ) → index < size
    → item_words path base (record item { index = index }) ≡ all_further (index * step_of path item) (item_words path base (record item { index = 0 }))
words_on path base item size ok straight zero low = no_further (0 * step_of path item) (item_words path base (record item { index = 0 })) (omega arith)
words_on path base item size ok straight (suc index) low =
    let f = seat_of path base (record item { index = suc index }) in
    let g = seat_of path base (record item { index = 0 }) in
    let by = suc index * step_of path item in
    let to : (j : ℕ) → 0 + j ≡ j = λ j. omega arith in
    ap (λ ss. words_below ss (slots item.bytes path))
    (mapped_even f g by 0 item.bytes (λ j low_j. subst (λ k. f k ≡ seat_on by (g k)) (sym (to j))
    (seat_even path base item j (suc index) ok low_j (straight 0 j (omega arith) low_j) (straight 1 j (omega arith) low_j))))
    ∙ words_even by (map g (range_with_len 0 item.bytes)) (slots item.bytes path)

-- ---- what is kept

one_behind : (path : List Level) (base : ℕ) (item : Location) → IsPath path → 0 < item.bytes → AreStraight path item 2
    → lowest_address path base item 1 ≡ lowest_address path base item 0 + step_of path item
one_behind path base item ok some straight =
    let s = seat_even path base item 0 1 ok some (straight 0 0 (omega arith) some) (straight 1 0 (omega arith) some) in
    let once : 1 * step_of path item ≡ step_of path item = omega arith in
    ap (λ (x : Seat). x.address) s ∙ ap (λ x. lowest_address path base item 0 + x) once

-- of more than one location the first two are straight
two_straight : (path : List Level) (item : Location) (size : ℕ) → 2 ≤ size → AreStraight path item size → AreStraight path item 2
two_straight path item size more straight = λ index byte low low_b. straight index byte (omega arith) low_b

pub behind : (path : List Level) (base : ℕ) (item : Location) (size : ℕ) → IsPath path → 0 < item.bytes → 2 ≤ size → AreStraight path item size
    → lowest_address path base item 0 ≤ lowest_address path base item 1
behind path base item size ok some more straight = omega (arith, one_behind path base item ok some (two_straight path item size more straight))

pub one_location : (path : List Level) (base : ℕ) (item : Location) (size : ℕ) (words : List Word) → size ≡ 1 → words ≡ item_words path base (record item { index = 0 })
    → AreLocations path base item size (record { words = words; step = 0 })
one_location path base item size words one e index low =
    let zero_is : index ≡ 0 = omega arith in
    ap (λ n. item_words path base (record item { index = n })) zero_is ∙ sym e ∙ no_further (index * 0) words (omega arith)

pub many_locations : (path : List Level) (base : ℕ) (item : Location) (size : ℕ) (words : List Word) (step : ℕ) → IsPath path → 0 < item.bytes → 2 ≤ size → AreStraight path item size
    → words ≡ item_words path base (record item { index = 0 }) → step ≡ lowest_address path base item 1 - lowest_address path base item 0
    → AreLocations path base item size (record { words = words; step = step })
many_locations path base item size words step ok some more straight e f index low =
    let s : step ≡ step_of path item = omega (arith, f, one_behind path base item ok some (two_straight path item size more straight)) in
    words_on path base item size ok straight index low ∙ ap (all_further (index * step_of path item)) (sym e) ∙ ap (λ x. all_further (index * x) words) (sym s)
