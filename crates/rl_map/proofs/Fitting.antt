-- Each word of a location is one that the port's adapter carries, and each location has as many.
use Rattle.std.proofs.Common.{◌≡◌, ℕ, zero, suc, ◌*◌, ◌%◌, ◌^◌, ◌<◌, ◌≤◌, inl, inr, Bool, false, ◌==◌, ◌||◌, cond, List, [], ◌∷◌, ◌++◌}
use Rattle.std.proofs.Common.{length, get_or, map, Option, Some, None, is_some, unwrap_or, refl, sym, ap, ◌∙◌, subst, arith}
use Rattle.std.specs.Prelude.{IsBitSet, IsTrue}
use Rattle.std.specs.List.{list_any, range_with_len}
use Rattle.std.proofs.lemmas.Bool.{cases_lt}
use Rattle.std.proofs.lemmas.List.{length-map}
use Rattle.std.proofs.lemmas.List.Elements.{recursion_from_All}
use Rattle.std.proofs.lemmas.List.FromFn.{get_or-map-range_with_len, length-map-range_with_len}
use Rattle.std.proofs.lemmas.Nat.{pow_pos}
use Rattle.std.proofs.lemmas.Nat.Bits.{bit_at_above, and_pow}
use Rattle.rl_bus.specs.declared.op.AdapterKind.{AdapterKind}
use Rattle.rl_bus.specs.Lanes.{IsWidth}
use Rattle.rl_map.specs.declared.path.Level.{Level}
use Rattle.rl_map.specs.declared.seat.Access.{Access}
use Rattle.rl_map.specs.declared.seat.Location.{Location}
use Rattle.rl_map.specs.declared.seat.Seat.{Seat}
use Rattle.rl_map.specs.declared.word.Word.{Word}
use Rattle.rl_map.specs.Level.{IsPath, root_bytes}
use Rattle.rl_map.specs.Access.{IsAccess, through, climb}
use Rattle.rl_map.specs.Seat.{access_of, seat_of, slots}
use Rattle.rl_map.specs.Words.{mask_of, byte_at, word_of, orders_below, seats_of, item_words, no_seat, no_word}
use Rattle.rl_map.specs.Partition.{IsWordOn, number_of}
use Rattle.rl_map.proofs.Chunks.{through_access}
use Rattle.rl_map.proofs.Apart.{Wide, moved}
use Rattle.rl_map.proofs.Gathered.{mask_lt}
use Rattle.rl_map.proofs.Partition.{stands_at, words_at, bytes_at, is_listed, words_partition}
use Rattle.rl_map.proofs.WordsApart.{seated}

-- ---- lanes

-- the lane of a byte is one of the root's
lane_root : (level : Level) (up : List Level) → Wide (level ∷ up) → (a : Access) → IsAccess a → (climb a (level ∷ up)).byte < root_bytes (level ∷ up)
lane_root level [] w a ok = (through_access a level w.0).within
lane_root level (next ∷ up) w a ok = lane_root next up w.1 (through a level) (through_access a level w.0)

mask_below : (test : ℕ → Bool) (n top : ℕ) → ((l : ℕ) → n ≤ l → l < top → test l ≡ false) → n ≤ top → mask_of test top < 2 ^ n
mask_below test n zero h low = omega (arith, pow_pos n)
mask_below test n (suc t) h low =
    elim (cases_lt t n) [
      | inl p ↦ let e : suc t ≡ n = omega arith in subst (λ m. mask_of test (suc t) < 2 ^ m) e (mask_lt test (suc t))
      | inr p ↦ rw (h t p (omega arith)) (omega (arith, mask_below test n t (λ l q r. h l q (omega arith)) p))
    ]

positive : (m k : ℕ) → IsBitSet m k → 0 < m
positive zero k set = absurd (set (and_pow 0 k ∙ (ap (λ b. b * 2 ^ k) (bit_at_above 0 0 k (omega arith) (omega arith)) ∙ nothing (2 ^ k))))
  where
    nothing : (n : ℕ) → 0 * n ≡ 0
    nothing n = omega arith
positive (suc m) k set = omega arith

none_at : (o : Option ℕ) → ((b : ℕ) → o ≡ Some b → ⊥) → is_some o ≡ false
none_at None h = refl
none_at (Some b) h = absurd (h b refl)

byte_small : (o : Option ℕ) → ((b : ℕ) → o ≡ Some b → b < 8) → unwrap_or o 0 < 8
byte_small None h = omega arith
byte_small (Some b) h = h b refl

-- ---- one word

-- what is known of each byte's address
pub record AreOn (path : List Level) (base : ℕ) (item : Location) (kind : AdapterKind) (port_bytes : ℕ) : Type 0 where
  pub address : (j : ℕ) → j < item.bytes → (seat_of path base item j).address ≤ kind.most_address
  pub aligned : (j : ℕ) → j < item.bytes → IsTrue kind.aligned → (seat_of path base item j).address % port_bytes ≡ 0

lane_of_seat : (path : List Level) (base : ℕ) (item : Location) → IsPath path → item.bytes ≤ 8 → 0 < length path → (j : ℕ) → j < item.bytes
    → (seat_of path base item j).lane < root_bytes path
lane_of_seat [] base item ok size some j low = absurd (omega arith)
lane_of_seat (level ∷ up) base item ok size some j low =
    lane_root level up (recursion_from_All (λ m. IsWidth m.bytes) (level ∷ up) ok.widths) (access_of item j) (record { within = low; most = size })

word_fits : (path : List Level) (base : ℕ) (item : Location) (kind : AdapterKind) → IsPath path → item.bytes ≤ 8 → 0 < length path → root_bytes path ≤ 8
    → AreOn path base item kind (root_bytes path) → (order k : ℕ) → k < length (item_words path base item)
    → get_or (item_words path base item) k no_word ≡ word_of (seats_of path base item) order
    → IsWordOn kind (root_bytes path) (get_or (item_words path base item) k no_word)
word_fits path base item kind ok size some narrow on order k inside at =
    let seats = seats_of path base item in
    let w = get_or (item_words path base item) k no_word in
    let long : length seats ≡ item.bytes = length-map-range_with_len (seat_of path base item) 0 item.bytes in
    let seat_at : (j : ℕ) → j < item.bytes → get_or seats j no_seat ≡ seat_of path base item j =
    λ j low. get_or-map-range_with_len (seat_of path base item) 0 item.bytes j j no_seat low (omega arith) in
    let here = seated path base item ok size k inside in
    let whole = words_partition path base item ok size in
    let low : here.byte < length seats = omega (arith, here.inside, long) in
    let listed : k < length (orders_below seats (slots item.bytes path)) = simp length-map at inside in
    let number : number_of seats w.order ≡ k = ap (λ (v : Word). number_of seats v.order) (words_at seats (slots item.bytes path) k listed)
    ∙ (is_listed seats (slots item.bytes path) k listed).number in
    let same : number_of seats (get_or seats here.byte no_seat).order ≡ k = ap (λ (s : Seat). number_of seats s.order) (seat_at here.byte here.inside) ∙ ap (number_of seats) here.order_is ∙ number in
    let set : IsBitSet w.lanes (get_or seats here.byte no_seat).lane =
    subst (λ n. IsBitSet (get_or (item_words path base item) n no_word).lanes (get_or seats here.byte no_seat).lane) same (whole.placed here.byte low).1.enabled in
    record {
      some = positive w.lanes _ set;
      enabled = rw at (mask_below (λ lane. is_some (byte_at seats order lane)) (root_bytes path) 8
          (λ l above under. none_at (byte_at seats order l) (λ b e. let s = stands_at seats 0 order l b e in
          let in_item : s.index < item.bytes = omega (arith, s.inside, long) in
          let lane_is : (seat_of path base item s.index).lane ≡ l = sym (ap (λ (s : Seat). s.lane) (seat_at s.index in_item)) ∙ s.lane_is in
          absurd (omega (arith, lane_of_seat path base item ok size some s.index in_item)))) narrow);
      eight = rw at (length-map-range_with_len (λ lane. unwrap_or (byte_at seats order lane) 0) 0 8);
      bytes = λ l low_l. rw (at, bytes_at seats order l low_l)
          (byte_small (byte_at seats order l) (λ b e. let s = stands_at seats 0 order l b e in omega (arith, s.byte_is, s.inside, long)));
      address = omega (arith, here.address_is, on.address here.byte here.inside);
      aligned = λ t. ap (λ x. x % root_bytes path) (sym here.address_is) ∙ on.aligned here.byte here.inside t;
    }

pub words_fit : (path : List Level) (base : ℕ) (item : Location) (kind : AdapterKind) → IsPath path → item.bytes ≤ 8 → 0 < length path → root_bytes path ≤ 8
    → AreOn path base item kind (root_bytes path) → (k : ℕ) → k < length (item_words path base item)
    → IsWordOn kind (root_bytes path) (get_or (item_words path base item) k no_word)
words_fit path base item kind ok size some narrow on k inside =
    let seats = seats_of path base item in
    let listed : k < length (orders_below seats (slots item.bytes path)) = simp length-map at inside in
    word_fits path base item kind ok size some narrow on (get_or (orders_below seats (slots item.bytes path)) k 0) k inside (words_at seats (slots item.bytes path) k listed)

-- ---- each location has as many words

same_climb : (up : List Level) (a : Access) (x : ℕ) → (climb (moved a x a.byte a.order) up).order ≡ (climb a up).order
same_climb [] a x = refl
same_climb (level ∷ up) a x = same_climb up (through a level) (through (moved a x a.byte a.order) level).address

orders_of : List Seat → List ℕ
orders_of seats = map (λ s. s.order) seats

any_order : (seats : List Seat) (n : ℕ) → list_any (λ s. s.order == n) seats ≡ list_any (λ o. o == n) (orders_of seats)
unfolding orders_of
any_order [] n = refl
any_order (s ∷ seats) n = ap (λ t. (s.order == n) || t) (any_order seats n)

same_orders : (xs ys : List Seat) → orders_of xs ≡ orders_of ys → (n : ℕ) → orders_below xs n ≡ orders_below ys n
same_orders xs ys e zero = refl
same_orders xs ys e (suc n) =
    ap (λ t. cond t (orders_below xs n ++ n ∷ []) (orders_below xs n)) (any_order xs n ∙ ap (λ os. list_any (λ o. o == n) os) e ∙ sym (any_order ys n))
    ∙ ap (λ os. cond (list_any (λ s. s.order == n) ys) (os ++ n ∷ []) os) (same_orders xs ys e n)

mapped_orders : (f g : ℕ → Seat) → ((j : ℕ) → (f j).order ≡ (g j).order) → (js : List ℕ) → orders_of (map f js) ≡ orders_of (map g js)
unfolding orders_of
mapped_orders f g h [] = refl
mapped_orders f g h (j ∷ js) = ap (λ o. o ∷ map (λ s. s.order) (map f js)) (h j) ∙ ap (λ os. (g j).order ∷ os) (mapped_orders f g h js)

pub as_many : (path : List Level) (base base' : ℕ) (item : Location) (m n : ℕ)
    → length (item_words path base (record item { index = m })) ≡ length (item_words path base' (record item { index = n }))
as_many path base base' item m n =
    let f = seat_of path base (record item { index = m }) in
    let g = seat_of path base' (record item { index = n }) in
    let js = range_with_len 0 item.bytes in
    let same = same_orders (map f js) (map g js) (mapped_orders f g (λ j. same_climb path (access_of (record item { index = n }) j) m) js) (slots item.bytes path) in
    mapped (word_of (map f js)) (orders_below (map f js) (slots item.bytes path)) ∙ ap length same ∙ sym (mapped (word_of (map g js)) (orders_below (map g js) (slots item.bytes path)))
  where
    mapped : (h : ℕ → Word) (os : List ℕ) → length (map h os) ≡ length os
    mapped h [] = refl
    mapped h (o ∷ os) = ap suc (mapped h os)
