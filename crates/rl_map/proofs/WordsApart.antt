use Rattle.std.proofs.Common.{◌≡◌, ℕ, ◌<◌, ◌≤◌, suc, Bool, true, false, ◌||◌, [], ◌∷◌, subst, ◌==◌, List, length, get_or, arith, sym, ap, ◌∙◌, refl}
use Rattle.std.specs.List.{list_any}
use Rattle.std.proofs.lemmas.Bool.{eqb-true}
use Rattle.std.proofs.lemmas.List.{length-map}
use Rattle.std.proofs.lemmas.List.FromFn.{get_or-map-range_with_len, length-map-range_with_len}
use Rattle.rl_map.specs.declared.seat.Seat.{Seat}
use Rattle.rl_map.specs.declared.word.Word.{Word}
use Rattle.rl_map.specs.Seat.{seat_of, slots}
use Rattle.rl_map.specs.Words.{seats_of, item_words, words_below, orders_below, word_of, address_at, no_seat, no_word}
use Rattle.rl_map.specs.Partition.{AreApart, number_of}
use Rattle.rl_map.specs.Level.{IsPath, has_fifo}
use Rattle.rl_map.specs.Access.{IsAligned}
use Rattle.rl_map.specs.Seat.{access_of}
use Rattle.rl_map.specs.declared.path.Level.{Level}
use Rattle.rl_map.specs.declared.seat.Location.{Location}
use Rattle.rl_map.proofs.Apart.{seats_apart}
use Rattle.rl_map.proofs.Addresses.{addresses_apart}
use Rattle.rl_map.proofs.Partition.{is_listed, words_at, address_at-is, apart_of}

-- each word has a byte, whose seat has its order and address
pub record HasByte (seats : List Seat) (word : Word) : Type 0 where
  pub byte : ℕ
  pub inside : byte < length seats
  pub order_is : (get_or seats byte no_seat).order ≡ word.order
  pub address_is : (get_or seats byte no_seat).address ≡ word.address

any_step : (t : Bool) (seat : Seat) (seats : List Seat) (order : ℕ) → (seat.order == order) ≡ t
    → (list_any (λ seat. seat.order == order) seats ≡ true → (j : ℕ) × (j < length seats) × ((get_or seats j no_seat).order ≡ order))
    → (t || list_any (λ seat. seat.order == order) seats) ≡ true
    → (j : ℕ) × (j < length (seat ∷ seats)) × ((get_or (seat ∷ seats) j no_seat).order ≡ order)
any_step true seat seats order h rest e = (0, omega arith, eqb-true seat.order order h)
any_step false seat seats order h rest e = let r = rest e in (suc r.0, omega (arith, r.1), r.2)

any_seat : (seats : List Seat) (order : ℕ) → list_any (λ seat. seat.order == order) seats ≡ true → (j : ℕ) × (j < length seats) × ((get_or seats j no_seat).order ≡ order)
any_seat [] order e = cc
any_seat (seat ∷ seats) order e = any_step _ seat seats order refl (any_seat seats order) e

has_byte : (seats : List Seat) (n order : ℕ) → AreApart seats n → list_any (λ seat. seat.order == order) seats ≡ true → HasByte seats (word_of seats order)
has_byte seats n order apart e =
    let found = any_seat seats order e in
    let j = found.0 in
    record {
      byte = j;
      inside = found.1;
      order_is = found.2;
      address_is = sym (address_at-is seats j found.1 (λ k low same. apart.one_address k j low found.1 same)) ∙ ap (address_at seats) found.2;
    }

word_has_byte : (seats : List Seat) (n k : ℕ) → AreApart seats n → k < length (orders_below seats n) → HasByte seats (get_or (words_below seats n) k no_word)
word_has_byte seats n k apart inside =
    subst (HasByte seats) (sym (words_at seats n k inside)) (has_byte seats n _ apart (is_listed seats n k inside).held)

-- what the seat of a word's byte says of the word
pub record Seated (path : List Level) (base : ℕ) (item : Location) (word : Word) : Type 0 where
  pub byte : ℕ
  pub inside : byte < item.bytes
  pub order_is : (seat_of path base item byte).order ≡ word.order
  pub address_is : (seat_of path base item byte).address ≡ word.address

seated_from : (path : List Level) (base : ℕ) (item : Location) (word : Word) → HasByte (seats_of path base item) word → Seated path base item word
seated_from path base item word a =
    let long : length (seats_of path base item) ≡ item.bytes = length-map-range_with_len (seat_of path base item) 0 item.bytes in
    let low : a.byte < item.bytes = omega (arith, a.inside, long) in
    let at : get_or (seats_of path base item) a.byte no_seat ≡ seat_of path base item a.byte =
    get_or-map-range_with_len (seat_of path base item) 0 item.bytes a.byte a.byte no_seat low (omega arith) in
    record {
      byte = a.byte;
      inside = low;
      order_is = sym (ap (λ (s : Seat). s.order) at) ∙ a.order_is;
      address_is = sym (ap (λ (s : Seat). s.address) at) ∙ a.address_is;
    }

-- each word of an item has a byte, whose seat is the word's
pub seated : (path : List Level) (base : ℕ) (item : Location) → IsPath path → item.bytes ≤ 8 → (k : ℕ) → k < length (item_words path base item)
    → Seated path base item (get_or (item_words path base item) k no_word)
seated path base item ok size k inside =
    let seats = seats_of path base item in
    let n = slots item.bytes path in
    let apart = apart_of path base item (seats_apart path base item ok size) in
    let listed : k < length (orders_below seats n) = simp length-map at inside in
    seated_from path base item _ (word_has_byte seats n k apart listed)

same_number : (path : List Level) (base : ℕ) (item : Location) → IsPath path → item.bytes ≤ 8 → (i k : ℕ) → i < length (item_words path base item) → k < length (item_words path base item)
    → (get_or (item_words path base item) i no_word).order ≡ (get_or (item_words path base item) k no_word).order → i ≡ k
same_number path base item ok size i k p q e =
    let seats = seats_of path base item in
    let n = slots item.bytes path in
    let low : (j : ℕ) → j < length (item_words path base item) → j < length (orders_below seats n) = λ j inside. simp length-map at inside in
    let number : (j : ℕ) → j < length (item_words path base item) → number_of seats (get_or (item_words path base item) j no_word).order ≡ j =
    λ j inside. ap (λ (w : Word). number_of seats w.order) (words_at seats n j (low j inside)) ∙ (is_listed seats n j (low j inside)).number in
    sym (number i p) ∙ ap (number_of seats) e ∙ number k q

-- outside FIFO paths a word is told by its address: its location, and its number there
pub words_apart : (path : List Level) (base : ℕ) (item : Location) → IsPath path → item.bytes ≤ 8 → has_fifo path ≡ false
    → (m n i k : ℕ)
    → ((j : ℕ) → j < item.bytes → IsAligned (access_of (record item { index = m }) j) path)
    → ((j : ℕ) → j < item.bytes → IsAligned (access_of (record item { index = n }) j) path)
    → i < length (item_words path base (record item { index = m })) → k < length (item_words path base (record item { index = n }))
    → (get_or (item_words path base (record item { index = m })) i no_word).address ≡ (get_or (item_words path base (record item { index = n })) k no_word).address
    → (m ≡ n) × (i ≡ k)
words_apart path base item ok size plain m n i k al_m al_n p q e =
    let a = seated path base (record item { index = m }) ok size i p in
    let b = seated path base (record item { index = n }) ok size k q in
    let same = addresses_apart path base item ok size m n a.byte b.byte a.inside b.inside plain (al_m a.byte a.inside) (al_n b.byte b.inside)
    (a.address_is ∙ e ∙ sym b.address_is) in
    let order : (get_or (item_words path base (record item { index = m })) i no_word).order ≡ (get_or (item_words path base (record item { index = n })) k no_word).order =
    sym a.order_is ∙ same.1 ∙ b.order_is in
    let at_n : (x : ℕ) → x ≡ n → i < length (item_words path base (record item { index = x }))
    → (get_or (item_words path base (record item { index = x })) i no_word).order ≡ (get_or (item_words path base (record item { index = n })) k no_word).order → i ≡ k =
    λ x h low o. same_number path base (record item { index = n }) ok size i k
    (subst (λ x. i < length (item_words path base (record item { index = x }))) h low) q
    (subst (λ x. (get_or (item_words path base (record item { index = x })) i no_word).order ≡ (get_or (item_words path base (record item { index = n })) k no_word).order) h o) in
    (same.0, at_n m same.0 p order)
