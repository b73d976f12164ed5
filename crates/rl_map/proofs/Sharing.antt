-- The first clash of rows is the first refusal for a shared address.
use Rattle.std.proofs.Common.{◌≡◌, ◌≢◌, ℕ, zero, suc, ◌+◌, ◌*◌, ◌^◌, ◌<◌, ◌≤◌, Bool, true, false, not, ◌==◌, ◌&&◌, ◌||◌}
use Rattle.std.proofs.Common.{List, length, get_or, Option, refl, sym, ap, ◌∙◌, subst, arith, eqb-true, eq-eqb}
use Rattle.std.specs.Prelude.{All, IsPermutation}
use Rattle.std.specs.List.{list_any, range_with_len}
use Rattle.std.proofs.lemmas.List.FromFn.{get_or-map-range_with_len, length-map-range_with_len}
use Rattle.std.proofs.lemmas.List.Sorted.{Contains-permutation}
use Rattle.rl_bus.specs.declared.table.WordRow.{WordRow}
use Rattle.rl_map.specs.declared.path.Level.{Level}
use Rattle.rl_map.specs.declared.seat.Seat.{Seat}
use Rattle.rl_map.specs.declared.seat.Location.{Location}
use Rattle.rl_map.specs.declared.rows.PlaceRow.{PlaceRow}
use Rattle.rl_map.specs.declared.shared.Shared.{Shared}
use Rattle.rl_map.specs.Level.{IsPath}
use Rattle.rl_map.specs.Seat.{seat_of}
use Rattle.rl_map.specs.Words.{seats_of, item_words, no_seat, no_word}
use Rattle.rl_map.specs.Partition.{number_of}
use Rattle.rl_map.specs.Layout.{LayoutData, no_place, place_at, path_of, base_of, location_of, words_of, seat_at, row_of, has_right, index_of, key_of, IsLocation, IsRowOf}
use Rattle.rl_map.specs.Maps.{all_rows}
use Rattle.rl_map.specs.Faults.{Placed, address_in, stands_on, share_right, clash}
use Rattle.rl_map.specs.Building.{placed_in, rows_clash}
use Rattle.rl_map.specs.Clashes.{shared_by, NotAfter, IsMade, IsLeast}
use Rattle.rl_map.proofs.Partition.{words_partition}
use Rattle.rl_map.proofs.WordsApart.{seated}
use Rattle.rl_map.proofs.Lookups.{default_any}
use Rattle.rl_map.proofs.Growing.{is_some_of}
use Rattle.rl_map.proofs.Sound.{IsTested, is_path}
use Rattle.rl_map.proofs.Closing.{row_in}
use Rattle.std.proofs.lemmas.Nat.{same_from_place}
use Rattle.rl_map.proofs.Bools.{and_true, both, differ, lt_false, lt_true, three}

-- ---- bytes and words

-- some byte of the location stands with the word's address, and some word with a byte's
pub record WordAt (l : LayoutData) (p i address : ℕ) : Type 0 where
  pub number : ℕ
  pub inside : number < length (words_of l p i)
  pub address_is : (get_or (words_of l p i) number no_word).address ≡ address

byte_word : (path : List Level) (base : ℕ) (item : Location) → IsPath path → item.bytes ≤ 8 → (j : ℕ) → j < item.bytes
    → (k : ℕ) × (k < length (item_words path base item)) × ((get_or (item_words path base item) k no_word).address ≡ (seat_of path base item j).address)
byte_word path base item ok size j low =
    let seats = seats_of path base item in
    let words = item_words path base item in
    let long : length seats ≡ item.bytes = length-map-range_with_len (seat_of path base item) 0 item.bytes in
    let at : get_or seats j no_seat ≡ seat_of path base item j = get_or-map-range_with_len (seat_of path base item) 0 item.bytes j j no_seat low (omega arith) in
    let whole = words_partition path base item ok size in
    let inside : j < length seats = omega (arith, long) in
    let placed = whole.placed j inside in
    let k = number_of seats (get_or seats j no_seat).order in
    let lane = (get_or seats j no_seat).lane in
    let sound = whole.sound k lane placed.0 (whole.lane_in j inside) placed.1.enabled in
    let there : get_or seats j no_seat ≡ record { order = (get_or words k no_word).order; address = (get_or words k no_word).address; lane = lane } =
    subst (λ b. get_or seats b no_seat ≡ record { order = (get_or words k no_word).order; address = (get_or words k no_word).address; lane = lane }) placed.1.byte_is sound.2 in
    (k, placed.0, sym (ap (λ (s : Seat). s.address) there) ∙ ap (λ (s : Seat). s.address) at)

pub word_at_byte : (l : LayoutData) → IsTested l → (p i j : ℕ) → IsLocation l p i → j < (place_at l p).bytes → WordAt l p i (seat_at l p i j).address
unfolding words_of
word_at_byte l t p i j loc low =
    let h = byte_word (path_of l p) (base_of l p) (location_of (place_at l p) i) (is_path l t p loc.place_in) (t.each_place p loc.place_in).most j low in
    record { number = h.0; inside = h.1; address_is = h.2 }

pub record ByteAt (l : LayoutData) (p i address : ℕ) : Type 0 where
  pub byte : ℕ
  pub inside : byte < (place_at l p).bytes
  pub address_is : (seat_at l p i byte).address ≡ address

pub byte_at_word : (l : LayoutData) → IsTested l → (p i k : ℕ) → IsLocation l p i → k < length (words_of l p i) → ByteAt l p i (get_or (words_of l p i) k no_word).address
unfolding words_of
byte_at_word l t p i k loc inside =
    let h = seated (path_of l p) (base_of l p) (location_of (place_at l p) i) (is_path l t p loc.place_in) (t.each_place p loc.place_in).most k inside in
    record { byte = h.byte; inside = h.inside; address_is = h.address_is }

-- ---- who stands at an address

any_index : (t : ℕ → Bool) (first n : ℕ) → list_any t (range_with_len first n) ≡ true → (j : ℕ) × (j < n) × (t (first + j) ≡ true)
any_index t first zero e = cc
any_index t first (suc n) e = by (t first) refl e (any_index t (first + 1) n)
  where
    by : (b : Bool) → t first ≡ b → (b || list_any t (range_with_len (first + 1) n)) ≡ true
        → (list_any t (range_with_len (first + 1) n) ≡ true → (j : ℕ) × (j < n) × (t (first + 1 + j) ≡ true)) → (j : ℕ) × (j < suc n) × (t (first + j) ≡ true)
    by true p q more = (0, omega arith, subst (λ k. t k ≡ true) (let e : first ≡ first + 0 = omega arith in e) p)
    by false p q more = let h = more q in (suc h.0, omega (arith, h.1), subst (λ k. t k ≡ true) (let e : first + 1 + h.0 ≡ first + suc h.0 = omega arith in e) h.2)

some_index : (t : ℕ → Bool) (n : ℕ) → list_any t (range_with_len 0 n) ≡ true → (j : ℕ) × (j < n) × (t j ≡ true)
some_index t n e = let h = any_index t 0 n e in (h.0, h.1, subst (λ k. t k ≡ true) (let f : 0 + h.0 ≡ h.0 = omega arith in f) h.2)

-- a place as the definition of refusals has it
abbrev pub placed_of : LayoutData → ℕ → Placed
placed_of l p = placed_in l.maps l.ports (place_at l p)

pub record StandsAt (l : LayoutData) (p address : ℕ) : Type 0 where
  pub index : ℕ
  pub location : IsLocation l p index
  pub word : WordAt l p index address

pub stands_from : (l : LayoutData) → IsTested l → (p address : ℕ) → p < length l.places → stands_on address (placed_of l p) ≡ true → StandsAt l p address
stands_from l t p address low e =
    let P = placed_of l p in
    let i = some_index (λ i. list_any (λ j. address_in P i j == address) (range_with_len 0 P.row.bytes)) P.row.size e in
    let j = some_index (λ j. address_in P i.0 j == address) P.row.bytes i.2 in
    let loc : IsLocation l p i.0 = record { place_in = low; index_in = i.1 } in
    record {
      index = i.0;
      location = loc;
      word = subst (WordAt l p i.0) (eqb-true (address_in P i.0 j.0) address j.2) (word_at_byte l t p i.0 j.0 loc j.1);
    }

pub stands_to : (l : LayoutData) → IsTested l → (p address : ℕ) → StandsAt l p address → stands_on address (placed_of l p) ≡ true
stands_to l t p address s =
    let P = placed_of l p in
    let b = byte_at_word l t p s.index s.word.number s.location s.word.inside in
    is_some_of (λ i. list_any (λ j. address_in P i j == address) (range_with_len 0 P.row.bytes)) P.row.size s.index s.location.index_in
    (is_some_of (λ j. address_in P s.index j == address) P.row.bytes b.byte b.inside (eq-eqb (address_in P s.index b.byte) address (b.address_is ∙ s.word.address_is)))

-- ---- two places at one address

and_comm : (a b : Bool) → (a && b) ≡ (b && a)
and_comm true true = refl
and_comm true false = refl
and_comm false true = refl
and_comm false false = refl

or_last : (x e f : Bool) → ((x || e) || f) ≡ ((x || f) || e)
or_last true e f = refl
or_last false true true = refl
or_last false true false = refl
or_last false false true = refl
or_last false false false = refl

-- the test on rights and paths alone
abbrev pub may_not_both : PlaceRow → PlaceRow → Bool
may_not_both p q = share_right p q || p.fifo || q.fifo

pub may_not_comm : (p q : PlaceRow) → may_not_both p q ≡ may_not_both q p
may_not_comm p q =
    ap (λ x. (x || (has_right p.rights true && has_right q.rights true)) || p.fifo || q.fifo) (and_comm (has_right p.rights false) (has_right q.rights false))
    ∙ ap (λ x. ((has_right q.rights false && has_right p.rights false) || x) || p.fifo || q.fifo) (and_comm (has_right p.rights true) (has_right q.rights true))
    ∙ or_last (share_right q p) p.fifo q.fifo

differ_from : (a b : ℕ) → not (a == b) ≡ true → a ≢ b
differ_from a b e f = absurd (let g = eq-eqb a b f in cc)

-- the later place, the earlier one, and where they stand together
pub record Shares (l : LayoutData) (p q address : ℕ) : Type 0 where
  pub less : q < p
  pub later_in : p < length l.places
  pub port : (place_at l q).port ≡ (place_at l p).port
  pub may_not : may_not_both (place_at l q) (place_at l p) ≡ true
  pub earlier : StandsAt l q address
  pub later : StandsAt l p address

shared_up : (r s : WordRow) → r.place < s.place → shared_by r s ≡ record { place = s.place; address = s.address; other = r.place }
shared_up r s h = rw (lt_true r.place s.place h) refl

shared_down : (r s : WordRow) → s.place < r.place → shared_by r s ≡ record { place = r.place; address = s.address; other = s.place }
shared_down r s h = rw (lt_false r.place s.place (omega arith)) refl

pair_least : (places : List PlaceRow) (rows : List WordRow) (best : Option Shared) → IsLeast places rows best → (x y : ℕ) (a b : WordRow) → x < y → y < length rows
    → get_or rows x a ≡ a → get_or rows y b ≡ b → key_of a ≡ key_of b → rows_clash places a b ≡ true → NotAfter best (shared_by a b)
pair_least places rows best least x y a b less low at_x at_y key clash =
    let far : get_or rows x b ≡ a = default_any rows x b a (omega arith) ∙ at_x in
    subst (λ c. NotAfter best (shared_by c b)) far (subst (λ c. NotAfter best (shared_by (get_or rows x b) c)) at_y
    (least x y b less low (ap key_of far ∙ key ∙ ap key_of (sym at_y))
    (subst (λ c. rows_clash places c (get_or rows y b) ≡ true) (sym far) (subst (λ c. rows_clash places a c ≡ true) (sym at_y) clash))))

-- what shares an address doesn't come before the least clash
pub shares_least : (l : LayoutData) → IsTested l → IsPermutation (all_rows l) l.rows → (best : Option Shared) → IsLeast l.places l.rows best → (p q address : ℕ) → Shares l p q address
    → NotAfter best (record { place = p; address = address; other = q })
shares_least l t moved best least p q address h =
    let kr = h.earlier.word in
    let ks = h.later.word in
    let w = get_or (words_of l q h.earlier.index) kr.number no_word in
    let v = get_or (words_of l p h.later.index) ks.number no_word in
    let r : WordRow = row_of l q h.earlier.index w in
    let s : WordRow = row_of l p h.later.index v in
    let at_r = Contains-permutation (all_rows l) l.rows r moved (row_in l q h.earlier.index kr.number h.earlier.location kr.inside) in
    let at_s = Contains-permutation (all_rows l) l.rows s moved (row_in l p h.later.index ks.number h.later.location ks.inside) in
    let key : key_of r ≡ key_of s = ap (λ x. x * 2 ^ 64 + w.address) h.port ∙ ap (λ x. (place_at l p).port * 2 ^ 64 + x) (kr.address_is ∙ sym ks.address_is) in
    let clash_rs : rows_clash l.places r s ≡ true = both _ _ (differ q p (λ e. absurd (omega (arith, e, h.less)))) h.may_not in
    let clash_sr : rows_clash l.places s r ≡ true = both _ _ (differ p q (λ e. absurd (omega (arith, e, h.less)))) (may_not_comm (place_at l p) (place_at l q) ∙ h.may_not) in
    let goal : Shared → Type 0 = λ x. NotAfter best x in
    three at_r.0 at_s.0
    (λ less. subst goal (shared_up r s h.less ∙ ap (λ a. let x : Shared = record { place = p; address = a; other = q } in x) ks.address_is)
    (pair_least l.places l.rows best least at_r.0 at_s.0 r s less at_s.1 at_r.2 at_s.2 key clash_rs))
    (λ less. subst goal (shared_down s r h.less ∙ ap (λ a. let x : Shared = record { place = p; address = a; other = q } in x) kr.address_is)
    (pair_least l.places l.rows best least at_s.0 at_r.0 s r less at_r.1 at_s.2 at_r.2 (sym key) clash_sr))
    (λ e. absurd (let g = ap (λ (x : WordRow). x.place) (sym at_r.2 ∙ ap (λ n. get_or l.rows n r) e ∙ default_any l.rows at_s.0 r s at_s.1 ∙ at_s.2) in omega (arith, g, h.less)))

-- what is made of two rows is shared
made_of : (l : LayoutData) → (r s : WordRow) → IsRowOf l r → IsRowOf l s → key_of r ≡ key_of s → rows_clash l.places r s ≡ true → r.place < s.place → Shares l s.place r.place s.address
made_of l r s a b key clash less =
    let w = get_or (words_of l r.place (index_of r.cell)) a.number no_word in
    let v = get_or (words_of l s.place (index_of s.cell)) b.number no_word in
    let same = same_from_place r.port r.address s.port s.address (2 ^ 64) a.low b.low key in
    let h = and_true (not (r.place == s.place)) _ clash in
    let reads_r = ap (λ (x : WordRow). x.reads) a.row in
    record {
      less = less;
      later_in = b.location.place_in;
      port = sym (ap (λ (x : WordRow). x.port) a.row) ∙ same.0 ∙ ap (λ (x : WordRow). x.port) b.row;
      may_not =
          ap (λ x. ((x && has_right (place_at l s.place).rights false) ||
          (has_right (place_at l r.place).rights true && has_right (place_at l s.place).rights true)) || (place_at l r.place).fifo || (place_at l s.place).fifo)
          (sym (ap (λ (x : WordRow). x.reads) a.row))
          ∙ ap (λ x. ((r.reads && x) || (has_right (place_at l r.place).rights true && has_right (place_at l s.place).rights true)) || (place_at l r.place).fifo || (place_at l s.place).fifo)
          (sym (ap (λ (x : WordRow). x.reads) b.row))
          ∙ ap (λ x. ((r.reads && s.reads) || (x && has_right (place_at l s.place).rights true)) || (place_at l r.place).fifo || (place_at l s.place).fifo)
          (sym (ap (λ (x : WordRow). x.writes) a.row))
          ∙ ap (λ x. ((r.reads && s.reads) || (r.writes && x)) || (place_at l r.place).fifo || (place_at l s.place).fifo)
          (sym (ap (λ (x : WordRow). x.writes) b.row))
          ∙ h.1;
      earlier = record { index = index_of r.cell; location = a.location; word = record { number = a.number; inside = a.number_in; address_is = sym (ap (λ (x : WordRow). x.address) a.row) ∙ same.1 } };
      later = record { index = index_of s.cell; location = b.location; word = record { number = b.number; inside = b.number_in; address_is = sym (ap (λ (x : WordRow). x.address) b.row) } };
    }

turned : (l : LayoutData) (r s : WordRow) → rows_clash l.places r s ≡ true → rows_clash l.places s r ≡ true
turned l r s e =
    let h = and_true (not (r.place == s.place)) _ e in
    both _ _ (differ s.place r.place (λ f. differ_from r.place s.place h.0 (sym f)))
    (ap (λ x. (x || (s.writes && r.writes)) || (get_or l.places s.place no_place).fifo || (get_or l.places r.place no_place).fifo) (and_comm s.reads r.reads)
    ∙ ap (λ x. ((r.reads && s.reads) || x) || (get_or l.places s.place no_place).fifo || (get_or l.places r.place no_place).fifo) (and_comm s.writes r.writes)
    ∙ or_last ((r.reads && s.reads) || (r.writes && s.writes)) (get_or l.places s.place no_place).fifo (get_or l.places r.place no_place).fifo ∙ h.1)

pub made_shares : (l : LayoutData) → All (IsRowOf l) l.rows → (e : WordRow) (s : Shared) → IsMade l.places l.rows s → Shares l s.place s.other s.address
made_shares l rows e s m =
    let x = get_or l.rows m.first e in
    let y = get_or l.rows m.second e in
    let a = rows m.first e (omega (arith, m.less, m.second_in)) in
    let b = rows m.second e m.second_in in
    let is = m.is e in
    let same = same_from_place x.port x.address y.port y.address (2 ^ 64) a.low b.low (m.key e) in
    three x.place y.place
    (λ less. let f = is ∙ shared_up x y less in
    subst (λ (z : Shared). Shares l z.place z.other z.address) (sym f) (made_of l x y a b (m.key e) (m.clash e) less))
    (λ less. let f = is ∙ shared_down x y less in
    subst (λ (z : Shared). Shares l z.place z.other z.address) (sym f)
    (subst (λ n. Shares l x.place y.place n) same.1 (made_of l y x b a (sym (m.key e)) (turned l x y (m.clash e)) less)))
    (λ f. absurd (differ_from x.place y.place (and_true (not (x.place == y.place)) _ (m.clash e)).0 f))
