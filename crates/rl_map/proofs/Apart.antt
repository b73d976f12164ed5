use Rattle.std.proofs.Common.{◌≡◌, ℕ, ◌+◌, ◌*◌, ◌/◌, ◌%◌, ◌<◌, ◌≤◌, List, [], ◌∷◌, arith, sym, ap, ◌∙◌, refl}
use Rattle.std.specs.Int.{div_ceil}
use Rattle.std.specs.List.{AllByRecursion}
use Rattle.std.proofs.Math.Nat.{mul_assoc, mul-le-mul_right, le_trans}
use Rattle.std.proofs.lemmas.List.Elements.{recursion_from_All}
use Rattle.std.proofs.lemmas.Nat.{same_from_place, div-add-mod'}
use Rattle.rl_map.specs.declared.path.Kind.{Kind}
use Rattle.rl_map.specs.declared.path.Kind.TheVariants.{Little, Big, LittleFifo, BigFifo}
use Rattle.rl_map.specs.declared.path.Level.{Level}
use Rattle.rl_map.specs.declared.seat.Access.{Access}
use Rattle.rl_bus.specs.Lanes.{IsWidth}
use Rattle.rl_map.specs.Level.{IsPath, stride_of}
use Rattle.rl_map.specs.Access.{IsAccess, carried, through, climb, place_in_time, address_of}
use Rattle.rl_map.specs.declared.seat.Location.{Location}
use Rattle.rl_map.specs.Seat.{access_of, slots, SeatsApart}
use Rattle.rl_map.proofs.Chunks.{place_lt, chunk_lt, through_access}

-- the widths of a path
abbrev pub Wide : List Level → Type 0
Wide path = AllByRecursion (λ map. IsWidth map.bytes) path

-- an access of the same width and place, at another address, byte and order
abbrev pub moved : Access → ℕ → ℕ → ℕ → Access
moved a address byte order = record a { address = address; byte = byte; order = order }

pub place_same : (kind : Kind) (count i j : ℕ) → i < count → j < count → place_in_time kind count i ≡ place_in_time kind count j → i ≡ j
place_same Little count i j p q e = e
place_same Big count i j p q e = omega arith
place_same LittleFifo count i j p q e = e
place_same BigFifo count i j p q e = omega arith

-- two bytes of one chunk and one lane are one byte
byte_same : (n i j : ℕ) → i / n ≡ j / n → i % n ≡ j % n → i ≡ j
byte_same n i j chunk lane = sym (div-add-mod' i n) ∙ (ap (λ x. x * n + i % n) chunk ∙ ap (λ x. j / n * n + x) lane) ∙ div-add-mod' j n

-- what one order of two bytes at the top says of them below
pub record SameOrder (a b : Access) (up : List Level) : Type 0 where
  pub order : a.order ≡ b.order
  pub byte : (climb a up).byte ≡ (climb b up).byte → a.byte ≡ b.byte
  pub address : a.address ≡ b.address → (climb a up).address ≡ (climb b up).address

pub same_order : (up : List Level) → Wide up → (a : Access) (address byte order : ℕ) → IsAccess a → byte < a.bytes
    → (climb a up).order ≡ (climb (moved a address byte order) up).order → SameOrder a (moved a address byte order) up
same_order [] w a address byte order ok within e = record { order = e; byte = λ h. h; address = λ h. h }
same_order (m ∷ up) w a address byte order ok within e =
    let b = moved a address byte order in
    let n = m.bytes in
    let count = div_ceil a.bytes n in
    let above = same_order up w.1 (through a m) (through b m).address (through b m).byte (through b m).order
    (through_access a m w.0) (through_access b m w.0).within e in
    let low_a = chunk_lt a.bytes n a.byte ok.within w.0 in
    let low_b = chunk_lt a.bytes n byte within w.0 in
    let level = same_from_place a.order _ order _ count (place_lt m.kind count _ low_a) (place_lt m.kind count _ low_b) above.order in
    let chunk = place_same m.kind count _ _ low_a low_b level.1 in
    record {
      order = level.0;
      byte = λ h. byte_same n a.byte byte chunk (above.byte h);
      address = λ h. above.address
          (ap (λ x. address_of m.kind (a.offset + carried (moved a x byte order) m) (stride_of m) count (a.byte / n)) h
          ∙ ap (λ i. address_of m.kind (a.offset + carried b m) (stride_of m) count i) chunk);
    }

fill_le : (order count place : ℕ) → place < count → order * count + place + 1 ≤ (order + 1) * count
fill_le order count place below = omega arith

-- orders are numbers of mixed digits: each is below the product of the counts
pub order_lt-slots : (up : List Level) → Wide up → (a : Access) → IsAccess a → (climb a up).order < (a.order + 1) * slots a.bytes up
order_lt-slots [] w a ok = omega arith
order_lt-slots (m ∷ up) w a ok =
    let count = div_ceil a.bytes m.bytes in
    let above = order_lt-slots up w.1 (through a m) (through_access a m w.0) in
    let fill = fill_le a.order count _ (place_lt m.kind count _ (chunk_lt a.bytes m.bytes a.byte ok.within w.0)) in
    le_trans above (rw (← mul_assoc (a.order + 1) count (slots m.bytes up)) (mul-le-mul_right (slots m.bytes up) fill))

pub lane_lt : (up : List Level) → Wide up → (a : Access) → IsAccess a → (climb a up).byte < 8
lane_lt [] w a ok = omega (arith, ok.within, ok.most)
lane_lt (m ∷ up) w a ok = lane_lt up w.1 (through a m) (through_access a m w.0)

pub seats_apart : (path : List Level) (base : ℕ) (item : Location) → IsPath path → item.bytes ≤ 8 → SeatsApart path base item
seats_apart path base item ok size =
    let w = recursion_from_All (λ map. IsWidth map.bytes) path ok.widths in
    let access : (i : ℕ) → i < item.bytes → IsAccess (access_of item i) = λ i h. record { within = h; most = size } in
    record {
      distinct = λ i j p q order lane. (same_order path w (access_of item i) item.index j 0 (access i p) q order).byte lane;
      one_address = λ i j p q order. ap (λ x. base + x) ((same_order path w (access_of item i) item.index j 0 (access i p) q order).address refl);
      order_in = λ i p. omega (arith, order_lt-slots path w (access_of item i) (access i p));
      lane_in = λ i p. lane_lt path w (access_of item i) (access i p);
    }
