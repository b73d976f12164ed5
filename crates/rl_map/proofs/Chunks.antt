use Rattle.std.proofs.Common.{◌≡◌, ℕ, ◌+◌, ◌-◌, ◌*◌, ◌/◌, ◌%◌, ◌^◌, ◌<◌, ◌≤◌, inl, inr, subst, sym, ap, ◌∙◌, arith, Bool, true, false, cond, List, length, get_or, drop, add-one, ◌||◌, ◌==◌, refl, eqb-true}
use Rattle.std.proofs.lemmas.Nat.{mul-le}
use Rattle.std.proofs.Math.Nat.{mul-le-mul_left, mul_comm, mul_assoc, pow-suc, div-le_self}
use Rattle.std.specs.Int.{div_ceil}
use Rattle.rl_map.specs.declared.path.Kind.{Kind}
use Rattle.rl_map.specs.declared.path.Kind.TheVariants.{Little, Big, LittleFifo, BigFifo}
use Rattle.rl_map.specs.declared.path.Level.{Level}
use Rattle.rl_map.specs.declared.seat.Access.{Access}
use Rattle.rl_bus.specs.Lanes.{IsWidth}
use Rattle.rl_map.specs.Level.{stride_of}
use Rattle.rl_map.specs.Seat.{slots}
use Rattle.rl_map.proofs.Lists.{drop_at, nothing_from}
use Rattle.rl_map.specs.Faults.{is_width}
use Rattle.rl_map.specs.Access.{IsAccess, carried, through, place_in_time, address_of}

-- what holds at each of the four widths holds at every width
pub by_width : (P : ℕ → Type 0) (n : ℕ) → IsWidth n → P 1 → P 2 → P 4 → P 8 → P n
by_width P n (inl e) one two four eight = subst P (sym e) one
by_width P n (inr (inl e)) one two four eight = subst P (sym e) two
by_width P n (inr (inr (inl e))) one two four eight = subst P (sym e) four
by_width P n (inr (inr (inr e))) one two four eight = subst P (sym e) eight

pub some_width : {n : ℕ} → IsWidth n → 0 < n
some_width {n} w = by_width (λ n. 0 < n) n w (omega arith) (omega arith) (omega arith) (omega arith)

pub count_le : (b n : ℕ) → b ≤ 8 → IsWidth n → div_ceil b n ≤ 8
count_le b n small w = grind arith

pub span_le : (b n : ℕ) → b ≤ 8 → IsWidth n → div_ceil b n * n ≤ 8
span_le b n small w = by_width (λ n. div_ceil b n * n ≤ 8) n w (omega arith) (omega arith) (omega arith) (omega arith)

pub chunk_lt : (b n j : ℕ) → j < b → IsWidth n → j / n < div_ceil b n
chunk_lt b n j within w = by_width (λ n. j / n < div_ceil b n) n w (omega arith) (omega arith) (omega arith) (omega arith)

-- the words of an access span at most 8 units
pub reach_le : (a : Access) (m : Level) → IsAccess a → IsWidth m.bytes → div_ceil a.bytes m.bytes * stride_of m ≤ 8
reach_le a m ok w = elim m.word as (λ word. div_ceil a.bytes m.bytes * cond word 1 m.bytes ≤ 8)
    [ true ↦ omega (arith, count_le a.bytes m.bytes ok.most w) | false ↦ span_le a.bytes m.bytes ok.most w ]

-- the words of an address that are carried fit their type
pub part_fits : (A b c : ℕ) → A < 2 ^ 100 → c ≤ 8 → A / b * c < 2 ^ 128
part_fits A b c low few = omega (arith, mul-le (A / b) c A 8 (div-le_self A b) few)

carry_le : (word parent_word : Bool) (A b n c : ℕ) → c ≤ 8 → c * n ≤ 8 → cond word (A * c * cond parent_word 1 n) (cond parent_word (A / b * c) A) ≤ 8 * A
carry_le true true A b n c few short = omega (arith, mul-le-mul_left A few)
carry_le true false A b n c few short = omega (arith, mul-le-mul_left A short)
carry_le false true A b n c few short = omega (arith, mul-le (A / b) c A 8 (div-le_self A b) few)
carry_le false false A b n c few short = omega arith

pub carried_le : (a : Access) (m : Level) → IsAccess a → IsWidth m.bytes → carried a m ≤ 8 * a.address
carried_le a m ok w =
    carry_le a.word m.word a.address a.bytes m.bytes _ (count_le a.bytes m.bytes ok.most w) (span_le a.bytes m.bytes ok.most w)

-- a place is below the number of chunks, and an address is at most the places further
pub place_lt : (kind : Kind) (count i : ℕ) → i < count → place_in_time kind count i < count
place_lt Little count i below = below
place_lt Big count i below = omega arith
place_lt LittleFifo count i below = below
place_lt BigFifo count i below = omega arith

step_le : (kind : Kind) (start stride count i : ℕ) → i < count → address_of kind start stride count i ≤ start + stride * count
step_le Little start stride count i below =
    let few : i ≤ count = omega arith in omega (arith, mul-le-mul_left stride few)
step_le Big start stride count i below =
    let few : count - 1 - i ≤ count = omega arith in omega (arith, mul-le-mul_left stride few)
step_le LittleFifo start stride count i below = omega arith
step_le BigFifo start stride count i below = omega arith

-- an access that has gone through a map is a byte of one of that map's words
pub through_access : (a : Access) (m : Level) → IsWidth m.bytes → IsAccess (through a m)
through_access a m w = record {
  within = by_width (λ n. a.byte % n < n) m.bytes w (omega arith) (omega arith) (omega arith) (omega arith);
  most = by_width (λ n. n ≤ 8) m.bytes w (omega arith) (omega arith) (omega arith) (omega arith);
}

mixed_lt : (order count place X : ℕ) → count ≤ 8 → place < count → order < X → order * count + place < 8 * X
mixed_lt order count place X few below low = omega (arith, mul-le-mul_left order few)

pub order_lt : (a : Access) (m : Level) (X : ℕ) → IsAccess a → IsWidth m.bytes → a.order < X → (through a m).order < 8 * X
order_lt a m X ok w low =
    mixed_lt a.order _ _ X (count_le a.bytes m.bytes ok.most w) (place_lt m.kind _ _ (chunk_lt a.bytes m.bytes a.byte ok.within w)) low

far_lt : (address off A carry reach X : ℕ) → address ≤ off + carry + reach → carry ≤ 8 * A → reach ≤ 8 → off < 2 ^ 64 → A < 2 ^ 68 * X → address < 2 ^ 68 * (16 * X)
far_lt address off A carry reach X step few near offset_fits fits = omega arith

pub address_lt : (a : Access) (m : Level) (X : ℕ) → IsAccess a → IsWidth m.bytes → a.offset < 2 ^ 64 → a.address < 2 ^ 68 * X → (through a m).address < 2 ^ 68 * (16 * X)
address_lt a m X ok w offset_fits fits =
    far_lt _ a.offset a.address (carried a m) (stride_of m * div_ceil a.bytes m.bytes) X
    (step_le m.kind _ (stride_of m) _ _ (chunk_lt a.bytes m.bytes a.byte ok.within w))
    (carried_le a m ok w)
    (rw (mul_comm (stride_of m) (div_ceil a.bytes m.bytes)) (reach_le a m ok w))
    offset_fits fits

-- ---- how many orders there are, map by map

pub slots_next : (s bytes count : ℕ) (path : List Level) (i : ℕ) (d : Level) (total : ℕ) → i < length path → count ≡ div_ceil bytes (get_or path i d).bytes
    → s * slots bytes (drop i path) ≡ total → s * count * slots (get_or path i d).bytes (drop (i + 1) path) ≡ total
slots_next s bytes count path i d total low is was =
    ap (λ n. s * n * slots (get_or path i d).bytes (drop (i + 1) path)) is
    ∙ mul_assoc s (div_ceil bytes (get_or path i d).bytes) (slots (get_or path i d).bytes (drop (i + 1) path))
    ∙ ap (λ up. s * slots bytes up) (sym (drop_at path i d low)) ∙ was

pub slots_done : (s bytes total : ℕ) (path : List Level) (i : ℕ) → length path ≤ i → s * slots bytes (drop i path) ≡ total → s ≡ total
slots_done s bytes total path i high was = let e = ap (λ up. s * slots bytes up) (nothing_from path i high) in omega (arith, e, was)

pub more_slots : (s count i : ℕ) → s ≤ 8 ^ i → count ≤ 8 → s * count ≤ 8 ^ (i + 1)
more_slots s count i few some = rw (add-one, pow-suc) (mul-le s count (8 ^ i) 8 few some)

-- a number that the test lets through is a width
pub width_from : (n : ℕ) → is_width n ≡ true → IsWidth n
width_from n h = by (n == 1) (n == 2) (n == 4) (n == 8) refl refl refl refl h
  where
    by : (a b c d : Bool) → (n == 1) ≡ a → (n == 2) ≡ b → (n == 4) ≡ c → (n == 8) ≡ d → (a || b || c || d) ≡ true → IsWidth n
    by true b c d p q r s e = inl (eqb-true n 1 p)
    by false true c d p q r s e = inr (inl (eqb-true n 2 q))
    by false false true d p q r s e = inr (inr (inl (eqb-true n 4 r)))
    by false false false true p q r s e = inr (inr (inr (eqb-true n 8 s)))
    by false false false false p q r s e = cc
