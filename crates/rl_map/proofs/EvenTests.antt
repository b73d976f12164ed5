-- What is tested of the first locations of a place holds of all.
use Rattle.std.proofs.Common.{◌≡◌, ℕ, zero, suc, ◌+◌, ◌*◌, ◌%◌, ◌<◌, ◌≤◌, Bool, true, false, not, ◌==◌, ◌&&◌, ◌||◌, List, [], ◌∷◌, nat_lt, refl, sym, ap, ◌∙◌, subst, arith}
use Rattle.std.specs.List.{list_any, range_with_len}
use Rattle.std.proofs.Math.Nat.{mul-le-mul_right}
use Rattle.std.proofs.lemmas.Bool.Decides.{nat_tests}
use Rattle.std.proofs.lemmas.List.Elements.{recursion_from_All}
use Rattle.rl_bus.specs.Lanes.{IsWidth}
use Rattle.rl_map.specs.declared.path.Level.{Level}
use Rattle.rl_map.specs.declared.seat.Access.{Access}
use Rattle.rl_map.specs.declared.seat.Location.{Location}
use Rattle.rl_map.specs.declared.seat.Seat.{Seat}
use Rattle.rl_map.specs.Level.{IsPath}
use Rattle.rl_map.specs.Access.{IsAligned, through}
use Rattle.rl_map.specs.Seat.{access_of}
use Rattle.rl_map.specs.Layout.{location_of}
use Rattle.rl_map.specs.Faults.{Placed, address_in, is_above, is_askew, is_unaligned}
use Rattle.rl_map.specs.Locations.{AreStraight}
use Rattle.rl_map.proofs.Growing.{none_of, is_none_of}
use Rattle.rl_map.proofs.Closing.{aligned_from, straight_from}
use Rattle.rl_map.proofs.Even.{step_even, multiple_even, aligned_even, step_of, seat_even}
use Rattle.rl_map.proofs.Bools.{ge_from, or_false}

-- ---- one byte

no_step : (w l : Bool) (x : ℕ) → (w ≡ false → l ≡ true → x ≡ 0) → (not w && (l && not (x == 0))) ≡ false
no_step true l x h = refl
no_step false false x h = refl
no_step false true x h = let e : x ≡ 0 = h refl refl in rw e refl

neither : (a b : Bool) → a ≡ false → b ≡ false → (a || b) ≡ false
neither a b e f = rw (e, f) refl

not_askew : (path : List Level) (a : Access) → IsAligned a path → is_askew a path ≡ false
not_askew [] a h = refl
not_askew (level ∷ up) a h = neither _ _ (no_step a.word level.word (a.address % a.bytes) h.0) (not_askew up (through a level) h.1)

no_rest : (b : Bool) (x : ℕ) → (b ≡ true → x ≡ 0) → (b && not (x == 0)) ≡ false
no_rest false x h = refl
no_rest true x h = let e : x ≡ 0 = h refl in rw e refl

straight_here : (p : Placed) (index byte : ℕ) → is_unaligned p index byte ≡ false → IsAligned (access_of (location_of p.row index) byte) p.path
straight_here p index byte e = straight_from p.path (access_of (location_of p.row index) byte) (or_false _ _ e).1

round_here : (p : Placed) (index byte : ℕ) → is_unaligned p index byte ≡ false → p.port.kind.aligned ≡ true → address_in p index byte % p.port.bytes ≡ 0
round_here p index byte e on = aligned_from p.port.kind.aligned (address_in p index byte % p.port.bytes) (or_false _ _ e).0 on

-- where location `index` stands, if the first two are straight
stands : (p : Placed) (index byte : ℕ) → IsPath p.path → byte < p.row.bytes → IsAligned (access_of (location_of p.row 0) byte) p.path → IsAligned (access_of (location_of p.row 1) byte) p.path
    → address_in p index byte ≡ address_in p 0 byte + index * step_of p.path (location_of p.row 0)
stands p index byte ok low e f = ap (λ (s : Seat). s.address) (seat_even p.path p.port.base (location_of p.row 0) byte index ok low e f)

byte_even : (p : Placed) (index byte : ℕ) → IsPath p.path → 0 < p.port.bytes → byte < p.row.bytes → is_unaligned p 0 byte ≡ false → is_unaligned p 1 byte ≡ false → is_unaligned p index byte ≡ false
byte_even p index byte ok width low e f =
    let first = straight_here p 0 byte e in
    let second = straight_here p 1 byte f in
    let wide = recursion_from_All (λ level. IsWidth level.bytes) p.path ok.widths in
    let from : index ≡ 0 + index * 1 = omega arith in
    let straight : IsAligned (access_of (location_of p.row index) byte) p.path =
    subst (λ n. IsAligned (access_of (location_of p.row n) byte) p.path) (sym from)
    (aligned_even p.path wide (access_of (location_of p.row 0) byte) 1 index (omega arith) first second) in
    let step = step_of p.path (location_of p.row 0) in
    let one : 1 * step ≡ step = omega arith in
    neither _ _ (no_rest p.port.kind.aligned (address_in p index byte % p.port.bytes) (λ on.
    let a = round_here p 0 byte e on in
    let b : (address_in p 0 byte + step) % p.port.bytes ≡ 0 =
    ap (λ x. x % p.port.bytes) (sym (stands p 1 byte ok low first second ∙ ap (λ x. address_in p 0 byte + x) one)) ∙ round_here p 1 byte f on in
    ap (λ x. x % p.port.bytes) (stands p index byte ok low first second)
    ∙ multiple_even (address_in p 0 byte) step p.port.bytes index width a (step_even (address_in p 0 byte) step p.port.bytes width a b)))
    (not_askew p.path (access_of (location_of p.row index) byte) straight)

-- ---- all locations

-- a location has no byte for which a test holds
abbrev pub HasNone : ((index byte : ℕ) → Bool) → ℕ → ℕ → Type 0
HasNone test bytes index = list_any (test index) (range_with_len 0 bytes) ≡ false

pub none_unaligned : (p : Placed) → IsPath p.path → 0 < p.port.bytes → ((i : ℕ) → i < 2 → i < p.row.size → HasNone (is_unaligned p) p.row.bytes i)
    → (i : ℕ) → i < p.row.size → HasNone (is_unaligned p) p.row.bytes i
none_unaligned p ok width h zero low = h 0 (omega arith) low
none_unaligned p ok width h (suc zero) low = h 1 (omega arith) low
none_unaligned p ok width h (suc (suc i)) low =
    is_none_of (is_unaligned p (suc (suc i))) p.row.bytes (λ byte in_byte. byte_even p (suc (suc i)) byte ok width in_byte
    (none_of (is_unaligned p 0) p.row.bytes (h 0 (omega arith) (omega arith)) byte in_byte)
    (none_of (is_unaligned p 1) p.row.bytes (h 1 (omega arith) (omega arith)) byte in_byte))

not_under : (most a : ℕ) → a ≤ most → nat_lt most a ≡ false
not_under most a h = grind (arith, nat_tests)

no_more : (i last step : ℕ) → i ≤ last → i * step ≤ last * step
no_more i last step h = mul-le-mul_right step h

pub none_above : (p : Placed) (last : ℕ) → IsPath p.path → AreStraight p.path (location_of p.row 0) 2 → last + 1 ≡ p.row.size → HasNone (is_above p) p.row.bytes last
    → (i : ℕ) → i < p.row.size → HasNone (is_above p) p.row.bytes i
none_above p last ok straight size h i low =
    is_none_of (is_above p i) p.row.bytes (λ byte in_byte.
    let e = straight 0 byte (omega arith) in_byte in
    let f = straight 1 byte (omega arith) in_byte in
    let top = ge_from _ _ (none_of (is_above p last) p.row.bytes h byte in_byte) in
    not_under p.port.kind.most_address (address_in p i byte)
    (omega (arith, top, stands p last byte ok in_byte e f, stands p i byte ok in_byte e f, no_more i last (step_of p.path (location_of p.row 0)) (omega arith))))

-- what the tests on both locations say
pub straight_two : (path : List Level) (item : Location)
    → ((byte : ℕ) → byte < item.bytes → (is_askew (access_of (record item { index = 0 }) byte) path ≡ false) × (is_askew (access_of (record item { index = 1 }) byte) path ≡ false))
    → AreStraight path item 2
straight_two path item h zero byte low in_byte = straight_from path (access_of (record item { index = 0 }) byte) (h byte in_byte).0
straight_two path item h (suc zero) byte low in_byte = straight_from path (access_of (record item { index = 1 }) byte) (h byte in_byte).1
straight_two path item h (suc (suc i)) byte low in_byte = absurd (omega arith)

-- where only the locations from `first` on were tested
pub none_above_from : (p : Placed) (first : ℕ) → IsPath p.path → (0 < first → AreStraight p.path (location_of p.row 0) 2) → (0 < first → first + 1 ≡ p.row.size)
    → ((i : ℕ) → first ≤ i → i < p.row.size → HasNone (is_above p) p.row.bytes i) → (i : ℕ) → i < p.row.size → HasNone (is_above p) p.row.bytes i
none_above_from p zero ok even last h i low = h i (omega arith) low
none_above_from p (suc first) ok even last h i low =
    let size = last (omega arith) in
    none_above p (suc first) ok (even (omega arith)) size (h (suc first) (omega arith) (omega (arith, size))) i low
