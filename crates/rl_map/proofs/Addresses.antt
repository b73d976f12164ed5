use Rattle.std.proofs.Common.{◌≡◌, ℕ, ◌+◌, ◌*◌, ◌/◌, ◌%◌, ◌<◌, ◌≤◌, Bool, true, false, cond, List, [], ◌∷◌, arith, sym, ap, ◌∙◌, refl}
use Rattle.std.specs.Int.{div_ceil}
use Rattle.std.specs.List.{AllByRecursion}
use Rattle.std.proofs.lemmas.List.Elements.{recursion_from_All}
use Rattle.rl_map.specs.declared.path.Kind.{Kind}
use Rattle.rl_map.specs.declared.path.Level.{Level}
use Rattle.rl_map.specs.declared.seat.Access.{Access}
use Rattle.rl_map.specs.declared.seat.Location.{Location}
use Rattle.rl_bus.specs.Lanes.{IsWidth}
use Rattle.rl_map.specs.Level.{IsPath, stride_of, is_fifo, has_fifo}
use Rattle.rl_map.specs.Access.{IsAccess, IsAligned, carried, through, climb, place_in_time}
use Rattle.rl_map.specs.Seat.{access_of, AddressesApart}
use Rattle.rl_map.proofs.Chunks.{by_width, place_lt, chunk_lt, through_access}
use Rattle.rl_map.proofs.Apart.{Wide, moved, place_same}
use Rattle.rl_map.proofs.Spacing.{Spread, address_plain, same_word, same_mixed, same_byte, spaced_byte, spaced_word}
use Rattle.rl_map.proofs.Bools.{or_false}

-- no map of the path sends its words to one address
abbrev pub Plain : List Level → Type 0
Plain path = AllByRecursion (λ map. is_fifo map.kind ≡ false) path

abbrev pub carry : Bool → Bool → ℕ → ℕ → ℕ → ℕ → ℕ
carry word parent A b c n = cond word (A * c * cond parent 1 n) (cond parent (A / b * c) A)

pub width_pos : (n : ℕ) → IsWidth n → 0 < n
width_pos n w = by_width (λ n. 0 < n) n w (omega arith) (omega arith) (omega arith) (omega arith)

-- one level: equal addresses come from equal addresses and equal chunks
level_same : (word parent : Bool) (kind : Kind) (off A B b c n i j : ℕ) → is_fifo kind ≡ false → IsWidth n → i / n < c → j / n < c → Spread word A B i j
    → (word ≡ false → parent ≡ true → A % b ≡ 0) → (word ≡ false → parent ≡ true → B % b ≡ 0)
    → off + carry word parent A b c n + cond parent 1 n * place_in_time kind c (i / n) ≡ off + carry word parent B b c n + cond parent 1 n * place_in_time kind c (j / n)
    → (A ≡ B) × (i / n ≡ j / n)
level_same true true kind off A B b c n i j plain w low_i low_j sp round_a round_b e =
    let s = same_word off A B c 1 _ _ (omega arith) (place_lt kind c _ low_i) (place_lt kind c _ low_j) e in
    (s.0, place_same kind c _ _ low_i low_j s.1)
level_same true false kind off A B b c n i j plain w low_i low_j sp round_a round_b e =
    let s = same_word off A B c n _ _ (width_pos n w) (place_lt kind c _ low_i) (place_lt kind c _ low_j) e in
    (s.0, place_same kind c _ _ low_i low_j s.1)
level_same false true kind off A B b c n i j plain w low_i low_j sp round_a round_b e =
    let s = same_mixed off A B b c _ _ (round_a refl refl) (round_b refl refl) (place_lt kind c _ low_i) (place_lt kind c _ low_j) e in
    (s.0, place_same kind c _ _ low_i low_j s.1)
level_same false false kind off A B b c n i j plain w low_i low_j sp round_a round_b e =
    same_byte kind off A B c n i j plain sp (width_pos n w) low_i low_j e

-- one level: what is spread stays spread
level_spread : (word parent : Bool) (off A B b c n i j p q : ℕ) → IsWidth n → Spread word A B i j
    → Spread parent (off + carry word parent A b c n + cond parent 1 n * p) (off + carry word parent B b c n + cond parent 1 n * q) (i % n) (j % n)
level_spread true true off A B b c n i j p q w sp = tt
level_spread false true off A B b c n i j p q w sp = tt
level_spread true false off A B b c n i j p q w sp = spaced_word off A B c n i j p q w
level_spread false false off A B b c n i j p q w sp = spaced_byte off A B c n i j p q w sp

pub record SameAddress (a b : Access) (up : List Level) : Type 0 where
  pub address : a.address ≡ b.address
  pub order : a.order ≡ b.order → (climb a up).order ≡ (climb b up).order

pub same_address : (up : List Level) → Wide up → Plain up → (a : Access) (address byte order : ℕ) → IsAccess a → byte < a.bytes
    → Spread a.word a.address address a.byte byte → IsAligned a up → IsAligned (moved a address byte order) up
    → (climb a up).address ≡ (climb (moved a address byte order) up).address → SameAddress a (moved a address byte order) up
same_address [] w plain a address byte order ok within sp al_a al_b e = record { address = e; order = λ h. h }
same_address (m ∷ up) w plain a address byte order ok within sp al_a al_b e =
    let b = moved a address byte order in
    let n = m.bytes in
    let count = div_ceil a.bytes n in
    let low_a = chunk_lt a.bytes n a.byte ok.within w.0 in
    let low_b = chunk_lt a.bytes n byte within w.0 in
    let start_a = a.offset + carried a m in
    let start_b = b.offset + carried b m in
    let plain_a = address_plain m.kind start_a (stride_of m) count (a.byte / n) plain.0 in
    let plain_b = address_plain m.kind start_b (stride_of m) count (byte / n) plain.0 in
    let above = same_address up w.1 plain.1 (through a m) (through b m).address (through b m).byte (through b m).order
    (through_access a m w.0) (through_access b m w.0).within
    (rw (plain_a, plain_b) (level_spread a.word m.word a.offset a.address address a.bytes count n a.byte byte _ _ w.0 sp))
    al_a.1 al_b.1 e in
    let level = level_same a.word m.word m.kind a.offset a.address address a.bytes count n a.byte byte plain.0 w.0 low_a low_b sp al_a.0 al_b.0
    (sym plain_a ∙ above.address ∙ plain_b) in
    record {
      address = level.0;
      order = λ h. above.order (ap (λ x. x * count + place_in_time m.kind count (a.byte / n)) h ∙ ap (λ i. order * count + place_in_time m.kind count i) level.1);
    }

pub plain_of : (path : List Level) → has_fifo path ≡ false → Plain path
plain_of [] e = tt
plain_of (level ∷ up) e = let h = or_false (is_fifo level.kind) (has_fifo up) e in (h.0, plain_of up h.1)

pub addresses_apart : (path : List Level) (base : ℕ) (item : Location) → IsPath path → item.bytes ≤ 8 → AddressesApart path base item
addresses_apart path base item ok size m n i j p q plain al_i al_j e =
    let w = recursion_from_All (λ level. IsWidth level.bytes) path ok.widths in
    let s = same_address path w (plain_of path plain) (access_of (record item { index = m }) i) n j 0 (record { within = p; most = size }) q tt al_i al_j (omega arith) in
    (s.address, s.order refl)
