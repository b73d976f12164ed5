-- What a choice of registers, bits and values rests on.
use Rattle.std.proofs.Common.{◌≡◌, ℕ, zero, suc, ◌+◌, ◌-◌, ◌*◌, ◌^◌, ◌%◌, ◌<◌, ◌≤◌, nat_lt, Bool, true, false, not, ◌||◌, ◌&&◌, length, bit_and, Option, None, Some, option_map, unwrap_or, slice_get}
use Rattle.std.proofs.Common.{refl, sym, ap, ◌∙◌, add-one, arith}
use Rattle.std.specs.Option.{option_map_or}
use Rattle.std.proofs.Math.Pow.{pow_mono}
use Rattle.std.proofs.lemmas.Nat.{and_mask, and-not, pow_pos}
use borrow.Author.Tests.{ltb-true, ltb-false}
use Rattle.rl_mirror.specs.Compared.{is_compared}
use Rattle.rl_model.specs.Chip.{IsSound, bytes_of}
use Rattle.rl_model.specs.Rows.{ChipData}
use Rattle.rl_model.specs.declared.rows.Field.{Field}
use Rattle.rl_model.specs.declared.rows.Item.{Item}
use Rattle.rl_model.specs.declared.rows.Item.TheVariants.{Reg, Mem}
use Rattle.rl_model.specs.Fields.{field_of, first_of, count_of, size_of}
use Rattle.rl_mirror.proofs.FieldLemmas.{field_answer, fields_within, row_of}
use Rattle.rl_policy.specs.Bits.{is_within}
use Rattle.rl_access.specs.Rules.{item_size}
use Rattle.rl_seq.specs.Choice.{any_below, is_read_only, low_bits, turned_round}

-- what is there is what stands for it
pub mapped_or : {A B : Type 0} (f : A → B) (o : Option A) (d n : B) → option_map f o ≡ Some n → option_map_or f o d ≡ n
mapped_or f None d n e = ap (λ x. unwrap_or x d) e
mapped_or f (Some y) d n e = ap (λ x. unwrap_or x d) e

bytes_are : (c : ChipData) (item : Item) (n : ℕ) → bytes_of c item ≡ Some n → item_size c item ≡ n
bytes_are c (Reg r) n e = mapped_or (λ r. r.bytes) (slice_get c.regs r) 0 n e
bytes_are c (Mem m) n e = mapped_or (λ m. m.bytes) (slice_get c.mems m) 0 n e

-- the lowest bits, as a mask takes them
pub low_is : (c : ChipData) (item : Item) (v n all : ℕ) → bytes_of c item ≡ Some n → all ≡ 2 ^ (8 * n) - 1
    → bit_and v all ≡ low_bits c item v
low_is c item v n all bytes is =
    ap (bit_and v) is ∙ and_mask v (8 * n) ∙ ap (λ k. v % 2 ^ (8 * k)) (sym (bytes_are c item n bytes))

pub turned_below : (v k : ℕ) → v < 2 ^ 64 → k ≤ 64 → bit_and (18446744073709551615 - v) (2 ^ k - 1) ≡ 2 ^ k - 1 - v % 2 ^ k
turned_below v k fits few =
    let some : 0 < 2 ^ k = pow_pos k in
    let most : 2 ^ k ≤ 18446744073709551616 = pow_mono few in
    let both : bit_and (18446744073709551615 - v) (2 ^ k - 1) + bit_and v (2 ^ k - 1) ≡ 2 ^ k - 1 = and-not 64 v (2 ^ k - 1) fits
    (omega (arith, some, most)) in
    let low : bit_and v (2 ^ k - 1) ≡ v % 2 ^ k = and_mask v k in
    omega (arith, both, low)

-- the bits of the item's bytes are turned round
pub is_turned : (c : ChipData) (item : Item) (v n all : ℕ) → v < 2 ^ 64 → n ≤ 8 → bytes_of c item ≡ Some n → all ≡ 2 ^ (8 * n) - 1
    → bit_and (18446744073709551615 - v) all ≡ turned_round c item v
is_turned c item v n all fits few bytes is =
    let size : item_size c item ≡ n = bytes_are c item n bytes in
    ap (bit_and (18446744073709551615 - v)) is ∙ turned_below v (8 * n) fits (omega (arith, few))
    ∙ ap (λ k. 2 ^ (8 * k) - 1 - v % 2 ^ (8 * k)) (sym size)

-- an item has at most 8 bytes
pub size_most : (c : ChipData) (reg : ℕ) → IsSound c → reg < length c.regs → size_of c reg ≤ 8
size_most c reg sound there =
    let (r, row) = row_of c reg there in
    let fits = sound.each_reg reg r row.at in
    omega (arith, row.size, fits.1)

-- ---- for some number below a count

or_true : (b : Bool) → (b || true) ≡ true
or_true true = refl
or_true false = refl

pub any_found : (p : ℕ → Bool) (n k : ℕ) → k < n → p k ≡ true → any_below n p ≡ true
any_found p zero k low is = absurd (omega (arith, low))
any_found p (suc n) k low is =
    elim (nat_lt k n) as (λ b. nat_lt k n ≡ b → (any_below n p || p n) ≡ true) [
      | true ↦ λ less. ap (λ b. b || p n) (any_found p n k (ltb-true k n less) is)
      | false ↦ λ not_less. let same : k ≡ n = let above = ltb-false k n not_less in omega (arith, above, low) in
          ap (λ b. any_below n p || b) (ap p (sym same) ∙ is) ∙ or_true (any_below n p)
    ] refl

pub any_more : (p : ℕ → Bool) (n : ℕ) → any_below n p ≡ false → p n ≡ false → any_below (n + 1) p ≡ false
any_more p n before now = ap (λ m. any_below m p) (add-one n) ∙ ap (λ b. b || p n) before ∙ now

-- the k-th field of a register, as it is asked for
field_asked : (c : ChipData) (reg first count k : ℕ) (f : Field) → IsSound c → reg < length c.regs
    → option_map (λ r. r.first) (slice_get c.regs reg) ≡ Some first → option_map (λ r. r.count) (slice_get c.regs reg) ≡ Some count
    → k < count → option_map (λ f. f.shape) (slice_get c.fields (first + k)) ≡ Some f
    → f ≡ (field_of c (first_of c reg + k)).shape
field_asked c reg first count k f sound there firsts counts low asked =
    let starts : first_of c reg ≡ first = mapped_or (λ r. r.first) (slice_get c.regs reg) 0 first firsts in
    let many : count_of c reg ≡ count = mapped_or (λ r. r.count) (slice_get c.regs reg) 0 count counts in
    let within : first_of c reg + count_of c reg ≤ length c.fields = fields_within c reg sound there in
    field_answer c (first + k) f (omega (arith, starts, many, within, low)) asked ∙ ap (λ n. (field_of c (n + k)).shape) (sym starts)

-- whether it isn't RO
pub writable_at : (c : ChipData) (reg k : ℕ) {first count : ℕ} {f : Field} {b : Bool} → IsSound c → reg < length c.regs
    → option_map (λ r. r.first) (slice_get c.regs reg) ≡ Some first → option_map (λ r. r.count) (slice_get c.regs reg) ≡ Some count
    → k < count → option_map (λ f. f.shape) (slice_get c.fields (first + k)) ≡ Some f
    → b ≡ is_read_only f.policy
    → not b ≡ not (is_read_only (field_of c (first_of c reg + k)).shape.policy)
writable_at c reg k {first} {count} {f} {b} sound there firsts counts low asked is =
    ap not (is ∙ ap (λ (g : Field). is_read_only g.policy) (field_asked c reg first count k f sound there firsts counts low asked))

-- the bit belongs to it, and checks compare it
abbrev pub is_compared_at : ChipData → (reg bit k : ℕ) → Bool
is_compared_at c reg bit k =
    let f = (field_of c (first_of c reg + k)).shape in
    is_within f.lsb f.width bit && is_compared f

pub compared_at : (c : ChipData) (reg bit k : ℕ) {first count : ℕ} {f : Field} {b : Bool} → IsSound c → reg < length c.regs
    → option_map (λ r. r.first) (slice_get c.regs reg) ≡ Some first → option_map (λ r. r.count) (slice_get c.regs reg) ≡ Some count
    → k < count → option_map (λ f. f.shape) (slice_get c.fields (first + k)) ≡ Some f
    → b ≡ (is_within f.lsb f.width bit && is_compared f)
    → b ≡ is_compared_at c reg bit k
compared_at c reg bit k {first} {count} {f} {b} sound there firsts counts low asked is =
    is ∙ ap (λ (g : Field). is_within g.lsb g.width bit && is_compared g) (field_asked c reg first count k f sound there firsts counts low asked)
