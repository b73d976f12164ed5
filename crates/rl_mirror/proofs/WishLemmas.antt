-- Registers whose desired value is their mirrored one.
use Rattle.std.proofs.Common.{◌≡◌, ◌↔◌, ℕ, ◌+◌, ◌-◌, ◌<◌, ◌≤◌, true, false, not, eqb, List, length, sym, ap, ◌∙◌, arith}
use Rattle.std.specs.Prelude.{nat_le, nat_lt}
use Rattle.std.proofs.lemmas.Bool.{eqb-true, eq-eqb, not-false, and_parts, leb-true, ltb-true}
use Rattle.rl_policy.specs.Bits.{bit}
use Rattle.rl_policy.proofs.BitLemmas.{bit-from_bits}
use Rattle.rl_model.specs.declared.rows.Field.{Field}
use Rattle.rl_model.specs.Rows.{FieldSeen, ChipData}
use Rattle.rl_model.specs.Fields.{fields_of, field_in, covers}
use Rattle.rl_mirror.specs.Fields.{owned, part_of}
use Rattle.rl_mirror.specs.Mirror.{MirrorData, mirrored_of, desired_of, IsMirrorOf, HasNoWish}
use Rattle.rl_mirror.proofs.WordLemmas.{word_by_field-same}

-- a bit of a field in its part
part_bit : (f : Field) (x b : ℕ) → covers f b ≡ true → bit (part_of f x) (b - f.lsb) ≡ bit x b
part_bit f x b in_it =
    let (from, to) = and_parts (nat_le f.lsb b) (nat_lt b (f.lsb + f.width)) in_it in
    let low : f.lsb ≤ b = leb-true f.lsb b from in
    let high : b < f.lsb + f.width = ltb-true b (f.lsb + f.width) to in
    let back : f.lsb + (b - f.lsb) ≡ b = omega arith in
    bit-from_bits f.width (λ i. bit x (f.lsb + i)) (b - f.lsb) (omega arith) ∙ ap (bit x) back

-- values with 0 in the bits without a field, whose parts are the same, are equal
same_values : (fs : List FieldSeen) (x y : ℕ) → x ≡ owned fs x → y ≡ owned fs y
    → ((k : ℕ) → k < length fs → part_of (field_in fs k).shape x ≡ part_of (field_in fs k).shape y) → x ≡ y
same_values fs x y held_x held_y same =
    held_x
    ∙ word_by_field-same fs (λ k b. bit x b) (λ k b. bit y b) (λ k b place l in_it.
    sym (part_bit (field_in fs k).shape x b in_it) ∙ ap (λ v. bit v (b - (field_in fs k).shape.lsb)) (same k place) ∙ part_bit (field_in fs k).shape y b in_it)
    ∙ sym held_y

pub no_wish : (c : ChipData) (m : MirrorData) (reg : ℕ) → IsMirrorOf c m → reg < length c.regs → (not (eqb (desired_of m reg) (mirrored_of m reg)) ≡ false) ↔ HasNoWish c m reg
no_wish c m reg built l = (
  λ e k place. let same : desired_of m reg ≡ mirrored_of m reg = eqb-true (desired_of m reg) (mirrored_of m reg) (not-false (eqb (desired_of m reg) (mirrored_of m reg)) e) in
      ap (part_of (field_in (fields_of c reg) k).shape) same,
  λ same. let e : desired_of m reg ≡ mirrored_of m reg = same_values (fields_of c reg) (desired_of m reg) (mirrored_of m reg) (built.desired reg l).owned (built.mirrored reg l).owned same in
      ap not (eq-eqb (desired_of m reg) (mirrored_of m reg) e),
)
