-- A check of a register finds nothing: a field that is compared reads as its bits.
use Rattle.std.proofs.Common.{◌≡◌, ℕ, ◌+◌, ◌<◌, Bool, true, false, not, ◌&&◌, eqb, eqb-true, eq-eqb, List, length, Option, None, Some, refl, sym, ap, ◌∙◌, arith}
use Rattle.std.proofs.lemmas.Bool.Decides.{nat_tests}
use Rattle.std.proofs.lemmas.Nat.{pow_pos}
use Rattle.rl_policy.specs.Bits.{bit}
use Rattle.rl_policy.specs.Table.{value_read, is_write_only}
use Rattle.rl_policy.specs.declared.policy.Policy.{Policy}
use Rattle.rl_policy.specs.declared.policy.Policy.TheVariants.{Wo, Woc, Wos, Wo1}
use Rattle.rl_policy.proofs.BitLemmas.{bit-zero, from_bits-same, is_from_bits}
use Rattle.rl_model.specs.Rows.{FieldSeen, ChipData}
use Rattle.rl_model.specs.Chip.{IsSound}
use Rattle.rl_model.specs.Fields.{fields_of, field_in, policy_in, covers, place_at}
use Rattle.rl_split.specs.Step.{Register, every, ranswer, shown_bit}
use Rattle.rl_mirror.specs.Compared.{differs, differing}
use Rattle.rl_mirror.specs.Fields.{part_of}
use Rattle.rl_mirror.proofs.FieldLemmas.{field_list}
use Rattle.rl_mirror.proofs.PlaceLemmas.{IsFieldList, is_place, covers_is}
use Rattle.rl_plain.proofs.Registers.{bit-ranswer}

pub shows : (p : Policy) (x : Bool) → is_write_only p ≡ false → value_read p x ≡ x
shows Wo x e = absurd (cc)
shows Woc x e = absurd (cc)
shows Wos x e = absurd (cc)
shows Wo1 x e = absurd (cc)
shows _ x e = refl

pub place_found : (o : Option ℕ) (k : ℕ) → is_place o k ≡ true → o ≡ Some k
place_found None k e = absurd (cc)
place_found (Some j) k e = ap Some (eqb-true j k e)

pub covered : (f : FieldSeen) (i : ℕ) → i < f.shape.width → covers f.shape (f.shape.lsb + i) ≡ true
covered f i l = grind (arith, nat_tests)

-- the part of a field in what the register answers
pub same_part : (bits : ℕ) (fs : List FieldSeen) (k : ℕ) (r : Register) → IsFieldList bits fs → k < length fs → is_write_only (policy_in fs k) ≡ false →
    part_of (field_in fs k).shape (ranswer fs every r) ≡ part_of (field_in fs k).shape r.bits
same_part bits fs k r list inside readable =
    let f = (field_in fs k).shape in
    from_bits-same f.width (λ i. bit (ranswer fs every r) (f.lsb + i)) (λ i. bit r.bits (f.lsb + i))
    (λ i l.
    let b = f.lsb + i in
    let low : b < 64 = omega (arith, list.inside k inside, list.most, l) in
    let at : place_at fs b ≡ Some k = place_found (place_at fs b) k (sym (covers_is bits fs k b list inside) ∙ covered (field_in fs k) i l) in
    bit-ranswer fs every r b low ∙ ap (λ o. shown_bit fs every o (bit r.bits b)) at ∙ shows (policy_in fs k) (bit r.bits b) readable)

none_differs : (compare hidden same : Bool) → (hidden ≡ false → same ≡ true) → ((compare && not hidden) && not same) ≡ false
none_differs true true same f = refl
none_differs true false same f = ap not (f refl)
none_differs false hidden same f = refl

pub nothing_found : (c : ChipData) (reg : ℕ) (r : Register) → IsSound c → reg < length c.regs → differing (fields_of c reg) (ranswer (fields_of c reg) every r) r.bits ≡ 0
unfolding differing
nothing_found c reg r sound inside =
    let fs = fields_of c reg in
    let list = field_list c reg sound inside in
    let read = ranswer fs every r in
    sym (is_from_bits (length fs) 0 (λ k. differs (field_in fs k).shape read r.bits) (pow_pos (length fs))
    (λ k l.
    let f = (field_in fs k).shape in
    bit-zero k ∙ sym (none_differs f.compare (is_write_only f.policy) (eqb (part_of f read) (part_of f r.bits))
    (λ readable. eq-eqb (part_of f read) (part_of f r.bits) (same_part _ fs k r list l readable)))))
