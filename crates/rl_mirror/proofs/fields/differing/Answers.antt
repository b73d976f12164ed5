use Rattle.std.proofs.Common.{◌≡◌, ℕ, ◌<◌, ◌≤◌, ◌^◌, Bool, true, false, ◌&&◌, eqb, List, length, refl, sym, ap, subst, ◌∙◌, arith}
use Rattle.std.proofs.lemmas.Bool.{eq-eqb}
use Rattle.std.proofs.lemmas.Nat.{or_lt, pow_pos}
use Rattle.rl_policy.specs.Bits.{bit}
use Rattle.rl_policy.proofs.BitLemmas.{bit-zero, bit-or, is_from_bits}
use Rattle.rl_model.specs.declared.rows.Field.{Field}
use Rattle.rl_model.specs.Rows.{FieldSeen}
use Rattle.rl_mirror.specs.Compared.{is_compared, differs, differing}
use Rattle.rl_model.specs.Fields.{fields_of, count_of, field_in}
use Rattle.rl_mirror.specs.Fields.{part_of}
use Rattle.rl_mirror.proofs.FieldLemmas.{length-fields_of}
use Rattle.rl_mirror.proofs.SetLemmas.{among, among-zero, among-added, among-passed, among-all, among-none}
use Rattle.rl_mirror.proofs.WordLemmas.{small_from_bits}
use Rattle.rl_mirror.proofs.fields.differing.Goals as goal

-- the mirrored bits themselves
none_differs : (fs : List FieldSeen) (read mirrored : ℕ) → read ≡ mirrored → 0 ≡ differing fs read mirrored
unfolding differing
none_differs fs read mirrored e =
    is_from_bits (length fs) 0 (λ k. differs (field_in fs k).shape read mirrored) (pow_pos (length fs)) (λ k l. bit-zero k ∙ here (field_in fs k).shape)
  where
    neither : (t : Bool) → false ≡ (t && false)
    neither true = refl
    neither false = refl

    here : (f : Field) → false ≡ differs f read mirrored
    here f =
        let same : eqb (part_of f read) (part_of f mirrored) ≡ true = eq-eqb (part_of f read) (part_of f mirrored) (ap (part_of f) e) in
        rw same (neither (is_compared f))

pub returns-then-read-mirrored : goal.returns-then-read-mirrored
returns-then-read-mirrored c = record {
  value = none_differs (fields_of c.args.chip.now c.args.reg) c.args.read c.args.mirrored c.if-read-mirrored.true;
  fits = pow_pos (count_of c.args.chip.now c.args.reg);
}

pub loop-k-init : goal.loop-k-init
loop-k-init c = record {
  fits = omega arith;
  bits = λ k l. bit-zero k ∙ among-zero (λ k. differs (field_in (fields_of c.args.chip.now c.args.reg) k).shape c.args.read c.args.mirrored) k;
}

pub loop-k-preserved-then-not-differs : goal.loop-k-preserved-then-not-differs
loop-k-preserved-then-not-differs c =
    let d : ℕ → Bool = λ k. differs (field_in (fields_of c.args.chip.now c.args.reg) k).shape c.args.read c.args.mirrored in
    let here : d c.loop-k.k ≡ false = ap (λ (f : Field). differs f c.args.read c.args.mirrored) (sym c.field_at.ensures.field) ∙ sym c.differs.ensures ∙ c.if-not-differs.true in
    record {
      fits = omega arith;
      bits = λ k l. c.loop-k.invariant.bits k l ∙ among-passed c.loop-k.k k d here;
    }

pub loop-k-preserved : goal.loop-k-preserved
loop-k-preserved c =
    let d : ℕ → Bool = λ k. differs (field_in (fields_of c.args.chip.now c.args.reg) k).shape c.args.read c.args.mirrored in
    let here : d c.loop-k.k ≡ true = ap (λ (f : Field). differs f c.args.read c.args.mirrored) (sym c.field_at.ensures.field) ∙ sym c.differs.ensures ∙ c.if-not-differs.false in
    record {
      fits = or_lt 64 c.loop-k.fields c.window-fields.result (omega arith) (omega arith);
      bits = λ k l. bit-or c.loop-k.fields c.window-fields.result k ∙ rw (c.loop-k.invariant.bits k l, c.window-fields.ensures k l) (among-added c.loop-k.k k d here);
    }

pub returns : goal.returns
unfolding differing
returns c =
    let fs = fields_of c.args.chip.now c.args.reg in
    let d : ℕ → Bool = λ k. differs (field_in fs k).shape c.args.read c.args.mirrored in
    let count : length fs ≡ count_of c.args.chip.now c.args.reg = length-fields_of c.args.chip.now c.args.reg c.field_count-k-end.ensures.sound c.requires in
    let end : c.loop-k.k ≡ length fs = omega (arith, c.field_count-k-end.ensures.count, c.loop-k-test.false, c.loop-k.auto.k-end) in
    let few : length fs ≤ 64 = omega (arith, c.field_count-k-end.ensures.count, c.field_count-k-end.ensures.few) in
    let bits : (k : ℕ) → k < 64 → bit c.loop-k.fields k ≡ among (length fs) d k = λ k l. subst (λ (n : ℕ). bit c.loop-k.fields k ≡ among n d k) end (c.loop-k.invariant.bits k l) in
    let small : c.loop-k.fields < 2 ^ length fs = small_from_bits c.loop-k.fields (length fs) c.loop-k.invariant.fits few (λ k past l. bits k l ∙ among-none (length fs) k d past) in
    record {
      value = is_from_bits (length fs) c.loop-k.fields d small (λ k l. bits k (omega arith) ∙ among-all (length fs) k d l);
      fits = subst (λ (n : ℕ). c.loop-k.fields < 2 ^ n) count small;
    }
