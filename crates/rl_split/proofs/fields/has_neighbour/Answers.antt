use Rattle.std.proofs.Common.{◌≡◌, ◌-◌, true, false, not, ◌&&◌, eqb, eq-eqb, Bool, refl, ap, sym, ◌∙◌, subst, arith}
use Rattle.std.specs.List.{list_any, range_with_len}
use Rattle.rl_model.specs.declared.rows.Field.{Field}
use Rattle.rl_split.specs.Narrow.{field_at, share_byte}
use Rattle.rl_model.specs.Fields.{first_of, count_of}
use Rattle.rl_split.proofs.Registers.{first_is, count_is, is_neighbour, neighbour_found, none_further, none_neighbour}
use Rattle.rl_split.proofs.fields.has_neighbour.Goals as goal
use Rattle.rl_split.proofs.fields.has_neighbour.Goals.{else-other-field-via-then-other-field+else-share_byte, else-other-field-via-else-other-field}

pub returns-then-share_byte : goal.returns-then-share_byte
returns-then-share_byte c =
    let chip = c.args.chip.now in
    let own = c.field_at-own in
    let first = first_is chip own.result.reg c.first_field-first.result c.first_field-first.ensures.value ∙ ap (λ (f : Field). first_of chip f.reg) own.ensures.value in
    let count = count_is chip own.result.reg c.field_count.result c.field_count.ensures.value ∙ ap (λ (f : Field). count_of chip f.reg) own.ensures.value in
    neighbour_found chip c.args.field c.loop-other.other c.first_field-first.result c.field_count.result first count c.loop-other.auto.other c.loop-other-test.true c.if-other-field.true
    (ap (λ f. share_byte f (field_at chip c.args.field)) (sym c.field_at.ensures.value) ∙ ap (share_byte c.field_at.result) (sym own.ensures.value) ∙ sym c.share_byte.ensures ∙ c.if-share_byte.true)

pub loop-other-preserved : goal.loop-other-preserved
loop-other-preserved c =
    let chip = c.args.chip.now in
    let field = c.args.field in
    let other = c.loop-other.other in
    let own = c.field_at-own in
    none_further (is_neighbour chip field) c.first_field-first.result other c.loop-other.auto.other c.loop-other.invariant
    (elim c.else-other-field.branch [
      | else-other-field-via-then-other-field+else-share_byte w ↦
          ap (λ f. not (eqb other field) && share_byte f (field_at chip field)) (sym w.field_at.ensures.value)
          ∙ ap (λ f. not (eqb other field) && share_byte w.field_at.result f) (sym own.ensures.value)
          ∙ ap (λ t. not (eqb other field) && t) (sym w.share_byte.ensures ∙ w.if-share_byte.false)
          ∙ never (not (eqb other field))
      | else-other-field-via-else-other-field w ↦ ap (λ t. not t && share_byte (field_at chip other) (field_at chip field)) (eq-eqb other field w.if-other-field.false)
    ])
  where
    never : (t : Bool) → (t && false) ≡ false
    never true = refl
    never false = refl

pub returns : goal.returns
returns c =
    let chip = c.args.chip.now in
    let own = c.field_at-own in
    let first = first_is chip own.result.reg c.first_field-first.result c.first_field-first.ensures.value ∙ ap (λ (f : Field). first_of chip f.reg) own.ensures.value in
    let count = count_is chip own.result.reg c.field_count.result c.field_count.ensures.value ∙ ap (λ (f : Field). count_of chip f.reg) own.ensures.value in
    let end : c.loop-other.other - c.first_field-first.result ≡ c.field_count.result = omega (arith, c.loop-other-test.false, c.loop-other.auto.other-end) in
    none_neighbour chip c.args.field c.first_field-first.result c.field_count.result first count
    (subst (λ n. list_any (is_neighbour chip c.args.field) (range_with_len c.first_field-first.result n) ≡ false) end c.loop-other.invariant)
