use Rattle.std.proofs.Common.{◌≡◌, ◌+◌, length, sym, ap, subst, ◌∙◌, arith}
use Rattle.std.proofs.lemmas.Grind.{common_steps}
use Rattle.rl_model.specs.Data.{PartsData}
use Rattle.rl_model.specs.Rows.{ChipData}
use Rattle.rl_model.specs.Chip.{IsSound}
use Rattle.rl_model.specs.Masks.{AreEffects}
use Rattle.rl_model.specs.Build.{first_kinds, chip_of}
use Rattle.rl_model.proofs.Numbering.{all_plain}
use Rattle.rl_model.proofs.EffectLemmas.{rows_of}
use Rattle.rl_model.proofs.ChipSound.{each_chip_sound}
use Rattle.rl_model.proofs.chip.Chip.build.Goals as goal

pub all_effects-requires-clause-seats : goal.all_effects-requires-clause-seats
all_effects-requires-clause-seats c =
    let exact = c.in_ok-regs.ensures.exact in
    (rows_of c.args.parts.now c.deref.result.now c.deref-2.result.now exact.0 (c.deref.ensures.value ∙ exact.1.0) (c.deref-2.ensures.value ∙ exact.1.1)).seats

pub all_effects-requires-clause-within : goal.all_effects-requires-clause-within
all_effects-requires-clause-within c =
    let exact = c.in_ok-regs.ensures.exact in
    (rows_of c.args.parts.now c.deref.result.now c.deref-2.result.now exact.0 (c.deref.ensures.value ∙ exact.1.0) (c.deref-2.ensures.value ∙ exact.1.1)).within

pub invariant_of-result : goal.invariant_of-result
unfolding chip_of
invariant_of-result c =
    let parts = c.args.parts.now in
    let plain = all_plain 0 first_kinds parts.regs in
    let chip : ChipData = record {
      blocks = c.len-blocks.result;
      scopes = c.len-blocks.result + c.len.result;
      paths = c.add_rows.new.paths;
      regs = c.in_ok-regs.regs.items;
      mems = c.in_ok-regs.mems.items;
      fields = c.in_ok-regs.fields.items;
      kinds = c.add_rows.new.kinds;
    } in
    let is : chip ≡ chip_of parts = grind (arith, common_steps, plain) in
    let masks : AreEffects c.in_ok-regs.regs.items c.in_ok-regs.fields.items c.in_ok-effects.effects.items =
    rw (← c.deref.ensures.value, ← c.deref-2.ensures.value) c.in_ok-effects.ensures in
    (subst IsSound (sym is) (each_chip_sound parts c.in_ok-regs.ensures.exact.0), masks)

pub returns : goal.returns
unfolding chip_of
returns c =
    let plain = all_plain 0 first_kinds c.args.parts.now.regs in
    grind (arith, common_steps, plain)

pub overflow_cast-result : goal.overflow_cast-result
overflow_cast-result c =
    omega (arith, c.len-blocks.ensures, c.parts.inside.blocks.ok, ap (λ (parts : PartsData). length parts.blocks) c.parts.view_is, c.in_ok-regs.ensures.few.0)
