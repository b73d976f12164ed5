use Rattle.std.proofs.Common.{◌*◌, ◌^◌, ◌<◌, length, sym, ◌∙◌, refl, subst}
use Rattle.rl_model.specs.Fields.{count_of, size_of}
use Rattle.rl_model.specs.Rows.{ChipData}
use Rattle.rl_access.proofs.BackPerforms.{no_reading_performs, reading_performs, reading_told}
use Rattle.rl_access.proofs.backdoor.back_read_into.Goals as goal

pub returns-in-Ok-clause-performs : goal.returns-in-Ok-clause-performs
returns-in-Ok-clause-performs g c =
    reading_performs c.args.check c.args.model.now _ _ _ _ _ c.back_reading-op.result c.args.reg _ _ _ _ _ c.back_reading-op.ensures
    (sym c.by_backdoor.ensures ∙ c.in-Ok.is) c.sample-value.ensures.behind refl c.fill.ensures.event

pub returns-in-Err-clause-performs : goal.returns-in-Err-clause-performs
returns-in-Err-clause-performs g c =
    no_reading_performs c.args.check c.args.model.now _ _ c.back_reading-op.result c.args.reg c.in-Err.why _ c.back_reading-op.ensures
    (sym c.by_backdoor.ensures ∙ c.in-Err.is) c.refuse.ensures.event

pub fill-requires : goal.fill-requires
fill-requires g c =
    let now = c.sample-value.new.model in
    let same = sym c.sample-value.ensures.parts.chip in
    let inside = subst (λ (h : ChipData). c.args.reg < length h.regs) same c.requires.reg in
    let told = reading_told now.chip (length now.layout.maps) c.args.reg c.sample-value.result.0 c.args.check c.back_reading-op.result c.back_reading-op.ensures inside
    (subst (λ h. c.sample-value.result.0 < 16 ^ (2 * size_of h c.args.reg)) same c.sample-value.ensures.value) in
    record {
      reg = inside;
      register = told.register;
      numbers = told.numbers;
      ends = told.ends;
      within = told.within;
      differ = subst (λ h. c.sample-value.result.1 < 2 ^ count_of h c.args.reg) same c.sample-value.ensures.differ;
    }
