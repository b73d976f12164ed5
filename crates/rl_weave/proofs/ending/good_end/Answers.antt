use Rattle.std.proofs.Common.{ℕ, ◌^◌, ◌<◌, Option, ap, sym, ◌∙◌, subst}
use Rattle.rl_model.specs.Fields.{size_of}
use Rattle.rl_split.specs.Access.{all_bytes, joined}
use Rattle.rl_access.specs.declared.event.End.TheVariants.{Value}
use Rattle.rl_access.specs.Items.{words_answered}
use Rattle.rl_access.specs.Operation.{digits_of}
use Rattle.rl_access.proofs.Bytes.{below_digits}
use Rattle.rl_weave.specs.Access.{op_with}
use Rattle.rl_weave.specs.Step.{good_end}
use Rattle.rl_weave.proofs.ending.good_end.Goals as goal

pub returns-in-None-clause-end : goal.returns-in-None-clause-end
returns-in-None-clause-end c =
    let m = c.args.model.now in
    let value = c.value_read.ensures.value ∙ ap (λ n. joined m.layout c.args.place 0 (all_bytes n) (words_answered c.args.items.now)) c.requires.bytes in
    ap Value value ∙ ap (λ v. good_end m c.args.access.now.reg c.args.place v c.args.items.now) (sym c.in-None.is)

pub returns-in-None-clause-within : goal.returns-in-None-clause-within
returns-in-None-clause-within c =
    let size = size_of c.args.model.now.chip c.args.access.now.reg in
    subst (λ (v : Option ℕ). c.value_read.result < 16 ^ digits_of c.args.model.now.chip (op_with c.args.access.now.reg c.args.access.now.map v)) (sym c.in-None.is)
    (below_digits size c.value_read.result (subst (λ n. c.value_read.result < 256 ^ n) c.requires.bytes c.value_read.ensures.fits))
