use Rattle.std.proofs.Common.{sym, ap, ◌∙◌}
use Rattle.std.proofs.lemmas.Result.{IfOk-from_err}
use Rattle.rl_script.specs.declared.line.Line.TheVariants as line
use Rattle.rl_script.specs.Said.{line_said}
use Rattle.rl_script.proofs.line_ref.LineRef.into_line.Goals as goal

pub returns-in_err-mem-in-BurstWrite : goal.returns-in_err-mem-in-BurstWrite
returns-in_err-mem-in-BurstWrite c = IfOk-from_err c.from_residual.result _ c.from_residual.ensures.0

pub returns-in_err-map-in-BurstWrite : goal.returns-in_err-map-in-BurstWrite
returns-in_err-map-in-BurstWrite c = IfOk-from_err c.from_residual-in_err-map-in-BurstWrite.result _ c.from_residual-in_err-map-in-BurstWrite.ensures.0

pub returns-in_err-kind-in-Reset : goal.returns-in_err-kind-in-Reset
returns-in_err-kind-in-Reset c = IfOk-from_err c.from_residual-in_err-kind-in-Reset.result _ c.from_residual-in_err-kind-in-Reset.ensures.0

pub returns-in_err-block-in-Seq : goal.returns-in_err-block-in-Seq
returns-in_err-block-in-Seq c = IfOk-from_err c.from_residual-in_err-block-in-Seq.result _ c.from_residual-in_err-block-in-Seq.ensures.0

pub returns-in-Blank : goal.returns-in-Blank
returns-in-Blank c = ap line_said (sym c.in-Blank.is)

pub returns-in-OnItem : goal.returns-in-OnItem
returns-in-OnItem c = rw c.in-OnItem.is c.to_line.ensures

pub returns-in_ok-map-in-BurstWrite : goal.returns-in_ok-map-in-BurstWrite
returns-in_ok-map-in-BurstWrite c =
    let burst = c.in-BurstWrite in
    ap (λ mem. line.BurstWrite mem burst.first burst.values c.in_ok-map-in-BurstWrite.map) c.in_ok-mem-in-BurstWrite.ensures
    ∙ ap (λ map. line.BurstWrite burst.mem burst.first burst.values map) c.in_ok-map-in-BurstWrite.ensures
    ∙ ap line_said (sym c.in-BurstWrite.is)

pub returns-in_ok-kind-in-Reset : goal.returns-in_ok-kind-in-Reset
returns-in_ok-kind-in-Reset c = ap line.Reset c.in_ok-kind-in-Reset.ensures ∙ ap line_said (sym c.in-Reset.is)

pub returns-in_ok-block-in-Seq : goal.returns-in_ok-block-in-Seq
returns-in_ok-block-in-Seq c = ap (line.Seq c.in-Seq.which) c.in_ok-block-in-Seq.ensures ∙ ap line_said (sym c.in-Seq.is)
