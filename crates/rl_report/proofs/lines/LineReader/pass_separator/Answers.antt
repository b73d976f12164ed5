use Rattle.std.proofs.Common.{refl, ap, ◌∙◌}
use Rattle.rl_report.proofs.TakenLemmas.{same_reading}
use Rattle.rl_report.proofs.lines.LineReader.pass_separator.Goals as goal

pub returns : goal.returns
returns c =
    let view = c.self.view_is in
    let e = c.pass.ensures in
    same_reading _ _ _ _ _ _ _ _ _ _ _ _ _ _
    (ap (λ r. r.pending) view ∙ ap (λ r. r.pending) e) (ap (λ r. r.line) view ∙ ap (λ r. r.line) e) (ap (λ r. r.asked) view ∙ ap (λ r. r.asked) e)
    refl (ap (λ r. r.refused) view ∙ ap (λ r. r.refused) e) (ap (λ r. r.ended) view ∙ ap (λ r. r.ended) e) (ap (λ r. r.closed) view ∙ ap (λ r. r.closed) e)
