use Rattle.std.proofs.Common.{◌≡◌, List, IfOk, subst, ◌∙◌, rules}
use Rattle.std.proofs.KnownBytes.{Keeps-refl}
use Rattle.rl_model.specs.Rows.{ChipData}
use Rattle.rl_map.specs.Layout.{LayoutData}
use Rattle.rl_flaw.specs.declared.flaw.Flaw.{Flaw}
use Rattle.rl_desc.specs.Data.{DescData}
use Rattle.rl_log.proofs.KnownLemmas.{front_none}
use Rattle.rl_report.specs.Pieces.{Puts}
use Rattle.rl_grade_report.specs.Grading.{Grading}
use Rattle.rl_grade_report.proofs.SessionLemmas.{over_heard, shown_is}
use Rattle.rl_grade_report.proofs.grading.grade_tasks.Goals as goal

pub returns-in_default-clause-bytes : goal.returns-in_default-clause-bytes
returns-in_default-clause-bytes g c = record { whole = tt; part = front_none _ _ _ (Keeps-refl _) }

same_desc : (a b : ChipData) (l k : LayoutData) (flaws none : List Flaw) → a ≡ b → l ≡ k → flaws ≡ none
    → (let d : DescData = record { chip = a; layout = l; flaws = flaws } in d) ≡ record { chip = b; layout = k; flaws = none }
same_desc a b l k flaws none chip layout empty = cc

pub grade_shown-requires-clause-can_grade : goal.grade_shown-requires-clause-can_grade
grade_shown-requires-clause-can_grade g c =
    record { built_with = search rules; kinds = search rules; fits = search rules; every = c.requires.every }

pub grade_shown-requires-clause-shown : goal.grade_shown-requires-clause-shown
grade_shown-requires-clause-shown g c =
    shown_is _ _ _ _ _ _ c.in-Ok.ensures.seen c.requires.first
    (same_desc _ _ _ _ _ _ (c.into_parts-chip.ensures.chip ∙ c.show.ensures.parts.chip)
    (c.into_parts-chip.ensures.layout ∙ c.show.ensures.parts.layout) c.new.ensures.items)

pub returns-clause-bytes : goal.returns-clause-bytes
returns-clause-bytes g c =
    let desc = same_desc _ _ _ _ _ _ (c.into_parts-chip.ensures.chip ∙ c.show.ensures.parts.chip)
    (c.into_parts-chip.ensures.layout ∙ c.show.ensures.parts.layout) c.new.ensures.items in
    let is = over_heard c.args.asked c.args.mark c.args.waivers.now _ _ c.args.tasks.now _ _ _ desc c.in-Ok.ensures.seen c.in-Ok.ensures.items in
    subst (λ (it : Grading). Puts (g.K.Sink.written c.args.log.now) (g.K.Sink.written c.grade_shown.new.log) it.text c.grade_shown.result) is
    c.grade_shown.ensures.bytes

pub returns-clause-status : goal.returns-clause-status
returns-clause-status g c =
    let desc = same_desc _ _ _ _ _ _ (c.into_parts-chip.ensures.chip ∙ c.show.ensures.parts.chip)
    (c.into_parts-chip.ensures.layout ∙ c.show.ensures.parts.layout) c.new.ensures.items in
    let is = over_heard c.args.asked c.args.mark c.args.waivers.now _ _ c.args.tasks.now _ _ _ desc c.in-Ok.ensures.seen c.in-Ok.ensures.items in
    subst (λ (it : Grading). IfOk c.grade_shown.result (λ s. s ≡ it.status)) is c.grade_shown.ensures.status
