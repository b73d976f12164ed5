use Rattle.std.proofs.Common.{◌≡◌, true, false, Some, take, get_or, sym, ap, ◌∙◌, arith}
use Rattle.rl_grade_report.specs.Waivers.{RowData, has_text}
use Rattle.rl_grade_report.proofs.WaiverLemmas.{none_twice, row_once, row_twice}
use Rattle.rl_grade_report.proofs.waiving.twice_in.Goals as goal

pub returns-then-is_among : goal.returns-then-is_among
returns-then-is_among c =
    let rows = c.args.rows.now in
    let k = c.loop-place.place in
    let row = c.index-rows-place.result in
    let at : has_text (take k rows) (get_or rows k row).text ≡ true =
    ap (λ (r : RowData). has_text (take k rows) r.text) (sym c.index-rows-place.is) ∙ sym c.is_among.ensures ∙ c.if-is_among.true in
    ap Some (c.line_of.ensures ∙ ap (λ (r : RowData). r.line) c.index-rows-place.is)
    ∙ sym (row_twice rows k row c.loop-place-test.true at) ∙ c.loop-place.invariant

pub loop-place-preserved : goal.loop-place-preserved
loop-place-preserved c =
    let rows = c.args.rows.now in
    let k = c.loop-place.place in
    let row = c.index-rows-place.result in
    let at : has_text (take k rows) (get_or rows k row).text ≡ false =
    ap (λ (r : RowData). has_text (take k rows) r.text) (sym c.index-rows-place.is) ∙ sym c.is_among.ensures ∙ c.if-is_among.false in
    sym (row_once rows k row c.loop-place-test.true at) ∙ c.loop-place.invariant

pub returns : goal.returns
returns c = sym (none_twice c.args.rows.now c.loop-place.place (omega arith)) ∙ c.loop-place.invariant
