use Rattle.std.proofs.Common.{arith, sym, ◌∙◌}
use Rattle.std.proofs.lemmas.List.{take_all, length-take-le}
use Rattle.rl_report.proofs.LineLemmas.{line_front, line_behind, line_within}
use Rattle.rl_report.proofs.OpeningLemmas.{part_of_whole, part_of_last, part_of_text}
use Rattle.rl_report.specs.declared.opening.Part.TheVariants.{End}
use Rattle.rl_report.proofs.opening.next_part.Goals as goal

pub slice_bounds-is_separator-end : goal.slice_bounds-is_separator-end
slice_bounds-is_separator-end c =
    let within = line_within c.args.held.now c.args.size c.requires in
    omega (arith, within, length-take-le c.args.size c.args.held.now within)

pub returns-then-is_too_few : goal.returns-then-is_too_few
returns-then-is_too_few c =
    let held = c.args.held.now in
    let size = c.args.size in
    record {
      going = c.if-ended.false;
      few = omega (arith, c.is_too_few.ensures.few c.if-is_too_few.true);
      none_whole = sym (line_front held size c.requires) ∙ take_all size held (omega arith);
    }

pub returns-then-size-held : goal.returns-then-size-held
returns-then-size-held c =
    let held = c.args.held.now in
    let size = c.args.size in
    part_of_whole _ _ _ size c.is_separator-separator.result _ (line_front held size c.requires)
    (line_within held size c.requires) c.is_separator-separator.ensures (omega arith) (line_behind held size c.requires) c.whole_line.ensures.separator c.whole_line.ensures.text

pub returns-then-ended : goal.returns-then-ended
returns-then-ended c =
    let held = c.args.held.now in
    let size = c.args.size in
    part_of_last _ _ _ size c.is_separator-separator.result _ (line_front held size c.requires)
    (line_within held size c.requires) c.is_separator-separator.ensures (omega arith) c.if-ended.true
    (line_behind held size c.requires) c.last_line.ensures.separator c.last_line.ensures.end

pub returns : goal.returns
returns c =
    let held = c.args.held.now in
    let size = c.args.size in
    let f = c.is_too_few.ensures in
    part_of_text _ _ c.args.ended size c.is_separator-separator.result End (line_front held size c.requires)
    (line_within held size c.requires) c.is_separator-separator.ensures (omega arith) (f.some c.if-is_too_few.false) (f.many c.if-is_too_few.false)
