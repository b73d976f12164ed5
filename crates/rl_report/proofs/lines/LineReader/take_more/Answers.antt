use Rattle.std.proofs.Common.{◌≡◌, slice_range, ap, arith}
use Rattle.std.proofs.lemmas.List.{with_items_is}
use Rattle.rl_report.proofs.LineLemmas.{input_kept, line_kept}
use Rattle.rl_report.proofs.lines.LineReader.take_more.Goals as goal

pub returns-clause-input : goal.returns-clause-input
returns-clause-input g c =
    let i = c.self.inside in
    let held : slice_range i.buffer.items i.start i.end ≡ c.args.self.now.pending = ap (λ r. r.pending) c.self.view_is in
    input_kept c.args.self.now _ _ _ c.fill.new.buffer _ c.fill.new.start c.fill.new.end c.fill.new.ended held c.requires.going
    (with_items_is i.buffer c.fill.new.buffer (omega arith)) (rw (c.deref_mut-2.ensures.value) at c.fill.ensures.input)

pub returns-clause-line : goal.returns-clause-line
returns-clause-line g c =
    let i = c.self.inside in
    line_kept c.keep_line.new.copied i.line_len c.keep_line.new.line _ _ _ _ c.keep_line.ensures.copied (with_items_is i.line c.keep_line.new.line (omega arith))
    (rw (c.deref_mut.ensures.value, c.deref.ensures.value) at c.keep_line.ensures.line) (ap (λ r. r.line) c.self.view_is)

pub returns-clause-cause : goal.returns-clause-cause
returns-clause-cause g c = c.fill.ensures.cause
