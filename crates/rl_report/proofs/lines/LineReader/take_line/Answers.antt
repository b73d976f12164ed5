use Rattle.std.proofs.Common.{◌≡◌, true, ap, sym, ◌∙◌, subst, arith, IfSome}
use Rattle.rl_report.specs.Reading.{input_of, HandsLine}
use Rattle.rl_report.proofs.LineLemmas.{hands_whole, hands_last, too_long, line_front, line_behind, line_within, sizes_held}
use Rattle.std.proofs.lemmas.List.{take_all}
use Rattle.rl_report.proofs.lines.LineReader.take_line.Goals as goal

pub returns-then-size-gt-MAX_LINE-clause-got : goal.returns-then-size-gt-MAX_LINE-clause-got
returns-then-size-gt-MAX_LINE-clause-got c =
    let i = c.self.inside in
    let h = sizes_held i.buffer.items i.start i.end i.size _ (ap (λ r. r.pending) c.self.view_is) (omega arith) (omega arith) (omega (arith, i.buffer.ok.0)) in
    λ left. too_long c.args.self.now left (omega (arith, h.line))

pub returns-then-size-held-clause-got : goal.returns-then-size-held-clause-got
returns-then-size-held-clause-got c =
    let i = c.self.inside in
    let old = c.args.self.now in
    let h = sizes_held i.buffer.items i.start i.end i.size _ (ap (λ r. r.pending) c.self.view_is) (omega arith) (omega arith) (omega (arith, i.buffer.ok.0)) in
    let out = rw (line_front old.pending i.size h.line, line_behind old.pending i.size h.line) at c.hand_out.ensures in
    λ left. subst (λ n. IfSome (input_of old left) (λ bytes. HandsLine bytes n left)) (sym out)
    (hands_whole old left (omega (arith, h.line)) (omega (arith, h.line, h.all)))

pub returns-then-not-self-clause-none_whole : goal.returns-then-not-self-clause-none_whole
returns-then-not-self-clause-none_whole c =
    let i = c.self.inside in
    let pending = c.args.self.now.pending in
    let h = sizes_held i.buffer.items i.start i.end i.size _ (ap (λ r. r.pending) c.self.view_is) (omega arith) (omega arith) (omega (arith, i.buffer.ok.0)) in
    sym (line_front pending i.size h.line) ∙ take_all i.size pending (omega (arith, h.all))

pub hand_out-requires-2-clause-within : goal.hand_out-requires-2-clause-within
hand_out-requires-2-clause-within c =
    let i = c.self.inside in
    let h = sizes_held i.buffer.items i.start i.end i.size _ (ap (λ r. r.pending) c.self.view_is) (omega arith) (omega arith) (omega (arith, i.buffer.ok.0)) in
    line_within c.args.self.now.pending i.size h.line

pub returns-clause-got : goal.returns-clause-got
returns-clause-got c =
    let i = c.self.inside in
    let old = c.args.self.now in
    let h = sizes_held i.buffer.items i.start i.end i.size _ (ap (λ r. r.pending) c.self.view_is) (omega arith) (omega arith) (omega (arith, i.buffer.ok.0)) in
    let at_end : old.ended ≡ true = ap (λ r. r.ended) (sym c.self.view_is) ∙ c.if-not-self.false in
    λ left. subst (λ n. IfSome (input_of old left) (λ bytes. HandsLine bytes n left)) (sym c.hand_out-2.ensures)
    (hands_last old left i.size at_end h.line (omega (arith, h.all)) (omega (arith, h.all)) (omega (arith, h.all)))

pub returns-then-size-held-clause-still : goal.returns-then-size-held-clause-still
returns-then-size-held-clause-still c = λ other. ap (λ r. r.closed) c.hand_out.ensures

pub returns-then-size-held-clause-phase : goal.returns-then-size-held-clause-phase
returns-then-size-held-clause-phase c = record {
  asked = ap (λ r. r.asked) c.hand_out.ensures;
  found = ap (λ r. r.found) c.hand_out.ensures;
  ended = λ at_end. ap (λ r. r.ended) c.hand_out.ensures ∙ at_end;
  closed = λ told. ap (λ r. r.closed) c.hand_out.ensures ∙ told;
}

pub returns-clause-still : goal.returns-clause-still
returns-clause-still c = λ other. ap (λ r. r.closed) c.hand_out-2.ensures

pub returns-clause-phase : goal.returns-clause-phase
returns-clause-phase c = record {
  asked = ap (λ r. r.asked) c.hand_out-2.ensures;
  found = ap (λ r. r.found) c.hand_out-2.ensures;
  ended = λ at_end. ap (λ r. r.ended) c.hand_out-2.ensures ∙ at_end;
  closed = λ told. ap (λ r. r.closed) c.hand_out-2.ensures ∙ told;
}
