use Rattle.std.proofs.Common.{◌++◌, length, take, ap, sym, ◌∙◌, arith, refl, length-drop}
use Rattle.rl_report.proofs.TakenLemmas.{takes_separator, takes_last, takes_too_much, same_text}
use Rattle.rl_report.specs.Lines.{first_line}
use Rattle.rl_report.proofs.lines.LineReader.take_part.Goals as goal

pub returns-in-Separator-clause-took : goal.returns-in-Separator-clause-took
returns-in-Separator-clause-took c =
    let old = c.args.self.now in
    let part = rw (c.pending.ensures.bytes, c.has_ended.ensures) at c.in-Separator.ensures in
    rw c.pass_separator.ensures (takes_separator old c.args.head.now.items c.args.starts c.in-Separator.size c.requires part)

pub returns-in-End-clause-took : goal.returns-in-End-clause-took
returns-in-End-clause-took c =
    let old = c.args.self.now in
    let part = rw (c.pending.ensures.bytes, c.has_ended.ensures) at c.in-End.ensures in
    let m = c.missing.ensures in
    let held = ap length c.pending-in-End.ensures.bytes in
    takes_last old c.args.head.now.items c.args.starts c.missing.result part.at_end part.none c.requires
    (λ few. m.missing (omega (arith, held))) (λ many. m.too_long (omega (arith, held)))

pub returns-in-Text-clause-took : goal.returns-in-Text-clause-took
returns-in-Text-clause-took c =
    takes_too_much c.args.self.now c.args.head.now.items c.args.starts c.in-Text.ends c.in-Text.size (rw c.pending.ensures.bytes at c.in-Text.ensures) (omega arith)

pub returns-in_ok-extend_from_slice-in-Text-2-clause-took : goal.returns-in_ok-extend_from_slice-in-Text-2-clause-took
returns-in_ok-extend_from_slice-in-Text-2-clause-took c =
    same_text c.args.self.now c.args.head.now.items c.args.starts c.in-Text.ends c.in-Text.size c.pass.new.self c.extend_from_slice.new.self.items
    (rw c.pending.ensures.bytes at c.in-Text.ensures) (omega arith) c.pass.ensures
    (c.in_ok-extend_from_slice-in-Text-2.ensures.items ∙ ap (λ l. c.args.head.now.items ++ take c.in-Text.size l) c.pending-in-Text-2.ensures.bytes)

pub returns-in-Separator-clause-phase : goal.returns-in-Separator-clause-phase
returns-in-Separator-clause-phase c = record {
  asked = ap (λ r. r.asked) c.pass_separator.ensures;
  refused = ap (λ r. r.refused) c.pass_separator.ensures;
  closed = ap (λ r. r.closed) c.pass_separator.ensures;
  ended = λ at_end. ap (λ r. r.ended) c.pass_separator.ensures ∙ at_end;
}

pub returns-in-Separator-clause-found : goal.returns-in-Separator-clause-found
returns-in-Separator-clause-found c = (λ is. ap (λ r. r.found) c.pass_separator.ensures, λ other. absurd (other refl))

pub returns-in-Separator-clause-line : goal.returns-in-Separator-clause-line
returns-in-Separator-clause-line c = ap (λ r. r.line) c.pass_separator.ensures

pub returns-in_ok-extend_from_slice-in-Text-2-clause-phase : goal.returns-in_ok-extend_from_slice-in-Text-2-clause-phase
returns-in_ok-extend_from_slice-in-Text-2-clause-phase c = record {
  asked = ap (λ r. r.asked) c.pass.ensures;
  refused = ap (λ r. r.refused) c.pass.ensures;
  closed = ap (λ r. r.closed) c.pass.ensures;
  ended = λ at_end. ap (λ r. r.ended) c.pass.ensures ∙ at_end;
}

pub returns-in_ok-extend_from_slice-in-Text-2-clause-line : goal.returns-in_ok-extend_from_slice-in-Text-2-clause-line
returns-in_ok-extend_from_slice-in-Text-2-clause-line c = ap (λ r. r.line) c.pass.ensures

pub returns-in-End-clause-held : goal.returns-in-End-clause-held
returns-in-End-clause-held c = c.pending.ensures.held

pub returns-in-Unclear-clause-held : goal.returns-in-Unclear-clause-held
returns-in-Unclear-clause-held c = c.pending.ensures.held

pub returns-in-Text-clause-held : goal.returns-in-Text-clause-held
returns-in-Text-clause-held c = c.pending.ensures.held

pub returns-in_err-extend_from_slice-in-Text-2-clause-held : goal.returns-in_err-extend_from_slice-in-Text-2-clause-held
returns-in_err-extend_from_slice-in-Text-2-clause-held c = c.pending.ensures.held

pub returns-in-Separator-clause-held : goal.returns-in-Separator-clause-held
returns-in-Separator-clause-held c =
    omega (arith, ap (λ r. length r.pending) c.pass_separator.ensures, length-drop c.in-Separator.size c.args.self.now.pending, c.pending.ensures.held)

pub returns-in-Unclear-clause-took : goal.returns-in-Unclear-clause-took
returns-in-Unclear-clause-took c =
    let part = rw (c.pending.ensures.bytes, c.has_ended.ensures) at c.in-Unclear.ensures in
    record { same = refl; same_head = refl; few = part.few; none_whole = part.none_whole; going = part.going }

pub next_part-requires : goal.next_part-requires
next_part-requires c = c.first_len.ensures ∙ ap (λ l. length (first_line l)) (sym c.pending.ensures.bytes)

pub pass_separator-requires : goal.pass_separator-requires
pass_separator-requires c = let part = rw c.pending.ensures.bytes at c.in-Separator.ensures in part.within

pub pass-requires : goal.pass-requires
pass-requires c = let part = rw c.pending.ensures.bytes at c.in-Text.ensures in part.within
