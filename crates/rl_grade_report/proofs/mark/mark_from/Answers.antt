use Rattle.std.proofs.Common.{◌≡◌, ◌+◌, ◌<◌, ◌≤◌, ℕ, List, length, drop, get_or, sym, ap, ◌∙◌, arith}
use Rattle.std.proofs.lemmas.List.{drop_all, drop_more}
use Rattle.rl_grade_report.specs.Mark.{mark_from, mark_with}
use Rattle.rl_grade_report.proofs.mark.mark_from.Goals as goal

next_byte : (mark : ℕ) (bytes : List ℕ) (k e : ℕ) → k < length bytes
    → mark_from mark (drop k bytes) ≡ mark_from (mark_with mark (get_or bytes k e)) (drop (k + 1) bytes)
unfolding mark_from
next_byte mark bytes k e low = ap (mark_from mark) (drop_more bytes k e low)

no_byte : (mark : ℕ) (bytes : List ℕ) (k : ℕ) → length bytes ≤ k → mark_from mark (drop k bytes) ≡ mark
unfolding mark_from
no_byte mark bytes k few = ap (mark_from mark) (drop_all k bytes few)

pub loop-byte-preserved : goal.loop-byte-preserved
loop-byte-preserved c =
    let bytes = c.args.bytes.now in
    let l = c.loop-byte in
    ap (λ (b : ℕ). mark_from (mark_with l.mark b) (drop (l.byte-index + 1) bytes)) c.from.ensures
    ∙ sym (next_byte l.mark bytes l.byte-index _ c.loop-byte-test.true) ∙ l.invariant

pub returns : goal.returns
returns c =
    let l = c.loop-byte in sym (no_byte l.mark c.args.bytes.now l.byte-index (omega arith)) ∙ l.invariant
