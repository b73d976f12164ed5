use Rattle.std.proofs.Common.{◌≡◌, ◌+◌, slice_range, ap, ◌∙◌, arith}
use Rattle.std.specs.Io.KnownBytes.{Consumes}
use Rattle.rl_report.proofs.RangeLemmas.{kept_behind, read_behind}
use Rattle.rl_report.proofs.TakenLemmas.{on_err}
use Rattle.rl_report.proofs.PieceLemmas.{cause_stopped, cause_kept}
use Rattle.rl_report.proofs.window.refill.Goals as goal

pub returns-in_err-count-clause-same : goal.returns-in_err-count-clause-same
returns-in_err-count-clause-same g c =
    let m = c.make_room-from.ensures in
    on_err c.from_residual.result (kept_behind _ c.read_behind.new.buffer _ _ _ m.ordered c.read_behind.ensures.before m.same)

pub returns-clause-grown : goal.returns-clause-grown
returns-clause-grown g c =
    let m = c.make_room-from.ensures in
    let e = c.in_ok-count.ensures in
    read_behind (Consumes (g.S.Source.left c.args.source.now) (g.S.Source.left c.read_behind.new.source)) _ c.read_behind.new.buffer _ c.make_room-from.result.0
    c.make_room-from.result.1 c.in_ok-count.count m.ordered (omega arith) e.before m.same e.bytes

pub returns-clause-none : goal.returns-clause-none
returns-clause-none g c =
    let new = c.read_behind.new.buffer in
    let from = c.make_room-from.result.0 in
    let to = c.make_room-from.result.1 in
    let m = c.make_room-from.ensures in
    λ none.
    let here : to + c.in_ok-count.count ≡ to = omega arith in
    ap (λ k. slice_range new from k) here ∙ kept_behind _ new _ from to m.ordered c.read_behind.ensures.before m.same

pub returns-in_err-count-clause-kept : goal.returns-in_err-count-clause-kept
returns-in_err-count-clause-kept g c = on_err c.from_residual.result c.in_err-count.ensures.kept

pub returns-in_err-count-clause-cause : goal.returns-in_err-count-clause-cause
returns-in_err-count-clause-cause g c = cause_stopped _ _ _ _ c.from_residual.ensures.0 c.in_err-count.ensures.cause

pub returns-clause-cause : goal.returns-clause-cause
returns-clause-cause g c = cause_kept _ _ _ _ c.in_ok-count.ensures.cause
