use Rattle.std.proofs.Common.{◌≡◌, length, drop, slice_range, ap, sym, ◌∙◌, arith}
use Rattle.std.proofs.lemmas.List.{take_at}
use Rattle.rl_report.proofs.RangeLemmas.{length_part}
use Rattle.rl_link.proofs.held.Held.take_more.Goals as goal

pub refill-requires-clause-apart : goal.refill-requires-clause-apart
refill-requires-clause-apart g c =
    λ full.
    let i = c.self.inside in
    let size = length_part i.buffer.items i.start i.end (omega (arith, i.buffer.ok.0)) (omega arith) in
    let d = c.deref_mut.ensures.len in
    let short = c.requires.short in
    let e = ap length c.self.view_is in
    (omega arith, omega arith)
