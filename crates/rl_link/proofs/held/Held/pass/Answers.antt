use Rattle.std.proofs.Common.{◌≡◌, ◌-◌, length, drop, slice_range, ap, ◌∙◌, arith}
use Rattle.rl_report.proofs.RangeLemmas.{range_less, length_part}
use Rattle.rl_link.proofs.held.Held.pass.Goals as goal

pub returns : goal.returns
returns c =
    let i = c.self.inside in
    let held : length (slice_range i.buffer.items i.start i.end) ≡ i.end - i.start = length_part i.buffer.items i.start i.end (omega (arith, i.buffer.ok.0)) (omega arith) in
    range_less i.buffer.items i.start i.end c.args.count (omega (arith, ap length c.self.view_is, c.requires)) ∙ ap (drop c.args.count) c.self.view_is
