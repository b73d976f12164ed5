use Rattle.std.proofs.Common.{◌≡◌, ◌-◌, ◌≤◌, length, drop, slice_range, ap, ◌∙◌, arith}
use Rattle.rl_report.proofs.RangeLemmas.{range_less, length_part}
use Rattle.rl_report.proofs.TakenLemmas.{same_reading}
use Rattle.rl_report.proofs.lines.LineReader.pass.Goals as goal

pub returns : goal.returns
returns c =
    let i = c.self.inside in
    let pending : slice_range i.buffer.items i.start i.end ≡ c.args.self.now.pending = ap (λ r. r.pending) c.self.view_is in
    let held : length (slice_range i.buffer.items i.start i.end) ≡ i.end - i.start = length_part i.buffer.items i.start i.end (omega (arith, i.buffer.ok.0)) (omega arith) in
    let fits : c.args.size ≤ i.end - i.start = omega (arith, ap length pending, c.requires) in
    same_reading _ _ _ _ _ _ _ _ _ _ _ _ _ _
    (range_less i.buffer.items i.start i.end c.args.size (omega arith) ∙ ap (drop c.args.size) pending)
    (ap (λ r. r.line) c.self.view_is) (ap (λ r. r.asked) c.self.view_is) (ap (λ r. r.found) c.self.view_is) (ap (λ r. r.refused) c.self.view_is)
    (ap (λ r. r.ended) c.self.view_is) (ap (λ r. r.closed) c.self.view_is)

pub invariant_of-self : goal.invariant_of-self
invariant_of-self c =
    let i = c.self.inside in
    let (ordered, within, buffer, line, short, inside, size) = c.self.invariant in
    let pending : slice_range i.buffer.items i.start i.end ≡ c.args.self.now.pending = ap (λ r. r.pending) c.self.view_is in
    let held : length (slice_range i.buffer.items i.start i.end) ≡ i.end - i.start = length_part i.buffer.items i.start i.end (omega (arith, i.buffer.ok.0)) (omega arith) in
    (omega (arith, ap length pending, c.requires), within, buffer, line, short, inside, rw c.deref.ensures.value at c.line_len-self-inside.ensures)
