use Rattle.std.proofs.Common.{◌≡◌, ◌+◌, ◌-◌, ◌≤◌, length, take, drop, slice_range, ap, ◌∙◌, arith}
use Rattle.std.specs.Io.BufRead.{strip_last}
use Rattle.rl_report.proofs.RangeLemmas.{range_front, length_part}
use Rattle.rl_report.proofs.TakenLemmas.{same_reading}
use Rattle.rl_report.proofs.lines.LineReader.hand_out.Goals as goal

pub returns : goal.returns
returns c =
    let i = c.self.inside in
    let pending : slice_range i.buffer.items i.start i.end ≡ c.args.self.now.pending = ap (λ r. r.pending) c.self.view_is in
    let held : length (slice_range i.buffer.items i.start i.end) ≡ i.end - i.start = length_part i.buffer.items i.start i.end (omega (arith, i.buffer.ok.0)) (omega arith) in
    let fits : c.args.size ≤ i.end - i.start = omega (arith, ap length pending, c.requires.within) in
    let e = c.without_return-line.ensures in
    let n = length c.without_return-line.result.now in
    let whole = slice_range i.buffer.items i.start (i.start + c.args.size) in
    let size = length_part i.buffer.items i.start (i.start + c.args.size) (omega (arith, i.buffer.ok.0)) (omega arith) in
    let w = rw c.deref.ensures.value at e.value in
    let f = rw c.deref.ensures.value at e.front in
    let s = rw c.deref.ensures.value at e.shorter in
    let few : n ≤ c.args.size = omega (arith, s, size) in
    c.pass.ensures ∙ same_reading _ _ _ _ _ _ _ _ _ _ _ _ _ _
    (ap (drop c.args.taken) pending)
    (range_front i.buffer.items i.start (i.start + c.args.size) n (omega arith) ∙ f ∙ w ∙ ap (strip_last 13)
    (range_front i.buffer.items i.start i.end c.args.size (omega arith) ∙ ap (take c.args.size) pending))
    (ap (λ r. r.asked) c.self.view_is) (ap (λ r. r.found) c.self.view_is) (ap (λ r. r.refused) c.self.view_is) (ap (λ r. r.ended) c.self.view_is) (ap (λ r. r.closed) c.self.view_is)

pub invariant_of-self : goal.invariant_of-self
invariant_of-self c =
    let i = c.self.inside in
    let (ordered, within, buffer, line, short, inside, size) = c.self.invariant in
    let pending : slice_range i.buffer.items i.start i.end ≡ c.args.self.now.pending = ap (λ r. r.pending) c.self.view_is in
    let held : length (slice_range i.buffer.items i.start i.end) ≡ i.end - i.start = length_part i.buffer.items i.start i.end (omega (arith, i.buffer.ok.0)) (omega arith) in
    let taken = length_part i.buffer.items i.start (i.start + c.args.size) (omega (arith, i.buffer.ok.0, ap length pending, c.requires.within)) (omega arith) in
    let s = rw c.deref.ensures.value at c.without_return-line.ensures.shorter in
    (ordered, within, buffer, line, omega (arith, s, taken), omega (arith, s, taken, ap length pending, c.requires.within), size)
