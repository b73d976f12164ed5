use Rattle.std.proofs.Common.{◌≡◌, length, sym, subst, arith}
use Rattle.std.specs.Io.KnownBytes.{ReadConsumes}
use Rattle.rl_link.specs.Coming.{coming}
use Rattle.rl_link.proofs.ComingLemmas.{gives_front, none_given}
use Rattle.rl_link.proofs.by_line.ByLineSource.read.Goals as goal

pub returns-clause-bytes : goal.returns-clause-bytes
returns-clause-bytes g c =
    let held = c.fill.new.held in
    let n = c.copy_front-count.result in
    let e = rw c.bytes.ensures.bytes at c.copy_front-count.ensures in
    rw c.pass.ensures (gives_front _ _ held _ _ n c.in_ok-fill.ensures.coming (omega (arith, e.count)) e.copied
    (λ z. let none = none_given (length held) _ _ n e.count c.requires c.line_size-size.ensures.some z in (c.in_ok-fill.ensures.end none, none)))
