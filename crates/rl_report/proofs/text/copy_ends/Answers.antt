use Rattle.std.proofs.Common.{◌-◌, length, refl, arith}
use Rattle.std.proofs.lemmas.List.{take_rest}
use Rattle.rl_report.proofs.CopyLemmas.{ends_copied}
use Rattle.rl_report.proofs.text.copy_ends.Goals as goal

pub returns-clause-front : goal.returns-clause-front
returns-clause-front g c =
    let piece = c.args.piece.now in
    let rest = length piece - g.row.N in
    ends_copied c.args.bytes.now _ _ piece c.args.end g.row.N rest _ _ (omega (arith, c.requires.room)) refl c.requires.enough c.requires.whole c.copy_front.ensures.end
    c.copy_front.ensures.front
    (rw (take_rest piece rest) at c.copy_front-2.ensures.front)
