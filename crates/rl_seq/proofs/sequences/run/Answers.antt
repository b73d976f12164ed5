use Rattle.std.proofs.Common.{Err, refl, rules}
use Rattle.rl_seq.specs.Sequences.{walk, beginning_of}
use Rattle.rl_seq.proofs.Following.{follows_broke, then_walked, sequence_ends, sequence_breaks}
use Rattle.rl_seq.proofs.Turning.{block_in}
use Rattle.rl_seq.proofs.sequences.run.Goals as goal

pub returns-in_err-begin : goal.returns-in_err-begin
returns-in_err-begin g c =
    let m = c.args.model.now in
    let broke = sequence_breaks g.R.Recorder _ _ c.args.sequence c.args.block _ _ _ c.from_residual.result
    (follows_broke g.R.Recorder {U = Unit {0}} _ _ _ _ c.new.result (beginning_of c.args.sequence)
    (walk c.args.sequence m.chip m.layout c.args.block) _ (Err c.in_err-begin.field-0.0) c.in_err-begin.ensures.follows refl)
    c.from_residual.ensures.0 in
    search (rules, broke)

pub returns-in_err-walk : goal.returns-in_err-walk
returns-in_err-walk g c =
    let broke = sequence_breaks g.R.Recorder _ _ c.args.sequence c.args.block _ _ _ c.from_residual-in_err-walk.result
    (then_walked g.R.Recorder _ _ _ c.args.sequence c.args.block _ _ _ _ _ c.in_ok-begin.ensures.follows c.in_err-walk.ensures.follows)
    c.from_residual-in_err-walk.ensures.0 in
    search (rules, broke)

pub returns : goal.returns
returns g c =
    let done = sequence_ends g.R.Recorder _ _ c.args.sequence c.args.block _ _ _
    (then_walked g.R.Recorder _ _ _ c.args.sequence c.args.block _ _ _ _ _ c.in_ok-begin.ensures.follows c.in_ok-walk.ensures.follows)
    c.new.ensures in
    search (rules, done)

pub walk-requires-clause-block : goal.walk-requires-clause-block
walk-requires-clause-block g c = block_in c.args.block c.requires.block c.in_ok-begin.ensures.follows.stays.parts.chip
