use Rattle.rl_bench.proofs.QueueLemmas.{few_there}
use Rattle.rl_bench.proofs.beats.is_queued.Goals as goal

pub returns-then-at-le1 : goal.returns-then-at-le1
returns-then-at-le1 c _ =
    few_there c.args.words.now c.args.word.now.port c.args.word.now.address c.args.at.first c.args.at.end c.args.word.now c.requires c.if-at-le1.true
