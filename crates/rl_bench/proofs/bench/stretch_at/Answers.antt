use Rattle.rl_bench.proofs.bench.stretch_at.Goals as goal

pub words_at-requires : goal.words_at-requires
words_at-requires c = c.requires.rise
