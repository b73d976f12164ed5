-- The earlier bytes are those of the sink as it comes.
use Rattle.regrun.proofs.top.regrun.Given as goal

abbrev pub ghosts-run_task : goal.ghosts-run_task
ghosts-run_task g a = record { bytes = g.K.Sink.written a.sink.now }
