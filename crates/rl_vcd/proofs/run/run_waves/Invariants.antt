-- The earlier bytes are those of the log as it comes.
use Rattle.rl_vcd.proofs.run.run_waves.Given as goal

abbrev pub ghosts-run_through : goal.ghosts-run_through
ghosts-run_through g a = record { bytes = g.Q.Sink.written a.log.now }
