-- The earlier bytes are those of the sink as it comes.
use Rattle.rl_play.proofs.playing.play.Given as goal

abbrev pub ghosts-play_through : goal.ghosts-play_through
ghosts-play_through g a = record { bytes = g.K.Sink.written a.sink.now }
