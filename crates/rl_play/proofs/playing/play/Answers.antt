use Rattle.rl_play.proofs.WrittenLemmas.{script_done, script_played, script_written}
use Rattle.rl_play.proofs.playing.play.Goals as goal

pub returns-clause-ends : goal.returns-clause-ends
returns-clause-ends g c = record {
  own = c.play_through-status.new.counts;
  risen = c.add.ensures;
  counted = c.play_through-status.ensures.plays.counted;
}

pub returns-clause-log : goal.returns-clause-log
returns-clause-log g c = script_written _ _ _ _ _ _ _ _ _ _ _ _ c.new-own.ensures c.add.ensures c.play_through-status.ensures.plays

pub returns-clause-any_device : goal.returns-clause-any_device
returns-clause-any_device g c = script_played _ _ _ _ _ _ _ _ _ _ _ _ c.new-own.ensures c.add.ensures c.play_through-status.ensures.plays

pub returns-clause-done : goal.returns-clause-done
returns-clause-done g c = script_done _ _ _ _ _ _ _ _ _ _ _ _ c.new-own.ensures c.add.ensures c.play_through-status.ensures.plays

pub returns-clause-at_fault : goal.returns-clause-at_fault
returns-clause-at_fault g c = c.play_through-status.ensures.plays.at_fault

pub returns-clause-none_lost : goal.returns-clause-none_lost
returns-clause-none_lost g c = c.play_through-status.ensures.plays.none_lost
