use Rattle.rl_split.proofs.Sending.{is_here}
use Rattle.rl_split.proofs.Whole.{lanes_chosen}
use Rattle.rl_split.proofs.access.Outgoing.word.Goals as goal

pub lanes_sent-lanes-requires-clause-whole : goal.lanes_sent-lanes-requires-clause-whole
lanes_sent-lanes-requires-clause-whole c =
    let l = c.args.layout.now in
    let s = c.args.self.now in
    let here = is_here l s.place s.index c.ports.ensures.sound c.requires.outgoing.location in
    lanes_chosen l s.place s.index s.chosen c.args.k c.word-word.result c.is_whole-whole.result here c.word-word.ensures.word c.is_whole-whole.ensures
