use Rattle.rl_seq.proofs.Turning.{place_before, place_there, reg_in}
use Rattle.rl_seq.proofs.visit.share.Goals as goal

pub turned_round-value-requires : goal.turned_round-value-requires
turned_round-value-requires c = reg_in c.args.reg c.requires.reg c.chip.ensures.chip

pub map_of-requires : goal.map_of-requires
map_of-requires c = place_there c.args.place c.requires.place c.layout-layout.ensures.layout

pub is_of-requires : goal.is_of-requires
is_of-requires c = place_before c.in-Some.other c.args.turn c.in-Some.ensures c.requires.turn c.layout-layout.ensures.layout

pub may_read-requires : goal.may_read-requires
may_read-requires c = place_before c.in-Some.other c.args.turn c.in-Some.ensures c.requires.turn c.layout-layout.ensures.layout

pub map_of-requires-2 : goal.map_of-requires-2
map_of-requires-2 c = place_before c.in-Some.other c.args.turn c.in-Some.ensures c.requires.turn c.layout-layout.ensures.layout
