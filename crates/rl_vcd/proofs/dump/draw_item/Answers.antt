use Rattle.std.proofs.Common.{sym, ◌∙◌}
use Rattle.rl_vcd.proofs.DumpLemmas.{item_drawn}
use Rattle.rl_vcd.proofs.dump.draw_item.Goals as goal

pub returns-clause-drawn : goal.returns-clause-drawn
returns-clause-drawn c =
    item_drawn c.draw.result c.args.layout.now c.args.label.now c.args.wave.now.text.items c.draw.new.self.text.items c.args.item.now c.args.wave.now.cycle
    c.bus_of-bus.result c.transfer_of.result c.response_of.result (sym c.is_apb.ensures ∙ c.if-not-is_apb.false) c.bus_of-bus.ensures c.transfer_of.ensures
    c.response_of.ensures c.draw.ensures.drawn
