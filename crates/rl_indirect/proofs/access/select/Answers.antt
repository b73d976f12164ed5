use Rattle.std.proofs.Common.{ap}
use Rattle.rl_indirect.specs.declared.window.Window.{Window}
use Rattle.rl_indirect.proofs.Following.{selection_at}
use Rattle.rl_indirect.proofs.access.select.Goals as goal

pub returns-clause-agree : goal.returns-clause-agree
returns-clause-agree g c = λ h.
    selection_at _ _ _ c.args.bank.now c.follow.new.self c.follow_believed.new.self c.args.map c.args.k c.window-index_reg.result.index_reg c.front_write-index.result
    (ap (λ (w : Window). w.index_reg) c.window-index_reg.ensures.window) c.front_write-index.ensures.does.performs h c.chip-met.ensures.sound c.chip-written.ensures.sound
    c.follow.ensures.settles c.follow_believed.ensures.model c.follow_believed.ensures.bank c.requires.bank c.window-index_reg.ensures.sound c.requires.map c.requires.k
