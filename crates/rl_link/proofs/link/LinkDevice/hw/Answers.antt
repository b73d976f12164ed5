use Rattle.std.proofs.Common.{refl}
use Rattle.rl_bus.specs.Account as ask
use Rattle.rl_link.proofs.SpeakLemmas.{heard_hw, settled_asks}
use Rattle.rl_link.proofs.link.LinkDevice.hw.Goals as goal

pub returns-clause-asked : goal.returns-clause-asked
returns-clause-asked g c =
    let t = c.try_hw-done in
    let s = c.settle.ensures in
    settled_asks g.S.Source.left g.K.Sink.written c.args.self.now t.new.self c.settle.new.self (ask.hw c.args.field c.args.value) t.result refl
    (heard_hw g.S.Source.left g.K.Sink.written c.args.self.now c.settle.new.self c.args.field c.args.value)
    t.ensures.going t.ensures.sent t.ensures.done t.ensures.only s.later s.done s.broken
