use Rattle.std.proofs.Common.{refl}
use Rattle.rl_bus.specs.Account as ask
use Rattle.rl_link.proofs.SpeakLemmas.{heard_reset, settled_asks}
use Rattle.rl_link.proofs.link.LinkDevice.reset.Goals as goal

pub returns-clause-asked : goal.returns-clause-asked
returns-clause-asked g c =
    let t = c.try_reset-done in
    let s = c.settle.ensures in
    settled_asks g.S.Source.left g.K.Sink.written c.args.self.now t.new.self c.settle.new.self (ask.reset c.args.kind) t.result refl
    (heard_reset g.S.Source.left g.K.Sink.written c.args.self.now c.settle.new.self c.args.kind)
    t.ensures.going t.ensures.sent t.ensures.done t.ensures.only s.later s.done s.broken
