use Rattle.std.proofs.Common.{◌<◌, sym, subst}
use Rattle.rl_weave.specs.Weave.{IsWeave, words_left}
use Rattle.rl_weave.proofs.Granted.{granted_is, granted_value, register_place}
use Rattle.rl_weave.proofs.Left.{step_takes}
use Rattle.rl_weave.proofs.Weaves.{found_in}
use Rattle.rl_weave.proofs.weave.Weave.step_into.Goals as goal

pub send_word-item-requires-clause-place : goal.send_word-item-requires-clause-place
send_word-item-requires-clause-place g c =
    let m = c.args.model.now in
    let v = c.index-woven.result.now in
    let f = found_in m _ c.args.self.now c.args.which v c.self.view_is c.self.invariant.0 c.requires.open c.requires.weave c.index-woven.ensures in
    register_place m.layout v.access.reg v.place (granted_is m v.access.reg v.access.map v.access.value v.place f.on.granted).there

pub send_word-item-requires-clause-value : goal.send_word-item-requires-clause-value
send_word-item-requires-clause-value g c =
    let m = c.args.model.now in
    let v = c.index-woven.result.now in
    let f = found_in m _ c.args.self.now c.args.which v c.self.view_is c.self.invariant.0 c.requires.open c.requires.weave c.index-woven.ensures in
    granted_value m v.access.reg v.access.map v.access.value v.place c.layout.ensures.sound (granted_is m v.access.reg v.access.map v.access.value v.place f.on.granted)

pub returns-clause-fewer : goal.returns-clause-fewer
returns-clause-fewer g c =
    subst (λ x. words_left x < words_left c.args.self.now) (sym c.take_in.ensures.stepped)
    (step_takes c.args.self.now c.args.which c.send_word-item.result (subst IsWeave c.self.view_is c.self.invariant.0) c.requires.open)
