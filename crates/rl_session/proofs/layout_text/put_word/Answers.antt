use Rattle.std.proofs.Common.{◌≡◌, ◌-◌, length, take, drop, take_all, length-drop, arith, rules}
use Rattle.rl_session.proofs.layout_text.put_word.Goals as goal

pub returns : goal.returns
returns g c =
    let text = c.spell_lanes-start.new.text in
    let start = c.spell_lanes-start.result in
    let long : length text ≡ 32 = search rules in
    let all : take (32 - start) (drop start text) ≡ drop start text = take_all (32 - start) (drop start text) (omega (arith, length-drop start text, long)) in
    rw (c.front-address.ensures, c.spell-len.ensures.digits, all, c.spell_lanes-start.ensures.text) at c.put_pieces.ensures
