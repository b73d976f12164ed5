use Rattle.rl_vcd.proofs.TextLemmas.{last, more}
use Rattle.rl_vcd.proofs.pins.push_changes.Goals as goal

pub returns : goal.returns
returns c =
    more _ _ _ _ _ c.in_ok-change_bit.ensures
    (more _ _ _ _ _ c.in_ok-change_bit-2.ensures
    (more _ _ _ _ _ c.in_ok-change_word.ensures
    (more _ _ _ _ _ c.in_ok-change_bit-3.ensures
    (more _ _ _ _ _ c.in_ok-change_word-2.ensures
    (more _ _ _ _ _ c.in_ok-change_word-3.ensures
    (more _ _ _ _ _ c.in_ok-change_bit-4.ensures
    (more _ _ _ _ _ c.in_ok-change_word-4.ensures
    (last _ _ _ c.in_ok-change_bit-5.ensures))))))))
