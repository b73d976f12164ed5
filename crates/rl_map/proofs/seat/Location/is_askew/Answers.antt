use Rattle.std.proofs.Common.{sym, ◌∙◌}
use Rattle.rl_map.specs.Seat.{access_of}
use Rattle.rl_map.proofs.Askew.{never_askew}
use Rattle.rl_map.proofs.seat.Location.is_askew.Goals as goal

pub returns-else-has_word_map : goal.returns-else-has_word_map
returns-else-has_word_map c =
    c.if-has_word_map.false ∙ sym (never_askew c.args.path.now (access_of c.args.self.now c.args.byte) (sym c.has_word_map.ensures ∙ c.if-has_word_map.false))
