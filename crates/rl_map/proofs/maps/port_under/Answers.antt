use Rattle.std.proofs.Common.{sym, ap, ◌∙◌}
use Rattle.rl_map.specs.Maps.{map_number}
use Rattle.rl_map.proofs.Growing.{no_port_under}
use Rattle.rl_map.proofs.maps.port_under.Goals as goal

pub returns-in-None-map_number : goal.returns-in-None-map_number
returns-in-None-map_number c =
    no_port_under c.args.ports c.args.maps.now c.args.map.now.parent c.in-Some.parent c.in-Some.is
    (ap (map_number c.args.maps.now) (sym c.text.ensures) ∙ (sym c.map_number.ensures ∙ c.in-None-map_number.is))
