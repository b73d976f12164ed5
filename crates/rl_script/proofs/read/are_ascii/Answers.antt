use Rattle.std.proofs.Common.{◌≡◌, ◌-◌, false, length, drop, sym, ◌∙◌}
use Rattle.std.specs.List.{list_all}
use Rattle.rl_script.specs.Reading.{is_ascii}
use Rattle.rl_script.proofs.ChunkLemmas.{last_fails}
use Rattle.rl_script.proofs.read.are_ascii.Goals as goal

pub returns-else-all_ascii : goal.returns-else-all_ascii
returns-else-all_ascii c =
    let t = c.args.bytes.now in
    let e : list_all is_ascii (drop (length t - 16) t) ≡ false = rw (← c.in-Some.ensures.cases.1) (sym c.all_ascii.ensures ∙ c.if-all_ascii.false) in
    c.if-all_ascii.false ∙ sym (last_fails t (length t - 16) e)
