use Rattle.std.proofs.Common.{[], ap, rules, ◌∙◌}
use Rattle.rl_access.specs.Model.{ModelData}
use Rattle.rl_play.specs.declared.playing.Turn.TheVariants.{Stop}
use Rattle.rl_session_run.proofs.PlayedLemmas.{breaks_first, session_told}
use Rattle.rl_session_run.proofs.RunLemmas.{runs_memory}
use Rattle.rl_vcd.specs.Session.{HasBegun}
use Rattle.rl_vcd.proofs.RunLemmas.{rest_cut, rest_drawn_behind, rest_unreached, script_ran, script_unrun}
use Rattle.rl_vcd.proofs.run.run_opened.Goals as goal

pub returns-in-Err-clause-draws : goal.returns-in-Err-clause-draws
returns-in-Err-clause-draws g c = rw c.undrawn.ensures (rest_unreached g.K.Sink c.args.desc _ _ _ _ _ _ c.in-Err.ensures.back)

pub returns-in-Err-clause-runs : goal.returns-in-Err-clause-runs
returns-in-Err-clause-runs g c =
    rw c.undrawn.ensures (runs_memory g.S.Source g.L.Sink g.L.Log.is_out _ _ c.args.lines.now _ _ _)

pub returns-in_default-clause-draws : goal.returns-in_default-clause-draws
returns-in_default-clause-draws g c =
    let e = c.in-Ok.ensures in
    let text = e.header in
    let first = e.first in
    let sound = e.sound in
    let begun : HasBegun c.args.desc.layout c.in-Ok.dump = search (rules, text, first, sound) in
    rest_cut g.K.Sink c.args.desc _ _ _ _ _ _ _ _ _ e.sink c.end_dump.ensures.status begun c.end_dump.ensures.closes

pub returns-in_default-clause-runs : goal.returns-in_default-clause-runs
returns-in_default-clause-runs g c =
    script_unrun g.S.Source g.L.Sink g.L.Log.is_out c.args.desc c.args.lines.now _ _ _ _ c.end_dump.ensures.status

pub returns-clause-draws : goal.returns-clause-draws
returns-clause-draws g c =
    let e = c.in-Ok.ensures in
    let text = e.header in
    let first = e.first in
    let sound = e.sound in
    let begun : HasBegun c.args.desc.layout c.in-Ok.dump = search (rules, text, first, sound) in
    let f = c.end_dump-2.ensures in
    let r = c.run_script-status.ensures in
    let to_log = r.same.log in
    let to_dump = r.same.dump in
    let w = rest_drawn_behind g.K.Sink c.args.desc _ _ _ _ _ _ _ _ _ _ _ _ _ _ _ _ _ (search (rules, to_dump)) e.sink c.new.ensures (c.in-Ok-open.ensures.first _) f.status begun
    f.closes r.draws.draws in
    search (rules, to_log, to_dump, w)

pub returns-clause-runs : goal.returns-clause-runs
returns-clause-runs g c =
    let e = c.run_script-status.ensures in
    let first = c.in-Ok-open.ensures.first _ in
    let to_log = e.same.log in
    let w = script_ran g.S.Source g.L.Sink g.L.Log.is_out c.args.desc c.args.lines.now _ _ _ _ _ _ _ _ c.end_dump-2.ensures.status
    (session_told _ c.args.desc _ _ _ _ _ _ _ _ _ _ _ c.new.ensures first e.draws.log)
    (λ is. breaks_first _ c.args.desc _ _ _ _ _ _ first (e.draws.at_fault is))
    (λ is. let on = e.leaves.goes_on (ap Stop is) in (on.unended, on.out)) e.leaves.leaves in
    search (rules, to_log, w)

pub returns-clause-kinds : goal.returns-clause-kinds
returns-clause-kinds g c =
    let e = c.run_script-status.ensures in
    e.ready.kinds ∙ ap (λ l. l.kinds) e.parts.layout
    ∙ ap (λ (m : ModelData). m.layout.kinds) (c.in-Ok-open.ensures.first []).model_is ∙ c.requires.awaits.runnable.same_kinds
