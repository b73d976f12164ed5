use Rattle.std.proofs.Common.{◌≡◌, ap, true, false}
use Rattle.rl_play.specs.declared.playing.Turn.TheVariants.{Stop}
use Rattle.rl_session_run.proofs.PlayedLemmas.{breaks_first, session_told}
use Rattle.rl_session_run.proofs.RunLemmas.{runs_memory}
use Rattle.rl_session_run.proofs.running.run_session.Goals as goal

pub returns-in_default-clause-runs : goal.returns-in_default-clause-runs
returns-in_default-clause-runs g c = runs_memory g.S.Source g.L.Sink g.L.Log.is_out _ _ c.args.lines.now _ _ _

pub returns-clause-runs : goal.returns-clause-runs
returns-clause-runs g c =
    let e = c.play_lines.ensures in
    let first = c.in-Ok.ensures.first _ in
    record {
      tells = session_told _ c.args.desc _ _ _ _ _ _ _ _ _ _ _ c.new.ensures first e.plays.log;
      at_fault = λ is. breaks_first _ c.args.desc _ _ _ _ _ _ first (e.plays.at_fault is);
      unended = λ is. let on = e.leaves.goes_on (ap Stop is) in (on.unended, on.out);
      leaves = e.leaves.leaves;
    }

pub returns-in_default-clause-sound : goal.returns-in_default-clause-sound
returns-in_default-clause-sound g c = λ whole. let no : false ≡ true = whole in absurd (cc)

pub returns-clause-sound : goal.returns-clause-sound
returns-clause-sound g c = λ whole. c.in-Ok.ensures.sound
