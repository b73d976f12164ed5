use Rattle.std.proofs.Common.{◌≡◌, true, false, ap, ◌∙◌}
use Rattle.rl_play.specs.declared.playing.Turn.TheVariants.{Stop}
use Rattle.rl_session_run.proofs.RunLemmas.{runs_memory}
use Rattle.regrun.proofs.BreakLemmas.{weave_breaks}
use Rattle.regrun.proofs.JudgedLemmas.{weave_told}
use Rattle.regrun.proofs.RunLemmas.{opened_ready}
use Rattle.regrun.proofs.weaving.weave_session.Goals as goal

pub returns-in_default-clause-runs : goal.returns-in_default-clause-runs
returns-in_default-clause-runs g c = runs_memory g.S.Source g.L.Sink g.L.Log.is_out _ _ c.args.lines.now _ _ _

pub returns-clause-runs : goal.returns-clause-runs
returns-clause-runs g c =
    let n = c.args.n in
    let e = c.weave_lines.ensures in
    let none = c.new.ensures in
    let first = c.in-Ok.ensures.first _ in
    record {
      tells = weave_told n _ c.args.desc _ _ _ _ _ _ _ _ _ _ _ none first e.weaves.log;
      at_fault = λ is. weave_breaks n _ c.args.desc _ _ _ _ _ _ _ none first (e.weaves.at_fault is);
      unended = λ is. let on = e.leaves.goes_on (ap Stop is) in (on.unended, on.out);
      leaves = e.leaves.leaves;
    }

pub weave_lines-requires-clause-ready : goal.weave_lines-requires-clause-ready
weave_lines-requires-clause-ready g c = opened_ready c.args.desc _ _ _ c.requires.awaits.runnable c.in-Ok.ensures.opened

pub returns-clause-kinds : goal.returns-clause-kinds
returns-clause-kinds g c =
    let e = c.weave_lines.ensures in
    e.ready.kinds ∙ ap (λ l. l.kinds) (e.parts.layout ∙ c.in-Ok.ensures.opened.layout) ∙ c.requires.awaits.runnable.same_kinds

pub returns-in_default-clause-sound : goal.returns-in_default-clause-sound
returns-in_default-clause-sound g c = λ whole. let no : false ≡ true = whole in absurd (cc)

pub returns-clause-sound : goal.returns-clause-sound
returns-clause-sound g c = λ whole. c.in-Ok.ensures.sound
