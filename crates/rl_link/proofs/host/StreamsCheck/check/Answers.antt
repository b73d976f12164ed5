use Rattle.std.proofs.Common.{ap, sym, ◌∙◌}
use Rattle.rl_session_run.proofs.StopLemmas.{check_passes, check_refuses}
use Rattle.rl_link.specs.Opening.{over_link, unless_flawed}
use Rattle.rl_link.proofs.host.StreamsCheck.check.Goals as goal

pub returns-then-not-has_flaws : goal.returns-then-not-has_flaws
returns-then-not-has_flaws g c =
    record { checks = check_passes g.Q.Sink over_link c.args.desc.now _ _ (ap (unless_flawed c.args.desc.now) (sym c.has_flaws.ensures ∙ c.if-not-has_flaws.true)) }

pub returns : goal.returns
returns g c =
    let refuses = check_refuses g.Q.Sink over_link c.args.desc.now _ _ _ _ _ (ap (unless_flawed c.args.desc.now) (sym c.has_flaws.ensures ∙ c.if-not-has_flaws.false))
    c.refused.ensures c.put_all.ensures.bytes c.put_all.ensures.stays.cause c.put_all.ensures.stays.ends in
    record { checks = refuses }
