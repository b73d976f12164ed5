use Rattle.std.proofs.Common.{refl, rules}
use Rattle.rl_log.specs.declared.status.Status.TheVariants.{Memory}
use Rattle.std.proofs.KnownBytes.{Keeps-refl}
use Rattle.rl_play.proofs.EndingLemmas.{counted_none}
use Rattle.rl_play.proofs.LeavesLemmas.{leaves_memory}
use Rattle.rl_play.proofs.PlayLemmas.{early_ends}
use Rattle.rl_weave_log.proofs.Lines.{begun_weaves}
use Rattle.rl_weave_log.proofs.weaving.weave_lines.Goals as goal

pub returns-clause-weaves : goal.returns-clause-weaves
returns-clause-weaves g c =
    let w = begun_weaves c.args.n _ _ _ _ _ _ _ _ _ _ _ c.in-Ok.ensures.group c.in-Ok.ensures.draws c.weave_all.ensures.weaves in
    search (rules, c.weave_all.ensures.stays, w)

pub returns-in_default-clause-leaves : goal.returns-in_default-clause-leaves
returns-in_default-clause-leaves g c = leaves_memory g.L.Sink _ _ _ _ c.requires.found

pub returns-in_default-clause-weaves : goal.returns-in_default-clause-weaves
returns-in_default-clause-weaves g c = record {
  log = early_ends _ Memory _ _ _ _ _ _ refl (Keeps-refl (g.L.Sink.written c.args.out.now));
  at_fault = λ is. absurd (cc);
  counted = counted_none Memory _ refl;
}
