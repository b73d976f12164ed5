use Rattle.rl_map.specs.Layout.{map_at}
use Rattle.rl_report.proofs.GatherLemmas.{gathers_more, gathers_last, pushed}
use Rattle.rl_report.proofs.OperationLemmas.{same_text, map_pieces}
use Rattle.rl_report.proofs.operation.put_map.Goals as goal

pub returns-clause-bytes : goal.returns-clause-bytes
returns-clause-bytes g c =
    rw c.in-Some.is (same_text _ _ _ _ _ _ _ (map_pieces (map_at c.args.model.now.layout c.in-Some.number).name)
    (gathers_more _ _ _ _ _ _ _ _ _ (pushed _ _ _ _ c.push.ensures.text) (gathers_last _ _ _ _ _ _ (rw (c.map_name.ensures, c.layout.ensures.layout) at c.gather.ensures.bytes))))
