use Rattle.std.proofs.Common.{sym, ◌∙◌}
use Rattle.rl_report.specs.Operation.{spoken_of, IsSpokenIn}
use Rattle.rl_report.proofs.OperationLemmas.{same_text, from_some, spoken_in, text_is_spoken}
use Rattle.rl_report.proofs.telling.Telling.put_op.Goals as goal

pub put-requires : goal.put-requires
put-requires g c =
    let m = c.args.self.now.model.now in
    let op = c.args.self.now.event.now.op in
    from_some (IsSpokenIn m) (spoken_of op) c.in-Some.spoken (sym c.of.ensures ∙ c.in-Some.is) (spoken_in m op c.requires)

pub returns-in-Some-clause-bytes : goal.returns-in-Some-clause-bytes
returns-in-Some-clause-bytes g c =
    let told = text_is_spoken c.args.self.now.model.now c.args.self.now.event.now.op c.in-Some.spoken (sym c.of.ensures ∙ c.in-Some.is) in
    same_text _ _ _ _ _ _ _ (sym told) c.put.ensures.bytes

pub returns-in-Some-clause-stays : goal.returns-in-Some-clause-stays
returns-in-Some-clause-stays g c = c.put.ensures.stays

pub returns-in-None-clause-stays : goal.returns-in-None-clause-stays
returns-in-None-clause-stays g c = c.put_other.ensures.stays
