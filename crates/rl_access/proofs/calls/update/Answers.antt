use Rattle.rl_access.proofs.Carried.{update_wishes}
use Rattle.rl_access.proofs.calls.update.Goals as goal

pub returns-clause-wishes : goal.returns-clause-wishes
returns-clause-wishes g c =
    let does = c.perform.ensures.does in
    update_wishes _ _ c.args.reg c.args.map c.perform.result c.law_of_update.ensures.known c.law_of_update.ensures.law does.performs
