-- A fresh weave has sent nothing.
use Rattle.std.proofs.lemmas.List.{nil_from_length}
use Rattle.rl_weave.specs.Access.{no_woven, woven_at}
use Rattle.rl_weave.proofs.Weaves.{at_open}
use Rattle.rl_weave_laws.specs.Half.{FreshIsUnsent}

pub fresh_is_unsent : FreshIsUnsent
fresh_is_unsent w ok fresh i there =
    nil_from_length (woven_at w.accesses i).items ((ok.unsent fresh).no_items i no_woven (at_open w i ok there).inside)
