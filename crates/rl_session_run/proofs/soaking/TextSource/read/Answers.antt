use Rattle.std.proofs.Common.{arith}
use Rattle.std.proofs.lemmas.List.{take_rest}
use Rattle.rl_session_run.proofs.SoakTextLemmas.{moved, ended}
use Rattle.rl_session_run.proofs.soaking.TextSource.read.Goals as goal

pub returns-clause-bytes : goal.returns-clause-bytes
returns-clause-bytes c =
    let bytes = c.args.self.now.bytes.items in
    let at = c.args.self.now.at in
    let n = c.copy_front-count.result in
    let h = rw (c.deref.ensures.value, take_rest bytes at) at c.copy_front-count.ensures in
    (moved bytes _ _ at n h.copied (omega arith), λ none room. ended bytes at n none (omega arith))
