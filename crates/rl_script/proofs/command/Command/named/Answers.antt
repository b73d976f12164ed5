use Rattle.std.proofs.Common.{sym, ◌∙◌}
use Rattle.rl_script.proofs.CommandLemmas.{on_item, on_none}
use Rattle.rl_script.proofs.command.Command.named.Goals as goal

pub returns-in-Some : goal.returns-in-Some
returns-in-Some c = sym (on_item c.args.word.now c.in-Some.item (sym c.named.ensures ∙ c.in-Some.is))

pub returns : goal.returns
returns c = c.other_command.ensures ∙ sym (on_none c.args.word.now (sym c.named.ensures ∙ c.in_default.is))
