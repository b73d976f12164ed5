use Rattle.std.proofs.Common.{ap, ◌∙◌, arith}
use Rattle.rl_map.specs.Words.{item_words}
use Rattle.rl_map.proofs.Even.{behind, one_location, many_locations}
use Rattle.rl_map.proofs.kept.PlaceWords.of.Goals as goal

pub step_of-requires-clause-behind : goal.step_of-requires-clause-behind
step_of-requires-clause-behind c =
    behind c.args.path.now c.args.base c.args.item.now c.args.size c.requires.path c.requires.some (omega arith) c.requires.straight

pub returns-then-size-eq1 : goal.returns-then-size-eq1
returns-then-size-eq1 c =
    one_location c.args.path.now c.args.base c.args.item.now c.args.size c.words-words.result (omega arith) (c.words-words.ensures ∙ ap (item_words c.args.path.now c.args.base) c.at.ensures)

pub returns : goal.returns
returns c =
    many_locations c.args.path.now c.args.base c.args.item.now c.args.size c.words-words.result c.step_of.result c.requires.path
    c.requires.some (omega arith) c.requires.straight (c.words-words.ensures ∙ ap (item_words c.args.path.now c.args.base) c.at.ensures) c.step_of.ensures
