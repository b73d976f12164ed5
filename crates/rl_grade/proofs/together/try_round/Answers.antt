use Rattle.std.proofs.Common.{ap, subst, ◌∙◌}
use Rattle.rl_desc.specs.Data.{DescData}
use Rattle.rl_grade.specs.Batch.{AreChosen}
use Rattle.rl_grade.proofs.Batching.{all_inside, are_found, chosen_are, known_more}
use Rattle.rl_grade.proofs.together.try_round.Goals as goal

pub batch_of-requires : goal.batch_of-requires
batch_of-requires c =
    let chosen = c.in_ok-chosen.chosen.items in
    rw c.deref-2.ensures.value (all_inside _ c.args.flaws.now chosen c.in_ok-chosen.ensures)

pub try_flaws_afresh-requires-clause-flaws : goal.try_flaws_afresh-requires-clause-flaws
try_flaws_afresh-requires-clause-flaws c =
    let d = c.args.rounds.desc in
    let flaws = c.args.flaws.now in
    let chosen = c.in_ok-chosen.chosen.items in
    rw (c.deref-3.ensures.value, c.in_ok-batch.ensures, c.deref-2.ensures.value)
    (chosen_are d.chip flaws d.layout chosen c.requires.flaws (all_inside _ flaws chosen c.in_ok-chosen.ensures))

pub keep_answers-requires-clause-inside : goal.keep_answers-requires-clause-inside
keep_answers-requires-clause-inside c =
    let chosen = c.in_ok-chosen.chosen.items in
    rw c.deref-5.ensures.value (all_inside _ c.args.flaws.now chosen c.in_ok-chosen.ensures)

pub returns-clause-known : goal.returns-clause-known
returns-clause-known c =
    let d = c.args.rounds.desc in
    let tasks = c.args.tasks.now in
    let shown = c.args.shown.now.seen.items in
    let flaws = c.args.flaws.now in
    let chosen = c.in_ok-chosen.chosen.items in
    let choice = subst (λ (d : DescData). AreChosen d.chip flaws chosen) c.desc.view_is c.in_ok-chosen.ensures in
    let sorted = rw (c.deref-4.ensures.value, c.deref-3.ensures.value, c.in_ok-batch.ensures, c.deref-2.ensures.value) at c.in_ok-sorted.ensures.found in
    let brings = are_found d tasks shown flaws chosen _ c.in_ok-sorted.ensures.sound choice c.requires.shown sorted in
    known_more d tasks shown flaws chosen _ _ _ c.requires.known choice brings
    (rw (c.deref-5.ensures.value, c.deref-6.ensures.value) at c.keep_answers.ensures)
