use Rattle.std.specs.Prelude.{Contains}
use Rattle.std.proofs.lemmas.List.Elements.{All-contains_itself}
use Rattle.rl_flaw.specs.Flaws.{IsFlawOf}
use Rattle.rl_grade.specs.Place.{flaws_at}
use Rattle.rl_grade.proofs.Grading.{each_graded}
use Rattle.rl_grade.proofs.grade.grade_place_known.Goals as goal

pub grade_flaws-requires-clause-flaws : goal.grade_flaws-requires-clause-flaws
grade_flaws-requires-clause-flaws c = rw c.deref.ensures.value c.in_ok-flaws.ensures.each

pub grade_flaws-requires-clause-known : goal.grade_flaws-requires-clause-known
grade_flaws-requires-clause-known c = rw c.deref-2.ensures.value c.requires.known

pub returns-clause-graded : goal.returns-clause-graded
returns-clause-graded c =
    rw (c.deref.ensures.value, c.deref-2.ensures.value, c.in_ok-flaws.ensures.flaws) at c.in_ok-tries.ensures.graded

pub returns-clause-listed : goal.returns-clause-listed
returns-clause-listed c =
    let d = c.args.desc in
    let flaws = flaws_at d c.args.shown.now.items c.args.place in
    rw (c.in_ok-tries.ensures.graded, c.deref.ensures.value, c.deref-2.ensures.value, c.in_ok-flaws.ensures.flaws)
    (each_graded (Contains flaws) d c.args.tasks.now c.args.shown.now.seen.items c.args.share c.args.number flaws
    (All-contains_itself flaws))

pub returns-clause-each : goal.returns-clause-each
returns-clause-each c =
    let d = c.args.desc in
    let flaws = flaws_at d c.args.shown.now.items c.args.place in
    let each = rw c.in_ok-flaws.ensures.flaws at c.in_ok-flaws.ensures.each in
    rw (c.in_ok-tries.ensures.graded, c.deref.ensures.value, c.deref-2.ensures.value, c.in_ok-flaws.ensures.flaws)
    (each_graded (IsFlawOf d.chip d.layout) d c.args.tasks.now c.args.shown.now.seen.items c.args.share c.args.number flaws each)
