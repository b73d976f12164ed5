use Rattle.std.proofs.Common.{◌≡◌, ◌++◌, ap, ◌∙◌}
use Rattle.std.proofs.KnownBytes.{Appends-trans, Keeps-refl}
use Rattle.rl_desc.specs.Data.{DescData}
use Rattle.rl_log.proofs.KnownLemmas.{front_none}
use Rattle.rl_report.proofs.PieceLemmas.{front_after, front_before, puts_stopped}
use Rattle.rl_grade_report.specs.Grading.{all_judged, facts_of, head_text, last_text, places_text}
use Rattle.rl_grade_report.specs.Places.{places_of}
use Rattle.rl_grade_report.specs.Progress.{base_shown}
use Rattle.rl_grade_report.proofs.grading.grade_waived.Goals as goal

pub grade_places-requires-clause-can_grade : goal.grade_places-requires-clause-can_grade
grade_places-requires-clause-can_grade g c = rw c.in-Ok-grade_together.ensures.desc c.requires.can_grade

pub returns-in_default-clause-bytes : goal.returns-in_default-clause-bytes
returns-in_default-clause-bytes g c = record { whole = tt; part = front_none _ _ _ (Keeps-refl _) }

pub returns-in_default-grade_together-clause-bytes : goal.returns-in_default-grade_together-clause-bytes
returns-in_default-grade_together-clause-bytes g c = record { whole = tt; part = front_none _ _ _ (Keeps-refl _) }

pub returns-in_err-put_head-clause-bytes : goal.returns-in_err-put_head-clause-bytes
returns-in_err-put_head-clause-bytes g c =
    let base = base_shown c.args.waivers.now c.args.tasks.now c.args.shown.now in
    let facts = facts_of c.args.mark base in
    let head = head_text c.args.asked facts in
    let places = places_text c.args.asked c.args.desc base 0 (places_of c.args.desc.chip) in
    let last = last_text c.args.asked facts c.args.desc c.args.tasks.now (all_judged c.args.asked c.args.desc base) in
    let part = rw c.facts_of-facts.ensures at c.in_err-put_head.ensures.bytes.part in
    puts_stopped _ _ ((head ++ places) ++ last) _ c.from_residual.ensures.0
    (front_before _ _ (head ++ places) last (front_before _ _ head places part))

pub returns-in_err-done-clause-bytes : goal.returns-in_err-done-clause-bytes
returns-in_err-done-clause-bytes g c =
    let base = base_shown c.args.waivers.now c.args.tasks.now c.args.shown.now in
    let facts = facts_of c.args.mark base in
    let head = head_text c.args.asked facts in
    let places = places_text c.args.asked c.args.desc base 0 (places_of c.args.desc.chip) in
    let last = last_text c.args.asked facts c.args.desc c.args.tasks.now (all_judged c.args.asked c.args.desc base) in
    let at : c.in-Ok.places.items ≡ places_of c.args.desc.chip =
    c.in-Ok.ensures.places ∙ ap (λ (d : DescData). places_of d.chip) c.desc.view_is in
    let one = rw c.facts_of-facts.ensures at c.in_ok-put_head.ensures.bytes.whole in
    let part = rw (c.deref-2.ensures.value, at, c.in-Ok-grade_together.ensures.desc) at c.in_err-done.ensures.bytes.part in
    puts_stopped _ _ ((head ++ places) ++ last) _ c.from_residual-in_err-done.ensures.0
    (front_before _ _ (head ++ places) last (front_after _ _ _ head places one part))

pub returns-in_err-put_last-clause-bytes : goal.returns-in_err-put_last-clause-bytes
returns-in_err-put_last-clause-bytes g c =
    let base = base_shown c.args.waivers.now c.args.tasks.now c.args.shown.now in
    let facts = facts_of c.args.mark base in
    let head = head_text c.args.asked facts in
    let places = places_text c.args.asked c.args.desc base 0 (places_of c.args.desc.chip) in
    let last = last_text c.args.asked facts c.args.desc c.args.tasks.now (all_judged c.args.asked c.args.desc base) in
    let at : c.in-Ok.places.items ≡ places_of c.args.desc.chip =
    c.in-Ok.ensures.places ∙ ap (λ (d : DescData). places_of d.chip) c.desc.view_is in
    let one = rw c.facts_of-facts.ensures at c.in_ok-put_head.ensures.bytes.whole in
    let two = rw (c.deref-2.ensures.value, at, c.in-Ok-grade_together.ensures.desc) at c.in_ok-done.ensures.bytes.whole in
    let judged = rw (c.deref-2.ensures.value, at, c.in-Ok-grade_together.ensures.desc) at c.in_ok-done.ensures.judged in
    let part = rw (c.facts_of-facts.ensures, c.in_ok-done.ensures.desc, c.in-Ok-grade_together.ensures.desc, c.deref-3.ensures.value, judged) at c.in_err-put_last.ensures.bytes.part in
    puts_stopped _ _ ((head ++ places) ++ last) _ c.from_residual-in_err-put_last.ensures.0
    (front_after _ _ _ (head ++ places) last (Appends-trans _ _ _ head places one two) part)

pub returns-clause-bytes : goal.returns-clause-bytes
returns-clause-bytes g c =
    let base = base_shown c.args.waivers.now c.args.tasks.now c.args.shown.now in
    let facts = facts_of c.args.mark base in
    let head = head_text c.args.asked facts in
    let places = places_text c.args.asked c.args.desc base 0 (places_of c.args.desc.chip) in
    let last = last_text c.args.asked facts c.args.desc c.args.tasks.now (all_judged c.args.asked c.args.desc base) in
    let at : c.in-Ok.places.items ≡ places_of c.args.desc.chip =
    c.in-Ok.ensures.places ∙ ap (λ (d : DescData). places_of d.chip) c.desc.view_is in
    let one = rw c.facts_of-facts.ensures at c.in_ok-put_head.ensures.bytes.whole in
    let two = rw (c.deref-2.ensures.value, at, c.in-Ok-grade_together.ensures.desc) at c.in_ok-done.ensures.bytes.whole in
    let judged = rw (c.deref-2.ensures.value, at, c.in-Ok-grade_together.ensures.desc) at c.in_ok-done.ensures.judged in
    let three = rw (c.facts_of-facts.ensures, c.in_ok-done.ensures.desc, c.in-Ok-grade_together.ensures.desc, c.deref-3.ensures.value, judged) at c.in_ok-put_last.ensures.bytes.whole in
    record { whole = Appends-trans _ _ _ (head ++ places) last (Appends-trans _ _ _ head places one two) three; part = tt }
