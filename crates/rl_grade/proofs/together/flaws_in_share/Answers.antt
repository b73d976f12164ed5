use Rattle.std.proofs.Common.{◌≤◌, ◌++◌, All, length, subst, sym, ap, ◌∙◌, arith}
use Rattle.std.proofs.lemmas.List.{drop_all, drop_more}
use Rattle.std.proofs.lemmas.List.Elements.{All-append}
use Rattle.rl_flaw.specs.Flaws.{IsFlawOf}
use Rattle.rl_grade.specs.Share.{share_of}
use Rattle.rl_grade.proofs.Grading.{shared}
use Rattle.rl_grade.proofs.Rounds.{places_end, places_next}
use Rattle.rl_grade.proofs.together.flaws_in_share.Goals as goal

pub loop-place-preserved : goal.loop-place-preserved
loop-place-preserved c =
    let d = c.args.desc.now in
    let e = c.in_ok-push_place.ensures in
    let i = c.loop-place.invariant in
    record {
      leads = places_next d c.args.items _ _ _ _ _ _ (drop_more c.args.places.now c.loop-place.place-index _ c.loop-place-test.true) e.flaws i.leads;
      each = subst (All (IsFlawOf d.chip d.layout)) (sym e.flaws) (All-append (IsFlawOf d.chip d.layout) _ _ i.each e.each);
    }

pub returns-clause-flaws : goal.returns-clause-flaws
returns-clause-flaws c =
    let all : length c.args.places.now ≤ c.loop-place.place-index = omega (arith, c.loop-place-test.false) in
    let places = places_end c.args.desc.now c.args.items _ c.loop-place.all.items _ (drop_all c.loop-place.place-index c.args.places.now all) c.loop-place.invariant.leads in
    c.in_ok-push_share.ensures ∙ ap (λ xs. xs ++ share_of c.args.share 0 c.deref.result.now) c.new-flaws.ensures.items
    ∙ ap (share_of c.args.share 0) (c.deref.ensures.value ∙ places)

pub returns-clause-each : goal.returns-clause-each
returns-clause-each c =
    let d = c.args.desc.now in
    let flaws = c.in_ok-push_share.ensures ∙ ap (λ xs. xs ++ share_of c.args.share 0 c.deref.result.now) c.new-flaws.ensures.items
    ∙ ap (share_of c.args.share 0) c.deref.ensures.value in
    subst (All (IsFlawOf d.chip d.layout)) (sym flaws)
    (shared (IsFlawOf d.chip d.layout) c.args.share 0 c.loop-place.all.items c.loop-place.invariant.each)
