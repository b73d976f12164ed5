use Rattle.std.proofs.Common.{◌≤◌, ◌<◌, None, length, drop, sym, ap, subst, ◌∙◌, arith}
use Rattle.std.specs.Prelude.{slice_index_or}
use Rattle.std.proofs.lemmas.List.{drop_all, drop_more}
use Rattle.rl_grade.specs.Batch.{with_answers}
use Rattle.rl_grade.proofs.Batching.{answers_end, answers_next}
use Rattle.rl_grade.proofs.batch.keep_answers.Goals as goal

pub loop-reg-preserved : goal.loop-reg-preserved
loop-reg-preserved c =
    let reg = c.loop-reg.reg in
    let low : reg < length c.args.found.now = subst (λ n. reg < n) (sym c.requires.size) c.loop-reg-test.true in
    let finds = drop_more c.args.found.now reg None low in
    answers_next _ _ _ _ _ _ _ _ _ _ (drop_more c.args.chosen.now reg None c.loop-reg-test.true)
    (ap (λ xs. slice_index_or xs 0 None) finds) (ap (drop 1) finds) c.keep_answer.ensures c.loop-reg.invariant

pub returns : goal.returns
returns c =
    let all : length c.args.chosen.now ≤ c.loop-reg.reg = omega (arith, c.loop-reg-test.false) in
    answers_end _ _ _ _ _ (drop_all c.loop-reg.reg c.args.chosen.now all) c.loop-reg.invariant
