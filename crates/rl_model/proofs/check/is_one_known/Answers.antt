use Rattle.std.proofs.Common.{◌≡◌, ◌+◌, ◌++◌, ◌∷◌, [], ℕ, List, true, false, bytes_eq, drop, sym, ap, ◌∙◌, arith}
use Rattle.std.proofs.lemmas.Bool.Decides.{nat_tests}
use Rattle.std.proofs.lemmas.Grind.{common_steps}
use Rattle.rl_model.specs.declared.parts.ResetPart.{ResetPart}
use Rattle.rl_model.specs.Paths.{is_among}
use Rattle.rl_model.specs.Rules.{clashes}
use Rattle.rl_model.proofs.PathLemmas.{any-first}
use Rattle.rl_model.proofs.Repeats.{clashes-seen, clashes-at_once}
use Rattle.rl_model.proofs.check.is_one_known.Goals as goal

pub loop-reset-preserved : goal.loop-reset-preserved
loop-reset-preserved c =
    let x : ResetPart = c.reset-item.result in
    let seen : List (List ℕ) = c.loop-reset.kinds in
    let rest : List ResetPart = drop (c.loop-reset.reset-index + 1) c.args.resets.now in
    let first = any-first (bytes_eq x.kind) seen in
    let new : is_among x.kind seen ≡ false = grind (arith, nat_tests, common_steps, first) in
    let added : c.find_or_add.new.self ≡ seen ++ x.kind ∷ [] = grind (arith, common_steps) in
    let here : drop c.loop-reset.reset-index c.args.resets.now ≡ x ∷ rest = grind (arith, common_steps) in
    rw added (clashes-seen seen x rest new ∙ (ap (λ (l : List ResetPart). clashes seen l) (sym here) ∙ c.loop-reset.invariant))

pub returns-then-branch-known : goal.returns-then-branch-known
returns-then-branch-known c =
    let x : ResetPart = c.reset-item.result in
    let seen : List (List ℕ) = c.loop-reset.kinds in
    let rest : List ResetPart = drop (c.loop-reset.reset-index + 1) c.args.resets.now in
    let first = any-first (bytes_eq x.kind) seen in
    let there : is_among x.kind seen ≡ true = grind (arith, nat_tests, common_steps, first) in
    let here : drop c.loop-reset.reset-index c.args.resets.now ≡ x ∷ rest = grind (arith, common_steps) in
    sym (clashes-at_once seen x rest there) ∙ (ap (λ (l : List ResetPart). clashes seen l) (sym here) ∙ c.loop-reset.invariant)
