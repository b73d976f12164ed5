use Rattle.std.proofs.Common.{[], ◌∷◌, ◌++◌, append_assoc, ap, ◌∙◌}
use Rattle.rl_model.proofs.check.path_of.Goals as goal

pub returns-in_ok-extend_from_slice-in-Some : goal.returns-in_ok-extend_from_slice-in-Some
returns-in_ok-extend_from_slice-in-Some c =
    let of = c.in-Some.of in
    let name = c.text-in-Some-2.result.now in
    rw c.in-Some.is
    (c.in_ok-extend_from_slice-in-Some.ensures.items ∙ ap (λ path. path ++ name) c.in_ok-push-in-Some.ensures.items
    ∙ ap (λ path. (path ++ 46 ∷ []) ++ name) (c.in_ok-path-in-Some.ensures.items ∙ c.text-in-Some.ensures) ∙ append_assoc of (46 ∷ []) name
    ∙ ap (λ text. of ++ 46 ∷ text) c.text-in-Some-2.ensures)
