-- What is known over adapters that have sent nothing.
use Rattle.std.proofs.Common.{◌≡◌, List, [], ◌∷◌, ◌++◌, map, IfOk, Result, sym, ap, subst, ◌∙◌}
use Rattle.rl_flaw.specs.declared.flaw.Flaw.{Flaw}
use Rattle.rl_bus.specs.declared.op.AdapterKind.{AdapterKind}
use Rattle.rl_bus.specs.Standing.{Standing, kinds_of}
use Rattle.rl_desc.specs.Data.{DescData}
use Rattle.rl_session.specs.Judged.{first_world}
use Rattle.rl_grade.specs.declared.job.Task.{Task}
use Rattle.rl_grade.specs.declared.run.Tried.{Tried}
use Rattle.rl_grade.specs.declared.seen.Seen.{Seen}
use Rattle.rl_grade.specs.Adapters.{fresh_standings}
use Rattle.rl_grade.specs.Find.{first_find}
use Rattle.rl_grade.specs.Job.{heard_by}
use Rattle.rl_grade.specs.Place.{with_flaw}

pub kinds_afresh : (standings : List Standing) (kinds : List AdapterKind) → standings ≡ fresh_standings → kinds ≡ kinds_of fresh_standings
    → kinds ≡ kinds_of standings
kinds_afresh standings kinds fresh h = h ∙ ap kinds_of (sym fresh)

pub found_afresh : {E : Type 0} (d : DescData) (flaw : Flaw) (tasks : List Task) (base : List Seen) (r : Result Tried E)
    (standings : List Standing) → standings ≡ fresh_standings
    → IfOk r (λ t. t.found ≡ first_find base (heard_by (first_world (with_flaw d flaw) standings) tasks))
    → IfOk r (λ t. t.found ≡ first_find base (heard_by (first_world (with_flaw d flaw) fresh_standings) tasks))
found_afresh d flaw tasks base r standings fresh h =
    subst (λ xs. IfOk r (λ t. t.found ≡ first_find base (heard_by (first_world (with_flaw d flaw) xs) tasks))) fresh h

-- what two that were pushed are
pub two_are : {A : Type 0} (f : A → Standing) (items one none : List A) (a b : A) (p q : Standing) → items ≡ one ++ b ∷ []
    → one ≡ none ++ a ∷ [] → none ≡ [] → f a ≡ p → f b ≡ q → map f items ≡ p ∷ q ∷ []
two_are f items one none a b p q i o n x y =
    ap (map f) (i ∙ ap (λ xs. xs ++ b ∷ []) (o ∙ ap (λ xs. xs ++ a ∷ []) n)) ∙ ap (λ s. s ∷ f b ∷ []) x ∙ ap (λ s. p ∷ s ∷ []) y
