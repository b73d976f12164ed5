-- What an update brings about.
use Rattle.std.proofs.Common.{◌≡◌, ◌⊎◌, ℕ, ◌<◌, ◌-◌, ◌^◌, false, length, List, Option, None, Some, sym, ap, ◌∙◌, subst, inl, inr}
use Rattle.rl_policy.specs.Reach.{is_one_sided}
use Rattle.rl_model.specs.Fields.{field_of}
use Rattle.rl_mirror.specs.Mirror.{MirrorData}
use Rattle.rl_mirror.specs.Prediction.{predict_write, update_word_of}
use Rattle.rl_mirror.specs.Reachable.{IsReachable, IsReached, IsBrought, UpdateBrings, after_update}
use Rattle.rl_access.specs.declared.event.End.{End}
use Rattle.rl_access.specs.declared.event.End.TheVariants as end
use Rattle.rl_access.specs.declared.trace.TraceItem.{TraceItem}
use Rattle.rl_access.specs.Items.{failed_at}
use Rattle.rl_access.specs.Model.{ModelData, IsModel}
use Rattle.rl_access.specs.Rules.{forgetting, whole, or_error, quiet, write_outcome}
use Rattle.rl_access.specs.Wishes.{BringsWishes}

-- an update that ended as sent was taken as done
taken : (failed : Option ℕ) (before good new : ModelData) (sent word : ℕ) (e : End) → e ≡ (or_error failed before (quiet (end.Sent sent) good)).end →
    new ≡ (or_error failed before (quiet (end.Sent sent) good)).model → e ≡ end.Sent word → new ≡ good
taken None before good new sent word e ends is told = is
taken (Some k) before good new sent word e ends is told = absurd (let apart : end.BusError k ≡ end.Sent word = sym ends ∙ told in cc)

-- the field can be reached
reached : (m : ModelData) (n : ℕ) → IsReachable m.chip m.mirror → n < length m.chip.fields → (is_one_sided (field_of m.chip n).shape.policy ≡ false) ⊎ IsReached m.chip m.mirror n →
    IsReached m.chip m.mirror n
reached m n reach inside (inl free) = reach.reached n inside free
reached m n reach inside (inr is) = is

pub brings_wishes : (m new : ModelData) (reg place sent : ℕ) (items : List TraceItem) (e : End) → IsModel m → UpdateBrings m.chip → sent ≡ update_word_of m.chip reg m.mirror →
    e ≡ (write_outcome (forgetting m place) (end.Sent sent) (whole m reg place sent) items).end → new ≡ (write_outcome (forgetting m place) (end.Sent sent) (whole m reg place sent) items).model →
    BringsWishes m new reg e
brings_wishes m new reg place sent items e known law word_is ends is word told n inside of_reg may =
    let good : ModelData = (quiet (end.Sent sent) (record (forgetting m place) { mirror = predict_write m.chip reg sent (2 ^ 64 - 1) m.mirror })).model in
    let new_is : new ≡ good = taken (failed_at items) (forgetting m place) good new sent word e ends is told in
    let mirror_is : new.mirror ≡ after_update m.chip (field_of m.chip n).shape.reg m.mirror =
    ap (λ (x : ModelData). x.mirror) new_is
    ∙ ap (λ w. predict_write m.chip reg w (2 ^ 64 - 1) m.mirror) word_is
    ∙ ap (λ r. after_update m.chip r m.mirror) (sym of_reg)
    in
    subst (λ (x : MirrorData). IsBrought m.chip m.mirror x n) (sym mirror_is) (law m.mirror n known.mirror inside (reached m n known.reach inside may))

-- another end promises nothing
pub nothing_brought : (m new : ModelData) (reg : ℕ) (e : End) → e ≡ end.Nothing → BringsWishes m new reg e
nothing_brought m new reg e ends word told = absurd (let apart : end.Nothing ≡ end.Sent word = sym ends ∙ told in cc)
