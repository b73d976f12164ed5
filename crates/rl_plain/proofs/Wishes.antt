-- Desired values may change without the device.
use Rattle.std.proofs.Common.{◌≡◌, ℕ, [], Some, refl, sym, subst, arith}
use Rattle.rl_model.specs.Rows.{ChipData}
use Rattle.rl_split.specs.Law.{Holds}
use Rattle.rl_mirror.specs.Mirror.{MirrorData}
use Rattle.rl_mirror.specs.Prediction.{set}
use Rattle.rl_access.specs.declared.event.End.TheVariants as end
use Rattle.rl_access.specs.declared.event.Event.{Event}
use Rattle.rl_access.specs.declared.event.Op.{Op}
use Rattle.rl_access.specs.declared.event.Op.TheVariants as op
use Rattle.rl_access.specs.Call.{Scene, IsDone}
use Rattle.rl_access.specs.Gathering.{IsNothingGathered}
use Rattle.rl_access.specs.Model.{ModelData}
use Rattle.rl_access.specs.Operation.{reg_of}
use Rattle.rl_access.specs.Rules.{grant, quiet}
use Rattle.rl_plain.specs.Agree.{believed, IsAsBelieved, Agree, IsWish, KeepsAgreement}
use Rattle.rl_plain.proofs.Answered.{has_run}
use Rattle.rl_plain.proofs.Agreement.{refused_agree}
use Rattle.rl_plain.specs.Sorts as sort

believed_set : (c : ChipData) (field value : ℕ) (m : MirrorData) (reg : ℕ) → believed c (set c field value m) reg ≡ believed c m reg
unfolding set
believed_set c field value m reg = refl

-- the device and the model's other parts stay, and so does what is believed of each register
pub stays_agreed : (s new : Scene) (mirror : MirrorData) → (a : Agree s) → new.device ≡ Some a.device → new.model ≡ record s.model { mirror = mirror } →
    ((reg : ℕ) → believed s.model.chip mirror reg ≡ believed s.model.chip s.model.mirror reg) → Agree new
stays_agreed s new mirror a told is same =
    let c = s.model.chip in
    let d = a.device in
    let here : IsAsBelieved c s.model.layout mirror d = record {
      ready = a.believed_is.ready;
      steady = a.believed_is.steady;
      holds = λ reg l. subst (Holds c d reg) (sym (same reg)) (a.believed_is.holds reg l);
      alone = a.believed_is.alone;
    } in
    record {
      device = d;
      told = told;
      believed_is = subst (λ (x : ModelData). IsAsBelieved x.chip x.layout x.mirror d) (sym is) here;
      gathered = subst (λ (x : ModelData). IsNothingGathered x.gathered) (sym is) a.gathered;
    }

pub wish_done : (s new : Scene) (op : Op) (event : Event) (place : ℕ) → IsWish op → Agree s → IsDone s new op place event → Agree new
wish_done s new (op.Set field value) event place is a done =
    let m = s.model in
    let wished : MirrorData = set m.chip field value m.mirror in
    let run = has_run s new (op.Set field value) event place (reg_of m.chip field) a.device [] (λ items. quiet end.Done (record m { mirror = wished })) done a.told
    (record { sends_are = refl; outcome_is = λ sampled items. refl; register = refl; goes = λ sampled items d. refl })
    (λ k x l. absurd (omega (arith, l)))
    in
    stays_agreed s new wished a run.told run.model (believed_set m.chip field value m.mirror)
wish_done s new (op.Show reg) event place is a done =
    let m = s.model in
    let run = has_run s new (op.Show reg) event place reg a.device [] (λ items. quiet end.Done m) done a.told
    (record { sends_are = refl; outcome_is = λ sampled items. refl; register = refl; goes = λ sampled items d. refl })
    (λ k x l. absurd (omega (arith, l)))
    in
    stays_agreed s new m.mirror a run.told run.model (λ reg. refl)
wish_done s new _ event place is a done = absurd is

pub wish_keeps_agreement : KeepsAgreement sort.wish
wish_keeps_agreement s new op event is numbers ok a performs =
    refused_agree s new op event (grant s.model op) a performs (λ place granted done. wish_done s new op event place is a done)
