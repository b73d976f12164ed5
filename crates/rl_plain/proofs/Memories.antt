-- The backdoor of a memory leaves the registers.
use Rattle.std.proofs.Common.{ℕ, refl, sym, subst}
use Rattle.rl_bus.specs.State.{State, poked}
use Rattle.rl_bus.specs.declared.table.Cell.TheVariants as cell
use Rattle.rl_model.specs.Rows.{ChipData}
use Rattle.rl_map.specs.Layout.{LayoutData}
use Rattle.rl_mirror.specs.Mirror.{MirrorData}
use Rattle.rl_access.specs.declared.event.Event.{Event}
use Rattle.rl_access.specs.declared.event.Op.{Op}
use Rattle.rl_access.specs.declared.event.Op.TheVariants as op
use Rattle.rl_access.specs.Call.{Scene, IsDone}
use Rattle.rl_access.specs.Gathering.{IsNothingGathered}
use Rattle.rl_access.specs.Model.{ModelData}
use Rattle.rl_access.specs.Rules.{grant}
use Rattle.rl_plain.specs.Agree.{IsAsBelieved, Agree, IsMemoryBackdoor, KeepsAgreement}
use Rattle.rl_plain.proofs.Agreement.{refused_agree}
use Rattle.rl_plain.proofs.Backdoor.{alone_by}
use Rattle.rl_plain.proofs.Wishes.{stays_agreed}
use Rattle.rl_plain.specs.Sorts as sort

poked_there : (c : ChipData) (l : LayoutData) (m : MirrorData) (d : State) (mem index value : ℕ) → IsAsBelieved c l m d → IsAsBelieved c l m (poked d (cell.Loc mem index) value)
unfolding poked
poked_there c l m d mem index value a = record {
  ready = record { setup = a.ready.setup; beats = a.ready.beats; bits = a.ready.bits; marks = a.ready.marks };
  steady = a.steady;
  holds = λ reg inside. let h = a.holds reg inside in record { bits = h.bits; marks = h.marks };
  alone = a.alone;
}

pub memory_done : (s new : Scene) (op : Op) (event : Event) (place : ℕ) → IsMemoryBackdoor op → Agree s → IsDone s new op place event → Agree new
memory_done s new (op.MemPeek mem index) event place is a done =
    let by = alone_by s new (op.MemPeek mem index) event place a.device done a.told refl in
    stays_agreed s new s.model.mirror a by.told by.model (λ reg. refl)
memory_done s new (op.MemPoke mem index value) event place is a done =
    let by = alone_by s new (op.MemPoke mem index value) event place a.device done a.told refl in
    let d = a.device in
    record {
      device = poked d (cell.Loc mem index) value;
      told = by.told;
      believed_is = subst (λ (x : ModelData). IsAsBelieved x.chip x.layout x.mirror (poked d (cell.Loc mem index) value)) (sym by.model)
          (poked_there s.model.chip s.model.layout s.model.mirror d mem index value a.believed_is);
      gathered = subst (λ (x : ModelData). IsNothingGathered x.gathered) (sym by.model) a.gathered;
    }
memory_done s new _ event place is a done = absurd is

pub memory_backdoor_keeps_agreement : KeepsAgreement sort.memory_backdoor
memory_backdoor_keeps_agreement s new op event is numbers ok a performs =
    refused_agree s new op event (grant s.model op) a performs (λ place granted done. memory_done s new op event place is a done)
