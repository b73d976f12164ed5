-- The lines of items as tasks behind those of a script, and the device without a flaw.
use Rattle.std.proofs.Common.{◌≡◌, ℕ, Bool, true, false, if◌then◌else◌, List, [], ◌∷◌, ◌++◌, length, map, flat_map, All, Some, refl, sym, ap, subst, ◌∙◌}
use Rattle.std.specs.List.{list_any}
use Rattle.std.proofs.lemmas.List.Elements.{All-append, All-cons, All-map, All-nil}
use Rattle.rl_model.specs.declared.rows.Item.{Item}
use Rattle.rl_model.specs.declared.rows.Item.TheVariants.{Reg, Mem}
use Rattle.rl_model.specs.Chip.{HasItem}
use Rattle.rl_model.specs.Rows.{ChipData}
use Rattle.rl_bus.specs.Standing.{Standing}
use Rattle.rl_bus.specs.State.{State}
use Rattle.rl_map.specs.Layout.{LayoutData}
use Rattle.rl_access.specs.declared.event.Op.{Op}
use Rattle.rl_access.specs.declared.event.Op.TheVariants as op
use Rattle.rl_access.specs.Model.{IsModel, IsSameChip, ModelData}
use Rattle.rl_access.specs.Operation.{is_single}
use Rattle.rl_access.specs.World.{IsAt, world}
use Rattle.rl_flaw.specs.declared.flaw.Flaw.{Flaw}
use Rattle.rl_flaw.specs.Flaws.{AreFlawsOf, IsFlawOf}
use Rattle.rl_desc.specs.Data.{DescData}
use Rattle.rl_session.specs.Judged.{first_world}
use Rattle.rl_grade.specs.declared.job.Task.{Task}
use Rattle.rl_grade.specs.Adapters.{fresh_standings}
use Rattle.rl_grade.specs.Job.{JobFits, TasksFit}
use Rattle.rl_plan.specs.declared.asked.Asked.{Asked}
use Rattle.rl_plan.specs.declared.lines.Part.{Part}
use Rattle.rl_plan.specs.declared.lines.Part.TheVariants.{First, Further, Memory}
use Rattle.rl_plan.specs.Behind.{added_task, added_walk, behind, lines_tasks, part_tasks, walk_tasks}
use Rattle.rl_plan.specs.Run.{desc_of, model_of}
use Rattle.rl_plan.specs.Text.{is_memory, is_planned, planned_for, planned_further, planned_in}
use Rattle.rl_plan.specs.Trial.{CanTry}
use Rattle.rl_plan.proofs.Pushed.{all_flat}
use Rattle.rl_plan.proofs.Planned.{Fits, further_fits, mem_fits, of_all, reg_fits}

-- ---- the numbers in the tasks are in range

planned_single : (o : Op) → is_planned o ≡ true → is_single o ≡ true
planned_single (op.BurstWrite mem map first count) planned = absurd (cc)
planned_single (op.BurstRead mem map first count) planned = absurd (cc)
planned_single o planned = refl

task_fits : (c : ChipData) (maps : ℕ) (o : Op) → Fits c maps o → JobFits c maps (added_task o).job
task_fits c maps o fits = (fits.1, planned_single o fits.0)

ops_fit : (c : ChipData) (maps : ℕ) (ops : List Op) → All (Fits c maps) ops → TasksFit c maps (map added_task ops)
ops_fit c maps ops fit =
    All-map (λ (t : Task). JobFits c maps t.job) added_task ops
    (of_all (Fits c maps) (λ o. JobFits c maps (added_task o).job) ops (task_fits c maps) fit)

module _ (m : ModelData) (asked : Asked) (model : IsModel m) where
  -- each of these tasks is in range
  abbrev AllFit : List Task → Type 0
  AllFit tasks = TasksFit m.chip (length m.layout.maps) tasks

  part_fits : (part : Part) (i : Item) → HasItem m.chip i → AllFit (part_tasks m asked part i)
  part_fits First (Reg reg) there = ops_fit m.chip (length m.layout.maps) (planned_for m asked reg) (reg_fits m asked reg model there)
  part_fits Further (Reg reg) there =
      ops_fit m.chip (length m.layout.maps) (planned_further m asked reg) (further_fits m asked reg model there)
  part_fits Memory (Reg reg) there = All-nil (λ (t : Task). JobFits m.chip (length m.layout.maps) t.job)
  part_fits First (Mem mem) there = All-nil (λ (t : Task). JobFits m.chip (length m.layout.maps) t.job)
  part_fits Further (Mem mem) there = All-nil (λ (t : Task). JobFits m.chip (length m.layout.maps) t.job)
  part_fits Memory (Mem mem) there = ops_fit m.chip (length m.layout.maps) (planned_in m mem) (mem_fits m mem model there)

  parts_fit : (part : Part) (items : List Item) → All (HasItem m.chip) items → AllFit (flat_map (part_tasks m asked part) items)
  parts_fit part items there =
      all_flat (λ (t : Task). JobFits m.chip (length m.layout.maps) t.job) (part_tasks m asked part) items
      (of_all (HasItem m.chip) (λ i. AllFit (part_tasks m asked part i)) items (part_fits part) there)

  walk_fits : (b : Bool) → AllFit (if b then added_walk ∷ [] else [])
  walk_fits true =
      All-cons (λ (t : Task). JobFits m.chip (length m.layout.maps) t.job) added_walk [] tt
      (All-nil (λ (t : Task). JobFits m.chip (length m.layout.maps) t.job))
  walk_fits false = All-nil (λ (t : Task). JobFits m.chip (length m.layout.maps) t.job)

  lines_fit : (items : List Item) → All (HasItem m.chip) items → AllFit (lines_tasks m asked items)
  unfolding lines_tasks
  lines_fit items there =
      let fit : Task → Type 0 = λ t. JobFits m.chip (length m.layout.maps) t.job in
      let of : Part → List Task = λ part. flat_map (part_tasks m asked part) items in
      let firsts = All-append fit (of First) (of Further) (parts_fit First items there) (parts_fit Further items there) in
      let walked = All-append fit (of First ++ of Further) (walk_tasks items) firsts (walk_fits (list_any is_memory items)) in
      All-append fit (of First ++ of Further ++ walk_tasks items) (of Memory) walked (parts_fit Memory items there)

module _ (d : DescData) (asked : Asked) (items : List Item) (m : ModelData) (is : m ≡ model_of d) where
  pub there_are : All (HasItem d.chip) items → All (HasItem m.chip) items
  there_are there = subst (λ (m : ModelData). All (HasItem m.chip) items) (sym is) there

  pub tasks_are : (script tasks : List Task) → tasks ≡ script ++ lines_tasks m asked items → tasks ≡ behind d asked script items
  tasks_are script tasks pushed = pushed ∙ ap (λ m. script ++ lines_tasks m asked items) is

  pub tasks_fit : (script tasks : List Task) → IsModel m → All (HasItem d.chip) items → TasksFit d.chip (length d.layout.maps) script
      → tasks ≡ script ++ lines_tasks m asked items → TasksFit d.chip (length d.layout.maps) tasks
  tasks_fit script tasks model there fits pushed =
      let sound = subst IsModel is model in
      subst (TasksFit d.chip (length d.layout.maps)) (sym (tasks_are script tasks pushed))
      (All-append (λ (t : Task). JobFits d.chip (length d.layout.maps) t.job) script (lines_tasks (model_of d) asked items) fits
      (lines_fit (model_of d) asked sound items there))

-- the description again can be tried with tasks that fit
pub can_try_behind : (d again : DescData) (script tasks : List Task) → again ≡ d → CanTry d script
    → TasksFit d.chip (length d.layout.maps) tasks → CanTry again tasks
can_try_behind d again script tasks same can fits =
    subst (λ d. CanTry d tasks) (sym same) (record { built_with = can.built_with; kinds = can.kinds; fits = fits })

-- ---- the description again

pub desc_again : (d : DescData) → d.flaws ≡ [] → desc_of (model_of d) ≡ d
desc_again d none =
    let with_flaws : List Flaw → DescData = λ flaws. record { chip = d.chip; layout = d.layout; flaws = flaws } in
    ap with_flaws (sym none)

-- by its model, or by one of the same chip
pub desc_back : (d : DescData) (m : ModelData) → m ≡ model_of d → d.flaws ≡ [] → desc_of m ≡ d
desc_back d m is none = ap desc_of is ∙ desc_again d none

pub desc_kept : (d : DescData) (m new : ModelData) → m ≡ model_of d → IsSameChip m new → d.flaws ≡ [] → desc_of new ≡ d
desc_kept d m new is parts none =
    let with_chip : ChipData → DescData = λ c. record { chip = c; layout = new.layout; flaws = [] } in
    let with_layout : LayoutData → DescData = λ l. record { chip = m.chip; layout = l; flaws = [] } in
    ap with_chip parts.chip ∙ ap with_layout parts.layout ∙ desc_back d m is none

pub none_are : (c : ChipData) (l : LayoutData) (flaws : List Flaw) → flaws ≡ [] → AreFlawsOf c l flaws
none_are c l flaws none = subst (AreFlawsOf c l) (sym none) (All-nil (IsFlawOf c l))

pub fits_again : (d : DescData) (m : ModelData) → m ≡ model_of d → (tasks : List Task) → TasksFit d.chip (length d.layout.maps) tasks
    → TasksFit m.chip (length m.layout.maps) tasks
fits_again d m is tasks fits = subst (λ (m : ModelData). TasksFit m.chip (length m.layout.maps) tasks) (sym is) fits

-- ---- the first state

pub world_is : (m : ModelData) (st : State) (d : DescData) (standings : List Standing) → standings ≡ fresh_standings
    → IsAt m standings (Some st) (first_world d standings) → world m standings st ≡ first_world d fresh_standings
world_is m st d standings fresh h =
    let device : st ≡ (first_world d standings).device = cc (h.device_is) in
    ap (λ m. world m standings st) h.model_is ∙ ap (λ s. world (first_world d standings).model s st) fresh
    ∙ ap (λ st. world (first_world d standings).model fresh_standings st) device

-- what two that were pushed are
pub two_are : {A : Type 0} (f : A → Standing) (items one none : List A) (a b : A) (p q : Standing) → items ≡ one ++ b ∷ []
    → one ≡ none ++ a ∷ [] → none ≡ [] → f a ≡ p → f b ≡ q → map f items ≡ p ∷ q ∷ []
two_are f items one none a b p q i o n x y =
    ap (map f) (i ∙ ap (λ xs. xs ++ b ∷ []) (o ∙ ap (λ xs. xs ++ a ∷ []) n)) ∙ ap (λ s. s ∷ f b ∷ []) x ∙ ap (λ s. p ∷ s ∷ []) y
