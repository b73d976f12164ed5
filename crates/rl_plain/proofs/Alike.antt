-- Layouts that the plain machine can't tell apart.
use Rattle.std.proofs.Common.{◌≡◌, ℕ, Bool, true, false, cond, Option, None, Some, Ok, Err, refl, ap, ◌∙◌}
use Rattle.rl_policy.specs.Bits.{bit, from_bits, put_bit}
use Rattle.rl_model.specs.declared.rows.Item.{Item}
use Rattle.rl_model.specs.declared.rows.Item.TheVariants as item
use Rattle.rl_model.specs.declared.sets.Rights.{Rights}
use Rattle.rl_model.specs.Fields.{field_of, fields_of}
use Rattle.rl_model.specs.Rows.{ChipData}
use Rattle.rl_map.specs.Layout.{LayoutData, place_of, has_right}
use Rattle.rl_split.specs.Step.{every, ranswer}
use Rattle.rl_mirror.specs.Fields.{part_of}
use Rattle.rl_mirror.specs.Prediction.{neutral_around}
use Rattle.rl_access.specs.declared.event.End.TheVariants as end
use Rattle.rl_access.specs.declared.event.Op.{Op}
use Rattle.rl_access.specs.declared.event.Op.TheVariants as op
use Rattle.rl_access.specs.declared.event.Refused.TheVariants.{NoRight, NotObserved}
use Rattle.rl_access.specs.Operation.{reg_of}
use Rattle.rl_access.specs.Rules.{Grant, at_location, at_locations, fitting, fitting_field, grant, map_of_place, named, only_where, placed, with_right, with_watch, writable}
use Rattle.rl_plain.specs.Alike.{AlikeLayoutsStepAlike, AreAlike}
use Rattle.rl_plain.specs.Machine.{Done, Machine, done_by, machine_after, machine_differ, machine_end, machine_step, mirror_of, register_at, seen, stepped, told}
use Rattle.rl_plain.specs.OneStep.{Step, write_step, read_step, own_field}

-- ---- which operation is granted

right_alike : (c : ChipData) (k l : LayoutData) (write : Bool) (g : Grant) → AreAlike c k l → with_right k write g ≡ with_right l write g
right_alike c k l write (Ok place) alike = ap (λ (r : Rights). only_where (Ok place) (has_right r write) NoRight) (alike.rights place)
right_alike c k l write (Err why) alike = refl

watch_alike : (c : ChipData) (k l : LayoutData) (g : Grant) → AreAlike c k l → with_watch k g ≡ with_watch l g
watch_alike c k l (Ok place) alike = ap (λ t. only_where (Ok place) t NotObserved) (alike.roots place)
watch_alike c k l (Err why) alike = refl

way_alike : (c : ChipData) (k l : LayoutData) (i : Item) (map : Option ℕ) (write : Bool) → AreAlike c k l → with_right k write (placed (place_of k i map)) ≡ with_right l write
    (placed (place_of l i map))
way_alike c k l i map write alike = ap (λ o. with_right k write (placed o)) (alike.places i map) ∙ right_alike c k l write (placed (place_of l i map)) alike

watched_alike : (c : ChipData) (k l : LayoutData) (i : Item) (map : Option ℕ) (write : Bool) → AreAlike c k l
    → with_right k write (with_watch k (placed (place_of k i map))) ≡ with_right l write (with_watch l (placed (place_of l i map)))
watched_alike c k l i map write alike =
    ap (λ o. with_right k write (with_watch k (placed o))) (alike.places i map)
    ∙ ap (with_right k write) (watch_alike c k l (placed (place_of l i map)) alike)
    ∙ right_alike c k l write (with_watch l (placed (place_of l i map))) alike

grants_alike : (c : ChipData) (k l : LayoutData) (p : Machine) (o : Op) → AreAlike c k l → grant (seen c k p) o ≡ grant (seen c l p) o
grants_alike c k l p (op.Write reg map value) alike = ap (fitting (seen c l p) (item.Reg reg) value) (way_alike c k l (item.Reg reg) map true alike)
grants_alike c k l p (op.Read reg map) alike = way_alike c k l (item.Reg reg) map false alike
grants_alike c k l p (op.Mirror reg map) alike = way_alike c k l (item.Reg reg) map false alike
grants_alike c k l p (op.Check reg map) alike = way_alike c k l (item.Reg reg) map false alike
grants_alike c k l p (op.FieldWrite field map value) alike = ap (fitting_field (seen c l p) field value) (way_alike c k l (item.Reg (reg_of c field)) map true alike)
grants_alike c k l p (op.FieldRead field map) alike = way_alike c k l (item.Reg (reg_of c field)) map false alike
grants_alike c k l p (op.Update reg map) alike = way_alike c k l (item.Reg reg) map true alike
grants_alike c k l p (op.MemWrite mem map index value) alike =
    ap (λ g. fitting (seen c l p) (item.Mem mem) value (at_location (seen c l p) mem index (writable (seen c l p) mem g))) (way_alike c k l (item.Mem mem) map true alike)
grants_alike c k l p (op.MemRead mem map index) alike = ap (at_location (seen c l p) mem index) (way_alike c k l (item.Mem mem) map false alike)
grants_alike c k l p (op.MemCheck mem map index value) alike =
    ap (λ g. fitting (seen c l p) (item.Mem mem) value (at_location (seen c l p) mem index g)) (way_alike c k l (item.Mem mem) map false alike)
grants_alike c k l p (op.BurstWrite mem map first count) alike =
    ap (λ g. at_locations (seen c l p) mem first count (writable (seen c l p) mem g)) (way_alike c k l (item.Mem mem) map true alike)
grants_alike c k l p (op.BurstRead mem map first count) alike = ap (at_locations (seen c l p) mem first count) (way_alike c k l (item.Mem mem) map false alike)
grants_alike c k l p (op.OtherWrite reg map value) alike = ap (fitting (seen c l p) (item.Reg reg) value) (watched_alike c k l (item.Reg reg) map true alike)
grants_alike c k l p (op.OtherRead reg map) alike = watched_alike c k l (item.Reg reg) map false alike
grants_alike c k l p _ alike = refl

-- ---- the map that its event names

map_alike : (c : ChipData) (k l : LayoutData) (o map : Option ℕ) → AreAlike c k l → map_of_place k o map ≡ map_of_place l o map
map_alike c k l None map alike = refl
map_alike c k l (Some place) map alike = ap Some (alike.maps place)

used_alike : (c : ChipData) (k l : LayoutData) (i : Item) (map : Option ℕ) → AreAlike c k l → map_of_place k (place_of k i map) map ≡ map_of_place l (place_of l i map) map
used_alike c k l i map alike = ap (λ o. map_of_place k o map) (alike.places i map) ∙ map_alike c k l (place_of l i map) map alike

names_alike : (c : ChipData) (k l : LayoutData) (p : Machine) (o : Op) → AreAlike c k l → named (seen c k p) o ≡ named (seen c l p) o
names_alike c k l p (op.Write reg map value) alike = ap (λ m. op.Write reg m value) (used_alike c k l (item.Reg reg) map alike)
names_alike c k l p (op.Read reg map) alike = ap (op.Read reg) (used_alike c k l (item.Reg reg) map alike)
names_alike c k l p (op.Mirror reg map) alike = ap (op.Mirror reg) (used_alike c k l (item.Reg reg) map alike)
names_alike c k l p (op.Check reg map) alike = ap (op.Check reg) (used_alike c k l (item.Reg reg) map alike)
names_alike c k l p (op.FieldWrite field map value) alike = ap (λ m. op.FieldWrite field m value) (used_alike c k l (item.Reg (reg_of c field)) map alike)
names_alike c k l p (op.FieldRead field map) alike = ap (op.FieldRead field) (used_alike c k l (item.Reg (reg_of c field)) map alike)
names_alike c k l p (op.Update reg map) alike = ap (op.Update reg) (used_alike c k l (item.Reg reg) map alike)
names_alike c k l p (op.MemWrite mem map index value) alike = ap (λ m. op.MemWrite mem m index value) (used_alike c k l (item.Mem mem) map alike)
names_alike c k l p (op.MemRead mem map index) alike = ap (λ m. op.MemRead mem m index) (used_alike c k l (item.Mem mem) map alike)
names_alike c k l p (op.MemCheck mem map index value) alike = ap (λ m. op.MemCheck mem m index value) (used_alike c k l (item.Mem mem) map alike)
names_alike c k l p (op.BurstWrite mem map first count) alike = ap (λ m. op.BurstWrite mem m first count) (used_alike c k l (item.Mem mem) map alike)
names_alike c k l p (op.BurstRead mem map first count) alike = ap (λ m. op.BurstRead mem m first count) (used_alike c k l (item.Mem mem) map alike)
names_alike c k l p (op.OtherWrite reg map value) alike = ap (λ m. op.OtherWrite reg m value) (used_alike c k l (item.Reg reg) map alike)
names_alike c k l p (op.OtherRead reg map) alike = ap (op.OtherRead reg) (used_alike c k l (item.Reg reg) map alike)
names_alike c k l p _ alike = refl

-- ---- what it makes of the machine, and how it ends

-- a write of a field, by whether it is narrow
abbrev field_step : ChipData → (field value : ℕ) → Machine → Bool → Step
field_step c field value p narrow =
    let f = (field_of c field).shape in
    write_step (cond narrow (own_field c field) every) (cond narrow (from_bits 64 (put_bit f.lsb f.width (bit value) (bit 0))) (neutral_around c field value (mirror_of p)))

left_alike : (c : ChipData) (k l : LayoutData) (p : Machine) (o : Op) (place : ℕ) → AreAlike c k l → machine_after c k o place p ≡ machine_after c l o place p
left_alike c k l p (op.FieldWrite field map value) place alike = ap (λ t. stepped c (reg_of c field) (field_step c field value p t) p) (alike.narrow field place true)
left_alike c k l p (op.FieldRead field map) place alike = ap (λ t. stepped c (reg_of c field) (read_step (cond t (own_field c field) every)) p) (alike.narrow field place false)
left_alike c k l p _ place alike = refl

ends_alike : (c : ChipData) (k l : LayoutData) (p : Machine) (o : Op) (place : ℕ) → AreAlike c k l → machine_end c k o place p ≡ machine_end c l o place p
ends_alike c k l p (op.FieldRead field map) place alike =
    ap (λ t. end.Value (part_of (field_of c field).shape (ranswer (fields_of c (reg_of c field)) (cond t (own_field c field) every) (register_at c p (reg_of c field))))) (alike.narrow field place
    false)
ends_alike c k l p _ place alike = refl

-- ---- the step

done_alike : (c : ChipData) (k l : LayoutData) (p : Machine) (o : Op) (g : Grant) → AreAlike c k l → done_by c k o p g ≡ done_by c l o p g
done_alike c k l p o (Ok place) alike =
    ap (λ n. let d : Done = record { event = told c n (machine_end c k o place p) (machine_differ o p) (machine_after c k o place p); machine = machine_after c k o place p } in d) (names_alike c k l
    p o alike)
    ∙ ap (λ e. let d : Done = record { event = told c (named (seen c l p) o) e (machine_differ o p) (machine_after c k o place p); machine = machine_after c k o place p } in d) (ends_alike c k l p o
    place alike)
    ∙ ap (λ a. let d : Done = record { event = told c (named (seen c l p) o) (machine_end c l o place p) (machine_differ o p) a; machine = a } in d) (left_alike c k l p o place alike)
done_alike c k l p o (Err why) alike = ap (λ n. let d : Done = record { event = told c n (end.Refused why) 0 p; machine = p } in d) (names_alike c k l p o alike)

pub alike_layouts_step_alike : AlikeLayoutsStepAlike
unfolding machine_step
alike_layouts_step_alike c k l p o alike = ap (done_by c k o p) (grants_alike c k l p o alike) ∙ done_alike c k l p o (grant (seen c l p) o) alike
