-- Each operation leaves a model, whatever the device.
use Rattle.std.proofs.Common.{ℕ, ◌<◌, Bool, true, false, if◌then◌else◌, List, length, Option, Some, None}
use Rattle.rl_model.specs.Rows.{ChipData}
use Rattle.rl_model.specs.Chip.{IsSound}
use Rattle.rl_mirror.specs.Mirror.{MirrorData}
use Rattle.rl_mirror.specs.Prediction.{predict_write, predict_read, predict_raw, reset, set, needs_update, neutral_around, update_word_of}
use Rattle.rl_mirror.proofs.FieldLemmas.{seated}
use Rattle.rl_mirror.proofs.MirrorLemmas.{write_built, reset_built, set_built}
use Rattle.rl_mirror.proofs.ReachLemmas.{write_reach, raw_reach, reset_reach, set_reach}
use Rattle.rl_access.specs.declared.event.End.{End}
use Rattle.rl_access.specs.declared.event.End.TheVariants as end
use Rattle.rl_access.specs.declared.event.Op.{Op}
use Rattle.rl_access.specs.declared.event.Op.TheVariants as op
use Rattle.rl_access.specs.declared.trace.TraceItem.{TraceItem}
use Rattle.rl_access.specs.Gathering.{IsPredictorOf}
use Rattle.rl_access.specs.Items.{failed_at}
use Rattle.rl_access.specs.Model.{ModelData, IsModel}
use Rattle.rl_access.specs.Operation.{reg_of, HasNumbers}
use Rattle.rl_access.specs.Rules.{every_field, forgotten, forgetting, forgetting_field, is_alone, field_alone, whole, Outcome, or_error, quiet, outcome}
use Rattle.rl_access.specs.Rules.{write_outcome, read_outcome, taking_raw, back_value}
use Rattle.rl_plain.proofs.Kept.{IsKept, model_kept, model_with, raw_built, read_kept}
use Rattle.rl_map.specs.Layout.{port_at, place_at}
use Rattle.rl_detect_laws.proofs.Checks.{entered, forgotten_built}

-- ---- what is believed

-- with other values
mirror_model : (m : ModelData) (mirror : MirrorData) → IsModel m → IsKept m.chip mirror → IsModel (record m { mirror = mirror })
mirror_model m mirror ok kept = model_with m mirror m.gathered ok kept ok.predictor

write_kept : (c : ChipData) (reg word fields : ℕ) (m : MirrorData) → IsSound c → reg < length c.regs → IsKept c m → IsKept c (predict_write c reg word fields m)
write_kept c reg word fields m sound inside kept = record {
  built = write_built c reg word fields m sound inside kept.built;
  reach = write_reach c reg word fields m sound inside kept.built kept.reach;
}

raw_kept : (c : ChipData) (reg value : ℕ) (m : MirrorData) → IsSound c → reg < length c.regs → IsKept c m → IsKept c (predict_raw c reg value m)
raw_kept c reg value m sound inside kept = record {
  built = raw_built c reg value m sound inside kept.built;
  reach = raw_reach c reg value m inside kept.built kept.reach;
}

reset_kept : (c : ChipData) (kind : ℕ) (m : MirrorData) → IsSound c → IsKept c m → IsKept c (reset c kind m)
reset_kept c kind m sound kept =
    record { built = reset_built c kind m sound kept.built; reach = reset_reach c kind m sound kept.built kept.reach }

set_kept : (c : ChipData) (field v : ℕ) (m : MirrorData) → IsSound c → field < length c.fields → IsKept c m → IsKept c (set c field v m)
set_kept c field v m sound inside kept = record {
  built = set_built c field v m sound inside kept.built;
  reach = set_reach c field v m sound inside kept.built kept.reach;
}

-- ---- an outcome

either_model : (failed : Option ℕ) (m : ModelData) (good : Outcome) → IsModel m → IsModel good.model → IsModel (or_error failed m good).model
either_model None m good ok done = done
either_model (Some k) m good ok done = ok

which_model : (b : Bool) (x y : Outcome) → IsModel x.model → IsModel y.model → IsModel (if b then x else y).model
which_model true x y h k = h
which_model false x y h k = k

-- after a write, and after a read
wrote : (failed : Option ℕ) (m : ModelData) (good : End) (reg word fields : ℕ) → IsModel m → reg < length m.chip.regs
    → IsModel (or_error failed m (quiet good (record m { mirror = predict_write m.chip reg word fields m.mirror }))).model
wrote failed m good reg word fields ok inside =
    either_model failed m _ ok
    (mirror_model m (predict_write m.chip reg word fields m.mirror) ok
    (write_kept m.chip reg word fields m.mirror ok.chip inside (model_kept m ok)))

abbrev read_so : ModelData → (reg value fields differ : ℕ) → Outcome
read_so m reg value fields differ = record {
  end = end.Value value;
  model = record m { mirror = predict_read m.chip reg value fields m.mirror };
  differ = differ;
}

has_read : (failed : Option ℕ) (m : ModelData) (reg value fields differ : ℕ) → IsModel m → reg < length m.chip.regs
    → IsModel (or_error failed m (read_so m reg value fields differ)).model
has_read failed m reg value fields differ ok inside =
    either_model failed m _ ok
    (mirror_model m (predict_read m.chip reg value fields m.mirror) ok
    (read_kept m.chip reg value fields m.mirror ok.chip inside (model_kept m ok)))

raw_taken : (m : ModelData) (reg value : ℕ) → IsModel m → reg < length m.chip.regs → IsModel (taking_raw m reg value)
raw_taken m reg value ok inside =
    mirror_model m (predict_raw m.chip reg value m.mirror) ok (raw_kept m.chip reg value m.mirror ok.chip inside (model_kept m ok))

back_read : (m : ModelData) (reg sampled : ℕ) → IsModel m → reg < length m.chip.regs
    → IsModel (record m { mirror = predict_read m.chip reg (back_value m reg sampled) every_field m.mirror })
back_read m reg sampled ok inside =
    let value = back_value m reg sampled in
    mirror_model m (predict_read m.chip reg value every_field m.mirror) ok
    (read_kept m.chip reg value every_field m.mirror ok.chip inside (model_kept m ok))

-- ---- a field

field_entered : (m : ModelData) (field place : ℕ) (write : Bool) → IsModel m → IsModel (forgetting_field m field place write)
field_entered m field place write ok =
    model_with m m.mirror (if is_alone m field place write then m.gathered else forgotten m.layout place m.gathered) ok
    (model_kept m ok) (by (is_alone m field place write))
  where
    by : (b : Bool) → IsPredictorOf m.layout (if b then m.gathered else forgotten m.layout place m.gathered)
    by true = ok.predictor
    by false = forgotten_built (port_at m.layout (place_at m.layout place).port).explicit m.layout m.gathered place ok.predictor

field_wrote : (m entry : ModelData) (field place value : ℕ) (alone : Bool) (items : List TraceItem) → IsModel entry
    → reg_of m.chip field < length entry.chip.regs
    → IsModel (write_outcome entry end.Done (if alone then field_alone m field place value
    else whole m (reg_of m.chip field) place (neutral_around m.chip field value m.mirror)) items).model
field_wrote m entry field place value true items ok inside = wrote (failed_at items) entry end.Done (reg_of m.chip field) _ _ ok inside
field_wrote m entry field place value false items ok inside = wrote (failed_at items) entry end.Done (reg_of m.chip field) _ _ ok inside

field_has_read : (m entry : ModelData) (field place : ℕ) (alone : Bool) (items : List TraceItem) → IsModel entry
    → reg_of m.chip field < length entry.chip.regs
    → IsModel (read_outcome entry false (if alone then field_alone m field place 0 else whole m (reg_of m.chip field) place 0) items).model
field_has_read m entry field place true items ok inside = has_read (failed_at items) entry (reg_of m.chip field) _ _ 0 ok inside
field_has_read m entry field place false items ok inside = has_read (failed_at items) entry (reg_of m.chip field) _ _ 0 ok inside

reg_in : (m : ModelData) (field : ℕ) → IsModel m → field < length m.chip.fields → reg_of m.chip field < length m.chip.regs
reg_in m field ok inside = (seated m.chip field ok.chip inside).reg

-- ---- any operation

pub outcome_model : (m : ModelData) (o : Op) (place sampled : ℕ) (items : List TraceItem) → IsModel m
    → HasNumbers m.chip (length m.layout.maps) o → IsModel (outcome m o place sampled items).model
outcome_model m (op.Write reg map value) place sampled items ok numbers =
    wrote (failed_at items) (forgetting m place) end.Done reg value every_field (entered m place ok) numbers.0
outcome_model m (op.Read reg map) place sampled items ok numbers =
    has_read (failed_at items) (forgetting m place) reg _ every_field _ (entered m place ok) numbers.0
outcome_model m (op.Mirror reg map) place sampled items ok numbers =
    has_read (failed_at items) (forgetting m place) reg _ every_field _ (entered m place ok) numbers.0
outcome_model m (op.Check reg map) place sampled items ok numbers =
    has_read (failed_at items) (forgetting m place) reg _ every_field _ (entered m place ok) numbers.0
outcome_model m (op.FieldWrite field map value) place sampled items ok numbers =
    field_wrote m (forgetting_field m field place true) field place value (is_alone m field place true) items
    (field_entered m field place true ok) (reg_in m field ok numbers.0)
outcome_model m (op.FieldRead field map) place sampled items ok numbers =
    field_has_read m (forgetting_field m field place false) field place (is_alone m field place false) items
    (field_entered m field place false ok) (reg_in m field ok numbers.0)
outcome_model m (op.Set field value) place sampled items ok numbers =
    mirror_model m (set m.chip field value m.mirror) ok (set_kept m.chip field value m.mirror ok.chip numbers (model_kept m ok))
outcome_model m (op.Update reg map) place sampled items ok numbers =
    let word = update_word_of m.chip reg m.mirror in
    which_model (needs_update m.mirror reg) _ _
    (wrote (failed_at items) (forgetting m place) (end.Sent word) reg word every_field (entered m place ok) numbers.0) ok
outcome_model m (op.BackWrite reg value) place sampled items ok numbers = raw_taken m reg _ ok numbers
outcome_model m (op.BackRead reg) place sampled items ok numbers = back_read m reg sampled ok numbers
outcome_model m (op.BackCheck reg) place sampled items ok numbers = back_read m reg sampled ok numbers
outcome_model m (op.Peek reg) place sampled items ok numbers = raw_taken m reg _ ok numbers
outcome_model m (op.Poke reg value) place sampled items ok numbers = raw_taken m reg value ok numbers
outcome_model m (op.MemWrite mem map index value) place sampled items ok numbers = either_model (failed_at items) m _ ok ok
outcome_model m (op.MemRead mem map index) place sampled items ok numbers = either_model (failed_at items) m _ ok ok
outcome_model m (op.MemCheck mem map index value) place sampled items ok numbers = either_model (failed_at items) m _ ok ok
outcome_model m (op.OtherWrite reg map value) place sampled items ok numbers =
    wrote (failed_at items) (forgetting m place) end.Done reg value every_field (entered m place ok) numbers.0
outcome_model m (op.OtherRead reg map) place sampled items ok numbers =
    has_read (failed_at items) (forgetting m place) reg _ every_field _ (entered m place ok) numbers.0
outcome_model m (op.Reset kind) place sampled items ok numbers =
    mirror_model m (reset m.chip kind m.mirror) ok (reset_kept m.chip kind m.mirror ok.chip (model_kept m ok))
outcome_model m _ place sampled items ok numbers = ok
