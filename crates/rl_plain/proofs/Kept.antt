-- What is believed after an operation is a mirror of the chip, whose desired values an update reaches.
use Rattle.std.proofs.Common.{◌≡◌, ℕ, ◌<◌, Bool, List, length, get_or, sym, ◌∙◌, subst, inl, inr}
use Rattle.std.specs.Prelude.{slice_set}
use Rattle.std.proofs.lemmas.Bool.{cases_eq}
use Rattle.std.proofs.lemmas.List.{get_or-set_same, get_or-set_other, length-set}
use Rattle.rl_policy.specs.Bits.{bit}
use Rattle.rl_model.specs.Rows.{ChipData}
use Rattle.rl_model.specs.Chip.{IsSound}
use Rattle.rl_model.specs.Fields.{fields_of}
use Rattle.rl_split.specs.Step.{Register}
use Rattle.rl_mirror.specs.Mirror.{MirrorData, IsValueOf, IsMirrorOf, mirrored_of, desired_of, marks_in}
use Rattle.rl_mirror.specs.Prediction.{learned_by_write, learned_by_read, spent_after, predict_write, predict_read, predict_raw}
use Rattle.rl_mirror.specs.Reachable.{IsReachable}
use Rattle.rl_mirror.proofs.ReachLemmas.{write_reach, read_reach}
use Rattle.rl_mirror.proofs.SpentLemmas.{length-spent_after}
use Rattle.rl_mirror.proofs.WordLemmas.{word_is_value}
use Rattle.rl_access.specs.declared.predictor.Gathered.{Gathered}
use Rattle.rl_access.specs.Gathering.{IsPredictorOf}
use Rattle.rl_access.specs.Model.{ModelData, IsModel}
use Rattle.rl_plain.specs.OneStep.{Step, write_step, read_step, no_step}
use Rattle.rl_plain.proofs.Followed.{FollowsStep}

pub record IsKept (c : ChipData) (m : MirrorData) : Type 0 where
  pub built : IsMirrorOf c m
  pub reach : IsReachable c m

pub model_kept : (m : ModelData) → IsModel m → IsKept m.chip m.mirror
model_kept m ok = record { built = ok.mirror; reach = ok.reach }

-- a model stays one with other values and other gathered words
pub model_with : (m : ModelData) (mirror : MirrorData) (gathered : List Gathered) → IsModel m → IsKept m.chip mirror → IsPredictorOf m.layout gathered
    → IsModel (record m { mirror = mirror; gathered = gathered })
model_with m mirror gathered ok kept predictor =
    record { chip = ok.chip; layout = ok.layout; built = ok.built; mirror = kept.built; reach = kept.reach; predictor = predictor }

-- ---- a register gets values

one_set : (c : ChipData) (values : List ℕ) (reg x q : ℕ) → reg < length values → IsValueOf c reg x → IsValueOf c q (get_or values q 0) → IsValueOf c q (get_or (slice_set values reg x) q 0)
one_set c values reg x q inside here old =
    elim (cases_eq q reg) [
      | inl same ↦ subst (λ n. IsValueOf c n (get_or (slice_set values reg x) n 0)) (sym same) (subst (IsValueOf c reg) (sym (get_or-set_same values reg x 0 inside)) here)
      | inr other ↦ subst (IsValueOf c q) (sym (get_or-set_other values reg q x 0 other)) old
    ]

abbrev with_register : MirrorData → (reg x y : ℕ) → List Bool → MirrorData
with_register m reg x y spent = record { mirrored = slice_set m.mirrored reg x; desired = slice_set m.desired reg y; spent = spent }

built_with : (c : ChipData) (m : MirrorData) (reg x y : ℕ) (spent : List Bool) → reg < length c.regs → IsMirrorOf c m → IsValueOf c reg x → IsValueOf c reg y → length spent ≡ length c.fields →
    IsMirrorOf c (with_register m reg x y spent)
built_with c m reg x y spent inside built first second long = record {
  registers = length-set m.mirrored reg x ∙ built.registers;
  wishes = length-set m.desired reg y ∙ built.wishes;
  marks = long;
  mirrored = λ q l. one_set c m.mirrored reg x q (subst (λ n. reg < n) (sym built.registers) inside) first (built.mirrored q l);
  desired = λ q l. one_set c m.desired reg y q (subst (λ n. reg < n) (sym built.wishes) inside) second (built.desired q l);
}

-- ---- predictions

written_value : (c : ChipData) (reg : ℕ) (chosen marks : ℕ → Bool) (mirrored word kept : ℕ) → IsSound c → reg < length c.regs → IsValueOf c reg (learned_by_write (fields_of c reg) chosen marks
    mirrored word kept)
unfolding learned_by_write
written_value c reg chosen marks mirrored word kept sound inside = word_is_value c reg _ sound inside

read_value : (c : ChipData) (reg : ℕ) (chosen : ℕ → Bool) (read kept : ℕ) → IsSound c → reg < length c.regs → IsValueOf c reg (learned_by_read (fields_of c reg) chosen read kept)
unfolding learned_by_read
read_value c reg chosen read kept sound inside = word_is_value c reg _ sound inside

write_built : (c : ChipData) (reg word fields : ℕ) (m : MirrorData) → IsSound c → reg < length c.regs → IsMirrorOf c m → IsMirrorOf c (predict_write c reg word fields m)
unfolding predict_write
write_built c reg word fields m sound inside built =
    let fs = fields_of c reg in
    let marks = marks_in c m.spent reg in
    built_with c m reg (learned_by_write fs (bit fields) marks (mirrored_of m reg) word (mirrored_of m reg)) (learned_by_write fs (bit fields) marks (mirrored_of m reg) word (desired_of m reg))
    (spent_after c reg fields m.spent) inside built
    (written_value c reg (bit fields) marks (mirrored_of m reg) word (mirrored_of m reg) sound inside) (written_value c reg (bit fields) marks (mirrored_of m reg) word (desired_of m reg) sound inside)
    (length-spent_after c reg fields m.spent ∙ built.marks)

read_built : (c : ChipData) (reg read fields : ℕ) (m : MirrorData) → IsSound c → reg < length c.regs → IsMirrorOf c m → IsMirrorOf c (predict_read c reg read fields m)
unfolding predict_read
read_built c reg read fields m sound inside built =
    let fs = fields_of c reg in
    built_with c m reg (learned_by_read fs (bit fields) read (mirrored_of m reg)) (learned_by_read fs (bit fields) read (desired_of m reg)) m.spent inside built
    (read_value c reg (bit fields) read (mirrored_of m reg) sound inside) (read_value c reg (bit fields) read (desired_of m reg) sound inside) built.marks

pub raw_built : (c : ChipData) (reg value : ℕ) (m : MirrorData) → IsSound c → reg < length c.regs → IsMirrorOf c m → IsMirrorOf c (predict_raw c reg value m)
unfolding predict_raw
raw_built c reg value m sound inside built =
    let here = word_is_value c reg (λ k b. bit value b) sound inside in
    built_with c m reg _ _ m.spent inside built here here built.marks

pub read_kept : (c : ChipData) (reg read fields : ℕ) (m : MirrorData) → IsSound c → reg < length c.regs → IsKept c m → IsKept c (predict_read c reg read fields m)
read_kept c reg read fields m sound inside kept = record {
  built = read_built c reg read fields m sound inside kept.built;
  reach = read_reach c reg read fields m sound inside kept.built kept.reach;
}

-- after a step of a register
pub step_kept : (c : ChipData) (reg : ℕ) (old new : MirrorData) (r : Register) (step : Step) → IsSound c → reg < length c.regs → IsKept c old → FollowsStep c reg old new r step → IsKept c new
step_kept c reg old new r (write_step chosen word) sound inside kept f =
    subst (IsKept c) (sym f.is) (record { built = write_built c reg word f.fields old sound inside kept.built; reach = write_reach c reg word f.fields old sound inside kept.built kept.reach })
step_kept c reg old new r (read_step chosen) sound inside kept f = subst (IsKept c) (sym f.is) (read_kept c reg _ f.fields old sound inside kept)
step_kept c reg old new r no_step sound inside kept f = subst (IsKept c) (sym f) kept
