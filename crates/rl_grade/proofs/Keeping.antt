-- No job changes the chip or the layout.
use Rattle.std.proofs.Common.{◌≡◌, ℕ, Bool, true, false, List, [], ◌∷◌, if◌then◌else◌, Option, Some, None, Ok, Err, refl, ◌∙◌}
use Rattle.rl_access.specs.declared.event.Op.{Op}
use Rattle.rl_access.specs.declared.event.Op.TheVariants as op
use Rattle.rl_access.specs.declared.trace.TraceItem.{TraceItem}
use Rattle.rl_access.specs.Items.{failed_at}
use Rattle.rl_access.specs.Model.{ModelData, IsSameChip}
use Rattle.rl_access.specs.Rules.{Grant, grant, Outcome, or_error, outcome}
use Rattle.rl_access.specs.Runs.{reads_of, write_grant, writes_of}
use Rattle.rl_access.specs.Tally.{is_bus_error}
use Rattle.rl_access.specs.World.{World, step_by, step_of}
use Rattle.rl_seq.specs.Plan.{Plan, look, step, stop}
use Rattle.rl_log.specs.Course.{Course, along, alone, burst, first_then, through}
use Rattle.rl_log.specs.Entry.{plan_of}
use Rattle.rl_grade.specs.declared.job.Job.{Job}
use Rattle.rl_grade.specs.declared.job.Job.TheVariants.{BurstRead, BurstWrite, One, Sequence}
use Rattle.rl_grade.specs.Job.{course_of}

same : (m : ModelData) → IsSameChip m m
same m = record { chip = refl; layout = refl }

pub same_on : (a b c : ModelData) → IsSameChip a b → IsSameChip b c → IsSameChip a c
same_on a b c h k = record { chip = k.chip ∙ h.chip; layout = k.layout ∙ h.layout }

-- ---- an operation

or_error_keeps : (m n : ModelData) (failed : Option ℕ) (good : Outcome) → IsSameChip m n → IsSameChip m good.model
    → IsSameChip m (or_error failed n good).model
or_error_keeps m n None good h k = k
or_error_keeps m n (Some at) good h k = h

either_keeps : (m : ModelData) (b : Bool) (x y : Outcome) → IsSameChip m x.model → IsSameChip m y.model
    → IsSameChip m (if b then x else y).model
either_keeps m true x y h k = h
either_keeps m false x y h k = k

sent_keeps : (m n : ModelData) (items : List TraceItem) (good : Outcome) → n.chip ≡ m.chip → n.layout ≡ m.layout
    → good.model.chip ≡ m.chip → good.model.layout ≡ m.layout → IsSameChip m (or_error (failed_at items) n good).model
sent_keeps m n items good c l d k =
    or_error_keeps m n (failed_at items) good (record { chip = c; layout = l }) (record { chip = d; layout = k })

outcome_keeps : (m : ModelData) (o : Op) (place sampled : ℕ) (items : List TraceItem)
    → IsSameChip m (outcome m o place sampled items).model
outcome_keeps m (op.Write reg map value) place sampled items = sent_keeps m _ items _ refl refl refl refl
outcome_keeps m (op.Read reg map) place sampled items = sent_keeps m _ items _ refl refl refl refl
outcome_keeps m (op.Mirror reg map) place sampled items = sent_keeps m _ items _ refl refl refl refl
outcome_keeps m (op.Check reg map) place sampled items = sent_keeps m _ items _ refl refl refl refl
outcome_keeps m (op.FieldWrite field map value) place sampled items = sent_keeps m _ items _ refl refl refl refl
outcome_keeps m (op.FieldRead field map) place sampled items = sent_keeps m _ items _ refl refl refl refl
outcome_keeps m (op.Update reg map) place sampled items =
    either_keeps m _ _ _ (sent_keeps m _ items _ refl refl refl refl) (same m)
outcome_keeps m (op.MemWrite mem map index value) place sampled items = sent_keeps m _ items _ refl refl refl refl
outcome_keeps m (op.MemRead mem map index) place sampled items = sent_keeps m _ items _ refl refl refl refl
outcome_keeps m (op.MemCheck mem map index value) place sampled items = sent_keeps m _ items _ refl refl refl refl
outcome_keeps m (op.OtherWrite reg map value) place sampled items = sent_keeps m _ items _ refl refl refl refl
outcome_keeps m (op.OtherRead reg map) place sampled items = sent_keeps m _ items _ refl refl refl refl
outcome_keeps m _ place sampled items = record { chip = refl; layout = refl }

granted_keeps : (w : World) (o : Op) (g : Grant) → IsSameChip w.model (step_by w o g).world.model
granted_keeps w o (Ok place) = outcome_keeps w.model o place _ _
granted_keeps w o (Err why) = same w.model

pub step_keeps : (w : World) (o : Op) → IsSameChip w.model (step_of w o).world.model
unfolding step_of
step_keeps w o = granted_keeps w o (grant w.model o)

-- ---- operations one after another

through_keeps : (w : World) (ops : List Op) → IsSameChip w.model (through w ops).world.model
unfolding through
through_keeps w [] = same w.model
through_keeps w (o ∷ ops) =
    by (is_bus_error (step_of w o).event.end)
    (same_on w.model (step_of w o).world.model (through (step_of w o).world ops).world.model (step_keeps w o)
    (through_keeps (step_of w o).world ops))
  where
    by : (b : Bool) → IsSameChip w.model (through (step_of w o).world ops).world.model
        → IsSameChip w.model (if b then alone (step_of w o) else first_then (step_of w o) (through (step_of w o).world ops)).world.model
    by true on = step_keeps w o
    by false on = on

along_keeps : (w : World) (p : Plan) → IsSameChip w.model (along w p).world.model
unfolding along
along_keeps w stop = same w.model
along_keeps w (step o p) =
    same_on w.model (step_of w o).world.model (along (step_of w o).world p).world.model (step_keeps w o)
    (along_keeps (step_of w o).world p)
along_keeps w (look f) = along_keeps w (f w.model)

burst_keeps : (w : World) (g : Grant) (o : Op) (ops : List Op) → IsSameChip w.model (burst w g o ops).world.model
burst_keeps w (Ok place) o ops = through_keeps w ops
burst_keeps w (Err why) o ops = same w.model

pub course_keeps : (job : Job) (w : World) → IsSameChip w.model (course_of job w).world.model
course_keeps (One o) w = step_keeps w o
course_keeps (BurstWrite mem map first values) w =
    burst_keeps w (write_grant w.model mem map first values) _ (writes_of mem map first values)
course_keeps (BurstRead mem map first count) w =
    burst_keeps w (grant w.model (op.BurstRead mem map first count)) _ (reads_of mem map first count)
course_keeps (Sequence which block) w = along_keeps w (plan_of which w.model block)
