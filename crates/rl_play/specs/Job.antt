-- What a line asks for that is more than one operation.
use Rattle.std.specs.Prelude.{ℕ, ◌<◌, length, IfSome}
use Rattle.rl_access.specs.Operation.{IsMapIn}
use Rattle.rl_model.specs.Rows.{ChipData}
use Rattle.rl_access.specs.Model.{ModelData}
use Rattle.rl_log.specs.Entry.{plan_of}
use Rattle.rl_play.specs.Work.{Work, planned, burst_write_work, burst_read_work}
use Rattle.rl_play.specs.declared.line.Job.{Job}
use Rattle.rl_play.specs.declared.line.Job.TheVariants.{Sequence, BurstWrite, BurstRead}

-- its operations; the lines round a sequence aren't part of it
abbrev pub job_work : Job → ModelData → Work
job_work (Sequence which block) m = planned (plan_of which m block)
job_work (BurstWrite mem map first values) m = burst_write_work m mem map first values.now
job_work (BurstRead mem map first count) m = burst_read_work m mem map first count

-- the numbers in it are in range
abbrev pub JobHasNumbers : ChipData → (maps : ℕ) → Job → Type 0
JobHasNumbers c maps (Sequence which block) = IfSome block (λ b. b < c.blocks)
JobHasNumbers c maps (BurstWrite mem map first values) = (mem < length c.mems) × IsMapIn maps map
JobHasNumbers c maps (BurstRead mem map first count) = (mem < length c.mems) × IsMapIn maps map
