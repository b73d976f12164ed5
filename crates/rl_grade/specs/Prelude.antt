-- The words that the contracts of this crate use, passed on from one place. Declares nothing.
pub use Rattle.rl_access.specs.Operation.{HasNumbers, is_single}
pub use Rattle.rl_access.specs.World.{world}
pub use Rattle.rl_flaw.specs.Flaws.{IsFlawOf}
pub use Rattle.rl_log.specs.Entry.{op_course, sequence_course}
pub use Rattle.rl_play.specs.Prelude.{IsReady, IsSameChip}
pub use Rattle.rl_session.specs.Prelude.{bench_state, kinds_of, IsBuiltWith, first_world}
pub use Rattle.rl_grade.specs.Adapters.{fresh_standings}
pub use Rattle.rl_grade.specs.Drive.{Drives, DrivesAll}
pub use Rattle.rl_grade.specs.Find.{all_seen, first_find}
pub use Rattle.rl_grade.specs.Job.{JobFits, TasksFit, course_of, heard_by}
pub use Rattle.rl_grade.specs.Place.{IsPlaceIn, flaws_at, with_flaw}
pub use Rattle.rl_grade.specs.Record.{items_from}
pub use Rattle.rl_grade.specs.Share.{graded_by, grades_of, is_in_share}
