-- The words that the contracts of this crate use, passed on from one place. Declares nothing.
pub use Rattle.rl_play.specs.Prelude.{Tells, refused_text}
pub use Rattle.rl_session_run.specs.Prelude.{AwaitsScript, IsBuiltWith, IsCaused, LeavesEnded, LeavesOpen, Rose, Stays, StaysOpen, input_of, is_complete, kinds_of}
pub use Rattle.rl_report.specs.Lines.{lines_of}
pub use Rattle.rl_report.specs.Pieces.{Puts}
pub use Rattle.rl_grade.specs.Prelude.{IsReady, world, bench_state, IsPlaceIn, TasksFit, first_world, fresh_standings, heard_by}
pub use Rattle.rl_grade.specs.Batch.{AreAnswers, IsShown}
pub use Rattle.rl_grade.specs.Reading.{refused_line}
pub use Rattle.rl_grade_report.specs.Verdict.{AreJudged}
pub use Rattle.rl_grade_report.specs.Asked.{status_at}
pub use Rattle.rl_grade_report.specs.Grading.{all_judged, facts_of, graded_as, graded_over, grading_of, grading_with, head_text, judged_at, judged_from}
pub use Rattle.rl_grade_report.specs.Grading.{last_text, part_text, place_text, places_text, reported, script_graded, share_line}
pub use Rattle.rl_grade_report.specs.Leaves.{LeavesLog}
pub use Rattle.rl_grade_report.specs.Mark.{mark_from, mark_of}
pub use Rattle.rl_grade_report.specs.Opening.{unflawed}
pub use Rattle.rl_grade_report.specs.Places.{mems_places, places_of, reg_places, regs_places}
pub use Rattle.rl_grade_report.specs.Progress.{CanGrade, IsNext, TellsGraded, base_shown, desc_of, status_of}
pub use Rattle.rl_grade_report.specs.Refusal.{EndsUnread}
pub use Rattle.rl_grade_report.specs.Totals.{totals_of}
pub use Rattle.rl_grade_report.specs.Waivers.{rows_of}
