use Rattle.std.proofs.Common.{◌≤◌, length, arith}
use Rattle.rl_play.specs.declared.playing.TheConstants.{MOST_LINES}
use Rattle.rl_report.specs.Reading.{input_of}
use Rattle.rl_grade.proofs.Reading.{fits_more, out_by, read_on, read_out, read_refused}
use Rattle.rl_grade.proofs.script.read_script.Goals as goal

pub returns-in_err-job-clause-refused : goal.returns-in_err-job-clause-refused
returns-in_err-job-clause-refused g c =
    let i = c.loop-tasks.invariant in
    out_by c.from_residual.result c.in_err-job.field-0.0 _ c.from_residual.ensures
    (read_refused c.args.model.now (input_of c.args.lines.now (g.S.Source.left c.args.source.now)) c.loop-tasks.tasks.items
    c.loop-tasks.number (input_of c.loop-tasks.lines (g.S.Source.left c.loop-tasks.source))
    (input_of c.next_job.new.lines (g.S.Source.left c.next_job.new.source)) c.in_err-job.field-0.0 i.reading c.in_err-job.ensures.reads)

pub returns-in-End-clause-tasks : goal.returns-in-End-clause-tasks
returns-in-End-clause-tasks g c =
    read_out c.args.model.now (input_of c.args.lines.now (g.S.Source.left c.args.source.now)) c.loop-tasks.tasks.items
    c.loop-tasks.number (input_of c.loop-tasks.lines (g.S.Source.left c.loop-tasks.source))
    (input_of c.next_job.new.lines (g.S.Source.left c.next_job.new.source)) c.loop-tasks.invariant.reading
    (rw c.in-End.is at c.in_ok-job.ensures.reads)

pub loop-tasks-preserved : goal.loop-tasks-preserved
loop-tasks-preserved g c =
    let i = c.loop-tasks.invariant in
    let e = c.in_ok-job.ensures in
    let more = c.in_ok-push_job-in-Line.ensures.more in
    let last : c.loop-tasks.number ≤ MOST_LINES = (rw c.in-Line.is at e.last) (λ is. cc) in
    record {
      found = e.found;
      going = e.going;
      in_range = omega (arith, last);
      later = omega (arith, i.later, e.source_later);
      fits = fits_more c.args.model.now.chip (length c.args.model.now.layout.maps) c.loop-tasks.tasks.items _ c.loop-tasks.number c.in-Line.job i.fits (rw c.in-Line.is at e.fits) more;
      reading = read_on c.args.model.now (input_of c.args.lines.now (g.S.Source.left c.args.source.now)) c.loop-tasks.tasks.items _
          c.loop-tasks.number (input_of c.loop-tasks.lines (g.S.Source.left c.loop-tasks.source))
          (input_of c.next_job.new.lines (g.S.Source.left c.next_job.new.source)) c.in-Line.job i.reading
          (rw c.in-Line.is at e.reads) more;
    }
