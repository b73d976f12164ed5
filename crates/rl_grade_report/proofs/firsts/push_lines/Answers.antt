use Rattle.std.proofs.Common.{◌≡◌, ◌++◌, take, get_or, sym, ap, ◌∙◌, append_assoc}
use Rattle.std.specs.List.{flat_map}
use Rattle.std.proofs.lemmas.List.{take_more}
use Rattle.rl_grade.specs.declared.job.Task.{Task}
use Rattle.rl_grade_report.specs.Firsts.{task_count}
use Rattle.rl_grade_report.proofs.Parts.{flat_more}
use Rattle.rl_grade_report.proofs.firsts.push_lines.Goals as goal

pub loop-task-preserved : goal.loop-task-preserved
loop-task-preserved c =
    let tasks = c.args.tasks.now in
    let text = task_count c.args.judged.now in
    let first = c.args.text.now.items in
    let k = c.loop-task.task-index in
    let some = take k tasks in
    let item = get_or tasks k c.task-item.result in
    let more = ap (flat_map text) (take_more tasks k c.task-item.result c.loop-task-test.true) ∙ flat_more text some item in
    let here : c.task-item.result ≡ item = c.task-item.is in
    c.in_ok-push_count.ensures ∙ ap (λ (t : Task). c.loop-task.text.items ++ text t) here ∙ ap (λ t. t ++ text item) c.loop-task.invariant
    ∙ append_assoc first (flat_map text some) (text item) ∙ ap (λ t. first ++ t) (sym more)
