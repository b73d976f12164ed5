use Rattle.std.proofs.lemmas.List.Elements.{All-filter}
use Rattle.rl_flaw.specs.Flaws.{IsFlawOf}
use Rattle.rl_grade_report.specs.Groups.{is_same_sort}
use Rattle.rl_grade_report.proofs.groups.push_group.Goals as goal

pub push_members-requires : goal.push_members-requires
push_members-requires c =
    rw (c.deref.ensures.value, c.in_ok-same.ensures)
    (All-filter (is_same_sort c.args.one) (IsFlawOf c.args.chip.now c.args.layout.now) c.args.flaws.now c.requires.each)
