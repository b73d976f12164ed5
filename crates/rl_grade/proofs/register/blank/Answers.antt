use Rattle.std.proofs.Common.{◌≡◌, None, length, ap, subst, arith}
use Rattle.std.specs.Prelude.{slice_index_or}
use Rattle.rl_grade.specs.Sorted.{IsBlank}
use Rattle.rl_grade.proofs.Sorting.{blank_more}
use Rattle.rl_grade.proofs.register.blank.Goals as goal

pub loop-init : goal.loop-init
loop-init g c = record {
  size_is = ap length c.new-table.ensures.items;
  none = λ at. ap (λ xs. slice_index_or xs at None) c.new-table.ensures.items;
}

pub loop-preserved : goal.loop-preserved
loop-preserved g c = blank_more _ _ _ c.loop.invariant c.in_ok-push.ensures.items

pub returns : goal.returns
returns g c =
    let all : c.loop.counter ≡ c.args.size = omega arith in
    subst (λ n. IsBlank n c.loop.table.items) all c.loop.invariant
