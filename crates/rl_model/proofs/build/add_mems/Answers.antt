use Rattle.std.proofs.Common.{◌≡◌, ◌+◌, ◌<◌, ◌≤◌, List, [], ◌∷◌, ◌++◌, length, drop, map, refl, sym, ap, ◌∙◌, arith}
use Rattle.std.proofs.lemmas.List.{at_drop_all}
use Rattle.std.proofs.lemmas.Result.{err_from_is_err_and}
use Rattle.rl_model.specs.declared.fault.Array.TheVariants as array
use Rattle.rl_model.specs.declared.parts.MemPart.{MemPart}
use Rattle.rl_model.specs.Rules.{row_of, mem_path, mem_fault, mems_fault}
use Rattle.rl_model.specs.Build.{mem_seen}
use Rattle.rl_model.proofs.BuildLemmas.{all_built, next_part, more_built, past}
use Rattle.rl_model.proofs.Checks.{failed, fails_first}
use Rattle.rl_model.proofs.build.add_mems.Goals as goal

pub loop-part-init : goal.loop-part-init
loop-part-init c = record {
  row = refl;
  few = omega arith;
  total = omega arith;
  fault = refl;
  paths = refl;
  mems = ap (λ mems. mems ++ map mem_seen c.args.parts.now) c.new-mems.ensures.items;
}

pub returns-clause-exact : goal.returns-clause-exact
returns-clause-exact c =
    let l = c.loop-part in
    let end : length c.args.parts.now ≤ l.part-index = omega (arith, c.loop-part-test.false) in (
      sym l.invariant.fault ∙ at_drop_all (mems_fault l.row c.args.blocks l.paths l.total) c.args.parts.now l.part-index end,
      (all_built (map mem_seen) refl _ _ _ _ end l.invariant.mems, all_built (map mem_path) refl _ _ _ _ end l.invariant.paths),
    )

pub returns-clause-few : goal.returns-clause-few
returns-clause-few c = omega (arith, c.loop-part.invariant.row, c.loop-part.invariant.few, c.loop-part-test.false)

pub loop-part-preserved : goal.loop-part-preserved
loop-part-preserved c =
    let l = c.loop-part in
    let was = l.invariant in
    let part : MemPart = c.part-item.result in
    let rest : List MemPart = drop (l.part-index + 1) c.args.parts.now in
    let here : drop l.part-index c.args.parts.now ≡ part ∷ rest = next_part c.args.parts.now l.part-index part c.loop-part-test.true c.part-item.is in
    let exact = rw c.row_of.ensures at c.in_ok-mem.ensures.exact in
    let low : l.row < 64 = rw c.row_of.ensures at c.in_ok-mem.ensures.few in
    let paths : c.add_mem.new.paths ≡ l.paths ++ mem_path part ∷ [] = exact.1.1 in
    let items = c.in_ok-push.ensures.items ∙ ap (λ m. l.mems.items ++ m ∷ []) exact.1.0 in
    record {
      row = ap (λ n. n + 1) was.row;
      few = omega arith;
      total = c.in_ok-mem.ensures.room;
      fault =
          ap (λ ps. mems_fault (l.row + 1) c.args.blocks ps (l.total + part.size) rest) paths
          ∙ past (mem_fault (row_of array.Mem l.row) c.args.blocks l.paths l.total part) _ _ exact.0
          (sym (ap (mems_fault l.row c.args.blocks l.paths l.total) here) ∙ was.fault);
      paths = more_built mem_path _ _ _ part rest _ here paths was.paths;
      mems = more_built mem_seen _ _ _ part rest _ here items was.mems;
    }

pub returns-in_err-mem-clause-exact : goal.returns-in_err-mem-clause-exact
returns-in_err-mem-clause-exact c =
    let l = c.loop-part in
    let part : MemPart = c.part-item.result in
    let rest : List MemPart = drop (l.part-index + 1) c.args.parts.now in
    let here : drop l.part-index c.args.parts.now ≡ part ∷ rest = next_part c.args.parts.now l.part-index part c.loop-part-test.true c.part-item.is in
    let e = c.in_err-mem.field-0.0 in
    let fails = rw c.row_of.ensures at c.in_err-mem.ensures.exact in
    let p = err_from_is_err_and c.from_residual.result c.from_residual.ensures.1 in
    failed c.from_residual.result _ _ e p.0 p.1 p.2
    (fails_first e (mem_fault (row_of array.Mem l.row) c.args.blocks l.paths l.total part)
    (mems_fault (l.row + 1) c.args.blocks (l.paths ++ mem_path part ∷ []) (l.total + part.size) rest) _ fails
    (sym l.invariant.fault ∙ ap (mems_fault l.row c.args.blocks l.paths l.total) here))
