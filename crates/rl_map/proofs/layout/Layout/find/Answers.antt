use Rattle.std.proofs.Common.{◌≡◌, Some, length, sym, ap, ◌∙◌, subst, arith}
use Rattle.std.specs.Prelude.{filter, find, option_copied}
use Rattle.rl_bus.specs.Setup.{stands_at}
use Rattle.rl_map.specs.Layout.{lets_through, found, IsHere, IsAscending}
use Rattle.rl_map.proofs.Lookups.{filter_le, found_none, found_some, is_here}
use Rattle.rl_map.proofs.Opened.{opened}
use Rattle.rl_map.proofs.layout.Layout.find.Goals as goal

pub count_through-requires : goal.count_through-requires
count_through-requires c =
    omega (
      arith,
      ap length
          (c.rows_at-group.ensures
          ∙ ap (filter (stands_at c.args.port c.args.address)) (c.deref-2.ensures.value ∙ ap (λ v. v.items) c.deref.ensures)),
      filter_le
          (stands_at c.args.port c.args.address) c.self.inside.rows.value.items,
      c.self.invariant.0.rows,
    )

pub returns-in-None-clause-found : goal.returns-in-None-clause-found
returns-in-None-clause-found c =
    let l = opened c.self.inside in
    sym (found_none l c.args.port c.args.address c.args.write c.rows_at-group.result.now
    (c.rows_at-group.ensures ∙ ap (filter (stands_at c.args.port c.args.address)) (c.deref-2.ensures.value ∙ ap (λ v. v.items) c.deref.ensures))
    (sym c.first_through.ensures ∙ ap option_copied c.in-None.is))
    ∙ ap (λ v. found v c.args.port c.args.address c.args.write) c.self.view_is

pub returns-in-Some : goal.returns-in-Some
returns-in-Some c =
    let l = opened c.self.inside in
    let group : c.rows_at-group.result.now ≡ filter (stands_at c.args.port c.args.address) l.rows =
    c.rows_at-group.ensures ∙ ap (filter (stands_at c.args.port c.args.address)) (c.deref-2.ensures.value ∙ ap (λ v. v.items) c.deref.ensures) in
    let first : find (lets_through c.args.write) c.rows_at-group.result.now ≡ Some c.in-Some.row.now = sym c.first_through.ensures ∙ ap option_copied c.in-Some.is in
    record {
      found = found_some l c.args.port c.args.address c.args.write c.rows_at-group.result.now c.in-Some.row.now _ _ group first c.index_of.ensures c.count_through.ensures
          ∙ ap (λ v. found v c.args.port c.args.address c.args.write) c.self.view_is;
      here = subst (λ v. IsHere v c.args.port c.args.address c.args.write (record { place = c.in-Some.row.now.place; index = c.index_of.result; count = c.count_through.result })) c.self.view_is
          (is_here l c.self.invariant.0 c.args.port c.args.address c.args.write c.rows_at-group.result.now c.in-Some.row.now _ _ group first c.index_of.ensures c.count_through.ensures);
    }

pub rows_at-group-requires-clause-ascending : goal.rows_at-group-requires-clause-ascending
rows_at-group-requires-clause-ascending c = subst IsAscending (sym (c.deref-2.ensures.value ∙ ap (λ v. v.items) c.deref.ensures)) c.self.invariant.0.ascending
