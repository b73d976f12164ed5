use Rattle.std.proofs.Common.{Bool, eqb, ◌&&◌, List, sym, ◌∙◌, subst}
use Rattle.std.specs.List.Sorted.{IsNonDecreasingBy}
use Rattle.rl_bus.specs.declared.table.ResetRow.{ResetRow}
use Rattle.rl_bench.specs.Stretch.{IsStretch}
use Rattle.rl_bench.proofs.StretchLemmas.{find_within, and_false}
use Rattle.rl_bench.proofs.tables.Tables.declared_reset.Goals as goal

pub returns : goal.returns
returns c =
    let rows = c.args.self.now.resets.items in
    let field = c.args.field in
    let kind = c.args.kind in
    let p : ResetRow → Bool = λ r. eqb r.field field in
    let q : ResetRow → Bool = λ r. eqb r.field field && eqb r.kind kind in
    let i = c.resets_of-own.result.first in
    let j = c.resets_of-own.result.end in
    let P : List ResetRow → Type 0 = λ rows. IsStretch p rows i j in
    let own : IsStretch p rows i j = subst P c.deref.ensures.value c.resets_of-own.ensures in
    let found = rw c.deref-2.ensures.value at c.reset_in.ensures in
    found ∙ find_within p q rows i j own (λ r e. and_false (eqb r.field field) (eqb r.kind kind) e)

pub resets_of-own-requires : goal.resets_of-own-requires
resets_of-own-requires c = subst (λ rows. IsNonDecreasingBy (λ r. r.field) rows) (sym c.deref.ensures.value) c.requires
