use Rattle.std.proofs.Common.{◌≡◌, ◌<◌, length, sym, ap, subst, arith}
use Rattle.rl_map.specs.Layout.{no_place, place_at}
use Rattle.rl_map.proofs.Lookups.{read_is}
use Rattle.rl_map.proofs.Opened.{opened}
use Rattle.rl_map.proofs.layout.Layout.bytes.Goals as goal

pub overflow_cast-result : goal.overflow_cast-result
overflow_cast-result c =
    let l = opened c.self.inside in
    let there : c.args.place < length l.places = subst (λ v. c.args.place < length v.places) (sym c.self.view_is) c.requires in
    let row_is : c.index.result.now ≡ place_at l c.args.place = read_is l.places c.args.place _ no_place there c.index.ensures in
    omega (arith, ap (λ row. row.bytes) row_is, (c.self.invariant.0.each_place c.args.place there).most)
