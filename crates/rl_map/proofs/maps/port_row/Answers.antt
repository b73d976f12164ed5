use Rattle.std.proofs.Common.{◌≤◌, sym, ◌∙◌, arith}
use Rattle.std.proofs.lemmas.List.Quantifiers.{position-Some}
use Rattle.rl_map.specs.Layout.{no_kind}
use Rattle.rl_map.proofs.Chunks.{by_width}
use Rattle.rl_map.proofs.Lookups.{got_at}
use Rattle.rl_map.proofs.maps.port_row.Goals as goal

pub returns-else-map-from-clause-fits : goal.returns-else-map-from-clause-fits
returns-else-map-from-clause-fits c =
    let at = position-Some _ c.args.kinds.now c.in-Some.adapter no_kind (sym c.kind_number.ensures ∙ c.in-Some.is) in
    record {
      map = omega arith;
      width = c.requires.width;
      wide = omega (arith, c.if-map-from.false, c.from.ensures);
      adapter = got_at c.args.kinds.now c.in-Some.adapter _ at.0 c.index-kinds-adapter.is;
      adapter_in = at.0;
      narrow = by_width (λ n. n ≤ 8) _ c.requires.width (omega arith) (omega arith) (omega arith) (omega arith);
      most = omega (arith, c.last_address.ensures, c.last_address.type_inv);
    }

pub overflow_cast-result-in-Some : goal.overflow_cast-result-in-Some
overflow_cast-result-in-Some c =
    let at = position-Some _ c.args.kinds.now c.in-Some.adapter no_kind (sym c.kind_number.ensures ∙ c.in-Some.is) in
    omega (arith, at.0, c.requires.kinds)
