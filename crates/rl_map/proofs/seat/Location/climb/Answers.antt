use Rattle.std.proofs.Common.{get_or, sym, ap, ◌∙◌, arith, false}
use Rattle.std.proofs.lemmas.List.Sums.{fold_more}
use Rattle.rl_map.specs.declared.path.Kind.TheVariants.{Little}
use Rattle.rl_map.specs.declared.seat.Access.{Access}
use Rattle.rl_map.specs.Access.{through}
use Rattle.rl_map.specs.Seat.{access_of}
use Rattle.rl_map.proofs.Climb.{room_next, address_fits, order_fits}
use Rattle.rl_map.proofs.seat.Location.climb.Goals as goal

pub through-access-requires-clause-address_fits : goal.through-access-requires-clause-address_fits
through-access-requires-clause-address_fits c = address_fits c.loop-level.level-index _ (omega (arith, c.requires.path.short)) c.loop-level.invariant.1

pub through-access-requires-clause-order_fits : goal.through-access-requires-clause-order_fits
through-access-requires-clause-order_fits c = order_fits c.loop-level.level-index _ (omega (arith, c.requires.path.short)) c.loop-level.invariant.1

pub loop-level-preserved : goal.loop-level-preserved
loop-level-preserved c =
    let i = c.loop-level.level-index in
    let level = get_or c.args.path.now i (record { bytes = 0; kind = Little; word = false; offset = 0 }) in
    let e = c.through-access.ensures.value in (
      e
          ∙ ap (λ (a : Access). through a level) c.loop-level.invariant.0
          ∙ sym (fold_more through (access_of c.args.self.now c.args.byte) c.args.path.now i _ c.loop-level-test.true),
      room_next c.args.path.now i _ _ _ c.requires.path c.loop-level-test.true c.loop-level.invariant.1 e c.through-access.ensures.offset_fits,
    )

pub returns-clause-address_fits : goal.returns-clause-address_fits
returns-clause-address_fits c = address_fits c.loop-level.level-index _ (omega (arith, c.requires.path.short)) c.loop-level.invariant.1
