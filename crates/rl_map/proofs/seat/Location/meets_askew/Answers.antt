use Rattle.std.proofs.Common.{◌≡◌, ◌+◌, ◌%◌, false, get_or, drop, sym, ap, ◌∙◌, arith}
use Rattle.rl_map.specs.declared.path.Kind.TheVariants.{Little}
use Rattle.rl_map.specs.declared.path.Level.{Level}
use Rattle.rl_map.specs.declared.seat.Access.{Access}
use Rattle.rl_map.specs.Faults.{is_askew}
use Rattle.rl_map.proofs.Climb.{room_next, address_fits, order_fits}
use Rattle.rl_map.proofs.Askew.{not_is, stands_askew, askew_here, askew_next, askew_end, even_stands, byte_stands, word_stands}
use Rattle.rl_map.proofs.seat.Location.meets_askew.Goals as goal
use Rattle.rl_map.proofs.seat.Location.meets_askew.Goals.{else-not-access-via-then-not-access+then-level+else-access-from-ne0, else-not-access-via-then-not-access+else-level}
use Rattle.rl_map.proofs.seat.Location.meets_askew.Goals.{else-not-access-via-else-not-access}

pub nonzero_rem-access : goal.nonzero_rem-access
nonzero_rem-access c = omega (arith, c.from.ensures, c.loop-level.invariant.1.is_access.within)

pub through-access-requires-clause-address_fits : goal.through-access-requires-clause-address_fits
through-access-requires-clause-address_fits c = address_fits c.loop-level.level-index _ (omega (arith, c.requires.path.short)) c.loop-level.invariant.1

pub through-access-requires-clause-order_fits : goal.through-access-requires-clause-order_fits
through-access-requires-clause-order_fits c = order_fits c.loop-level.level-index _ (omega (arith, c.requires.path.short)) c.loop-level.invariant.1

pub returns-then-access-from-ne0 : goal.returns-then-access-from-ne0
returns-then-access-from-ne0 c =
    let none : Level = record { bytes = 0; kind = Little; word = false; offset = 0 } in
    sym (askew_here c.args.path.now c.loop-level.level-index c.loop-level.access none c.loop-level-test.true (not_is _ c.if-not-access.true) c.if-level.true
    (λ e. c.if-access-from-ne0.true (ap (λ n. c.loop-level.access.address % n) c.from.ensures ∙ e)))
    ∙ c.loop-level.invariant.0

pub loop-level-preserved : goal.loop-level-preserved
loop-level-preserved c =
    let i = c.loop-level.level-index in
    let a = c.loop-level.access in
    let level : Level = get_or c.args.path.now i (record { bytes = 0; kind = Little; word = false; offset = 0 }) in
    let e = c.through-access.ensures.value in
    let stands : stands_askew a level ≡ false = elim c.else-not-access.branch [
      | else-not-access-via-then-not-access+then-level+else-access-from-ne0 w ↦ even_stands a level (ap (λ n. a.address % n) (sym w.from.ensures) ∙ w.if-access-from-ne0.false)
      | else-not-access-via-then-not-access+else-level w ↦ byte_stands a level w.if-level.false
      | else-not-access-via-else-not-access w ↦ word_stands a level w.if-not-access.false
    ] in (
      ap (λ (x : Access). is_askew x (drop (i + 1) c.args.path.now)) e ∙ sym (askew_next c.args.path.now i a _ c.loop-level-test.true stands) ∙ c.loop-level.invariant.0,
      room_next c.args.path.now i _ _ _ c.requires.path c.loop-level-test.true c.loop-level.invariant.1 e c.through-access.ensures.offset_fits,
    )

pub returns : goal.returns
returns c = sym (askew_end c.args.path.now c.loop-level.level-index c.loop-level.access c.loop-level-test.false) ∙ c.loop-level.invariant.0
