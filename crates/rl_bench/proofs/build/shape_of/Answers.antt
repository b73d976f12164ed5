use Rattle.std.proofs.Common.{◌≡◌, ℕ, ◌+◌, ◌<◌, Bool, not, ◌&&◌, ◌||◌, cond, false, ap, sym, ◌∙◌, arith, Option, Some, None, take, length, get_or, is_some}
use Rattle.std.specs.Prelude.{find, option_map, bit_and}
use Rattle.std.specs.Int.{bit_not, w64}
use Rattle.std.specs.Option.{option_or}
use Rattle.std.proofs.lemmas.List.{take_all, get_or_read}
use Rattle.rl_policy.specs.Bits.{bit}
use Rattle.rl_policy.proofs.BitLemmas.{bit-zero, bit-and, bit-or, bit-not}
use Rattle.rl_bus.specs.declared.table.StuckRow.{StuckRow}
use Rattle.rl_bus.specs.Setup.{names_bit, no_stuck, or_else}
use Rattle.rl_bench.specs.Tables.{setup_held}
use Rattle.rl_bench.proofs.BuildLemmas.{stuck_bit, stuck_value}
use Rattle.rl_bench.proofs.ListLemmas.{find_more}
use Rattle.rl_bench.proofs.build.shape_of.Goals as goal

pub loop-k-init : goal.loop-k-init
loop-k-init c = record { stuck = λ b k. bit-zero b; values = λ b k. bit-zero b }

pub loop-k-preserved : goal.loop-k-preserved
loop-k-preserved c =
    let t = setup_held c.args.tables.now in
    let i = c.loop-k.k in
    let reg = c.args.reg in
    let was = c.loop-k.invariant in
    let xs = t.flaws.stuck in
    let l : i < length xs = omega (arith, c.loop-k-test.true, c.len-k-end.ensures, c.args.tables.now.stuck.ok.0) in
    let x = get_or xs i no_stuck in
    let first : ℕ → Option StuckRow = λ b. find (λ s. names_bit t s reg b) (take i xs) in
    let more : (b : ℕ) → find (λ s. names_bit t s reg b) (take (i + 1) xs) ≡ option_or (first b)
    (cond (names_bit t x reg b) (Some x) None) = λ b. find_more (λ s. names_bit t s reg b) xs i no_stuck l in
    let has : ℕ → Bool = λ b. is_some (option_map (λ s. s.value) (first b)) in
    let new : (b : ℕ) → b < 64 → bit (bit_and c.stuck_seat.result (bit_not w64 c.loop-k.stuck)) b ≡ (names_bit t x reg b && not (has b)) =
    λ b k. bit-and c.stuck_seat.result (bit_not w64 c.loop-k.stuck) b
    ∙ ap (λ y. y && bit (bit_not w64 c.loop-k.stuck) b) (c.stuck_seat.ensures b k)
    ∙ ap (λ y. names_bit t x reg b && y) (bit-not c.loop-k.stuck b (omega arith) k ∙ ap not (was.stuck b k)) in
    let value : c.index.result.now.value ≡ x.value = ap (λ s. s.value) (get_or_read xs i c.index.result.now l c.index.ensures no_stuck) in
    record {
      stuck = λ b k. bit-or c.loop-k.stuck _ b ∙ ap (λ y. y || bit (bit_and c.stuck_seat.result (bit_not w64 c.loop-k.stuck)) b) (was.stuck b k)
          ∙ ap (λ y. has b || y) (new b k)
          ∙ stuck_bit (first b) (names_bit t x reg b) x ∙ ap (λ o. is_some (option_map (λ s. s.value) o)) (sym (more b));
      values = λ b k. bit-or c.loop-k.values _ b ∙ ap (λ y. y || bit (bit_and (bit_and c.stuck_seat.result (bit_not w64 c.loop-k.stuck)) c.repeated.result) b) (was.values b k)
          ∙ ap (λ y. or_else (option_map (λ s. s.value) (first b)) false || y)
          (bit-and _ c.repeated.result b ∙ ap (λ y. y && bit c.repeated.result b) (new b k) ∙ ap (λ y. (names_bit t x reg b && not (has b)) && y) (c.repeated.ensures b k ∙ value))
          ∙ stuck_value (first b) (names_bit t x reg b) x ∙ ap (λ o. or_else (option_map (λ s. s.value) o) false) (sym (more b));
    }

pub returns : goal.returns
returns c =
    let t = setup_held c.args.tables.now in
    let whole = take_all c.loop-k.k t.flaws.stuck (omega (arith, c.loop-k-test.false, c.len-k-end.ensures, c.args.tables.now.stuck.ok.0)) in
    record {
      effects = c.effects_of.ensures;
      stuck = λ b k. c.loop-k.invariant.stuck b k ∙ ap (λ xs. is_some (option_map (λ s. s.value) (find (λ s. names_bit t s c.args.reg b) xs))) whole;
      values = λ b k. c.loop-k.invariant.values b k ∙ ap (λ xs. or_else (option_map (λ s. s.value) (find (λ s. names_bit t s c.args.reg b) xs)) false) whole;
    }
