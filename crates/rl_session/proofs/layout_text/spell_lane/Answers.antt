use Rattle.std.proofs.Common.{◌≡◌, ℕ, ◌+◌, ◌-◌, ◌<◌, ◌≤◌, ◌++◌, ◌∷◌, true, drop, length, decimal, rules, arith, sym, ap, ◌∙◌}
use Rattle.std.proofs.lemmas.Fmt.{length-decimal-le}
use Rattle.std.proofs.lemmas.List.{drop-set}
use Rattle.rl_policy.specs.Bits.{bit}
use Rattle.rl_session.proofs.layout_text.spell_lane.Goals as goal

short : (n : ℕ) → n < 256 → length (decimal n) ≤ 3
short n h = length-decimal-le 3 n (omega arith) (omega arith) (omega arith)

pub write_digits-start-requires : goal.write_digits-start-requires
write_digits-start-requires c = (omega (arith, short c.from.result (search rules)), omega arith)

pub overflow_sub-start : goal.overflow_sub-start
overflow_sub-start c = omega (arith, c.write_digits-start.ensures.start, short c.from.result (search rules))

pub returns-clause-room : goal.returns-clause-room
returns-clause-room c = omega (arith, c.write_digits-start.ensures.start, short c.from.result (search rules))

pub returns-clause-text : goal.returns-clause-text
returns-clause-text c =
    let has : bit c.args.word.now.lanes c.args.lane ≡ true = sym c.has_lane.ensures ∙ c.if-not-has_lane.false in
    let start = c.write_digits-start.result in
    let buf = c.write_digits-start.new.buf in
    let some : 1 ≤ start = omega (arith, c.write_digits-start.ensures.start, short c.from.result (search rules)) in
    let next : start - 1 + 1 ≡ start = omega arith in
    rw has (drop-set buf (start - 1) 32 (search rules) ∙ ap (λ k. 32 ∷ drop k buf) next
    ∙ ap (λ xs. 32 ∷ xs) (c.write_digits-start.ensures.written ∙ ap (λ n. decimal n ++ drop c.args.end c.args.text.now) c.from.ensures))
