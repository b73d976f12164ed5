use Rattle.std.proofs.Common.{◌≡◌, ◌==◌, Bool, true, false, List, ℕ, length, Result, Ok, Err, if◌then◌else◌, vec_len, sym, ap, ◌∙◌, arith, rules}
use Rattle.rl_desc.specs.Data.{DescData}
use Rattle.rl_session_run.proofs.StopLemmas.{check_passes, check_refuses}
use Rattle.rl_plan.specs.Opening.{flaws_text, unflawed}
use Rattle.rl_plan.proofs.refusal.UnflawedCheck.check.Goals as goal

abbrev opening_if : DescData → (none : Bool) → Result DescData (List ℕ)
opening_if d none = if none then Ok d else Err flaws_text

pub returns-then-is_empty : goal.returns-then-is_empty
returns-then-is_empty g c =
    let same : length c.desc.inside.flaws.items ≡ vec_len c.desc.inside.flaws = first_of (search rules, omega arith) in
    let inside = ap (λ n. n == 0) same ∙ sym c.is_empty.ensures ∙ c.if-is_empty.true in
    let none : (length c.args.desc.now.flaws == 0) ≡ true = ap (λ (d : DescData). length d.flaws == 0) (sym c.desc.view_is) ∙ inside in
    record { checks = check_passes g.K.Sink unflawed c.args.desc.now _ _ (ap (opening_if c.args.desc.now) none) }

pub returns : goal.returns
returns g c =
    let same : length c.desc.inside.flaws.items ≡ vec_len c.desc.inside.flaws = first_of (search rules, omega arith) in
    let inside = ap (λ n. n == 0) same ∙ sym c.is_empty.ensures ∙ c.if-is_empty.false in
    let some : (length c.args.desc.now.flaws == 0) ≡ false = ap (λ (d : DescData). length d.flaws == 0) (sym c.desc.view_is) ∙ inside in
    let refuses = check_refuses g.K.Sink unflawed c.args.desc.now flaws_text _ _ _ _ (ap (opening_if c.args.desc.now) some)
    c.refused.ensures c.put_all.ensures.bytes c.put_all.ensures.stays.cause c.put_all.ensures.stays.ends in
    record { checks = refuses }
