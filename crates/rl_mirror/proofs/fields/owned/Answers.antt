use Rattle.std.proofs.Common.{◌≡◌, ℕ, sym, subst, arith}
use Rattle.std.specs.Prelude.{bit_and}
use Rattle.rl_policy.specs.Bits.{bit}
use Rattle.rl_model.specs.Fields.{fields_of}
use Rattle.rl_mirror.specs.Fields.{owned}
use Rattle.rl_mirror.specs.Mirror.{IsValueOf}
use Rattle.rl_mirror.proofs.MaskedLemmas.{owned_is}
use Rattle.rl_mirror.proofs.WordLemmas.{word_is_value}
use Rattle.rl_mirror.proofs.fields.owned.Goals as goal

pub returns : goal.returns
returns c =
    let chip = c.args.chip.now in
    let reg = c.args.reg in
    let fs = fields_of chip reg in
    let effects = c.effects.ensures in
    let is : bit_and c.effects.result.now.owned c.args.bits ≡ owned fs c.args.bits = owned_is fs c.effects.result.now.owned c.args.bits (omega arith) effects.value.owned in
    let held : IsValueOf chip reg (bit_and c.effects.result.now.owned c.args.bits) =
    subst (λ (n : ℕ). IsValueOf chip reg n) (sym is) (word_is_value chip reg (λ k b. bit c.args.bits b) effects.sound c.requires) in
    record { value = is; fits = held.fits; held = held }
