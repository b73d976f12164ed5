-- A change by the hardware is refused where no field is volatile.
use Rattle.std.proofs.Common.{◌≡◌, ℕ, true, false, Ok, sym, ◌∙◌}
use Rattle.std.specs.Prelude.{nat_lt, ◌^◌}
use Rattle.rl_model.specs.Fields.{field_of}
use Rattle.rl_access.specs.declared.event.Op.TheVariants as op
use Rattle.rl_access.specs.declared.event.Refused.TheVariants.{NotVolatile, TooWide}
use Rattle.rl_access.specs.Model.{ModelData}
use Rattle.rl_access.specs.Rules.{only_where, field_width, grant}
use Rattle.rl_plain.specs.Agree.{KeepsAgreement}
use Rattle.rl_plain.proofs.Agreement.{refused_agree}
use Rattle.rl_plain.proofs.Granted.{only_ok}
use Rattle.rl_plain.specs.Sorts as sort

pub volatile_where : (m : ModelData) (field value place : ℕ) → grant m (op.Hw field value) ≡ Ok place → (field_of m.chip field).shape.volatile ≡ true
volatile_where m field value place e =
    let first = only_ok (only_where (Ok 0) (field_of m.chip field).shape.volatile NotVolatile) (nat_lt value (2 ^ field_width m.chip field)) TooWide place e in
    (only_ok (Ok 0) (field_of m.chip field).shape.volatile NotVolatile place first.0).1

pub hardware_keeps_agreement : KeepsAgreement sort.hardware
hardware_keeps_agreement s new (op.Hw field value) event is numbers ok a performs =
    refused_agree s new (op.Hw field value) event (grant s.model (op.Hw field value)) a performs
    (λ place granted done.
    let clash : false ≡ true = sym (a.believed_is.steady field numbers) ∙ volatile_where s.model field value place granted in
    absurd (cc))
hardware_keeps_agreement s new _ event is numbers ok a performs = absurd is
