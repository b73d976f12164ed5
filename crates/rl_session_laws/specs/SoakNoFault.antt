-- The rows of the description have no fault where the adapters that they name are at hand.
use Rattle.std.specs.Prelude.{◌≡◌, ℕ, List, Some, None, Ok, bytes_eq}
use Rattle.std.specs.List.{find}
use Rattle.rl_bus.specs.declared.op.AdapterKind.{AdapterKind}
use Rattle.rl_bus.specs.Kinds.{plain_kind}
use Rattle.rl_apb.specs.Kinds.{apb_kind}
use Rattle.rl_desc.specs.Described.{first_fault, rows_fault, described}
use Rattle.rl_session.specs.Session.{opening_of}
use Rattle.rl_session.specs.Soak.{description_text, soak_text}
use Rattle.rl_session_laws.specs.SoakDescription.{soak_data}

-- the first adapter of the kind's name is of this kind
abbrev pub IsAtHand : AdapterKind → List AdapterKind → Type 0
IsAtHand kind kinds = find (λ k. bytes_eq k.name kind.name) kinds ≡ Some kind

-- The rows have no fault, so the text has none. Whatever the number, the session opens with what they describe.
pub record HasNoFault (kinds : List AdapterKind) : Type 0 where
  pub rows : rows_fault soak_data kinds ≡ None
  pub text : first_fault description_text kinds ≡ None
  pub opens : (n : ℕ) → opening_of (soak_text n) kinds ≡ Ok (described soak_data kinds)

-- so it is wherever the plain adapter and that of an APB are at hand
abbrev pub DescriptionHasNoFault : Type 0
DescriptionHasNoFault =
    (kinds : List AdapterKind) → IsAtHand plain_kind kinds → IsAtHand apb_kind kinds → HasNoFault kinds
