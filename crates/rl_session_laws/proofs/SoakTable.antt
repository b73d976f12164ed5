-- The description of the session that is made from a number is the table that it is meant to be, and says that.
use Rattle.std.proofs.Common.{◌≡◌, ℕ, true, List, Some, None, if◌then◌else◌, refl, ap, ◌∙◌}
use Rattle.std.specs.Char.{encode_utf8}
use Rattle.std.specs.Fmt.{digits}
use Rattle.std.specs.Option.{option_map}
use Rattle.std.specs.Str.{is_utf8, chars}
use Rattle.toml.specs.Parse.{parse_document}
use Rattle.toml.proofs.OnLiterals.{toml_on_literals}
use Rattle.rl_bus.specs.declared.op.AdapterKind.{AdapterKind}
use Rattle.rl_report.specs.Pieces.{joined}
use Rattle.rl_desc.specs.Words.{policy_named}
use Rattle.rl_desc.specs.Shapes.{number}
use Rattle.rl_desc.specs.Refusals.{or_else}
use Rattle.rl_desc.specs.Reading.{document_fault, document_data}
use Rattle.rl_desc.specs.Described.{document_of, text_fault, first_fault, rows_fault, description_of, described}
use Rattle.rl_session.specs.Session.{said_by, opening_after, opening_of}
use Rattle.rl_session.specs.Soak.{policy_of, rows_text, description_text, soak_text}
use Rattle.rl_session_laws.specs.SoakDescription.{soak_table, soak_data, DescriptionReads}
use Rattle.rl_session_laws.proofs.SoakOpening.{soak_head}

description_utf8 : is_utf8 description_text ≡ true
unfolding is_utf8 chars encode_utf8 description_text joined rows_text policy_of digits
description_utf8 = refl

description_parsed : parse_document description_text ≡ Some soak_table
unfolding toml_on_literals description_text soak_table joined rows_text policy_of digits
description_parsed = refl

is_table : document_of description_text ≡ Some soak_table
is_table = ap (λ b. if b then parse_document description_text else None) description_utf8 ∙ description_parsed

has_form : document_fault soak_table ≡ None
unfolding soak_table policy_of number policy_named
has_form = refl

says : document_data soak_table ≡ soak_data
unfolding soak_table soak_data policy_of number policy_named
says = refl

fault : (kinds : List AdapterKind) → first_fault description_text kinds ≡ rows_fault soak_data kinds
unfolding first_fault
fault kinds =
    ap (λ doc. text_fault doc kinds) is_table ∙ ap (λ f. or_else f (rows_fault (document_data soak_table) kinds)) has_form
    ∙ ap (λ rows. rows_fault rows kinds) says

describes : (kinds : List AdapterKind) → description_of description_text kinds ≡ Some (described soak_data kinds)
unfolding description_of
describes kinds =
    ap (λ doc. option_map (λ d. described (document_data d) kinds) doc) is_table
    ∙ ap (λ rows. Some (described rows kinds)) says

opens : (n : ℕ) (kinds : List AdapterKind)
    → opening_of (soak_text n) kinds ≡ said_by (rows_fault soak_data kinds) (Some (described soak_data kinds))
unfolding opening_of
opens n kinds =
    ap (λ head. opening_after head kinds) (soak_head n)
    ∙ ap (λ f. said_by f (description_of description_text kinds)) (fault kinds)
    ∙ ap (λ desc. said_by (rows_fault soak_data kinds) desc) (describes kinds)

pub description_reads : DescriptionReads
description_reads =
    record { is_table = is_table; has_form = has_form; says = says; fault = fault; describes = describes; opens = opens }
