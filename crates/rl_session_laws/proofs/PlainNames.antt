-- What opens with a description has names.
use Rattle.std.proofs.Common.{◌≡◌, ℕ, List, Option, Some, None, Result, Ok, Err, option_map, refl, subst}
use Rattle.rl_bus.specs.declared.op.AdapterKind.{AdapterKind}
use Rattle.rl_model.specs.Build.{chip_of, chip_fault}
use Rattle.rl_map.specs.Faults.{layout_fault}
use Rattle.rl_desc.specs.declared.fault.DescFault.{DescFault}
use Rattle.rl_desc.specs.Data.{DocumentData, DescData}
use Rattle.rl_desc.specs.Described.{described, rows_fault, document_of, text_fault, first_fault, description_of}
use Rattle.rl_desc.specs.Faults.{of_model, of_map}
use Rattle.rl_desc.specs.Reading.{document_fault, document_data}
use Rattle.rl_desc.specs.Refusals.{or_else}
use Rattle.rl_report.specs.WithoutItems.{HasNames, BuiltOnesHaveNames}
use Rattle.rl_session.specs.Session.{said_by, opening_after, head_of, opening_of}

pub none_first : {X : Type 0} (a b : Option X) → or_else a b ≡ None → (a ≡ None) × (b ≡ None)
none_first None b is = (refl, is)
none_first (Some x) b is = absurd (cc)

pub none_mapped : {A B : Type 0} (f : A → B) (o : Option A) → option_map f o ≡ None → o ≡ None
none_mapped f None is = refl
none_mapped f (Some a) is = absurd (cc)

some_is : {A : Type 0} {x y : A} → Some x ≡ Some y → x ≡ y
some_is e = cc

rows_named : BuiltOnesHaveNames → (rows : DocumentData) (kinds : List AdapterKind) → rows_fault rows kinds ≡ None → HasNames (described rows kinds).chip (described rows kinds).layout
unfolding rows_fault described
rows_named law rows kinds is =
    let chip = chip_of rows.parts in
    let a = none_first (option_map of_model (chip_fault rows.parts)) _ is in
    let b = none_first (option_map of_map (layout_fault chip rows.maps rows.places kinds)) _ a.1 in
    law rows.parts rows.maps rows.places kinds (none_mapped of_model (chip_fault rows.parts) a.0) (none_mapped of_map (layout_fault chip rows.maps rows.places kinds) b.0)

said_named : (fault : Option DescFault) (d : Option DescData) (desc : DescData) → said_by fault d ≡ Ok desc → (fault ≡ None) × (d ≡ Some desc)
said_named (Some fault) d desc is = absurd (cc)
said_named None (Some d) desc is = let same : d ≡ desc = cc in (refl, cc)
said_named None None desc is = absurd (cc)

after_named : BuiltOnesHaveNames → (head : Result (List ℕ) (List ℕ)) (kinds : List AdapterKind) (desc : DescData) → opening_after head kinds ≡ Ok desc → HasNames desc.chip desc.layout
unfolding first_fault description_of
after_named law (Ok head) kinds desc is =
    let s = said_named (first_fault head kinds) (description_of head kinds) desc is in
    (elim (document_of head) as (λ o. text_fault o kinds ≡ None → option_map (λ doc. described (document_data doc) kinds) o ≡ Some desc → HasNames desc.chip desc.layout) [
      | None ↦ λ f d. absurd (cc)
      | Some doc ↦ λ f d.
          subst (λ (desc : DescData). HasNames desc.chip desc.layout) (some_is d)
          (rows_named law (document_data doc) kinds (none_first (document_fault doc) (rows_fault (document_data doc) kinds) f).1)
    ]) s.0 s.1
after_named law (Err line) kinds desc is = absurd (cc)

pub opening_named : BuiltOnesHaveNames → (bytes : List ℕ) (kinds : List AdapterKind) (desc : DescData) → opening_of bytes kinds ≡ Ok desc → HasNames desc.chip desc.layout
unfolding opening_of
opening_named law bytes kinds desc is = after_named law (head_of bytes) kinds desc is
