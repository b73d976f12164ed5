-- What a session opens with is sound, and so its log is the plain machine's.
use Rattle.std.proofs.Common.{◌≡◌, ℕ, ◌<◌, List, length, Option, Some, None, Result, Ok, Err, option_map, refl, sym, ap, ◌∙◌, subst}
use Rattle.rl_bus.specs.Standing.{Standing, kinds_of}
use Rattle.rl_bus.specs.declared.op.AdapterKind.{AdapterKind}
use Rattle.rl_model.specs.Build.{chip_of, chip_fault}
use Rattle.rl_model.specs.Chip.{IsSound as IsChip}
use Rattle.rl_model.specs.Rows.{ChipData}
use Rattle.rl_model.specs.declared.fault.ModelFault.{ModelFault}
use Rattle.rl_map.specs.Faults.{layout_fault}
use Rattle.rl_map.specs.declared.fault.MapFault.{MapFault}
use Rattle.rl_map.specs.Maps.{layout_of}
use Rattle.rl_mirror.specs.Mirror.{IsMirrorOf}
use Rattle.rl_mirror.specs.Prediction.{blank, fresh, reset}
use Rattle.rl_mirror.proofs.MirrorLemmas.{blank_built, reset_built}
use Rattle.rl_mirror.proofs.ReachLemmas.{fresh_reach}
use Rattle.rl_access.specs.Model.{IsModel}
use Rattle.rl_access.proofs.Places.{fresh_predictor}
use Rattle.toml.specs.Data.{Members}
use Rattle.rl_desc.specs.declared.fault.DescFault.{DescFault}
use Rattle.rl_desc.specs.Data.{DocumentData, DescData}
use Rattle.rl_desc.specs.Described.{described, rows_fault, document_of, text_fault, first_fault, description_of}
use Rattle.rl_desc.specs.Reading.{document_fault, document_data}
use Rattle.rl_desc.specs.Refusals.{or_else}
use Rattle.rl_session.specs.Judged.{first_world}
use Rattle.rl_session.specs.Session.{head_of, said_by, opening_after, opening_of}
use Rattle.rl_session_laws.specs.PlainLog.{IsPlainLog}
use Rattle.rl_session_laws.proofs.PlainLaws.{laws}
use Rattle.rl_session_laws.proofs.PlainNames.{none_first, none_mapped}
use Rattle.rl_session_laws.proofs.PlainSession.{log_of_desc, log_of_refused}
use Rattle.rl_session_laws.specs.Sound.{AreKinds, IsLayoutOf}
use Rattle.rl_model.proofs.ChipSound.{each_chip_sound}
use Rattle.rl_session_laws.proofs.Layouts.{each_layout_sound}

-- ---- a description

-- its chip and its layout are sound
record IsFine (desc : DescData) : Type 0 where
  chip : IsChip desc.chip
  layout : IsLayoutOf desc.chip desc.layout

rows_fine : (rows : DocumentData) (kinds : List AdapterKind) → AreKinds kinds → rows_fault rows kinds ≡ None → IsFine (described rows kinds)
unfolding rows_fault described
rows_fine rows kinds k none =
    let a = none_first _ _ none in
    let b = none_first _ _ a.1 in
    let chip : IsChip (chip_of rows.parts) = each_chip_sound rows.parts (none_mapped _ (chip_fault rows.parts) a.0) in
    record {
      chip = chip;
      layout = each_layout_sound (chip_of rows.parts) rows.maps rows.places kinds chip k (none_mapped _ (layout_fault (chip_of rows.parts) rows.maps rows.places kinds) b.0);
    }

text_fine : (doc : Option Members) (kinds : List AdapterKind) (desc : DescData) → AreKinds kinds → text_fault doc kinds ≡ None
    → option_map (λ doc. described (document_data doc) kinds) doc ≡ Some desc → IsFine desc
text_fine None kinds desc k none is = absurd (cc)
text_fine (Some doc) kinds desc k none is =
    let same : described (document_data doc) kinds ≡ desc = cc in
    subst IsFine same (rows_fine (document_data doc) kinds k (none_first (document_fault doc) (rows_fault (document_data doc) kinds) none).1)

said_fine : (fault : Option DescFault) (given : Option DescData) (desc : DescData) → said_by fault given ≡ Ok desc → (fault ≡ None) × (given ≡ Some desc)
said_fine (Some fault) given desc is = absurd (cc)
said_fine None None desc is = absurd (cc)
said_fine None (Some other) desc is = let same : other ≡ desc = cc in (refl, ap Some same)

head_fine : (head : List ℕ) (kinds : List AdapterKind) (desc : DescData) → AreKinds kinds → said_by (first_fault head kinds) (description_of head kinds) ≡ Ok desc → IsFine desc
unfolding first_fault description_of
head_fine head kinds desc k is =
    let s = said_fine (text_fault (document_of head) kinds) (option_map (λ doc. described (document_data doc) kinds) (document_of head)) desc is in
    text_fine (document_of head) kinds desc k s.0 s.1

after_fine : (head : Result (List ℕ) (List ℕ)) (kinds : List AdapterKind) (desc : DescData) → AreKinds kinds → opening_after head kinds ≡ Ok desc → IsFine desc
after_fine (Ok head) kinds desc k is = head_fine head kinds desc k is
after_fine (Err line) kinds desc k is = absurd (cc)

opens_fine : (bytes : List ℕ) (kinds : List AdapterKind) (desc : DescData) → AreKinds kinds → opening_of bytes kinds ≡ Ok desc → IsFine desc
unfolding opening_of
opens_fine bytes kinds desc k is = after_fine (head_of bytes) kinds desc k is

-- ---- the model

fresh_built : (c : ChipData) → IsChip c → IsMirrorOf c (fresh c)
unfolding fresh
fresh_built c ok = reset_built c 0 (blank c) ok (blank_built c)

model_fine : (desc : DescData) (adapters : List Standing) → IsFine desc → IsModel (first_world desc adapters).model
model_fine desc adapters f = record {
  chip = f.chip;
  layout = f.layout.sound;
  built = f.layout.built;
  mirror = fresh_built desc.chip f.chip;
  reach = fresh_reach desc.chip f.chip;
  predictor = fresh_predictor desc.layout (length desc.layout.places) f.layout.sound refl;
}

pub each_opening_sound : (bytes : List ℕ) (adapters : List Standing) (desc : DescData) → AreKinds (kinds_of adapters)
    → opening_of bytes (kinds_of adapters) ≡ Ok desc → IsModel (first_world desc adapters).model
each_opening_sound bytes adapters desc k is = model_fine desc adapters (opens_fine bytes (kinds_of adapters) desc k is)

-- ---- the log

log_by : (bytes : List ℕ) (adapters : List Standing) → AreKinds (kinds_of adapters) → (o : Result DescData (List ℕ)) → opening_of bytes (kinds_of adapters) ≡ o → IsPlainLog bytes adapters
log_by bytes adapters k (Ok desc) is = log_of_desc laws bytes adapters desc is (each_opening_sound bytes adapters desc k is)
log_by bytes adapters k (Err line) is = log_of_refused bytes adapters line is

pub each_log_plain : (bytes : List ℕ) (adapters : List Standing) → AreKinds (kinds_of adapters) → IsPlainLog bytes adapters
each_log_plain bytes adapters k = log_by bytes adapters k (opening_of bytes (kinds_of adapters)) refl
