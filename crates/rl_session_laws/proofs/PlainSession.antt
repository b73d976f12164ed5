-- A session on a device that does as described writes, without the lines of items, the plain machine's log.
use Rattle.std.proofs.Common.{◌≡◌, ℕ, List, length, replicate, Option, Some, None, IfSome, Ok, Err, refl, sym, ap, subst, ◌∙◌, arith}
use Rattle.std.proofs.lemmas.List.{length-replicate, get_or-replicate}
use Rattle.rl_bus.specs.Account.{without_peer}
use Rattle.rl_bus.specs.Standing.{Standing, kinds_of}
use Rattle.rl_flaw.specs.declared.flaw.Flaw.{Flaw}
use Rattle.rl_flaw.specs.Flaws.{first_of}
use Rattle.rl_mirror.specs.Prediction.{fresh, reset}
use Rattle.rl_access.specs.Gathering.{no_words, IsNothingGathered}
use Rattle.rl_access.specs.Model.{IsModel}
use Rattle.rl_desc.specs.Data.{DescData}
use Rattle.rl_plain.specs.Calls.{CallIsPlain, CallKeepsModel, FirstOnesArePlain}
use Rattle.rl_plain.specs.Machine.{seen, first_machine}
use Rattle.rl_report.specs.WithoutItems.{plain_part, HasNames, BuiltOnesHaveNames}
use Rattle.rl_session.specs.Judged.{judged, judged_by, first_world}
use Rattle.rl_session.specs.Session.{script_of, opening_of}
use Rattle.rl_session_laws.specs.PlainLog.{IsSteady, IsSteadyOpening, plain_by, plain_log, IsPlainLog}
use Rattle.rl_log.specs.Recording.{no_counts}
use Rattle.rl_session_laws.proofs.LogLines.{opening_stays}
use Rattle.rl_access.specs.World.{scene_at}
use Rattle.rl_session_laws.proofs.PlainCourse.{IsPlainWorld}
use Rattle.rl_session_laws.proofs.PlainEntries.{script_is_plain}
use Rattle.rl_session_laws.proofs.PlainNames.{opening_named}

first_model : (desc : DescData) (adapters : List Standing) → (first_world desc adapters).model ≡ seen desc.chip desc.layout (first_machine desc.chip)
unfolding fresh reset
first_model desc adapters = refl

none_gathered : (n : ℕ) → IsNothingGathered (replicate n no_words)
none_gathered n = λ k d within. let long = length-replicate n no_words in get_or-replicate n k no_words d (omega arith)

first_is_plain : (desc : DescData) (adapters : List Standing) → FirstOnesArePlain → IsSteady desc → IsModel (first_world desc adapters).model
    → IsPlainWorld desc.chip desc.layout (first_world desc adapters) (first_machine desc.chip)
first_is_plain desc adapters first steady sound = record {
  model = first_model desc adapters;
  sound = subst IsModel (first_model desc adapters) sound;
  machine = first (scene_at (first_world desc adapters) (without_peer 0)) sound steady.fields refl (none_gathered (length desc.layout.places)) (ap (λ (flaws : List Flaw). Some (first_of desc.chip desc.layout
      flaws)) steady.flaws);
}

pub session_is_plain : (bytes : List ℕ) (adapters : List Standing) (desc : DescData) → CallIsPlain → CallKeepsModel → FirstOnesArePlain → opening_of bytes (kinds_of adapters) ≡ Ok desc
    → IsSteady desc → IsModel (first_world desc adapters).model → HasNames desc.chip desc.layout → plain_part (judged bytes adapters).text ≡ plain_log bytes (kinds_of adapters)
session_is_plain bytes adapters desc law keeps first is steady sound names =
    ap (λ o. plain_part (judged_by o bytes adapters).text) is
    ∙ script_is_plain law keeps desc.chip desc.layout sound.chip names (script_of bytes) 1 no_counts (first_world desc adapters) (first_machine desc.chip) (first_is_plain desc adapters first steady
    sound)
    ∙ ap (λ o. plain_by o bytes) (sym is)

pub refused_is_plain : (bytes : List ℕ) (adapters : List Standing) (line : List ℕ) → opening_of bytes (kinds_of adapters) ≡ Err line → plain_part (judged bytes adapters).text ≡ plain_log bytes
    (kinds_of adapters)
refused_is_plain bytes adapters line is =
    ap (λ o. plain_part (judged_by o bytes adapters).text) is
    ∙ opening_stays bytes (kinds_of adapters) line is
    ∙ ap (λ o. plain_by o bytes) (sym is)

-- ---- of what was read

-- what the crates below show: of each call, of a first device and model, and of names
pub record HaveLaws : Type 0 where
  pub calls : CallIsPlain
  pub keeps : CallKeepsModel
  pub first : FirstOnesArePlain
  pub names : BuiltOnesHaveNames

pub log_of_desc : HaveLaws → (bytes : List ℕ) (adapters : List Standing) (desc : DescData) → opening_of bytes (kinds_of adapters) ≡ Ok desc → IsModel (first_world desc adapters).model →
    IsPlainLog bytes adapters
log_of_desc laws bytes adapters desc is sound = record {
  same = λ steady. session_is_plain bytes adapters desc laws.calls laws.keeps laws.first is (subst IsSteadyOpening is steady) sound (opening_named laws.names bytes (kinds_of adapters) desc is);
}

pub log_of_refused : (bytes : List ℕ) (adapters : List Standing) (line : List ℕ) → opening_of bytes (kinds_of adapters) ≡ Err line → IsPlainLog bytes adapters
log_of_refused bytes adapters line is = record { same = λ steady. refused_is_plain bytes adapters line is }

pub plain_opened : HaveLaws → (left : Option (List ℕ)) (adapters : List Standing) (desc : DescData) → IfSome left (λ bytes. opening_of bytes (kinds_of adapters) ≡ Ok desc)
    → ((adapters : List Standing) → IsModel (first_world desc adapters).model) → IfSome left (λ bytes. IsPlainLog bytes adapters)
plain_opened laws None adapters desc is sound = tt
plain_opened laws (Some bytes) adapters desc is sound = log_of_desc laws bytes adapters desc is (sound adapters)
