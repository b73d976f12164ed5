-- What `weave` writes of a session on a device that does as described.
use Rattle.std.proofs.Common.{◌≡◌, ℕ, List, length, Option, Some, None, IfSome, Result, Ok, Err, refl, sym, ap, subst}
use Rattle.rl_bus.specs.Account.{without_peer}
use Rattle.rl_flaw.specs.declared.flaw.Flaw.{Flaw}
use Rattle.rl_flaw.specs.Flaws.{first_of}
use Rattle.rl_bus.specs.Standing.{Standing, kinds_of}
use Rattle.rl_mirror.specs.Prediction.{fresh, reset}
use Rattle.rl_access.specs.Model.{IsModel}
use Rattle.rl_access.specs.World.{scene_at}
use Rattle.rl_access.proofs.Places.{none_gathered}
use Rattle.rl_desc.specs.Data.{DescData}
use Rattle.rl_log.specs.Recording.{no_counts}
use Rattle.rl_plain.specs.Machine.{seen, first_machine}
use Rattle.rl_plain.proofs.FirstOnes.{first_ones_are_plain}
use Rattle.rl_session_laws.specs.PlainLog.{IsSteady, plain_by}
use Rattle.rl_session_laws.proofs.LogLines.{opening_stays}
use Rattle.rl_session_laws.proofs.Openings.{each_opening_sound}
use Rattle.rl_session_laws.proofs.PlainNames.{opening_named}
use Rattle.rl_report.proofs.BuiltNames.{built_ones_have_names}
use Rattle.rl_session.specs.Judged.{first_world}
use Rattle.rl_session.specs.Session.{opening_of, refusal_of, script_of}
use Rattle.rl_weave_log.specs.Judged.{woven_by}
use Rattle.rl_weave_laws.specs.Groups.{IsMachineWorld}
use Rattle.rl_weave_laws.specs.Scripts.{EveryWovenLogPlain, HasGroups, IsWovenLogPlain, IsWovenPlain, WovenLogIsPlain, session_groups}
use Rattle.rl_weave_laws.proofs.Scripts.{script_is_plain}

first_model : (desc : DescData) (adapters : List Standing)
    → (first_world desc adapters).model ≡ seen desc.chip desc.layout (first_machine desc.chip)
unfolding fresh reset
first_model desc adapters = refl

first_is_machine : (desc : DescData) (adapters : List Standing) → IsSteady desc → IsModel (first_world desc adapters).model
    → IsMachineWorld (first_world desc adapters) (first_machine desc.chip)
first_is_machine desc adapters steady sound =
    let both = first_ones_are_plain (scene_at (first_world desc adapters) (without_peer 0)) sound steady.fields refl
    (none_gathered (length desc.layout.places))
    (ap (λ (flaws : List Flaw). Some (first_of desc.chip desc.layout flaws)) steady.flaws) in
    record { sound = sound; agree = both.agree; model = first_model desc adapters }

session_has : (n : ℕ) (bytes : List ℕ) (adapters : List Standing) (desc : DescData) → opening_of bytes (kinds_of adapters) ≡ Ok desc
    → IsSteady desc → IsModel (first_world desc adapters).model
    → HasGroups (session_groups n desc bytes adapters) (plain_by (Ok desc) bytes) (woven_by n (Ok desc) bytes adapters).text
session_has n bytes adapters desc is steady sound =
    script_is_plain n no_counts (first_world desc adapters) (first_machine desc.chip) (script_of bytes)
    (opening_named built_ones_have_names bytes (kinds_of adapters) desc is) (first_is_machine desc adapters steady sound)

-- ---- of what was read

pub woven_log_is_plain : WovenLogIsPlain
woven_log_is_plain n bytes adapters desc is sound = record {
  same = subst (λ o. IsWovenPlain n o bytes adapters (woven_by n o bytes adapters).text) (sym is)
      (λ steady. session_has n bytes adapters desc is steady sound);
}

log_of_refused : (n : ℕ) (bytes : List ℕ) (adapters : List Standing) (line : List ℕ) → opening_of bytes (kinds_of adapters) ≡ Err line
    → IsWovenLogPlain n bytes adapters
log_of_refused n bytes adapters line is = record {
  same = subst (λ o. IsWovenPlain n o bytes adapters (woven_by n o bytes adapters).text) (sym is)
      (opening_stays bytes (kinds_of adapters) line is);
}

pub woven_opened : (n : ℕ) (left : Option (List ℕ)) (adapters : List Standing) (desc : DescData)
    → IfSome left (λ bytes. opening_of bytes (kinds_of adapters) ≡ Ok desc)
    → ((adapters : List Standing) → IsModel (first_world desc adapters).model) → IfSome left (λ bytes. IsWovenLogPlain n bytes adapters)
woven_opened n None adapters desc is sound = tt
woven_opened n (Some bytes) adapters desc is sound = woven_log_is_plain n bytes adapters desc is (sound adapters)

pub woven_refused : (n : ℕ) (bytes : List ℕ) (adapters : List Standing)
    → opening_of bytes (kinds_of adapters) ≡ Err (refusal_of (opening_of bytes (kinds_of adapters))) → IsWovenLogPlain n bytes adapters
woven_refused n bytes adapters is = log_of_refused n bytes adapters (refusal_of (opening_of bytes (kinds_of adapters))) is

-- ---- of every session

pub every_woven_log_plain : EveryWovenLogPlain
every_woven_log_plain n bytes adapters kinds = by (opening_of bytes (kinds_of adapters)) refl
  where
    by : (o : Result DescData (List ℕ)) → opening_of bytes (kinds_of adapters) ≡ o → IsWovenLogPlain n bytes adapters
    by (Ok desc) is = woven_log_is_plain n bytes adapters desc is (each_opening_sound bytes adapters desc kinds is)
    by (Err line) is = log_of_refused n bytes adapters line is
