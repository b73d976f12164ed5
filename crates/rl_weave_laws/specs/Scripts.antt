-- A woven script, beside the log of the plain machine.
use Rattle.std.specs.Prelude.{◌≡◌, ◌⊎◌, ℕ, ◌+◌, Bool, true, false, List, [], ◌∷◌, ◌++◌, map, Option, Result, Ok, Err}
use Rattle.std.specs.Io.KnownBytes.{Appends}
use Rattle.std.specs.List.{concat}
use Rattle.std.specs.List.Sorted.{IsPermutation}
use Rattle.rl_model.specs.Rows.{ChipData}
use Rattle.rl_map.specs.Layout.{LayoutData}
use Rattle.rl_access.specs.Model.{IsModel}
use Rattle.rl_access.specs.World.{World}
use Rattle.rl_bus.specs.Standing.{Standing, kinds_of}
use Rattle.rl_desc.specs.Data.{DescData}
use Rattle.rl_log.specs.declared.counts.Counts.{Counts}
use Rattle.rl_log.specs.declared.refusal.LineRefusal.{LineRefusal}
use Rattle.rl_log.specs.Log.{said}
use Rattle.rl_log.specs.Recording.{no_counts}
use Rattle.rl_plain.specs.Machine.{Machine, first_machine}
use Rattle.rl_session_laws.specs.PlainLog.{PlainEntry, IsSteady, plain_by, plain_comes_of, plain_from}
use Rattle.rl_session_laws.specs.Sound.{AreKinds}
use Rattle.rl_report.specs.WithoutItems.{plain_part, HasNames, IsLine}
use Rattle.rl_script.specs.declared.line.Line.{Line}
use Rattle.rl_session.specs.Judged.{first_world}
use Rattle.rl_session.specs.Session.{opening_of, script_of}
use Rattle.rl_weave_log.specs.declared.refusal.WovenRefusal.{WovenRefusal}
use Rattle.rl_weave_log.specs.Judged.{woven_judged}
use Rattle.rl_weave_log.specs.Refusals.{refused_woven_text}
use Rattle.rl_weave_log.specs.WeaveLog.{Weaving, Part, comes_of, counting, is_blank, woven_from}
use Rattle.rl_weave_laws.specs.Groups.{IsMachineWorld}

-- ---- the plain log's lines, group by group

abbrev pub says_blank : Result Line LineRefusal → Bool
says_blank (Ok line) = is_blank line
says_blank (Err why) = false

-- A line at which the weave stops leaves its group unrun. A blank line closes the group, and any other one has its text
-- in the plain log.
abbrev pub groups_on : Result Part WovenRefusal → (blank : Bool) → Result PlainEntry LineRefusal → Machine
    → (held : List (List ℕ)) → (rest : Weaving → Machine → List (List ℕ) → List (List (List ℕ))) → List (List (List ℕ))
groups_on (Err why) blank entry p held rest = []
groups_on (Ok part) true entry p held rest = held ∷ rest part.after p []
groups_on (Ok part) false (Ok entry) p held rest = rest part.after entry.machine (held ++ entry.text ∷ [])
groups_on (Ok part) false (Err why) p held rest = []

-- Of each group that a weave runs, from that number on: what the plain log has for each of its lines. `held` is what it
-- has for the lines of the group that is read, and the machine is the one behind these.
unfoldable pub plain_groups : ChipData → LayoutData → (number : ℕ) → Weaving → Machine → (held : List (List ℕ))
    → List (List ℕ) → List (List (List ℕ))
plain_groups c l number g p held [] = held ∷ []
plain_groups c l number g p held (line ∷ lines) =
    groups_on (comes_of g (said number line)) (says_blank (said number line))
    (plain_comes_of c l p (said number line)) p held
    (λ g p held. plain_groups c l (number + 1) g p held lines)

-- ---- what is written

-- group by group, the same lines in some order
abbrev pub AreOrders : (groups orders : List (List (List ℕ))) → Type 0
AreOrders [] [] = Unit {0}
AreOrders (g ∷ gs) (o ∷ os) = IsPermutation g o × AreOrders gs os
AreOrders [] (o ∷ os) = ⊥
AreOrders (g ∷ gs) [] = ⊥

-- a line that says at which line the weave stops, and why
pub record SaysStopped (last : List ℕ) : Type 0 where
  pub number : ℕ
  pub why : WovenRefusal
  pub is : last ≡ refused_woven_text number why

-- A woven log beside the plain log. Without its item lines it is the lines of each group in some order, and
-- then a last line. The plain log is the lines of each group as they stand in the script, and then the same last line;
-- or it goes on where the weave stops.
pub record HasGroups (groups : List (List (List ℕ))) (plain text : List ℕ) : Type 0 where
  pub orders : List (List (List ℕ))
  pub same : AreOrders groups orders
  pub last : List ℕ
  pub is_last : IsLine last
  pub text_is : plain_part text ≡ concat (map concat orders) ++ last
  pub rest : List ℕ
  pub plain_is : plain ≡ concat (map concat groups) ++ rest
  pub ends : (rest ≡ last) ⊎ SaysStopped last

abbrev pub ScriptIsPlain : Type 0
ScriptIsPlain =
    (n : ℕ) (counts : Counts) (w : World) (p : Machine) (lines : List (List ℕ))
    → HasNames w.model.chip w.model.layout → IsMachineWorld w p
    → HasGroups (plain_groups w.model.chip w.model.layout 1 (counting n counts w) p [] lines)
    (plain_from w.model.chip w.model.layout 1 counts p lines) (woven_from 1 (counting n counts w) lines).text

-- ---- a session

-- the plain log's lines of the groups that are run of it
abbrev pub session_groups : (n : ℕ) → DescData → List ℕ → List Standing → List (List (List ℕ))
session_groups n desc bytes adapters =
    plain_groups desc.chip desc.layout 1 (counting n no_counts (first_world desc adapters)) (first_machine desc.chip) []
    (script_of bytes)

-- A session whose description declares no flaw and no volatile field has the plain log's groups.
-- One that is refused before its script has no groups, and its log is the plain log.
abbrev pub IsWovenPlain : (n : ℕ) → Result DescData (List ℕ) → (bytes : List ℕ)
    → List Standing → (text : List ℕ) → Type 0
IsWovenPlain n (Ok desc) bytes adapters text =
    IsSteady desc → HasGroups (session_groups n desc bytes adapters) (plain_by (Ok desc) bytes) text
IsWovenPlain n (Err line) bytes adapters text = plain_part text ≡ plain_by (Err line) bytes

-- the log of a session whose accesses are woven is so
pub record IsWovenLogPlain (n : ℕ) (bytes : List ℕ) (adapters : List Standing) : Type 0 where
  pub same : IsWovenPlain n (opening_of bytes (kinds_of adapters)) bytes adapters (woven_judged n bytes adapters).text

-- a text was written that is so
pub record WritesWovenPlain (n : ℕ) (bytes : List ℕ) (adapters : List Standing)
    (old new : Option (List ℕ)) : Type 0 where
  pub text : List ℕ
  pub written : Appends old new text
  pub same : IsWovenPlain n (opening_of bytes (kinds_of adapters)) bytes adapters text

-- of every session that opens with a description of which a model is sound
abbrev pub WovenLogIsPlain : Type 0
WovenLogIsPlain =
    (n : ℕ) (bytes : List ℕ) (adapters : List Standing) (desc : DescData)
    → opening_of bytes (kinds_of adapters) ≡ Ok desc
    → IsModel (first_world desc adapters).model → IsWovenLogPlain n bytes adapters

-- of every session, where fewer than 2 ^ 32 adapters take no address past 64 bits
abbrev pub EveryWovenLogPlain : Type 0
EveryWovenLogPlain =
    (n : ℕ) (bytes : List ℕ) (adapters : List Standing)
    → AreKinds (kinds_of adapters) → IsWovenLogPlain n bytes adapters
