-- How the log of a woven script ends, over whatever device.
use Rattle.std.specs.Prelude.{◌≡◌, ◌⊎◌, ℕ, ◌+◌, ◌<◌, ◌≤◌, List, [], ◌∷◌, ◌++◌, length}
use Rattle.rl_log.specs.declared.status.Status.TheVariants.{Refused}
use Rattle.rl_log.specs.Laws.{EndsCounted}
use Rattle.rl_log.specs.Log.{Ending, said}
use Rattle.rl_weave_log.specs.declared.refusal.WovenRefusal.{WovenRefusal}
use Rattle.rl_weave_log.specs.Refusals.{refused_woven_text}
use Rattle.rl_weave_log.specs.WeaveLog.{Weaving, comes_of, group, text_on, woven_from}

-- the log of the groups that are run, from that line on, with no last line
unfoldable pub groups_text : (number : ℕ) → Weaving → List (List ℕ) → List ℕ
groups_text number g [] = (group g).text
groups_text number g (line ∷ lines) = text_on (comes_of g (said number line)) (λ g. groups_text (number + 1) g lines)

-- its groups up to the line at which it stops, and then the line that says so
pub record EndsStopped (e : Ending) (first count : ℕ) (text : List ℕ) : Type 0 where
  pub number : ℕ
  pub why : WovenRefusal
  pub low : first ≤ number
  pub high : number < first + count
  pub text_is : e.text ≡ text ++ refused_woven_text number why
  pub status_is : e.status ≡ Refused

-- The log of a woven script is that of the groups that are run and one last line, which tells the
-- counts or which line is refused.
abbrev pub EveryWovenLogEnds : Type 0
EveryWovenLogEnds =
    (number : ℕ) (g : Weaving) (lines : List (List ℕ))
    → EndsCounted (woven_from number g lines) (groups_text number g lines)
    ⊎ EndsStopped (woven_from number g lines) number (length lines) (groups_text number g lines)
