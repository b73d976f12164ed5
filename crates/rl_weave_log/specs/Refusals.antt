-- The last line of a woven script that is refused.
use Rattle.std.specs.Prelude.{ℕ, List, codes}
use Rattle.rl_log.specs.Texts.{refused_text}
use Rattle.rl_play.specs.Texts.{refused_so_text}
use Rattle.rl_weave.specs.declared.access.WeaveFault.{WeaveFault}
use Rattle.rl_weave.specs.declared.access.WeaveFault.TheVariants.{TooMany, NotPlaced, NotObserved, NoRight, TooWide, SameRegister}
use Rattle.rl_weave_log.specs.declared.refusal.WovenRefusal.{WovenRefusal}
use Rattle.rl_weave_log.specs.declared.refusal.WovenRefusal.TheVariants.{Line, NotWoven, Access}

abbrev pub further_reason : WeaveFault → List ℕ
further_reason TooMany = codes "too many in group"
further_reason NotPlaced = codes "not placed"
further_reason NotObserved = codes "not observed"
further_reason NoRight = codes "no right"
further_reason TooWide = codes "too wide"
further_reason (SameRegister other) = codes "same register"

-- a line is refused as in any script, or for a further reason
abbrev pub refused_woven_text : ℕ → WovenRefusal → List ℕ
refused_woven_text number (Line why) = refused_text number why
refused_woven_text number NotWoven = refused_so_text number (codes "not woven")
refused_woven_text number (Access fault) = refused_so_text number (further_reason fault)
