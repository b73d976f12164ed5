-- What was told of a session, against what is judged of it.
use Rattle.std.proofs.Common.{◌≡◌, ℕ, List, Option, Some, None, IfSome, ap, subst, ◌∙◌}
use Rattle.rl_bus.specs.Standing.{Standing}
use Rattle.rl_bus.specs.State.{State}
use Rattle.rl_access.specs.Call.{Scene}
use Rattle.rl_access.specs.Model.{ModelData}
use Rattle.rl_log.specs.declared.counts.Counts.{Counts}
use Rattle.rl_log.specs.declared.status.Status.{Status}
use Rattle.rl_log.specs.Endings.{added}
use Rattle.rl_log.specs.Log.{Ending}
use Rattle.rl_log.specs.Recording.{no_counts}
use Rattle.rl_play.specs.AnyDevice.{Point, PlaysOnAnyDevice, moment_at}
use Rattle.rl_play.specs.Done.{DoesFirstEvents}
use Rattle.rl_play.specs.Played.{EndsAs, IsWrittenOut, PlaysScript, PlaysThrough, to_come}
use Rattle.rl_play.proofs.AnyLemmas.{plays_all}
use Rattle.rl_play.proofs.DoneLemmas.{does_first}

abbrev point : Scene → Option (List ℕ) → Counts → Point
point s text counts = record { scene = s; text = text; counts = counts }

-- a log that keeps nothing back begins with what its sink has
pub from_sink : {K : Type 0} (written : K → Option (List ℕ)) (s : Scene) (counts : Counts) (first sink : K)
    (input next left : Option (List ℕ)) (after : Point) (status : Status) → first ≡ sink
    → PlaysThrough (point s (written first) counts) input next left after status
    → PlaysThrough (point s (written sink) counts) input next left after status
from_sink written s counts first sink input next left after status same p =
    subst (λ k. PlaysThrough (point s (written k) counts) input next left after status) same p

played_written : (o : Option Ending) (status : Status) (old new : Option (List ℕ)) (before counts now : Counts)
    (m : ModelData) (a : List Standing) (st : Option State) → now ≡ added before counts
    → IfSome o (λ e. EndsAs e status old new counts m a st) → IfSome o
    (λ e. IsWrittenOut e status old new before now m a st)
played_written None status old new before counts now m a st risen h = tt
played_written (Some e) status old new before counts now m a st risen h = record {
  tells = record { whole = λ c. let o = h.whole c in (o.status_is, o.text); part = h.part };
  counted = λ c. risen ∙ ap (added before) (h.whole c).counts_are;
  after = λ c. (h.whole c).after;
}

-- a whole script that was counted from nothing, once its counts were added to those before
module _ (s n : Scene) (old new : Option (List ℕ)) (own counts total now : Counts) (input next left : Option (List ℕ)) (status : Status)
    (fresh : own ≡ no_counts) (risen : now ≡ added counts total)
    (p : PlaysThrough (point s old own) input next left (point n new total) status) where
  whole : PlaysThrough (point s old no_counts) input next left (point n new total) status
  whole = subst (λ own. PlaysThrough (point s old own) input next left (point n new total) status) fresh p

  pub script_written : PlaysScript (moment_at (point s old counts)) input (moment_at (point n new now)) status
  script_written =
      played_written (to_come 1 (moment_at (point s old no_counts)) input) status old new counts total now
      n.model n.adapters n.device risen whole.log

  pub script_played : PlaysOnAnyDevice (point s old counts) input left (point n new now) status
  script_played = plays_all s n old new counts total now risen input left status whole.on_any_device whole.taken

  pub script_done : DoesFirstEvents (moment_at (point s old counts)) input (moment_at (point n new now))
  script_done = does_first s.model n.model s.adapters n.adapters s.device n.device input counts total now risen whole.done
