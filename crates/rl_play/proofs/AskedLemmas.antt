-- What a script asks of the device is what the events of its log say.
use Rattle.std.proofs.Common.{◌≡◌, ◌⊎◌, ◌+◌, ℕ, List, [], ◌∷◌, ◌++◌, Result, Ok, Err, ap, sym, subst, inl, inr}
use Rattle.rl_access.specs.Asking.{IsAskedBy}
use Rattle.rl_access.specs.Call.{Scene}
use Rattle.rl_access.specs.HandsOver.{Told}
use Rattle.rl_access.specs.declared.event.Op.{Op}
use Rattle.rl_access.specs.declared.event.Refused.{Refused}
use Rattle.rl_access.proofs.AskedLemmas.{asked_none, asked_of_refused, asked_behind, runs_through_asked, runs_into_asked}
use Rattle.rl_log.specs.declared.refusal.LineRefusal.{LineRefusal}
use Rattle.rl_seq.proofs.AskedLemmas.{plan_asked, broken_plan_asked}
use Rattle.rl_play.specs.AnyDevice.{Close, at_end, refused, broken, unwritten, cut, ClosesAt, ClosesBehind, DoneLine, Happens, told_at, told_by}
use Rattle.rl_play.specs.Work.{Work, planned, sequence, burst, Does, BreaksOff, IsRefusedAlone}

stays : (s new : Scene) → new ≡ s → IsAskedBy s.account [] new.account
stays s new is = asked_none s.account new.account (ap (λ (x : Scene). x.account) is)

alone : (s new : Scene) (o : Op) (why : Refused) (told : List Told) → IsRefusedAlone s new o why told → IsAskedBy s.account told new.account
alone s new o why told h =
    subst (λ ts. IsAskedBy s.account ts new.account) (sym h.told_is) (asked_of_refused s new o why (record { model = s.model; event = h.event }) h.refused)

-- ---- a line

done_asked : (w : Work) (s new : Scene) (told : List Told) → Does w s told new → IsAskedBy s.account told new.account
done_asked (planned p) s new told h = plan_asked p s new told h
done_asked (sequence which over p) s new told h = plan_asked p s new told h
done_asked (burst (Ok place) o ops) s new told h = runs_through_asked s new ops told h
done_asked (burst (Err why) o ops) s new told h = alone s new o why told h

broken_asked : (w : Work) (s new : Scene) (told : List Told) → BreaksOff w s told new → IsAskedBy s.account told new.account
broken_asked (planned p) s new told h = broken_plan_asked p s new told h
broken_asked (sequence which over p) s new told h = broken_plan_asked p s new told h
broken_asked (burst (Ok place) o ops) s new told h = runs_into_asked s new ops told h
broken_asked (burst (Err why) o ops) s new told h = alone s new o why told h

-- ---- the end of a script

closed_asked : (number : ℕ) (given : Result Work LineRefusal) (s : Scene) (close : Close) (new : Scene) → ClosesAt number given s close new → IsAskedBy s.account (told_at close) new.account
closed_asked number given s at_end new h = absurd h
closed_asked number given s (refused n why) new h = stays s new h.2
closed_asked number given s (broken work told) new h = by h.1
  where
    by : ((told ≡ []) × (new ≡ s)) ⊎ BreaksOff work s told new → IsAskedBy s.account told new.account
    by (inl none) = subst (λ ts. IsAskedBy s.account ts new.account) (sym none.0) (stays s new none.1)
    by (inr some) = broken_asked work s new told some
closed_asked number given s (unwritten work told) new h = done_asked work s new told h.1
closed_asked number given s cut new h = stays s new h

closed_behind_asked : (s : Scene) (close : Close) (new : Scene) → ClosesBehind s close new → IsAskedBy s.account (told_at close) new.account
closed_behind_asked s at_end new h = stays s new h
closed_behind_asked s (refused n why) new h = absurd h
closed_behind_asked s (broken work told) new h = absurd h
closed_behind_asked s (unwritten work told) new h = absurd h
closed_behind_asked s cut new h = stays s new h

-- ---- a script

script_asked : (lines : List (List ℕ)) (done : List DoneLine) (number : ℕ) (s : Scene) (close : Close) (new : Scene) → Happens number s lines done close new → IsAskedBy s.account (told_by done close) new.account
script_asked [] [] number s close new h = closed_behind_asked s close new h
script_asked [] (d ∷ done) number s close new h = absurd h
script_asked (line ∷ lines) [] number s close new h = closed_asked number _ s close new h
script_asked (line ∷ lines) (d ∷ done) number s close new h =
    asked_behind s.account d.scene.account new.account d.told (told_by done close) (done_asked d.work s d.scene d.told h.1)
    (script_asked lines done (number + 1) d.scene close new h.2)

pub lines_asked : (number : ℕ) (s : Scene) (lines : List (List ℕ)) (done : List DoneLine) (close : Close) (new : Scene) → Happens number s lines done close new
    → IsAskedBy s.account (told_by done close) new.account
lines_asked number s lines done close new h = script_asked lines done number s close new h
