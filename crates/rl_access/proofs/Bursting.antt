-- A burst that is under way.
use Rattle.std.proofs.Common.{◌≡◌, ◌≤◌, false, true, List, [], ◌∷◌, Result, Ok, ◌∙◌, refl, arith}
use Rattle.std.specs.Result.{IsErr}
use Rattle.rl_bus.specs.Standing.{Standing}
use Rattle.rl_bus.specs.declared.device.Device.{Ghosts as Device}
use Rattle.rl_access.specs.declared.event.Event.{Event}
use Rattle.rl_access.specs.declared.event.Op.{Op}
use Rattle.rl_access.specs.declared.event.Tally.{Tally}
use Rattle.rl_access.specs.declared.recorder.Recorder.{Ghosts as Recorder}
use Rattle.rl_access.specs.Call.{Scene, scene_of, Does}
use Rattle.rl_access.specs.Model.{ModelData, IsReady}
use Rattle.rl_access.specs.Runs.{IsRun, no_tally}
use Rattle.rl_access.specs.Tally.{is_bus_error, counted}
use Rattle.rl_access.proofs.Running.{IsRunning, running_first, running_next, run_ended, run_stopped, run_broke}

-- the model is as it was, the next call may follow, and the recorder has failed no less often
pub record IsGoing {R : Type 0} (r : Recorder R) (s now : Scene) (old rec : R) : Type 0 where
  pub same : now.model ≡ s.model
  pub ready : IsReady now.model now.adapters now.device
  pub later : r.faults old ≤ r.faults rec
  pub stays : r.steady rec ≡ r.steady old

-- and these operations are left of the burst
pub record IsBursting {R : Type 0} (r : Recorder R) (s now : Scene) (old rec : R) (ops left : List Op) (tally : Tally) : Type 0 where
  pub going : IsGoing r s now old rec
  pub running : IsRunning r.takes r.breaks old rec s now ops left tally

-- with the adapters in boxes
abbrev pub IsBurstingBy : {A D R : Type 0} → (A → Standing) → Device D → Recorder R → (first now : ModelData) → (before after : List A) → (d e : D) → (old rec : R) →
    (ops left : List Op) → Tally → Type 0
IsBurstingBy f device r first now before after d e old rec ops left tally =
    IsBursting r (scene_of f device.account device.state first before d) (scene_of f device.account device.state now after e) old rec ops left tally

module _ {R : Type 0} (r : Recorder R) where
  pub bursting_first : (rec : R) (s : Scene) (ops left : List Op) (tally : Tally) → IsReady s.model s.adapters s.device → left ≡ ops → tally ≡ no_tally → IsBursting r s s rec rec ops left tally
  bursting_first rec s ops left tally ready all none = record {
    going = record { same = refl; ready = ready; later = omega arith; stays = refl };
    running = running_first r.takes r.breaks rec s ops left tally all none;
  }

  -- one more was done and taken
  pub bursting_next : {old rec next : R} {s now mid : Scene} {ops pending left : List Op} {op : Op} {tally more : Tally} {event : Event} →
      IsBursting r s now old rec ops pending tally → pending ≡ op ∷ left → mid.model ≡ now.model → Does now mid op event → is_bus_error event.end ≡ false →
      r.takes rec mid.model event next → more ≡ counted tally event → r.faults rec ≤ r.faults next → r.steady next ≡ r.steady rec → IsBursting r s mid old next ops left more
  bursting_next {old} {rec} {next} {s} {now} {mid} {ops} {pending} {left} {op} {tally} {more} {event} b head same done quiet took is_more later stays = record {
    going = record { same = same ∙ b.going.same; ready = done.ready; later = omega (arith, b.going.later, later); stays = stays ∙ b.going.stays };
    running = running_next r.takes r.breaks old rec next s now mid ops pending left op tally (record { model = mid.model; event = event }) b.running head
        (record { performs = done.performs; model = refl }) quiet took more is_more;
  }

  -- all were done
  pub bursting_ended : {E : Type 0} {old rec : R} {s now : Scene} {ops left : List Op} {tally : Tally} → IsBursting r s now old rec ops left tally → left ≡ [] →
      IsRun {E = E} r.takes r.breaks old rec s now ops (Ok tally)
  bursting_ended {E} {old} {rec} {s} {now} {ops} {left} {tally} b none = run_ended r.takes r.breaks {E = E} old rec s now ops left tally b.running none

  -- the last one ended by a bus error
  pub bursting_stopped : {E : Type 0} {old rec next : R} {s now mid : Scene} {ops pending left : List Op} {op : Op} {tally more : Tally} {event : Event} →
      IsBursting r s now old rec ops pending tally → pending ≡ op ∷ left → Does now mid op event → is_bus_error event.end ≡ true →
      r.takes rec mid.model event next → more ≡ counted tally event → IsRun {E = E} r.takes r.breaks old next s mid ops (Ok more)
  bursting_stopped {E} {old} {rec} {next} {s} {now} {mid} {ops} {pending} {left} {op} {tally} {more} {event} b head done error took is_more =
      run_stopped r.takes r.breaks {E = E} old rec next s now mid ops pending left op tally (record { model = mid.model; event = event }) b.running head
      (record { performs = done.performs; model = refl }) error took more is_more

  -- the recorder failed at the last one
  pub bursting_broke : {E : Type 0} {old rec next : R} {s now mid : Scene} {ops pending left : List Op} {op : Op} {tally : Tally} {event : Event} (result : Result Tally E) → IsErr result →
      IsBursting r s now old rec ops pending tally → pending ≡ op ∷ left → Does now mid op event → r.breaks rec mid.model event next → IsRun r.takes r.breaks old next s mid ops result
  bursting_broke {E} {old} {rec} {next} {s} {now} {mid} {ops} {pending} {left} {op} {tally} {event} result failed b head done broke =
      run_broke r.takes r.breaks result old rec next s now mid ops pending left op tally (record { model = mid.model; event = event }) failed b.running head
      (record { performs = done.performs; model = refl }) broke
