-- What a write leaves of the model, whether an item failed or not.
use Rattle.std.proofs.Common.{◌≡◌, ℕ, true, List, Option, Some, None, refl, sym, ap, subst}
use Rattle.rl_mirror.specs.Prediction.{predict_write}
use Rattle.rl_access.specs.declared.access.Access.{Access}
use Rattle.rl_access.specs.declared.event.End.{End}
use Rattle.rl_access.specs.declared.event.Event.{Event}
use Rattle.rl_access.specs.declared.event.Op.{Op}
use Rattle.rl_access.specs.declared.trace.TraceItem.{TraceItem}
use Rattle.rl_access.specs.Event.{IsEndWithin, IsTold}
use Rattle.rl_access.specs.Items.{failed_at}
use Rattle.rl_access.specs.Model.{ModelData, IsSameChip}
use Rattle.rl_access.specs.Operation.{has_end, digits_of}
use Rattle.rl_access.specs.Rules.{Outcome, or_error, quiet, register_event, write_outcome}

-- the event of the operation can be told of the model that is left
pub record IsConcluded (m new : ModelData) (op : Op) (reg : ℕ) (e : End) (o : Outcome) : Type 0 where
  pub parts : IsSameChip m new
  pub told : IsTold new op reg
  pub ends : has_end op e ≡ true
  pub within : IsEndWithin (digits_of new.chip op) e
  pub outcome : record { end = e; model = new; differ = 0 } ≡ o

pub write_concluded : (m new : ModelData) (good e : End) (a : Access) (op : Op) (items : List TraceItem) → IsTold m op a.reg → has_end op good ≡ true → IsEndWithin (digits_of m.chip op) good →
    e ≡ (write_outcome m good a items).end → new ≡ (write_outcome m good a items).model → IsConcluded m new op a.reg e (write_outcome m good a items)
write_concluded m new good e a op items told ends within = by (failed_at items)
  where
    done : Outcome
    done = quiet good (record m { mirror = predict_write m.chip a.reg a.value a.fields m.mirror })

    by : (o : Option ℕ) → e ≡ (or_error o m done).end → new ≡ (or_error o m done).model → IsConcluded m new op a.reg e (or_error o m done)
    by None e_is new_is = rw (e_is, new_is) (record { parts = record { chip = refl; layout = refl }; told = told; ends = ends; within = within; outcome = refl })
    by (Some k) e_is new_is = rw (e_is, new_is) (record { parts = record { chip = refl; layout = refl }; told = told; ends = told.errors k; within = tt; outcome = refl })

-- an event tells its own items
pub told_by_trace : (o : List TraceItem → Outcome) (op : Op) (reg : ℕ) (items : List TraceItem) (event : Event) →
    event ≡ register_event op reg items (o items) → event ≡ register_event op reg event.trace (o event.trace)
told_by_trace o op reg items event e = subst (λ (t : List TraceItem). event ≡ register_event op reg t (o t)) (sym (ap (λ (x : Event). x.trace) e)) e
