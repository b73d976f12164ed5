-- What a run asks of the device is what its events say.
use Rattle.std.proofs.Common.{◌≡◌, ℕ, Bool, true, false, if◌then◌else◌, List, [], ◌∷◌, ◌++◌, Option, None, Some, Ok, Err, MatchResult, refl, sym, ap, ◌∙◌, subst, append_assoc}
use Rattle.std.specs.Bool.{MatchBool}
use Rattle.rl_bus.specs.Account.{Account, Request, AsksAll}
use Rattle.rl_bus.proofs.Asking.{asks_append}
use Rattle.rl_model.specs.declared.rows.Field.{Field}
use Rattle.rl_model.specs.Fields.{field_of}
use Rattle.rl_mirror.specs.Prediction.{needs_update}
use Rattle.rl_access.specs.declared.event.End.{End}
use Rattle.rl_access.specs.declared.event.End.TheVariants as end
use Rattle.rl_access.specs.declared.event.Event.{Event}
use Rattle.rl_access.specs.declared.event.Op.{Op}
use Rattle.rl_access.specs.declared.event.Op.TheVariants as op
use Rattle.rl_access.specs.declared.event.Refused.{Refused}
use Rattle.rl_access.specs.declared.trace.TraceItem.{TraceItem}
use Rattle.rl_access.specs.Asking.{asked_in, AreAsked, IsAskedBy}
use Rattle.rl_access.specs.Call.{Scene, IsDone, IsRefused, Performs}
use Rattle.rl_access.specs.HandsOver.{Told}
use Rattle.rl_access.specs.Items.{failed_at}
use Rattle.rl_access.specs.Model.{ModelData}
use Rattle.rl_access.specs.Operation.{ends_refused, register_of}
use Rattle.rl_access.specs.Rules.{Grant, Outcome, asks_of, deposited, end_in_field, event_at, grant, named, or_error, outcome, quiet}
use Rattle.rl_access.specs.Runs.{IsOneStep, RunsThrough, RunsInto}
use Rattle.rl_access.specs.Tally.{is_bus_error}

-- ---- one operation

-- the name of an operation asks for what it does
named_asks : (m : ModelData) (o : Op) (deposit : ℕ) (items : List TraceItem) → asks_of (named m o) deposit items ≡ asks_of o deposit items
named_asks m (op.Write reg map value) deposit items = refl
named_asks m (op.Read reg map) deposit items = refl
named_asks m (op.Mirror reg map) deposit items = refl
named_asks m (op.Check reg map) deposit items = refl
named_asks m (op.FieldWrite field map value) deposit items = refl
named_asks m (op.FieldRead field map) deposit items = refl
named_asks m (op.Set field value) deposit items = refl
named_asks m (op.Show reg) deposit items = refl
named_asks m (op.Update reg map) deposit items = refl
named_asks m (op.BackWrite reg value) deposit items = refl
named_asks m (op.BackRead reg) deposit items = refl
named_asks m (op.BackCheck reg) deposit items = refl
named_asks m (op.Peek reg) deposit items = refl
named_asks m (op.Poke reg value) deposit items = refl
named_asks m (op.MemWrite mem map index value) deposit items = refl
named_asks m (op.MemRead mem map index) deposit items = refl
named_asks m (op.MemCheck mem map index value) deposit items = refl
named_asks m (op.BurstWrite mem map first count) deposit items = refl
named_asks m (op.BurstRead mem map first count) deposit items = refl
named_asks m (op.MemPeek mem index) deposit items = refl
named_asks m (op.MemPoke mem index value) deposit items = refl
named_asks m (op.OtherWrite reg map value) deposit items = refl
named_asks m (op.OtherRead reg map) deposit items = refl
named_asks m (op.Hw field value) deposit items = refl
named_asks m (op.Reset kind) deposit items = refl

-- an item that failed is no refusal
error_is_none : (f : Option ℕ) (m : ModelData) (o : Outcome) → ends_refused o.end ≡ false → ends_refused (or_error f m o).end ≡ false
error_is_none None m o is = is
error_is_none (Some k) m o is = refl

field_is_none : (f : Field) (e : End) → ends_refused e ≡ false → ends_refused (end_in_field f e) ≡ false
field_is_none f end.Done is = refl
field_is_none f (end.Value value) is = refl
field_is_none f (end.Sent word) is = refl
field_is_none f end.Nothing is = refl
field_is_none f (end.BusError word) is = refl
field_is_none f (end.Refused why) is = is

-- an operation that is granted doesn't end refused
done_is_none : (m : ModelData) (o : Op) (place sampled : ℕ) (items : List TraceItem) → ends_refused (outcome m o place sampled items).end ≡ false
done_is_none m (op.Write reg map value) place sampled items = error_is_none (failed_at items) _ _ refl
done_is_none m (op.Read reg map) place sampled items = error_is_none (failed_at items) _ _ refl
done_is_none m (op.Mirror reg map) place sampled items = error_is_none (failed_at items) _ _ refl
done_is_none m (op.Check reg map) place sampled items = error_is_none (failed_at items) _ _ refl
done_is_none m (op.FieldWrite field map value) place sampled items = error_is_none (failed_at items) _ _ refl
done_is_none m (op.FieldRead field map) place sampled items = field_is_none (field_of m.chip field).shape _ (error_is_none (failed_at items) _ _ refl)
done_is_none m (op.Set field value) place sampled items = refl
done_is_none m (op.Show reg) place sampled items = refl
done_is_none m (op.Update reg map) place sampled items = by (needs_update m.mirror reg) _ _ (error_is_none (failed_at items) _ _ refl) refl
  where
    by : (b : Bool) (x y : Outcome) → ends_refused x.end ≡ false → ends_refused y.end ≡ false → ends_refused (if b then x else y).end ≡ false
    by true x y one two = one
    by false x y one two = two
done_is_none m (op.BackWrite reg value) place sampled items = refl
done_is_none m (op.BackRead reg) place sampled items = refl
done_is_none m (op.BackCheck reg) place sampled items = refl
done_is_none m (op.Peek reg) place sampled items = refl
done_is_none m (op.Poke reg value) place sampled items = refl
done_is_none m (op.MemWrite mem map index value) place sampled items = error_is_none (failed_at items) _ _ refl
done_is_none m (op.MemRead mem map index) place sampled items = error_is_none (failed_at items) _ _ refl
done_is_none m (op.MemCheck mem map index value) place sampled items = error_is_none (failed_at items) _ _ refl
done_is_none m (op.BurstWrite mem map first count) place sampled items = refl
done_is_none m (op.BurstRead mem map first count) place sampled items = refl
done_is_none m (op.MemPeek mem index) place sampled items = refl
done_is_none m (op.MemPoke mem index value) place sampled items = refl
done_is_none m (op.OtherWrite reg map value) place sampled items = error_is_none (failed_at items) _ _ refl
done_is_none m (op.OtherRead reg map) place sampled items = error_is_none (failed_at items) _ _ refl
done_is_none m (op.Hw field value) place sampled items = refl
done_is_none m (op.Reset kind) place sampled items = refl

-- an event has the name, the items and the end that it is made of
asked_at : (r : Option ℕ) (o : Op) (items : List TraceItem) (out : Outcome) (deposit : ℕ)
    → asked_in (event_at r o items out) deposit ≡ (if ends_refused out.end then [] else asks_of o deposit items)
asked_at None o items out deposit = refl
asked_at (Some reg) o items out deposit = refl

record IsAsked (before : Account) (e : Event) (after : Account) : Type 0 where
  deposit : ℕ
  asks : AsksAll before (asked_in e deposit) after

asked_done : (s new : Scene) (o : Op) (place : ℕ) (e : Event) → IsDone s new o place e → IsAsked s.account e new.account
asked_done s new o place e h =
    let out = outcome s.model o place h.sampled e.trace in
    let bits = deposited s.model o h.sampled in
    let is : asked_in e bits ≡ asks_of o bits e.trace =
    ap (λ x. asked_in x bits) h.event_is
    ∙ asked_at (register_of s.model.chip (named s.model o)) (named s.model o) e.trace out bits
    ∙ ap (λ b. if b then [] else asks_of (named s.model o) bits e.trace) (done_is_none s.model o place h.sampled e.trace)
    ∙ named_asks s.model o bits e.trace in
    record { deposit = bits; asks = subst (λ xs. AsksAll s.account xs new.account) (sym is) h.asked }

asked_refused : (s new : Scene) (o : Op) (why : Refused) (e : Event) → IsRefused s new o why e → IsAsked s.account e new.account
asked_refused s new o why e h =
    let is : asked_in e 0 ≡ [] =
    ap (λ x. asked_in x 0) h.event_is ∙ asked_at (register_of s.model.chip (named s.model o)) (named s.model o) [] (quiet (end.Refused why) s.model) 0 in
    record { deposit = 0; asks = subst (λ xs. AsksAll s.account xs new.account) (sym is) (ap (λ (x : Scene). x.account) h.unchanged) }

asked_by_grant : (s new : Scene) (o : Op) (e : Event) (g : Grant) → MatchResult g (λ place. IsDone s new o place e) (λ why. IsRefused s new o why e) → IsAsked s.account e new.account
asked_by_grant s new o e (Ok place) h = asked_done s new o place e h
asked_by_grant s new o e (Err why) h = asked_refused s new o why e h

asked_performed : (s new : Scene) (o : Op) (e : Event) → Performs s new o e → IsAsked s.account e new.account
asked_performed s new o e p = asked_by_grant s new o e (grant s.model o) p

-- ---- several

-- nothing was asked
pub asked_none : (account after : Account) → after ≡ account → IsAskedBy account [] after
asked_none account after is = record { asked = []; said = refl; asks = is }

-- an event before others
asked_first : (before mid after : Account) (t : Told) (told : List Told) → IsAsked before t.event mid → IsAskedBy mid told after → IsAskedBy before (t ∷ told) after
asked_first before mid after t told one rest = record {
  asked = asked_in t.event one.deposit ++ rest.asked;
  said = (one.deposit, rest.asked, refl, rest.said);
  asks = asks_append before mid after (asked_in t.event one.deposit) rest.asked one.asks rest.asks;
}

-- one operation before others
pub asked_step : (s mid : Scene) (after : Account) (o : Op) (t : Told) (told : List Told) → IsOneStep s mid o t → IsAskedBy mid.account told after → IsAskedBy s.account (t ∷ told) after
asked_step s mid after o t told one rest = asked_first s.account mid.account after t told (asked_performed s mid o t.event one.performs) rest

-- one operation
pub asked_last : (s new : Scene) (o : Op) (t : Told) → IsOneStep s new o t → IsAskedBy s.account (t ∷ []) new.account
asked_last s new o t one = asked_step s new new.account o t [] one (asked_none new.account new.account refl)

-- a refused one
pub asked_of_refused : (s new : Scene) (o : Op) (why : Refused) (t : Told) → IsRefused s new o why t.event → IsAskedBy s.account (t ∷ []) new.account
asked_of_refused s new o why t h = asked_first s.account new.account new.account t [] (asked_refused s new o why t.event h) (asked_none new.account new.account refl)

-- events, and then more
pub asked_behind : (before mid after : Account) (told more : List Told) → IsAskedBy before told mid → IsAskedBy mid more after → IsAskedBy before (told ++ more) after
asked_behind before mid after told more first rest = record {
  asked = first.asked ++ rest.asked;
  said = both told first.asked first.said;
  asks = asks_append before mid after first.asked rest.asked first.asks rest.asks;
}
  where
    both : (told : List Told) (xs : List Request) → AreAsked told xs → AreAsked (told ++ more) (xs ++ rest.asked)
    both [] xs is = subst (λ ys. AreAsked more (ys ++ rest.asked)) (sym is) rest.said
    both (t ∷ told) xs is =
        (is.0, is.1 ++ rest.asked, ap (λ ys. ys ++ rest.asked) is.2 ∙ append_assoc (asked_in t.event is.0) is.1 rest.asked, both told is.1 is.3)

-- ---- operations up to the first that ends by a bus error

-- nothing comes behind one that ended so
ended_or_more : (b : Bool) (mid new : Scene) (told : List Told) (More : Type 0) → MatchBool b ((told ≡ []) × (new ≡ mid)) More
    → (More → IsAskedBy mid.account told new.account) → IsAskedBy mid.account told new.account
ended_or_more true mid new told More e more = subst (λ ts. IsAskedBy mid.account ts new.account) (sym e.0) (asked_none mid.account new.account (ap (λ (x : Scene). x.account) e.1))
ended_or_more false mid new told More r more = more r

through_asked : (ops : List Op) (told : List Told) (s new : Scene) → RunsThrough s ops told new → IsAskedBy s.account told new.account
through_asked [] [] s new h = asked_none s.account new.account (ap (λ (x : Scene). x.account) h)
through_asked [] (t ∷ told) s new h = absurd h
through_asked (o ∷ ops) [] s new h = absurd h
through_asked (o ∷ ops) (t ∷ told) s new h =
    asked_step s h.0 new.account o t told h.1 (ended_or_more (is_bus_error t.event.end) h.0 new told _ h.2 (λ r. through_asked ops told h.0 new r))

pub runs_through_asked : (s new : Scene) (ops : List Op) (told : List Told) → RunsThrough s ops told new → IsAskedBy s.account told new.account
runs_through_asked s new ops told h = through_asked ops told s new h

into_asked : (ops : List Op) (told : List Told) (s new : Scene) → RunsInto s ops told new → IsAskedBy s.account told new.account
into_asked ops [] s new h = absurd h
into_asked [] (t ∷ told) s new h = absurd h
into_asked (o ∷ ops) (t ∷ []) s new h = asked_last s new o t h
into_asked (o ∷ ops) (t ∷ u ∷ told) s new h = asked_step s h.0 new.account o t (u ∷ told) h.1 (into_asked ops (u ∷ told) h.0 new h.3)

pub runs_into_asked : (s new : Scene) (ops : List Op) (told : List Told) → RunsInto s ops told new → IsAskedBy s.account told new.account
runs_into_asked s new ops told h = into_asked ops told s new h
