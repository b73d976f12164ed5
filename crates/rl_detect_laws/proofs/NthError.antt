-- The item that fails by its number ends its operation by a bus error, whatever the operation is.
use Rattle.std.proofs.Common.{◌≡◌, ◌⊎◌, ℕ, ◌+◌, ◌-◌, ◌^◌, ◌<◌, ◌≤◌, min, Bool, true, false, if◌then◌else◌, List, [], ◌∷◌, ◌++◌, length, Option, None, Some, option_map, Ok, Err, MatchResult}
use Rattle.std.proofs.Common.{refl, sym, ap, ◌∙◌, subst, inl, inr, arith}
use Rattle.std.proofs.lemmas.Bool.{cases_eq}
use Rattle.rl_bus.specs.declared.op.BusOp.{BusOp}
use Rattle.rl_bus.specs.declared.table.WordRow.{WordRow}
use Rattle.rl_bus.specs.Setup.{Setup, is_named}
use Rattle.rl_bus.specs.Standing.{Standing, standing_at}
use Rattle.rl_bus.specs.State.{State, counted, is_faulty, word_at, after_touch, answer_of, state_after, poked, hw_set, reset_by}
use Rattle.rl_mirror.specs.Prediction.{needs_update}
use Rattle.rl_access.specs.declared.event.End.TheVariants as end
use Rattle.rl_access.specs.declared.event.Event.{Event}
use Rattle.rl_access.specs.declared.event.Op.{Op}
use Rattle.rl_access.specs.declared.event.Op.TheVariants as op
use Rattle.rl_access.specs.declared.trace.TraceItem.{TraceItem}
use Rattle.rl_access.specs.Call.{Scene, IsDone, IsRefused}
use Rattle.rl_access.specs.HandsOver.{Told}
use Rattle.rl_access.specs.Items.{item_of, took_item, items_of, has_failed, failed_at, state_after_all, port_for, adapter_for}
use Rattle.rl_access.specs.Model.{ModelData}
use Rattle.rl_access.specs.Operation.{register_of}
use Rattle.rl_access.specs.Rules.{Grant, grant, named, sends, Outcome, or_error, in_field, outcome, event_at, quiet, device_after}
use Rattle.rl_access.proofs.Setups.{setup-state_after}
use Rattle.rl_seq.specs.Plan.{Plan, stop, step, look, Runs}
use Rattle.rl_seq.specs.Sequences.{plan_of}
use Rattle.rl_detect_laws.specs.Errors.{EndsAt, FailsAtItem, is_failing, NthErrorIsFound}
use Rattle.rl_detect_laws.proofs.Failing.{or_right, at_fails, error_end, end_is, both_quiet, last_failed, failed_last}
use Rattle.rl_detect_laws.proofs.Standing.{setup_after}
use Rattle.rl_detect_laws.proofs.Twins.{word as same_but}

-- ---- one item

abbrev next_number : ℕ → ℕ
next_number n = min (n + 1) (2 ^ 64 - 1)

is_fault : (d : State) (port : ℕ) (op : BusOp) → is_failing d.setup d.items ≡ true → is_faulty d port op ≡ true
is_fault d port op failing = or_right _ (is_named d.setup port op.address d.items) (or_right _ (is_failing d.setup d.items) failing)

item_fails : (d : State) (port : ℕ) (op : BusOp) (n : ℕ) → is_failing d.setup n ≡ true → next_number d.items ≡ n → (answer_of d port op).failed ≡ true
unfolding answer_of
item_fails d port op n failing at =
    at_fails (counted d) port op (word_at d port op) (is_fault (counted d) port op (subst (λ k. is_failing d.setup k ≡ true) (sym at) failing))

either_items : (b : Bool) (x y : State) (n : ℕ) → x.items ≡ n → y.items ≡ n → (if b then x else y).items ≡ n
either_items true x y n h k = h
either_items false x y n h k = k

touch_items : (d : State) (port : ℕ) (op : BusOp) (w : Option WordRow) → (after_touch d port op w).items ≡ d.items
touch_items d port op None = refl
touch_items d port op (Some w) = either_items (is_faulty d port op) _ _ d.items refl (same_but d op w).items

next_items : (d : State) (port : ℕ) (op : BusOp) → (state_after d port op).items ≡ next_number d.items
unfolding state_after
next_items d port op = touch_items (counted d) port op (word_at d port op)

not_yet : (k n : ℕ) → k < n → (next_number k ≡ n → ⊥) → next_number k < n
not_yet k n low other =
    let least : next_number k ≤ k + 1 = omega arith in
    omega (arith, low, other, least)

-- ---- items one after another

-- a count that hasn't come to the item goes on by one
one_on : (k n : ℕ) → k < n → n ≤ 2 ^ 64 - 1 → next_number k ≡ k + 1
one_on k n low most = omega (arith, low, most)

-- the last of them is the item with this number, and failed
record IsHit (n : ℕ) (items : List TraceItem) (d : State) : Type 0 where
  most : n ≤ 2 ^ 64 - 1
  front : List TraceItem
  item : TraceItem
  all : items ≡ front ++ item ∷ []
  quiet : has_failed front ≡ false
  fails : item.answer.failed ≡ true
  number_is : d.items + length front + 1 ≡ n

-- or it is still to come, and each was counted
record IsToCome (n : ℕ) (items : List TraceItem) (d : State) : Type 0 where
  low : (state_after_all d items).items < n
  exact : n ≤ 2 ^ 64 - 1 → (state_after_all d items).items ≡ d.items + length items

abbrev HitsOrWaits : ℕ → List TraceItem → State → Type 0
HitsOrWaits n items d = IsHit n items d ⊎ IsToCome n items d

one_more : (d : State) (n : ℕ) (first : TraceItem) (more : List TraceItem) → first.answer.failed ≡ false → d.items < n
    → (state_after d first.port first.op).items ≡ next_number d.items → HitsOrWaits n more (state_after d first.port first.op)
    → HitsOrWaits n (first ∷ more) d
one_more d n first more fine low next (inl hit) =
    inl (record {
      most = hit.most;
      front = first ∷ hit.front;
      item = hit.item;
      all = ap (λ (xs : List TraceItem). first ∷ xs) hit.all;
      quiet = both_quiet first.answer.failed (has_failed hit.front) fine hit.quiet;
      fails = hit.fails;
      number_is = omega (arith, hit.number_is, next, one_on d.items n low hit.most);
    })
one_more d n first more fine low next (inr wait) =
    inr (record { low = wait.low; exact = λ most. omega (arith, wait.exact most, next, one_on d.items n low most) })

-- an item that isn't the one, behind which the others are sent unless it fails
not_it : (d : State) (n : ℕ) (first : TraceItem) (more : List TraceItem) (b : Bool) → first.answer.failed ≡ b → d.items < n
    → (state_after d first.port first.op).items ≡ next_number d.items → next_number d.items < n
    → HitsOrWaits n more (state_after d first.port first.op) → HitsOrWaits n (first ∷ (if b then [] else more)) d
not_it d n first more true so low next still rest =
    inr (record { low = subst (λ k. k < n) (sym next) still; exact = λ most. next ∙ one_on d.items n low most })
not_it d n first more false so low next still rest = one_more d n first more so low next rest

-- the item that is it fails, and is the last one
it_is : (d : State) (n : ℕ) (first : TraceItem) (more : List TraceItem) → d.items < n → next_number d.items ≡ n → first.answer.failed ≡ true
    → HitsOrWaits n (first ∷ (if first.answer.failed then [] else more)) d
it_is d n first more low at failed =
    let most : n ≤ 2 ^ 64 - 1 = omega (arith, at) in
    let on : next_number d.items ≡ d.items + 1 = one_on d.items n low most in
    inl (record {
      most = most;
      front = [];
      item = first;
      all = ap (λ b. first ∷ (if b then [] else more)) failed;
      quiet = refl;
      fails = failed;
      number_is = omega (arith, at, on);
    })

by_number : (d : State) (n : ℕ) (first : TraceItem) (more : List TraceItem) → d.items < n
    → (state_after d first.port first.op).items ≡ next_number d.items → (next_number d.items ≡ n → first.answer.failed ≡ true)
    → ((next_number d.items ≡ n → ⊥) → HitsOrWaits n more (state_after d first.port first.op))
    → (next_number d.items ≡ n) ⊎ (next_number d.items ≡ n → ⊥) → HitsOrWaits n (first ∷ (if first.answer.failed then [] else more)) d
by_number d n first more low next fails further (inl at) = it_is d n first more low at (fails at)
by_number d n first more low next fails further (inr other) =
    not_it d n first more first.answer.failed refl low next (not_yet d.items n low other) (further other)

hits_or_waits : (a : Standing) (t : Setup) (d : State) (port n : ℕ) (ops : List BusOp) → d.setup ≡ t → is_failing t n ≡ true → d.items < n
    → HitsOrWaits n (items_of a d port ops) d
hits_or_waits a t d port n [] setup failing low = inr (record { low = low; exact = λ most. omega arith })
hits_or_waits a t d port n (op ∷ ops) setup failing low =
    let first = item_of a port op (answer_of d port op) in
    let next = state_after d port op in
    by_number d n first (items_of (took_item a first) next port ops) low (next_items d port op)
    (item_fails d port op n (subst (λ (u : Setup). is_failing u n ≡ true) (sym setup) failing))
    (λ other. hits_or_waits (took_item a first) t next port n ops (setup-state_after d port op ∙ setup) failing
    (subst (λ k. k < n) (sym (next_items d port op)) (not_yet d.items n low other)))
    (cases_eq (next_number d.items) n)

-- ---- an operation

-- where an item failed, whatever was sent
in_field_error : (m : ModelData) (field : ℕ) (o : Option ℕ) (e : ModelData) (good : Outcome) (k : ℕ) → o ≡ Some k
    → (in_field m.chip field (or_error o e good)).end ≡ end.BusError k
in_field_error m field None e good k is = absurd (cc)
in_field_error m field (Some j) e good k is = let same : j ≡ k = cc in ap end.BusError same

needed : (b : Bool) (ops : List BusOp) (x y : Outcome) (k : ℕ) → ((if b then ops else []) ≡ [] → ⊥) → x.end ≡ end.BusError k
    → (if b then x else y).end ≡ end.BusError k
needed true ops x y k some h = h
needed false ops x y k some h = absurd (some refl)

failed_ends : (m : ModelData) (o : Op) (place sampled : ℕ) (items : List TraceItem) (k : ℕ) → (sends m o place ≡ [] → ⊥) → failed_at items ≡ Some k
    → (outcome m o place sampled items).end ≡ end.BusError k
failed_ends m (op.Write reg map value) place sampled items k sent at = error_end (failed_at items) _ _ k at
failed_ends m (op.Read reg map) place sampled items k sent at = error_end (failed_at items) _ _ k at
failed_ends m (op.Mirror reg map) place sampled items k sent at = error_end (failed_at items) _ _ k at
failed_ends m (op.Check reg map) place sampled items k sent at = error_end (failed_at items) _ _ k at
failed_ends m (op.FieldWrite field map value) place sampled items k sent at = error_end (failed_at items) _ _ k at
failed_ends m (op.FieldRead field map) place sampled items k sent at = in_field_error m field (failed_at items) _ _ k at
failed_ends m (op.Update reg map) place sampled items k sent at = needed (needs_update m.mirror reg) _ _ _ k sent (error_end (failed_at items) _ _ k at)
failed_ends m (op.MemWrite mem map index value) place sampled items k sent at = error_end (failed_at items) _ _ k at
failed_ends m (op.MemRead mem map index) place sampled items k sent at = error_end (failed_at items) _ _ k at
failed_ends m (op.MemCheck mem map index value) place sampled items k sent at = error_end (failed_at items) _ _ k at
failed_ends m (op.OtherWrite reg map value) place sampled items k sent at = error_end (failed_at items) _ _ k at
failed_ends m (op.OtherRead reg map) place sampled items k sent at = error_end (failed_at items) _ _ k at
failed_ends m _ place sampled items k sent at = absurd (sent refl)

-- the device took the items, or none was sent
took : (m : ModelData) (o : Op) (place sampled : ℕ) (items : List TraceItem) (d : State)
    → (((device_after m o sampled items d).items ≡ d.items) × (sends m o place ≡ [])) ⊎ ((device_after m o sampled items d).items ≡ (state_after_all d items).items)
unfolding poked hw_set reset_by
took m (op.BackWrite reg value) place sampled items d = inl (refl, refl)
took m (op.BackRead reg) place sampled items d = inl (refl, refl)
took m (op.BackCheck reg) place sampled items d = inl (refl, refl)
took m (op.Poke reg value) place sampled items d = inl (refl, refl)
took m (op.MemPoke mem index value) place sampled items d = inl (refl, refl)
took m (op.Hw field value) place sampled items d = inl (refl, refl)
took m (op.Reset kind) place sampled items d = inl (refl, refl)
took m _ place sampled items d = inr refl

-- a device that tells its state didn't take the item yet, and counted so many
record IsBefore (t : Setup) (n count : ℕ) (s : Scene) : Type 0 where
  device : State
  told : s.device ≡ Some device
  setup : device.setup ≡ t
  waits : device.items < n
  exact : n ≤ 2 ^ 64 - 1 → device.items ≡ count

-- the event ended at it
record IsIts (n count : ℕ) (e : Event) : Type 0 where
  front : List TraceItem
  item : TraceItem
  at : EndsAt e front item
  number_is : count + length front + 1 ≡ n

abbrev Steps : Setup → (n count : ℕ) → Event → Scene → Type 0
Steps t n count e new = IsIts n count e ⊎ IsBefore t n (count + length e.trace) new

done_steps : (t : Setup) (n count : ℕ) (s new : Scene) (o : Op) (place : ℕ) (e : Event) → is_failing t n ≡ true → IsBefore t n count s → IsDone s new o place e
    → Steps t n count e new
done_steps t n count s new o place e failing h done = by (hits_or_waits adapter t h.device port n ops h.setup failing h.waits)
  where
    adapter : Standing
    adapter = standing_at s.adapters (adapter_for s.model.layout place)

    port : ℕ
    port = port_for s.model.layout place

    ops : List BusOp
    ops = sends s.model o place

    trace : e.trace ≡ items_of adapter h.device port ops
    trace = done.answers h.device h.told

    after : State
    after = device_after s.model o done.sampled e.trace h.device

    waiting : IsToCome n (items_of adapter h.device port ops) h.device
        → (((after.items ≡ h.device.items) × (ops ≡ [])) ⊎ (after.items ≡ (state_after_all h.device e.trace).items))
        → (after.items < n) × (n ≤ 2 ^ 64 - 1 → after.items ≡ count + length e.trace)
    waiting wait (inl none) =
        let empty : length e.trace ≡ 0 = ap length trace ∙ ap (λ (xs : List BusOp). length (items_of adapter h.device port xs)) none.1 in
        (subst (λ k. k < n) (sym none.0) h.waits, λ most. omega (arith, none.0, h.exact most, empty))
    waiting wait (inr same) =
        let there : after.items ≡ (state_after_all h.device (items_of adapter h.device port ops)).items =
        same ∙ ap (λ items. (state_after_all h.device items).items) trace in
        let long : length e.trace ≡ length (items_of adapter h.device port ops) = ap length trace in
        (subst (λ k. k < n) (sym there) wait.low, λ most. omega (arith, there, wait.exact most, h.exact most, long))

    by : HitsOrWaits n (items_of adapter h.device port ops) h.device → Steps t n count e new
    by (inl hit) =
        let is : e.trace ≡ hit.front ++ hit.item ∷ [] = trace ∙ hit.all in
        let failed : has_failed e.trace ≡ true = ap has_failed is ∙ last_failed hit.front hit.item hit.fails in
        let at : failed_at e.trace ≡ Some (length hit.front) = ap failed_at is ∙ failed_last hit.front hit.item hit.quiet hit.fails in
        let sent : ops ≡ [] → ⊥ =
        λ none. let both : true ≡ false = sym failed ∙ ap has_failed trace ∙ ap (λ (xs : List BusOp). has_failed (items_of adapter h.device port xs)) none in absurd (cc) in
        let ended : e.end ≡ (outcome s.model o place done.sampled e.trace).end =
        ap (λ (x : Event). x.end) done.event_is ∙ end_is (register_of s.model.chip (named s.model o)) (named s.model o) e.trace (outcome s.model o place done.sampled e.trace) in
        inl (record {
          front = hit.front;
          item = hit.item;
          at = record { ends = ended ∙ failed_ends s.model o place done.sampled e.trace (length hit.front) sent at; trace = is; fails = hit.fails };
          number_is = omega (arith, hit.number_is, h.exact hit.most);
        })
    by (inr wait) =
        let going = waiting wait (took s.model o place done.sampled e.trace h.device) in
        inr (record {
          device = after;
          told = done.goes ∙ ap (option_map (device_after s.model o done.sampled e.trace)) h.told;
          setup = setup_after s.model o done.sampled e.trace h.device ∙ h.setup;
          waits = going.0;
          exact = going.1;
        })

trace_of : (r : Option ℕ) (o : Op) (items : List TraceItem) (out : Outcome) → (event_at r o items out).trace ≡ items
trace_of None o items out = refl
trace_of (Some reg) o items out = refl

by_grant : (t : Setup) (n count : ℕ) (s new : Scene) (o : Op) (e : Event) (g : Grant) → is_failing t n ≡ true → IsBefore t n count s
    → MatchResult g (λ place. IsDone s new o place e) (λ why. IsRefused s new o why e) → Steps t n count e new
by_grant t n count s new o e (Ok place) failing h done = done_steps t n count s new o place e failing h done
by_grant t n count s new o e (Err why) failing h refused =
    let m = s.model in
    let none : length e.trace ≡ 0 =
    ap (λ (x : Event). length x.trace) refused.event_is
    ∙ ap length (trace_of (register_of m.chip (named m o)) (named m o) [] (quiet (end.Refused why) m)) in
    let same : IsBefore t n count new = subst (IsBefore t n count) (sym refused.unchanged) h in
    inr (record {
      device = same.device;
      told = same.told;
      setup = same.setup;
      waits = same.waits;
      exact = λ most. omega (arith, same.exact most, none);
    })

-- ---- a plan

some_is : {A : Type 0} {x y : A} → Some x ≡ Some y → x ≡ y
some_is e = cc

taken : (t : Setup) (n count : ℕ) (s : Scene) (after : State) → IsBefore t n count s → s.device ≡ Some after → n ≤ after.items → ⊥
taken t n count s after h told most =
    let same : h.device ≡ after = some_is (sym h.told ∙ told) in
    let low : after.items < n = subst (λ (x : State). x.items < n) same h.waits in
    omega (arith, low, most)

here : (n count : ℕ) (x : Told) (told : List Told) → IsIts n count x.event → FailsAtItem count n (x ∷ told)
here n count x told is = record {
  earlier = [];
  own = x;
  later = told;
  told_is = refl;
  front = is.front;
  item = is.item;
  at = is.at;
  number_is = omega (arith, is.number_is);
}

further_on : (n count : ℕ) (x : Told) (told : List Told) → FailsAtItem (count + length x.event.trace) n told → FailsAtItem count n (x ∷ told)
further_on n count x told f = record {
  earlier = x ∷ f.earlier;
  own = f.own;
  later = f.later;
  told_is = ap (λ (rest : List Told). x ∷ rest) f.told_is;
  front = f.front;
  item = f.item;
  at = f.at;
  number_is = omega (arith, f.number_is);
}

plan_finds : (t : Setup) (n count : ℕ) (after : State) (p : Plan) (s new : Scene) (told : List Told) → is_failing t n ≡ true → IsBefore t n count s
    → new.device ≡ Some after → n ≤ after.items → Runs p s told new → FailsAtItem count n told
plan_finds t n count after stop s new [] failing h is most run = absurd (taken t n count s after h (ap (λ (x : Scene). x.device) (sym run) ∙ is) most)
plan_finds t n count after stop s new (x ∷ told) failing h is most run = absurd run
plan_finds t n count after (step o p) s new [] failing h is most run = absurd run
plan_finds t n count after (step o p) s new (x ∷ told) failing h is most (mid, first, rest) =
    elim (by_grant t n count s mid o x.event (grant s.model o) failing h first.performs) [
      | inl own ↦ here n count x told own
      | inr before ↦ further_on n count x told (plan_finds t n (count + length x.event.trace) after p mid new told failing before is most rest)
    ]
plan_finds t n count after (look f) s new told failing h is most run = plan_finds t n count after (f s.model) s new told failing h is most run

pub nth_error_is_found : NthErrorIsFound
nth_error_is_found s new d after which block told number is ends failing low most run =
    plan_finds d.setup number d.items after (plan_of which s.model.chip s.model.layout block) s new told failing
    (record { device = d; told = is; setup = refl; waits = low; exact = λ most. refl }) ends most run
