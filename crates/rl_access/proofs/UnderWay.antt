-- Operations that are sent in order: what holds while none has failed, and what follows at the end.
use Rattle.std.proofs.Common.{slice_get, All, ◌≡◌, ℕ, ◌+◌, ◌<◌, ◌≤◌, List, [], ◌∷◌, ◌++◌, length, map, set, get_or, drop, Bool, true, false, cond, ◌||◌, Option, None, Some, option_map, refl, sym, ap}
use Rattle.std.proofs.Common.{◌∙◌, subst, arith, append_assoc, append-nil}
use Rattle.std.proofs.lemmas.List.Elements.{All-push}
use Rattle.std.proofs.lemmas.Option.{get_or_from_slice_get, slice_get_within}
use Rattle.std.proofs.lemmas.List.{map-append, set-set, set-get_or, get_or-set_same, length_push, drop_more, at_drop_all}
use Rattle.std.specs.Bool.{MatchBool}
use Rattle.rl_bus.specs.Account.{Account, Asks, AsksAll}
use Rattle.rl_bus.specs.Account as ask
use Rattle.rl_bus.proofs.Asking.{asks_push}
use Rattle.rl_bus.specs.Device.{IsStep, IsPortOf}
use Rattle.rl_bus.specs.Standing.{Standing, nobody, standing_at, moved_on, kind_at, kinds_of}
use Rattle.rl_bus.specs.Wire.{Fits}
use Rattle.rl_bus.specs.State.{State, answer_of, state_after}
use Rattle.rl_bus.specs.declared.op.BusOp.{BusOp}
use Rattle.rl_access.specs.declared.trace.TraceItem.{TraceItem}
use Rattle.rl_access.proofs.Setups.{setup-state_after_all}
use Rattle.rl_access.specs.Items.{IsAnswerSmall, asked_by, took_item, took_all, moved_on_by_all, item_of, AreItemsOf, has_failed, items_of, state_after_all, AreSent}

all_none : All IsAnswerSmall []
all_none k d low = absurd (omega arith)

all_more : (items : List TraceItem) (item : TraceItem) → All IsAnswerSmall items → IsAnswerSmall item → All IsAnswerSmall (items ++ item ∷ [])
all_more items item all here = All-push IsAnswerSmall items item all here

-- one item more was asked
asked_more : (first before after : Account) (items : List TraceItem) (item : TraceItem) → AsksAll first (map asked_by items) before → Asks before after (asked_by item) →
    AsksAll first (map asked_by (items ++ item ∷ [])) after
asked_more first before after items item asked one =
    subst (λ xs. AsksAll first xs after) (sym (map-append asked_by items (item ∷ []))) (asks_push first before after (map asked_by items) (asked_by item) asked one)

-- so many operations were sent, and none has failed
pub record IsUnderWay (first now : List Standing) (which port : ℕ) (ops : List BusOp) (i : ℕ) (items : List TraceItem) (account_before account : Account) (before state : Option State) : Type 0 where
  pub adapters : now ≡ moved_on_by_all first which items
  pub kinds : kinds_of now ≡ kinds_of first
  pub count : length items ≡ i
  pub quiet : has_failed items ≡ false
  pub small : All IsAnswerSmall items
  pub asked : AsksAll account_before (map asked_by items) account
  -- what the rest gives completes what is there
  pub completes : (rest : List TraceItem) → AreItemsOf (took_all (standing_at first which) items) port (drop i ops) rest → AreItemsOf (standing_at first which) port ops (items ++ rest)
  pub goes : state ≡ option_map (λ d. state_after_all d items) before
  pub answers : (d : State) → before ≡ Some d → items ++ items_of (took_all (standing_at first which) items) (state_after_all d items) port (drop i ops) ≡ items_of (standing_at first which) d port ops

or-false : (b : Bool) → (b || false) ≡ b
or-false true = refl
or-false false = refl

pub or_first : (a b : Bool) → (a || b) ≡ false → a ≡ false
or_first true b h = h
or_first false b h = refl

pub or_second : (a b : Bool) → (a || b) ≡ false → b ≡ false
or_second true b h = cc
or_second false b h = h

pub took_all-push : (s : Standing) (items : List TraceItem) (item : TraceItem) → took_all s (items ++ item ∷ []) ≡ took_item (took_all s items) item
took_all-push s [] item = refl
took_all-push s (x ∷ items) item = took_all-push (took_item s x) items item

pub state_after_all-push : (d : State) (items : List TraceItem) (item : TraceItem) → state_after_all d (items ++ item ∷ []) ≡ state_after (state_after_all d items) item.port item.op
state_after_all-push d [] item = refl
state_after_all-push d (x ∷ items) item = state_after_all-push (state_after d x.port x.op) items item

pub has_failed-push : (items : List TraceItem) (item : TraceItem) → has_failed items ≡ false → has_failed (items ++ item ∷ []) ≡ item.answer.failed
has_failed-push [] item quiet = or-false item.answer.failed
has_failed-push (x ∷ items) item quiet =
    rw (or_first x.answer.failed (has_failed items) quiet) (has_failed-push items item (or_second x.answer.failed (has_failed items) quiet))

-- with no item the state is as it was
same_state : (o : Option State) → o ≡ option_map (λ d. state_after_all d []) o
same_state None = refl
same_state (Some d) = refl

-- the state now, where it is told
told_state : (f : State → State) (before state : Option State) → state ≡ option_map f before → (d : State) → before ≡ Some d → state ≡ Some (f d)
told_state f before state e d told = e ∙ ap (option_map f) told

pub under_way_first : (first : List Standing) (which port : ℕ) (ops : List BusOp) (account : Account) (state : Option State) → IsUnderWay first first which port ops 0 [] account account state state
under_way_first first which port ops account state = record {
  adapters = sym (set-get_or first which nobody);
  kinds = refl;
  count = refl;
  quiet = refl;
  small = all_none;
  asked = refl;
  completes = λ rest h. h;
  goes = same_state state;
  answers = λ d e. refl;
}

-- where the adapter stands now
pub standing-moved_on_by_all : (first : List Standing) (which : ℕ) (items : List TraceItem) → which < length first → standing_at (moved_on_by_all first which items) which ≡ took_all
    (standing_at first which) items
standing-moved_on_by_all first which items within = get_or-set_same first which (took_all (standing_at first which) items) nobody within

-- one more item moves the adapters on
pub moved_on-push : (first now new : List Standing) (which : ℕ) (items : List TraceItem) (item : TraceItem) → which < length first → now ≡ moved_on_by_all first which items →
    new ≡ moved_on now which item.op item.answer → new ≡ moved_on_by_all first which (items ++ item ∷ [])
moved_on-push first now new which items item within is more =
    let s = standing_at first which in
    let at : standing_at now which ≡ took_all s items = ap (λ all. standing_at all which) is ∙ standing-moved_on_by_all first which items within in
    more
    ∙ ap (λ all. set all which (took_item (standing_at now which) item)) is
    ∙ set-set first which (took_all s items) (took_item (standing_at now which) item)
    ∙ ap (λ t. set first which t) (ap (λ t. took_item t item) at ∙ sym (took_all-push s items item))

-- past the end of the operations
abbrev pub no_op : BusOp
no_op = record { write = false; address = 0; word = 0; lanes = 0; bytes = 0 }

-- what is known of the next item
pub record IsNext (first now new : List Standing) (which port : ℕ) (ops : List BusOp) (i : ℕ) (item : TraceItem) (account account_after : Account) (state after : Option State) : Type 0 where
  pub within : which < length first
  pub index : i < length ops
  pub sent : item ≡ item_of (standing_at now which) port (get_or ops i no_op) item.answer
  pub tiny : IsAnswerSmall item
  pub moves : new ≡ moved_on now which item.op item.answer
  pub keeps : kinds_of new ≡ kinds_of now
  pub asked : Asks account account_after (asked_by item)
  pub step : IsStep state after port (get_or ops i no_op) item.answer

-- The next item completes what is there, and what follows it.
next_completes : (s : Standing) (port : ℕ) (ops : List BusOp) (i : ℕ) (items : List TraceItem) (item : TraceItem) → i < length ops → item ≡ item_of (took_all s items) port (get_or ops i no_op)
    item.answer →
    ((rest : List TraceItem) → AreItemsOf (took_all s items) port (drop i ops) rest → AreItemsOf s port ops (items ++ rest)) →
    (rest : List TraceItem) → MatchBool item.answer.failed (rest ≡ []) (AreItemsOf (took_item (took_all s items) item) port (drop (i + 1) ops) rest) → AreItemsOf s port ops (items ++ (item ∷ rest))
next_completes s port ops i items item index sent completes rest h =
    completes (item ∷ rest) (rw (drop_more ops i no_op index) (sent, h))

abbrev pub IsUnderWayBy : {A : Type 0} → (A → Standing) → (first now : List A) (which port : ℕ) (ops : List BusOp) (i : ℕ) (items : List TraceItem) (account_before account : Account) (before state : Option
    State) → Type 0
IsUnderWayBy f first now = IsUnderWay (map f first) (map f now)

-- the definition's next item
items_of-next : (s : Standing) (d : State) (port : ℕ) (op : BusOp) (ops : List BusOp) (item : TraceItem) → item ≡ item_of s port op (answer_of d port op) →
    items_of s d port (op ∷ ops) ≡ item ∷ cond item.answer.failed [] (items_of (took_item s item) (state_after d port op) port ops)
items_of-next s d port op ops item e = rw e

-- the item that was sent, through the adapter as it stands after the items before it
sent_by : (first now new : List Standing) (which port : ℕ) (ops : List BusOp) (i : ℕ) (items : List TraceItem) (item : TraceItem) (account account_after : Account) (state after : Option State) →
    now ≡ moved_on_by_all first which items → IsNext first now new which port ops i item account account_after state after →
    item ≡ item_of (took_all (standing_at first which) items) port (get_or ops i no_op) item.answer
sent_by first now new which port ops i items item account account_after state after is n =
    n.sent ∙ ap (λ s. item_of s port (get_or ops i no_op) item.answer) (ap (λ all. standing_at all which) is ∙ standing-moved_on_by_all first which items n.within)

-- the state after the next item
state_by : (port : ℕ) (op : BusOp) (s : Standing) (d : State) (items : List TraceItem) (item : TraceItem) → item ≡ item_of s port op item.answer → state_after_all d (items ++ item ∷ []) ≡ state_after
    (state_after_all d items) port op
state_by port op s d items item e =
    state_after_all-push d items item ∙ ap (λ t. state_after (state_after_all d items) t.port t.op) e

-- the definition's items, with the next one among those that are there
answers_next : (s : Standing) (port : ℕ) (ops : List BusOp) (i : ℕ) (items : List TraceItem) (item : TraceItem) (d : State) → i < length ops →
    item ≡ item_of (took_all s items) port (get_or ops i no_op) (answer_of (state_after_all d items) port (get_or ops i no_op)) →
    items ++ (item ∷ cond item.answer.failed [] (items_of (took_item (took_all s items) item) (state_after (state_after_all d items) port (get_or ops i no_op)) port (drop (i + 1) ops))) ≡ items ++
    items_of (took_all s items) (state_after_all d items) port (drop i ops)
answers_next s port ops i items item d index e =
    ap (λ rest. items ++ rest)
    (sym (ap (λ left. items_of (took_all s items) (state_after_all d items) port left) (drop_more ops i no_op index)
    ∙ items_of-next (took_all s items) (state_after_all d items) port (get_or ops i no_op) (drop (i + 1) ops) item e))

-- with no failure the rest goes on from there
answers_on : (s : Standing) (port : ℕ) (left : List BusOp) (op : BusOp) (items : List TraceItem) (item : TraceItem) (d : State) → item ≡ item_of (took_all s items) port op item.answer →
    item.answer.failed ≡ false →
    (items ++ item ∷ []) ++ items_of (took_all s (items ++ item ∷ [])) (state_after_all d (items ++ item ∷ [])) port left
    ≡ items ++ (item ∷ cond item.answer.failed [] (items_of (took_item (took_all s items) item) (state_after (state_after_all d items) port op) port left))
answers_on s port left op items item d sent ok =
    append_assoc items (item ∷ []) _
    ∙ ap (λ rest. items ++ (item ∷ rest))
    (ap (λ t. items_of t (state_after_all d (items ++ item ∷ [])) port left) (took_all-push s items item)
    ∙ ap (λ e. items_of (took_item (took_all s items) item) e port left) (state_by port op (took_all s items) d items item sent)
    ∙ sym (ap (λ b. cond b [] (items_of (took_item (took_all s items) item) (state_after (state_after_all d items) port op) port left)) ok))

state_more : (port : ℕ) (op : BusOp) (s : Standing) (items : List TraceItem) (item : TraceItem) → item ≡ item_of s port op item.answer → (before : Option State) →
    option_map (λ d. state_after d port op) (option_map (λ d. state_after_all d items) before) ≡ option_map (λ d. state_after_all d (items ++ item ∷ [])) before
state_more port op s items item sent None = refl
state_more port op s items item sent (Some d) = ap Some (sym (state_by port op s d items item sent))

-- the state after one more item
goes_more : (port : ℕ) (op : BusOp) (s : Standing) (items : List TraceItem) (item : TraceItem) → item ≡ item_of s port op item.answer → (before state after : Option State) →
    state ≡ option_map (λ d. state_after_all d items) before → after ≡ option_map (λ d. state_after d port op) state → after ≡ option_map (λ d. state_after_all d (items ++ item ∷ [])) before
goes_more port op s items item sent before state after so_far step =
    step ∙ ap (option_map (λ d. state_after d port op)) so_far ∙ state_more port op s items item sent before

port_later : (before : Option State) (items : List TraceItem) (port : ℕ) → IsPortOf before port → IsPortOf (option_map (λ d. state_after_all d items) before) port
port_later None items port h = λ s e. absurd (cc)
port_later (Some d) items port h = λ s e. let same : state_after_all d items ≡ s = cc in subst (λ n. port < n) (sym (ap (λ t. length t.ports) (setup-state_after_all d items)) ∙ ap
    (λ t. length t.setup.ports) same) (h d refl)

pub under_way_next : {first now new : List Standing} {which port : ℕ} {ops : List BusOp} {i : ℕ} {items : List TraceItem} {item : TraceItem} {account_before account account_after : Account} {before state
    after : Option State} →
    IsUnderWay first now which port ops i items account_before account before state →
    IsNext first now new which port ops i item account account_after state after →
    item.answer.failed ≡ false →
    IsUnderWay first new which port ops (i + 1) (items ++ item ∷ []) account_before account_after before after
under_way_next {first} {now} {new} {which} {port} {ops} {i} {items} {item} {account_before} {account} {account_after} {before} {state} {after} u n ok =
    let op = get_or ops i no_op in
    let s = standing_at first which in
    let sent = sent_by first now new which port ops i items item account account_after state after u.adapters n in
    record {
      adapters = moved_on-push first now new which items item n.within u.adapters n.moves;
      kinds = n.keeps ∙ u.kinds;
      count = length_push items item ∙ ap (λ k. k + 1) u.count;
      quiet = has_failed-push items item u.quiet ∙ ok;
      small = all_more items item u.small n.tiny;
      asked = asked_more account_before account account_after items item u.asked n.asked;
      completes = λ rest h.
          rw (append_assoc items (item ∷ []) rest)
          (next_completes s port ops i items item n.index sent u.completes rest
          (subst (λ b. MatchBool b (rest ≡ []) (AreItemsOf (took_item (took_all s items) item) port (drop (i + 1) ops) rest)) (sym ok)
          (subst (λ t. AreItemsOf t port (drop (i + 1) ops) rest) (took_all-push s items item) h)));
      goes = goes_more port op (took_all s items) items item sent before state after u.goes n.step.goes;
      answers = λ d e.
          answers_on s port (drop (i + 1) ops) op items item d sent ok
          ∙ answers_next s port ops i items item d n.index (sent ∙ ap (λ a. item_of (took_all s items) port op a) (n.step.answers (state_after_all d items) (told_state (λ d. state_after_all d items)
          before state u.goes d e)))
          ∙ u.answers d e;
    }

-- under other names for what was sent, and how many
pub sent_as_before : {first now : List Standing} {which port : ℕ} {ops : List BusOp} {i j : ℕ} {items more : List TraceItem} {account_before account : Account} {before state : Option State} → j ≡ i →
    more ≡ items → IsUnderWay first now which port ops i items account_before account before state → IsUnderWay first now which port ops j more account_before account before state
sent_as_before same alike u = rw (same, alike) u

-- what the items and the adapters are at the end
pub record IsSentInOrder (first last : List Standing) (which port : ℕ) (ops : List BusOp) (items : List TraceItem) (account_before account : Account) (before after : Option State) : Type 0 where
  pub sent : AreSent which port ops items first last account_before account before after
  pub kinds : kinds_of last ≡ kinds_of first
  pub small : All IsAnswerSmall items

pub under_way_failed : {first now new : List Standing} {which port : ℕ} {ops : List BusOp} {i : ℕ} {items : List TraceItem} {item : TraceItem} {account_before account account_after : Account} {before state
    after : Option State} →
    IsUnderWay first now which port ops i items account_before account before state →
    IsNext first now new which port ops i item account account_after state after →
    item.answer.failed ≡ true →
    IsSentInOrder first new which port ops (items ++ item ∷ []) account_before account_after before after
under_way_failed {first} {now} {new} {which} {port} {ops} {i} {items} {item} {account_before} {account} {account_after} {before} {state} {after} u n failed =
    let op = get_or ops i no_op in
    let s = standing_at first which in
    let sent = sent_by first now new which port ops i items item account account_after state after u.adapters n in
    record {
      kinds = n.keeps ∙ u.kinds;
      small = all_more items item u.small n.tiny;
      sent = record {
        items_are =
            next_completes s port ops i items item n.index sent u.completes []
            (let none : List TraceItem = [] in subst (λ b. MatchBool b (none ≡ []) (AreItemsOf (took_item (took_all s items) item) port (drop (i + 1) ops) [])) (sym failed) refl);
        adapters = moved_on-push first now new which items item n.within u.adapters n.moves;
        asked = asked_more account_before account account_after items item u.asked n.asked;
        run = record {
          answers = λ d e.
              ap (λ b. items ++ (item ∷ cond b [] (items_of (took_item (took_all s items) item) (state_after (state_after_all d items) port op) port (drop (i + 1) ops)))) (sym failed)
              ∙ answers_next s port ops i items item d n.index (sent ∙ ap (λ a. item_of (took_all s items) port op a) (n.step.answers (state_after_all d items) (told_state (λ d. state_after_all d
              items) before state u.goes d e)))
              ∙ u.answers d e;
          goes = goes_more port op (took_all s items) items item sent before state after u.goes n.step.goes;
        };
      };
    }

pub under_way_done : {first now : List Standing} {which port : ℕ} {ops : List BusOp} {i : ℕ} {items : List TraceItem} {account_before account : Account} {before state : Option State} →
    IsUnderWay first now which port ops i items account_before account before state →
    length ops ≤ i →
    IsSentInOrder first now which port ops items account_before account before state
under_way_done {first} {now} {which} {port} {ops} {i} {items} {account_before} {account} {before} {state} u all =
    let s = standing_at first which in
    let none : drop i ops ≡ [] = at_drop_all (λ xs. xs) ops i all in
    record {
      kinds = u.kinds;
      small = u.small;
      sent = record {
        items_are =
            subst (λ xs. AreItemsOf s port ops xs) (append-nil items)
            (u.completes [] (subst (λ left. AreItemsOf (took_all s items) port left []) (sym none) tt));
        adapters = u.adapters;
        asked = u.asked;
        run = record {
          answers = λ d e. sym (append-nil items) ∙ ap (λ left. items ++ items_of (took_all s items) (state_after_all d items) port left) (sym none) ∙ u.answers d e;
          goes = u.goes;
        };
      };
    }

-- the next item is the operation of that number
pub next_of : {first now new : List Standing} {which port : ℕ} {ops : List BusOp} {i : ℕ} {op : BusOp} {item : TraceItem} {account account_after : Account} {state after : Option State} →
    which < length first → slice_get ops i ≡ Some op → item ≡ item_of (standing_at now which) port op item.answer → IsAnswerSmall item → new ≡ moved_on now which item.op item.answer →
    kinds_of new ≡ kinds_of now → Asks account account_after (ask.transfer item.port item.op item.tag item.answer) → IsStep state after port op item.answer →
    IsNext first now new which port ops i item account account_after state after
next_of {first} {now} {new} {which} {port} {ops} {i} {op} {item} {account} {account_after} {state} {after} within index sent tiny moves keeps asked step =
    let is : op ≡ get_or ops i no_op = sym (get_or_from_slice_get ops i op no_op index) in
    record {
      within = within;
      index = slice_get_within ops i op index;
      sent = sent ∙ ap (λ o. item_of (standing_at now which) port o item.answer) is;
      tiny = tiny;
      moves = moves;
      keeps = keeps;
      asked = asked;
      step = subst (λ o. IsStep state after port o item.answer) is step;
    }

-- the port is still one of the device
pub still_port : {first now : List Standing} {which port : ℕ} {ops : List BusOp} {i : ℕ} {items : List TraceItem} {account_before account : Account} {before state : Option State} →
    IsUnderWay first now which port ops i items account_before account before state → IsPortOf before port → IsPortOf state port
still_port {port = port} {items = items} {before = before} u h = subst (λ o. IsPortOf o port) (sym u.goes) (port_later before items port h)

-- the adapter carries the next operation
pub still_fits : {first now : List Standing} {which port : ℕ} {ops : List BusOp} {i : ℕ} {items : List TraceItem} {account_before account : Account} {before state : Option State} (op : BusOp) →
    IsUnderWay first now which port ops i items account_before account before state → slice_get ops i ≡ Some op → All (Fits (kind_at (kinds_of first) which)) ops → Fits (kind_at (kinds_of now) which) op
still_fits {first} {now} {which} {ops = ops} {i = i} op u index fits =
    let here : Fits (kind_at (kinds_of first) which) (get_or ops i op) = fits i op (slice_get_within ops i op index) in
    subst (λ kinds. Fits (kind_at kinds which) op) (sym u.kinds) (subst (Fits (kind_at (kinds_of first) which)) (get_or_from_slice_get ops i op op index) here)
