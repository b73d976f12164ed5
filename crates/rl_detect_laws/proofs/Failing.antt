-- An access to a place with an address that answers errors ends by a bus error there, or at a word before it.
use Rattle.std.proofs.Common.{◌≡◌, ℕ, zero, suc, ◌+◌, ◌<◌, ◌≤◌, Bool, true, false, ◌||◌, cond, if◌then◌else◌, List, [], ◌∷◌, ◌++◌, length, map, get_or, Option, None, Some, Ok, refl, sym, ap, ◌∙◌, subst, arith}
use Rattle.std.specs.List.{position_from}
use Rattle.std.proofs.lemmas.Iterator.Adapters.{position_from-zero}
use Rattle.std.proofs.lemmas.List.{get_or-map, length-map}
use Rattle.rl_bus.specs.declared.op.Answer.{Answer}
use Rattle.rl_bus.specs.declared.op.BusOp.{BusOp}
use Rattle.rl_bus.specs.declared.table.WordRow.{WordRow}
use Rattle.rl_bus.specs.Setup.{Setup, is_named}
use Rattle.rl_bus.specs.Standing.{Standing, standing_at}
use Rattle.rl_bus.specs.State.{State, counted, is_faulty, word_at, answer_at, answer_of, state_after}
use Rattle.rl_model.specs.Rows.{ChipData}
use Rattle.rl_map.specs.Layout.{LayoutData, place_at, words_of, IsSound}
use Rattle.rl_map.specs.Words.{no_word}
use Rattle.rl_split.specs.Access.{all_bytes, op_of, sent_of, ops_of}
use Rattle.rl_split.specs.Seats.{no_op}
use Rattle.rl_split.proofs.Sending.{is_here, whole_sent}
use Rattle.rl_access.specs.declared.event.End.TheVariants as end
use Rattle.rl_access.specs.declared.event.Event.{Event}
use Rattle.rl_access.specs.declared.event.Op.{Op}
use Rattle.rl_access.specs.declared.trace.TraceItem.{TraceItem}
use Rattle.rl_access.specs.Call.{Scene, Performs}
use Rattle.rl_access.specs.Items.{item_of, took_item, items_of, has_failed, failed_at, port_for, adapter_for}
use Rattle.rl_access.specs.Model.{ModelData}
use Rattle.rl_access.specs.Operation.{register_of}
use Rattle.rl_access.specs.Rules.{grant, named, sends, Outcome, or_error, outcome, event_at}
use Rattle.rl_access.proofs.Setups.{setup-state_after}
use Rattle.rl_plain.proofs.Answered.{done_of}
use Rattle.rl_detect_laws.specs.Errors.{is_error_at, HasError, FailsAtWord}
use Rattle.rl_detect_laws.proofs.Standing.{Stands}

-- ---- one item

pub or_left : (a b : Bool) → a ≡ true → (a || b) ≡ true
or_left true b so = refl
or_left false b so = absurd (cc)

pub or_right : (a b : Bool) → b ≡ true → (a || b) ≡ true
or_right true b so = refl
or_right false b so = so

faulty_fails : (b : Bool) (x y : Answer) → b ≡ true → x.failed ≡ true → (if b then x else y).failed ≡ true
faulty_fails true x y so h = h
faulty_fails false x y so h = absurd (cc)

pub at_fails : (d : State) (port : ℕ) (op : BusOp) (w : Option WordRow) → is_faulty d port op ≡ true → (answer_at d port op w).failed ≡ true
at_fails d port op None faulty = refl
at_fails d port op (Some w) faulty = faulty_fails (is_faulty d port op) _ _ faulty refl

is_fault : (d : State) (port : ℕ) (op : BusOp) → is_error_at d.setup port op.address ≡ true → is_faulty d port op ≡ true
is_fault d port op error = or_right _ (is_named d.setup port op.address d.items) (or_left (is_error_at d.setup port op.address) _ error)

answer_fails : (d : State) (port : ℕ) (op : BusOp) → is_error_at d.setup port op.address ≡ true → (answer_of d port op).failed ≡ true
unfolding answer_of
answer_fails d port op error = at_fails (counted d) port op (word_at d port op) (is_fault (counted d) port op error)

-- ---- items one after another

pub both_quiet : (a b : Bool) → a ≡ false → b ≡ false → (a || b) ≡ false
both_quiet true b so h = so
both_quiet false b so h = h

each_quiet : (a b : Bool) → (a || b) ≡ false → (a ≡ false) × (b ≡ false)
each_quiet true b so = absurd (cc)
each_quiet false b so = (refl, so)

-- the last of them failed, of the operations up to this one
record LastFails (items : List TraceItem) (port : ℕ) (ops : List BusOp) (k : ℕ) : Type 0 where
  front : List TraceItem
  item : TraceItem
  all : items ≡ front ++ item ∷ []
  quiet : has_failed front ≡ false
  fails : item.answer.failed ≡ true
  upto : length front ≤ k
  port_is : item.port ≡ port
  op_is : item.op ≡ get_or ops (length front) no_op

first_fails : (a : Standing) (d : State) (port k : ℕ) (op : BusOp) (ops : List BusOp) → (answer_of d port op).failed ≡ true
    → LastFails (items_of a d port (op ∷ ops)) port (op ∷ ops) k
first_fails a d port k op ops failed =
    let item = item_of a port op (answer_of d port op) in
    let more = items_of (took_item a item) (state_after d port op) port ops in
    record {
      front = [];
      item = item;
      all = ap (λ b. item ∷ (if b then [] else more)) failed;
      quiet = refl;
      fails = failed;
      upto = omega arith;
      port_is = refl;
      op_is = refl;
    }

later_fails : (a : Standing) (d : State) (port k : ℕ) (op : BusOp) (ops : List BusOp) → (answer_of d port op).failed ≡ false
    → LastFails (items_of (took_item a (item_of a port op (answer_of d port op))) (state_after d port op) port ops) port ops k
    → LastFails (items_of a d port (op ∷ ops)) port (op ∷ ops) (suc k)
later_fails a d port k op ops fine rest =
    let item = item_of a port op (answer_of d port op) in
    let more = items_of (took_item a item) (state_after d port op) port ops in
    record {
      front = item ∷ rest.front;
      item = rest.item;
      all = ap (λ b. item ∷ (if b then [] else more)) fine ∙ ap (λ (xs : List TraceItem). item ∷ xs) rest.all;
      quiet = both_quiet item.answer.failed (has_failed rest.front) fine rest.quiet;
      fails = rest.fails;
      upto = omega (arith, rest.upto);
      port_is = rest.port_is;
      op_is = rest.op_is;
    }

by_first : (a : Standing) (d : State) (port k : ℕ) (op : BusOp) (ops : List BusOp) (b : Bool) → (answer_of d port op).failed ≡ b
    → LastFails (items_of (took_item a (item_of a port op (answer_of d port op))) (state_after d port op) port ops) port ops k
    → LastFails (items_of a d port (op ∷ ops)) port (op ∷ ops) (suc k)
by_first a d port k op ops true failed rest = first_fails a d port (suc k) op ops failed
by_first a d port k op ops false fine rest = later_fails a d port k op ops fine rest

some_fails : (a : Standing) (t : Setup) (d : State) (port address k : ℕ) (ops : List BusOp) → d.setup ≡ t → is_error_at t port address ≡ true → k < length ops
    → (get_or ops k no_op).address ≡ address → LastFails (items_of a d port ops) port ops k
some_fails a t d port address k [] setup error low at = absurd (omega (arith, low))
some_fails a t d port address zero (op ∷ ops) setup error low at =
    first_fails a d port 0 op ops
    (answer_fails d port op (subst (λ (u : Setup). is_error_at u port op.address ≡ true) (sym setup) (subst (λ n. is_error_at t port n ≡ true) (sym at) error)))
some_fails a t d port address (suc k) (op ∷ ops) setup error low at =
    let item = item_of a port op (answer_of d port op) in
    by_first a d port k op ops (answer_of d port op).failed refl
    (some_fails (took_item a item) t (state_after d port op) port address k ops (setup-state_after d port op ∙ setup) error (omega (arith, low)) at)

-- then one of them failed
pub last_failed : (front : List TraceItem) (item : TraceItem) → item.answer.failed ≡ true → has_failed (front ++ item ∷ []) ≡ true
last_failed [] item failed = or_left item.answer.failed false failed
last_failed (x ∷ front) item failed = or_right x.answer.failed (has_failed (front ++ item ∷ [])) (last_failed front item failed)

-- and it is the first that did
position_is : (i : ℕ) (front : List TraceItem) (item : TraceItem) → has_failed front ≡ false → item.answer.failed ≡ true
    → position_from (λ (item : TraceItem). item.answer.failed) i (front ++ item ∷ []) ≡ Some (i + length front)
position_is i [] item quiet fails =
    let same : i ≡ i + 0 = omega arith in
    ap (λ b. cond b (Some i) None) fails ∙ ap (λ k. Some k) same
position_is i (x ∷ front) item quiet fails =
    let each = each_quiet x.answer.failed (has_failed front) quiet in
    let more = position_from (λ (item : TraceItem). item.answer.failed) (i + 1) (front ++ item ∷ []) in
    let same : i + 1 + length front ≡ i + suc (length front) = omega arith in
    ap (λ b. cond b (Some i) more) each.0 ∙ position_is (i + 1) front item each.1 fails ∙ ap (λ k. Some k) same

pub failed_last : (front : List TraceItem) (item : TraceItem) → has_failed front ≡ false → item.answer.failed ≡ true
    → failed_at (front ++ item ∷ []) ≡ Some (length front)
failed_last front item quiet fails =
    let same : 0 + length front ≡ length front = omega arith in
    position_from-zero (λ (item : TraceItem). item.answer.failed) (front ++ item ∷ []) ∙ position_is 0 front item quiet fails ∙ ap (λ k. Some k) same

-- ---- the operations of a whole access

-- each word of the location is sent
record IsSent (l : LayoutData) (place index value : ℕ) (write : Bool) (k : ℕ) : Type 0 where
  low : k < length (ops_of l place index (all_bytes (place_at l place).bytes) value write)
  address : (get_or (ops_of l place index (all_bytes (place_at l place).bytes) value write) k no_op).address
      ≡ (get_or (words_of l place index) k no_word).address

all_sent : (l : LayoutData) (place index value : ℕ) (write : Bool) (t : Setup) → IsSound l → HasError l t place index
    → ops_of l place index (all_bytes (place_at l place).bytes) value write ≡ map (op_of l place (all_bytes (place_at l place).bytes) value write) (words_of l place index)
unfolding ops_of sent_of
all_sent l place index value write t sound e =
    ap (map (op_of l place (all_bytes (place_at l place).bytes) value write)) (whole_sent l place index (is_here l place index sound e.stands.location))

is_sent : (l : LayoutData) (place index value : ℕ) (write : Bool) (t : Setup) (k : ℕ) → IsSound l → HasError l t place index
    → k < length (words_of l place index) → IsSent l place index value write k
is_sent l place index value write t k sound e low =
    let bytes = all_bytes (place_at l place).bytes in
    let words = words_of l place index in
    let sent = all_sent l place index value write t sound e in
    record {
      low = subst (λ (ops : List BusOp). k < length ops) (sym sent) (subst (λ n. k < n) (sym (length-map words (op_of l place bytes value write))) low);
      address = ap (λ (ops : List BusOp). (get_or ops k no_op).address) sent
          ∙ ap (λ (o : BusOp). o.address) (get_or-map (op_of l place bytes value write) words k no_word no_op low);
    }

-- ---- an operation that is such an access

-- it is granted this place from any model of the chip and the layout, sends all words of the location there, and ends by a bus
-- error at the first of them that failed
pub record IsAccessAt (c : ChipData) (l : LayoutData) (place index : ℕ) (op : Op) : Type 0 where
  pub granted : (m : ModelData) → m.chip ≡ c → m.layout ≡ l → grant m op ≡ Ok place
  pub value : ℕ
  pub write : Bool
  pub sent : (m : ModelData) → m.chip ≡ c → m.layout ≡ l → sends m op place ≡ ops_of l place index (all_bytes (place_at l place).bytes) value write
  pub ends : (m : ModelData) (sampled : ℕ) (items : List TraceItem) (k : ℕ) → failed_at items ≡ Some k → (outcome m op place sampled items).end ≡ end.BusError k

pub error_end : (o : Option ℕ) (m : ModelData) (good : Outcome) (k : ℕ) → o ≡ Some k → (or_error o m good).end ≡ end.BusError k
error_end None m good k is = absurd (cc)
error_end (Some j) m good k is = let same : j ≡ k = cc in ap end.BusError same

pub end_is : (r : Option ℕ) (op : Op) (items : List TraceItem) (o : Outcome) → (event_at r op items o).end ≡ o.end
end_is None op items o = refl
end_is (Some reg) op items o = refl

pub access_fails : (c : ChipData) (l : LayoutData) (t : Setup) (place index : ℕ) → IsSound l → (error : HasError l t place index) → (s new : Scene) (op : Op) (e : Event)
    → IsAccessAt c l place index op → Stands c l t s → Performs s new op e → FailsAtWord l place index error.stands.number e
access_fails c l t place index sound error s new op e a st performs =
    let done = done_of s new op place e (a.granted s.model st.chip st.layout) performs in
    let port = (place_at l place).port in
    let adapter = standing_at s.adapters (adapter_for s.model.layout place) in
    let ops = ops_of l place index (all_bytes (place_at l place).bytes) a.value a.write in
    let k = error.stands.number in
    let here = is_sent l place index a.value a.write t k sound error error.stands.number_in in
    let same : port_for s.model.layout place ≡ port = ap (λ (x : LayoutData). port_for x place) st.layout in
    let found = some_fails adapter t st.device port error.address k ops st.setup error.fails here.low (here.address ∙ error.stands.address_is) in
    let trace : e.trace ≡ found.front ++ found.item ∷ [] =
    done.answers st.device st.told
    ∙ ap (λ p. items_of adapter st.device p (sends s.model op place)) same
    ∙ ap (items_of adapter st.device port) (a.sent s.model st.chip st.layout)
    ∙ found.all in
    let at : failed_at e.trace ≡ Some (length found.front) = ap failed_at trace ∙ failed_last found.front found.item found.quiet found.fails in
    let ended : e.end ≡ (outcome s.model op place done.sampled e.trace).end =
    ap (λ (x : Event). x.end) done.event_is
    ∙ end_is (register_of s.model.chip (named s.model op)) (named s.model op) e.trace (outcome s.model op place done.sampled e.trace) in
    let there = is_sent l place index a.value a.write t (length found.front) sound error (omega (arith, found.upto, error.stands.number_in)) in
    record {
      front = found.front;
      item = found.item;
      at = record { ends = ended ∙ a.ends s.model done.sampled e.trace (length found.front) at; trace = trace; fails = found.fails };
      upto = found.upto;
      port_is = found.port_is;
      address_is = ap (λ (o : BusOp). o.address) found.op_is ∙ there.address;
    }
