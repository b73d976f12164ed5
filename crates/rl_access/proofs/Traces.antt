-- What is known of the items of an access.
use Rattle.std.proofs.Common.{◌≡◌, ℕ, suc, ◌+◌, ◌^◌, ◌<◌, ◌≤◌, Bool, true, false, not, cond, ◌||◌, nat_lt, List, [], ◌∷◌, length, All, None, Some, refl, sym, ap, ◌∙◌, subst, arith}
use Rattle.std.specs.Bool.{MatchBool}
use Rattle.std.specs.List.{position_or_len}
use borrow.Author.Tests.{ltb-false}
use Rattle.std.proofs.lemmas.List.Elements.{All-cons, All-head, All-tail, All-map}
use Rattle.rl_bus.proofs.Words.{word_below}
use Rattle.rl_bus.specs.declared.op.AdapterKind.{AdapterKind}
use Rattle.rl_bus.specs.declared.op.BusOp.{BusOp}
use Rattle.rl_bus.specs.Standing.{Standing}
use Rattle.rl_bus.specs.Wire.{Fits}
use Rattle.rl_map.specs.Layout.{LayoutData, port_at}
use Rattle.rl_split.specs.Access.{bus_bytes_of, op_of, ops_of, sent_of}
use Rattle.rl_access.specs.declared.trace.TraceItem.{TraceItem}
use Rattle.rl_access.specs.Access.{HasBytes}
use Rattle.rl_access.specs.Event.{ItemFits}
use Rattle.rl_access.specs.Items.{took_item, item_of, AreItemsOf, has_failed, failed_at, IsAnswerSmall}

-- ---- no item failed

abbrev fails : TraceItem → Bool
fails item = item.answer.failed

quiet_head : (b : Bool) (items : List TraceItem) → (length items ≤ position_or_len fails items → has_failed items ≡ false) → suc (length items) ≤ cond (not b) (1 + position_or_len fails items) 0 →
    (b || has_failed items) ≡ false
quiet_head true items rest h = absurd (omega arith)
quiet_head false items rest h = rest (omega arith)

quiet_from : (items : List TraceItem) → length items ≤ position_or_len fails items → has_failed items ≡ false
quiet_from [] h = refl
quiet_from (item ∷ items) h = quiet_head item.answer.failed items (quiet_from items) h

none_false : (b : Bool) (n : ℕ) → cond b (Some n) None ≡ None → b ≡ false
none_false true n e = cc
none_false false n e = refl

pub quiet_where_none : (items : List TraceItem) → failed_at items ≡ None → has_failed items ≡ false
quiet_where_none items none =
    quiet_from items (ltb-false (position_or_len fails items) (length items) (none_false (nat_lt (position_or_len fails items) (length items)) (position_or_len fails items) none))

-- ---- each item fits the layout

no_item_fits : (l : LayoutData) → All (ItemFits l) []
no_item_fits l k d low = absurd (omega arith)

item_fits : (l : LayoutData) (port : ℕ) (s : Standing) (op : BusOp) (item : TraceItem) (kind : AdapterKind) → item ≡ item_of s port op item.answer → port < length l.ports
    → op.bytes ≡ (port_at l port).bytes → Fits kind op → IsAnswerSmall item → ItemFits l item
item_fits l port s op item kind e inside bytes fits small = record {
  port = subst (λ p. p < length l.ports) (sym (ap (λ t. t.port) e)) inside;
  bytes = ap (λ t. t.op.bytes) e ∙ bytes ∙ sym (ap (λ t. (port_at l t.port).bytes) e);
  lanes = subst (λ o. o.lanes < 2 ^ o.bytes) (sym (ap (λ t. t.op) e)) fits.word.enabled;
  word = subst (λ o. o.word < 256 ^ o.bytes) (sym (ap (λ t. t.op) e)) (word_below op.bytes op.lanes op.word fits.word.only);
  answer = small;
}

by_failure : (l : LayoutData) (b : Bool) (items : List TraceItem) {X : Type 0} → MatchBool b (items ≡ []) X → (X → All (ItemFits l) items) → All (ItemFits l) items
by_failure l true items h rest = subst (All (ItemFits l)) (sym h) (no_item_fits l)
by_failure l false items h rest = rest h

pub items_fit : (l : LayoutData) (port : ℕ) (kind : AdapterKind) (s : Standing) (ops : List BusOp) (items : List TraceItem) → AreItemsOf s port ops items → port < length l.ports
    → HasBytes (port_at l port).bytes ops → All (Fits kind) ops → All IsAnswerSmall items → All (ItemFits l) items
items_fit l port kind s [] [] h inside bytes fits small = no_item_fits l
items_fit l port kind s (op ∷ ops) (item ∷ items) h inside bytes fits small =
    All-cons (ItemFits l) item items
    (item_fits l port s op item kind h.0 inside (All-head (λ o. o.bytes ≡ (port_at l port).bytes) op ops bytes) (All-head (Fits kind) op ops fits) (All-head IsAnswerSmall item items small))
    (by_failure l item.answer.failed items h.1
    (λ rest. items_fit l port kind (took_item s item) ops items rest inside (All-tail (λ o. o.bytes ≡ (port_at l port).bytes) op ops bytes) (All-tail (Fits kind) op ops fits) (All-tail IsAnswerSmall
    item items small)))
items_fit l port kind s [] (item ∷ items) h inside bytes fits small = absurd h
items_fit l port kind s (op ∷ ops) [] h inside bytes fits small = absurd h

-- ---- the operations of an access have the bytes of their port

pub ops_have_bytes : (l : LayoutData) (place index chosen value : ℕ) (write : Bool) → HasBytes (bus_bytes_of l place) (ops_of l place index chosen value write)
unfolding ops_of
ops_have_bytes l place index chosen value write = All-map (λ o. o.bytes ≡ bus_bytes_of l place) (op_of l place chosen value write) (sent_of l place index chosen) (λ k d low. refl)
