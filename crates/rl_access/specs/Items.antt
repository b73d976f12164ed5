-- Items that are sent one after another, until one fails.
use Rattle.std.specs.Prelude.{◌≡◌, ℕ, ◌^◌, ◌<◌, List, [], ◌∷◌, map, Bool, false, ◌||◌, Option, Some, option_map, slice_set, if◌then◌else◌}
use Rattle.std.specs.Bool.{MatchBool}
use Rattle.std.specs.List.{position}
use Rattle.rl_bus.specs.Account.{Account, Request, AsksAll}
use Rattle.rl_bus.specs.Account as ask
use Rattle.rl_bus.specs.declared.op.Answer.{Answer}
use Rattle.rl_bus.specs.declared.op.BusOp.{BusOp}
use Rattle.rl_bus.specs.Standing.{Standing, took, standing_at}
use Rattle.rl_bus.specs.State.{State, answer_of, state_after}
use Rattle.rl_map.specs.Layout.{LayoutData, place_at, port_at}
use Rattle.rl_access.specs.declared.trace.TraceItem.{TraceItem}

-- ---- adapters

-- an adapter after an item
abbrev pub took_item : Standing → TraceItem → Standing
took_item s item = took s item.op item.answer

-- and after items, one after another
abbrev pub took_all : Standing → List TraceItem → Standing
took_all s [] = s
took_all s (item ∷ items) = took_all (took_item s item) items

-- the adapters after items of one of them: every other one is as it was
abbrev pub moved_on_by_all : List Standing → ℕ → List TraceItem → List Standing
moved_on_by_all all which items = slice_set all which (took_all (standing_at all which) items)

-- ---- items of operations

-- the item of an operation that went out through an adapter: its tag is the adapter's next one
abbrev pub item_of : Standing → ℕ → BusOp → Answer → TraceItem
item_of s port op answer = record { port = port; op = op; tag = s.tag; answer = answer }

-- The items are those of the operations, in order, through an adapter that stands so. A failed item is the last one,
-- and where none failed each operation was sent.
abbrev pub AreItemsOf : Standing → ℕ → List BusOp → List TraceItem → Type 0
AreItemsOf s port [] [] = Unit {0}
AreItemsOf s port (op ∷ ops) (item ∷ items) =
    (item ≡ item_of s port op item.answer)
    × MatchBool item.answer.failed (items ≡ []) (AreItemsOf (took_item s item) port ops items)
AreItemsOf s port [] (item ∷ items) = ⊥
AreItemsOf s port (op ∷ ops) [] = ⊥

abbrev pub has_failed : List TraceItem → Bool
has_failed [] = false
has_failed (item ∷ items) = item.answer.failed || has_failed items

-- the number of the failed item
abbrev pub failed_at : List TraceItem → Option ℕ
failed_at items = position (λ item. item.answer.failed) items

-- the words that were answered
abbrev pub word_answered : TraceItem → ℕ
word_answered item = item.answer.word

abbrev pub words_answered : List TraceItem → List ℕ
words_answered items = map word_answered items

-- what an item asked of the device
abbrev pub asked_by : TraceItem → Request
asked_by item = ask.transfer item.port item.op item.tag item.answer

-- ---- over a device that tells its state

-- the items from this state
abbrev pub items_of : Standing → State → ℕ → List BusOp → List TraceItem
items_of s d port [] = []
items_of s d port (op ∷ ops) =
    let item = item_of s port op (answer_of d port op) in
    item ∷ (if item.answer.failed then [] else items_of (took_item s item) (state_after d port op) port ops)

-- the state after items
abbrev pub state_after_all : State → List TraceItem → State
state_after_all d [] = d
state_after_all d (item ∷ items) = state_after_all (state_after d item.port item.op) items

-- the items and the state are the definition's, where the state is told
pub record IsRun (before after : Option State) (s : Standing) (port : ℕ) (ops : List BusOp)
    (items : List TraceItem) : Type 0 where
  pub answers : (d : State) → before ≡ Some d → items ≡ items_of s d port ops
  pub goes : after ≡ option_map (λ d. state_after_all d items) before

-- ---- through the adapter of a port

-- the operations were sent in order through one adapter, and nothing else moved
pub record AreSent (which port : ℕ) (ops : List BusOp) (items : List TraceItem) (before now : List Standing)
    (account account_after : Account) (told told_after : Option State) : Type 0 where
  pub items_are : AreItemsOf (standing_at before which) port ops items
  pub adapters : now ≡ moved_on_by_all before which items
  -- the device was asked exactly these; an item failed only where its count of errors rose
  pub asked : AsksAll account (map asked_by items) account_after
  pub run : IsRun told told_after (standing_at before which) port ops items

abbrev pub port_for : LayoutData → (place : ℕ) → ℕ
port_for l place = (place_at l place).port

abbrev pub adapter_for : LayoutData → (place : ℕ) → ℕ
adapter_for l place = (port_at l (port_for l place)).adapter

-- the word of an answer has the item's bytes
abbrev pub IsAnswerSmall : TraceItem → Type 0
IsAnswerSmall item = item.answer.word < 256 ^ item.op.bytes
