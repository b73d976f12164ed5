-- An access that is sent word by word.
use Rattle.std.specs.Prelude.{ℕ, ◌^◌, ◌<◌, if◌then◌else◌, List, take, get_or, Option, Some, None}
use Rattle.rl_bus.specs.declared.op.BusOp.{BusOp}
use Rattle.rl_map.specs.declared.word.Word.{Word}
use Rattle.rl_map.specs.Layout.{LayoutData, place_at, words_of, IsLocation}
use Rattle.rl_map.specs.Words.{no_word}
use Rattle.rl_split.specs.declared.access.OutgoingWord.{OutgoingWord}
use Rattle.rl_split.specs.declared.access.Outgoing.{Outgoing}
use Rattle.rl_split.specs.Access.{IsChoice, has_chosen, sent_words, lanes_for, op_of, ops_of}

-- it goes to a location, some of its bytes take part, and the value is one of the item's
pub record IsOutgoingOn (l : LayoutData) (s : Outgoing) : Type 0 where
  pub location : IsLocation l s.place s.index
  pub chosen : IsChoice (place_at l s.place).bytes s.chosen
  pub value : s.value < 256 ^ (place_at l s.place).bytes

-- its operations, in order
abbrev pub outgoing_ops : LayoutData → Outgoing → List BusOp
outgoing_ops l s = ops_of l s.place s.index s.chosen s.value s.write

-- the words of its location
abbrev pub words_in : LayoutData → Outgoing → List Word
words_in l s = words_of l s.place s.index

abbrev pub word_in : LayoutData → Outgoing → ℕ → Word
word_in l s k = get_or (words_in l s) k no_word

-- a word as it is sent
abbrev pub outgoing_word : LayoutData → Outgoing → Word → OutgoingWord
outgoing_word l s w = record {
  op = op_of l s.place s.chosen s.value s.write w;
  lanes = lanes_for s.chosen w;
  order = w.order;
}

-- none where it has no chosen byte
abbrev pub sent_as : LayoutData → Outgoing → Word → Option OutgoingWord
sent_as l s w = if has_chosen s.chosen w then Some (outgoing_word l s w) else None

-- those of its first words that are sent
abbrev pub sent_of_first : LayoutData → Outgoing → ℕ → List Word
sent_of_first l s k = sent_words s.chosen (take k (words_in l s))
