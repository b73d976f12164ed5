-- What the answers to the words of a read bring, one after another.
use Rattle.std.proofs.Common.{◌≡◌, ℕ, Option, Some, ◌+◌, ◌^◌, ◌<◌, ◌≤◌, true, false, List, [], ◌∷◌, ◌++◌, length, sym, ap, ◌∙◌, arith}
use Rattle.std.specs.Prelude.{bit_or}
use Rattle.std.proofs.lemmas.List.{map-append, length-map}
use Rattle.rl_policy.specs.Bits.{bit, from_bits}
use Rattle.rl_policy.proofs.BitLemmas.{bit-or, bit-zero, is_from_bits}
use Rattle.rl_bus.specs.Spread.{spread_bit}
use Rattle.rl_map.specs.Layout.{LayoutData}
use Rattle.rl_split.specs.Access.{joined_bit}
use Rattle.rl_split.specs.Outgoing.{words_in, word_in, sent_as, sent_of_first}
use Rattle.rl_split.specs.declared.access.OutgoingWord.{OutgoingWord}
use Rattle.rl_split.specs.declared.access.Outgoing.{Outgoing}
use Rattle.rl_split.proofs.Sent.{IsNextSent, next_sent, value_more, or_small, all_joined}
use Rattle.rl_access.specs.declared.trace.TraceItem.{TraceItem}
use Rattle.rl_access.specs.Access.{IsBrought}
use Rattle.rl_access.specs.Items.{words_answered, word_answered, has_failed}
use Rattle.rl_access.proofs.Traces.{quiet_where_none}
use Rattle.rl_access.proofs.UnderWay.{has_failed-push}

-- the value of the words that were sent so far, where this is a read
abbrev pub IsSoFar : LayoutData → Outgoing → (k : ℕ) → List TraceItem → ℕ → Type 0
IsSoFar l s k items value = s.write ≡ false → value ≡ from_bits 64 (joined_bit s.chosen (sent_of_first l s k) (words_answered items))

-- none was sent
pub none_so_far : (l : LayoutData) (s : Outgoing) → IsSoFar l s 0 [] 0
none_so_far l s reads = is_from_bits 64 0 _ (omega arith) (λ b low. bit-zero b)

-- the word that is sent next
pub next_word : (l : LayoutData) (s : Outgoing) (k : ℕ) {n : ℕ} {found : Option OutgoingWord} {next : OutgoingWord} → k < n → n ≡ length (words_in l s) →
    found ≡ sent_as l s (word_in l s k) → found ≡ Some next → IsNextSent l s k next
next_word l s k {n} {found} {next} low count is some = next_sent l s k found next (omega (arith, low, count)) is some

-- one answer more
pub brought_more : (l : LayoutData) (s : Outgoing) (k : ℕ) (next : OutgoingWord) (items : List TraceItem) (item : TraceItem) (value bits : ℕ) → IsNextSent l s k next →
    length items ≡ length (sent_of_first l s k) → value < 2 ^ 64 → bits < 2 ^ 64 → (s.write ≡ false → bits ≡ from_bits 64 (spread_bit next.lanes (bit item.answer.word))) →
    IsSoFar l s k items value → IsSoFar l s (k + 1) (items ++ item ∷ []) (bit_or value bits)
brought_more l s k next items item value bits n count small tiny share so_far reads =
    let answers = words_answered items in
    let long : length answers ≡ length (sent_of_first l s k) = length-map items word_answered ∙ count in
    value_more s.chosen (sent_of_first l s k) answers (word_in l s k) item.answer.word value bits (bit_or value bits) long (so_far reads)
    (share reads ∙ ap (λ x. from_bits 64 (spread_bit x (bit item.answer.word))) n.lanes) (or_small value bits small tiny) (λ b. bit-or value bits b)
    ∙ ap (λ ws. from_bits 64 (joined_bit s.chosen ws (answers ++ item.answer.word ∷ []))) (sym n.more)
    ∙ ap (λ xs. from_bits 64 (joined_bit s.chosen (sent_of_first l s (k + 1)) xs)) (sym (map-append word_answered items (item ∷ [])))

-- a word that isn't sent brings nothing
pub brought_same : (l : LayoutData) (s : Outgoing) (k : ℕ) (items : List TraceItem) (value : ℕ) → sent_of_first l s (k + 1) ≡ sent_of_first l s k → IsSoFar l s k items value →
    IsSoFar l s (k + 1) items value
brought_same l s k items value same so_far reads = so_far reads ∙ ap (λ ws. from_bits 64 (joined_bit s.chosen ws (words_answered items))) (sym same)

pub all_brought : (l : LayoutData) (s : Outgoing) (k : ℕ) (items : List TraceItem) (value : ℕ) → length (words_in l s) ≤ k → IsSoFar l s k items value → s.write ≡ false → IsBrought l s items value
all_brought l s k items value end so_far reads none = so_far reads ∙ all_joined l s k (words_answered items) end

-- where the last item failed nothing is said of the value
pub none_brought : (l : LayoutData) (s : Outgoing) (items : List TraceItem) (item : TraceItem) (value : ℕ) → has_failed items ≡ false →
    item.answer.failed ≡ true → IsBrought l s (items ++ item ∷ []) value
none_brought l s items item value quiet failed none =
    let no : true ≡ false = sym failed ∙ sym (has_failed-push items item quiet) ∙ quiet_where_none (items ++ item ∷ []) none in absurd cc
