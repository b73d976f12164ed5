-- From an empty list, the words of a whole access are one prediction.
use Rattle.std.proofs.Common.{◌≡◌, ◌⊎◌, ℕ, suc, ◌+◌, ◌*◌, ◌/◌, ◌%◌, ◌^◌, ◌<◌, ◌≤◌, Bool, true, false, ◌&&◌, ◌||◌, eqb, ltb, if◌then◌else◌, List, [], ◌∷◌, ◌++◌, length, map, set, get_or, drop, Option}
use Rattle.std.proofs.Common.{None, Some, is_some, refl, sym, ap, ◌∙◌, subst, inl, inr, arith, eq-eqb, append_assoc, append-nil, length-drop}
use Rattle.std.specs.Prelude.{unwrap_or}
use Rattle.std.proofs.lemmas.Bool.{cases_lt}
use Rattle.std.proofs.lemmas.Bool.Decides.{nat_tests}
use Rattle.std.proofs.lemmas.Option.{get_or_from_slice_get, slice_get_within}
use Rattle.std.proofs.lemmas.List.{set-set, set-get_or, get_or-set_same, length-set, length_push, length-map, get_or-map, drop_more}
use Rattle.std.proofs.Math.Pow.{pow_mono}
use Rattle.rl_policy.specs.Bits.{bit, from_bits}
use Rattle.rl_policy.proofs.BitLemmas.{is_from_bits, bit-above, bit-mask}
use Rattle.rl_bus.specs.declared.op.BusOp.{BusOp}
use Rattle.rl_bus.specs.declared.table.Lanes.{Lanes}
use Rattle.rl_bus.specs.Spread.{lane_below, lane_bit, bit_in, spread_bit, gathered_bit}
use Rattle.rl_model.specs.Rows.{ChipData}
use Rattle.rl_map.specs.declared.word.Word.{Word}
use Rattle.rl_map.specs.Layout.{LayoutData, place_at, port_at, words_of, has_right, HasWords, IsSound}
use Rattle.rl_map.specs.Words.{no_word}
use Rattle.rl_mirror.specs.Mirror.{MirrorData}
use Rattle.rl_mirror.specs.Prediction.{predict_write, predict_read}
use Rattle.rl_split.specs.Access.{all_bytes, lanes_for, sent_words, word_of, op_of, ops_of, sent_of, joined, joined_bit}
use Rattle.rl_split.proofs.Carried.{spread_gathered}
use Rattle.rl_split.proofs.Chosen.{sent_touches}
use Rattle.rl_split.proofs.Sending.{IsHere, is_here}
use Rattle.rl_split.proofs.WriteRuns.{are_touched}
use Rattle.rl_access.specs.declared.predictor.Gathered.{Gathered}
use Rattle.rl_access.specs.declared.trace.TraceItem.{TraceItem}
use Rattle.rl_access.specs.Gathering.{no_words, gathered_at, is_next, IsRegisterPlace}
use Rattle.rl_access.specs.Items.{has_failed, words_answered}
use Rattle.rl_access.specs.Observed.{Seen, seen, reg_in, word_told, is_whole, predicted, taken_in, observed, observed_all, word_ops, implied, watched_place, IsWordOf, WholeAccessPredicts}
use Rattle.rl_access.specs.Rules.{every_field}
use Rattle.rl_access.proofs.Bytes.{bytes_bits}
use Rattle.rl_access.proofs.Gathers.{watched_is, one_observed}
use Rattle.rl_access.proofs.UnderWay.{no_op, or_first, or_second}
use Rattle.rl_access.proofs.Whole.{all_sent, first_of_place}

-- ---- what a written word brings back

brought : (s : Lanes) (f : ℕ → Bool) (b : ℕ) → spread_bit s (bit (from_bits 64 (gathered_bit s f))) b ≡ (lane_bit s b && f b)
brought s f b = by (lane_below 8 s (b / 8)) refl
  where
    by : (o : Option ℕ) → lane_below 8 s (b / 8) ≡ o → bit_in o (bit (from_bits 64 (gathered_bit s f))) (b % 8) ≡ (is_some o && f b)
    by None e = refl
    by (Some l) e =
        ap (λ o. bit_in o (bit (from_bits 64 (gathered_bit s f))) (b % 8)) (sym e) ∙ spread_gathered s f b (ap is_some e)

shared : (t u v : Bool) → ((t && v) || (u && v)) ≡ ((t || u) && v)
shared true true v = grind arith
shared true false v = grind arith
shared false u v = refl

joined_words : (chosen value : ℕ) (ws : List Word) (b : ℕ) → joined_bit chosen ws (map (word_of chosen value) ws) b ≡ (are_touched (lanes_for chosen) ws b && bit value b)
joined_words chosen value [] b = refl
joined_words chosen value (w ∷ ws) b =
    ap (λ t. t || joined_bit chosen ws (map (word_of chosen value) ws) b) (brought (lanes_for chosen w) (bit value) b)
    ∙ ap (λ t. (lane_bit (lanes_for chosen w) b && bit value b) || t) (joined_words chosen value ws b)
    ∙ shared (lane_bit (lanes_for chosen w) b) (are_touched (lanes_for chosen) ws b) (bit value b)

written_back : (l : LayoutData) (place value : ℕ) → IsHere l place 0 → value < 256 ^ (place_at l place).bytes →
    joined l place 0 (all_bytes (place_at l place).bytes) (map (word_of (all_bytes (place_at l place).bytes) value) (sent_of l place 0 (all_bytes (place_at l place).bytes))) ≡ value
unfolding joined sent_of
written_back l place value here fits =
    let bytes = (place_at l place).bytes in
    let ws = sent_words (all_bytes bytes) (words_of l place 0) in
    let low : value < 2 ^ (8 * bytes) = subst (λ n. value < n) (sym (bytes_bits bytes)) fits in
    let top : 2 ^ (8 * bytes) ≤ 2 ^ 64 = pow_mono {i = 8 * bytes} {j = 64} (omega (arith, here.row.most)) in
    sym (is_from_bits 64 value (joined_bit (all_bytes bytes) ws (map (word_of (all_bytes bytes) value) ws)) (omega (arith, low, top))
    (λ b small. sym (joined_words (all_bytes bytes) value ws b
    ∙ ap (λ t. t && bit value b) (sent_touches (all_bytes bytes) (words_of l place 0) b)
    ∙ ap (λ t. (t && bit (all_bytes bytes) (b / 8)) && bit value b) (here.words.reach b)
    ∙ ap (λ t. (ltb (b / 8) bytes && t) && bit value b) (bit-mask bytes (b / 8))
    ∙ by bytes b low (cases_lt (b / 8) bytes))))
  where
    by : (bytes b : ℕ) → value < 2 ^ (8 * bytes) → (b / 8 < bytes) ⊎ (bytes ≤ b / 8) → ((ltb (b / 8) bytes && ltb (b / 8) bytes) && bit value b) ≡ bit value b
    by bytes b low (inl inside) = let e : ltb (b / 8) bytes ≡ true = grind (arith, nat_tests) in ap (λ t. (t && t) && bit value b) e
    by bytes b low (inr past) =
        let e : ltb (b / 8) bytes ≡ false = grind (arith, nat_tests) in
        let above : bit value b ≡ false = bit-above value (8 * bytes) b low (omega arith) in
        ap (λ t. (t && t) && bit value b) e ∙ sym above

-- ---- the words that the items tell

abbrev AllGo : Bool → List BusOp → Type 0
AllGo write [] = Unit {0}
AllGo write (op ∷ ops) = (op.write ≡ write) × AllGo write ops

go_all : (l : LayoutData) (place chosen value : ℕ) (write : Bool) (ws : List Word) → AllGo write (map (op_of l place chosen value write) ws)
go_all l place chosen value write [] = tt
go_all l place chosen value write (w ∷ ws) = (refl, go_all l place chosen value write ws)

unfoldable pub told_of : TraceItem → ℕ
told_of item = word_told item.op item.answer

abbrev pub op_in : TraceItem → BusOp
op_in item = item.op

abbrev word_in : BusOp → ℕ
word_in op = op.word

told_read : (items : List TraceItem) → AllGo false (map op_in items) → map told_of items ≡ words_answered items
unfolding told_of
told_read [] go = refl
told_read (item ∷ items) go = ap (λ t. (if t then item.op.word else item.answer.word) ∷ map told_of items) go.0 ∙ ap (λ xs. item.answer.word ∷ xs) (told_read items go.1)

told_write : (items : List TraceItem) → AllGo true (map op_in items) → map told_of items ≡ map word_in (map op_in items)
unfolding told_of
told_write [] go = refl
told_write (item ∷ items) go = ap (λ t. (if t then item.op.word else item.answer.word) ∷ map told_of items) go.0 ∙ ap (λ xs. item.op.word ∷ xs) (told_write items go.1)

words_in : (l : LayoutData) (place chosen value : ℕ) (ws : List Word) → map word_in (map (op_of l place chosen value true) ws) ≡ map (word_of chosen value) ws
words_in l place chosen value [] = refl
words_in l place chosen value (w ∷ ws) = ap (λ xs. word_of chosen value w ∷ xs) (words_in l place chosen value ws)

-- ---- one after another

-- the operations have the direction and the addresses of the place's words
record AreWordsOf (l : LayoutData) (place : ℕ) (write : Bool) (ops : List BusOp) : Type 0 where
  count : length ops ≡ length (words_of l place 0)
  direction : (k : ℕ) → k < length ops → (get_or ops k no_op).write ≡ write
  address : (k : ℕ) → k < length ops → (get_or ops k no_op).address ≡ (get_or (words_of l place 0) k no_word).address

-- a register place that is watched
record IsWatched (l : LayoutData) (place : ℕ) (write : Bool) : Type 0 where
  words : HasWords l place 0
  there : IsRegisterPlace l place
  explicit : (port_at l (place_at l place).port).explicit ≡ true
  right : has_right (place_at l place).rights write ≡ true

none_left : (k : ℕ) (ops : List BusOp) → k < length ops → [] ≡ drop k ops → ⊥
none_left k ops inside e = let n : 0 ≡ length (drop k ops) = ap length e in omega (arith, n, length-drop k ops)

last_left : (k : ℕ) (ops : List BusOp) → k < length ops → [] ≡ drop (k + 1) ops → length ops ≡ k + 1
last_left k ops inside e = let n : 0 ≡ length (drop (k + 1) ops) = ap length e in omega (arith, n, length-drop (k + 1) ops)

more_left : (k : ℕ) (op : BusOp) (rest ops : List BusOp) → op ∷ rest ≡ drop (k + 1) ops → k + 1 < length ops
more_left k op rest ops e = let n : suc (length rest) ≡ length (drop (k + 1) ops) = ap length e in omega (arith, n, length-drop (k + 1) ops)

not_whole : (a b : ℕ) → a < b → eqb a b ≡ false
not_whole a b low = grind (arith, nat_tests)

unfoldable pub list_of : Bool → List ℕ → Gathered
list_of write words = record { write = write; words = words }

-- what follows a word that was taken
after_one : (c : ChipData) (l : LayoutData) (place k : ℕ) (write : Bool) (ops : List BusOp) (items : List TraceItem) (words : List ℕ) (gathered : List Gathered) (m : MirrorData) →
    map op_in items ≡ drop (k + 1) ops → length words ≡ k + 1 →
    length ops ≡ length (words_of l place 0) → k < length ops →
    (k + 1 < length ops → observed_all c l (place_at l place).port items (set gathered place (list_of write words)) m ≡ seen (set (set gathered place (list_of write words)) place no_words)
    (predicted c l place (list_of write (words ++ map told_of items)) m)) →
    observed_all c l (place_at l place).port items (taken_in c l place (list_of write words) gathered m).gathered (taken_in c l place (list_of write words) gathered m).mirror ≡ seen
    (set gathered place no_words) (predicted c l place (list_of write (words ++ map told_of items)) m)
unfolding list_of
after_one c l place k write ops [] words gathered m left long count inside rest =
    let whole : is_whole l place (list_of write words) ≡ true = eq-eqb (length words) (length (words_of l place 0)) (long ∙ sym (last_left k ops inside left) ∙ count) in
    ap (λ t. let s : Seen = if t then seen (set gathered place no_words) (predicted c l place (list_of write words) m) else seen (set gathered place (list_of write words)) m in seen s.gathered
    s.mirror) whole
    ∙ ap (λ ws. seen (set gathered place no_words) (predicted c l place (list_of write ws) m)) (sym (append-nil words))
after_one c l place k write ops (item ∷ items) words gathered m left long count inside rest =
    let longer : k + 1 < length ops = more_left k item.op (map op_in items) ops left in
    let part : is_whole l place (list_of write words) ≡ false = not_whole (length words) (length (words_of l place 0)) (omega (arith, long, longer, count)) in
    ap (λ t. let s : Seen = if t then seen (set gathered place no_words) (predicted c l place (list_of write words) m) else seen (set gathered place (list_of write words)) m in observed_all c l
    (place_at l place).port (item ∷ items) s.gathered s.mirror) part
    ∙ rest longer
    ∙ ap (λ gs. seen gs (predicted c l place (list_of write (words ++ map told_of (item ∷ items))) m)) (set-set gathered place (list_of write words) no_words)

turned : (g : Gathered) (w v : Bool) → (g.write ≡ w) ⊎ (g ≡ no_words) → w ≡ v → (g.write ≡ v) ⊎ (g ≡ no_words)
turned g w v (inl e) f = inl (e ∙ f)
turned g w v (inr e) f = inr e

going : (c : ChipData) (l : LayoutData) (place : ℕ) (write : Bool) (ops : List BusOp) → IsWatched l place write → AreWordsOf l place write ops →
    (items : List TraceItem) (k : ℕ) (g : Gathered) (gathered : List Gathered) (m : MirrorData) → map op_in items ≡ drop k ops → has_failed items ≡ false → length g.words ≡ k → k < length ops →
    (g.write ≡ write) ⊎ (g ≡ no_words) →
    place < length gathered → gathered_at gathered place ≡ g →
    observed_all c l (place_at l place).port items gathered m ≡ seen (set gathered place no_words) (predicted c l place (list_of write (g.words ++ map told_of items)) m)
unfolding told_of list_of
going c l place write ops watch are [] k g gathered m left quiet count inside way room at = absurd (none_left k ops inside left)
going c l place write ops watch are (item ∷ items) k g gathered m left quiet count inside way room at =
    let split : item.op ∷ map op_in items ≡ get_or ops k no_op ∷ drop (k + 1) ops = left ∙ drop_more ops k no_op inside in
    let op_is : item.op ≡ get_or ops k no_op = cc in
    let rest_is : map op_in items ≡ drop (k + 1) ops = cc in
    let direction : item.op.write ≡ write = ap (λ (o : BusOp). o.write) op_is ∙ are.direction k inside in
    let address : item.op.address ≡ (get_or (words_of l place 0) k no_word).address = ap (λ (o : BusOp). o.address) op_is ∙ are.address k inside in
    let next : is_next l place item.op g ≡ true =
    eq-eqb (get_or (words_of l place 0) (length g.words) no_word).address item.op.address (ap (λ n. (get_or (words_of l place 0) n no_word).address) count ∙ sym address)
    in
    let words = g.words ++ told_of item ∷ [] in
    let more = list_of write words in
    let once : observed c l (place_at l place).port item.op item.answer gathered m ≡ taken_in c l place more gathered m =
    one_observed c l (place_at l place).port place item.op item.answer gathered m g
    (watched_is l place k write item.op watch.words watch.there watch.explicit watch.right (subst (λ n. k < n) are.count inside) direction address)
    (or_first item.answer.failed (has_failed items) quiet) at (turned g write item.op.write way (sym direction)) next
    ∙ ap (λ w. taken_in c l place (list_of w words) gathered m) direction
    in
    let long : length words ≡ k + 1 = length_push g.words (told_of item) ∙ ap (λ n. n + 1) count in
    ap (λ (s : Seen). observed_all c l (place_at l place).port items s.gathered s.mirror) once
    ∙ after_one c l place k write ops items words gathered m rest_is long are.count inside
    (λ longer. going c l place write ops watch are items (k + 1) more (set gathered place more) m rest_is (or_second item.answer.failed (has_failed items) quiet) long longer (inl refl)
    (subst (λ n. place < n) (sym (length-set gathered place more)) room) (get_or-set_same gathered place more no_words room))
    ∙ ap (λ ws. seen (set gathered place no_words) (predicted c l place (list_of write ws) m)) (append_assoc g.words (told_of item ∷ []) (map told_of items))

-- ---- a whole access

ops_are : (l : LayoutData) (place chosen value : ℕ) (write : Bool) (ops : List BusOp) → ops ≡ map (op_of l place chosen value write) (words_of l place 0) → AreWordsOf l place write ops
ops_are l place chosen value write ops is =
    subst (λ all. AreWordsOf l place write all) (sym is)
    (record {
      count = length-map (words_of l place 0) (op_of l place chosen value write);
      direction = λ k inside. ap (λ (o : BusOp). o.write) (at k inside);
      address = λ k inside. ap (λ (o : BusOp). o.address) (at k inside);
    })
  where
    at : (k : ℕ) → k < length (map (op_of l place chosen value write) (words_of l place 0)) → get_or (map (op_of l place chosen value write) (words_of l place 0)) k no_op ≡ op_of l place chosen value
        write (get_or (words_of l place 0) k no_word)
    at k inside = get_or-map (op_of l place chosen value write) (words_of l place 0) k no_word no_op (subst (λ n. k < n) (length-map (words_of l place 0) (op_of l place chosen value write)) inside)

pub word_ops_are : (l : LayoutData) (place : ℕ) (value : Option ℕ) → IsHere l place 0 → word_ops l place value ≡ map (op_of l place (all_bytes (place_at l place).bytes) (unwrap_or value 0)
    (is_some value)) (words_of l place 0)
unfolding ops_of sent_of
word_ops_are l place value here = ap (map (op_of l place (all_bytes (place_at l place).bytes) (unwrap_or value 0) (is_some value))) (all_sent l place 0 here)

-- the item of a word of a watched place is found to be the place's
pub word_watched : (l : LayoutData) (place : ℕ) (op : BusOp) → IsSound l → IsRegisterPlace l place → IsWordOf l place op → (port_at l (place_at l place).port).explicit ≡ true →
    has_right (place_at l place).rights op.write ≡ true → watched_place l (place_at l place).port op ≡ Some place
word_watched l place op sound there (value, k, at) explicit right =
    let here = is_here l place 0 sound (first_of_place l place sound there.inside) in
    let ops = word_ops l place value in
    let are : AreWordsOf l place (is_some value) ops = ops_are l place (all_bytes (place_at l place).bytes) (unwrap_or value 0) (is_some value) ops (word_ops_are l place value here) in
    let inside : k < length ops = slice_get_within ops k op at in
    let address : op.address ≡ (get_or (words_of l place 0) k no_word).address =
    ap (λ (o : BusOp). o.address) (sym (get_or_from_slice_get ops k op no_op at)) ∙ are.address k inside in
    watched_is l place k op.write op here.words there explicit right (subst (λ n. k < n) are.count inside) refl address

pub implied_is : (c : ChipData) (l : LayoutData) (place : ℕ) (value : Option ℕ) (items : List TraceItem) (m : MirrorData) → IsHere l place 0 → unwrap_or value 0 < 256 ^ (place_at l place).bytes →
    map op_in items ≡ word_ops l place value →
    predicted c l place (list_of (is_some value) (map told_of items)) m ≡ implied c l place value items m
unfolding list_of ops_of
implied_is c l place None items m here fits ops =
    let go : AllGo false (map op_in items) = subst (AllGo false) (sym ops) (go_all l place (all_bytes (place_at l place).bytes) 0 false (sent_of l place 0 (all_bytes (place_at l place).bytes))) in
    ap (λ ws. predict_read c (reg_in (place_at l place).item) (joined l place 0 (all_bytes (place_at l place).bytes) ws) every_field m) (told_read items go)
implied_is c l place (Some value) items m here fits ops =
    let chosen = all_bytes (place_at l place).bytes in
    let go : AllGo true (map op_in items) = subst (AllGo true) (sym ops) (go_all l place chosen value true (sent_of l place 0 chosen)) in
    let words : map told_of items ≡ map (word_of chosen value) (sent_of l place 0 chosen) = told_write items go ∙ ap (map word_in) ops ∙ words_in l place chosen value (sent_of l place 0 chosen) in
    ap (λ v. predict_write c (reg_in (place_at l place).item) v every_field m) (ap (joined l place 0 chosen) words ∙ written_back l place value here fits)

pub whole_access_predicts : WholeAccessPredicts
whole_access_predicts c l place value items gathered m access room at =
    let here = is_here l place 0 access.layout (first_of_place l place access.layout access.place_is.inside) in
    let ops_is : map op_in items ≡ map (op_of l place (all_bytes (place_at l place).bytes) (unwrap_or value 0) (is_some value)) (words_of l place 0) = access.ops ∙ word_ops_are l place value here in
    let are : AreWordsOf l place (is_some value) (map op_in items) = ops_are l place (all_bytes (place_at l place).bytes) (unwrap_or value 0) (is_some value) (map op_in items) ops_is in
    let watch : IsWatched l place (is_some value) = record { words = here.words; there = access.place_is; explicit = access.explicit; right = access.right } in
    going c l place (is_some value) (map op_in items) watch are items 0 no_words gathered m refl access.quiet refl (omega (arith, are.count, here.words.some)) (inr refl) room at
    ∙ ap (λ gs. seen gs (predicted c l place (list_of (is_some value) (map told_of items)) m)) (ap (λ g. set gathered place g) (sym at) ∙ set-get_or gathered place no_words)
    ∙ ap (seen gathered) (implied_is c l place value items m here access.fits access.ops)
