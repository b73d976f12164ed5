-- The words that an access sends, over a device of the layout.
use Rattle.std.proofs.Common.{◌≡◌, ℕ, zero, suc, ◌-◌, ◌*◌, ◌/◌, ◌^◌, ◌<◌, ◌≤◌, ◌⊎◌, inl, inr, Bool, true, false, not, ◌&&◌, cond, eqb, ltb, List, [], ◌∷◌, length, get_or, map, Some, is_some, refl}
use Rattle.std.proofs.Common.{sym, ap, ◌∙◌, subst, arith, eq-eqb, eqb-true}
use Rattle.std.specs.Prelude.{All, slice_index, filter, bit_and}
use Rattle.std.proofs.lemmas.Bool.{cases_lt}
use Rattle.std.proofs.lemmas.Bool.Decides.{nat_tests}
use Rattle.std.proofs.lemmas.Nat.{and_le_r}
use Rattle.std.proofs.lemmas.List.Elements.{All-filter, filter_passes}
use Rattle.std.proofs.lemmas.List.{get_or-map, get_or_default}
use Rattle.rl_policy.specs.Bits.{bit}
use Rattle.rl_policy.proofs.BitLemmas.{bit-from_bits, bit-and, bit-above, bit-mask, from_bits-lt, same_from_bits, and_of_64}
use Rattle.rl_model.specs.Rows.{ChipData}
use Rattle.rl_bus.specs.declared.table.Cell.{Cell}
use Rattle.rl_bus.specs.declared.table.Lanes.{Lanes}
use Rattle.rl_bus.specs.Lanes.{IsWidth, all_lanes}
use Rattle.rl_bus.specs.Setup.{words_at}
use Rattle.rl_bus.specs.Spread.{lane_below}
use Rattle.rl_map.specs.declared.word.Word.{Word}
use Rattle.rl_map.specs.declared.rows.PortRow.{PortRow}
use Rattle.rl_map.specs.Layout.{LayoutData, place_at, port_at, no_port, words_of, row_of, standing, has_right, HasWords, IsLocation, IsPortOf, IsPlaceOf, IsSound}
use Rattle.rl_map.specs.Partition.{has_bit, have_bit}
use Rattle.rl_map.specs.Tables.{setup_of}
use Rattle.rl_map.specs.Words.{words_with, lanes_of, no_word}
use Rattle.rl_split.specs.Access.{all_bytes, chosen_lanes, lanes_for, has_chosen, sent_words, op_of, kind_of, bus_bytes_of, carries_lanes, enabled_lanes}
use Rattle.rl_split.specs.Law.{no_flaws}
use Rattle.rl_split.proofs.Turns.{IsTurn}
use Rattle.rl_map.proofs.Reaching.{some_has}

-- ---- lists

pub all_numbered : {A : Type 0} (P : A → Type 0) (xs : List A) (e : A) → ((k : ℕ) → k < length xs → P (get_or xs k e)) → All P xs
all_numbered P xs e h k d l = subst P (get_or_default xs k e d l) (h k l)

pub filter_all : {A : Type 0} (p : A → Bool) (xs : List A) → All (λ x. p x ≡ true) xs → filter p xs ≡ xs
filter_all p [] h = refl
filter_all {A} p (x ∷ xs) h =
    ap (λ t. cond t (x ∷ filter p xs) (filter p xs)) (h 0 x (omega arith)) ∙ ap (λ ys. x ∷ ys) (filter_all p xs (λ k d l. h (suc k) d (omega arith)))

filter_turned : {A : Type 0} (p q : A → Bool) (xs : List A) → filter q (filter p xs) ≡ filter p (filter q xs)
filter_turned p q [] = refl
filter_turned {A} p q (x ∷ xs) = by (p x) (q x) refl refl (filter_turned p q xs)
  where
    by : (a b : Bool) → p x ≡ a → q x ≡ b → filter q (filter p xs) ≡ filter p (filter q xs) → filter q (cond a (x ∷ filter p xs) (filter p xs)) ≡ filter p (cond b (x ∷ filter q xs) (filter q xs))
    by true true e f h = ap (λ t. cond t (x ∷ filter q (filter p xs)) (filter q (filter p xs))) f ∙ ap (λ ys. x ∷ ys) h ∙ sym (ap (λ t. cond t (x ∷ filter p (filter q xs)) (filter p (filter q xs))) e)
    by true false e f h = ap (λ t. cond t (x ∷ filter q (filter p xs)) (filter q (filter p xs))) f ∙ h
    by false true e f h = h ∙ sym (ap (λ t. cond t (x ∷ filter p (filter q xs)) (filter p (filter q xs))) e)
    by false false e f h = h

-- ---- words at addresses of their own

abbrev pub AreApart : List Word → Type 0
AreApart ws = (i k : ℕ) → i < length ws → k < length ws → (get_or ws i no_word).address ≡ (get_or ws k no_word).address → i ≡ k

none_there : (a : ℕ) (ws : List Word) → ((k : ℕ) → k < length ws → (get_or ws k no_word).address ≡ a → ⊥) → words_with a ws ≡ []
none_there a [] h = refl
none_there a (w ∷ ws) h = by (eqb w.address a) refl (none_there a ws (λ k l e. h (suc k) (omega arith) e))
  where
    by : (t : Bool) → eqb w.address a ≡ t → words_with a ws ≡ [] → cond t (w ∷ words_with a ws) (words_with a ws) ≡ []
    by true e rest = absurd (h 0 (omega arith) (eqb-true w.address a e))
    by false e rest = rest

pub alone_at : (ws : List Word) (i : ℕ) → AreApart ws → i < length ws → words_with (get_or ws i no_word).address ws ≡ get_or ws i no_word ∷ []
alone_at [] i apart l = absurd (omega arith)
alone_at (w ∷ ws) zero apart l =
    ap (λ t. cond t (w ∷ words_with w.address ws) (words_with w.address ws)) (eq-eqb w.address w.address refl)
    ∙ ap (λ xs. w ∷ xs) (none_there w.address ws (λ k l e. let same : suc k ≡ 0 = apart (suc k) 0 (omega arith) (omega arith) e in absurd (omega (arith, same))))
alone_at (w ∷ ws) (suc i) apart l =
    let a = (get_or ws i no_word).address in
    by (eqb w.address a) refl (alone_at ws i (λ j k m n e. let same : suc j ≡ suc k = apart (suc j) (suc k) (omega arith) (omega arith) e in omega (arith, same)) (omega arith))
  where
    by : (t : Bool) → eqb w.address (get_or ws i no_word).address ≡ t → words_with (get_or ws i no_word).address ws ≡ get_or ws i no_word ∷ [] →
        cond t (w ∷ words_with (get_or ws i no_word).address ws) (words_with (get_or ws i no_word).address ws) ≡ get_or ws i no_word ∷ []
    by true e rest = let same : 0 ≡ suc i = apart 0 (suc i) (omega arith) (omega arith) (eqb-true _ _ e) in absurd (omega (arith, same))
    by false e rest = rest

-- of the words at the address of one that is sent, those that are sent
abbrev pub IsAlike : List Word → List Word → Word → Type 0
IsAlike words sent w = words_with w.address words ≡ words_with w.address sent

pub alike_apart : (chosen : ℕ) (ws : List Word) → AreApart ws → All (IsAlike ws (sent_words chosen ws)) (sent_words chosen ws)
alike_apart chosen ws apart k d l =
    let sent = sent_words chosen ws in
    let w = get_or sent k d in
    let lone : words_with w.address ws ≡ w ∷ [] =
    All-filter (has_chosen chosen) (λ w. words_with w.address ws ≡ w ∷ []) ws (all_numbered (λ w. words_with w.address ws ≡ w ∷ []) ws no_word (λ i m. alone_at ws i apart m)) k d l in
    let passes : has_chosen chosen w ≡ true = filter_passes (has_chosen chosen) ws k d l in
    lone ∙ sym (filter_turned (has_chosen chosen) (λ v. eqb v.address w.address) ws ∙ ap (filter (has_chosen chosen)) lone ∙ ap (λ t. cond t (w ∷ []) []) passes)

-- ---- lanes

pub small_lanes : (n x : ℕ) → IsWidth n → x < 2 ^ n → x < 2 ^ 8
small_lanes n x (inl e) low = let h : x < 2 ^ 1 = rw e at low in omega (arith, h)
small_lanes n x (inr (inl e)) low = let h : x < 2 ^ 2 = rw e at low in omega (arith, h)
small_lanes n x (inr (inr (inl e))) low = let h : x < 2 ^ 4 = rw e at low in omega (arith, h)
small_lanes n x (inr (inr (inr e))) low = let h : x < 2 ^ 8 = rw e at low in h

all_small : (n : ℕ) → IsWidth n → 2 ^ n - 1 < 2 ^ 64
all_small n (inl e) = rw e (omega arith)
all_small n (inr (inl e)) = rw e (omega arith)
all_small n (inr (inr (inl e))) = rw e (omega arith)
all_small n (inr (inr (inr e))) = rw e (omega arith)

same_and : (a b : Bool) → ((a && b) && a) ≡ (a && b)
same_and true b = and_true b
  where
    and_true : (b : Bool) → (b && true) ≡ b
    and_true true = refl
    and_true false = refl
same_and false b = refl

pub chosen-lt : (chosen : ℕ) (w : Word) → chosen_lanes chosen w < 2 ^ 8
chosen-lt chosen w = from_bits-lt 8 _

-- the chosen lanes are lanes of the word
chosen_within : (chosen : ℕ) (w : Word) → bit_and (chosen_lanes chosen w) w.lanes ≡ chosen_lanes chosen w
chosen_within chosen w =
    same_from_bits 64 _ _ (and_of_64 (chosen_lanes chosen w) w.lanes (omega (arith, chosen-lt chosen w))) (omega (arith, chosen-lt chosen w))
    (λ i l. bit-and (chosen_lanes chosen w) w.lanes i ∙ by i (cases_lt i 8))
  where
    by : (i : ℕ) → (i < 8) ⊎ (8 ≤ i) → (bit (chosen_lanes chosen w) i && bit w.lanes i) ≡ bit (chosen_lanes chosen w) i
    by i (inl l) =
        let e : bit (chosen_lanes chosen w) i ≡ (bit w.lanes i && bit chosen (slice_index w.bytes i)) = bit-from_bits 8 _ i l in
        ap (λ t. t && bit w.lanes i) e ∙ same_and (bit w.lanes i) (bit chosen (slice_index w.bytes i)) ∙ sym e
    by i (inr l) =
        let e : bit (chosen_lanes chosen w) i ≡ false = bit-above (chosen_lanes chosen w) 8 i (chosen-lt chosen w) l in
        ap (λ t. t && bit w.lanes i) e ∙ sym e

-- so they are below what the word's are
pub chosen_below : (chosen : ℕ) (w : Word) (n : ℕ) → w.lanes < 2 ^ n → IsWidth n → chosen_lanes chosen w < 2 ^ n
chosen_below chosen w n low width =
    let top : bit_and (chosen_lanes chosen w) w.lanes ≤ w.lanes = and_le_r (chosen_lanes chosen w) w.lanes in
    omega (arith, top, chosen_within chosen w, low)

-- and the word's lanes are among all
lanes_within : (n x : ℕ) → IsWidth n → x < 2 ^ n → bit_and (2 ^ n - 1) x ≡ x
lanes_within n x width low =
    same_from_bits 64 _ _ (and_of_64 (2 ^ n - 1) x (all_small n width)) (omega (arith, small_lanes n x width low)) (λ i l. bit-and (2 ^ n - 1) x i ∙ ap (λ t. t && bit x i) (bit-mask n i) ∙ by i
    (cases_lt i n))
  where
    by : (i : ℕ) → (i < n) ⊎ (n ≤ i) → (ltb i n && bit x i) ≡ bit x i
    by i (inl l) = let e : ltb i n ≡ true = grind (arith, nat_tests) in ap (λ t. t && bit x i) e
    by i (inr l) = let e : bit x i ≡ false = bit-above x n i low l in ap (λ t. ltb i n && t) e ∙ and_false (ltb i n) ∙ sym e
      where
        and_false : (b : Bool) → (b && false) ≡ false
        and_false true = refl
        and_false false = refl

-- ---- bytes of the item

pub lane_there : (n l : ℕ) (s : Lanes) (j : ℕ) → l < n → bit s.enabled l ≡ true → slice_index s.bytes l ≡ j → is_some (lane_below n s j) ≡ true
unfolding lane_below
lane_there zero l s j low on is = absurd (omega arith)
lane_there (suc n) l s j low on is = by (bit s.enabled n && eqb (slice_index s.bytes n) j) refl (cases_lt l n) (λ less. lane_there n l s j less on is)
  where
    here : l ≡ n → (bit s.enabled n && eqb (slice_index s.bytes n) j) ≡ true
    here e = subst (λ n. (bit s.enabled n && eqb (slice_index s.bytes n) j) ≡ true) e (ap (λ t. t && eqb (slice_index s.bytes l) j) on ∙ eq-eqb _ j is)

    false_true : (t : Bool) → t ≡ false → t ≡ true → ⊥
    false_true t p q = cc

    by : (t : Bool) → (bit s.enabled n && eqb (slice_index s.bytes n) j) ≡ t → (l < n) ⊎ (n ≤ l) → (l < n → is_some (lane_below n s j) ≡ true) → is_some (cond t (Some n) (lane_below n s j)) ≡ true
    by true q side more = refl
    by false q (inl less) more = more less
    by false q (inr above) more = let h = here (omega arith) in absurd (false_true (bit s.enabled n && eqb (slice_index s.bytes n) j) q h)

-- each enabled lane carries a byte of the item
pub byte_in : (ws : List Word) (bytes k l : ℕ) → ((b : ℕ) → have_bit ws b ≡ ltb (b / 8) bytes) → k < length ws → l < 8 → bit (get_or ws k no_word).lanes l ≡ true →
    slice_index (get_or ws k no_word).bytes l < bytes
byte_in ws bytes k l reach inside low on =
    let w = get_or ws k no_word in
    let j = slice_index w.bytes l in
    let place : 8 * j / 8 ≡ j = omega arith in
    let has : has_bit w (8 * j) ≡ true = ap (λ q. is_some (lane_below 8 (lanes_of w) q)) place ∙ lane_there 8 l (lanes_of w) j low on refl in
    let e : ltb j bytes ≡ true = sym (ap (λ q. ltb q bytes) place) ∙ sym (reach (8 * j)) ∙ some_has ws k (8 * j) inside has in
    grind (arith, nat_tests)

-- where all bytes are chosen, so are all lanes
pub all_chosen : (w : Word) (bytes : ℕ) → w.lanes < 2 ^ 8 → ((l : ℕ) → l < 8 → bit w.lanes l ≡ true → slice_index w.bytes l < bytes) → chosen_lanes (all_bytes bytes) w ≡ w.lanes
all_chosen w bytes small inside =
    same_from_bits 8 _ _ (chosen-lt (all_bytes bytes) w) small
    (λ l low. bit-from_bits 8 _ l low ∙ ap (λ t. bit w.lanes l && t) (bit-mask bytes (slice_index w.bytes l)) ∙ by (bit w.lanes l) (slice_index w.bytes l) (inside l low))
  where
    by : (on : Bool) (j : ℕ) → (on ≡ true → j < bytes) → (on && ltb j bytes) ≡ on
    by true j h = let l = h refl in grind (arith, nat_tests)
    by false j h = refl

-- ---- over a layout

-- the words of a location, as a device of the layout has them
pub record IsHere (l : LayoutData) (place index : ℕ) : Type 0 where
  pub location : IsLocation l place index
  pub words : HasWords l place index
  pub row : IsPlaceOf l (place_at l place)
  pub port : IsPortOf l (port_at l (place_at l place).port)

pub is_here : (l : LayoutData) (place index : ℕ) → IsSound l → IsLocation l place index → IsHere l place index
is_here l place index sound at = record {
  location = at;
  words = sound.each_location place index at;
  row = sound.each_place place at.place_in;
  port = sound.each_port (place_at l place).port (sound.each_place place at.place_in).port_in;
}

-- the chosen lanes of each word are reached: enables are carried, or all bytes are chosen
pub record Reached (l : LayoutData) (place index chosen : ℕ) (write : Bool) : Type 0 where
  pub lanes : All (λ w. bit_and (enabled_lanes (carries_lanes (kind_of l place) write) (bus_bytes_of l place) chosen w) w.lanes ≡ chosen_lanes chosen w) (words_of l place index)
  pub alike : All (IsAlike (words_of l place index) (sent_words chosen (words_of l place index))) (sent_words chosen (words_of l place index))

word_lanes : (l : LayoutData) (place index k : ℕ) → IsHere l place index → k < length (words_of l place index) → (get_or (words_of l place index) k no_word).lanes < 2 ^ bus_bytes_of l place
word_lanes l place index k here inside = (here.words.on k no_word inside).enabled

pub whole_lanes : (l : LayoutData) (place index k : ℕ) → IsHere l place index → k < length (words_of l place index) →
    chosen_lanes (all_bytes (place_at l place).bytes) (get_or (words_of l place index) k no_word) ≡ (get_or (words_of l place index) k no_word).lanes
whole_lanes l place index k here inside =
    let words = words_of l place index in
    let bytes = (place_at l place).bytes in
    all_chosen (get_or words k no_word) bytes (small_lanes (bus_bytes_of l place) _ here.port.width (word_lanes l place index k here inside)) (λ j low on. byte_in words bytes k j here.words.reach
    inside low on)

-- where all bytes are chosen, each word is sent
pub whole_sent : (l : LayoutData) (place index : ℕ) → IsHere l place index → sent_words (all_bytes (place_at l place).bytes) (words_of l place index) ≡ words_of l place index
whole_sent l place index here =
    let words = words_of l place index in
    let bytes = (place_at l place).bytes in
    filter_all (has_chosen (all_bytes bytes)) words
    (all_numbered (λ w. has_chosen (all_bytes bytes) w ≡ true) words no_word (λ k inside. some_chosen (chosen_lanes (all_bytes bytes) (get_or words k no_word)) (omega (
      arith,
      whole_lanes l place index k here inside,
      (here.words.on k no_word inside).some,
    ))))
  where
    some_chosen : (x : ℕ) → 0 < x → not (eqb x 0) ≡ true
    some_chosen x low = grind (arith, nat_tests)

pub all_reached : (l : LayoutData) (place index : ℕ) (write : Bool) → IsHere l place index → Reached l place index (all_bytes (place_at l place).bytes) write
all_reached l place index write here =
    let words = words_of l place index in
    let bytes = (place_at l place).bytes in
    let n = bus_bytes_of l place in
    record {
      lanes = all_numbered (λ w. bit_and (enabled_lanes (carries_lanes (kind_of l place) write) n (all_bytes bytes) w) w.lanes ≡ chosen_lanes (all_bytes bytes) w) words no_word
          (λ k inside. either (carries_lanes (kind_of l place) write) (get_or words k no_word) bytes n here.port.width (word_lanes l place index k here inside) (whole_lanes l place index k here
          inside));
      alike = subst (λ ws. All (IsAlike words ws) ws) (sym (whole_sent l place index here)) (λ k d inside. refl);
    }
  where
    either : (carried : Bool) (w : Word) (bytes n : ℕ) → IsWidth n → w.lanes < 2 ^ n → chosen_lanes (all_bytes bytes) w ≡ w.lanes → bit_and (cond carried (chosen_lanes (all_bytes bytes) w)
        (2 ^ n - 1)) w.lanes ≡ chosen_lanes (all_bytes bytes) w
    either true w bytes n width low same = chosen_within (all_bytes bytes) w
    either false w bytes n width low same = lanes_within n w.lanes width low ∙ sym same

pub narrow_reached : (l : LayoutData) (place index chosen : ℕ) (write : Bool) → IsHere l place index → (place_at l place).fifo ≡ false → carries_lanes (kind_of l place) write ≡ true →
    Reached l place index chosen write
narrow_reached l place index chosen write here fifo carried =
    let words = words_of l place index in
    record {
      lanes = λ k d inside. ap (λ t. bit_and (cond t (chosen_lanes chosen (get_or words k d)) (all_lanes (bus_bytes_of l place))) (get_or words k d).lanes) carried ∙ chosen_within chosen
          (get_or words k d);
      alike = alike_apart chosen words (here.words.alone fifo);
    }

words_standing : (c : ChipData) (l : LayoutData) (port address : ℕ) (write : Bool) → words_at (setup_of c l no_flaws) port address write ≡ standing l port address write
unfolding setup_of
words_standing c l port address write = refl

port_width : (c : ChipData) (l : LayoutData) (port : ℕ) → port < length l.ports → (port_at l port).bytes ≡ slice_index (setup_of c l no_flaws).ports port
unfolding setup_of
port_width c l port inside = sym (get_or-map (λ (p : PortRow). p.bytes) l.ports port no_port 0 inside)

abbrev lanes : ℕ → List ℕ → Lanes
lanes enabled bytes = record { enabled = enabled; bytes = bytes }

-- each operation of the access is a turn of its word
pub turns : (c : ChipData) (l : LayoutData) (place index chosen value : ℕ) (write : Bool) (cell : Cell) → IsHere l place index → has_right (place_at l place).rights write ≡ true → ((w : Word) →
    (row_of l place index w).cell ≡ cell) → Reached l place index chosen write →
    All (IsTurn (setup_of c l no_flaws) (place_at l place).port write cell (row_of l place index) (op_of l place chosen value write) (lanes_for chosen) (sent_words chosen (words_of l place index)))
    (sent_words chosen (words_of l place index))
turns c l place index chosen value write cell here right cells reached =
    let words = words_of l place index in
    let port = (place_at l place).port in
    let t = setup_of c l no_flaws in
    let stood : All (λ w. words_at t port w.address write ≡ map (row_of l place index) (words_with w.address words)) words =
    all_numbered (λ w. words_at t port w.address write ≡ map (row_of l place index) (words_with w.address words)) words no_word
    (λ k inside. words_standing c l port (get_or words k no_word).address write ∙ here.words.found write k inside right) in
    λ k d inside.
    let w = get_or (sent_words chosen words) k d in
    record {
      address = refl;
      write_is = refl;
      width = port_width c l port here.row.port_in;
      rows = All-filter (has_chosen chosen) (λ w. words_at t port w.address write ≡ map (row_of l place index) (words_with w.address words)) words stood k d inside ∙ ap (map (row_of l place index))
          (reached.alike k d inside);
      cell_is = cells w;
      lanes_are = ap (λ e. lanes e w.bytes) (All-filter (has_chosen chosen) (λ w. bit_and (enabled_lanes (carries_lanes (kind_of l place) write) (bus_bytes_of l place) chosen w) w.lanes ≡
          chosen_lanes chosen w) words reached.lanes k d inside);
    }
