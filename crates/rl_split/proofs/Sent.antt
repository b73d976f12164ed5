-- The words of an access that are sent, one after another.
use Rattle.std.proofs.Common.{◌≡◌, ℕ, zero, suc, ◌+◌, ◌-◌, ◌*◌, ◌/◌, ◌%◌, ◌^◌, ◌<◌, ◌≤◌, ◌⊎◌, inl, inr, Bool, true, false, not, ◌&&◌, ◌||◌, cond, eqb, ltb, List, [], ◌∷◌, ◌++◌, length, get_or, take}
use Rattle.std.proofs.Common.{map, Option, Some, None, option_map, subst, refl, sym, ap, ◌∙◌, arith, rules, eqb-true, append-nil, drop, min, length-take, length-append}
use Rattle.std.specs.Prelude.{All, count_by, slice_get, slice_index, IsFalse, bit_or}
use Rattle.std.proofs.Math.Pow.{pow_mono}
use Rattle.std.proofs.Math.Nat.{pow-suc, div-lt_iff_lt-mul}
use Rattle.std.proofs.lemmas.Bool.{cases_lt}
use Rattle.std.proofs.lemmas.Bool.Decides.{nat_tests}
use Rattle.std.proofs.lemmas.List.{take_all, take_more, take-append-drop, length-map}
use Rattle.std.proofs.lemmas.List.Sums.{length-filter, count_by-le-length}
use Rattle.std.proofs.lemmas.List.Elements.{filter_more, filter-append, All-filter}
use Rattle.std.proofs.lemmas.Nat.{pow-add, or_lt}
use Rattle.std.proofs.lemmas.Option.{slice_get_within, slice_get-get_or, slice_get-map, get_or_from_slice_get}
use Rattle.rl_policy.specs.Bits.{bit, from_bits}
use Rattle.rl_policy.proofs.BitLemmas.{bit-from_bits, bit-above, bit-mod, bit-ones, bit-shr, bit-zero, from_bits-lt, is_from_bits, same_from_bits}
use Rattle.rl_bus.specs.declared.op.AdapterKind.{AdapterKind}
use Rattle.rl_bus.specs.declared.op.BusOp.{BusOp}
use Rattle.rl_bus.specs.declared.table.Lanes.{Lanes}
use Rattle.rl_bus.specs.Lanes.{HasOnlyLanes, IsWidth}
use Rattle.rl_bus.specs.Spread.{lane_bit, spread_bit, gathered_bit}
use Rattle.rl_bus.specs.Wire.{Fits}
use Rattle.rl_map.specs.declared.word.Word.{Word}
use Rattle.rl_map.specs.Layout.{LayoutData, words_of, place_at, IsSound, IsLocation}
use Rattle.rl_map.specs.Partition.{have_bit, IsWordOn}
use Rattle.rl_map.specs.Words.{no_word}
use Rattle.rl_split.specs.Access.{chosen_lanes, lanes_for, has_chosen, sent_words, op_for, op_of, kind_of, bus_bytes_of, joined_bit, joined, IsChoice, ops_of, sent_of, enabled_lanes}
use Rattle.rl_split.specs.Outgoing.{IsOutgoingOn, outgoing_ops, words_in, word_in, outgoing_word, sent_as, sent_of_first}
use Rattle.rl_split.specs.declared.access.OutgoingWord.{OutgoingWord}
use Rattle.rl_split.specs.declared.access.Outgoing.{Outgoing}
use Rattle.rl_split.proofs.Chosen.{sent_touches}
use Rattle.rl_split.proofs.ReadRuns.{none_spread}
use Rattle.rl_split.proofs.Sending.{IsHere, is_here, chosen_below}
use Rattle.rl_split.proofs.WriteRuns.{are_touched}

-- ---- one word more

pub more_sent : (chosen k : ℕ) (ws : List Word) (w : Word) → slice_get ws k ≡ Some w → sent_words chosen (take (k + 1) ws) ≡ sent_words chosen (take k ws) ++ cond (has_chosen chosen w) (w ∷ []) []
more_sent chosen k ws w e =
    filter_more (has_chosen chosen) ws k no_word (slice_get_within ws k w e)
    ∙ ap (λ v. sent_words chosen (take k ws) ++ cond (has_chosen chosen v) (v ∷ []) []) (get_or_from_slice_get ws k w no_word e)

pub one_more : (chosen k : ℕ) (ws : List Word) (w : Word) → slice_get ws k ≡ Some w → has_chosen chosen w ≡ true → sent_words chosen (take (k + 1) ws) ≡ sent_words chosen (take k ws) ++ w ∷ []
one_more chosen k ws w e on = more_sent chosen k ws w e ∙ ap (λ t. sent_words chosen (take k ws) ++ cond t (w ∷ []) []) on

pub no_more : (chosen k : ℕ) (ws : List Word) (w : Word) → slice_get ws k ≡ Some w → has_chosen chosen w ≡ false → sent_words chosen (take (k + 1) ws) ≡ sent_words chosen (take k ws)
no_more chosen k ws w e off = more_sent chosen k ws w e ∙ ap (λ t. sent_words chosen (take k ws) ++ cond t (w ∷ []) []) off ∙ append-nil (sent_words chosen (take k ws))

-- whether it has a chosen byte
pub is_sent : (chosen : ℕ) (w : Word) (lanes : Lanes) → lanes ≡ lanes_for chosen w → (lanes.enabled ≡ 0 → ⊥) → has_chosen chosen w ≡ true
is_sent chosen w lanes is some = by (eqb (chosen_lanes chosen w) 0) refl
  where
    by : (t : Bool) → eqb (chosen_lanes chosen w) 0 ≡ t → not t ≡ true
    by true e = absurd (some (ap (λ (s : Lanes). s.enabled) is ∙ eqb-true (chosen_lanes chosen w) 0 e))
    by false e = refl

pub is_left_out : (chosen : ℕ) (w : Word) (lanes : Lanes) → lanes ≡ lanes_for chosen w → lanes.enabled ≡ 0 → has_chosen chosen w ≡ false
is_left_out chosen w lanes is none = let e : chosen_lanes chosen w ≡ 0 = sym (ap (λ (s : Lanes). s.enabled) is) ∙ none in ap (λ n. not (eqb n 0)) e

-- ---- the operations

abbrev pub Pair : Type 0
Pair = BusOp × ℕ

pub firsts : (op : Word → BusOp) (ws : List Word) → map (λ (p : Pair). p.0) (map (λ w. (op w, w.order)) ws) ≡ map op ws
firsts op [] = refl
firsts op (w ∷ ws) = ap (λ xs. op w ∷ xs) (firsts op ws)

pub seconds : (op : Word → BusOp) (ws : List Word) → map (λ (p : Pair). p.1) (map (λ w. (op w, w.order)) ws) ≡ map (λ w. w.order) ws
seconds op [] = refl
seconds op (w ∷ ws) = ap (λ xs. w.order ∷ xs) (seconds op ws)

-- what is kept of the words of an access: the operation and the order of each that is sent
pub record IsKept (l : LayoutData) (place index chosen value : ℕ) (write : Bool) (kept : List Pair) : Type 0 where
  pub pairs : kept ≡ map (λ w. (op_of l place chosen value write w, w.order)) (sent_words chosen (words_of l place index))
  pub ops : map (λ (p : Pair). p.0) kept ≡ map (op_of l place chosen value write) (sent_words chosen (words_of l place index))
  pub orders : map (λ (p : Pair). p.1) kept ≡ map (λ w. w.order) (sent_words chosen (words_of l place index))

-- once the words are gone through
pub all_kept : (l : LayoutData) (place index chosen value k : ℕ) (write : Bool) (kept : List Pair) → length (words_of l place index) ≤ k →
    kept ≡ map (λ w. (op_of l place chosen value write w, w.order)) (sent_words chosen (take k (words_of l place index))) → IsKept l place index chosen value write kept
all_kept l place index chosen value k write kept end is =
    let op = op_of l place chosen value write in
    let words = words_of l place index in
    let pair : Word → Pair = λ w. (op w, w.order) in
    let all : kept ≡ map pair (sent_words chosen words) = is ∙ ap (λ ws. map pair (sent_words chosen ws)) (take_all k words end) in
    record { pairs = all; ops = ap (map (λ (p : Pair). p.0)) all ∙ firsts op (sent_words chosen words); orders = ap (map (λ (p : Pair). p.1)) all ∙ seconds op (sent_words chosen words) }

-- ---- some word is sent

none_chosen : (chosen bytes j : ℕ) → ((b : ℕ) → (ltb (b / 8) bytes && bit chosen (b / 8)) ≡ false) → chosen < 2 ^ bytes → bit chosen j ≡ false
none_chosen chosen bytes j none within = by (cases_lt j bytes)
  where
    place : 8 * j / 8 ≡ j
    place = omega arith

    inside : (t c : Bool) → t ≡ true → (t && c) ≡ false → c ≡ false
    inside true c e f = f
    inside false c e f = cc

    by : (j < bytes) ⊎ (bytes ≤ j) → bit chosen j ≡ false
    by (inl l) = let e : ltb j bytes ≡ true = grind (arith, nat_tests) in inside (ltb j bytes) (bit chosen j) e (ap (λ q. ltb q bytes && bit chosen q) (sym place) ∙ none (8 * j))
    by (inr l) = bit-above chosen bytes j within l

pub some_sent : (chosen bytes : ℕ) (ws : List Word) → bytes ≤ 8 → IsChoice bytes chosen → ((b : ℕ) → have_bit ws b ≡ ltb (b / 8) bytes) → 0 < length (sent_words chosen ws)
some_sent chosen bytes ws most choice reach = by (sent_words chosen ws) refl
  where
    by : (sent : List Word) → sent_words chosen ws ≡ sent → 0 < length sent
    by (w ∷ more) e = omega arith
    by [] e =
        let none : (b : ℕ) → (ltb (b / 8) bytes && bit chosen (b / 8)) ≡ false =
        λ b. ap (λ t. t && bit chosen (b / 8)) (sym (reach b)) ∙ sym (sent_touches chosen ws b) ∙ ap (λ sent. are_touched (lanes_for chosen) sent b) e in
        let top : 2 ^ bytes ≤ 2 ^ 8 = pow_mono {i = bytes} {j = 8} most in
        let zero_is : chosen ≡ 0 = same_from_bits 8 chosen 0 (omega (arith, top, choice.within)) (omega arith) (λ j l. none_chosen chosen bytes j none choice.within ∙ sym (bit-zero j)) in
        absurd (omega (arith, zero_is, choice.some))

-- ---- operations fit their kind

one_lane_off : (lanes : ℕ) → lanes % 2 ≡ 0 → bit lanes 0 ≡ false
one_lane_off lanes e = sym (bit-mod lanes 1 0 (omega arith)) ∙ ap (λ n. bit n 0) e ∙ bit-zero 0

only_lanes : (n lanes word : ℕ) → word < 256 ^ n → ((b : ℕ) → bit lanes (b / 8) ≡ false → bit word b ≡ false) → HasOnlyLanes n lanes word
unfolding HasOnlyLanes
only_lanes zero lanes word small off = omega (arith, small)
only_lanes (suc n) lanes word small off =
    let low : word < 256 ^ n * 256 = rw (sym (pow-suc 256 n)) small in (
      λ e.
          let none = one_lane_off lanes e in
          same_from_bits 8 (word % 256) 0 (omega arith) (omega arith) (λ i l. bit-mod word 8 i l ∙ off i (let at : i / 8 ≡ 0 = omega arith in ap (bit lanes) at ∙ none) ∙ sym (bit-zero i)),
      only_lanes n (lanes / 2) (word / 256) ((div-lt_iff_lt-mul {k = 256} {x = word} {y = 256 ^ n} (omega arith)).1 low)
          (λ b e. let at : (8 + b) / 8 ≡ 1 + b / 8 = omega arith in bit-shr word 8 b ∙ off (8 + b) (ap (bit lanes) at ∙ sym (bit-shr lanes 1 (b / 8)) ∙ e)),
    )

pub pow-bytes : (n : ℕ) → 256 ^ n ≡ 2 ^ (8 * n)
pow-bytes zero = refl
pow-bytes (suc n) =
    let more : 8 * suc n ≡ 8 * n + 8 = omega arith in
    pow-suc 256 n ∙ ap (λ x. x * 256) (pow-bytes n) ∙ sym (pow-add 2 (8 * n) 8) ∙ ap (λ k. 2 ^ k) (sym more)

-- a number whose bits from k on are 0
pub below_bits : (k : ℕ) (f : ℕ → Bool) → k ≤ 64 → ((b : ℕ) → b < 64 → k ≤ b → f b ≡ false) → from_bits 64 f < 2 ^ k
below_bits k f most off =
    let top : 2 ^ k ≤ 2 ^ 64 = pow_mono {i = k} {j = 64} most in
    let small = from_bits-lt k f in
    let same : from_bits 64 f ≡ from_bits k f = same_from_bits 64 (from_bits 64 f) (from_bits k f) (from_bits-lt 64 f) (omega (arith, top, small)) (λ b l. bit-from_bits 64 f b l ∙ by b l
    (cases_lt b k)) in
    rw same small
  where
    by : (b : ℕ) → b < 64 → (b < k) ⊎ (k ≤ b) → f b ≡ bit (from_bits k f) b
    by b l (inl low) = sym (bit-from_bits k f b low)
    by b l (inr high) = off b l high ∙ sym (bit-above (from_bits k f) k b (from_bits-lt k f) high)

width_most : (n : ℕ) → IsWidth n → n ≤ 8
width_most n (inl e) = omega (arith, e)
width_most n (inr (inl e)) = omega (arith, e)
width_most n (inr (inr (inl e))) = omega (arith, e)
width_most n (inr (inr (inr e))) = omega (arith, e)

lane_off : (s : Lanes) (f : ℕ → Bool) (b : ℕ) → bit s.enabled (b / 8) ≡ false → gathered_bit s f b ≡ false
lane_off s f b e = ap (λ t. t && f (8 * slice_index s.bytes (b / 8) + b % 8)) e

gathered_small : (n : ℕ) (s : Lanes) (f : ℕ → Bool) → IsWidth n → s.enabled < 2 ^ n → from_bits 64 (gathered_bit s f) < 256 ^ n
gathered_small n s f width low =
    rw (pow-bytes n) (below_bits (8 * n) (gathered_bit s f) (omega (arith, width_most n width)) (λ b l high. lane_off s f b (bit-above s.enabled n (b / 8) low (omega (arith, high)))))

word_only : (n : ℕ) (s : Lanes) (f : ℕ → Bool) (lanes : ℕ) → IsWidth n → s.enabled < 2 ^ n → ((i : ℕ) → bit lanes i ≡ false → bit s.enabled i ≡ false) →
    HasOnlyLanes n lanes (from_bits 64 (gathered_bit s f))
word_only n s f lanes width low within =
    only_lanes n lanes (from_bits 64 (gathered_bit s f)) (gathered_small n s f width low) (λ b e. by b e (cases_lt b 64))
  where
    by : (b : ℕ) → bit lanes (b / 8) ≡ false → (b < 64) ⊎ (64 ≤ b) → bit (from_bits 64 (gathered_bit s f)) b ≡ false
    by b e (inl l) = bit-from_bits 64 (gathered_bit s f) b l ∙ lane_off s f b (within (b / 8) e)
    by b e (inr l) = bit-above (from_bits 64 (gathered_bit s f)) 64 b (from_bits-lt 64 (gathered_bit s f)) l

none_only : (n lanes : ℕ) → HasOnlyLanes n lanes 0
none_only n lanes = only_lanes n lanes 0 (pow_some n) (λ b e. bit-zero b)
  where
    pow_some : (n : ℕ) → 0 < 256 ^ n
    pow_some n = rw (pow-bytes n) (omega (arith, from_bits-lt (8 * n) (λ b. false)))

-- the lanes of an operation are lanes of the bus, and have those of the word
enabled_fit : (carried : Bool) (n x : ℕ) → x < 2 ^ n → cond carried x (2 ^ n - 1) < 2 ^ n
enabled_fit true n x low = low
enabled_fit false n x low = omega (arith, low)

enabled_within : (carried : Bool) (n x i : ℕ) → x < 2 ^ n → bit (cond carried x (2 ^ n - 1)) i ≡ false → bit x i ≡ false
enabled_within true n x i low e = e
enabled_within false n x i low e = by (cases_lt i n)
  where
    clash : (t : Bool) → t ≡ false → t ≡ true → ⊥
    clash t p q = cc

    by : (i < n) ⊎ (n ≤ i) → bit x i ≡ false
    by (inl l) = absurd (clash (bit (2 ^ n - 1) i) e (bit-ones n i l))
    by (inr l) = bit-above x n i low l

not_carried : (carried : Bool) (x y : ℕ) → IsFalse carried → cond carried x y ≡ y
not_carried true x y e = absurd (search rules)
not_carried false x y e = refl

pub op_fits : (kind : AdapterKind) (n chosen value : ℕ) (write : Bool) (w : Word) → IsWidth n → n ≤ kind.most_bytes → IsWordOn kind n w → Fits kind (op_for kind n chosen value write w)
op_fits kind n chosen value true w width wide on =
    let low = chosen_below chosen w n on.enabled width in
    record {
      word = record {
        width = width;
        enabled = enabled_fit kind.write_lanes n (chosen_lanes chosen w) low;
        only = word_only n (lanes_for chosen w) (bit value) (enabled_lanes kind.write_lanes n chosen w) width low (λ i e. enabled_within kind.write_lanes n (chosen_lanes chosen w) i low e);
      };
      wide = wide;
      address = on.address;
      aligned = on.aligned;
      write_lanes = λ t e. not_carried kind.write_lanes (chosen_lanes chosen w) (2 ^ n - 1) e;
      read_lanes = λ t e. absurd (search rules);
      read_word = λ t. absurd (search rules);
    }
op_fits kind n chosen value false w width wide on =
    let low = chosen_below chosen w n on.enabled width in
    record {
      word = record { width = width; enabled = enabled_fit kind.read_lanes n (chosen_lanes chosen w) low; only = none_only n (enabled_lanes kind.read_lanes n chosen w) };
      wide = wide;
      address = on.address;
      aligned = on.aligned;
      write_lanes = λ t e. absurd (search rules);
      read_lanes = λ t e. not_carried kind.read_lanes (chosen_lanes chosen w) (2 ^ n - 1) e;
      read_word = λ t. refl;
    }

all_of_map : {A B : Type 0} (P : A → Type 0) (Q : B → Type 0) (f : A → B) (xs : List A) → ((x : A) → P x → Q (f x)) → All P xs → All Q (map f xs)
all_of_map P Q f [] each h i d l = absurd (omega (arith, l))
all_of_map {A} {B} P Q f (x ∷ xs) each h i d l = at i d l (all_of_map P Q f xs each (λ k e m. h (suc k) e (omega (arith, m))))
  where
    at : (i : ℕ) (d : B) → i < suc (length (map f xs)) → All Q (map f xs) → Q (get_or (f x ∷ map f xs) i d)
    at zero d l more = each x (h 0 x (omega arith))
    at (suc i) d l more = more i d (omega (arith, l))

pub ops_fit : (l : LayoutData) (place index chosen value : ℕ) (write : Bool) → IsHere l place index → All (Fits (kind_of l place)) (map (op_of l place chosen value write) (sent_words chosen
    (words_of l place index)))
ops_fit l place index chosen value write here =
    all_of_map (IsWordOn (kind_of l place) (bus_bytes_of l place)) (Fits (kind_of l place)) (op_of l place chosen value write) (sent_words chosen (words_of l place index))
    (λ w on. op_fits (kind_of l place) (bus_bytes_of l place) chosen value write w here.port.width here.port.wide on)
    (All-filter (has_chosen chosen) (IsWordOn (kind_of l place) (bus_bytes_of l place)) (words_of l place index) here.words.on)

-- ---- the value

joined_push : (chosen : ℕ) (ws : List Word) (answers : List ℕ) (w : Word) (answer b : ℕ) → length answers ≡ length ws → joined_bit chosen (ws ++ w ∷ []) (answers ++ answer ∷ []) b ≡
    (joined_bit chosen ws answers b || spread_bit (lanes_for chosen w) (bit answer) b)
joined_push chosen [] [] w answer b e = or_false (spread_bit (lanes_for chosen w) (bit answer) b)
  where
    or_false : (t : Bool) → (t || false) ≡ t
    or_false true = refl
    or_false false = refl
joined_push chosen [] (x ∷ answers) w answer b e = absurd (omega (arith, e))
joined_push chosen (v ∷ ws) [] w answer b e = absurd (omega (arith, e))
joined_push chosen (v ∷ ws) (x ∷ answers) w answer b e =
    ap (λ t. spread_bit (lanes_for chosen v) (bit x) b || t) (joined_push chosen ws answers w answer b (omega (arith, e)))
    ∙ or_assoc (spread_bit (lanes_for chosen v) (bit x) b) (joined_bit chosen ws answers b) (spread_bit (lanes_for chosen w) (bit answer) b)
  where
    or_assoc : (a b c : Bool) → (a || (b || c)) ≡ ((a || b) || c)
    or_assoc true b c = refl
    or_assoc false b c = refl

-- one answer more
pub value_more : (chosen : ℕ) (ws : List Word) (answers : List ℕ) (w : Word) (answer value bits more : ℕ) → length answers ≡ length ws → value ≡ from_bits 64 (joined_bit chosen ws answers) →
    bits ≡ from_bits 64 (spread_bit (lanes_for chosen w) (bit answer)) →
    more < 2 ^ 64 → ((b : ℕ) → bit more b ≡ (bit value b || bit bits b)) → more ≡ from_bits 64 (joined_bit chosen (ws ++ w ∷ []) (answers ++ answer ∷ []))
value_more chosen ws answers w answer value bits more long is spread small each =
    is_from_bits 64 more _ small
    (λ b l. each b
    ∙ ap (λ n. bit n b || bit bits b) is
    ∙ ap (λ t. t || bit bits b) (bit-from_bits 64 (joined_bit chosen ws answers) b l)
    ∙ ap (λ n. joined_bit chosen ws answers b || bit n b) spread
    ∙ ap (λ t. joined_bit chosen ws answers b || t) (bit-from_bits 64 (spread_bit (lanes_for chosen w) (bit answer)) b l)
    ∙ sym (joined_push chosen ws answers w answer b long))

pub none_joined : (chosen : ℕ) (ws : List Word) (answers : List ℕ) (b : ℕ) → are_touched (lanes_for chosen) ws b ≡ false → joined_bit chosen ws answers b ≡ false
none_joined chosen [] answers b e = refl
none_joined chosen (w ∷ ws) [] b e = refl
none_joined chosen (w ∷ ws) (x ∷ answers) b e =
    ap (λ t. t || joined_bit chosen ws answers b) (none_spread (lanes_for chosen w) (bit x) b (or_first (lane_bit (lanes_for chosen w) b) (are_touched (lanes_for chosen) ws b) e))
    ∙ none_joined chosen ws answers b (or_second (lane_bit (lanes_for chosen w) b) (are_touched (lanes_for chosen) ws b) e)
  where
    or_first : (x y : Bool) → (x || y) ≡ false → x ≡ false
    or_first true y e = e
    or_first false y e = refl

    or_second : (x y : Bool) → (x || y) ≡ false → y ≡ false
    or_second true y e = absurd cc
    or_second false y e = e

-- the value has the item's bytes
pub joined_small : (chosen bytes : ℕ) (ws : List Word) (answers : List ℕ) → bytes ≤ 8 → ((b : ℕ) → have_bit ws b ≡ ltb (b / 8) bytes) → from_bits 64 (joined_bit chosen (sent_words chosen ws) answers)
    < 256 ^ bytes
joined_small chosen bytes ws answers most reach =
    rw (pow-bytes bytes) (below_bits (8 * bytes) (joined_bit chosen (sent_words chosen ws) answers) (omega (arith, most))
    (λ b l high. none_joined chosen (sent_words chosen ws) answers b (sent_touches chosen ws b ∙ ap (λ t. t && bit chosen (b / 8)) (reach b ∙ past b high))))
  where
    past : (b : ℕ) → 8 * bytes ≤ b → ltb (b / 8) bytes ≡ false
    past b high = grind (arith, nat_tests)

-- the value has the bytes of the location
pub joined_fits : (l : LayoutData) (place index chosen : ℕ) (answers : List ℕ) → IsSound l → IsLocation l place index → joined l place index chosen answers < 256 ^ (place_at l place).bytes
unfolding joined sent_of
joined_fits l place index chosen answers sound at =
    let here = is_here l place index sound at in
    joined_small chosen (place_at l place).bytes (words_of l place index) answers here.row.most here.words.reach

-- ---- all of them

pub ops_length : (l : LayoutData) (place index chosen value : ℕ) (write : Bool) → length (ops_of l place index chosen value write) ≡ length (sent_words chosen (words_of l place index))
unfolding ops_of sent_of
ops_length l place index chosen value write = length-map (sent_words chosen (words_of l place index)) (op_of l place chosen value write)

-- where some are left, so are words
pub room_left : (chosen k : ℕ) (ws : List Word) → length (sent_words chosen (take k ws)) < length (sent_words chosen ws) → k < length ws
room_left chosen k ws h = by (cases_lt k (length ws))
  where
    by : (k < length ws) ⊎ (length ws ≤ k) → k < length ws
    by (inl l) = l
    by (inr l) = absurd (omega (arith, h, ap (λ xs. length (sent_words chosen xs)) (take_all k ws l)))

none_left : (xs : List Word) → length xs ≤ 0 → xs ≡ []
none_left [] h = refl
none_left (x ∷ xs) h = absurd (omega (arith, h))

pub all_sent : (chosen k : ℕ) (ws : List Word) → length (sent_words chosen ws) ≤ length (sent_words chosen (take k ws)) → sent_words chosen (take k ws) ≡ sent_words chosen ws
all_sent chosen k ws h =
    let whole : sent_words chosen ws ≡ sent_words chosen (take k ws) ++ sent_words chosen (drop k ws) = ap (sent_words chosen) (sym (take-append-drop k ws)) ∙ filter-append (has_chosen chosen)
    (take k ws) (drop k ws) in
    let none = none_left (sent_words chosen (drop k ws)) (omega (arith, h, ap length whole, length-append (sent_words chosen (take k ws)) (sent_words chosen (drop k ws)))) in
    sym (whole ∙ ap (λ xs. sent_words chosen (take k ws) ++ xs) none ∙ append-nil (sent_words chosen (take k ws)))

-- ---- an access, word by word

at_seam : {A : Type 0} (xs : List A) (x : A) (rest : List A) → slice_get ((xs ++ x ∷ []) ++ rest) (length xs) ≡ Some x
at_seam [] x rest = refl
at_seam (y ∷ xs) x rest = at_seam xs x rest

-- its operation is the next one, and it follows the words that were sent before it
pub record IsNextSent (l : LayoutData) (s : Outgoing) (k : ℕ) (next : OutgoingWord) : Type 0 where
  pub op : slice_get (outgoing_ops l s) (length (sent_of_first l s k)) ≡ Some next.op
  pub more : sent_of_first l s (k + 1) ≡ sent_of_first l s k ++ word_in l s k ∷ []
  pub lanes : next.lanes ≡ lanes_for s.chosen (word_in l s k)

there : (l : LayoutData) (s : Outgoing) (k : ℕ) → k < length (words_in l s) → slice_get (words_in l s) k ≡ Some (word_in l s k)
there l s k inside = slice_get-get_or (words_in l s) k no_word inside

next_op : (l : LayoutData) (s : Outgoing) (k : ℕ) (w : Word) → sent_of_first l s (k + 1) ≡ sent_of_first l s k ++ w ∷ [] →
    slice_get (outgoing_ops l s) (length (sent_of_first l s k)) ≡ Some (op_of l s.place s.chosen s.value s.write w)
unfolding ops_of sent_of
next_op l s k w more =
    let op : Word → BusOp = op_of l s.place s.chosen s.value s.write in
    let ws = words_in l s in
    let rest = sent_words s.chosen (drop (k + 1) ws) in
    let before = sent_of_first l s k in
    let all : sent_words s.chosen ws ≡ (before ++ w ∷ []) ++ rest =
    ap (sent_words s.chosen) (sym (take-append-drop (k + 1) ws)) ∙ filter-append (has_chosen s.chosen) (take (k + 1) ws) (drop (k + 1) ws) ∙ ap (λ xs. xs ++ rest) more in
    ap (λ xs. slice_get (map op xs) (length before)) all ∙ slice_get-map op ((before ++ w ∷ []) ++ rest) (length before) ∙ ap (option_map op) (at_seam before w rest)

pub next_sent : (l : LayoutData) (s : Outgoing) (k : ℕ) (found : Option OutgoingWord) (next : OutgoingWord) → k < length (words_in l s) →
    found ≡ sent_as l s (word_in l s k) → found ≡ Some next → IsNextSent l s k next
next_sent l s k found next inside is some = by (has_chosen s.chosen (word_in l s k)) refl (sym is ∙ some)
  where
    sent : OutgoingWord
    sent = outgoing_word l s (word_in l s k)

    by : (t : Bool) → has_chosen s.chosen (word_in l s k) ≡ t → cond t (Some sent) None ≡ Some next → IsNextSent l s k next
    by true on e =
        let same : sent ≡ next = cc in
        let more = one_more s.chosen k (words_in l s) (word_in l s k) (there l s k inside) on in
        subst (IsNextSent l s k) same (record { op = next_op l s k (word_in l s k) more; more = more; lanes = refl })
    by false off e = absurd cc

-- a word that isn't sent
pub none_sent : (l : LayoutData) (s : Outgoing) (k : ℕ) (found : Option OutgoingWord) → k < length (words_in l s) → found ≡ sent_as l s (word_in l s k) → found ≡ None → sent_of_first l s (k + 1) ≡
    sent_of_first l s k
none_sent l s k found inside is none = by (outgoing_word l s (word_in l s k)) (has_chosen s.chosen (word_in l s k)) refl (sym is ∙ none)
  where
    by : (a : OutgoingWord) (t : Bool) → has_chosen s.chosen (word_in l s k) ≡ t → cond t (Some a) None ≡ None → sent_of_first l s (k + 1) ≡ sent_of_first l s k
    by a true on e = absurd cc
    by a false off e = no_more s.chosen k (words_in l s) (word_in l s k) (there l s k inside) off

-- no more are sent than there are
pub few_sent : (l : LayoutData) (s : Outgoing) (k : ℕ) → length (sent_of_first l s k) ≤ k
few_sent l s k =
    let chosen : length (sent_of_first l s k) ≡ count_by (has_chosen s.chosen) (take k (words_in l s)) = length-filter (has_chosen s.chosen) (take k (words_in l s)) in
    let most = count_by-le-length (has_chosen s.chosen) (take k (words_in l s)) in
    let short : length (take k (words_in l s)) ≡ min k (length (words_in l s)) = length-take k (words_in l s) in
    omega (arith, chosen, most, short)

-- all of them
pub all_ops : (l : LayoutData) (s : Outgoing) (k : ℕ) → length (words_in l s) ≤ k → length (outgoing_ops l s) ≡ length (sent_of_first l s k)
unfolding ops_of sent_of
all_ops l s k end =
    length-map (sent_words s.chosen (words_in l s)) (op_of l s.place s.chosen s.value s.write) ∙ ap (λ ws. length (sent_words s.chosen ws)) (sym (take_all k (words_in l s) end))

pub all_joined : (l : LayoutData) (s : Outgoing) (k : ℕ) (answers : List ℕ) → length (words_in l s) ≤ k →
    from_bits 64 (joined_bit s.chosen (sent_of_first l s k) answers) ≡ joined l s.place s.index s.chosen answers
unfolding joined sent_of
all_joined l s k answers end = ap (λ ws. from_bits 64 (joined_bit s.chosen (sent_words s.chosen ws) answers)) (take_all k (words_in l s) end)

pub outgoing_fits : (l : LayoutData) (s : Outgoing) → IsSound l → IsOutgoingOn l s → All (Fits (kind_of l s.place)) (outgoing_ops l s)
unfolding ops_of sent_of
outgoing_fits l s sound on = ops_fit l s.place s.index s.chosen s.value s.write (is_here l s.place s.index sound on.location)

-- ---- lists

pub take_next : {A : Type 0} (k : ℕ) (x : A) (xs : List A) → slice_get xs k ≡ Some x → take (k + 1) xs ≡ take k xs ++ x ∷ []
take_next k x xs e = take_more xs k x (slice_get_within xs k x e) ∙ ap (λ y. take k xs ++ y ∷ []) (get_or_from_slice_get xs k x x e)

pub taken_length : {A : Type 0} (k : ℕ) (xs : List A) → k ≤ length xs → length (take k xs) ≡ k
taken_length k xs l = let e : length (take k xs) ≡ min k (length xs) = length-take k xs in omega (arith, e, l)

pub or_small : (a b : ℕ) → a < 2 ^ 64 → b < 2 ^ 64 → bit_or a b < 2 ^ 64
or_small a b l m = or_lt 64 a b l m
