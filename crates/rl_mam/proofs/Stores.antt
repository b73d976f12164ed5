-- Items at the words of a location of a memory leave every other location, on a device with any flaws.
use Rattle.std.proofs.Common.{◌≡◌, ◌≢◌, ℕ, zero, suc, Bool, true, false, not, cond, List, [], ◌∷◌, get_or, set, map, Option, None, Some, refl, sym, ap, ◌∙◌, subst, get_or-set_other}
use Rattle.std.specs.Prelude.{All, slice_get, slice_index}
use Rattle.std.specs.Bool.{MatchBool}
use Rattle.std.proofs.lemmas.List.Elements.{All-filter, All-map, All-head, All-tail}
use Rattle.rl_policy.specs.Bits.{bit, from_bits}
use Rattle.rl_bus.specs.declared.op.BusOp.{BusOp}
use Rattle.rl_bus.specs.declared.table.Cell.{Cell}
use Rattle.rl_bus.specs.declared.table.Cell.TheVariants.{Loc}
use Rattle.rl_bus.specs.declared.table.WordRow.{WordRow}
use Rattle.rl_bus.specs.Setup.{Setup, Flaws, mem_of, location, is_deaf, words_at}
use Rattle.rl_bus.specs.Spread.{spread_bit, lane_bit, lanes_in}
use Rattle.rl_bus.specs.Standing.{Standing}
use Rattle.rl_bus.specs.State.{State, counted, word_at, is_faulty, after_reading, after_writing, after_word, after_touch, beats_on, beats_back, state_after}
use Rattle.rl_model.specs.declared.rows.Item.{Item}
use Rattle.rl_model.specs.declared.rows.Item.TheVariants as item
use Rattle.rl_model.specs.Rows.{ChipData}
use Rattle.rl_map.specs.declared.word.Word.{Word}
use Rattle.rl_map.specs.Layout.{LayoutData, place_at, words_of, row_of, standing, has_right, cell_of, IsLocation, IsSound}
use Rattle.rl_map.specs.Tables.{setup_of}
use Rattle.rl_map.specs.Words.{words_with, no_word}
use Rattle.rl_split.specs.Access.{op_of, ops_of, sent_of, sent_words, has_chosen}
use Rattle.rl_split.proofs.Sending.{all_numbered}
use Rattle.rl_access.specs.declared.trace.TraceItem.{TraceItem}
use Rattle.rl_access.specs.Items.{AreItemsOf, took_item, state_after_all}
use Rattle.rl_access.proofs.Setups.{setup-state_after}

-- ---- one item

-- each word that stands at the address of the item is one of the location
abbrev pub IsAtLocation : Setup → (port mem index : ℕ) → BusOp → Type 0
IsAtLocation t port mem index op = (k : ℕ) (row : WordRow) → slice_get (words_at t port op.address op.write) k ≡ Some row → row.cell ≡ Loc mem index

stored : (x : State) (write deaf : Bool) (f g : ℕ → Bool) (mem index k : ℕ) → k ≢ location x.setup mem index
    → slice_index (cond (not write) (after_reading x g (Loc mem index)) (cond deaf x (after_writing x f g (Loc mem index)))).locations k ≡ slice_index x.locations k
stored x false deaf f g mem index k other = refl
stored x true true f g mem index k other = refl
stored x true false f g mem index k other = by (mem_of x.setup mem).writable
  where
    by : (t : Bool) → slice_index (cond t (record x {
      locations = set x.locations (location x.setup mem index) (from_bits 64 (λ b. cond (g b) (f b) (bit (slice_index x.locations (location x.setup mem
          index)) b)));
    }) x).locations k ≡ slice_index x.locations k
    by true = get_or-set_other x.locations (location x.setup mem index) k _ 0 other
    by false = refl

word_stored : (x : State) (op : BusOp) (w : WordRow) (mem index k : ℕ) → w.cell ≡ Loc mem index → k ≢ location x.setup mem index → slice_index (after_word x op w).locations k ≡ slice_index
    x.locations k
word_stored x op w mem index k cell other =
    let lanes = lanes_in w.lanes op.lanes in
    subst (λ (c : Cell). slice_index (cond (not op.write) (after_reading x (lane_bit lanes) c) (cond (is_deaf x.setup w.cell) x (after_writing x (spread_bit lanes (bit op.word)) (lane_bit lanes)
    c))).locations k ≡ slice_index x.locations k)
    (sym cell) (stored x op.write (is_deaf x.setup w.cell) (spread_bit lanes (bit op.word)) (lane_bit lanes) mem index k other)

touch_stored : (x : State) (port : ℕ) (op : BusOp) (o : Option WordRow) (mem index k : ℕ) → ((row : WordRow) → o ≡ Some row → row.cell ≡ Loc mem index) → k ≢ location x.setup mem index
    → slice_index (after_touch x port op o).locations k ≡ slice_index x.locations k
touch_stored x port op None mem index k at other = refl
touch_stored x port op (Some w) mem index k at other = by (is_faulty x port op)
  where
    by : (t : Bool) → slice_index (cond t (record x { beats = beats_back x w.place }) (record (after_word x op w) { beats = beats_on x port op })).locations k ≡ slice_index x.locations k
    by true = refl
    by false = word_stored x op w mem index k (at w refl) other

item_stored : (s : State) (port : ℕ) (op : BusOp) (mem index k : ℕ) → IsAtLocation s.setup port mem index op → k ≢ location s.setup mem index → slice_index (state_after s port op).locations k ≡
    slice_index s.locations k
unfolding state_after
item_stored s port op mem index k at other = touch_stored (counted s) port op (word_at (counted s) port op) mem index k (at (s.beats port op.address)) other

-- ---- items, one after another

pub items_stored : (a : Standing) (port mem index : ℕ) (ops : List BusOp) (items : List TraceItem) (t : Setup) (s : State) (k : ℕ) → AreItemsOf a port ops items →
    All (IsAtLocation t port mem index) ops → s.setup ≡ t → k ≢ location t mem index
    → slice_index (state_after_all s items).locations k ≡ slice_index s.locations k
items_stored a port mem index [] [] t s k are at same other = refl
items_stored a port mem index [] (i ∷ items) t s k are at same other = absurd are
items_stored a port mem index (op ∷ ops) [] t s k are at same other = absurd are
items_stored a port mem index (op ∷ ops) (i ∷ items) t s k are at same other =
    by i.answer.failed are.1 (λ rest. items_stored (took_item a i) port mem index ops items t (state_after s i.port i.op) k rest (All-tail (IsAtLocation t port mem index) op ops at)
    (setup-state_after s i.port i.op ∙ same) other) ∙ first
  where
    port_is : i.port ≡ port
    port_is = ap (λ (x : TraceItem). x.port) are.0

    op_is : i.op ≡ op
    op_is = ap (λ (x : TraceItem). x.op) are.0

    here : IsAtLocation s.setup i.port mem index i.op
    here = subst (λ (p : ℕ). IsAtLocation s.setup p mem index i.op) (sym port_is) (subst (λ (o : BusOp). IsAtLocation s.setup port mem index o) (sym op_is)
        (subst (λ (x : Setup). IsAtLocation x port mem index op) (sym same) (All-head (IsAtLocation t port mem index) op ops at)))

    first : slice_index (state_after s i.port i.op).locations k ≡ slice_index s.locations k
    first = item_stored s i.port i.op mem index k here (subst (λ (x : Setup). k ≢ location x mem index) (sym same) other)

    by : (t : Bool) → MatchBool t (items ≡ []) (AreItemsOf (took_item a i) port ops items)
        → (AreItemsOf (took_item a i) port ops items → slice_index (state_after_all (state_after s i.port i.op) items).locations k ≡ slice_index (state_after s i.port i.op).locations k)
        → slice_index (state_after_all (state_after s i.port i.op) items).locations k ≡ slice_index (state_after s i.port i.op).locations k
    by true none rest = ap (λ (x : List TraceItem). slice_index (state_after_all (state_after s i.port i.op) x).locations k) none
    by false are rest = rest are

-- ---- the operations of an access

in_mapped : (f : Word → WordRow) (ws : List Word) (cell : Cell) (k : ℕ) (row : WordRow) → ((w : Word) → (f w).cell ≡ cell) → slice_get (map f ws) k ≡ Some row → row.cell ≡ cell
in_mapped f [] cell k row at e = cc
in_mapped f (w ∷ ws) cell zero row at e = let same : f w ≡ row = cc in subst (λ (r : WordRow). r.cell ≡ cell) same (at w)
in_mapped f (w ∷ ws) cell (suc k) row at e = in_mapped f ws cell k row at e

words_stand : (c : ChipData) (l : LayoutData) (flaws : Flaws) (port address : ℕ) (write : Bool) → words_at (setup_of c l flaws) port address write ≡ standing l port address write
unfolding setup_of
words_stand c l flaws port address write = refl

pub ops_at : (c : ChipData) (l : LayoutData) (flaws : Flaws) (place mem index chosen value : ℕ) (write : Bool) → IsSound l → IsLocation l place index → (place_at l place).item ≡ item.Mem mem →
    has_right (place_at l place).rights write ≡ true
    → All (IsAtLocation (setup_of c l flaws) (place_at l place).port mem index) (ops_of l place index chosen value write)
unfolding ops_of sent_of
ops_at c l flaws place mem index chosen value write sound there is right =
    let ws = words_of l place index in
    let port = (place_at l place).port in
    let cell : (w : Word) → (row_of l place index w).cell ≡ Loc mem index = λ (w : Word). ap (λ (i : Item). cell_of i index) is in
    All-map (IsAtLocation (setup_of c l flaws) port mem index) (op_of l place chosen value write) (sent_words chosen ws)
    (All-filter (has_chosen chosen) (λ w. IsAtLocation (setup_of c l flaws) port mem index (op_of l place chosen value write w)) ws
    (all_numbered (λ w. IsAtLocation (setup_of c l flaws) port mem index (op_of l place chosen value write w)) ws no_word (λ k low j row e.
    in_mapped (row_of l place index) (words_with (get_or ws k no_word).address ws) (Loc mem index) j row cell
    (subst (λ (rows : List WordRow). slice_get rows j ≡ Some row)
    (words_stand c l flaws port (get_or ws k no_word).address write ∙ (sound.each_location place index there).found write k low right) e))))
