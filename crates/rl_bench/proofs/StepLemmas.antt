-- The cases of one item.
use Rattle.std.proofs.Common.{◌≡◌, ℕ, ◌<◌, ◌^◌, ◌*◌, ◌≤◌, ◌/◌, zero, suc, Bool, true, false, cond, ◌&&◌, List, [], ◌∷◌, length, get_or, refl, sym, ap, ◌∙◌, arith, Some, None, subst, ⊎_elim}
use Rattle.std.specs.Prelude.{slice_get, filter, position, is_some}
use mathlib.Core.Path.{fun_ext}
use Rattle.rl_bus.specs.declared.op.Answer.{Answer}
use Rattle.rl_bus.specs.declared.op.BusOp.{BusOp}
use Rattle.rl_bus.specs.declared.table.WordRow.{WordRow}
use Rattle.rl_bus.specs.Setup.{Setup, stands_for, stands_at, words_at}
use Rattle.rl_bus.specs.State.{State, counted, word_at, word_shown, shown_bit, is_faulty, after_word, after_touch, answer_at, beats_back, beats_on, state_after, answer_of}
use Rattle.rl_bench.specs.Board.{IsSetup, IsWordIn}
use Rattle.rl_bench.proofs.BeatLemmas.{position_found}
use Rattle.rl_bus.specs.Lanes.{IsWidth, all_lanes}
use Rattle.rl_bus.specs.declared.transfer.Transfer.{Transfer}
use Rattle.rl_bus.specs.declared.transfer.Transfer.TheVariants as form
use Rattle.rl_bus.specs.Wire.{carried_by, IsWellFormed}
use Rattle.rl_policy.specs.Bits.{from_bits}
use Rattle.rl_policy.proofs.BitLemmas.{bit-and, bit-above, from_bits-lt}
use Rattle.std.proofs.Math.Nat.{pow-le-pow_right}
use Rattle.std.proofs.lemmas.Nat.{pow_pos}
use Rattle.rl_bus.specs.Spread.{gathered_bit, lanes_in}
use Rattle.std.proofs.lemmas.Bool.{cases_lt}

pub missing_state : (s : State) (port : ℕ) (op : BusOp) → word_at s port op ≡ None → counted s ≡ state_after s port op
unfolding state_after
missing_state s port op h = sym (ap (after_touch (counted s) port op) h)

pub missing_answer : (s : State) (port : ℕ) (op : BusOp) → word_at s port op ≡ None → record { word = 0; failed = true } ≡ answer_of s port op
unfolding answer_of
missing_answer s port op h = sym (ap (answer_at (counted s) port op) h)

abbrev with_beats : State → (ℕ → ℕ → ℕ) → State
with_beats s b = record s { beats = b }

pub same_beats : {f g : ℕ → ℕ → ℕ} → ((p a : ℕ) → f p a ≡ g p a) → f ≡ g
same_beats h = fun_ext (λ p. fun_ext (λ a. h p a))

pub faulty_state : (s : State) (port : ℕ) (op : BusOp) (w : WordRow) (beats : ℕ → ℕ → ℕ) → word_at s port op ≡ Some w
    → is_faulty (counted s) port op ≡ true → ((p a : ℕ) → beats p a ≡ beats_back s w.place p a) → record (counted s) { beats = beats } ≡ state_after s port op
unfolding state_after
faulty_state s port op w beats h f same =
    ap (with_beats (counted s)) (same_beats same)
    ∙ sym (ap (after_touch (counted s) port op) h
    ∙ ap (λ b. cond b (with_beats (counted s) (beats_back (counted s) w.place)) (with_beats (after_word (counted s) op w) (beats_on (counted s) port op))) f)

pub faulty_answer : (s : State) (port : ℕ) (op : BusOp) (w : WordRow) → word_at s port op ≡ Some w → is_faulty (counted s) port op ≡ true → record { word = 0; failed = true } ≡ answer_of s port op
unfolding answer_of
faulty_answer s port op w h f =
    sym (ap (answer_at (counted s) port op) h ∙ ap (λ b. cond b (record { word = 0; failed = true }) (record { word = cond op.write 0 (word_shown (counted s) op w); failed = false })) f)

pub touched_state : (s : State) (port : ℕ) (op : BusOp) (w : WordRow) (st : State) (beats : ℕ → ℕ → ℕ) → word_at s port op ≡ Some w
    → is_faulty (counted s) port op ≡ false → st ≡ after_word (counted s) op w → ((p a : ℕ) → beats p a ≡ beats_on (counted s) port op p a) → record st { beats = beats } ≡ state_after s port op
unfolding state_after
touched_state s port op w st beats h f e same =
    ap (with_beats st) (same_beats same) ∙ ap (λ x. with_beats x (beats_on (counted s) port op)) e
    ∙ sym (ap (after_touch (counted s) port op) h
    ∙ ap (λ b. cond b (with_beats (counted s) (beats_back (counted s) w.place)) (with_beats (after_word (counted s) op w) (beats_on (counted s) port op))) f)

pub touched_answer : (s : State) (port : ℕ) (op : BusOp) (w : WordRow) (word : ℕ) → word_at s port op ≡ Some w
    → is_faulty (counted s) port op ≡ false → word ≡ cond op.write 0 (word_shown (counted s) op w) → record { word = word; failed = false } ≡ answer_of s port op
unfolding answer_of
touched_answer s port op w word h f e =
    ap (λ x. record { word = x; failed = false }) e
    ∙ sym (ap (answer_at (counted s) port op) h ∙ ap (λ b. cond b (record { word = 0; failed = true }) (record { word = cond op.write 0 (word_shown (counted s) op w); failed = false })) f)

-- what passes a filter stands in the list
filtered_first : {X : Type 0} (p : X → Bool) (y : X) (xs : List X) (x : X) → p y ≡ true → Some y ≡ Some x → (i : ℕ) × (i < length (y ∷ xs)) × (x ≡ get_or (y ∷ xs) i x) × (p x ≡ true)
filtered_first p y xs x t e = let same : y ≡ x = cc in (0, omega arith, sym same, ap p (sym same) ∙ t)

filtered_later : {X : Type 0} (p : X → Bool) (y : X) (xs : List X) (x : X) → (i : ℕ) × (i < length xs) × (x ≡ get_or xs i x) × (p x ≡ true)
    → (i : ℕ) × (i < length (y ∷ xs)) × (x ≡ get_or (y ∷ xs) i x) × (p x ≡ true)
filtered_later p y xs x m = (suc m.0, omega (arith, m.1), m.2, m.3)

filtered_case : {X : Type 0} (p : X → Bool) (y : X) (xs : List X) (x : X) (k : ℕ) (b : Bool) → p y ≡ b
    → ((n : ℕ) → slice_get (filter p xs) n ≡ Some x → (i : ℕ) × (i < length xs) × (x ≡ get_or xs i x) × (p x ≡ true))
    → slice_get (cond b (y ∷ filter p xs) (filter p xs)) k ≡ Some x → (i : ℕ) × (i < length (y ∷ xs)) × (x ≡ get_or (y ∷ xs) i x) × (p x ≡ true)
filtered_case p y xs x zero true t more e = filtered_first p y xs x t e
filtered_case p y xs x (suc n) true t more e = filtered_later p y xs x (more n e)
filtered_case p y xs x k false t more e = filtered_later p y xs x (more k e)

pub filtered_in : {X : Type 0} (p : X → Bool) (xs : List X) (k : ℕ) (x : X) → slice_get (filter p xs) k ≡ Some x → (i : ℕ) × (i < length xs) × (x ≡ get_or xs i x) × (p x ≡ true)
filtered_in p [] k x h = cc
filtered_in p (y ∷ xs) k x h = filtered_case p y xs x k (p y) refl (λ n e. filtered_in p xs n x e) h

pub filter_le : {X : Type 0} (p : X → Bool) (xs : List X) → length (filter p xs) ≤ length xs
filter_le p [] = omega arith
filter_le p (x ∷ xs) = by (p x) (filter_le p xs)
  where
    by : (b : Bool) → length (filter p xs) ≤ length xs → length (cond b (x ∷ filter p xs) (filter p xs)) ≤ length (x ∷ xs)
    by true h = omega (arith, h)
    by false h = omega (arith, h)

-- the word of an item is one of the table
pub word_in : (t : Setup) (port address : ℕ) (write : Bool) (k : ℕ) (w : WordRow) → IsSetup t → slice_get (words_at t port address write) k ≡ Some w → IsWordIn t w
word_in t port address write k w good h =
    let m = filtered_in (stands_for port address write) t.words k w h in
    subst (IsWordIn t) (sym m.2) (good.words m.0 w m.1)

pub left_true : (x y : Bool) → (x && y) ≡ true → x ≡ true
left_true true y h = refl
left_true false y h = h

-- and its address has a first word
pub stands_there : (t : Setup) (port address : ℕ) (write : Bool) (k : ℕ) (w : WordRow)
    → slice_get (words_at t port address write) k ≡ Some w → is_some (position (stands_at port address) t.words) ≡ true
stands_there t port address write k w h =
    let m = filtered_in (stands_for port address write) t.words k w h in
    position_found (stands_at port address) t.words m.0 w m.1 (ap (stands_at port address) (sym m.2) ∙ left_true (stands_at port address w) _ m.3)

pub moved : (x t : Bool) (n m o : ℕ) → t ≡ true → n ≡ m → cond (x && t) n o ≡ cond x m o
moved true true n m o e h = h
moved true false n m o e h = cc
moved false t n m o e h = refl

-- a number has no more bits than its function
from_bits_upto : (k n : ℕ) (f : ℕ → Bool) → ((i : ℕ) → k ≤ i → f i ≡ false) → from_bits n f < 2 ^ k
unfolding from_bits
from_bits_upto k zero f none = pow_pos k
from_bits_upto k (suc n) f none =
    ⊎_elim
    (λ l. let most : 2 ^ suc n ≤ 2 ^ k = pow-le-pow_right {n = 2} (omega arith) l in omega (arith, from_bits-lt (suc n) f, most))
    (λ g. rw (none n g) (omega (arith, from_bits_upto k n f none)))
    (cases_lt n k)

pow_width : (n : ℕ) → IsWidth n → 2 ^ (8 * n) ≡ 256 ^ n
pow_width n h = ⊎_elim (λ e. rw e refl) (λ h. ⊎_elim (λ e. rw e refl) (λ h. ⊎_elim (λ e. rw e refl) (λ e. rw e refl) h) h) h

shown_small : (s : State) (op : BusOp) (w : WordRow) → op.lanes < 2 ^ op.bytes → IsWidth op.bytes → word_shown s op w < 256 ^ op.bytes
shown_small s op w l width = rw (← pow_width op.bytes width) (from_bits_upto (8 * op.bytes) 64 _ none)
  where
    none : (i : ℕ) → 8 * op.bytes ≤ i → gathered_bit (lanes_in w.lanes op.lanes) (shown_bit s w.cell) i ≡ false
    none i g = rw (bit-and op.lanes w.lanes.enabled (i / 8), bit-above op.lanes op.bytes (i / 8) l (omega (arith, g))) refl

width_pos : (n : ℕ) → IsWidth n → 0 < 256 ^ n
width_pos n h = rw (← pow_width n h) (pow_pos (8 * n))

pub answer_small : (s : State) (op : BusOp) (w : WordRow) → op.lanes < 2 ^ op.bytes → IsWidth op.bytes → cond op.write 0 (word_shown s op w) < 256 ^ op.bytes
answer_small s op w l width = by op.write
  where
    by : (b : Bool) → cond b 0 (word_shown s op w) < 256 ^ op.bytes
    by true = width_pos op.bytes width
    by false = shown_small s op w l width

-- what a transfer carries has a width, and lanes within it
pub carried_width : (t : Transfer) → IsWellFormed t → IsWidth (carried_by t).bytes
carried_width (form.Plain plain) h = h.width
carried_width (form.Apb apb) h = h.0.width

pub carried_lanes : (t : Transfer) → IsWellFormed t → (carried_by t).lanes < 2 ^ (carried_by t).bytes
carried_lanes (form.Plain plain) h = h.enabled
carried_lanes (form.Apb apb) h = by apb.write
  where
    by : (b : Bool) → cond b apb.pstrb (all_lanes apb.bytes) < 2 ^ apb.bytes
    by true = h.0.enabled
    by false = omega (arith, pow_pos apb.bytes)

-- the answer of a failed item
pub none_small : (a : Answer) (op : BusOp) → a ≡ record { word = 0; failed = true } → IsWidth op.bytes → a.word < 256 ^ op.bytes
none_small a op is width = subst (λ (x : Answer). x.word < 256 ^ op.bytes) (sym is) (width_pos op.bytes width)
