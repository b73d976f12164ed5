-- The operations of a write, one after another, over the bits of one register.
use Rattle.std.proofs.Common.{◌≡◌, ℕ, ◌^◌, ◌<◌, Bool, true, false, ◌||◌, List, [], ◌∷◌, ◌++◌, length, map, set, suc, refl, sym, ap, ◌∙◌, subst, append_assoc, append-nil}
use Rattle.std.specs.Prelude.{All, slice_index}
use Rattle.std.proofs.lemmas.List.{set-set, set-get_or, get_or-set_same, length-set}
use Rattle.rl_policy.specs.Bits.{bit}
use Rattle.rl_policy.proofs.BitLemmas.{bit-from_bits, from_bits-lt}
use Rattle.rl_bus.specs.declared.op.Answer.{Answer}
use Rattle.rl_bus.specs.declared.op.BusOp.{BusOp}
use Rattle.rl_bus.specs.declared.table.Cell.TheVariants.{Reg}
use Rattle.rl_bus.specs.declared.table.Lanes.{Lanes}
use Rattle.rl_bus.specs.declared.table.WordRow.{WordRow}
use Rattle.rl_policy.specs.Access.{bit_written, mark_written}
use Rattle.rl_bus.specs.Setup.{Setup, policy_at}
use Rattle.rl_bus.specs.Spread.{spread_bit, lane_bit}
use Rattle.rl_bus.specs.State.{State, state_after, answer_of}
use Rattle.rl_map.specs.declared.word.Word.{Word}
use Rattle.rl_split.specs.Law.{no_flaws}
use Rattle.rl_split.specs.Runs.{state_after_all, answers_of, counted_on}
use Rattle.rl_split.proofs.Compose.{two_bits, two_marks, none_bit, none_mark}
use Rattle.rl_split.proofs.Items.{bits_written, marks_written, next_count, after_write, write_meets, write_answers}
use Rattle.rl_split.proofs.Turns.{IsTurn, Stands, turn_meets, turn_moves, last_stands, all_head, all_tail}

-- ---- numbers

pub record Held : Type 0 where
  pub bits : ℕ
  pub marks : ℕ

abbrev held : ℕ → ℕ → Held
held bits marks = record { bits = bits; marks = marks }

abbrev pub put : Setup → ℕ → (Word → BusOp) → (Word → Lanes) → Held → Word → Held
put t reg op lanes h w = record { bits = bits_written t reg (op w).word (lanes w) h.bits h.marks; marks = marks_written t reg (lanes w) h.marks }

abbrev pub put_all : Setup → ℕ → (Word → BusOp) → (Word → Lanes) → Held → List Word → Held
put_all t reg op lanes h [] = h
put_all t reg op lanes h (w ∷ ws) = put_all t reg op lanes (put t reg op lanes h w) ws

-- some word has the lane of a bit
abbrev pub are_touched : (Word → Lanes) → List Word → ℕ → Bool
are_touched lanes [] b = false
are_touched lanes (w ∷ ws) b = lane_bit (lanes w) b || are_touched lanes ws b

-- each word carries the value in its lanes, and no byte stands in two words
abbrev pub CarryInParts : (Word → Lanes) → (Word → BusOp) → ℕ → List Word → Type 0
CarryInParts lanes op value [] = Unit {0}
CarryInParts lanes op value (w ∷ ws) =
    ((b : ℕ) → lane_bit (lanes w) b ≡ true → (spread_bit (lanes w) (bit (op w).word) b ≡ bit value b) × (are_touched lanes ws b ≡ false)) × CarryInParts lanes op value ws

pub put_bits : (t : Setup) (reg : ℕ) (op : Word → BusOp) (lanes : Word → Lanes) (value : ℕ) (ws : List Word) (h : Held) → CarryInParts lanes op value ws → (b : ℕ) → b < 64 →
    bit (put_all t reg op lanes h ws).bits b ≡ bit_written (policy_at t reg b) (bit h.bits b) (bit h.marks b) (bit value b) (are_touched lanes ws b)
put_bits t reg op lanes value [] h parts b low = none_bit (policy_at t reg b) (bit h.bits b) (bit h.marks b) (bit value b)
put_bits t reg op lanes value (w ∷ ws) h parts b low =
    put_bits t reg op lanes value ws (put t reg op lanes h w) parts.1 b low
    ∙ ap (λ x. bit_written (policy_at t reg b) x (bit (put t reg op lanes h w).marks b) (bit value b) (are_touched lanes ws b)) (bit-from_bits 64 _ b low)
    ∙ ap (λ s. bit_written (policy_at t reg b) (bit_written (policy_at t reg b) (bit h.bits b) (bit h.marks b) (spread_bit (lanes w) (bit (op w).word) b) (lane_bit (lanes w) b)) s (bit value b)
    (are_touched lanes ws b)) (bit-from_bits 64 _ b low)
    ∙ two_bits (policy_at t reg b) (bit h.bits b) (bit h.marks b) (spread_bit (lanes w) (bit (op w).word) b) (bit value b) (lane_bit (lanes w) b) (are_touched lanes ws b) (parts.0 b)

pub put_marks : (t : Setup) (reg : ℕ) (op : Word → BusOp) (lanes : Word → Lanes) (ws : List Word) (h : Held) (b : ℕ) → b < 64 →
    bit (put_all t reg op lanes h ws).marks b ≡ mark_written (policy_at t reg b) (bit h.marks b) (are_touched lanes ws b)
put_marks t reg op lanes [] h b low = none_mark (policy_at t reg b) (bit h.marks b)
put_marks t reg op lanes (w ∷ ws) h b low =
    put_marks t reg op lanes ws (put t reg op lanes h w) b low
    ∙ ap (λ s. mark_written (policy_at t reg b) s (are_touched lanes ws b)) (bit-from_bits 64 _ b low)
    ∙ two_marks (policy_at t reg b) (bit h.marks b) (lane_bit (lanes w) b) (are_touched lanes ws b)

pub put_small : (t : Setup) (reg : ℕ) (op : Word → BusOp) (lanes : Word → Lanes) (ws : List Word) (h : Held) → h.bits < 2 ^ 64 → h.marks < 2 ^ 64 →
    ((put_all t reg op lanes h ws).bits < 2 ^ 64) × ((put_all t reg op lanes h ws).marks < 2 ^ 64)
put_small t reg op lanes [] h bits marks = (bits, marks)
put_small t reg op lanes (w ∷ ws) h bits marks = put_small t reg op lanes ws (put t reg op lanes h w) (from_bits-lt 64 _) (from_bits-lt 64 _)

-- ---- over a device

abbrev pub held_at : State → ℕ → Held
held_at s reg = held (slice_index s.bits reg) (slice_index s.marks reg)

-- every write is answered so
abbrev pub written_answer : Word → Answer
written_answer w = record { word = 0; failed = false }

-- what a run of writes to one register leaves
pub record Wrote (s : State) (port reg : ℕ) (op : Word → BusOp) (rest : List Word) (h : Held) : Type 0 where
  pub answers : answers_of s port (map op rest) ≡ map written_answer rest
  pub setup : (state_after_all s port (map op rest)).setup ≡ s.setup
  pub bits : (state_after_all s port (map op rest)).bits ≡ set s.bits reg h.bits
  pub marks : (state_after_all s port (map op rest)).marks ≡ set s.marks reg h.marks
  pub locations : (state_after_all s port (map op rest)).locations ≡ s.locations
  pub items : (state_after_all s port (map op rest)).items ≡ counted_on (length rest) s.items
  pub beats : (p a : ℕ) → (state_after_all s port (map op rest)).beats p a ≡ 0

pub count_none : (n : ℕ) → n ≡ counted_on 0 n
unfolding counted_on
count_none n = refl

pub count_more : (k n : ℕ) → counted_on k (next_count n) ≡ counted_on (suc k) n
unfolding counted_on
count_more k n = refl

none_wrote : (s : State) (port reg : ℕ) (op : Word → BusOp) → ((p a : ℕ) → s.beats p a ≡ 0) → Wrote s port reg op [] (held_at s reg)
none_wrote s port reg op zero = record {
  answers = refl;
  setup = refl;
  bits = sym (set-get_or s.bits reg 0);
  marks = sym (set-get_or s.marks reg 0);
  locations = refl;
  items = count_none s.items;
  beats = zero;
}

one_wrote : (s : State) (port reg : ℕ) (op : Word → BusOp) (lanes : Word → Lanes) (w : Word) (rest : List Word) (h : Held) →
    state_after s port (op w) ≡ after_write s port reg (op w) (lanes w) → answer_of s port (op w) ≡ written_answer w →
    Wrote (after_write s port reg (op w) (lanes w)) port reg op rest h → Wrote s port reg op (w ∷ rest) h
one_wrote s port reg op lanes w rest h step answer run =
    let next = after_write s port reg (op w) (lanes w) in
    record {
      answers = ap (λ a. a ∷ answers_of (state_after s port (op w)) port (map op rest)) answer ∙ ap (λ x. written_answer w ∷ answers_of x port (map op rest)) step ∙ ap (λ xs. written_answer w ∷ xs)
          run.answers;
      setup = ap (λ x. (state_after_all x port (map op rest)).setup) step ∙ run.setup;
      bits = ap (λ x. (state_after_all x port (map op rest)).bits) step ∙ run.bits ∙ set-set s.bits reg _ h.bits;
      marks = ap (λ x. (state_after_all x port (map op rest)).marks) step ∙ run.marks ∙ set-set s.marks reg _ h.marks;
      locations = ap (λ x. (state_after_all x port (map op rest)).locations) step ∙ run.locations;
      items = ap (λ x. (state_after_all x port (map op rest)).items) step ∙ run.items ∙ count_more (length rest) s.items;
      beats = λ p a. ap (λ x. (state_after_all x port (map op rest)).beats p a) step ∙ run.beats p a;
    }

same_held : (g h : Held) → g.bits ≡ h.bits → g.marks ≡ h.marks → g ≡ h
same_held g h p q = ap (λ b. held b g.marks) p ∙ ap (λ m. held h.bits m) q

written_now : (s : State) (t : Setup) (port reg : ℕ) (op : Word → BusOp) (lanes : Word → Lanes) (w : Word) → s.setup ≡ t → reg < length s.bits → reg < length s.marks →
    held_at (after_write s port reg (op w) (lanes w)) reg ≡ put t reg op lanes (held_at s reg) w
written_now s t port reg op lanes w same inside marked =
    let x = slice_index s.bits reg in
    let m = slice_index s.marks reg in
    same_held (held_at (after_write s port reg (op w) (lanes w)) reg) (put t reg op lanes (held_at s reg) w)
    (get_or-set_same s.bits reg (bits_written s.setup reg (op w).word (lanes w) x m) 0 inside ∙ ap (λ u. bits_written u reg (op w).word (lanes w) x m) same)
    (get_or-set_same s.marks reg (marks_written s.setup reg (lanes w) m) 0 marked ∙ ap (λ u. marks_written u reg (lanes w) m) same)

abbrev Turn : Setup → ℕ → ℕ → (Word → WordRow) → (Word → BusOp) → (Word → Lanes) → List Word → Word → Type 0
Turn t port reg row op lanes sent w = IsTurn t port true (Reg reg) row op lanes sent w

pub writes_run : (t : Setup) (port reg : ℕ) (row : Word → WordRow) (op : Word → BusOp) (lanes : Word → Lanes) (sent : List Word) → t.flaws ≡ no_flaws → ((w : Word) → (op w).write ≡ true) →
    (done rest : List Word) (s : State) → All (IsTurn t port true (Reg reg) row op lanes sent) rest → sent ≡ done ++ rest → s.setup ≡ t → Stands s port sent done →
    reg < length s.bits → reg < length s.marks →
    Wrote s port reg op rest (put_all t reg op lanes (held_at s reg) rest)
writes_run t port reg row op lanes sent flawless write done [] s turns is same stands inside marked =
    none_wrote s port reg op (last_stands s port sent (subst (Stands s port sent) (sym (is ∙ append-nil done)) stands))
writes_run t port reg row op lanes sent flawless write done (w ∷ rest) s turns is same stands inside marked =
    let turn = all_head (Turn t port reg row op lanes sent) w rest turns in
    let meets = turn_meets s t port true (Reg reg) row op lanes sent done rest w same flawless turn is stands in
    let next = after_write s port reg (op w) (lanes w) in
    let more = turn_moves s next t port true (Reg reg) row op lanes sent done rest w same turn is stands (λ p a. refl) in
    let run = writes_run t port reg row op lanes sent flawless write (done ++ w ∷ []) rest next (all_tail (Turn t port reg row op lanes sent) w rest turns)
    (is ∙ sym (append_assoc done (w ∷ []) rest)) same more (rw length-set inside) (rw length-set marked) in
    one_wrote s port reg op lanes w rest (put_all t reg op lanes (put t reg op lanes (held_at s reg) w) rest)
    (write_meets s port reg (op w) (lanes w) meets (write w)) (write_answers s port reg (op w) (lanes w) meets (write w))
    (subst (λ h. Wrote next port reg op rest (put_all t reg op lanes h rest)) (written_now s t port reg op lanes w same inside marked) run)
