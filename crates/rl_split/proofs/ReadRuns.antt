-- The operations of a read, one after another, over the bits of one register.
use Rattle.std.proofs.Common.{◌≡◌, ℕ, ◌/◌, ◌%◌, ◌<◌, ◌^◌, is_some, Bool, true, false, ◌&&◌, ◌||◌, List, [], ◌∷◌, ◌++◌, length, map, set, Option, Some, None, refl, sym, ap, ◌∙◌, subst, append_assoc}
use Rattle.std.proofs.Common.{append-nil}
use Rattle.std.specs.Prelude.{All, slice_index}
use Rattle.std.proofs.lemmas.List.{set-set, set-get_or, get_or-set_same, length-set}
use Rattle.rl_policy.specs.Bits.{bit}
use Rattle.rl_policy.specs.declared.policy.Policy.{Policy}
use Rattle.rl_policy.proofs.BitLemmas.{bit-from_bits, from_bits-lt}
use Rattle.rl_bus.specs.declared.op.Answer.{Answer}
use Rattle.rl_bus.specs.declared.op.BusOp.{BusOp}
use Rattle.rl_bus.specs.declared.table.Cell.TheVariants.{Reg}
use Rattle.rl_bus.specs.declared.table.Lanes.{Lanes}
use Rattle.rl_bus.specs.declared.table.WordRow.{WordRow}
use Rattle.rl_policy.specs.Access.{bit_answered, bit_left}
use Rattle.rl_bus.specs.Setup.{Setup, policy_at}
use Rattle.rl_bus.specs.Spread.{lane_below, bit_in, spread_bit, lane_bit}
use Rattle.rl_bus.specs.State.{State, state_after, answer_of}
use Rattle.rl_map.specs.declared.word.Word.{Word}
use Rattle.rl_split.specs.Access.{lanes_for, joined_bit}
use Rattle.rl_split.specs.Law.{no_flaws}
use Rattle.rl_split.specs.Runs.{state_after_all, answers_of, counted_on}
use Rattle.rl_split.proofs.Compose.{two_reads, none_left}
use Rattle.rl_split.proofs.Items.{bits_left, bits_shown, after_read, read_meets, read_answers}
use Rattle.rl_split.proofs.Carried.{spread_gathered}
use Rattle.rl_split.proofs.Turns.{IsTurn, Stands, turn_meets, turn_moves, last_stands, all_head, all_tail}
use Rattle.rl_split.proofs.WriteRuns.{are_touched, count_none, count_more}

-- ---- numbers

abbrev pub take_all : Setup → ℕ → (Word → Lanes) → ℕ → List Word → ℕ
take_all t reg lanes x [] = x
take_all t reg lanes x (w ∷ ws) = take_all t reg lanes (bits_left t reg (lanes w) x) ws

-- what the words answer
abbrev pub shown_all : Setup → ℕ → (Word → Lanes) → ℕ → List Word → List ℕ
shown_all t reg lanes x [] = []
shown_all t reg lanes x (w ∷ ws) = bits_shown t reg (lanes w) x ∷ shown_all t reg lanes (bits_left t reg (lanes w) x) ws

-- no byte stands in two words
abbrev pub AreSplit : (Word → Lanes) → List Word → Type 0
AreSplit lanes [] = Unit {0}
AreSplit lanes (w ∷ ws) = ((b : ℕ) → lane_bit (lanes w) b ≡ true → are_touched lanes ws b ≡ false) × AreSplit lanes ws

pub take_bits : (t : Setup) (reg : ℕ) (lanes : Word → Lanes) (ws : List Word) (x : ℕ) → AreSplit lanes ws → (b : ℕ) → b < 64 →
    bit (take_all t reg lanes x ws) b ≡ bit_left (policy_at t reg b) (bit x b) (are_touched lanes ws b)
take_bits t reg lanes [] x parts b low = none_left (policy_at t reg b) (bit x b)
take_bits t reg lanes (w ∷ ws) x parts b low =
    take_bits t reg lanes ws (bits_left t reg (lanes w) x) parts.1 b low
    ∙ ap (λ y. bit_left (policy_at t reg b) y (are_touched lanes ws b)) (bit-from_bits 64 _ b low)
    ∙ two_reads (policy_at t reg b) (bit x b) (lane_bit (lanes w) b) (are_touched lanes ws b) (parts.0 b)

pub take_small : (t : Setup) (reg : ℕ) (lanes : Word → Lanes) (ws : List Word) (x : ℕ) → x < 2 ^ 64 → take_all t reg lanes x ws < 2 ^ 64
take_small t reg lanes [] x low = low
take_small t reg lanes (w ∷ ws) x low = take_small t reg lanes ws (bits_left t reg (lanes w) x) (from_bits-lt 64 _)

-- one bit of the joined value, by whether its byte stands in the first word
joins : (o : Option Policy) (l t x a : Bool) → (l ≡ true → (a ≡ bit_answered o x) × (t ≡ false)) → (l ≡ false → a ≡ false) → (a || (t && bit_answered o (bit_left o x l))) ≡ ((l || t) && bit_answered
    o x)
joins o true t x a first none = ap (λ t. a || (t && bit_answered o (bit_left o x true))) (first refl).1 ∙ or_false a ∙ (first refl).0
  where
    or_false : (a : Bool) → (a || false) ≡ a
    or_false true = refl
    or_false false = refl
joins None false t x a first none = ap (λ a. a || (t && false)) (none refl)
joins (Some p) false t x a first none = ap (λ a. a || (t && bit_answered (Some p) x)) (none refl)

-- a word brings nothing to a bit without a lane
pub none_spread : (s : Lanes) (word : ℕ → Bool) (b : ℕ) → lane_bit s b ≡ false → spread_bit s word b ≡ false
none_spread s word b e = by (lane_below 8 s (b / 8)) e
  where
    by : (o : Option ℕ) → is_some o ≡ false → bit_in o word (b % 8) ≡ false
    by None e = refl
    by (Some l) e = cc

pub shown_bits : (t : Setup) (reg chosen : ℕ) (ws : List Word) (x : ℕ) → AreSplit (lanes_for chosen) ws → (b : ℕ) → b < 64 →
    joined_bit chosen ws (shown_all t reg (lanes_for chosen) x ws) b ≡ (are_touched (lanes_for chosen) ws b && bit_answered (policy_at t reg b) (bit x b))
shown_bits t reg chosen [] x parts b low = refl
shown_bits t reg chosen (w ∷ ws) x parts b low =
    let lanes = lanes_for chosen w in
    let own = policy_at t reg b in
    ap (λ y. spread_bit lanes (bit (bits_shown t reg lanes x)) b || y) (shown_bits t reg chosen ws (bits_left t reg lanes x) parts.1 b low)
    ∙ ap (λ y. spread_bit lanes (bit (bits_shown t reg lanes x)) b || (are_touched (lanes_for chosen) ws b && bit_answered own y)) (bit-from_bits 64 _ b low)
    ∙ joins own (lane_bit lanes b) (are_touched (lanes_for chosen) ws b) (bit x b) (spread_bit lanes (bit (bits_shown t reg lanes x)) b)
    (λ e. (spread_gathered lanes (λ b. bit_answered (policy_at t reg b) (bit x b)) b e, parts.0 b e))
    (λ e. none_spread lanes (bit (bits_shown t reg lanes x)) b e)

-- ---- over a device

abbrev pub read_answer : ℕ → Answer
read_answer word = record { word = word; failed = false }

-- what a run of reads of one register leaves
pub record Took (s : State) (port reg : ℕ) (op : Word → BusOp) (rest : List Word) (words : List ℕ) (x : ℕ) : Type 0 where
  pub answers : answers_of s port (map op rest) ≡ map read_answer words
  pub setup : (state_after_all s port (map op rest)).setup ≡ s.setup
  pub bits : (state_after_all s port (map op rest)).bits ≡ set s.bits reg x
  pub marks : (state_after_all s port (map op rest)).marks ≡ s.marks
  pub locations : (state_after_all s port (map op rest)).locations ≡ s.locations
  pub items : (state_after_all s port (map op rest)).items ≡ counted_on (length rest) s.items
  pub beats : (p a : ℕ) → (state_after_all s port (map op rest)).beats p a ≡ 0

none_took : (s : State) (port reg : ℕ) (op : Word → BusOp) → ((p a : ℕ) → s.beats p a ≡ 0) → Took s port reg op [] [] (slice_index s.bits reg)
none_took s port reg op zero = record {
  answers = refl;
  setup = refl;
  bits = sym (set-get_or s.bits reg 0);
  marks = refl;
  locations = refl;
  items = count_none s.items;
  beats = zero;
}

one_took : (s : State) (port reg : ℕ) (op : Word → BusOp) (lanes : Word → Lanes) (w : Word) (rest : List Word) (words : List ℕ) (word x : ℕ) →
    state_after s port (op w) ≡ after_read s port reg (op w) (lanes w) → answer_of s port (op w) ≡ read_answer word →
    Took (after_read s port reg (op w) (lanes w)) port reg op rest words x → Took s port reg op (w ∷ rest) (word ∷ words) x
one_took s port reg op lanes w rest words word x step answer run = record {
  answers = ap (λ a. a ∷ answers_of (state_after s port (op w)) port (map op rest)) answer ∙ ap (λ x. read_answer word ∷ answers_of x port (map op rest)) step ∙ ap (λ xs. read_answer word ∷ xs)
      run.answers;
  setup = ap (λ x. (state_after_all x port (map op rest)).setup) step ∙ run.setup;
  bits = ap (λ x. (state_after_all x port (map op rest)).bits) step ∙ run.bits ∙ set-set s.bits reg _ x;
  marks = ap (λ x. (state_after_all x port (map op rest)).marks) step ∙ run.marks;
  locations = ap (λ x. (state_after_all x port (map op rest)).locations) step ∙ run.locations;
  items = ap (λ x. (state_after_all x port (map op rest)).items) step ∙ run.items ∙ count_more (length rest) s.items;
  beats = λ p a. ap (λ x. (state_after_all x port (map op rest)).beats p a) step ∙ run.beats p a;
}

read_now : (s : State) (t : Setup) (port reg : ℕ) (op : Word → BusOp) (lanes : Word → Lanes) (w : Word) → s.setup ≡ t → reg < length s.bits →
    slice_index (after_read s port reg (op w) (lanes w)).bits reg ≡ bits_left t reg (lanes w) (slice_index s.bits reg)
read_now s t port reg op lanes w same inside =
    let x = slice_index s.bits reg in
    get_or-set_same s.bits reg (bits_left s.setup reg (lanes w) x) 0 inside ∙ ap (λ u. bits_left u reg (lanes w) x) same

abbrev Turn : Setup → ℕ → ℕ → (Word → WordRow) → (Word → BusOp) → (Word → Lanes) → List Word → Word → Type 0
Turn t port reg row op lanes sent w = IsTurn t port false (Reg reg) row op lanes sent w

pub reads_run : (t : Setup) (port reg : ℕ) (row : Word → WordRow) (op : Word → BusOp) (lanes : Word → Lanes) (sent : List Word) → t.flaws ≡ no_flaws → ((w : Word) → (op w).write ≡ false) →
    (done rest : List Word) (s : State) → All (IsTurn t port false (Reg reg) row op lanes sent) rest → sent ≡ done ++ rest → s.setup ≡ t → Stands s port sent done →
    reg < length s.bits →
    Took s port reg op rest (shown_all t reg lanes (slice_index s.bits reg) rest) (take_all t reg lanes (slice_index s.bits reg) rest)
reads_run t port reg row op lanes sent flawless read done [] s turns is same stands inside =
    none_took s port reg op (last_stands s port sent (subst (Stands s port sent) (sym (is ∙ append-nil done)) stands))
reads_run t port reg row op lanes sent flawless read done (w ∷ rest) s turns is same stands inside =
    let turn = all_head (Turn t port reg row op lanes sent) w rest turns in
    let meets = turn_meets s t port false (Reg reg) row op lanes sent done rest w same flawless turn is stands in
    let next = after_read s port reg (op w) (lanes w) in
    let x = slice_index s.bits reg in
    let more = turn_moves s next t port false (Reg reg) row op lanes sent done rest w same turn is stands (λ p a. refl) in
    let run = reads_run t port reg row op lanes sent flawless read (done ++ w ∷ []) rest next (all_tail (Turn t port reg row op lanes sent) w rest turns)
    (is ∙ sym (append_assoc done (w ∷ []) rest)) same more (rw length-set inside) in
    one_took s port reg op lanes w rest (shown_all t reg lanes (bits_left t reg (lanes w) x) rest) (bits_shown t reg (lanes w) x) (take_all t reg lanes (bits_left t reg (lanes w) x) rest)
    (read_meets s port reg (op w) (lanes w) meets (read w))
    (read_answers s port reg (op w) (lanes w) meets (read w) ∙ ap (λ u. read_answer (bits_shown u reg (lanes w) x)) same)
    (subst (λ y. Took next port reg op rest (shown_all t reg lanes y rest) (take_all t reg lanes y rest)) (read_now s t port reg op lanes w same inside) run)
