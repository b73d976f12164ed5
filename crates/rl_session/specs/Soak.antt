-- The session that is made from a number, and the line that is written of it.
use Rattle.std.specs.Prelude.{ℕ, zero, suc, ◌+◌, ◌*◌, ◌/◌, ◌%◌, ◌^◌, ◌==◌, if◌then◌else◌, List, [], ◌∷◌, ◌++◌, codes, decimal, slice_index_or}
use Rattle.io.specs.Digits.{last_digits}
use Rattle.rl_policy.specs.Numbers.{hex_digits}
use Rattle.rl_policy.specs.Names.{name_of}
use Rattle.rl_policy.specs.declared.policy.Policy.{Policy}
use Rattle.rl_policy.specs.declared.policy.Policy.TheVariants.{Ro, Rw, Rc, Rs, Wrc, Wrs, Wc, Ws, Wsrc, Wcrs, W1c, W1s, W1t, W0c, W0s, W0t, W1src, W1crs, W0src, W0crs, Wo, Woc, Wos, W1, Wo1}
use Rattle.rl_report.specs.Pieces.{joined}
use Rattle.rl_log.specs.declared.counts.Counts.{Counts}
use Rattle.rl_session.specs.declared.soak.Rows.{Rows}
use Rattle.rl_session.specs.declared.soak.Rows.TheVariants as rows
use Rattle.rl_session.specs.declared.soak.Step.{Step}
use Rattle.rl_session.specs.declared.soak.Step.TheVariants.{Write, Read, Check, Set, Update, Peek, FieldWrite}

-- ---- the generator

abbrev pub next_state : ℕ → ℕ
next_state x = (x * 6364136223846793005 + 1442695040888963407) % 2 ^ 64

-- the number below m that is drawn at a state
abbrev pub drawn : ℕ → ℕ → ℕ
drawn x m = x / 2 ^ 33 % m

-- ---- the description

-- one text for each number from the first on
unfoldable pub rows_text : (ℕ → List ℕ) → (first count : ℕ) → List ℕ
rows_text row first zero = []
rows_text row first (suc count) = row first ++ rows_text row (first + 1) count

-- in the order of their numbers
abbrev pub policies : List Policy
policies =
    Ro ∷ Rw ∷ Rc ∷ Rs ∷ Wrc ∷ Wrs ∷ Wc ∷ Ws ∷ Wsrc ∷ Wcrs ∷ W1c ∷ W1s ∷ W1t ∷ W0c ∷ W0s ∷ W0t ∷ W1src ∷ W1crs ∷ W0src
    ∷ W0crs ∷ Wo ∷ Woc ∷ Wos ∷ W1 ∷ Wo1 ∷ []

unfoldable pub policy_of : ℕ → Policy
policy_of k = slice_index_or policies (k % 25) Ro

abbrev pub reg_text : ℕ → List ℕ
reg_text k =
    joined (codes "[[reg]]\nname = 'r" ∷ decimal k
    ∷ codes "'\nbytes = 4\nfield = [{name = 'f', lsb = 0, width = 32, policy = '" ∷ name_of (policy_of k)
    ∷ codes "', reset = 0}]\n" ∷ [])

abbrev pub maps_text : List ℕ
maps_text =
    codes "[[map]]\nname = 'bus'\nbytes = 2\nendian = 'big'\nadapter = 'plain'\n[[map]]\nname = 'per'\nbytes = 4\nendian = 'little'\nadapter = 'apb'\n"

-- even registers stand on one bus, odd ones on the other
abbrev pub map_of : ℕ → List ℕ
map_of k = if k % 2 == 0 then codes "bus" else codes "per"

abbrev pub place_text : ℕ → List ℕ
place_text k =
    joined (codes "[[place]]\nmap = '" ∷ map_of k ∷ codes "'\nitem = 'r" ∷ decimal k
    ∷ codes "'\noffset = " ∷ decimal (4 * k) ∷ codes "\n" ∷ [])

-- the row of a register, or of its place
abbrev pub row_text : Rows → ℕ → List ℕ
row_text rows.Regs k = reg_text k
row_text rows.Places k = place_text k

-- ---- the script

abbrev pub steps : List Step
steps = Write ∷ Write ∷ Read ∷ Check ∷ Set ∷ Update ∷ Peek ∷ FieldWrite ∷ []

unfoldable pub step_of : ℕ → Step
step_of c = slice_index_or steps c Write

abbrev pub verb_text : Step → List ℕ
verb_text Write = codes "write r"
verb_text Read = codes "read r"
verb_text Check = codes "check r"
verb_text Set = codes "set r"
verb_text Update = codes "update r"
verb_text Peek = codes "peek r"
verb_text FieldWrite = codes "field-write r"

-- the value behind the register's name, where the command takes one
abbrev pub value_pieces : Step → ℕ → List (List ℕ)
value_pieces Write v = codes " 0x" ∷ hex_digits v ∷ []
value_pieces Set v = codes ".f 0x" ∷ hex_digits v ∷ []
value_pieces FieldWrite v = codes ".f 0x" ∷ hex_digits v ∷ []
value_pieces Read v = []
value_pieces Check v = []
value_pieces Update v = []
value_pieces Peek v = []

abbrev pub line_text : Step → (k v : ℕ) → List ℕ
line_text step k v = joined (verb_text step ∷ decimal k ∷ joined (value_pieces step v) ∷ codes "\n" ∷ [])

-- the line after a state: it takes the next three
abbrev pub line_after : ℕ → List ℕ
line_after x =
    line_text (step_of (drawn (next_state x) 8)) (drawn (next_state (next_state x)) 64)
    (drawn (next_state (next_state (next_state x))) 2147483648)

-- so many lines, and then the last one
unfoldable pub script_text : (count x : ℕ) → List ℕ
script_text zero x = codes "seq bit-bash *\n"
script_text (suc count) x = line_after x ++ script_text count (next_state (next_state (next_state x)))

unfoldable pub description_text : List ℕ
description_text = joined (rows_text reg_text 0 64 ∷ maps_text ∷ rows_text place_text 0 64 ∷ [])

unfoldable pub soak_text : ℕ → List ℕ
soak_text n = joined (description_text ∷ codes "---\n" ∷ script_text 20000 n ∷ [])

-- ---- what is written of it

-- a sum over mirrored values, the first one first
abbrev pub mirror_sum : ℕ → List ℕ → ℕ
mirror_sum h [] = h
mirror_sum h (value ∷ values) = mirror_sum ((h * 31 + value) % 2 ^ 64) values

abbrev pub soak_line_text : ℕ → Counts → ℕ → List ℕ
soak_line_text n counts sum =
    joined (codes "soak " ∷ decimal n ∷ codes ": " ∷ decimal counts.events ∷ codes " events, "
    ∷ decimal counts.differences ∷ codes " differences, " ∷ decimal counts.errors ∷ codes " bus errors, mirror 0x"
    ∷ last_digits 16 16 sum ∷ codes "\n" ∷ [])
