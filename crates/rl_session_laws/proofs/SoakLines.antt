-- Each drawn line of the session that is made from a number reads as what was drawn.
use Rattle.std.proofs.Common.{◌≡◌, ℕ, zero, suc, ◌+◌, ◌-◌, ◌^◌, ◌<◌, ◌≤◌, Bool, true, false, not, subst, cond, eqb, nat_lt, nat_le}
use Rattle.std.proofs.Common.{◌&&◌, IsTrue, List, [], ◌∷◌, ◌++◌, length, get_or, map, decimal, None, Result, Ok, Err, codes, length-append}
use Rattle.std.proofs.Common.{refl, sym, ap, ◌∙◌, append_assoc, append-nil, le-ltb, inl, inr, below_more, arith}
use Rattle.std.specs.Fmt.{digits}
use Rattle.std.specs.Char.{digit_char}
use Rattle.std.specs.Int.Digits.{digits_of}
use Rattle.std.specs.Io.BufRead.{strip_last, ends_with_byte}
use Rattle.std.specs.List.{list_all}
use Rattle.std.proofs.lemmas.Bool.{cases_Bool, true≢false, leb-true, eqb-true}
use Rattle.std.proofs.lemmas.Int.Digits.{length-digits_of-le}
use Rattle.std.proofs.lemmas.List.{length-map}
use Rattle.rl_policy.specs.Numbers.{hex_digits}
use Rattle.rl_report.specs.Lines.{lines_of, onto_first}
use Rattle.rl_report.specs.Pieces.{joined}
use Rattle.rl_script.specs.declared.fault.LineFault.{LineFault}
use Rattle.rl_script.specs.declared.fault.LineFault.TheVariants.{TooLong, NotAscii}
use Rattle.rl_script.specs.declared.line.Line.{Line}
use Rattle.rl_script.specs.declared.line.Line.TheVariants as line
use Rattle.rl_script.specs.declared.line.Sequence.TheVariants.{BitBash}
use Rattle.rl_script.specs.Names.{is_name, is_path}
use Rattle.rl_script.specs.Reading.{is_ascii, read_of}
use Rattle.rl_script.specs.Spelling.{spelling, IsLine, MayBeWritten}
use Rattle.rl_script.proofs.AgainLemmas.{read_again}
use Rattle.rl_log.specs.Log.{said}
use Rattle.rl_session.specs.Soak.{next_state, drawn, step_of, line_text, line_after, script_text}
use Rattle.rl_session_laws.specs.SoakScript.{Command, Write, Read, Check, Set, Update, Peek, FieldWrite, command_of}
use Rattle.rl_session_laws.specs.SoakScript.{register, only_field, operation, drawn_after, drawn_lines, AllSay}

and_parts : (a b : Bool) → (a && b) ≡ true → (a ≡ true) × (b ≡ true)
and_parts true b e = (refl, e)
and_parts false b e = absurd (true≢false (sym e))

-- ---- the names

abbrev holds_below : ℕ → (ℕ → Bool) → Bool
holds_below zero test = true
holds_below (suc n) test = test n && holds_below n test

each_below : (n : ℕ) (test : ℕ → Bool) → holds_below n test ≡ true → (k : ℕ) → k < n → test k ≡ true
each_below zero test all k h = absurd (omega arith)
each_below (suc n) test all k h =
    let parts = and_parts (test n) (holds_below n test) all in
    below_more (λ j. test j ≡ true) n (each_below n test parts.1) parts.0 k (omega arith)

-- a register's name and its field's are paths, and are short
abbrev is_good : ℕ → Bool
is_good k = is_path (register k) && (is_path (only_field k) && nat_le (length (decimal k)) 2)

all_good : holds_below 64 is_good ≡ true
unfolding digits is_path is_name
all_good = refl

record GoodNames (k : ℕ) : Type 0 where
  reg : IsTrue (is_path (register k))
  field : IsTrue (is_path (only_field k))
  short : length (decimal k) ≤ 2

good_names : (k : ℕ) → k < 64 → GoodNames k
good_names k h =
    let one = and_parts (is_path (register k)) _ (each_below 64 is_good all_good k h) in
    let two = and_parts (is_path (only_field k)) _ one.1 in
    record { reg = one.0; field = two.0; short = leb-true (length (decimal k)) 2 two.1 }

-- ---- the spelling

short_hex_by : (v : ℕ) (t : Bool) → v < 2 ^ 64 → length (cond t (48 ∷ []) (map digit_char (digits_of 16 v))) ≤ 16
short_hex_by v true h = omega arith
short_hex_by v false h = rw length-map (length-digits_of-le 16 16 v (omega arith) (omega arith))

short_hex : (v : ℕ) → v < 2 ^ 64 → length (hex_digits v) ≤ 16
unfolding hex_digits
short_hex v h = short_hex_by v (eqb v 0) h

-- a value behind a register's name, and behind its field's
reg_value : (verb name value : List ℕ)
    → verb ++ (name ++ ((codes " 0x" ++ (value ++ [])) ++ codes "\n")) ≡ verb ++ ((name ++ (codes " 0x" ++ (value ++ []))) ++ codes "\n")
reg_value verb name value = ap (λ l. verb ++ l) (sym (append_assoc name (codes " 0x" ++ (value ++ [])) (codes "\n")))

field_value : (verb name value : List ℕ)
    → verb ++ (name ++ ((codes ".f 0x" ++ (value ++ [])) ++ codes "\n")) ≡ verb ++ (((name ++ codes ".f") ++ (codes " 0x" ++ (value ++ []))) ++ codes "\n")
field_value verb name value =
    ap (λ l. verb ++ l) (sym (append_assoc name (codes ".f 0x" ++ (value ++ [])) (codes "\n"))
    ∙ ap (λ l. l ++ codes "\n") (sym (append_assoc name (codes ".f") (codes " 0x" ++ (value ++ [])))))

no_value : (verb name : List ℕ) → verb ++ (name ++ codes "\n") ≡ verb ++ ((name ++ []) ++ codes "\n")
no_value verb name = ap (λ l. verb ++ (l ++ codes "\n")) (sym (append-nil name))

written_line : (k v : ℕ)
    → joined (codes "write r" ∷ decimal k ∷ joined (codes " 0x" ∷ hex_digits v ∷ []) ∷ codes "\n" ∷ []) ≡ spelling (operation Write k v) ++ 10 ∷ []
unfolding joined spelling
written_line k v = reg_value (codes "write r") (decimal k) (hex_digits v)

pub spelled_line : (c k v : ℕ) → line_text (step_of c) k v ≡ spelling (operation (command_of c) k v) ++ 10 ∷ []
unfolding joined spelling step_of command_of
spelled_line zero k v = written_line k v
spelled_line (suc zero) k v = written_line k v
spelled_line (suc (suc zero)) k v = no_value (codes "read r") (decimal k)
spelled_line (suc (suc (suc zero))) k v = no_value (codes "check r") (decimal k)
spelled_line (suc (suc (suc (suc zero)))) k v = field_value (codes "set r") (decimal k) (hex_digits v)
spelled_line (suc (suc (suc (suc (suc zero))))) k v = no_value (codes "update r") (decimal k)
spelled_line (suc (suc (suc (suc (suc (suc zero)))))) k v = no_value (codes "peek r") (decimal k)
spelled_line (suc (suc (suc (suc (suc (suc (suc zero))))))) k v = field_value (codes "field-write r") (decimal k) (hex_digits v)
spelled_line (suc (suc (suc (suc (suc (suc (suc (suc c)))))))) k v = written_line k v

is_line : (command : Command) (k v : ℕ) → GoodNames k → v < 2 ^ 64 → IsLine (operation command k v)
is_line Write k v good h = (good.reg, (h, tt), tt)
is_line Read k v good h = (good.reg, tt, tt)
is_line Check k v good h = (good.reg, tt, tt)
is_line Set k v good h = (good.field, (h, tt), tt)
is_line Update k v good h = (good.reg, tt, tt)
is_line Peek k v good h = (good.reg, tt, tt)
is_line FieldWrite k v good h = (good.field, (h, tt), tt)

short_value : (verb name value : List ℕ) → length verb ≤ 20 → length name ≤ 4 → length value ≤ 16
    → length (verb ++ (name ++ (32 ∷ 48 ∷ 120 ∷ (value ++ [])))) ≤ 4096
short_value verb name value a b c =
    let first = length-append verb (name ++ (32 ∷ 48 ∷ 120 ∷ (value ++ []))) in
    let second = length-append name (32 ∷ 48 ∷ 120 ∷ (value ++ [])) in
    let third = length-append value [] in
    omega arith

short_name : (verb name : List ℕ) → length verb ≤ 20 → length name ≤ 4 → length (verb ++ (name ++ [])) ≤ 4096
short_name verb name a b =
    let first = length-append verb (name ++ []) in
    let second = length-append name [] in
    omega arith

short_field : (name : List ℕ) → length name ≤ 2 → length (name ++ codes ".f") ≤ 4
short_field name h = let both = length-append name (codes ".f") in omega arith

may_be_written : (command : Command) (k v : ℕ) → length (decimal k) ≤ 2 → length (hex_digits v) ≤ 16
    → MayBeWritten (operation command k v)
unfolding spelling
may_be_written Write k v n m = (tt, short_value (codes "write r") (decimal k) (hex_digits v) (omega arith) (omega arith) m)
may_be_written Read k v n m = (tt, short_name (codes "read r") (decimal k) (omega arith) (omega arith))
may_be_written Check k v n m = (tt, short_name (codes "check r") (decimal k) (omega arith) (omega arith))
may_be_written Set k v n m =
    (tt, short_value (codes "set r") (decimal k ++ codes ".f") (hex_digits v) (omega arith) (short_field (decimal k) n) m)
may_be_written Update k v n m = (tt, short_name (codes "update r") (decimal k) (omega arith) (omega arith))
may_be_written Peek k v n m = (tt, short_name (codes "peek r") (decimal k) (omega arith) (omega arith))
may_be_written FieldWrite k v n m =
    (tt, short_value (codes "field-write r") (decimal k ++ codes ".f") (hex_digits v) (omega arith) (short_field (decimal k) n) m)

operation_read : (command : Command) (k v : ℕ) → k < 64 → v < 2 ^ 64
    → read_of (spelling (operation command k v)) ≡ Ok (operation command k v)
operation_read command k v in_range fits =
    let good = good_names k in_range in
    read_again (operation command k v) (is_line command k v good fits) (may_be_written command k v good.short (short_hex v fits))

last_read : read_of (spelling (line.Seq BitBash None)) ≡ Ok (line.Seq BitBash None)
unfolding spelling
last_read = read_again (line.Seq BitBash None) tt (tt, omega arith)

-- ---- what is read is one line

refused_not : {A : Type 0} (b : Bool) (e : LineFault) (r : Result A LineFault) (y : A) → cond b (Err e) r ≡ Ok y
    → (b ≡ false) × (r ≡ Ok y)
refused_not true e r y h = absurd cc
refused_not false e r y h = (refl, h)

not_false : (b : Bool) → not b ≡ false → b ≡ true
not_false true e = refl
not_false false e = absurd (true≢false e)

record IsShortAscii (text : List ℕ) : Type 0 where
  short : nat_lt 4096 (length text) ≡ false
  ascii : list_all is_ascii text ≡ true

is_short_ascii : (text : List ℕ) (l : Line) → read_of text ≡ Ok l → IsShortAscii text
unfolding read_of
is_short_ascii text l e =
    let a = refused_not (nat_lt 4096 (length text)) TooLong _ l e in
    let b = refused_not (not (list_all is_ascii text)) NotAscii _ l a.1 in
    record { short = a.0; ascii = not_false (list_all is_ascii text) b.0 }

other_byte : (c b : ℕ) → is_ascii c ≡ false → is_ascii b ≡ true → eqb b c ≡ false
other_byte c b none some =
    elim (cases_Bool (eqb b c)) [
      | inl same ↦ absurd (true≢false (sym some ∙ ap is_ascii (eqb-true b c same) ∙ none))
      | inr other ↦ other
    ]

one_line : (text rest : List ℕ) → list_all is_ascii text ≡ true → lines_of (text ++ 10 ∷ rest) ≡ text ∷ lines_of rest
one_line [] rest e = refl
one_line (b ∷ bs) rest e =
    let parts = and_parts (is_ascii b) (list_all is_ascii bs) e in
    rw (other_byte 10 b refl parts.0) (ap (onto_first b) (one_line bs rest parts.1))

passes_at : (test : ℕ → Bool) (text : List ℕ) (i : ℕ) → list_all test text ≡ true → i < length text
    → test (get_or text i 0) ≡ true
passes_at test [] i e h = absurd (omega arith)
passes_at test (b ∷ bs) zero e h = (and_parts (test b) (list_all test bs) e).0
passes_at test (b ∷ bs) (suc i) e h = passes_at test bs i (and_parts (test b) (list_all test bs) e).1 (omega arith)

and_false : (a b : Bool) → b ≡ false → (a && b) ≡ false
and_false true b e = e
and_false false b e = refl

kept_by : (text : List ℕ) (t : Bool) (other : List ℕ) → t ≡ false → cond t other text ≡ text
kept_by text true other e = absurd (true≢false e)
kept_by text false other e = refl

no_return : (text : List ℕ) → list_all is_ascii text ≡ true → strip_last 13 text ≡ text
no_return [] e = refl
no_return (b ∷ bs) e =
    let last = passes_at is_ascii (b ∷ bs) (length (b ∷ bs) - 1) e (omega arith) in
    kept_by (b ∷ bs) (ends_with_byte 13 (b ∷ bs)) _
    (and_false (nat_lt 0 (length (b ∷ bs))) _ (other_byte 13 (get_or (b ∷ bs) (length (b ∷ bs) - 1) 0) refl last))

said_as : (number : ℕ) (l : Line) → number ≤ 1000000 → read_of (spelling l) ≡ Ok l → said number (spelling l) ≡ Ok l
said_as number l within e =
    let text = is_short_ascii (spelling l) l e in
    rw (le-ltb 1000000 number within, text.short, no_return (spelling l) text.ascii, e) refl

-- ---- all of them

next_line : (l : Line) (text rest : List ℕ) → text ≡ spelling l ++ 10 ∷ [] → read_of (spelling l) ≡ Ok l
    → lines_of (text ++ rest) ≡ spelling l ∷ lines_of rest
next_line l text rest e read =
    ap (λ t. lines_of (t ++ rest)) e ∙ ap lines_of (append_assoc (spelling l) (10 ∷ []) rest)
    ∙ one_line (spelling l) rest (is_short_ascii (spelling l) l read).ascii

next_said : (number : ℕ) (l : Line) (ls : List Line) (text rest : List ℕ) → text ≡ spelling l ++ 10 ∷ []
    → number ≤ 1000000 → read_of (spelling l) ≡ Ok l → AllSay (number + 1) (lines_of rest) ls
    → AllSay number (lines_of (text ++ rest)) (l ∷ ls)
next_said number l ls text rest e within read others =
    subst (λ texts. AllSay number texts (l ∷ ls)) (sym (next_line l text rest e read)) (said_as number l within read, others)

last_spelled : codes "seq bit-bash *\n" ≡ spelling (line.Seq BitBash None) ++ 10 ∷ []
unfolding spelling
last_spelled = refl

fits : (v : ℕ) → v < 2147483648 → v < 2 ^ 64
fits v h = omega arith

drawn_below : (x m : ℕ) → 0 < m → drawn x m < m
drawn_below x m h = omega arith

after_read : (x : ℕ) → read_of (spelling (drawn_after x)) ≡ Ok (drawn_after x)
after_read x =
    let second = next_state (next_state x) in
    let third = next_state second in
    operation_read (command_of (drawn (next_state x) 8)) (drawn second 64) (drawn third 2147483648)
    (drawn_below second 64 (omega arith)) (fits (drawn third 2147483648) (drawn_below third 2147483648 (omega arith)))

after_spelled : (x : ℕ) → line_after x ≡ spelling (drawn_after x) ++ 10 ∷ []
after_spelled x =
    let third = next_state (next_state (next_state x)) in
    spelled_line (drawn (next_state x) 8) (drawn (next_state (next_state x)) 64) (drawn third 2147483648)

pub script_lines : (count x : ℕ) → lines_of (script_text count x) ≡ map spelling (drawn_lines count x)
unfolding script_text drawn_lines
script_lines zero x = next_line (line.Seq BitBash None) (codes "seq bit-bash *\n") [] last_spelled last_read
script_lines (suc count) x =
    let rest = next_state (next_state (next_state x)) in
    next_line (drawn_after x) (line_after x) (script_text count rest) (after_spelled x) (after_read x)
    ∙ ap (λ r. spelling (drawn_after x) ∷ r) (script_lines count rest)

pub script_said : (count number x : ℕ) → number + count ≤ 1000000
    → AllSay number (lines_of (script_text count x)) (drawn_lines count x)
unfolding script_text drawn_lines
script_said zero number x h =
    next_said number (line.Seq BitBash None) [] (codes "seq bit-bash *\n") [] last_spelled (omega arith) last_read tt
script_said (suc count) number x h =
    let rest = next_state (next_state (next_state x)) in
    next_said number (drawn_after x) (drawn_lines count rest) (line_after x) (script_text count rest) (after_spelled x)
    (omega arith) (after_read x) (script_said count (number + 1) rest (omega arith))
