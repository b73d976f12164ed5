-- The text of a row is the table of its keys and values.
use Rattle.std.proofs.Common.{◌≡◌, ℕ, suc, ◌-◌, pos, negsuc, ◌<◌, ◌≤◌, ◌^◌, Bool, true, false, not, ◌&&◌, ◌==◌, nat_lt, nat_le, List, [], ◌∷◌, ◌++◌, length, codes, decimal, Option, option_and_then, Some, None}
use Rattle.std.proofs.Common.{refl, sym, ap, subst, ◌∙◌, arith, append_assoc}
use Rattle.std.proofs.lemmas.Bool.{and_parts}
use Rattle.std.proofs.lemmas.Bool.Decides.{nat_tests}
use Rattle.std.specs.List.{list_all, list_any}
use Rattle.std.specs.Str.{IsAscii}
use Rattle.std.specs.Prelude.{map}
use Rattle.std.specs.Int.{w64}
use Rattle.std.proofs.lemmas.Str.{IsUtf8-from_ascii, is_utf8-from_IsUtf8}
use Rattle.std.proofs.lemmas.Str.Ascii.{IsAscii-nil, IsAscii-cons}
use Rattle.std.proofs.lemmas.Fmt.{IsAscii-decimal}
use Rattle.std.proofs.lemmas.Int.{fits_signed_from_abs}
use Rattle.toml_writer.specs.Text.{string_text, key_text, encoding_of, escaped, needs_escape, quotes_after, has, is_control}
use Rattle.toml.specs.Data.{Data, string, integer, float, boolean, datetime, array, table, Items, no_items, item, push_item, Members, no_members, member, depth, has_valid_dates}
use Rattle.toml.specs.Tables.{Nodes, no_nodes, node, open_array, close, Expression, Document, key_value, array_table, at_key, along_header, along_dots, define}
use Rattle.toml.specs.Parse.{skip_bom, line, lines}
use Rattle.toml.specs.Text.{IsValueText, IsLineText}
use Rattle.toml.proofs.Turns.{document_some, lines_end, lines_more, lines_refused}
use Rattle.toml.proofs.Blanks.{skip_newline, skip_within}
use Rattle.toml.proofs.ReadLines.{run, AllPrinted, line_turn}
use Rattle.toml.proofs.ReadValues.{item_join, item_join-none, item_join-push}
use Rattle.toml_writer.proofs.Scalars.{IsWord-integer}
use Rattle.toml_parser.specs.Lexical.{first, is_word, skip_blank, skip_from, skip_turn}
use Rattle.toml_parser.proofs.LexicalLemmas.{skip_from-nil}
use Rattle.std.proofs.lemmas.Option.{none-some, same_Some}
use Rattle.rl_desc.specs.Described.{document_of}

-- ---- plain texts

-- a byte of a name, a path or a number
abbrev pub is_plain : ℕ → Bool
is_plain c = (nat_le 45 c && nat_le c 122) && not (c == 92)

abbrev pub are_plain : List ℕ → Bool
are_plain s = list_all is_plain s

record Plain (s : List ℕ) : Type 0 where
  control : list_any is_control s ≡ false
  backslash : has 92 s ≡ false
  quote : has 34 s ≡ false
  newline : has 10 s ≡ false
  same : escaped false 0 s ≡ s

plain : (s : List ℕ) → are_plain s ≡ true → Plain s
unfolding escaped quotes_after needs_escape
plain [] h = record { control = refl; backslash = refl; quote = refl; newline = refl; same = refl }
plain (c ∷ cs) h =
    let (here, more) = and_parts (is_plain c) (are_plain cs) h in
    let p = plain cs more in
    let control : is_control c ≡ false = grind (arith, nat_tests) in
    let backslash : (c == 92) ≡ false = grind (arith, nat_tests) in
    let quote : (c == 34) ≡ false = grind (arith, nat_tests) in
    let newline : (c == 10) ≡ false = grind (arith, nat_tests) in
    let escape : needs_escape false 0 c ≡ false = grind (arith, nat_tests) in
    record {
      control = rw (control, p.control) refl;
      backslash = rw (backslash, p.backslash) refl;
      quote = rw (quote, p.quote) refl;
      newline = rw (newline, p.newline) refl;
      same = rw (escape, quote) (ap (λ l. c ∷ l) p.same);
    }

-- it is written in quotes as it is
pub string_plain : (s : List ℕ) → are_plain s ≡ true → string_text s ≡ 34 ∷ (s ++ 34 ∷ [])
unfolding string_text encoding_of
string_plain s h =
    let p = plain s h in
    rw (p.control, p.backslash, p.quote, p.newline) (ap (λ l. 34 ∷ (l ++ 34 ∷ [])) p.same)

-- ---- ASCII

IsAscii-append : (s t : List ℕ) → IsAscii s → IsAscii t → IsAscii (s ++ t)
IsAscii-append [] t a b = b
IsAscii-append (c ∷ cs) t a b = IsAscii-cons c (cs ++ t) (a 0) (IsAscii-append cs t (λ i. a (suc i)) b)

ascii_plain : (s : List ℕ) → are_plain s ≡ true → IsAscii s
ascii_plain [] h = IsAscii-nil
ascii_plain (c ∷ cs) h =
    let (here, more) = and_parts (is_plain c) (are_plain cs) h in
    let low : c < 128 = grind (arith, nat_tests) in
    IsAscii-cons c cs low (ascii_plain cs more)

abbrev is_low : ℕ → Bool
is_low c = nat_lt c 128

ascii_low : (s : List ℕ) → list_all is_low s ≡ true → IsAscii s
ascii_low [] h = IsAscii-nil
ascii_low (c ∷ cs) h =
    let (here, more) = and_parts (is_low c) (list_all is_low cs) h in
    let low : c < 128 = grind (arith, nat_tests) in
    IsAscii-cons c cs low (ascii_low cs more)

-- ---- a pair of a row

-- a value as a row writes it
abbrev pub plain_text : Data → List ℕ
plain_text (string s) = 34 ∷ (s ++ 34 ∷ [])
plain_text (integer (pos n)) = decimal n
plain_text _ = []

-- a text of plain bytes, or a number that TOML can write
abbrev pub IsPlain : Data → Type 0
IsPlain (string s) = are_plain s ≡ true
IsPlain (integer (pos n)) = n < 2 ^ 63
IsPlain _ = ⊥

abbrev pub pair_line : List ℕ × Data → List ℕ
pair_line p = p.0 ++ (codes " = " ++ (plain_text p.1 ++ 10 ∷ []))

-- a bare key with a plain value
abbrev pub IsPair : List ℕ × Data → Type 0
IsPair p = (key_text p.0 ≡ p.0) × (are_plain p.0 ≡ true) × IsPlain p.1

abbrev pub ArePairs : List (List ℕ × Data) → Type 0
ArePairs [] = Unit {0}
ArePairs (p ∷ ps) = IsPair p × ArePairs ps

abbrev pub pair : List ℕ × Data → Expression
pair p = (([], p.0), key_value p.1)

small_number : (n : ℕ) → n < 2 ^ 63 → n < 2 ^ 64
small_number n h = omega arith

value_is : (d : Data) → IsPlain d → IsValueText false d (plain_text d)
value_is (string s) h = sym (string_plain s h)
value_is (integer (pos n)) h = (refl, fits_signed_from_abs w64 (pos n) h)
value_is (integer (negsuc n)) h = absurd h
value_is (float x) h = absurd h
value_is (boolean b) h = absurd h
value_is (datetime x) h = absurd h
value_is (array x) h = absurd h
value_is (table x) h = absurd h

value_printed : (d : Data) → IsPlain d → (depth d ≤ 80) × (has_valid_dates d ≡ true)
value_printed (string s) h = (omega arith, refl)
value_printed (integer n) h = (omega arith, refl)
value_printed (float x) h = absurd h
value_printed (boolean b) h = absurd h
value_printed (datetime x) h = absurd h
value_printed (array x) h = absurd h
value_printed (table x) h = absurd h

value_ascii : (d : Data) → IsPlain d → IsAscii (plain_text d)
value_ascii (string s) h = IsAscii-cons 34 _ (omega arith) (IsAscii-append s (34 ∷ []) (ascii_plain s h) (ascii_low (34 ∷ []) refl))
value_ascii (integer (pos n)) h = IsAscii-decimal n (small_number n h)
value_ascii (integer (negsuc n)) h = absurd h
value_ascii (float x) h = absurd h
value_ascii (boolean b) h = absurd h
value_ascii (datetime x) h = absurd h
value_ascii (array x) h = absurd h
value_ascii (table x) h = absurd h

-- ---- a row

abbrev pub pairs_text : List (List ℕ × Data) → List ℕ
pairs_text [] = []
pairs_text (p ∷ ps) = pair_line p ++ pairs_text ps

abbrev pub row_text : List (List ℕ × Data) → List ℕ
row_text ps = codes "[[flaw]]\n" ++ pairs_text ps

abbrev pub header : Expression
header = (([], codes "flaw"), array_table)

-- Each expression has a line of its own, behind a note that the reader passes.
abbrev IsPassed : List ℕ → Type 0
IsPassed note = (t : List ℕ) → skip_blank (note ++ t) ≡ skip_blank t

abbrev Lines : List Expression → List ℕ → Type 0
Lines [] text = text ≡ []
Lines (e ∷ es) text =
    (note : List ℕ) × (this : List ℕ) × (rest : List ℕ) × (text ≡ note ++ (this ++ rest)) × IsPassed note
    × IsLineText false false e.0 e.1 this × Lines es rest

Lines-append : (es fs : List Expression) (t u : List ℕ) → Lines es t → Lines fs u → Lines (es ++ fs) (t ++ u)
Lines-append [] fs t u one two = subst (λ x. Lines fs (x ++ u)) (sym one) two
Lines-append (e ∷ es) fs t u (note, this, rest, whole, passed, line, more) two =
    let same : t ++ u ≡ note ++ (this ++ (rest ++ u)) = rw (whole, append_assoc note (this ++ rest) u, append_assoc this rest u) refl in
    (note, this, rest ++ u, same, passed, line, Lines-append es fs rest u more two)

pairs_lines : (ps : List (List ℕ × Data)) → ArePairs ps → Lines (map pair ps) (pairs_text ps)
pairs_lines [] h = refl
pairs_lines (p ∷ ps) h =
    let line : pair_line p ≡ key_text p.0 ++ (codes " = " ++ (plain_text p.1 ++ 10 ∷ [])) =
    ap (λ k. k ++ (codes " = " ++ (plain_text p.1 ++ 10 ∷ []))) (sym h.0.0) in
    ([], pair_line p, pairs_text ps, refl, (λ t. refl), (plain_text p.1, line, value_is p.1 h.0.2), pairs_lines ps h.1)

all_printed : (ps : List (List ℕ × Data)) → ArePairs ps → AllPrinted (map pair ps)
all_printed [] h = tt
all_printed (p ∷ ps) h = let v = value_printed p.1 h.0.2 in ((refl, v.0, v.1), all_printed ps h.1)

pairs_ascii : (ps : List (List ℕ × Data)) → ArePairs ps → IsAscii (pairs_text ps)
pairs_ascii [] h = IsAscii-nil
pairs_ascii (p ∷ ps) h =
    let end = IsAscii-append (plain_text p.1) (10 ∷ []) (value_ascii p.1 h.0.2) (ascii_low (10 ∷ []) refl) in
    let value = IsAscii-append (codes " = ") _ (ascii_low (codes " = ") refl) end in
    IsAscii-append (pair_line p) (pairs_text ps) (IsAscii-append p.0 _ (ascii_plain p.0 h.0.1) value) (pairs_ascii ps h.1)

header_line : IsLineText false false ([], codes "flaw") array_table (codes "[[flaw]]\n")
unfolding key_text
header_line = refl

read_step : (m : ℕ) (doc : Document) (x : List ℕ) (e : Expression) (after : List ℕ) (es : List Expression) (defined : Option Document) → defined ≡ define doc e → 0 < m
    → (length (skip_blank x) == 0) ≡ false → line (skip_blank x) ≡ Some (e, after)
    → ((next : Document) → lines (m - 1) next after ≡ run next es) → lines m doc x ≡ option_and_then (λ next. run next es) defined
read_step m doc x e after es None same some other read more = lines_refused m doc x e after some other read (sym same)
read_step m doc x e after es (Some next) same some other read more = lines_more m doc next x e after some other read (sym same) ∙ more next

-- the reader makes what the expressions make, one after another
read_all : (es : List Expression) (text x : List ℕ) (doc : Document) (m : ℕ) → Lines es text → AllPrinted es → skip_blank x ≡ skip_blank text → length x < m
    → lines m doc x ≡ run doc es
read_all [] text x doc m h ok skip room = lines_end m doc x (omega arith) (rw (skip, h, skip_from-nil true false) refl)
read_all (e ∷ es) text x doc m (note, this, rest, whole, passed, written, more) ok skip room =
    let (s, at_start, read, some, shorter, not_bom) = line_turn false false e.0 e.1 this rest written ok.0 in
    let same : skip_blank x ≡ s = skip ∙ ap skip_blank whole ∙ passed (this ++ rest) ∙ at_start in
    let other : (length (skip_blank x) == 0) ≡ false = rw same (grind (arith, nat_tests)) in
    let within = skip_within x in
    read_step m doc x e (10 ∷ rest) es (define doc e) refl (omega arith) other (rw same read)
    (λ next. read_all es rest (10 ∷ rest) next (m - 1) more ok.1 (skip_newline rest) (omega (arith, ap length same)))

run_on : (es fs : List Expression) (next : Document) → ((n : Document) → run n es ≡ Some next → run n (es ++ fs) ≡ run next fs)
    → (o : Option Document) → option_and_then (λ n. run n es) o ≡ Some next → option_and_then (λ n. run n (es ++ fs)) o ≡ run next fs
run_on es fs next more None e = absurd (none-some next e)
run_on es fs next more (Some n) e = more n e

run_append : (es fs : List Expression) (doc next : Document) → run doc es ≡ Some next → run doc (es ++ fs) ≡ run next fs
run_append [] fs doc next e = ap (λ (d : Document). run d fs) (same_Some doc next e)
run_append (x ∷ es) fs doc next e = run_on es fs next (λ n. run_append es fs n next) (define doc x) e

-- ---- rows, one behind another

-- the document while its rows of flaws are read: those that are done, and the last
abbrev so_far : Items → Nodes → Document
so_far done last = (node (codes "flaw") (open_array done last) no_nodes, codes "flaw" ∷ [])

-- a note that is passed, and a row that makes this table
pub record IsRow (text : List ℕ) (row : Members) : Type 0 where
  note : List ℕ
  pairs : List (List ℕ × Data)
  passed : IsPassed note
  ascii : IsAscii note
  starts : (t : List ℕ) → (first (note ++ 91 ∷ t) == 239) ≡ false
  good : ArePairs pairs
  same : text ≡ note ++ row_text pairs
  nodes : Nodes
  made : close nodes ≡ row
  begins : run (no_nodes, []) (header ∷ map pair pairs) ≡ Some (so_far no_items nodes)
  goes_on : (done : Items) (last : Nodes) → run (so_far done last) (header ∷ map pair pairs) ≡ Some (so_far (push_item done (table (close last))) nodes)

abbrev pub Rows : List ℕ → List Members → Type 0
Rows text [] = text ≡ []
Rows text (row ∷ rows) = (this : List ℕ) × (rest : List ℕ) × (text ≡ this ++ rest) × IsRow this row × Rows rest rows

abbrev of_rows : (rows : List Members) (text : List ℕ) → Rows text rows → List Expression
of_rows [] text h = []
of_rows (row ∷ rows) text h = (header ∷ map pair h.3.pairs) ++ of_rows rows h.1 h.4

row_lines : (text : List ℕ) (row : Members) (r : IsRow text row) → Lines (header ∷ map pair r.pairs) text
row_lines text row r = (r.note, codes "[[flaw]]\n", pairs_text r.pairs, r.same, r.passed, header_line, pairs_lines r.pairs r.good)

row_ascii : (text : List ℕ) (row : Members) → IsRow text row → IsAscii text
row_ascii text row r =
    subst IsAscii (sym r.same) (IsAscii-append r.note (row_text r.pairs) r.ascii
    (IsAscii-append (codes "[[flaw]]\n") (pairs_text r.pairs) (ascii_low (codes "[[flaw]]\n") refl) (pairs_ascii r.pairs r.good)))

rows_lines : (rows : List Members) (text : List ℕ) (h : Rows text rows) → Lines (of_rows rows text h) text
rows_lines [] text h = h
rows_lines (row ∷ rows) text (this, rest, whole, r, more) =
    subst (Lines (of_rows (row ∷ rows) text (this, rest, whole, r, more))) (sym whole)
    (Lines-append (header ∷ map pair r.pairs) (of_rows rows rest more) this rest (row_lines this row r) (rows_lines rows rest more))

AllPrinted-append : (es fs : List Expression) → AllPrinted es → AllPrinted fs → AllPrinted (es ++ fs)
AllPrinted-append [] fs a b = b
AllPrinted-append (e ∷ es) fs a b = (a.0, AllPrinted-append es fs a.1 b)

rows_printed : (rows : List Members) (text : List ℕ) (h : Rows text rows) → AllPrinted (of_rows rows text h)
rows_printed [] text h = tt
rows_printed (row ∷ rows) text (this, rest, whole, r, more) =
    AllPrinted-append (header ∷ map pair r.pairs) (of_rows rows rest more) (omega arith, all_printed r.pairs r.good) (rows_printed rows rest more)

rows_ascii : (rows : List Members) (text : List ℕ) → Rows text rows → IsAscii text
rows_ascii [] text h = subst IsAscii (sym h) IsAscii-nil
rows_ascii (row ∷ rows) text (this, rest, whole, r, more) =
    subst IsAscii (sym whole) (IsAscii-append this rest (row_ascii this row r) (rows_ascii rows rest more))

not_bom : (rows : List Members) (text : List ℕ) → Rows text rows → (first text == 239) ≡ false
not_bom [] text h = rw h refl
not_bom (row ∷ rows) text (this, rest, whole, r, more) =
    let front : text ≡ r.note ++ 91 ∷ (codes "[flaw]]\n" ++ (pairs_text r.pairs ++ rest)) = rw (whole, r.same, append_assoc r.note (row_text r.pairs) rest) refl in
    ap (λ x. first x == 239) front ∙ r.starts (codes "[flaw]]\n" ++ (pairs_text r.pairs ++ rest))

-- ---- what they make

abbrev pub items_of : List Members → Items
items_of [] = no_items
items_of (row ∷ rows) = item (table row) (items_of rows)

-- the document that has these rows and nothing else
abbrev pub rows_document : List Members → Members
rows_document [] = no_members
rows_document (row ∷ rows) = member (codes "flaw") (array (items_of (row ∷ rows))) no_members

abbrev flaw_array : Items → Members
flaw_array items = member (codes "flaw") (array items) no_members

record Ends (doc : Document) (es : List Expression) (members : Members) : Type 0 where
  last : Document
  ran : run doc es ≡ Some last
  made : close last.0 ≡ members

ends_on : (rows : List Members) (text : List ℕ) (h : Rows text rows) (done : Items) (last : Nodes)
    → Ends (so_far done last) (of_rows rows text h) (flaw_array (item_join (push_item done (table (close last))) (items_of rows)))
ends_on [] text h done last = record { last = so_far done last; ran = refl; made = ap flaw_array (sym (item_join-none (push_item done (table (close last))))) }
ends_on (row ∷ rows) text (this, rest, whole, r, more) done last =
    let next = push_item done (table (close last)) in
    let e = ends_on rows rest more next r.nodes in
    let joined : item_join (push_item next (table (close r.nodes))) (items_of rows) ≡ item_join next (item (table row) (items_of rows)) =
    item_join-push next (table (close r.nodes)) (items_of rows) ∙ ap (λ m. item_join next (item (table m) (items_of rows))) r.made in
    record {
      last = e.last;
      ran = run_append (header ∷ map pair r.pairs) (of_rows rows rest more) (so_far done last) (so_far next r.nodes) (r.goes_on done last) ∙ e.ran;
      made = e.made ∙ ap flaw_array joined;
    }

ends : (rows : List Members) (text : List ℕ) (h : Rows text rows) → Ends (no_nodes, []) (of_rows rows text h) (rows_document rows)
ends [] text h = record { last = (no_nodes, []); ran = refl; made = refl }
ends (row ∷ rows) text (this, rest, whole, r, more) =
    let e = ends_on rows rest more no_items r.nodes in
    record {
      last = e.last;
      ran = run_append (header ∷ map pair r.pairs) (of_rows rows rest more) (no_nodes, []) (so_far no_items r.nodes) r.begins ∙ e.ran;
      made = e.made ∙ ap (λ m. flaw_array (item (table m) (items_of rows))) r.made;
    }

no_skip : (text : List ℕ) → (first text == 239) ≡ false → skip_bom text ≡ text
unfolding skip_bom
no_skip text h = rw h refl

-- rows are the document that has them
pub rows_parsed : (rows : List Members) (text : List ℕ) → Rows text rows → document_of text ≡ Some (rows_document rows)
rows_parsed rows text h =
    let e = ends rows text h in
    let es = of_rows rows text h in
    let read = read_all es text text (no_nodes, []) (suc (length text)) (rows_lines rows text h) (rows_printed rows text h) refl (omega arith) in
    let whole = no_skip text (not_bom rows text h) in
    let utf8 = is_utf8-from_IsUtf8 text (IsUtf8-from_ascii text (rows_ascii rows text h)) in
    rw utf8 (document_some text e.last (rw whole (read ∙ e.ran)) ∙ ap Some e.made)

own_row : (ps : List (List ℕ × Data)) (row : Members) → ArePairs ps → (nodes : Nodes) → close nodes ≡ row
    → run (no_nodes, []) (header ∷ map pair ps) ≡ Some (so_far no_items nodes)
    → ((done : Items) (last : Nodes) → run (so_far done last) (header ∷ map pair ps) ≡ Some (so_far (push_item done (table (close last))) nodes))
    → IsRow (row_text ps) row
own_row ps row good nodes made begins goes_on = record {
  note = [];
  pairs = ps;
  passed = λ t. refl;
  ascii = IsAscii-nil;
  starts = λ t. refl;
  good = good;
  same = refl;
  nodes = nodes;
  made = made;
  begins = begins;
  goes_on = goes_on;
}

-- ---- the rows: their pairs in order, and their tables, whose keys ascend

abbrev pub stuck_pairs : (field : List ℕ) (bit value : ℕ) → List (List ℕ × Data)
stuck_pairs field bit value = (codes "kind", string (codes "stuck")) ∷ (codes "field", string field) ∷ (codes "bit", integer (pos bit)) ∷ (codes "value", integer (pos value)) ∷ []

abbrev pub stuck_table : (field : List ℕ) (bit value : ℕ) → Members
stuck_table field bit value = member (codes "bit") (integer (pos bit)) (member (codes "field") (string field) (member (codes "kind") (string (codes "stuck")) (member (codes "value") (integer (pos value)) no_members)))

pub stuck_is : (field : List ℕ) (bit value : ℕ) → are_plain field ≡ true → bit < 2 ^ 63 → value < 2 ^ 63 → IsRow (row_text (stuck_pairs field bit value)) (stuck_table field bit value)
unfolding key_text at_key along_header along_dots define
stuck_is field bit value f b v =
    own_row (stuck_pairs field bit value) (stuck_table field bit value) ((refl, refl, refl), ((refl, refl, f), ((refl, refl, b), ((refl, refl, v), tt)))) _ refl refl (λ done last. refl)

abbrev pub reset_pairs : (field kind value : List ℕ) → List (List ℕ × Data)
reset_pairs field kind value = (codes "kind", string (codes "reset")) ∷ (codes "field", string field) ∷ (codes "on", string kind) ∷ (codes "value", string value) ∷ []

abbrev pub reset_table : (field kind value : List ℕ) → Members
reset_table field kind value = member (codes "field") (string field) (member (codes "kind") (string (codes "reset")) (member (codes "on") (string kind) (member (codes "value") (string value) no_members)))

pub reset_is : (field kind value : List ℕ) → are_plain field ≡ true → are_plain kind ≡ true → are_plain value ≡ true → IsRow (row_text (reset_pairs field kind value)) (reset_table field kind value)
unfolding key_text at_key along_header along_dots define
reset_is field kind value f k v =
    own_row (reset_pairs field kind value) (reset_table field kind value) ((refl, refl, refl), ((refl, refl, f), ((refl, refl, k), ((refl, refl, v), tt)))) _ refl refl (λ done last. refl)

abbrev pub policy_pairs : (field policy : List ℕ) → List (List ℕ × Data)
policy_pairs field policy = (codes "kind", string (codes "policy")) ∷ (codes "field", string field) ∷ (codes "policy", string policy) ∷ []

abbrev pub policy_table : (field policy : List ℕ) → Members
policy_table field policy = member (codes "field") (string field) (member (codes "kind") (string (codes "policy")) (member (codes "policy") (string policy) no_members))

pub policy_is : (field policy : List ℕ) → are_plain field ≡ true → are_plain policy ≡ true → IsRow (row_text (policy_pairs field policy)) (policy_table field policy)
unfolding key_text at_key along_header along_dots define
policy_is field policy f p =
    own_row (policy_pairs field policy) (policy_table field policy) ((refl, refl, refl), ((refl, refl, f), ((refl, refl, p), tt))) _ refl refl (λ done last. refl)

abbrev pub range_pairs : (root from to : List ℕ) → List (List ℕ × Data)
range_pairs root from to = (codes "kind", string (codes "error-range")) ∷ (codes "map", string root) ∷ (codes "from", string from) ∷ (codes "to", string to) ∷ []

abbrev pub range_table : (root from to : List ℕ) → Members
range_table root from to = member (codes "from") (string from) (member (codes "kind") (string (codes "error-range")) (member (codes "map") (string root) (member (codes "to") (string to) no_members)))

pub range_is : (root from to : List ℕ) → are_plain root ≡ true → are_plain from ≡ true → are_plain to ≡ true → IsRow (row_text (range_pairs root from to)) (range_table root from to)
unfolding key_text at_key along_header along_dots define
range_is root from to m a b =
    own_row (range_pairs root from to) (range_table root from to) ((refl, refl, refl), ((refl, refl, m), ((refl, refl, a), ((refl, refl, b), tt)))) _ refl refl (λ done last. refl)

abbrev pub nth_pairs : (nth : ℕ) → List (List ℕ × Data)
nth_pairs nth = (codes "kind", string (codes "error-nth")) ∷ (codes "nth", integer (pos nth)) ∷ []

abbrev pub nth_table : (nth : ℕ) → Members
nth_table nth = member (codes "kind") (string (codes "error-nth")) (member (codes "nth") (integer (pos nth)) no_members)

pub nth_is : (nth : ℕ) → nth < 2 ^ 63 → IsRow (row_text (nth_pairs nth)) (nth_table nth)
unfolding key_text at_key along_header along_dots define
nth_is nth n =
    own_row (nth_pairs nth) (nth_table nth) ((refl, refl, refl), ((refl, refl, n), tt)) _ refl refl (λ done last. refl)

abbrev pub deaf_pairs : (path : List ℕ) → List (List ℕ × Data)
deaf_pairs path = (codes "kind", string (codes "deaf")) ∷ (codes "item", string path) ∷ []

abbrev pub deaf_table : (path : List ℕ) → Members
deaf_table path = member (codes "item") (string path) (member (codes "kind") (string (codes "deaf")) no_members)

pub deaf_is : (path : List ℕ) → are_plain path ≡ true → IsRow (row_text (deaf_pairs path)) (deaf_table path)
unfolding key_text at_key along_header along_dots define
deaf_is path i =
    own_row (deaf_pairs path) (deaf_table path) ((refl, refl, refl), ((refl, refl, i), tt)) _ refl refl (λ done last. refl)

-- ---- a row behind the number of a line

in_comment : (c next : ℕ) → is_word c ≡ true → skip_turn true true c next ≡ Some true
in_comment c next h = grind (arith, nat_tests)

comment_passed : (s t : List ℕ) → list_all is_word s ≡ true → skip_from true true (s ++ 10 ∷ t) ≡ skip_blank t
unfolding skip_from
comment_passed [] t h = refl
comment_passed (c ∷ cs) t h =
    let (here, more) = and_parts (is_word c) (list_all is_word cs) h in
    rw (in_comment c (first (cs ++ 10 ∷ t)) here) (comment_passed cs t more)

abbrev note_text : ℕ → List ℕ
note_text line = codes "# line " ++ (decimal line ++ codes "\n")

note_passed : (line : ℕ) → line < 2 ^ 63 → IsPassed (note_text line)
unfolding skip_from
note_passed line small t =
    let word = IsWord-integer (pos line) (fits_signed_from_abs w64 (pos line) small) in
    ap (λ x. skip_from true true x) (append_assoc (decimal line) (codes "\n") t) ∙ comment_passed (decimal line) t word.all

note_ascii : (line : ℕ) → line < 2 ^ 63 → IsAscii (note_text line)
note_ascii line small =
    IsAscii-append (codes "# line ") (decimal line ++ codes "\n") (ascii_low (codes "# line ") refl)
    (IsAscii-append (decimal line) (codes "\n") (IsAscii-decimal line (small_number line small)) (ascii_low (codes "\n") refl))

pub noted : (text : List ℕ) (row : Members) (line : ℕ) → IsRow text row → line < 2 ^ 63 → IsRow (note_text line ++ text) row
noted text row line r small =
    let note = note_text line ++ r.note in
    let passed : IsPassed note = λ t. ap skip_blank (append_assoc (note_text line) r.note t) ∙ note_passed line small (r.note ++ t) ∙ r.passed t in
    let same : note_text line ++ text ≡ note ++ row_text r.pairs =
    ap (λ x. note_text line ++ x) r.same ∙ sym (append_assoc (note_text line) r.note (row_text r.pairs)) in
    record {
      note = note;
      pairs = r.pairs;
      passed = passed;
      ascii = IsAscii-append (note_text line) r.note (note_ascii line small) r.ascii;
      starts = λ t. refl;
      good = r.good;
      same = same;
      nodes = r.nodes;
      made = r.made;
      begins = r.begins;
      goes_on = r.goes_on;
    }
