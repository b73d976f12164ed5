-- The text of an operation: its pieces, its line, and its bytes.
use Rattle.std.proofs.Common.{◌≡◌, ℕ, Bool, true, false, if◌then◌else◌, List, [], ◌∷◌, ◌++◌, length, codes, decimal, map, Option}
use Rattle.std.proofs.Common.{Some, None, unwrap_or, option_map, Result, refl, sym, ap, ◌∙◌, subst, append_assoc, append-nil}
use Rattle.std.specs.Prelude.{◌*◌, IfSome, option_and_then}
use Rattle.std.specs.Option.{option_map_or}
use Rattle.std.proofs.lemmas.Bool.{true≢false}
use Rattle.rl_policy.specs.Numbers.{hex_digits, spelled}
use Rattle.rl_model.specs.declared.rows.Item.TheVariants as item
use Rattle.rl_model.specs.Rows.{ChipData}
use Rattle.rl_model.specs.Chip.{IsSound, path_of_item, field_path}
use Rattle.rl_model.specs.Fields.{field_of, size_of}
use Rattle.rl_access.specs.declared.event.Op.{Op}
use Rattle.rl_access.specs.declared.event.Op.TheVariants as op
use Rattle.rl_access.specs.Model.{ModelData}
use Rattle.rl_access.specs.Operation.{HasNumbers, IsMapIn, reg_of, register_of, digits_of, location_size}
use Rattle.rl_script.specs.declared.command.Command.TheVariants as command
use Rattle.rl_script.specs.declared.command.Item.{Item}
use Rattle.rl_script.specs.declared.command.Item.TheVariants as verb
use Rattle.rl_script.specs.declared.line.Line.{Line}
use Rattle.rl_script.specs.declared.line.Line.TheVariants as line
use Rattle.rl_script.specs.Commands.{row_of, item_name, command_name}
use Rattle.rl_script.specs.Spelling.{joined as in_words, spaced, map_words, words_with, numbers_in, map_in, spelling}
use Rattle.rl_script.proofs.ItemLemmas.{item_line_words}
use Rattle.rl_script.proofs.TextLemmas.{spaced-append}
use Rattle.rl_report.specs.declared.operation.Spoken.{Spoken}
use Rattle.rl_report.specs.declared.operation.Subject.{Subject}
use Rattle.rl_report.specs.declared.operation.Subject.TheVariants.{Reg, Field, Mem}
use Rattle.rl_report.specs.Operation.{spoken_of, subject_of, spoken_line, subject_path, map_name, kind_text, line_of, counted_text, burst_text, op_text, IsSubjectIn, IsSpokenIn}
use Rattle.rl_report.specs.Pieces.{Gathers, joined}
use Rattle.rl_report.specs.WithoutItems.{is_indented, HasNames}
use Rattle.rl_report.proofs.NameTexts.{IsSpelling, unbroken-spelling, spelling-append, spelling-cons, spelling-fixed, spelling-spelled}
use Rattle.rl_report.proofs.NameTexts.{spelling-path_of_item, spelling-field, spelling-kind, spelling-map}
use Rattle.rl_report.proofs.Unbroken.{IsUnbroken, unbroken-append, unbroken-cons, unbroken-fixed, unbroken-decimal}

-- ---- piece by piece

pub number_pushed : (t u v : List ℕ) (n : ℕ) → u ≡ t ++ codes " 0x" → v ≡ u ++ hex_digits n → v ≡ t ++ spaced (spelled n ∷ [])
number_pushed t u v n d e =
    e ∙ ap (λ l. l ++ hex_digits n) d ∙ append_assoc t (codes " 0x") (hex_digits n) ∙ ap (λ l. t ++ (codes " 0x" ++ l)) (sym (append-nil (hex_digits n)))

-- the same text in other words
pub same_text : {T E : Type 0} (a b : Option (List ℕ)) (t v x y : List ℕ) (r : Result T E) → x ≡ y → Gathers a b t v x r → Gathers a b t v y r
same_text a b t v x y r e h = subst (λ l. Gathers a b t v l r) e h

pub map_pieces : (name : List ℕ) → joined (codes " @" ∷ name ∷ []) ≡ spaced (map_words (Some name))
unfolding joined
map_pieces name = refl

pub field_pieces : (c : ChipData) (field : ℕ) → joined (path_of_item c (item.Reg (reg_of c field)) ∷ codes "." ∷ (field_of c field).name ∷ []) ≡ field_path c (field_of c field)
unfolding joined
field_pieces c field = ap (λ l. path_of_item c (item.Reg (reg_of c field)) ++ (codes "." ++ l)) (append-nil (field_of c field).name)

words_pieces : (name path : List ℕ) (ns : List ℕ) (m : Option (List ℕ))
    → joined (name ∷ codes " " ∷ path ∷ spaced (map spelled ns) ∷ spaced (map_words m) ∷ []) ≡ in_words (words_with name path ns m)
unfolding joined
words_pieces name path ns m =
    ap (λ l. name ++ (codes " " ++ (path ++ (spaced (map spelled ns) ++ l)))) (append-nil (spaced (map_words m)))
    ∙ ap (λ l. name ++ (codes " " ++ (path ++ l))) (sym (spaced-append (map spelled ns) (map_words m)))

no_map : (b : Bool) (o : Option (List ℕ)) → (b ≡ false → o ≡ None) → (if b then o else None) ≡ o
no_map true o h = refl
no_map false o h = sym (h refl)

map_told : (m : ModelData) (s : Spoken) → IsSpokenIn m s → map_in s.command (map_name m.layout s.map) ≡ map_name m.layout s.map
map_told m s h = no_map (row_of s.command).map (map_name m.layout s.map) (λ off. ap (map_name m.layout) (h.on_bus off))

-- the words of a command, of which so many numbers and maybe the map are told
abbrev words_of_spoken : ModelData → Spoken → Option (List ℕ) → List (List ℕ)
words_of_spoken m s through = words_with (item_name s.command) (subject_path m.chip s.subject) (numbers_in s.command s.first s.second) through

spoken_is : (m : ModelData) (s : Spoken) → spelling (spoken_line m s) ≡ in_words (words_of_spoken m s (map_in s.command (map_name m.layout s.map)))
unfolding spelling
spoken_is m s = ap in_words (item_line_words s.command (subject_path m.chip s.subject) s.first s.second (map_name m.layout s.map))

pub spoken_pieces : (m : ModelData) (s : Spoken) → IsSpokenIn m s
    → joined (item_name s.command ∷ codes " " ∷ subject_path m.chip s.subject ∷ spaced (map spelled (numbers_in s.command s.first s.second)) ∷ spaced (map_words (map_name m.layout s.map)) ∷ [])
    ≡ spelling (spoken_line m s)
spoken_pieces m s h =
    words_pieces (item_name s.command) (subject_path m.chip s.subject) (numbers_in s.command s.first s.second) (map_name m.layout s.map)
    ∙ ap (λ o. in_words (words_of_spoken m s o)) (sym (map_told m s h)) ∙ sym (spoken_is m s)

pub burst_pieces : (m : ModelData) (name : List ℕ) (mem first count : ℕ) (through : Option ℕ)
    → joined (name ∷ codes " " ∷ path_of_item m.chip (item.Mem mem) ∷ spaced (spelled first ∷ []) ∷ codes " count " ∷ decimal count ∷ spaced (map_words (map_name m.layout through)) ∷ [])
    ≡ counted_text m name mem first count through
unfolding joined
burst_pieces m name mem first count through =
    let map = spaced (map_words (map_name m.layout through)) in
    let rest = codes " count " ++ (decimal count ++ (map ++ [])) in
    ap (λ l. name ++ (codes " " ++ (path_of_item m.chip (item.Mem mem) ++ (codes " 0x" ++ l)))) (append_assoc (hex_digits first) [] rest)
    ∙ ap (λ l. name ++ (codes " " ++ (path_of_item m.chip (item.Mem mem) ++ (codes " 0x" ++ (hex_digits first ++ (codes " count " ++ (decimal count ++ l))))))) (append-nil map)

pub reset_pieces : (kind : List ℕ) → joined (command_name command.Reset ∷ codes " " ∷ kind ∷ []) ≡ spelling (line.Reset kind)
unfolding joined spelling
reset_pieces kind = refl

-- ---- as a command

pub from_some : {X : Type 0} (P : X → Type 0) (o : Option X) (x : X) → o ≡ Some x → IfSome o P → P x
from_some P o x e h = subst (λ o. IfSome o P) e h

-- a number, and a map where the command takes one
abbrev pub Both : Bool → Type 0 → Type 0 → Type 0
Both true N M = N × M
Both false N M = N

first_of_both : (takes : Bool) (N M : Type 0) → Both takes N M → N
first_of_both true N M h = h.0
first_of_both false N M h = h

map_of_both : (takes : Bool) (N : Type 0) (maps : ℕ) (map : Option ℕ) → Both takes N (IsMapIn maps map) → (takes ≡ false → map ≡ None) → IsMapIn maps map
map_of_both true N maps map h off = h.1
map_of_both false N maps map h off = subst (IsMapIn maps) (sym (off refl)) tt

none_where : {X : Type 0} (takes : Bool) (o : Option X) → (if takes then o else None) ≡ o → takes ≡ false → o ≡ None
none_where true o e off = absurd (true≢false off)
none_where false o e off = sym e

-- a command that takes no map has none
no_map_told : (o : Op) → IfSome (spoken_of o) (λ s. (if (row_of s.command).map then s.map else None) ≡ s.map)
no_map_told (op.BurstWrite mem map first count) = tt
no_map_told (op.BurstRead mem map first count) = tt
no_map_told (op.Reset kind) = tt
no_map_told _ = refl

fits_spoken : (m : ModelData) (o : Option Spoken) → IfSome o (λ s. (if (row_of s.command).map then s.map else None) ≡ s.map)
    → IfSome o (λ s. Both (row_of s.command).map (IsSubjectIn m.chip s.subject) (IsMapIn (length m.layout.maps) s.map)) → IfSome o (IsSpokenIn m)
fits_spoken m None told h = tt
fits_spoken m (Some s) told h =
    let off = none_where (row_of s.command).map s.map told in
    record {
      subject = first_of_both (row_of s.command).map (IsSubjectIn m.chip s.subject) (IsMapIn (length m.layout.maps) s.map) h;
      through = map_of_both (row_of s.command).map (IsSubjectIn m.chip s.subject) (length m.layout.maps) s.map h off;
      on_bus = off;
    }

pub spoken_in : (m : ModelData) (o : Op) → HasNumbers m.chip (length m.layout.maps) o → IfSome (spoken_of o) (IsSpokenIn m)
spoken_in m (op.BurstWrite mem map first count) h = tt
spoken_in m (op.BurstRead mem map first count) h = tt
spoken_in m (op.Reset kind) h = tt
spoken_in m o h = fits_spoken m (spoken_of o) (no_map_told o) h

-- ---- what it concerns, by what it is on

abbrev pub register_on : ChipData → Subject → Option ℕ
register_on c (Reg reg) = Some reg
register_on c (Field field) = Some (reg_of c field)
register_on c (Mem mem) = None

pub register_by_subject : (c : ChipData) (o : Op) → register_of c o ≡ option_and_then (register_on c) (subject_of o)
register_by_subject c (op.Write reg map value) = refl
register_by_subject c _ = refl

pub register_at : (c : ChipData) (o : Op) (s : Subject) → subject_of o ≡ Some s → register_on c s ≡ register_of c o
register_at c o s e = sym (register_by_subject c o ∙ ap (λ (q : Option Subject). option_and_then (register_on c) q) e)

abbrev pub digits_on : ChipData → Subject → ℕ
digits_on c (Reg reg) = 2 * size_of c reg
digits_on c (Field field) = 2 * size_of c (reg_of c field)
digits_on c (Mem mem) = 2 * location_size c mem

-- of a read of a field they are the field's
abbrev pub IsFieldRead : Op → Type 0
IsFieldRead (op.FieldRead field map) = Unit {0}
IsFieldRead _ = ⊥

pub digits_by_subject : (c : ChipData) (o : Op) → (IsFieldRead o → ⊥) → digits_of c o ≡ option_map_or (digits_on c) (subject_of o) 0
digits_by_subject c (op.FieldRead field map) other = absurd (other tt)
digits_by_subject c _ other = refl

isnt_read : (o : Op) → ((field : ℕ) (map : Option ℕ) → o ≡ op.FieldRead field map → ⊥) → IsFieldRead o → ⊥
isnt_read (op.FieldRead field map) other read = other field map refl
isnt_read _ other read = read

pub digits_at : (c : ChipData) (o : Op) (s : Subject) → ((field : ℕ) (map : Option ℕ) → o ≡ op.FieldRead field map → ⊥) → subject_of o ≡ Some s → digits_on c s ≡ digits_of c o
digits_at c o s other e = sym (digits_by_subject c o (isnt_read o other) ∙ ap (λ (q : Option Subject). option_map_or (digits_on c) q 0) e)

pub text_is_spoken : (m : ModelData) (o : Op) (s : Spoken) → spoken_of o ≡ Some s → op_text m o ≡ spelling (spoken_line m s)
text_is_spoken m (op.Reset kind) s e = absurd (cc)
text_is_spoken m o s e = ap (λ (q : Option Spoken). unwrap_or (option_map spelling (option_map (spoken_line m) q)) (burst_text m o)) e

-- ---- its bytes

spelling-spaced : (w : List ℕ) (ws : List (List ℕ)) → IsSpelling w → IsSpelling (spaced ws) → IsSpelling (spaced (w ∷ ws))
spelling-spaced w ws p q = spelling-cons 32 (w ++ spaced ws) refl (spelling-append w (spaced ws) p q)

spelling-numbers : (ns : List ℕ) (ws : List (List ℕ)) → IsSpelling (spaced ws) → IsSpelling (spaced (map spelled ns ++ ws))
spelling-numbers [] ws h = h
spelling-numbers (n ∷ ns) ws h = spelling-spaced (spelled n) (map spelled ns ++ ws) (spelling-spelled n) (spelling-numbers ns ws h)

spelling-item_name : (i : Item) → IsSpelling (item_name i)
spelling-item_name verb.Write = spelling-fixed _ refl
spelling-item_name _ = spelling-fixed _ refl

module _ (m : ModelData) (chip : IsSound m.chip) (names : HasNames m.chip m.layout) where
  spelling-subject : (s : Subject) → IsSpelling (subject_path m.chip s)
  spelling-subject (Reg reg) = spelling-path_of_item m.chip chip (item.Reg reg)
  spelling-subject (Field field) =
      spelling-append _ (46 ∷ (field_of m.chip field).name) (spelling-path_of_item m.chip chip (item.Reg (reg_of m.chip field)))
      (spelling-cons 46 (field_of m.chip field).name refl (spelling-field m.chip chip field))
  spelling-subject (Mem mem) = spelling-path_of_item m.chip chip (item.Mem mem)

  spelling-map_words : (through : Option ℕ) → IsSpelling (spaced (map_words (map_name m.layout through)))
  spelling-map_words None = spelling-fixed _ refl
  spelling-map_words (Some map) =
      let name = spelling-map m names map in
      spelling-cons 32 _ refl (spelling-cons 64 _ refl (spelling-append _ [] name (spelling-fixed _ refl)))

  spelling-if : (b : Bool) (o : Option (List ℕ)) → IsSpelling (spaced (map_words o)) → IsSpelling (spaced (map_words (if b then o else None)))
  spelling-if true o h = h
  spelling-if false o h = spelling-fixed _ refl

  spelling-spoken : (s : Spoken) → IsSpelling (spelling (spoken_line m s))
  spelling-spoken s =
      let path = subject_path m.chip s.subject in
      let numbers = numbers_in s.command s.first s.second in
      let through = map_words (map_in s.command (map_name m.layout s.map)) in
      subst IsSpelling (sym (spoken_is m s))
      (spelling-append (item_name s.command) (spaced (path ∷ map spelled numbers ++ through)) (spelling-item_name s.command)
      (spelling-spaced path (map spelled numbers ++ through) (spelling-subject s.subject)
      (spelling-numbers numbers through (spelling-if (row_of s.command).map (map_name m.layout s.map) (spelling-map_words s.map)))))

  spelling-reset : (kind : ℕ) → IsSpelling (spelling (line.Reset (kind_text m.chip kind)))
  unfolding spelling
  spelling-reset kind =
      spelling-append (codes "reset") _ (spelling-fixed _ refl) (spelling-cons 32 _ refl (spelling-append (kind_text m.chip kind) [] (spelling-kind m names kind) (spelling-fixed _ refl)))

  by_spoken : (o : Option Spoken) → IfSome (option_map (spoken_line m) o) (λ l. IsSpelling (spelling l))
  by_spoken None = tt
  by_spoken (Some s) = spelling-spoken s

  -- a letter, a digit, `_`, `-`, `.`, `@` or a space each
  pub spelling-line_of : (o : Op) → IfSome (line_of m o) (λ l. IsSpelling (spelling l))
  spelling-line_of (op.Reset kind) = spelling-reset kind
  spelling-line_of o = by_spoken (spoken_of o)

  -- ---- of a burst, and of any operation

  unbroken-spaced : (w : List ℕ) (ws : List (List ℕ)) → IsUnbroken w → IsUnbroken (spaced ws) → IsUnbroken (spaced (w ∷ ws))
  unbroken-spaced w ws p q = unbroken-cons 32 (w ++ spaced ws) refl (unbroken-append w (spaced ws) p q)

  unbroken-counted_text : (name : List ℕ) (mem first count : ℕ) (through : Option ℕ) → IsUnbroken name → IsUnbroken (counted_text m name mem first count through)
  unbroken-counted_text name mem first count through p =
      let map = map_words (map_name m.layout through) in
      let path = path_of_item m.chip (item.Mem mem) in
      unbroken-append name (spaced (path ∷ spelled first ∷ codes "count" ∷ decimal count ∷ map)) p
      (unbroken-spaced path (spelled first ∷ codes "count" ∷ decimal count ∷ map) (unbroken-spelling path (spelling-path_of_item m.chip chip (item.Mem mem)))
      (unbroken-spaced (spelled first) (codes "count" ∷ decimal count ∷ map) (unbroken-spelling (spelled first) (spelling-spelled first))
      (unbroken-spaced (codes "count") (decimal count ∷ map) (unbroken-fixed _ refl)
      (unbroken-spaced (decimal count) map (unbroken-decimal count) (unbroken-spelling (spaced map) (spelling-map_words through))))))

  unbroken-some : (o : Option Line) (other : List ℕ) → IfSome o (λ l. IsSpelling (spelling l)) → IsUnbroken other → IsUnbroken (unwrap_or (option_map spelling o) other)
  unbroken-some None other h u = u
  unbroken-some (Some l) other h u = unbroken-spelling _ h

  unbroken-burst_text : (o : Op) → IsUnbroken (burst_text m o)
  unbroken-burst_text (op.BurstWrite mem map first count) = unbroken-counted_text (codes "burst-write") mem first count map (unbroken-fixed _ refl)
  unbroken-burst_text (op.BurstRead mem map first count) = unbroken-counted_text (codes "burst-read") mem first count map (unbroken-fixed _ refl)
  unbroken-burst_text _ = unbroken-fixed _ refl

  pub unbroken-op_text : (o : Op) → IsUnbroken (op_text m o)
  unbroken-op_text o = unbroken-some (line_of m o) (burst_text m o) (spelling-line_of o) (unbroken-burst_text o)

-- an operation begins by its command
pub op_is_flush : (m : ModelData) (o : Op) (more : List (List ℕ)) → is_indented (joined (op_text m o ∷ more)) ≡ false
unfolding joined spelling
op_is_flush m (op.Write reg map value) more = refl
op_is_flush m _ more = refl
