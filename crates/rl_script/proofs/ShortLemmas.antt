-- A spelling is no longer than a line may be.
use Rattle.std.proofs.Common.{◌≡◌, ℕ, zero, suc, ◌+◌, ◌*◌, ◌^◌, ◌<◌, ◌≤◌, Bool, true, false, ◌==◌, nat_le, nat_lt, IsTrue, if◌then◌else◌, List}
use Rattle.std.proofs.Common.{[], ◌∷◌, ◌++◌, length, map, Option, Some, None, inl, inr, refl, ap, ◌∙◌, arith, length-append}
use Rattle.std.specs.Prelude.{IfSome, MatchOption, take}
use Rattle.std.specs.Option.{option_map_or}
use Rattle.std.specs.List.{list_all, slice_split, onto_first, AllByRecursion}
use Rattle.std.specs.Char.{digit_char}
use Rattle.std.specs.Int.Digits.{digits_of}
use Rattle.std.proofs.lemmas.Bool.{cases_Bool, leb-true, ltb-true, true≢false}
use Rattle.std.proofs.lemmas.Int.Digits.{length-digits_of-le}
use Rattle.std.proofs.lemmas.List.{length-map}
use Rattle.rl_policy.specs.Numbers.{hex_digits, spelled}
use Rattle.rl_script.specs.declared.command.Item.{Item}
use Rattle.rl_script.specs.declared.command.Item.TheVariants as items
use Rattle.rl_script.specs.declared.line.Line.{Line}
use Rattle.rl_script.specs.declared.line.Line.TheVariants as line
use Rattle.rl_script.specs.declared.line.Sequence.{Sequence}
use Rattle.rl_script.specs.declared.line_ref.ItemLine.{ItemLine}
use Rattle.rl_script.specs.declared.line.Sequence.TheVariants as sequence
use Rattle.rl_script.specs.Commands.{row_of, said, item_name, sequence_name}
use Rattle.rl_script.specs.Names.{is_name, is_dot, is_path}
use Rattle.rl_script.specs.Spelling.{spaced, joined, map_words, item_words, numbers_in, block_word, said_words, other_words, spelling, IsItem, IsSaid, IsOther, IsLine}
use Rattle.rl_script.specs.Bursts.{is_burst_write}
use Rattle.rl_script.proofs.AgainLemmas.{and_parts}
use Rattle.rl_script.proofs.TextLemmas.{spaced-append}

-- ---- names and paths

short_name : (name : List ℕ) → is_name name ≡ true → length name ≤ 32
unfolding is_name
short_name [] h = omega arith
short_name (c ∷ cs) h = let few = ltb-true (length cs) 32 (and_parts _ (nat_lt (length cs) 32) h).1 in omega arith

-- the bytes of parts, and one more for each
abbrev bytes_in : List (List ℕ) → ℕ
bytes_in [] = 0
bytes_in (p ∷ ps) = suc (length p) + bytes_in ps

onto_bytes : (c : ℕ) (text : List ℕ) → bytes_in (onto_first c (slice_split is_dot text)) ≡ suc (bytes_in (slice_split is_dot text))
onto_bytes c [] = refl
onto_bytes c (d ∷ ds) =
    elim (cases_Bool (is_dot d)) [
      | inl dot ↦ rw dot (omega arith)
      | inr plain ↦ rw plain (by_front (slice_split is_dot ds))
    ]
  where
    by_front : (ps : List (List ℕ)) → bytes_in (onto_first c (onto_first d ps)) ≡ suc (bytes_in (onto_first d ps))
    by_front [] = omega arith
    by_front (p ∷ ps) = omega arith

split_bytes : (text : List ℕ) → suc (length text) ≡ bytes_in (slice_split is_dot text)
split_bytes [] = refl
split_bytes (c ∷ cs) =
    elim (cases_Bool (is_dot c)) [
      | inl dot ↦ rw dot (let rest = split_bytes cs in omega arith)
      | inr plain ↦ rw plain (let rest = split_bytes cs in let first = onto_bytes c cs in omega arith)
    ]

short_parts : (ps : List (List ℕ)) → list_all is_name ps ≡ true → bytes_in ps ≤ 33 * length ps
short_parts [] h = omega arith
short_parts (p ∷ ps) h =
    let both = and_parts (is_name p) (list_all is_name ps) h in
    let first = short_name p both.0 in
    let rest = short_parts ps both.1 in
    omega arith

pub short_path : (path : List ℕ) → is_path path ≡ true → length path ≤ 296
unfolding is_path
short_path path h =
    let parts = slice_split is_dot path in
    let both = and_parts (nat_le (length parts) 9) (list_all is_name parts) h in
    let few = leb-true (length parts) 9 both.0 in
    let bytes = split_bytes path in
    let short = short_parts parts both.1 in
    omega arith

-- ---- numbers and maps

short_hex_by : (v : ℕ) (t : Bool) → v < 2 ^ 64 → length (if t then 48 ∷ [] else map digit_char (digits_of 16 v)) ≤ 16
short_hex_by v true h = omega arith
short_hex_by v false h = rw length-map (length-digits_of-le 16 16 v (omega arith) (omega arith))

pub short_hex : (v : ℕ) → v < 2 ^ 64 → length (hex_digits v) ≤ 16
unfolding hex_digits
short_hex v h = short_hex_by v (v == 0) h

short_numbers : (ns : List ℕ) → AllByRecursion (λ n. n < 2 ^ 64) ns → length (spaced (map spelled ns)) ≤ 19 * length ns
short_numbers [] h = omega arith
short_numbers (n ∷ ns) h =
    let first = short_hex n h.0 in
    let rest = short_numbers ns h.1 in
    let both = length-append (hex_digits n) (spaced (map spelled ns)) in
    omega arith

short_map : (m : Option (List ℕ)) → IfSome m (λ name. IsTrue (is_name name)) → length (spaced (map_words m)) ≤ 34
short_map None h = omega arith
short_map (Some name) h = let short = short_name name h in let both = length-append name [] in omega arith

-- ---- lines

short_item_name : (item : Item) → length (item_name item) ≤ 11
short_item_name items.Write = omega arith
short_item_name _ = omega arith

short_item : (item : Item) (path ns : List ℕ) (m : Option (List ℕ)) → length ns ≤ 2 → IsItem path ns m → length (joined (item_words item path ns m)) ≤ 4096
short_item item path ns m few is =
    let name = short_item_name item in
    let on = short_path path is.0 in
    let numbers = short_numbers ns is.1 in
    let through = short_map m is.2 in
    let whole = length-append (item_name item) (32 ∷ path ++ spaced (map spelled ns ++ map_words m)) in
    let behind = length-append path (spaced (map spelled ns ++ map_words m)) in
    let both : length (spaced (map spelled ns ++ map_words m)) ≡ length (spaced (map spelled ns)) + length (spaced (map_words m)) =
    ap length (spaced-append (map spelled ns) (map_words m)) ∙ length-append (spaced (map spelled ns)) (spaced (map_words m)) in
    omega arith

short_sequence : (which : Sequence) → length (sequence_name which) ≤ 8
short_sequence sequence.HwReset = omega arith
short_sequence _ = omega arith

short_block : (block : Option (List ℕ)) → IfSome block (λ path. IsTrue (is_path path)) → length (block_word block) ≤ 296
short_block None h = omega arith
short_block (Some path) h = short_path path h

few_in : (count first second : ℕ) → length (take count (first ∷ second ∷ [])) ≤ 2
few_in zero first second = omega arith
few_in (suc zero) first second = omega arith
few_in (suc (suc zero)) first second = omega arith
few_in (suc (suc (suc count))) first second = omega arith

short_other : (l : Line) → IsOther l → is_burst_write l ≡ false → length (joined (other_words l)) ≤ 4096
short_other (line.BurstWrite mem first values m) is h = absurd (true≢false h)
short_other (line.Reset kind) is h = let short = short_name kind is in let both = length-append kind [] in omega arith
short_other (line.Seq which block) is h =
    let name = short_sequence which in
    let over = short_block block is in
    let both = length-append (sequence_name which) (32 ∷ block_word block ++ []) in
    let last = length-append (block_word block) [] in
    omega arith
short_other _ is h = omega arith

by_said : (o : Option ItemLine) (l : Line) → MatchOption o (IsOther l) IsSaid → is_burst_write l ≡ false → length (joined (option_map_or said_words o (other_words l))) ≤ 4096
by_said None l is h = short_other l is h
by_said (Some s) l is h = short_item s.item s.path (numbers_in s.item s.first s.second) s.map (few_in (row_of s.item).numbers s.first s.second) is

-- the canonical spelling of a line is short, but that of a burst that writes many values
pub is_short : (l : Line) → IsLine l → is_burst_write l ≡ false → length (spelling l) ≤ 4096
unfolding spelling
is_short l is h = by_said (said l) l is h
