-- Where the description of the session that is made from a number ends, and its script begins.
use Rattle.std.proofs.Common.{subst, ◌≡◌, ℕ, suc, ◌+◌, ◌-◌, Bool, true, false, not, ◌&&◌, cond, eqb, List, [], ◌∷◌, ◌++◌, length, take, codes}
use Rattle.std.proofs.Common.{nat_le, if◌then◌else◌, Some, Result, Ok, Err, refl, sym, ap, ◌∙◌, append-nil, zero-add, inl, inr, arith}
use Rattle.std.specs.Fmt.{digits}
use Rattle.std.specs.Io.BufRead.{strip_last, ends_with_byte}
use Rattle.std.proofs.Math.Seq.{drop-append_seam, take-append_seam}
use Rattle.std.proofs.lemmas.Bool.{cases_Bool, true≢false, eq-eqb}
use Rattle.std.proofs.lemmas.Slice.Eq.{bytes_eq-Decides}
use Rattle.rl_report.specs.Lines.{first_line, after_line, lines_of}
use Rattle.rl_report.specs.Opening.{is_separator, separator_from, separator_at}
use Rattle.rl_report.specs.Pieces.{joined}
use Rattle.rl_report.proofs.OpeningLemmas.{step}
use Rattle.rl_session.specs.Session.{behind, script_of}
use Rattle.rl_session.specs.Session.{no_head_text, head_before, head_of}
use Rattle.rl_session.specs.Soak.{policy_of, rows_text, description_text, script_text, soak_text}
use Rattle.rl_session_laws.specs.SoakScript.{AllSay, ScriptReads, drawn_lines}
use Rattle.rl_session_laws.proofs.SoakLines.{script_lines, script_said}

and_parts : (a b : Bool) → (a && b) ≡ true → (a ≡ true) × (b ≡ true)
and_parts true b e = (refl, e)
and_parts false b e = absurd (true≢false (sym e))

-- ---- lines that begin with no dash

-- whole lines, none of which begins with a dash; `starts` says that a line begins there
abbrev has_no_dash : (starts : Bool) → List ℕ → Bool
has_no_dash starts [] = starts
has_no_dash starts (b ∷ bs) = not (starts && eqb b 45) && has_no_dash (eqb b 10) bs

front_by : (b : ℕ) (bs rest : List ℕ) (t : Bool) → cond t (take (length (b ∷ bs) - 1) (b ∷ bs)) (b ∷ bs) ≡ 45 ∷ rest
    → b ≡ 45
front_by b bs rest false e = cc
front_by b [] rest true e = absurd cc
front_by b (c ∷ cs) rest true e =
    let count : length (b ∷ c ∷ cs) - 1 ≡ suc (length cs) = omega arith in
    let h : take (suc (length cs)) (b ∷ c ∷ cs) ≡ 45 ∷ rest = rw count at e in cc

first_by : (b : ℕ) (bs rest : List ℕ) (t : Bool) → strip_last 13 (cond t [] (b ∷ bs)) ≡ 45 ∷ rest → b ≡ 45
first_by b bs rest true e = absurd cc
first_by b bs rest false e = front_by b bs rest (ends_with_byte 13 (b ∷ bs)) e

no_separator : (b : ℕ) (bs : List ℕ) → eqb b 45 ≡ false → is_separator (first_line (b ∷ bs)) ≡ false
no_separator b bs other =
    elim (cases_Bool (is_separator (first_line (b ∷ bs)))) [
      | inl found ↦
          let d = bytes_eq-Decides (strip_last 13 (first_line (b ∷ bs))) (codes "---") in
          absurd (true≢false (sym (eq-eqb b 45 (first_by b (first_line bs) _ (eqb b 10) (d.0 found))) ∙ other))
      | inr other_line ↦ other_line
    ]

not_true : (b : Bool) → not b ≡ true → b ≡ false
not_true true e = absurd (true≢false (sym e))
not_true false e = refl

none_here : (starts : Bool) (b : ℕ) (bs : List ℕ) → not (starts && eqb b 45) ≡ true
    → (starts && is_separator (first_line (b ∷ bs))) ≡ false
none_here true b bs e = no_separator b bs (not_true (eqb b 45) e)
none_here false b bs e = refl

-- such lines are passed
passed : (at : ℕ) (starts : Bool) (text rest : List ℕ) → has_no_dash starts text ≡ true
    → separator_from at starts (text ++ rest) ≡ separator_from (at + length text) true rest
passed at starts [] rest e =
    ap (λ s. separator_from at s rest) e
    ∙ ap (λ n. separator_from n true rest) (let same : at ≡ at + 0 = omega arith in same)
passed at starts (b ∷ bs) rest e =
    let parts = and_parts (not (starts && eqb b 45)) (has_no_dash (eqb b 10) bs) e in
    step at b starts (bs ++ rest) (none_here starts b (bs ++ rest) parts.0) ∙ passed (at + 1) (eqb b 10) bs rest parts.1
    ∙ ap (λ n. separator_from n true rest) (let same : at + 1 + length bs ≡ at + length (b ∷ bs) = omega arith in same)

-- ---- the session

description_passes : has_no_dash true description_text ≡ true
unfolding description_text joined rows_text policy_of digits
description_passes = refl

-- the script behind a description with no dash
script_behind : (text script : List ℕ) → has_no_dash true text ≡ true
    → script_of (joined (text ∷ codes "---\n" ∷ script ∷ [])) ≡ lines_of script
unfolding joined
script_behind text script e =
    let rest = codes "---\n" ++ (script ++ []) in
    let place : separator_at (text ++ rest) ≡ Some (0 + length text) = passed 0 true text rest e in
    ap (λ o. lines_of (behind o (text ++ rest))) (place ∙ ap Some (zero-add (length text)))
    ∙ ap (λ l. lines_of (after_line l)) (drop-append_seam text rest)
    ∙ ap lines_of (append-nil script)

soak_script : (n : ℕ) → script_of (soak_text n) ≡ lines_of (script_text 20000 n)
unfolding soak_text
soak_script n = script_behind description_text (script_text 20000 n) description_passes

description_short : nat_le (length description_text) 1048576 ≡ true
unfolding description_text joined rows_text policy_of digits
description_short = refl

abbrev ok_head : List ℕ → Result (List ℕ) (List ℕ)
ok_head text = Ok text

-- a description with no dash is the head
head_is : (text script : List ℕ) → has_no_dash true text ≡ true → nat_le (length text) 1048576 ≡ true
    → head_of (joined (text ∷ codes "---\n" ∷ script ∷ [])) ≡ ok_head text
unfolding joined head_of
head_is text script e short =
    let rest = codes "---\n" ++ (script ++ []) in
    let place : separator_at (text ++ rest) ≡ Some (0 + length text) = passed 0 true text rest e in
    ap (λ o. head_before o (text ++ rest)) (place ∙ ap Some (zero-add (length text)))
    ∙ ap (λ b. if b then ok_head (take (length text) (text ++ rest)) else Err (no_head_text (text ++ rest))) short
    ∙ ap ok_head (take-append_seam text rest)

pub soak_head : (n : ℕ) → head_of (soak_text n) ≡ ok_head description_text
unfolding soak_text
soak_head n = head_is description_text (script_text 20000 n) description_passes description_short

pub soak_reads : ScriptReads
soak_reads n = record {
  head = soak_head n;
  spellings = soak_script n ∙ script_lines 20000 n;
  readings = subst (λ texts. AllSay 1 texts (drawn_lines 20000 n)) (sym (soak_script n)) (script_said 20000 1 n (omega arith));
}
