-- A text that is cut to its room.
use Rattle.std.proofs.Common.{◌≡◌, ℕ, ◌-◌, ◌^◌, ◌≤◌, List, [], ◌++◌, Bool, true, false, cond, nat_lt, length, take, unwrap_or, Some, None, Result, Ok, Err, refl, sym, ap, ◌∙◌, arith}
use Rattle.std.specs.declared.option.Option.{Option}
use Rattle.std.proofs.lemmas.List.{take_all}
use Rattle.std.proofs.lemmas.Bool.{ltb-false}
use Rattle.std.proofs.Math.Seq.{take-append_seam}
use Rattle.rl_bus.specs.Causes.{Rose, HasCause}
use Rattle.rl_report.specs.Lines.{first_line}
use Rattle.rl_report.specs.Pieces.{Puts}
use Rattle.rl_report.proofs.LineLemmas.{searched, line_front}
use Rattle.memchr.specs.Find.{IsFirstByte, is_byte}
use Rattle.rl_vcd.specs.Label.{faults_of}

-- it has failed, so it is full
failed_if : (b : Bool) → Rose 0 (cond b 0 (2 ^ 64 - 1)) → b ≡ false
failed_if true h = absurd (omega (arith, h))
failed_if false h = refl

full : (text : List ℕ) → Rose (faults_of []) (faults_of text) → 127 ≤ length text
full text h = ltb-false (length text) 127 (failed_if (nat_lt (length text) 127) h)

front_cut : (front rest line : List ℕ) → front ++ rest ≡ line → length front ≡ 127 → front ≡ take 127 line
front_cut front rest line split len = sym (ap (λ n. take n line) (sym len) ∙ ap (take (length front)) (sym split) ∙ take-append_seam front rest)

-- what a label took of a line
pub cut : {T E : Type 0} (text line : List ℕ) (r : Result T E) → length text ≤ 127 → Puts (Some []) (Some text) line r → HasCause (faults_of []) (faults_of text) r
    → text ≡ take 127 line
cut text line (Ok x) len p c = p.whole ∙ sym (take_all 127 line (omega (arith, len, ap length p.whole)))
cut text line (Err e) len p c =
    let long = full text c.failed in
    p.part.appended ∙ front_cut p.part.front p.part.rest line p.part.split (omega (arith, len, long, ap length p.part.appended))

-- a search for the line's end
pub line_found : (p : List ℕ) (at : Option ℕ) (len : ℕ) → at ≡ Some len → IsFirstByte (is_byte 10) p at → take len p ≡ first_line p
line_found p at len is h = line_front p len (sym (ap (λ a. unwrap_or a (length p)) is) ∙ searched p at h)

pub line_all : (p : List ℕ) (at : Option ℕ) → at ≡ None → IsFirstByte (is_byte 10) p at → p ≡ first_line p
line_all p at is h = sym (take_all (length p) p (omega arith)) ∙ line_front p (length p) (sym (ap (λ a. unwrap_or a (length p)) is) ∙ searched p at h)
