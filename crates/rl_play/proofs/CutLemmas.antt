-- What was written when a source failed, whatever the log of its lines is.
use Rattle.std.proofs.Common.{◌≡◌, ◌≢◌, ℕ, false, if◌then◌else◌, List, [], ◌∷◌, ◌++◌, Option, Some, None, IfSome, refl, sym, ap, subst, ◌∙◌, append_assoc}
use Rattle.std.specs.Io.KnownBytes.{Appends, Keeps, prepend_known}
use Rattle.std.proofs.KnownBytes.{Appends-trans}
use Rattle.rl_report.specs.declared.lines.Got.{Got}
use Rattle.rl_report.specs.declared.lines.Got.TheVariants as got
use Rattle.rl_report.specs.Got.{Hands}
use Rattle.rl_report.specs.Lines.{first_line, after_line, whole_lines}
use Rattle.rl_report.specs.Reading.{Reading, HandsLine, input_of}
use Rattle.rl_report.proofs.LineLemmas.{whole_none}
use Rattle.rl_play.specs.Played.{CutsBehind, KeepsCut, LinesBreak, with_ends}
use Rattle.rl_log.proofs.KnownLemmas.{keeps_nothing, keeps_then_appends}

cut_pending : (log : List (List ℕ) → List ℕ) (bytes pending : List ℕ) (left old new : Option (List ℕ)) → log [] ≡ []
    → Keeps (Some bytes) (prepend_known pending left) → first_line pending ≡ pending → Keeps old new
    → LinesBreak log bytes left old new
cut_pending log bytes pending None old new nothing kept none same = absurd kept
cut_pending log bytes pending (Some others) old new nothing kept none same = record {
  taken = pending;
  others = others;
  split = kept;
  is_left = refl;
  text = subst (Appends old new) (sym (ap log (whole_none pending none) ∙ nothing)) (keeps_nothing old new same);
}

-- in the midst of a line: no line was taken whole
pub cut_here : (log : List (List ℕ) → List ℕ) (bytes : List ℕ) (left old new : Option (List ℕ)) (reading : Reading) → log [] ≡ []
    → Keeps (Some bytes) (input_of reading left) → (first_line reading.pending ≡ reading.pending) × (reading.ended ≡ false)
    → Keeps old new → LinesBreak log bytes left old new
cut_here log bytes left old new reading nothing kept none same =
    let going : Keeps (Some bytes) (if false then Some reading.pending else prepend_known reading.pending left) =
    subst (λ b. Keeps (Some bytes) (if b then Some reading.pending else prepend_known reading.pending left)) none.1 kept in
    cut_pending log bytes reading.pending left old new nothing going none.0 same

-- behind a line that was taken whole: its text, and then that of the lines behind it
pub cut_behind : (log rest : List (List ℕ) → List ℕ) (text bytes : List ℕ) (old mid new left last : Option (List ℕ))
    → ((taken : List ℕ) → log (whole_lines (first_line bytes ++ 10 ∷ taken)) ≡ text ++ rest (whole_lines taken))
    → bytes ≡ first_line bytes ++ 10 ∷ after_line bytes → Keeps old mid → Appends mid new text
    → LinesBreak rest (after_line bytes) left new last → LinesBreak log bytes left old last
cut_behind log rest text bytes old mid new left last is whole same written b = record {
  taken = first_line bytes ++ 10 ∷ b.taken;
  others = b.others;
  split = append_assoc (first_line bytes) (10 ∷ b.taken) b.others ∙ ap (λ l. first_line bytes ++ 10 ∷ l) b.split ∙ sym whole;
  is_left = b.is_left;
  text = subst (Appends old last) (sym (is b.taken))
      (Appends-trans old new last text (rest (whole_lines b.taken)) (keeps_then_appends old mid new text same written) b.text);
}

-- ---- what comes next

pending_next : (bytes pending : List ℕ) (left : Option (List ℕ)) → Keeps (Some bytes) (prepend_known pending left)
    → first_line pending ≡ pending → CutsBehind bytes (prepend_known pending left) left
pending_next bytes pending None kept none = absurd kept
pending_next bytes pending (Some others) kept none = record {
  whole = [];
  cut = pending;
  others = others;
  split = kept;
  midst = none;
  is_next = refl;
  is_left = refl;
}

-- in the midst of a line, of which the reader has what was taken
pub next_here : (input left : Option (List ℕ)) (reading : Reading) → Keeps input (input_of reading left)
    → first_line reading.pending ≡ reading.pending → reading.ended ≡ false → KeepsCut input (input_of reading left) left
next_here None left reading kept none going = tt
next_here (Some bytes) left reading kept none going =
    let is : input_of reading left ≡ prepend_known reading.pending left =
    ap (λ b. if b then Some reading.pending else prepend_known reading.pending left) going in
    subst (λ next. CutsBehind bytes next left) (sym is)
    (pending_next bytes reading.pending left (subst (Keeps (Some bytes)) is kept) none)

line_next : (bytes : List ℕ) (reading : Reading) (left : Option (List ℕ)) → HandsLine bytes reading left → reading.ended ≡ false
    → (next others : Option (List ℕ)) → KeepsCut (input_of reading left) next others → CutsBehind bytes next others
line_next bytes reading left h going next others k =
    let line = first_line bytes in
    let b : CutsBehind (after_line bytes) next others = subst (λ input. KeepsCut input next others) h.rest k in
    record {
      whole = line ∷ b.whole;
      cut = b.cut;
      others = b.others;
      split = append_assoc line (10 ∷ with_ends b.whole) (b.cut ++ b.others) ∙ ap (λ l. line ++ 10 ∷ l) b.split ∙ sym (h.whole going);
      midst = b.midst;
      is_next = b.is_next;
      is_left = b.is_left;
    }

got_next : (bytes : List ℕ) (g : Got) (reading : Reading) (left : Option (List ℕ)) → g ≢ got.End → g ≢ got.TooLong → Hands bytes g reading left
    → reading.ended ≡ false → (next others : Option (List ℕ)) → KeepsCut (input_of reading left) next others → CutsBehind bytes next others
got_next bytes got.Line reading left more short h going next others k = line_next bytes reading left h going next others k
got_next bytes got.TooLong reading left more short h going next others k = absurd (short refl)
got_next bytes got.End reading left more short h going next others k = absurd (more refl)

-- behind a line that was taken whole
pub next_later : (input : Option (List ℕ)) (g : Got) (reading : Reading) (left : Option (List ℕ)) → g ≢ got.End → g ≢ got.TooLong
    → IfSome input (λ bytes. Hands bytes g reading left) → reading.ended ≡ false
    → (next others : Option (List ℕ)) → KeepsCut (input_of reading left) next others → KeepsCut input next others
next_later None g reading left more short h going next others k = tt
next_later (Some bytes) g reading left more short h going next others k = got_next bytes g reading left more short h going next others k
