-- Line by line through a script.
use Rattle.std.proofs.Common.{◌≡◌, ◌≢◌, ℕ, ◌+◌, ◌<◌, ◌≤◌, Bool, true, false, if◌then◌else◌, nat_lt, List, [], ◌∷◌, ◌++◌, ◌==◌, length, Option}
use Rattle.std.proofs.Common.{Some, None, IfSome, Result, Ok, Err, MatchResult, refl, sym, ap, subst, ◌∙◌, append_assoc, arith}
use Rattle.std.specs.Io.KnownBytes.{Appends, Keeps}
use Rattle.std.specs.Io.BufRead.{strip_last}
use Rattle.std.proofs.KnownBytes.{Appends-nil, Appends-trans}
use Rattle.std.proofs.lemmas.Bool.{lt-ltb, le-ltb, eqb-true, true≢false}
use Rattle.rl_bus.specs.Standing.{Standing}
use Rattle.rl_bus.specs.State.{State}
use Rattle.rl_access.specs.Model.{ModelData}
use Rattle.rl_report.specs.declared.lines.Got.{Got}
use Rattle.rl_report.specs.declared.lines.Got.TheVariants as got
use Rattle.rl_report.specs.Got.{Hands}
use Rattle.rl_report.specs.Lines.{first_line, after_line, lines_of, onto_first}
use Rattle.rl_report.specs.Reading.{Reading, input_of}
use Rattle.rl_report.proofs.PieceLemmas.{front_after, front_before}
use Rattle.rl_script.specs.declared.fault.LineFault.{LineFault}
use Rattle.rl_script.specs.declared.fault.LineFault.TheVariants.{Memory}
use Rattle.rl_script.specs.declared.line.Line.{Line}
use Rattle.rl_script.specs.declared.line.Line.TheVariants as say
use Rattle.rl_script.specs.declared.line_ref.LineRef.{LineRef}
use Rattle.rl_script.specs.Reading.{read_of, by_words}
use Rattle.rl_script.specs.Said.{line_said}
use Rattle.rl_script.specs.Words.{words_of}
use Rattle.rl_log.specs.declared.counts.Counts.{Counts}
use Rattle.rl_play.specs.declared.playing.TheConstants.{MOST_LINES}
use Rattle.rl_play.specs.declared.playing.Turn.{Turn}
use Rattle.rl_play.specs.declared.playing.Turn.TheVariants.{Next, Stop}
use Rattle.rl_log.specs.declared.status.Status.{Status}
use Rattle.rl_log.specs.declared.status.Status.TheVariants.{Refused}
use Rattle.rl_log.specs.declared.refusal.LineRefusal.{LineRefusal}
use Rattle.rl_log.specs.declared.refusal.LineRefusal.TheVariants.{TooLong, TooManyLines}
use Rattle.rl_log.specs.Endings.{end_status}
use Rattle.rl_log.specs.Statuses.{is_complete}
use Rattle.rl_log.specs.Telling.{Tells}
use Rattle.rl_log.specs.Course.{nothing_done}
use Rattle.rl_log.specs.Entry.{Entry, entry_of, plain}
use Rattle.rl_log.specs.Log.{Ending, script_from, goes_on, comes_of, there, after_text, stops, refused_by, said, said_by}
use Rattle.rl_play.specs.Played.{coming, EndsAs, IsTurn, RanOn, Stopped, PassesTo}
use Rattle.rl_log.specs.Recording.{with_events}
use Rattle.rl_play.specs.Heard.{heard, handed}
use Rattle.rl_log.specs.Texts.{end_text, refused_text}
use Rattle.rl_access.specs.World.{World, world, IsAt}
use Rattle.rl_log.proofs.KnownLemmas.{front_later, front_none, keeps_then_appends}
use Rattle.rl_play.proofs.Traces.{done_none}

-- ---- the lines of an input

-- the first byte ends the first line, or stands in it
line_more : (c : Bool) (b : ℕ) (bs : List ℕ) → (0 < length bs → lines_of bs ≡ first_line bs ∷ lines_of (after_line bs))
    → (if c then [] ∷ lines_of bs else onto_first b (lines_of bs)) ≡ (if c then [] else b ∷ first_line bs) ∷ lines_of
    (if c then bs else after_line bs)
line_more true b bs more = refl
line_more false b [] more = refl
line_more false b (x ∷ xs) more = ap (onto_first b) (more (omega arith))

pub lines_more : (bytes : List ℕ) → 0 < length bytes → lines_of bytes ≡ first_line bytes ∷ lines_of (after_line bytes)
lines_more [] h = absurd (omega arith)
lines_more (b ∷ bs) h = line_more (b == 10) b bs (lines_more bs)

long_some : (bytes : List ℕ) → 4096 < length (first_line bytes) → 0 < length bytes
long_some [] h = absurd (omega arith)
long_some (b ∷ bs) h = omega arith

-- ---- what a line says

short_said : (number n : ℕ) (r : Result Line LineRefusal) → n ≤ 4096 →
    (if nat_lt 1000000 number then Err TooManyLines else if nat_lt 4096 n then Err TooLong else r) ≡
    (if nat_lt 1000000 number then Err TooManyLines else r)
short_said number n r h =
    ap (λ b. if nat_lt 1000000 number then Err TooManyLines else if b then Err TooLong else r) (le-ltb 4096 n h)

long_said : (number n : ℕ) (r : Result Line LineRefusal) → 4096 < n →
    (if nat_lt 1000000 number then Err TooManyLines else if nat_lt 4096 n then Err TooLong else r) ≡
    (if nat_lt 1000000 number then Err TooManyLines else Err TooLong)
long_said number n r h =
    ap (λ b. if nat_lt 1000000 number then Err TooManyLines else if b then Err TooLong else r) (lt-ltb 4096 n h)

pub heard_said : (number : ℕ) (bytes line : List ℕ) (g : Got) (new : Reading) (left : Option (List ℕ)) → g ≢ got.End
    → Hands bytes g new left → line ≡ new.line → heard number g line ≡ said number (first_line bytes)
heard_said number bytes line got.Line new left some h is =
    ap (heard number got.Line) (is ∙ h.line) ∙ sym
    (short_said number (length (first_line bytes)) (handed got.Line (strip_last 13 (first_line bytes))) h.short)
heard_said number bytes line got.TooLong new left some h is =
    sym (long_said number (length (first_line bytes)) (handed got.Line (strip_last 13 (first_line bytes))) h)
heard_said number bytes line got.End new left some h is = absurd (some refl)

pub hands_some : (bytes : List ℕ) (g : Got) (new : Reading) (left : Option (List ℕ)) → g ≢ got.End
    → Hands bytes g new left → 0 < length bytes
hands_some bytes got.Line new left some h = h.some
hands_some bytes got.TooLong new left some h = long_some bytes h
hands_some bytes got.End new left some h = absurd (some refl)

pub heard_read : (number : ℕ) (g : Got) (line : List ℕ) → number ≤ MOST_LINES → g ≢ got.TooLong → said_by
    (read_of line) ≡ heard number g line
heard_read number got.Line line few short =
    ap (λ b. if b then Err TooManyLines else said_by (read_of line)) (sym (le-ltb MOST_LINES number few))
heard_read number got.End line few short =
    ap (λ b. if b then Err TooManyLines else said_by (read_of line)) (sym (le-ltb MOST_LINES number few))
heard_read number got.TooLong line few short = absurd (short refl)

pub heard_many : (number : ℕ) (g : Got) (line : List ℕ) → MOST_LINES < number → heard number g line ≡ Err TooManyLines
heard_many number g line many = ap (λ b. if b then Err TooManyLines else handed g line) (lt-ltb MOST_LINES number many)

pub heard_long : (number : ℕ) (g : Got) (line : List ℕ) → number ≤ MOST_LINES → g ≡ got.TooLong → heard number g line ≡ Err TooLong
heard_long number g line few is =
    ap (λ b. if b then Err TooManyLines else handed g line) (le-ltb MOST_LINES number few) ∙ ap (λ g. handed g line) is

pub read_not : (bytes : List ℕ) (r : Result LineRef LineFault) (fault : LineFault) → r ≡ Err fault → MatchResult r
    (λ line. read_of bytes ≡ Ok (line_said line)) (λ fault. fault ≢ Memory → read_of bytes ≡ Err fault)
    → fault ≢ Memory → said_by (read_of bytes) ≡ Err (refused_by fault)
read_not bytes (Ok l) fault is h other = absurd cc
read_not bytes (Err f) fault is h other =
    let same : f ≡ fault = cc in ap said_by (subst (λ f. f ≢ Memory → read_of bytes ≡ Err f) same h other)

-- the reason of a line that doesn't read, where memory didn't run out
pub refusal_is : (fault : LineFault) (r : Option LineRefusal) (why : LineRefusal) → r ≡ Some why
    → (fault ≢ Memory → r ≡ Some (refused_by fault)) → (fault ≡ Memory → r ≡ None)
    → (fault ≢ Memory) × (refused_by fault ≡ why)
refusal_is fault r why is named none =
    let other : fault ≢ Memory = λ e. let n : r ≡ None = none e in absurd cc in
    let same : r ≡ Some (refused_by fault) = named other in (other, cc)

pub read_ok : (bytes : List ℕ) (r : Result LineRef LineFault) (line : LineRef) → r ≡ Ok line → MatchResult r
    (λ line. read_of bytes ≡ Ok (line_said line)) (λ fault. fault ≢ Memory → read_of bytes ≡ Err fault)
    → said_by (read_of bytes) ≡ Ok (line_said line)
read_ok bytes (Ok l) line is h = let same : l ≡ line = cc in ap said_by h ∙ ap (λ l. said_by (Ok (line_said l))) same
read_ok bytes (Err fault) line is h = absurd cc

-- ---- a line with nothing in it

pub empty_said : (line : List ℕ) → (length line == 0) ≡ true → said_by (read_of line) ≡ Ok say.Blank
unfolding read_of by_words words_of
empty_said [] is = refl
empty_said (b ∷ bs) is = absurd (omega (arith, eqb-true _ _ is))

-- ---- a line of a script

coming_at : (number : ℕ) (counts : Counts) (m : ModelData) (a : List Standing) (st : Option State) (w : World)
    (input : Option (List ℕ)) (bytes : List ℕ) → IsAt m a st w → input ≡ Some bytes
    → coming number counts m a st input ≡ Some (script_from number counts w (lines_of bytes))
coming_at number counts m a st w input bytes here is =
    ap (coming number counts m a st) is ∙ ap (λ s. coming number counts m a s (Some bytes)) here.device_is
    ∙ ap (λ m. Some (script_from number counts (world m a w.device) (lines_of bytes))) here.model_is
    ∙ ap (λ a. Some (script_from number counts (world w.model a w.device) (lines_of bytes))) here.adapters_are

-- the first line of a script, and the others
script_more : (number : ℕ) (counts : Counts) (w : World) (bytes : List ℕ) (s : Result Line LineRefusal)
    → 0 < length bytes → s ≡ said number (first_line bytes)
    → script_from number counts w (lines_of bytes) ≡ goes_on number counts w (comes_of w s)
    (λ counts w. script_from (number + 1) counts w (lines_of (after_line bytes)))
unfolding script_from
script_more number counts w bytes s some is =
    ap (script_from number counts w) (lines_more bytes some)
    ∙ ap (λ s. goes_on number counts w (comes_of w s)
    (λ counts w. script_from (number + 1) counts w (lines_of (after_line bytes)))) (sym is)

passes : (number : ℕ) (counts now : Counts) (w : World) (bytes : List ℕ) (s : Result Line LineRefusal)
    (old mid new : Option (List ℕ)) (m : ModelData) (a : List Standing) (st : Option State) (input : Option (List ℕ))
    → 0 < length bytes → s ≡ said number (first_line bytes) → input ≡ Some (after_line bytes) → Keeps old mid → RanOn
    (comes_of w s) mid new counts now m a st
    → PassesTo (script_from number counts w (lines_of bytes)) (coming (number + 1) now m a st input) old new
passes number counts now w bytes s old mid new m a st input some is rest same r =
    let others : Ending = script_from (number + 1) (with_events counts r.entry.course.told) r.entry.course.world
    (lines_of (after_line bytes)) in
    record {
      text = r.entry.text;
      others = others;
      is = coming_at (number + 1) now m a st r.entry.course.world input (after_line bytes) r.after rest
          ∙ ap (λ c. Some (script_from (number + 1) c r.entry.course.world (lines_of (after_line bytes)))) r.counted;
      whole = script_more number counts w bytes s some is
          ∙ ap (λ c. goes_on number counts w c (λ counts w. script_from (number + 1) counts w
          (lines_of (after_line bytes)))) r.is;
      written = keeps_then_appends old mid new r.entry.text same r.text;
    }

-- a line that is handed out whole is run
pub next_passes : (number : ℕ) (counts now : Counts) (m n : ModelData) (a b : List Standing)
    (before after : Option State) (input : Option (List ℕ)) (g : Got) (line : List ℕ) (reading : Reading)
    (left : Option (List ℕ))
    (s : Result Line LineRefusal) (old mid new : Option (List ℕ)) → g ≢ got.End → g ≢ got.TooLong → IfSome input
    (λ bytes. Hands bytes g reading left) → line ≡ reading.line → s ≡ heard number g line → Keeps old mid
    → IfSome before (λ d. IsTurn number (comes_of (world m a d) s) mid new counts now (world m a d) n b after Next)
    → IfSome (coming number counts m a before input)
    (λ e. PassesTo e (coming (number + 1) now n b after (input_of reading left)) old new)
next_passes number counts now m n a b None after input g line reading left s old mid new not_end not_long h is heard
    same t =
    tt
next_passes number counts now m n a b (Some d) after None g line reading left s old mid new not_end not_long h is heard
    same t =
    tt
next_passes number counts now m n a b (Some d) after
    (Some bytes) got.Line line reading left s old mid new not_end not_long h is heard same t =
    passes number counts now (world m a d) bytes s old mid new n b after (input_of reading left) h.some
    (heard ∙ heard_said number bytes line got.Line reading left not_end h is) h.rest same t
next_passes number counts now m n a b (Some d) after (Some bytes) got.TooLong line reading left s old mid new not_end
    not_long h is heard same t =
    absurd (not_long refl)
next_passes number counts now m n a b (Some d) after (Some bytes) got.End line reading left s old mid new not_end
    not_long h is heard same t =
    absurd (not_end refl)

stopped_ends : (number : ℕ) (counts now : Counts) (w : World) (comes r : Result Entry LineRefusal)
    (rest : Counts → World → Ending) (status : Status) (old mid new : Option (List ℕ)) (m : ModelData)
    (a : List Standing) (st : Option State)
    → comes ≡ r → Keeps old mid → Stopped number comes status mid new counts now w m a st → EndsAs
    (goes_on number counts w r rest) status old new now m a st
stopped_ends number counts now w comes (Err why) rest status old mid new m a st is same h =
    let e = h.refused why is in record {
      whole = λ c. let o = e.whole c in record {
        status_is = o.status_is;
        text = keeps_then_appends old mid new
            (refused_text number why) same o.text;
        counts_are = o.counts_are;
        after = o.after;
      };
      part = front_later old mid new (refused_text number why) same e.part;
    }
stopped_ends number counts now w comes (Ok entry) rest status old mid new m a st is same h =
    let b = h.broken entry is in
    let others = rest (with_events counts entry.course.told) entry.course.world in
    record {
      whole = λ c. absurd (true≢false (sym c ∙ b.0));
      part = front_later old mid new (entry.text ++ others.text) same (front_before mid new entry.text others.text b.1);
    }

-- a script ends at a line
pub stop_ends : (number : ℕ) (counts now : Counts) (m n : ModelData) (a b : List Standing)
    (before after : Option State) (input : Option (List ℕ)) (g : Got) (line : List ℕ) (reading : Reading)
    (left : Option (List ℕ))
    (s : Result Line LineRefusal) (status : Status) (old mid new : Option (List ℕ)) → g ≢ got.End → IfSome input
    (λ bytes. Hands bytes g reading left) → line ≡ reading.line → s ≡ heard number g line → Keeps old mid
    → IfSome before (λ d. IsTurn number (comes_of (world m a d) s) mid new counts now (world m a d) n b after (Stop status))
    → IfSome (coming number counts m a before input) (λ e. EndsAs e status old new now n b after)
stop_ends number counts now m n a b None after input g line reading left s status old mid new not_end h is heard same t = tt
stop_ends number counts now m n a b (Some d) after None g line reading left s status old mid new not_end h is heard same t =
    tt
stop_ends number counts now m n a b (Some d) after
    (Some bytes) g line reading left s status old mid new not_end h is heard same t =
    let w = world m a d in
    subst (λ e. EndsAs e status old new now n b after)
    (sym (script_more number counts w bytes s (hands_some bytes g reading left not_end h)
    (heard ∙ heard_said number bytes line g reading left not_end h is)))
    (stopped_ends number counts now w (comes_of w s) (comes_of w s)
    (λ counts w. script_from (number + 1) counts w
    (lines_of (after_line bytes))) status old mid new n b after refl same t)

-- a script ends with its lines
end_ends : (number : ℕ) (counts : Counts) (m : ModelData) (a : List Standing) (st : Option State)
    (input : Option (List ℕ)) (reading : Reading) (left : Option (List ℕ)) (status : Status) (old mid new : Option (List ℕ))
    → IfSome input (λ bytes. Hands bytes got.End reading left) → Keeps old mid → Tells status
    (end_status counts) mid new (end_text counts)
    → IfSome (coming number counts m a st input) (λ e. EndsAs e status old new counts m a st)
unfolding script_from
end_ends number counts m a None input reading left status old mid new h same t = tt
end_ends number counts m a (Some d) None reading left status old mid new h same t = tt
end_ends number counts m a (Some d) (Some bytes) reading left status old mid new h same t =
    subst (λ l. EndsAs (script_from number counts (world m a d) (lines_of l)) status old new counts m a (Some d))
    (sym h.0) (record {
      whole = λ c. let told = t.whole c in record {
        status_is = told.0;
        text = keeps_then_appends old mid new
            (end_text counts) same told.1;
        counts_are = refl;
        after = record { model_is = refl; adapters_are = refl; device_is = refl };
      };
      part = front_later old mid new (end_text counts) same t.part;
    })

pub ends_at_end : (number : ℕ) (counts : Counts) (m : ModelData) (a : List Standing) (st : Option State)
    (input : Option (List ℕ)) (g : Got) (reading : Reading) (left : Option (List ℕ)) (result status : Status)
    (old mid new : Option (List ℕ))
    → g ≡ got.End → result ≡ status → IfSome input (λ bytes. Hands bytes g reading left) → Keeps old mid
    → Tells result (end_status counts) mid new (end_text counts)
    → IfSome (coming number counts m a st input) (λ e. EndsAs e status old new counts m a st)
ends_at_end number counts m a st input g reading left result status old mid new is same h kept t =
    end_ends number counts m a st input reading left status old mid new
    (subst (λ g. IfSome input (λ bytes. Hands bytes g reading left)) is h) kept
    (subst (λ s. Tells s (end_status counts) mid new (end_text counts)) same t)

-- a run that broke off with nothing more written
pub early_ends : (o : Option Ending) (status : Status) (old new : Option (List ℕ)) (counts : Counts) (m : ModelData)
    (a : List Standing) (st : Option State) → is_complete status ≡ false → Keeps old new
    → IfSome o (λ e. EndsAs e status old new counts m a st)
early_ends None status old new counts m a st early same = tt
early_ends (Some e) status old new counts m a st early same =
    record { whole = λ c. absurd (true≢false (sym c ∙ early)); part = front_none old new e.text same }

pub early_stops : (o : Option Ending) (result status : Status) (old new : Option (List ℕ)) (counts : Counts)
    (m : ModelData) (a : List Standing) (st : Option State) → result ≡ status → is_complete result ≡ false → Keeps old new
    → IfSome o (λ e. EndsAs e status old new counts m a st)
early_stops o result status old new counts m a st same early h =
    early_ends o status old new counts m a st (sym (ap is_complete same) ∙ early) h

-- ---- one after another

pub passes_first : (o : Option Ending) (old new : Option (List ℕ)) → Appends old new [] → IfSome o
    (λ e. PassesTo e o old new)
passes_first None old new h = tt
passes_first (Some e) old new h = record { text = []; others = e; is = refl; whole = refl; written = h }

pass_pass : (e others last : Ending) (text more : List ℕ) → e ≡ after_text text others → others ≡ after_text more last
    → e ≡ after_text (text ++ more) last
pass_pass e others last text more first second =
    first ∙ ap (after_text text) second ∙ ap (λ l. record last { text = l }) (sym (append_assoc text more last.text))

passes_one : (e : Ending) (next further : Option Ending) (old mid new : Option (List ℕ)) → PassesTo e next old mid
    → IfSome next (λ e. PassesTo e further mid new) → PassesTo e further old new
passes_one e next further old mid new p q =
    let r : PassesTo p.others further mid new = subst (λ o. IfSome o (λ e. PassesTo e further mid new)) p.is q in
    record {
      text = p.text ++ r.text;
      others = r.others;
      is = r.is;
      whole = pass_pass e p.others r.others p.text r.text p.whole r.whole;
      written = Appends-trans old mid new p.text r.text p.written r.written;
    }

pub passes_both : (o next further : Option Ending) (old mid new : Option (List ℕ)) → IfSome o
    (λ e. PassesTo e next old mid) → IfSome next (λ e. PassesTo e further mid new) → IfSome o
    (λ e. PassesTo e further old new)
passes_both None next further old mid new p q = tt
passes_both (Some e) next further old mid new p q = passes_one e next further old mid new p q

ends_one : (e : Ending) (next : Option Ending) (status : Status) (old mid new : Option (List ℕ)) (counts : Counts)
    (m : ModelData) (a : List Standing) (st : Option State) → PassesTo e next old mid
    → IfSome next (λ e. EndsAs e status mid new counts m a st) → EndsAs e status old new counts m a st
ends_one e next status old mid new counts m a st p q =
    let r : EndsAs p.others status mid new counts m a st = subst
    (λ o. IfSome o (λ e. EndsAs e status mid new counts m a st)) p.is q in
    subst (λ e. EndsAs e status old new counts m a st) (sym p.whole) (record {
      whole = λ c. let o = r.whole c in record {
        status_is = o.status_is;
        text = Appends-trans old mid new p.text
            p.others.text p.written o.text;
        counts_are = o.counts_are;
        after = o.after;
      };
      part = front_after old mid new p.text p.others.text p.written r.part;
    })

pub ends_both : (o next : Option Ending) (status : Status) (old mid new : Option (List ℕ)) (counts : Counts)
    (m : ModelData) (a : List Standing) (st : Option State) → IfSome o (λ e. PassesTo e next old mid)
    → IfSome next (λ e. EndsAs e status mid new counts m a st) → IfSome o (λ e. EndsAs e status old new counts m a st)
ends_both None next status old mid new counts m a st p q = tt
ends_both (Some e) next status old mid new counts m a st p q = ends_one e next status old mid new counts m a st p q
