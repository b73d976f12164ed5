-- Line by line through a woven script.
use Rattle.std.proofs.Common.{◌≡◌, ◌≢◌, ℕ, ◌+◌, ◌<◌, Bool, true, false, if◌then◌else◌, List, [], ◌∷◌, ◌++◌, length, is_some, Some, None, Ok, Err, IfSome, refl, sym, ap, subst, ◌∙◌, arith}
use Rattle.std.proofs.KnownBytes.{Appends-trans}
use Rattle.std.proofs.lemmas.Bool.{true≢false}
use Rattle.std.specs.declared.option.Option.{Option}
use Rattle.std.specs.declared.result.Result.{Result}
use Rattle.std.specs.Io.KnownBytes.{Appends, Keeps}
use Rattle.rl_bus.specs.Standing.{Standing}
use Rattle.rl_bus.specs.State.{State}
use Rattle.rl_access.specs.Model.{ModelData}
use Rattle.rl_access.specs.World.{world, IsAt}
use Rattle.rl_log.specs.declared.counts.Counts.{Counts}
use Rattle.rl_log.specs.declared.refusal.LineRefusal.{LineRefusal}
use Rattle.rl_log.specs.declared.status.Status.{Status}
use Rattle.rl_log.specs.declared.status.Status.TheVariants.{Refused, SinkFault}
use Rattle.rl_log.specs.Endings.{end_status}
use Rattle.rl_log.specs.Log.{Ending, after_text, said}
use Rattle.rl_log.specs.Statuses.{is_complete}
use Rattle.rl_log.specs.Telling.{Tells}
use Rattle.rl_log.specs.Texts.{end_text}
use Rattle.rl_play.specs.declared.playing.Turn.TheVariants.{Next, Stop}
use Rattle.rl_play.specs.Heard.{heard}
use Rattle.rl_play.specs.Moment.{moment}
use Rattle.rl_play.specs.Played.{EndsAs, PassesTo}
use Rattle.rl_log.proofs.KnownLemmas.{front_later, front_none, keeps_then_appends}
use Rattle.rl_play.proofs.PlayLemmas.{heard_said, hands_some, lines_more}
use Rattle.rl_report.specs.declared.lines.Got.{Got}
use Rattle.rl_report.specs.declared.lines.Got.TheVariants as got
use Rattle.rl_report.specs.Got.{Hands}
use Rattle.rl_report.specs.Lines.{first_line, after_line, lines_of}
use Rattle.rl_report.specs.Pieces.{AppendsFront}
use Rattle.rl_report.specs.Reading.{Reading, input_of}
use Rattle.rl_report.proofs.PieceLemmas.{front_after, front_before}
use Rattle.rl_script.specs.declared.command.Item.{Item}
use Rattle.rl_script.specs.declared.command.Item.TheVariants as item
use Rattle.rl_script.specs.declared.line.Line.{Line}
use Rattle.rl_script.specs.declared.line_ref.LineRef.{LineRef}
use Rattle.rl_script.specs.declared.line_ref.LineRef.TheVariants as ref
use Rattle.rl_script.specs.Commands.{line_of}
use Rattle.rl_script.specs.Said.{line_said}
use Rattle.rl_weave.specs.Weave.{WeaveData, empty}
use Rattle.rl_weave_log.specs.declared.refusal.WovenRefusal.{WovenRefusal}
use Rattle.rl_log.specs.Named.{op_named}
use Rattle.rl_weave_log.specs.Adding.{adding_line, is_named}
use Rattle.rl_weave_log.specs.Refusals.{refused_woven_text}
use Rattle.rl_weave_log.specs.Setting.{Setting, IsAtWeaving, IsPart, weaving_at}
use Rattle.rl_weave_log.specs.Turns.{EndsSo, IsTurn, Stopped, WeavesLines, WeavesThrough, WentOn, coming}
use Rattle.rl_weave_log.specs.WeaveLog.{Weaving, Part, comes_of, finished, goes_on, group, is_blank, joins, nothing, stops, taken_in, woven_from}
use Rattle.rl_weave_log.proofs.Words.{set, weaving, weaving_is}

-- ---- a blank line

item_said_something : (i : Item) (path : List ℕ) (first second : ℕ) (map : Option (List ℕ))
    → is_blank (line_of i path first second map) ≡ false
item_said_something item.Write path first second map = refl
item_said_something _ path first second map = refl

pub something_said : (l : LineRef) → l ≢ ref.Blank → is_blank (line_said l) ≡ false
something_said ref.Blank h = absurd (h refl)
something_said (ref.OnItem l) h = item_said_something l.item l.path l.first l.second l.map
something_said (ref.BurstWrite mem first values map) h = refl
something_said (ref.Reset kind) h = refl
something_said (ref.Seq which block) h = refl

-- ---- the names of a line

-- a line that is one operation has its names where it names one
pub named_op : (m : ModelData) (i : Item) (path : List ℕ) (first second : ℕ) (map : Option (List ℕ)) → i ≢ item.BurstRead
    → is_named m (line_of i path first second map) ≡ is_some (op_named m (line_of i path first second map))
named_op m item.BurstRead path first second map h = absurd (h refl)
named_op m _ path first second map h = refl

-- ---- a turn

err_is : {x y : WovenRefusal} (r : Result Part WovenRefusal) → r ≡ Err x → r ≡ Err y → x ≡ y
err_is r e f = cc

err_ok : {x : WovenRefusal} {y : Part} (r : Result Part WovenRefusal) → r ≡ Err x → r ≡ Ok y → ⊥
err_ok r e f = cc

ok_is : {x y : Part} (r : Result Part WovenRefusal) → r ≡ Ok x → r ≡ Ok y → x ≡ y
ok_is r e f = cc

-- a script that is refused at a line ends so
stops_so : (number : ℕ) (why : WovenRefusal) (g : Weaving) (status : Status) (old : Option (List ℕ)) (s : Setting)
    → Tells status Refused old s.text (refused_woven_text number why) → s.counts ≡ g.counts
    → IsAt s.model s.adapters s.device g.world → EndsSo (stops number why g) status old s
stops_so number why g status old s t counted at = record {
  whole = λ c. let told = t.whole c in
      record { status_is = told.0; text = told.1; counts_are = counted; after = at };
  part = t.part;
}

stops_turn : (number : ℕ) (g : Weaving) (comes : Result Part WovenRefusal) (why : WovenRefusal) (status : Status)
    (old : Option (List ℕ)) (s : Setting) → comes ≡ Err why
    → Tells status Refused old s.text (refused_woven_text number why) → s.counts ≡ g.counts
    → IsAt s.model s.adapters s.device g.world → IsTurn number comes g old s (Stop status)
stops_turn number g comes why status old s is t counted at = record {
  refused = λ other e. stops_so number other g status old s
      (subst (λ w. Tells status Refused old s.text (refused_woven_text number w)) (err_is comes is e) t) counted at;
  broken = λ p e. absurd (err_ok comes is e);
}

pub refused_turn : (st : Option State) (number : ℕ) (w v : WeaveData) (m : ModelData) (a : List Standing) (x : ℕ)
    (counts : Counts) (says : Result Line LineRefusal) (why : WovenRefusal) (status : Status) (old new : Option (List ℕ))
    → ((d : State) → comes_of (weaving w (world m a d) x counts) says ≡ Err why)
    → Tells status Refused old new (refused_woven_text number why)
    → IfSome st (λ d. IsTurn number (comes_of (weaving w (world m a d) x counts) says) (weaving w (world m a d) x counts)
    old (set v m a st x new counts) (Stop status))
refused_turn None number w v m a x counts says why status old new is t = tt
refused_turn (Some d) number w v m a x counts says why status old new is t =
    let g = weaving w (world m a d) x counts in
    stops_turn number g (comes_of g says) why status old (set v m a (Some d) x new counts) (is d) t refl
    (record { model_is = refl; adapters_are = refl; device_is = refl })

-- the run broke off before the line
pub early_turn : (st : Option State) (number : ℕ) (w v : WeaveData) (m : ModelData) (a : List Standing) (x : ℕ)
    (counts : Counts) (says : Result Line LineRefusal) (status : Status) (old new : Option (List ℕ))
    → is_complete status ≡ false → Keeps old new
    → IfSome st (λ d. IsTurn number (comes_of (weaving w (world m a d) x counts) says) (weaving w (world m a d) x counts)
    old (set v m a st x new counts) (Stop status))
early_turn None number w v m a x counts says status old new early same = tt
early_turn (Some d) number w v m a x counts says status old new early same =
    let g = weaving w (world m a d) x counts in
    record {
      refused = λ why e. record {
        whole = λ c. absurd (true≢false (sym c ∙ early));
        part = front_none old new (stops number why g).text same;
      };
      broken = λ p e. (early, front_none old new p.text same);
    }

pub blank_comes : (g : Weaving) (line : Line) → is_blank line ≡ true → taken_in g line ≡ Ok (group g)
blank_comes g line is = ap (λ b. if b then Ok (group g) else joins g (adding_line g.weave g.world.model line)) is

pub other_comes : (g : Weaving) (line : Line) → is_blank line ≡ false
    → taken_in g line ≡ joins g (adding_line g.weave g.world.model line)
other_comes g line is = ap (λ b. if b then Ok (group g) else joins g (adding_line g.weave g.world.model line)) is

pub blank_goes : (T E : Type 0) (st : Option State) (number : ℕ) (w v : WeaveData) (m n : ModelData) (a b : List Standing)
    (after : Option State) (x y : ℕ) (old new : Option (List ℕ)) (counts now : Counts) (line : Line) (u : T)
    → is_blank line ≡ true
    → IfSome st (λ d. IsPart {T = T} {E = E} (group (weaving w (world m a d) x counts)) old (set v n b after y new now) (Ok u))
    → IfSome st (λ d. IsTurn number (comes_of (weaving w (world m a d) x counts) (Ok line)) (weaving w (world m a d) x counts)
    old (set v n b after y new now) Next)
blank_goes T E None number w v m n a b after x y old new counts now line u is h = tt
blank_goes T E (Some d) number w v m n a b after x y old new counts now line u is h =
    let g = weaving w (world m a d) x counts in
    record { part = group g; is = blank_comes g line is; text = h.whole; left = h.left }

pub blank_breaks : (T E : Type 0) (st : Option State) (number : ℕ) (w v : WeaveData) (m n : ModelData) (a b : List Standing)
    (after : Option State) (x y : ℕ) (old new : Option (List ℕ)) (counts now : Counts) (line : Line) (e : E)
    → is_blank line ≡ true
    → IfSome st (λ d. IsPart {T = T} {E = E} (group (weaving w (world m a d) x counts)) old (set v n b after y new now) (Err e))
    → IfSome st (λ d. IsTurn number (comes_of (weaving w (world m a d) x counts) (Ok line)) (weaving w (world m a d) x counts)
    old (set v n b after y new now) (Stop SinkFault))
blank_breaks T E None number w v m n a b after x y old new counts now line e is h = tt
blank_breaks T E (Some d) number w v m n a b after x y old new counts now line e is h =
    let g = weaving w (world m a d) x counts in
    let comes = blank_comes g line is in
    record {
      refused = λ why f. absurd (err_ok (taken_in g line) f comes);
      broken = λ p f. (refl, subst (λ (q : Part). AppendsFront old new q.text) (ok_is (taken_in g line) comes f) h.part);
    }

pub line_joins : (st : Option State) (number : ℕ) (w v : WeaveData) (m : ModelData) (a : List Standing) (x : ℕ)
    (old : Option (List ℕ)) (counts : Counts) (line : Line) → is_blank line ≡ false → adding_line w m line ≡ Ok v
    → Appends old old []
    → IfSome st (λ d. IsTurn number (comes_of (weaving w (world m a d) x counts) (Ok line)) (weaving w (world m a d) x counts)
    old (set v m a st x old counts) Next)
line_joins None number w v m a x old counts line is added none = tt
line_joins (Some d) number w v m a x old counts line is added none =
    let g = weaving w (world m a d) x counts in
    record {
      part = nothing (record g { weave = v });
      is = other_comes g line is ∙ ap (joins g) added;
      text = none;
      left = record {
        weave_is = refl;
        world_is = record { model_is = refl; adapters_are = refl; device_is = refl };
        drawing_is = refl;
        counts_are = refl;
      };
    }

pub line_refused : (w : WeaveData) (m : ModelData) (a : List Standing) (x : ℕ) (counts : Counts) (line : Line)
    (why : WovenRefusal) → is_blank line ≡ false → adding_line w m line ≡ Err why
    → (d : State) → comes_of (weaving w (world m a d) x counts) (Ok line) ≡ Err why
line_refused w m a x counts line why is added d =
    let g = weaving w (world m a d) x counts in
    other_comes g line is ∙ ap (joins g) added

-- ---- the end of a script

finished_so : (T E : Type 0) (p : Part) (status : Status) (old mid new : Option (List ℕ)) (s : Setting) (u : T)
    → IsPart {T = T} {E = E} p old s (Ok u) → mid ≡ s.text → Tells status (end_status s.counts) mid new (end_text s.counts)
    → EndsAs (finished p) status old new s.counts s.model s.adapters s.device
finished_so T E p status old mid new s u h same t =
    let counts = h.left.counts_are in
    let told : Tells status (end_status p.after.counts) s.text new (end_text p.after.counts) =
    subst (λ c. Tells status (end_status c) s.text new (end_text c)) counts
    (subst (λ l. Tells status (end_status s.counts) l new (end_text s.counts)) same t) in
    record {
      whole = λ c. let both = told.whole c in record {
        status_is = both.0;
        text = Appends-trans old s.text new p.text (end_text p.after.counts) h.whole both.1;
        counts_are = counts;
        after = h.left.world_is;
      };
      part = front_after old s.text new p.text (end_text p.after.counts) h.whole told.part;
    }

pub group_finishes : (T E : Type 0) (st : Option State) (w v : WeaveData) (m n : ModelData) (a b : List Standing)
    (after : Option State) (x y : ℕ) (old mid new : Option (List ℕ)) (counts now : Counts) (status : Status) (u : T)
    → IfSome st (λ d. IsPart {T = T} {E = E} (group (weaving w (world m a d) x counts)) old (set v n b after y mid now) (Ok u))
    → Tells status (end_status now) mid new (end_text now)
    → IfSome st (λ d. EndsAs (finished (group (weaving w (world m a d) x counts))) status old new now n b after)
group_finishes T E None w v m n a b after x y old mid new counts now status u h t = tt
group_finishes T E (Some d) w v m n a b after x y old mid new counts now status u h t =
    finished_so T E (group (weaving w (world m a d) x counts)) status old mid new (set v n b after y mid now) u h refl t

pub group_breaks : (T E : Type 0) (st : Option State) (w v : WeaveData) (m n : ModelData) (a b : List Standing)
    (after : Option State) (x y : ℕ) (old new : Option (List ℕ)) (counts now : Counts) (e : E)
    → IfSome st (λ d. IsPart {T = T} {E = E} (group (weaving w (world m a d) x counts)) old (set v n b after y new now) (Err e))
    → IfSome st (λ d. EndsAs (finished (group (weaving w (world m a d) x counts))) SinkFault old new now n b after)
group_breaks T E None w v m n a b after x y old new counts now e h = tt
group_breaks T E (Some d) w v m n a b after x y old new counts now e h =
    let p = group (weaving w (world m a d) x counts) in
    record {
      whole = λ c. absurd (true≢false (sym c));
      part = front_before old new p.text (end_text p.after.counts) h.part;
    }

-- the input has no more lines
end_so : (number : ℕ) (w : WeaveData) (m : ModelData) (a : List Standing) (d : State) (x : ℕ) (st : Option State)
    (text old mid new : Option (List ℕ)) (counts now : Counts) (bytes : List ℕ) (status : Status) (n : ModelData)
    (b : List Standing) (after : Option State) → bytes ≡ [] → Keeps old mid
    → EndsAs (finished (group (weaving w (world m a d) x counts))) status mid new now n b after
    → EndsAs (woven_from number (weaving w (world m a d) x counts) (lines_of bytes)) status old new now n b after
unfolding woven_from
end_so number w m a d x st text old mid new counts now bytes status n b after none same h =
    let e = finished (group (weaving w (world m a d) x counts)) in
    subst (λ l. EndsAs (woven_from number (weaving w (world m a d) x counts) (lines_of l)) status old new now n b after) (sym none)
    (record {
      whole = λ c. let o = h.whole c in record {
        status_is = o.status_is;
        text = keeps_then_appends old mid new e.text same o.text;
        counts_are = o.counts_are;
        after = o.after;
      };
      part = front_later old mid new e.text same h.part;
    })

pub ends_at_end : (st : Option State) (number : ℕ) (w : WeaveData) (m : ModelData) (a : List Standing) (x : ℕ)
    (text old mid new : Option (List ℕ)) (counts now : Counts) (input : Option (List ℕ)) (g : Got) (reading : Reading)
    (left : Option (List ℕ)) (result status : Status) (n : ModelData) (b : List Standing) (after : Option State)
    → g ≡ got.End → result ≡ status → IfSome input (λ bytes. Hands bytes g reading left) → Keeps old mid
    → IfSome st (λ d. EndsAs (finished (group (weaving w (world m a d) x counts))) result mid new now n b after)
    → IfSome (coming number (set w m a st x text counts) st input) (λ e. EndsAs e status old new now n b after)
ends_at_end None number w m a x text old mid new counts now input g reading left result status n b after is so h same e = tt
ends_at_end (Some d) number w m a x text old mid new counts now None g reading left result status n b after is so h same e = tt
ends_at_end (Some d) number w m a x text old mid new counts now (Some bytes) g reading left result status n b after is so h same e =
    let handed : Hands bytes got.End reading left = subst (λ g. Hands bytes g reading left) is h in
    end_so number w m a d x (Some d) text old mid new counts now bytes status n b after handed.0 same
    (subst (λ s. EndsAs (finished (group (weaving w (world m a d) x counts))) s mid new now n b after) so e)

-- ---- a line of a script

woven_more : (number : ℕ) (g : Weaving) (bytes : List ℕ) (says : Result Line LineRefusal) → 0 < length bytes
    → says ≡ said number (first_line bytes)
    → woven_from number g (lines_of bytes)
    ≡ goes_on number g (comes_of g says) (λ g. woven_from (number + 1) g (lines_of (after_line bytes)))
unfolding woven_from
woven_more number g bytes says some is =
    ap (woven_from number g) (lines_more bytes some)
    ∙ ap (λ s. goes_on number g (comes_of g s) (λ g. woven_from (number + 1) g (lines_of (after_line bytes)))) (sym is)

coming_at : (number : ℕ) (s : Setting) (g : Weaving) (input : Option (List ℕ)) (bytes : List ℕ) → IsAtWeaving s g
    → input ≡ Some bytes → coming number s s.device input ≡ Some (woven_from number g (lines_of bytes))
coming_at number s g input bytes at is =
    ap (coming number s s.device) is ∙ ap (λ st. coming number s st (Some bytes)) at.world_is.device_is
    ∙ ap (λ g. Some (woven_from number g (lines_of bytes))) (weaving_is s g at)

passes : (number : ℕ) (g : Weaving) (bytes : List ℕ) (says : Result Line LineRefusal) (old mid : Option (List ℕ)) (s : Setting)
    (rest : Option (List ℕ)) → 0 < length bytes → says ≡ said number (first_line bytes) → rest ≡ Some (after_line bytes)
    → Keeps old mid → WentOn (comes_of g says) mid s
    → PassesTo (woven_from number g (lines_of bytes)) (coming (number + 1) s s.device rest) old s.text
passes number g bytes says old mid s rest some is left same r =
    let lines = lines_of (after_line bytes) in
    record {
      text = r.part.text;
      others = woven_from (number + 1) r.part.after lines;
      is = coming_at (number + 1) s r.part.after rest (after_line bytes) r.left left;
      whole = woven_more number g bytes says some is
          ∙ ap (λ c. goes_on number g c (λ g. woven_from (number + 1) g lines)) r.is;
      written = keeps_then_appends old mid s.text r.part.text same r.text;
    }

pub next_passes : (st : Option State) (number : ℕ) (w v : WeaveData) (m n : ModelData) (a b : List Standing)
    (after : Option State) (x y : ℕ) (text old mid new : Option (List ℕ)) (counts now : Counts) (input : Option (List ℕ))
    (g : Got) (line : List ℕ) (reading : Reading) (left : Option (List ℕ))
    → g ≢ got.End → g ≢ got.TooLong → IfSome input (λ bytes. Hands bytes g reading left) → line ≡ reading.line
    → Keeps old mid
    → IfSome st (λ d. IsTurn number (comes_of (weaving w (world m a d) x counts) (heard number g line))
    (weaving w (world m a d) x counts) mid (set v n b after y new now) Next)
    → IfSome (coming number (set w m a st x text counts) st input)
    (λ e. PassesTo e (coming (number + 1) (set v n b after y new now) after (input_of reading left)) old new)
next_passes None number w v m n a b after x y text old mid new counts now input g line reading left some short h is same t = tt
next_passes (Some d) number w v m n a b after x y text old mid new counts now None g line reading left some short h is same t = tt
next_passes (Some d) number w v m n a b after x y text old mid new counts now (Some bytes) got.Line line reading left some short h is same t =
    passes number (weaving w (world m a d) x counts) bytes (heard number got.Line line) old mid (set v n b after y new now)
    (input_of reading left) h.some (heard_said number bytes line got.Line reading left some h is) h.rest same t
next_passes (Some d) number w v m n a b after x y text old mid new counts now (Some bytes) got.TooLong line reading left some short h is same t =
    absurd (short refl)
next_passes (Some d) number w v m n a b after x y text old mid new counts now (Some bytes) got.End line reading left some short h is same t =
    absurd (some refl)

stopped_ends : (number : ℕ) (g : Weaving) (comes r : Result Part WovenRefusal) (rest : Weaving → Ending) (status : Status)
    (old mid : Option (List ℕ)) (s : Setting) → comes ≡ r → Keeps old mid → Stopped number comes g status mid s
    → EndsSo (goes_on number g r rest) status old s
stopped_ends number g comes (Err why) rest status old mid s is same h =
    let e = h.refused why is in record {
      whole = λ c. let o = e.whole c in record {
        status_is = o.status_is;
        text = keeps_then_appends old mid s.text (stops number why g).text same o.text;
        counts_are = o.counts_are;
        after = o.after;
      };
      part = front_later old mid s.text (stops number why g).text same e.part;
    }
stopped_ends number g comes (Ok p) rest status old mid s is same h =
    let b = h.broken p is in
    let others = rest p.after in
    record {
      whole = λ c. absurd (true≢false (sym c ∙ b.0));
      part = front_later old mid s.text (p.text ++ others.text) same (front_before mid s.text p.text others.text b.1);
    }

pub stop_ends : (st : Option State) (number : ℕ) (w v : WeaveData) (m n : ModelData) (a b : List Standing)
    (after : Option State) (x y : ℕ) (text old mid new : Option (List ℕ)) (counts now : Counts) (input : Option (List ℕ))
    (g : Got) (line : List ℕ) (reading : Reading) (left : Option (List ℕ)) (status : Status)
    → g ≢ got.End → IfSome input (λ bytes. Hands bytes g reading left) → line ≡ reading.line → Keeps old mid
    → IfSome st (λ d. IsTurn number (comes_of (weaving w (world m a d) x counts) (heard number g line))
    (weaving w (world m a d) x counts) mid (set v n b after y new now) (Stop status))
    → IfSome (coming number (set w m a st x text counts) st input) (λ e. EndsAs e status old new now n b after)
stop_ends None number w v m n a b after x y text old mid new counts now input g line reading left status some h is same t = tt
stop_ends (Some d) number w v m n a b after x y text old mid new counts now None g line reading left status some h is same t = tt
stop_ends (Some d) number w v m n a b after x y text old mid new counts now (Some bytes) g line reading left status some h is same t =
    let at = weaving w (world m a d) x counts in
    let says = heard number g line in
    subst (λ e. EndsAs e status old new now n b after)
    (sym (woven_more number at bytes says (hands_some bytes g reading left some h) (heard_said number bytes line g reading left some h is)))
    (stopped_ends number at (comes_of at says) (comes_of at says) (λ g. woven_from (number + 1) g (lines_of (after_line bytes)))
    status old mid (set v n b after y new now) refl same t)

-- before the first line
pub passes_begun : (st : Option State) (w v : WeaveData) (m : ModelData) (a : List Standing) (x : ℕ) (text old new : Option (List ℕ))
    (counts : Counts) (input : Option (List ℕ)) → v ≡ w → Appends old new []
    → IfSome (coming 1 (set w m a st x text counts) st input)
    (λ e. PassesTo e (coming 1 (set v m a st x new counts) st input) old new)
passes_begun None w v m a x text old new counts input is h = tt
passes_begun (Some d) w v m a x text old new counts None is h = tt
passes_begun (Some d) w v m a x text old new counts (Some bytes) is h = record {
  text = [];
  others = woven_from 1 (weaving w (world m a d) x counts) (lines_of bytes);
  is = ap (λ w. Some (woven_from 1 (weaving w (world m a d) x counts) (lines_of bytes))) is;
  whole = refl;
  written = h;
}

-- from before the first line on
pub begun_weaves : (n x : ℕ) (w : WeaveData) (m : ModelData) (a : List Standing) (st : Option State) (old : Option (List ℕ))
    (counts : Counts) (input left : Option (List ℕ)) (after : Setting) (status : Status) → w ≡ empty → x ≡ n
    → WeavesLines (set w m a st x old counts) input left after status
    → WeavesThrough n (moment m a st old counts) input left
    (moment after.model after.adapters after.device after.text after.counts) status
begun_weaves n x w m a st old counts input left after status none begins h =
    let first : WeavesLines (set empty m a st n old counts) input left after status =
    subst (λ w. WeavesLines (set w m a st n old counts) input left after status) none
    (subst (λ x. WeavesLines (set w m a st x old counts) input left after status) begins h) in
    record { log = first.log; at_fault = first.at_fault; counted = first.counted }
