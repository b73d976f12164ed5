-- Pieces that are gathered in a text, one after another.
use Rattle.std.proofs.Common.{◌≡◌, ℕ, List, [], ◌∷◌, ◌++◌, Bool, true, if◌then◌else◌, Result, Ok, Err, IsErr, sym, ap, ◌∙◌, subst, append_assoc, append-nil}
use Rattle.std.specs.declared.option.Option.{Option}
use Rattle.std.proofs.KnownBytes.{Appends-nil, Appends-trans}
use Rattle.std.proofs.lemmas.Bool.{true≢false}
use Rattle.rl_report.specs.declared.sink.Sink.{Ghosts as Sink}
use Rattle.rl_report.specs.Pieces.{AppendsFront, Puts, PutsText, SinkStays, Gathered, Gathers, joined}
use Rattle.rl_report.proofs.PieceLemmas.{front_before, puts_after, puts_stopped, stays_then, stays_stopped}

-- a piece was appended, and nothing was written
pub pushed : (a : Option (List ℕ)) (t u x : List ℕ) → u ≡ t ++ x → Gathered a a t u x
pushed a t u x e = record { gone = []; split = e; appended = Appends-nil a }

-- two pieces were appended
pub pushed_two : (t u v x y : List ℕ) → u ≡ t ++ x → v ≡ u ++ y → v ≡ t ++ joined (x ∷ y ∷ [])
unfolding joined
pushed_two t u v x y d e = e ∙ ap (λ l. l ++ y) d ∙ append_assoc t x y ∙ ap (λ l. t ++ (x ++ l)) (sym (append-nil y))

-- what is written and kept of two pieces
split_both : (gone other t u v x y : List ℕ) → gone ++ u ≡ t ++ x → other ++ v ≡ u ++ y → (gone ++ other) ++ v ≡ t ++ (x ++ y)
split_both gone other t u v x y d e =
    append_assoc gone other v ∙ ap (λ l. gone ++ l) e ∙ sym (append_assoc gone u y) ∙ ap (λ l. l ++ y) d ∙ append_assoc t x y

pub both : (a b c : Option (List ℕ)) (t u v x y : List ℕ) → Gathered a b t u x → Gathered b c u v y → Gathered a c t v (x ++ y)
both a b c t u v x y p q = record {
  gone = p.gone ++ q.gone;
  split = split_both p.gone q.gone t u v x y p.split q.split;
  appended = Appends-trans a b c p.gone q.gone p.appended q.appended;
}

-- a fault behind a piece
pub behind : (a b c : Option (List ℕ)) (t u x y : List ℕ) → Gathered a b t u x → AppendsFront b c (u ++ y) → AppendsFront a c (t ++ (x ++ y))
behind a b c t u x y p q = record {
  front = p.gone ++ q.front;
  rest = q.rest;
  split = split_both p.gone q.front t u q.rest x y p.split q.split;
  appended = Appends-trans a b c p.gone q.front p.appended q.appended;
}

-- a fault before a piece
pub before : (a b : Option (List ℕ)) (t x y : List ℕ) → AppendsFront a b (t ++ x) → AppendsFront a b (t ++ (x ++ y))
before a b t x y q = subst (AppendsFront a b) (append_assoc t x y) (front_before a b (t ++ x) y q)

pub gathers_after : {T E : Type 0} (a b c : Option (List ℕ)) (t u v x y : List ℕ) (r : Result T E) → Gathered a b t u x → Gathers b c u v y r → Gathers a c t v (x ++ y) r
gathers_after a b c t u v x y (Ok z) p q = record { whole = both a b c t u v x y p q.whole; part = tt }
gathers_after a b c t u v x y (Err e) p q = record { whole = tt; part = behind a b c t u x y p q.part }

pub gathers_stopped : {T E : Type 0} (a b : Option (List ℕ)) (t v x : List ℕ) (r : Result T E) → IsErr r → AppendsFront a b (t ++ x) → Gathers a b t v x r
gathers_stopped a b t v x (Ok z) e q = absurd (true≢false (sym e))
gathers_stopped a b t v x (Err z) e q = record { whole = tt; part = q }

-- a piece, and then the others
pub gathers_more : {T E : Type 0} (a b c : Option (List ℕ)) (t u v x : List ℕ) (xs : List (List ℕ)) (r : Result T E) → Gathered a b t u x
    → Gathers b c u v (joined xs) r → Gathers a c t v (joined (x ∷ xs)) r
unfolding joined
gathers_more a b c t u v x xs r p q = gathers_after a b c t u v x (joined xs) r p q

-- a text that is there
pub gathers_if : {T E : Type 0} {a b : Option (List ℕ)} {t v x : List ℕ} {r : Result T E} (there : Bool) → there ≡ true → Gathers a b t v x r
    → Gathers a b t v (if there then x else []) r
gathers_if {a = a} {b = b} {t = t} {v = v} {x = x} {r = r} there e p = subst (λ c. Gathers a b t v (if c then x else []) r) (sym e) p

-- the last piece
pub gathers_last : {T E : Type 0} (a b : Option (List ℕ)) (t v x : List ℕ) (r : Result T E) → Gathers a b t v x r → Gathers a b t v (joined (x ∷ [])) r
unfolding joined
gathers_last a b t v x r p = subst (λ l. Gathers a b t v l r) (sym (append-nil x)) p

-- the first piece failed
pub gathers_failed : {T E : Type 0} (a b : Option (List ℕ)) (t v x : List ℕ) (xs : List (List ℕ)) (r : Result T E) → IsErr r → AppendsFront a b (t ++ x) → Gathers a b t v (joined (x ∷ xs)) r
unfolding joined
gathers_failed a b t v x xs r e p = gathers_stopped a b t v (x ++ joined xs) r e (before a b t x (joined xs) p)

-- two pieces that were gathered as one, and then the others
one_of_two : (x y : List ℕ) (xs : List (List ℕ)) → joined (x ∷ y ∷ []) ++ joined xs ≡ joined (x ∷ y ∷ xs)
unfolding joined
one_of_two x y xs = append_assoc x (y ++ []) (joined xs) ∙ ap (λ l. x ++ (l ++ joined xs)) (append-nil y)

pub gathers_two : {T E : Type 0} (a b c : Option (List ℕ)) (t u v x y : List ℕ) (xs : List (List ℕ)) (r : Result T E) → Gathered a b t u (joined (x ∷ y ∷ []))
    → Gathers b c u v (joined xs) r → Gathers a c t v (joined (x ∷ y ∷ xs)) r
gathers_two a b c t u v x y xs r p q = subst (λ l. Gathers a c t v l r) (one_of_two x y xs) (gathers_after a b c t u v (joined (x ∷ y ∷ [])) (joined xs) r p q)

-- a piece, and then the others, that were gathered
pub gathered_more : (a b c : Option (List ℕ)) (t u v x : List ℕ) (xs : List (List ℕ)) → Gathered a b t u x → Gathered b c u v (joined xs) → Gathered a c t v (joined (x ∷ xs))
unfolding joined
gathered_more a b c t u v x xs p q = both a b c t u v x (joined xs) p q

pub gathered_last : (a b : Option (List ℕ)) (t u x : List ℕ) → Gathered a b t u x → Gathered a b t u (joined (x ∷ []))
unfolding joined
gathered_last a b t u x p = subst (Gathered a b t u) (sym (append-nil x)) p

-- the first piece, a later one, the last one was cut
pub first_cut : (a b : Option (List ℕ)) (t x : List ℕ) (xs : List (List ℕ)) → AppendsFront a b (t ++ x) → AppendsFront a b (t ++ joined (x ∷ xs))
unfolding joined
first_cut a b t x xs q = before a b t x (joined xs) q

pub later_cut : (a b c : Option (List ℕ)) (t u x : List ℕ) (xs : List (List ℕ)) → Gathered a b t u x → AppendsFront b c (u ++ joined xs) → AppendsFront a c (t ++ joined (x ∷ xs))
unfolding joined
later_cut a b c t u x xs p q = behind a b c t u x (joined xs) p q

-- room was made first, or was not
pub room_made : {T E : Type 0} (a b c : Option (List ℕ)) (t u v x : List ℕ) (r : Result T E) → Gathered a b t u [] → Gathers b c u v x r → Gathers a c t v x r
room_made a b c t u v x r p q = gathers_after a b c t u v [] x r p q

pub room_failed : {T E : Type 0} (a b : Option (List ℕ)) (t v x : List ℕ) (r : Result T E) → IsErr r → AppendsFront a b (t ++ []) → Gathers a b t v x r
room_failed a b t v x r e p = gathers_stopped a b t v x r e (before a b t [] x p)

-- a piece that is written at once, where the text has nothing
pub written_through : {T E : Type 0} (a b c : Option (List ℕ)) (t u x : List ℕ) (r : Result T E) → u ≡ [] → Gathered a b t u [] → Puts b c x r → Gathers a c t u x r
written_through a b c t u x (Ok z) none p q =
    room_made a b c t u u x (Ok z) p (record { whole = record { gone = x; split = ap (λ l. x ++ l) none ∙ append-nil x ∙ ap (λ l. l ++ x) (sym none); appended = q.whole }; part = tt })
written_through a b c t u x (Err z) none p q =
    room_made a b c t u u x (Err z) p (record { whole = tt; part = subst (AppendsFront b c) (ap (λ l. l ++ x) (sym none)) q.part })

-- a text that began with nothing is written
all_written : {T E : Type 0} (a b c : Option (List ℕ)) (s t bs : List ℕ) (r : Result T E) → s ≡ [] → Gathered a b s t bs → Puts b c t r → Puts a c bs r
all_written a b c s t bs r none p q = subst (λ l. Puts a c l r) (p.split ∙ ap (λ l. l ++ bs) none) (puts_after a b c p.gone t r p.appended q)

pub text_written : {K U F T E : Type 0} (sink : Sink K) (a b c : K) (s t bs : List ℕ) (v : U) (r : Result T E) → s ≡ []
    → Gathered (sink.written a) (sink.written b) s t bs → SinkStays {T = U} {E = F} sink a b (Ok v) → PutsText sink b c t r → PutsText sink a c bs r
text_written sink a b c s t bs v r none put kept last =
    record { bytes = all_written _ _ _ s t bs r none put last.bytes; stays = stays_then sink a b c v r kept last.stays }

pub text_cut : {K U F T E : Type 0} (sink : Sink K) (a b : K) (s bs : List ℕ) (e : F) (r : Result T E) → s ≡ [] → IsErr r
    → AppendsFront (sink.written a) (sink.written b) (s ++ bs) → SinkStays {T = U} {E = F} sink a b (Err e) → PutsText sink a b bs r
text_cut sink a b s bs e r none is put kept = record {
  bytes = puts_stopped _ _ bs r is (subst (AppendsFront (sink.written a) (sink.written b)) (ap (λ l. l ++ bs) none) put);
  stays = stays_stopped sink a b e r is kept;
}

-- ---- texts that are gathered part by part

-- What is left completes the text.
pub record IsLeftOver (first now : Option (List ℕ)) (start text all rest : List ℕ) : Type 0 where
  pub whole : (new : Option (List ℕ)) (after : List ℕ) → Gathered now new text after rest → Gathered first new start after all
  pub part : (new : Option (List ℕ)) → AppendsFront now new (text ++ rest) → AppendsFront first new (start ++ all)

pub less_over : (first now next : Option (List ℕ)) (start text further all rest x others : List ℕ) → IsLeftOver first now start text all rest
    → rest ≡ x ++ others → Gathered now next text further x → IsLeftOver first next start further all others
less_over first now next start text further all rest x others left split put = record {
  whole = λ new after h. left.whole new after (subst (Gathered now new text after) (sym split) (both now next new text further after x others put h));
  part = λ new h. left.part new (subst (λ l. AppendsFront now new (text ++ l)) (sym split) (behind now next new text further x others put h));
}

pub over_stopped : {T E : Type 0} (first now next : Option (List ℕ)) (start text after all rest x others : List ℕ) (r : Result T E)
    → IsLeftOver first now start text all rest → rest ≡ x ++ others → IsErr r → AppendsFront now next (text ++ x) → Gathers first next start after all r
over_stopped first now next start text after all rest x others r left split e put =
    gathers_stopped first next start after all r e (left.part next (subst (λ l. AppendsFront now next (text ++ l)) (sym split) (before now next text x others put)))

pub none_over : (first now : Option (List ℕ)) (start text all rest : List ℕ) → IsLeftOver first now start text all rest → rest ≡ [] → Gathered first now start text all
none_over first now start text all rest left none = left.whole now text (subst (Gathered now now text text) (sym none) (pushed now text text [] (sym (append-nil text))))
