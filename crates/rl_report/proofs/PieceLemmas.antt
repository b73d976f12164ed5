-- One piece after another.
use Rattle.std.proofs.lemmas.List.{drop_more, drop_all}
use Rattle.std.proofs.Common.{◌≡◌, ℕ, ◌+◌, ◌<◌, ◌≤◌, length, drop, get_or, map, List, [], ◌∷◌, ◌++◌, Result, Ok, Err, IsErr, OnErr, sym, ap, ◌∙◌, subst, append_assoc, append-nil, arith}
use Rattle.std.specs.declared.option.Option.{Option}
use Rattle.std.specs.Io.KnownBytes.{Appends}
use Rattle.std.proofs.KnownBytes.{Appends-trans}
use Rattle.std.proofs.lemmas.Bool.{true≢false}
use Rattle.rl_bus.specs.Causes.{HasCause, Rose}
use Rattle.rl_report.specs.declared.sink.Sink.{Ghosts as Sink}
use Rattle.rl_report.specs.Pieces.{AppendsFront, Puts, PutsText, SinkStays, joined}

-- a front of a piece after a whole one
pub front_after : (a b c : Option (List ℕ)) (xs ys : List ℕ) → Appends a b xs → AppendsFront b c ys → AppendsFront a c (xs ++ ys)
front_after a b c xs ys p q =
    record { front = xs ++ q.front; rest = q.rest; split = append_assoc xs q.front q.rest ∙ ap (λ l. xs ++ l) q.split; appended = Appends-trans a b c xs q.front p q.appended }

-- a front of a piece is a front of what begins with it
pub front_before : (a b : Option (List ℕ)) (xs ys : List ℕ) → AppendsFront a b xs → AppendsFront a b (xs ++ ys)
front_before a b xs ys q =
    record { front = q.front; rest = q.rest ++ ys; split = sym (append_assoc q.front q.rest ys) ∙ ap (λ l. l ++ ys) q.split; appended = q.appended }

-- the last of the pieces
pub puts_after : {T E : Type 0} (a b c : Option (List ℕ)) (xs ys : List ℕ) (r : Result T E) → Appends a b xs → Puts b c ys r → Puts a c (xs ++ ys) r
puts_after a b c xs ys (Ok x) p q = record { whole = Appends-trans a b c xs ys p q.whole; part = tt }
puts_after a b c xs ys (Err e) p q = record { whole = tt; part = front_after a b c xs ys p q.part }

-- the pieces end early
pub puts_stopped : {T E : Type 0} (a b : Option (List ℕ)) (xs : List ℕ) (r : Result T E) → IsErr r → AppendsFront a b xs → Puts a b xs r
puts_stopped a b xs (Ok x) e q = absurd (true≢false (sym e))
puts_stopped a b xs (Err y) e q = record { whole = tt; part = q }

-- a whole piece, and then the others
pub puts_more : {T E : Type 0} (a b c : Option (List ℕ)) (x : List ℕ) (xs : List (List ℕ)) (r : Result T E) → Appends a b x → Puts b c (joined xs) r → Puts a c (joined (x ∷ xs)) r
unfolding joined
puts_more a b c x xs r p q = puts_after a b c x (joined xs) r p q

-- the last piece
pub puts_last : {T E : Type 0} (a b : Option (List ℕ)) (x : List ℕ) (r : Result T E) → Puts a b x r → Puts a b (joined (x ∷ [])) r
unfolding joined
puts_last a b x r p = subst (λ l. Puts a b l r) (sym (append-nil x)) p

-- the first piece failed
pub puts_failed : {T E : Type 0} (a b : Option (List ℕ)) (x : List ℕ) (xs : List (List ℕ)) (r : Result T E) → IsErr r → AppendsFront a b x → Puts a b (joined (x ∷ xs)) r
unfolding joined
puts_failed a b x xs r e p = puts_stopped a b (x ++ joined xs) r e (front_before a b x (joined xs) p)

-- a text of three parts, where the second is of seven pieces
text_of_three : (t x a b c d e f g y : List ℕ) → ((((((((t ++ x) ++ a) ++ b) ++ c) ++ d) ++ e) ++ f) ++ g) ++ y ≡ t ++ joined (x ∷ joined (a ∷ b ∷ c ∷ d ∷ e ∷ f ∷ g ∷ []) ∷ y ∷ [])
unfolding joined
text_of_three t x a b c d e f g y = simp (append_assoc, append-nil)

pub appended_nine : (t t1 t2 t3 t4 t5 t6 t7 t8 t9 x a b c d e f g y : List ℕ) → t1 ≡ t ++ x → t2 ≡ t1 ++ a → t3 ≡ t2 ++ b → t4 ≡ t3 ++ c → t5 ≡ t4 ++ d
    → t6 ≡ t5 ++ e → t7 ≡ t6 ++ f → t8 ≡ t7 ++ g → t9 ≡ t8 ++ y
    → t9 ≡ t ++ joined (x ∷ joined (a ∷ b ∷ c ∷ d ∷ e ∷ f ∷ g ∷ []) ∷ y ∷ [])
appended_nine t t1 t2 t3 t4 t5 t6 t7 t8 t9 x a b c d e f g y h1 h2 h3 h4 h5 h6 h7 h8 h9 =
    h9 ∙ ap (λ l. l ++ y)
    (h8 ∙ ap (λ l. l ++ g)
    (h7 ∙ ap (λ l. l ++ f) (h6 ∙ ap (λ l. l ++ e) (h5 ∙ ap (λ l. l ++ d) (h4 ∙ ap (λ l. l ++ c) (h3 ∙ ap (λ l. l ++ b) (h2 ∙ ap (λ l. l ++ a) h1)))))))
    ∙ text_of_three t x a b c d e f g y

-- the next of a list of pieces, and the others
pub next_piece : {A : Type 0} (text : A → List ℕ) (pieces : List A) (i : ℕ) (d : A) → i < length pieces
    → joined (map text (drop i pieces)) ≡ text (get_or pieces i d) ++ joined (map text (drop (i + 1) pieces))
unfolding joined
next_piece text pieces i d h = ap (λ l. joined (map text l)) (drop_more pieces i d h)

pub no_piece : {A : Type 0} (text : A → List ℕ) (pieces : List A) (i : ℕ) → length pieces ≤ i → joined (map text (drop i pieces)) ≡ []
unfolding joined
no_piece text pieces i h = ap (λ l. joined (map text l)) (drop_all i pieces h)

-- a count that rose behind another one
risen : {T E : Type 0} (r : Result T E) (a b c : ℕ) → a ≤ b → OnErr r (Rose b c) → OnErr r (Rose a c)
risen (Ok x) a b c later h = tt
risen (Err e) a b c later h = omega (arith, later, h)

-- a call has its cause in one that it made
pub cause_stopped : {T U E F : Type 0} (r : Result T E) (a b : ℕ) (e : F) → IsErr r → HasCause {T = U} {E = F} a b (Err e) → HasCause a b r
cause_stopped (Ok x) a b e is h = absurd (true≢false (sym is))
cause_stopped (Err y) a b e is h = record { later = h.later; failed = h.failed }

pub cause_kept : {T U E F : Type 0} (a b : ℕ) (u : U) (v : T) → HasCause {T = U} {E = F} a b (Ok u) → HasCause {T = T} {E = E} a b (Ok v)
cause_kept a b u v h = record { later = h.later; failed = tt }

-- ---- what calls leave of the sink, and the text that they put, one after another

pub stays_then : {K U F T E : Type 0} (sink : Sink K) (a b c : K) (v : U) (r : Result T E) → SinkStays {T = U} {E = F} sink a b (Ok v)
    → SinkStays sink b c r → SinkStays sink a c r
stays_then sink a b c v r p q = record {
  cause = record { later = omega (arith, p.cause.later, q.cause.later); failed = risen r (sink.faults a) (sink.faults b) (sink.faults c) p.cause.later q.cause.failed };
  ends = q.ends ∙ p.ends;
  target = q.target ∙ p.target;
}

pub stays_stopped : {K U F T E : Type 0} (sink : Sink K) (a b : K) (e : F) (r : Result T E) → IsErr r → SinkStays {T = U} {E = F} sink a b (Err e)
    → SinkStays sink a b r
stays_stopped sink a b e (Ok x) is p = absurd (true≢false (sym is))
stays_stopped sink a b e (Err y) is p = record { cause = record { later = p.cause.later; failed = p.cause.failed }; ends = p.ends; target = p.target }

-- a text, and then the others
pub text_more : {K U F T E : Type 0} (sink : Sink K) (a b c : K) (x : List ℕ) (xs : List (List ℕ)) (v : U) (r : Result T E)
    → PutsText {T = U} {E = F} sink a b x (Ok v) → PutsText sink b c (joined xs) r → PutsText sink a c (joined (x ∷ xs)) r
text_more sink a b c x xs v r p q = record {
  bytes = puts_more _ _ _ x xs r p.bytes.whole q.bytes;
  stays = stays_then sink a b c v r p.stays q.stays;
}

-- the last text
pub text_last : {K T E : Type 0} (sink : Sink K) (a b : K) (x : List ℕ) (r : Result T E) → PutsText sink a b x r → PutsText sink a b (joined (x ∷ [])) r
text_last sink a b x r p = record { bytes = puts_last _ _ x r p.bytes; stays = p.stays }

-- the first text failed
pub text_failed : {K U F T E : Type 0} (sink : Sink K) (a b : K) (x : List ℕ) (xs : List (List ℕ)) (e : F) (r : Result T E) → IsErr r
    → PutsText {T = U} {E = F} sink a b x (Err e) → PutsText sink a b (joined (x ∷ xs)) r
text_failed sink a b x xs e r is p = record {
  bytes = puts_failed _ _ x xs r is p.bytes.part;
  stays = stays_stopped sink a b e r is p.stays;
}

-- the same of two texts that aren't called pieces
pub text_after : {K U F T E : Type 0} (sink : Sink K) (a b c : K) (xs ys : List ℕ) (v : U) (r : Result T E)
    → PutsText {T = U} {E = F} sink a b xs (Ok v) → PutsText sink b c ys r → PutsText sink a c (xs ++ ys) r
text_after sink a b c xs ys v r p q = record {
  bytes = puts_after _ _ _ xs ys r p.bytes.whole q.bytes;
  stays = stays_then sink a b c v r p.stays q.stays;
}

pub text_stopped : {K U F T E : Type 0} (sink : Sink K) (a b : K) (xs ys : List ℕ) (e : F) (r : Result T E) → IsErr r
    → PutsText {T = U} {E = F} sink a b xs (Err e) → PutsText sink a b (xs ++ ys) r
text_stopped sink a b xs ys e r is p = record {
  bytes = puts_stopped _ _ (xs ++ ys) r is (front_before _ _ xs ys p.bytes.part);
  stays = stays_stopped sink a b e r is p.stays;
}

-- pieces that were put in one call, and one more
joined_then : (xs : List (List ℕ)) (y : List ℕ) → joined xs ++ y ≡ joined (xs ++ y ∷ [])
unfolding joined
joined_then [] y = sym (append-nil y)
joined_then (x ∷ xs) y = append_assoc x (joined xs) y ∙ ap (λ l. x ++ l) (joined_then xs y)

pub text_then : {K U F T E : Type 0} (sink : Sink K) (a b c : K) (xs : List (List ℕ)) (y : List ℕ) (v : U) (r : Result T E)
    → PutsText {T = U} {E = F} sink a b (joined xs) (Ok v) → PutsText sink b c y r → PutsText sink a c (joined (xs ++ y ∷ [])) r
text_then sink a b c xs y v r p q = subst (λ l. PutsText sink a c l r) (joined_then xs y) (text_after sink a b c (joined xs) y v r p q)

pub then_stopped : {K U F T E : Type 0} (sink : Sink K) (a b : K) (xs : List (List ℕ)) (y : List ℕ) (e : F) (r : Result T E) → IsErr r
    → PutsText {T = U} {E = F} sink a b (joined xs) (Err e) → PutsText sink a b (joined (xs ++ y ∷ [])) r
then_stopped sink a b xs y e r is p = subst (λ l. PutsText sink a b l r) (joined_then xs y) (text_stopped sink a b (joined xs) y e r is p)

-- ---- what a loop leaves of the sink that it puts to

-- No call has failed, and the sink wasn't ended, and its bytes go where they went.
pub record SinkKeeps {K : Type 0} (sink : Sink K) (first now : K) : Type 0 where
  pub later : sink.faults first ≤ sink.faults now
  pub ends : sink.ends now ≡ sink.ends first
  pub target : sink.target now ≡ sink.target first

pub keeps_more : {K U F : Type 0} (sink : Sink K) (a b c : K) (v : U) → SinkKeeps sink a b → SinkStays {T = U} {E = F} sink b c (Ok v) → SinkKeeps sink a c
keeps_more sink a b c v p q = record { later = omega (arith, p.later, q.cause.later); ends = q.ends ∙ p.ends; target = q.target ∙ p.target }

stays_kept : {K T E : Type 0} (sink : Sink K) (a b c : K) (r : Result T E) → SinkKeeps sink a b → SinkStays sink b c r → SinkStays sink a c r
stays_kept sink a b c r p q = record {
  cause = record { later = omega (arith, p.later, q.cause.later); failed = risen r (sink.faults a) (sink.faults b) (sink.faults c) p.later q.cause.failed };
  ends = q.ends ∙ p.ends;
  target = q.target ∙ p.target;
}

pub keeps_stopped : {K U F T E : Type 0} (sink : Sink K) (a b c : K) (e : F) (r : Result T E) → IsErr r → SinkKeeps sink a b
    → SinkStays {T = U} {E = F} sink b c (Err e) → SinkStays sink a c r
keeps_stopped sink a b c e r is p q = stays_stopped sink a c e r is (stays_kept sink a b c (Err e) p q)

pub keeps_all : {K T E : Type 0} (sink : Sink K) (a b : K) (v : T) → SinkKeeps sink a b → SinkStays {T = T} {E = E} sink a b (Ok v)
keeps_all sink a b v p = record { cause = record { later = p.later; failed = tt }; ends = p.ends; target = p.target }

-- For `search`: what shows that calls put a text, one part after another.
pub ruleset by_pieces = (text_more, text_last, text_failed, text_after, text_stopped)
