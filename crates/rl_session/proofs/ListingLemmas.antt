-- Texts that are put part by part.
use Rattle.std.proofs.Common.{codes, ◌≡◌, ℕ, zero, suc, ◌+◌, ◌-◌, ◌*◌, ◌%◌, ◌^◌, ◌<◌, ◌≤◌, List, [], ◌∷◌, ◌++◌, length, drop, get_or, reverse, Result, Ok, Err, IsErr, OnOk, is_ok}
use Rattle.std.proofs.Common.{if◌then◌else◌, Some, sym, ap, subst, ◌∙◌, append_assoc, append-nil, zero-add, arith}
use Rattle.std.specs.declared.option.Option.{Option}
use Rattle.std.specs.List.{flat_map, range_with_len, slice_get}
use Rattle.std.specs.Io.KnownBytes.{Appends}
use Rattle.std.proofs.KnownBytes.{Appends-nil, Appends-trans}
use Rattle.std.proofs.lemmas.List.{drop_more, drop_all, map-id, reverse-append}
use Rattle.std.proofs.lemmas.List.FromFn.{map-range_with_len_more}
use Rattle.std.proofs.Math.Nat.{mod-add-mod}
use Rattle.std.proofs.lemmas.Option.{get_or_from_slice_get, slice_get_within}
use Rattle.rl_report.specs.declared.sink.Sink.{Ghosts as Sink}
use Rattle.rl_report.specs.Pieces.{AppendsFront, Puts, PutsText, joined}
use Rattle.rl_report.proofs.PieceLemmas.{SinkKeeps, front_after, front_before, keeps_all, keeps_more, keeps_stopped, puts_stopped}
use Rattle.rl_session.specs.Soak.{rows_text, script_text, line_after, line_text, step_of, drawn, next_state, mirror_sum}

-- ---- into a sink

-- What is left completes the text.
pub record IsLeft (first now : Option (List ℕ)) (all rest : List ℕ) : Type 0 where
  pub whole : (new : Option (List ℕ)) → Appends now new rest → Appends first new all
  pub part : (new : Option (List ℕ)) → AppendsFront now new rest → AppendsFront first new all

pub all_left : (now : Option (List ℕ)) (all : List ℕ) → IsLeft now now all all
all_left now all = record { whole = λ new h. h; part = λ new h. h }

pub less_left : (first now next : Option (List ℕ)) (all rest x others : List ℕ) → IsLeft first now all rest → rest ≡ x
    ++ others → Appends now next x → IsLeft first next all others
less_left first now next all rest x others left split put = record {
  whole = λ new h. left.whole new (subst (Appends now new) (sym split) (Appends-trans now next new x others put h));
  part = λ new h. left.part new (subst (AppendsFront now new) (sym split) (front_after now next new x others put h));
}

pub left_stopped : {T E : Type 0} (first now next : Option (List ℕ)) (all rest x others : List ℕ) (r : Result T E)
    → IsLeft first now all rest → rest ≡ x ++ others → IsErr r → AppendsFront now next x → Puts first next all r
left_stopped first now next all rest x others r left split e put =
    puts_stopped first next all r e
    (left.part next (subst (AppendsFront now next) (sym split) (front_before now next x others put)))

none_left : (first now : Option (List ℕ)) (all rest : List ℕ) → IsLeft first now all rest → rest ≡ []
    → Appends first now all
none_left first now all rest left none = left.whole now (subst (Appends now now) (sym none) (Appends-nil now))

-- What was put of a text, and what is left of it. No call has failed.
pub record IsPutUpTo {K : Type 0} (sink : Sink K) (first now : K) (all rest : List ℕ) : Type 0 where
  pub left : IsLeft (sink.written first) (sink.written now) all rest
  pub kept : SinkKeeps sink first now

pub put_more : {K U F : Type 0} (sink : Sink K) (first now next : K) (all rest x others : List ℕ) (v : U) → IsPutUpTo sink first now all rest
    → rest ≡ x ++ others → PutsText {T = U} {E = F} sink now next x (Ok v) → IsPutUpTo sink first next all others
put_more sink first now next all rest x others v so split put = record {
  left = less_left _ _ _ all rest x others so.left split put.bytes.whole;
  kept = keeps_more sink first now next v so.kept put.stays;
}

pub put_stopped : {K U F T E : Type 0} (sink : Sink K) (first now next : K) (all rest x others : List ℕ) (e : F) (r : Result T E) → IsErr r
    → IsPutUpTo sink first now all rest → rest ≡ x ++ others → PutsText {T = U} {E = F} sink now next x (Err e) → PutsText sink first next all r
put_stopped sink first now next all rest x others e r is so split put = record {
  bytes = left_stopped _ _ _ all rest x others r so.left split is put.bytes.part;
  stays = keeps_stopped sink first now next e r is so.kept put.stays;
}

pub put_done : {K T E : Type 0} (sink : Sink K) (first now : K) (all rest : List ℕ) (v : T) → IsPutUpTo sink first now all rest → rest ≡ []
    → PutsText {T = T} {E = E} sink first now all (Ok v)
put_done sink first now all rest v so none =
    record { bytes = record { whole = none_left _ _ all rest so.left none; part = tt }; stays = keeps_all sink first now v so.kept }

-- ---- into a vector

pub more_pushed : (first now next all rest x others : List ℕ) → now ++ rest ≡ first ++ all → rest ≡ x ++ others
    → next ≡ now ++ x → next ++ others ≡ first ++ all
more_pushed first now next all rest x others left split pushed =
    ap (λ l. l ++ others) pushed ∙ append_assoc now x others ∙ ap (λ l. now ++ l) (sym split) ∙ left

pub all_pushed : (first now all rest : List ℕ) → now ++ rest ≡ first ++ all → rest ≡ [] → now ≡ first ++ all
all_pushed first now all rest left none = sym (append-nil now) ∙ ap (λ l. now ++ l) (sym none) ∙ left

-- ---- the next part

less : (i n : ℕ) → i < n → n - i ≡ suc (n - (i + 1))
less i n h = omega arith

none : (i n : ℕ) → n ≤ i → n - i ≡ zero
none i n h = omega arith

pub next_number : (f : ℕ → List ℕ) (i n : ℕ) → i < n → flat_map f (range_with_len i (n - i)) ≡ f i ++ flat_map f
    (range_with_len (i + 1) (n - (i + 1)))
next_number f i n h = ap (λ k. flat_map f (range_with_len i k)) (less i n h)

pub no_number : (f : ℕ → List ℕ) (i n : ℕ) → n ≤ i → flat_map f (range_with_len i (n - i)) ≡ []
no_number f i n h = ap (λ k. flat_map f (range_with_len i k)) (none i n h)

range_more : (m : ℕ) → range_with_len 0 (m + 1) ≡ range_with_len 0 m ++ m ∷ []
range_more m =
    sym (map-id (range_with_len 0 (m + 1))) ∙ map-range_with_len_more (λ x. x) 0 m m (zero-add m) ∙ ap
    (λ l. l ++ m ∷ []) (map-id (range_with_len 0 m))

pub next_down : (f : ℕ → List ℕ) (n m : ℕ) → n ≡ m + 1 → flat_map f (reverse (range_with_len 0 n)) ≡ f m ++ flat_map f
    (reverse (range_with_len 0 m))
next_down f n m e =
    ap (λ k. flat_map f (reverse (range_with_len 0 k))) e ∙ ap (λ l. flat_map f (reverse l)) (range_more m) ∙ ap
    (λ l. flat_map f l) (reverse-append (range_with_len 0 m) (m ∷ []))

pub next_item : {A : Type 0} (f : A → List ℕ) (xs : List A) (k : ℕ) (x : A) → slice_get xs k ≡ Some x → flat_map f
    (drop k xs) ≡ f x ++ flat_map f (drop (k + 1) xs)
next_item f xs k x h =
    ap (λ l. flat_map f l) (drop_more xs k x (slice_get_within xs k x h)) ∙ ap
    (λ y. f y ++ flat_map f (drop (k + 1) xs)) (get_or_from_slice_get xs k x x h)

pub no_item : {A : Type 0} (f : A → List ℕ) (xs : List A) (k : ℕ) → length xs ≤ k → flat_map f (drop k xs) ≡ []
no_item f xs k h = ap (λ l. flat_map f l) (drop_all k xs h)

pub next_row : (row : ℕ → List ℕ) (i n : ℕ) → i < n → rows_text row i (n - i) ≡ row i ++ rows_text row (i + 1) (n - (i + 1))
unfolding rows_text
next_row row i n h = ap (λ k. rows_text row i k) (less i n h)

pub no_row : (row : ℕ → List ℕ) (i n : ℕ) → n ≤ i → rows_text row i (n - i) ≡ []
unfolding rows_text
no_row row i n h = ap (λ k. rows_text row i k) (none i n h)

pub next_line : (x i n : ℕ) → i < n → script_text (n - i) x ≡ line_after x ++ script_text (n - (i + 1))
    (next_state (next_state (next_state x)))
unfolding script_text
next_line x i n h = ap (λ k. script_text k x) (less i n h)

pub no_line : (x i n : ℕ) → n ≤ i → script_text (n - i) x ≡ script_text 0 x
no_line x i n h = ap (λ k. script_text k x) (none i n h)

pub next_value : (h : ℕ) (values : List ℕ) (k : ℕ) → k < length values → mirror_sum h (drop k values) ≡ mirror_sum
    ((h * 31 + get_or values k 0) % 2 ^ 64) (drop (k + 1) values)
next_value h values k l = ap (λ vs. mirror_sum h vs) (drop_more values k 0 l)

pub no_value : (h : ℕ) (values : List ℕ) (k : ℕ) → length values ≤ k → mirror_sum h (drop k values) ≡ h
no_value h values k l = ap (λ vs. mirror_sum h vs) (drop_all k values l)

-- ---- several pushes

pub pushed_twice : (first now next a b : List ℕ) → now ≡ first ++ a → next ≡ now ++ b → next ≡ first ++ (a ++ b)
pushed_twice first now next a b one two = two ∙ ap (λ l. l ++ b) one ∙ append_assoc first a b

pub then_pushed : {T E : Type 0} (r : Result T E) (first now next x front all : List ℕ) → now ≡ first ++ front → front
    ++ x ≡ all → OnOk r (next ≡ now ++ x) → OnOk r (next ≡ first ++ all)
then_pushed (Ok y) first now next x front all e whole h =
    pushed_twice first now next front x e h ∙ ap (λ l. first ++ l) whole
then_pushed (Err y) first now next x front all e whole h = tt

pub extended : {T E : Type 0} (r : Result T E) (old new other : List ℕ) → new ≡
    (if is_ok r then old ++ other else old) → OnOk r (new ≡ old ++ other)
extended (Ok y) old new other e = e
extended (Err y) old new other e = tt

pub joined_two : (a b : List ℕ) → a ++ b ≡ joined (a ∷ b ∷ [])
unfolding joined
joined_two a b = simp append-nil

pub joined_three : (a b c : List ℕ) → (a ++ b) ++ c ≡ joined (a ∷ b ∷ c ∷ [])
unfolding joined
joined_three a b c = simp (append_assoc, append-nil)

pub joined_four : (a b c d : List ℕ) → ((a ++ b) ++ c) ++ d ≡ joined (a ∷ b ∷ c ∷ d ∷ [])
unfolding joined
joined_four a b c d = simp (append_assoc, append-nil)

pub pushed_thrice : (first one two three a b c : List ℕ) → first ≡ [] → one ≡ first ++ a → two ≡ one ++ b
    → three ≡ two ++ c → three ≡ joined (a ∷ b ∷ c ∷ [])
pushed_thrice first one two three a b c empty p q r =
    pushed_twice first two three (a ++ b) c (pushed_twice first one two a b p q) r ∙ ap
    (λ l. l ++ ((a ++ b) ++ c)) empty ∙ joined_three a b c

-- ---- a line of the script, and a mirrored value

pub line_drawn : (x a b d i n : ℕ) → a ≡ next_state x → b ≡ next_state a → d ≡ next_state b → i < n
    → script_text (n - i) x ≡ line_text (step_of (drawn a 8)) (drawn b 64) (drawn d 2147483648) ++ script_text
    (n - (i + 1)) d
line_drawn x a b d i n ea eb ed h = rw (ed, eb, ea) (next_line x i n h)

pub value_added : (sum new value : ℕ) (values : List ℕ) (k : ℕ) → new ≡ (sum * 31 % 2 ^ 64 + value) % 2 ^ 64
    → value ≡ get_or values k 0 → k < length values
    → mirror_sum new (drop (k + 1) values) ≡ mirror_sum sum (drop k values)
value_added sum new value values k e v h =
    ap (λ s. mirror_sum s (drop (k + 1) values)) (e ∙ mod-add-mod (sum * 31) (2 ^ 64) value ∙ ap
    (λ y. (sum * 31 + y) % 2 ^ 64) v) ∙ sym (next_value sum values k h)

-- the last line of the script
pub script_closed : {T E : Type 0} (r : Result T E) (first now next all : List ℕ) (x i n : ℕ) → now ++ script_text
    (n - i) x ≡ first ++ all → n ≤ i → next ≡ (if is_ok r then now ++ codes "seq bit-bash *\n" else now) → OnOk r
    (next ≡ first ++ all)
unfolding script_text
script_closed (Ok y) first now next all x i n left h e = e ∙ ap (λ l. now ++ l) (sym (no_line x i n h)) ∙ left
script_closed (Err y) first now next all x i n left h e = tt
