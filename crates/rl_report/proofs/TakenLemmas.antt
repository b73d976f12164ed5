-- What becomes of the parts before the separator.
use Rattle.std.proofs.Common.{◌≡◌, ℕ, ◌+◌, ◌<◌, ◌≤◌, Bool, true, false, ◌&&◌, cond, eqb, List, [], ◌∷◌, ◌++◌, Option, Some, None, IfSome, Result, Ok, Err}
use Rattle.std.proofs.Common.{OnErr, is_err, length, take, drop, refl, sym, ap, ◌∙◌, subst, append_assoc, append-nil, length-append, ◌⊎◌, inl, inr, arith}
use Rattle.std.proofs.lemmas.Bool.{true≢false}
use Rattle.std.proofs.lemmas.List.{take-append-drop, length-take-le}
use Rattle.std.proofs.Math.Seq.{drop-append_seam}
use Rattle.std.specs.Io.KnownBytes.{Keeps, prepend_known}
use Rattle.std.proofs.lemmas.Bool.{cases_lt}
use Rattle.rl_report.specs.declared.opening.Head.{Head}
use Rattle.rl_report.specs.declared.opening.Head.TheVariants.{Missing, TooLong}
use Rattle.rl_report.specs.Opening.{HeadIs, is_separator, separator_from, HasNoHead, FindsHead, TakesNoHead, BeginsWithSeparator, BeginsWithText}
use Rattle.rl_report.specs.Lines.{first_line, after_line}
use Rattle.rl_report.specs.Reading.{Reading, input_of}
use Rattle.rl_report.specs.Taken.{Passes, TakesText, TakesNothing}
use Rattle.rl_report.proofs.LineLemmas.{first_of_more, after_of_more, ends_whole}
use Rattle.rl_report.proofs.OpeningLemmas.{no_ten, skip}

-- readings with the same parts
pub same_reading : (p q l m : List ℕ) (a b c d e f g h i j : Bool) → p ≡ q → l ≡ m → a ≡ b → c ≡ d → e ≡ f → g ≡ h → i ≡ j
    → ◌≡◌ {A = Reading} (record { pending = p; line = l; asked = a; found = c; refused = e; ended = g; closed = i })
    (record { pending = q; line = m; asked = b; found = d; refused = f; ended = h; closed = j })
same_reading p q l m a b c d e f g h i j v w x y z s t = cc

-- a reader that holds a line asks for no more
pub asks_more : (p q : List ℕ) → (length (first_line q) < length q → p ≡ q) → first_line p ≡ p → length (first_line q) < length q → ⊥
asks_more p q same none h = let e = same h in omega (arith, ap length none, ap length e, ap (λ l. length (first_line l)) e)

-- where a separator begins, it begins from there on
at_by : (at b : ℕ) (bs : List ℕ) (n : ℕ) (t : Bool) → (separator_from (at + 1) (eqb b 10) bs ≡ Some n → at + 1 ≤ n)
    → cond t (Some at) (separator_from (at + 1) (eqb b 10) bs) ≡ Some n → at ≤ n
at_by at b bs n true rest h = let e : at ≡ n = cc in omega arith
at_by at b bs n false rest h = omega (arith, rest h)

pub begins_later : (at : ℕ) (starts : Bool) (bs : List ℕ) (n : ℕ) → separator_from at starts bs ≡ Some n → at ≤ n
begins_later at starts [] n h = absurd (cc)
begins_later at starts (b ∷ bs) n h = at_by at b bs n (starts && is_separator (first_line (b ∷ bs))) (begins_later (at + 1) (eqb b 10) bs n) h

-- a line that is the separator begins where it begins
separator_by : (at : ℕ) (o : Option ℕ) (s t : Bool) → s ≡ true → t ≡ true → cond (s && t) (Some at) o ≡ Some at
separator_by at o true true a b = refl
separator_by at o true false a b = absurd (true≢false (sym b))
separator_by at o false t a b = absurd (true≢false (sym a))

begins_here : (at : ℕ) (starts : Bool) (bs : List ℕ) → starts ≡ true → is_separator (first_line bs) ≡ true → separator_from at starts bs ≡ Some at
begins_here at starts [] s h = absurd (true≢false (sym h))
begins_here at starts (b ∷ bs) s h = separator_by at _ starts (is_separator (first_line (b ∷ bs))) s h

-- ---- the separator

finds : (head p more : List ℕ) (starts ended a r k : Bool) (l : List ℕ) (size : ℕ) (left : Option (List ℕ)) → length head ≤ 1048576 → starts ≡ true → Passes head starts
    → is_separator (first_line (p ++ more)) ≡ true
    → input_of (record { pending = drop size p; line = l; asked = a; found = true; refused = r; ended = ended; closed = k }) left ≡ Some (after_line (p ++ more))
    → (ended ≡ false → length (first_line (p ++ more)) < length (p ++ more))
    → FindsHead (head ++ (p ++ more)) head (record { pending = drop size p; line = l; asked = a; found = true; refused = r; ended = ended; closed = k }) left
unfolding Passes
finds head p more starts ended a r k l size left short s passes is rest whole =
    let behind : drop (length head) (head ++ (p ++ more)) ≡ p ++ more = drop-append_seam head (p ++ more) in
    record {
      place = passes (p ++ more) ∙ begins_here (length head) starts (p ++ more) s is;
      short = short;
      front = ap (λ l. head ++ l) behind;
      rest = rest ∙ ap (λ l. Some (after_line l)) (sym behind);
      whole = λ e. behind ∙ ends_whole (p ++ more) (whole e) ∙ ap (λ l. first_line l ++ 10 ∷ after_line l) (sym behind);
    }

finds_by : (head p : List ℕ) (starts ended a r k : Bool) (l : List ℕ) (size : ℕ) (left : Option (List ℕ)) → length head ≤ 1048576 → Passes head starts → BeginsWithSeparator p starts ended size
    → IfSome (cond ended (Some p) (prepend_known p left))
    (λ rest. FindsHead (head ++ rest) head (record { pending = drop size p; line = l; asked = a; found = true; refused = r; ended = ended; closed = k }) left)
finds_by head p starts true a r k l size left short passes h =
    subst (λ q. FindsHead (head ++ q) head (record { pending = drop size p; line = l; asked = a; found = true; refused = r; ended = true; closed = k }) left) (append-nil p)
    (finds head p [] starts true a r k l size left short h.at_start passes (ap (λ q. is_separator (first_line q)) (append-nil p) ∙ h.line)
    (ap Some (h.rest ∙ ap after_line (sym (append-nil p)))) (λ e. absurd (true≢false e)))
finds_by head p starts false a r k l size None short passes h = tt
finds_by head p starts false a r k l size (Some more) short passes h =
    let first = first_of_more p more (h.whole refl) in
    finds head p more starts false a r k l size (Some more) short h.at_start passes (ap is_separator first ∙ h.line)
    (ap Some (ap (λ q. q ++ more) h.rest ∙ sym (after_of_more p more (h.whole refl))))
    (λ e. omega (arith, ap length first, h.whole refl, length-append p more))

pub takes_separator : (old : Reading) (head : List ℕ) (starts : Bool) (size : ℕ) → length head ≤ 1048576 → BeginsWithSeparator old.pending starts old.ended size
    → Passes head starts → (left : Option (List ℕ)) → IfSome (input_of old left) (λ rest. FindsHead (head ++ rest) head (record old { pending = drop size old.pending; found = true }) left)
takes_separator old head starts size short h passes left = finds_by head old.pending starts old.ended old.asked old.refused old.closed old.line size left short passes h

-- ---- no separator

none_in : (head p : List ℕ) (starts : Bool) → Passes head starts → separator_from (length head) starts p ≡ None → HasNoHead (head ++ p)
unfolding Passes
none_in head p starts passes none = λ at e. let f : None ≡ Some at = sym none ∙ (sym (passes p) ∙ e) in absurd (cc)

last_by : (ended : Bool) (p head : List ℕ) (left : Option (List ℕ)) (P : List ℕ → Type 0) → ended ≡ true → P (head ++ p)
    → IfSome (cond ended (Some p) (prepend_known p left)) (λ rest. P (head ++ rest))
last_by true p head left P e h = h
last_by false p head left P e h = absurd (true≢false (sym e))

pub takes_end : (old : Reading) (head : List ℕ) (starts : Bool) → old.ended ≡ true → ((at : ℕ) → separator_from at starts old.pending ≡ None)
    → Passes head starts → (left : Option (List ℕ)) (P : List ℕ → Type 0) → (HasNoHead (head ++ old.pending) → P (head ++ old.pending)) → IfSome (input_of old left) (λ rest. P (head ++ rest))
takes_end old head starts e none passes left P h = last_by old.ended old.pending head left P e (h (none_in head old.pending starts passes (none (length head))))

far : (head p more : List ℕ) (starts ends : Bool) (size : ℕ) → Passes head starts → BeginsWithText p starts size ends → 1048576 < length head + size
    → HasNoHead (head ++ (p ++ more)) × (1048576 < length (head ++ (p ++ more)))
unfolding Passes
far head p more starts ends size passes t many =
    let split : p ++ more ≡ take size p ++ (drop size p ++ more) = ap (λ q. q ++ more) (sym (take-append-drop size p)) ∙ append_assoc (take size p) (drop size p) more in (
      λ at e.
          let f : separator_from (length head + size) ends (drop size p ++ more) ≡ Some at =
          sym (t.passed (length head) (drop size p ++ more)) ∙ ap (separator_from (length head) starts) (sym split) ∙ sym (passes (p ++ more)) ∙ e in
          let later : length head + size ≤ at = begins_later (length head + size) ends (drop size p ++ more) at f in omega arith,
      omega (arith, length-append head (p ++ more), length-append p more, t.within),
    )

far_by : (ended : Bool) (head p : List ℕ) (starts ends : Bool) (size : ℕ) (left : Option (List ℕ)) → Passes head starts → BeginsWithText p starts size ends → 1048576 < length head + size
    → IfSome (cond ended (Some p) (prepend_known p left)) (λ rest. HasNoHead (head ++ rest) × (1048576 < length (head ++ rest)))
far_by true head p starts ends size left passes t many =
    subst (λ q. HasNoHead (head ++ q) × (1048576 < length (head ++ q))) (append-nil p) (far head p [] starts ends size passes t many)
far_by false head p starts ends size None passes t many = tt
far_by false head p starts ends size (Some more) passes t many = far head p more starts ends size passes t many

pub takes_too_much : (old : Reading) (head : List ℕ) (starts ends : Bool) (size : ℕ) → BeginsWithText old.pending starts size ends → 1048576 < length head + size
    → Passes head starts → (left : Option (List ℕ)) → IfSome (input_of old left) (λ rest. HasNoHead (head ++ rest) × (1048576 < length (head ++ rest)))
takes_too_much old head starts ends size t many passes left = far_by old.ended head old.pending starts ends size left passes t many

-- ---- text

moved_by : (ended : Bool) (head p : List ℕ) (size : ℕ) (left : Option (List ℕ))
    → prepend_known head (cond ended (Some p) (prepend_known p left)) ≡ prepend_known (head ++ take size p) (cond ended (Some (drop size p)) (prepend_known (drop size p) left))
moved_by true head p size left = ap Some (ap (λ q. head ++ q) (sym (take-append-drop size p)) ∙ sym (append_assoc head (take size p) (drop size p)))
moved_by false head p size None = refl
moved_by false head p size (Some more) =
    ap Some (ap (λ q. head ++ (q ++ more)) (sym (take-append-drop size p)) ∙ ap (λ q. head ++ q) (append_assoc (take size p) (drop size p) more) ∙ sym
    (append_assoc head (take size p) (drop size p ++ more)))

passes_on : (head p : List ℕ) (starts ends : Bool) (size : ℕ) → BeginsWithText p starts size ends → Passes head starts → Passes (head ++ take size p) ends
unfolding Passes
passes_on head p starts ends size t passes =
    let count : length (take size p) ≡ size = length-take-le size p t.within in
    λ rest. ap (separator_from 0 true) (append_assoc head (take size p) rest) ∙ passes (take size p ++ rest) ∙ t.passed (length head) rest
    ∙ ap (λ n. separator_from n ends rest) (let e : length head + size ≡ length (head ++ take size p) = omega (arith, length-append head (take size p)) in e)

pub takes_text : (old : Reading) (head : List ℕ) (starts ends : Bool) (size : ℕ) → BeginsWithText old.pending starts size ends → length head + size ≤ 1048576
    → TakesText old head starts (record old { pending = drop size old.pending }) (head ++ take size old.pending) ends
takes_text old head starts ends size t fits =
    let count : length (take size old.pending) ≡ size = length-take-le size old.pending t.within in
    record {
      grown = omega (arith, length-append head (take size old.pending), t.some);
      few = omega (arith, length-append head (take size old.pending));
      moved = λ left. moved_by old.ended head old.pending size left;
      passed = passes_on head old.pending starts ends size t;
      ended = refl;
    }

pub same_text : (old : Reading) (head : List ℕ) (starts ends : Bool) (size : ℕ) (new : Reading) (new_head : List ℕ) → BeginsWithText old.pending starts size ends → length head + size ≤ 1048576
    → new ≡ record old { pending = drop size old.pending } → new_head ≡ head ++ take size old.pending → TakesText old head starts new new_head ends
same_text old head starts ends size new new_head t fits e h =
    subst (λ n. TakesText old head starts n new_head ends) (sym e)
    (subst (λ l. TakesText old head starts (record old { pending = drop size old.pending }) l ends) (sym h) (takes_text old head starts ends size t fits))

-- ---- the end

pub takes_last : (old : Reading) (head : List ℕ) (starts : Bool) (answer : Head) → old.ended ≡ true → ((at : ℕ) → separator_from at starts old.pending ≡ None) → length head ≤ 1048576
    → (length head + length old.pending ≤ 1048576 → answer ≡ Missing) → (1048576 < length head + length old.pending → answer ≡ TooLong)
    → Passes head starts → (left : Option (List ℕ)) → IfSome (input_of old left) (λ rest. HeadIs (head ++ rest) answer head old left)
takes_last old head starts answer e none short few many passes left =
    takes_end old head starts e none passes left (λ bytes. HeadIs bytes answer head old left) (λ no_head. by_size (cases_lt 1048576 (length head + length old.pending)) no_head)
  where
    by_size : (1048576 < length head + length old.pending) ⊎ (length head + length old.pending ≤ 1048576) → HasNoHead (head ++ old.pending) → HeadIs (head ++ old.pending) answer head old left
    by_size (inl h) no_head = subst (λ a. HeadIs (head ++ old.pending) a head old left) (sym (many h)) (no_head, omega (arith, length-append head old.pending))
    by_size (inr h) no_head = subst (λ a. HeadIs (head ++ old.pending) a head old left) (sym (few h)) (no_head, omega (arith, length-append head old.pending))

-- ---- the loop

pub passes_nothing : Passes [] true
unfolding Passes
passes_nothing = λ rest. refl

pub passes_start : (head : List ℕ) → head ≡ [] → Passes head true
passes_start head e = subst (λ h. Passes h true) (sym e) passes_nothing

keeps_start : (a : Option (List ℕ)) → Keeps a (prepend_known [] a)
keeps_start None = tt
keeps_start (Some xs) = refl

pub keeps_head : (a b : Option (List ℕ)) (head : List ℕ) → head ≡ [] → b ≡ a → Keeps a (prepend_known head b)
keeps_head a b head e f = subst (λ h. Keeps a (prepend_known h b)) (sym e) (subst (λ o. Keeps a (prepend_known [] o)) (sym f) (keeps_start a))

pub keeps_more : (a o o' : Option (List ℕ)) (head : List ℕ) → Keeps a (prepend_known head o) → Keeps o o' → Keeps a (prepend_known head o')
keeps_more None o o' head k m = tt
keeps_more (Some bytes) None o' head k m = absurd k
keeps_more (Some bytes) (Some rest) None head k m = absurd m
keeps_more (Some bytes) (Some rest) (Some rest') head k m = ap (λ l. head ++ l) m ∙ k

-- in a part of a line a separator begins at its start alone
only_here : (at : ℕ) (starts : Bool) (p : List ℕ) (n : ℕ) → first_line p ≡ p → separator_from at starts p ≡ Some n → n ≡ at
only_here at starts [] n whole h = absurd (cc)
only_here at starts (b ∷ bs) n whole h = here_by at b bs n (starts && is_separator (first_line (b ∷ bs))) whole h
  where
    here_by : (at b : ℕ) (bs : List ℕ) (n : ℕ) (t : Bool) → first_line (b ∷ bs) ≡ b ∷ bs → cond t (Some at) (separator_from (at + 1) (eqb b 10) bs) ≡ Some n → n ≡ at
    here_by at b bs n true whole h = let e : at ≡ n = cc in sym e
    here_by at b bs n false whole h =
        let t = no_ten b bs whole in
        let none : separator_from (at + 1) (eqb b 10) bs ≡ None = ap (λ s. separator_from (at + 1) s bs) t.0 ∙ ap (separator_from (at + 1) false) (sym (append-nil bs)) ∙ skip (at + 1) bs [] t.1 in
        let f : None ≡ Some n = sym none ∙ h in absurd (cc)

fault_by : (ended : Bool) (a left : Option (List ℕ)) (head p : List ℕ) (starts : Bool) → ended ≡ false → Passes head starts → first_line p ≡ p
    → Keeps a (prepend_known head (cond ended (Some p) (prepend_known p left))) → IfSome a (λ bytes. TakesNoHead bytes left)
unfolding Passes
fault_by true a left head p starts e passes none k = absurd (true≢false e)
fault_by false None left head p starts e passes none k = tt
fault_by false (Some bytes) None head p starts e passes none k = absurd k
fault_by false (Some bytes) (Some others) head p starts e passes none k =
    record {
      taken = head ++ p;
      others = others;
      split = append_assoc head p others ∙ k;
      is_left = refl;
      none = λ at h. let n : at ≡ length head = only_here (length head) starts p at none (sym (passes p) ∙ h) in
          let behind : drop at (head ++ p) ≡ p = ap (λ m. drop m (head ++ p)) n ∙ drop-append_seam head p in
          ap first_line behind ∙ none ∙ sym behind;
    }

pub head_fault : (new : Reading) (a left : Option (List ℕ)) (head : List ℕ) (starts : Bool) → new.ended ≡ false → Passes head starts → first_line new.pending ≡ new.pending
    → Keeps a (prepend_known head (input_of new left)) → IfSome a (λ bytes. TakesNoHead bytes left)
head_fault new a left head starts e passes none k = fault_by new.ended a left head new.pending starts e passes none k

pub on_err : {T E P : Type 0} (r : Result T E) → P → OnErr r P
on_err (Ok x) p = tt
on_err (Err e) p = p

pub from_err : {T E P : Type 0} (r : Result T E) → is_err r ≡ true → OnErr r P → P
from_err (Ok x) e p = absurd (true≢false (sym e))
from_err (Err x) e p = p

pub head_fault_after : (old mid new : Reading) (head new_head : List ℕ) (starts : Bool) (a left new_left : Option (List ℕ)) → TakesNothing old head mid new_head
    → Keeps a (prepend_known head (input_of old left)) → Passes head starts
    → Keeps (input_of mid left) (input_of new new_left) → new.pending ≡ mid.pending → new.ended ≡ false → IfSome a (λ bytes. TakesNoHead bytes new_left)
head_fault_after old mid new head new_head starts a left new_left t k passes m same e =
    let none : first_line new.pending ≡ new.pending = subst (λ p. first_line p ≡ p) (sym (same ∙ ap (λ r. r.pending) t.same)) t.none_whole in
    head_fault new a new_left head starts e passes none
    (keeps_more a (input_of old left) (input_of new new_left) head k (subst (λ r. Keeps (input_of r left) (input_of new new_left)) t.same m))
