-- The stretch from an item's first place to its last.
use Rattle.std.proofs.Common.{◌≡◌, ℕ, zero, suc, ◌+◌, ◌-◌, ◌<◌, ◌≤◌, nat_lt, cond, if◌then◌else◌, Bool, true, false, ◌&&◌, List, length, get_or, None, Some, unwrap_or, refl, ap, ◌∙◌, subst, arith}
use Rattle.std.specs.Prelude.{position}
use Rattle.std.specs.List.{position_or_len}
use Rattle.std.proofs.lemmas.List.Sums.{fails_before_first}
use borrow.Author.Tests.{ltb-true}
use Rattle.rl_model.specs.Rows.{ChipData}
use Rattle.rl_model.specs.declared.rows.Item.{Item}
use Rattle.rl_map.specs.Links.{IsLast}
use Rattle.rl_map.specs.Layout.{LayoutData, no_place, place_of, same_item, is_in}
use Rattle.rl_seq.specs.declared.sequence.Sequence.{Sequence}
use Rattle.rl_seq.specs.Choice.{is_of, count_below}
use Rattle.rl_seq.specs.Plan.{stop}
use Rattle.rl_seq.specs.Sequences.{item_of, has_rights, is_visited, at_place, visit}
use Rattle.rl_seq.proofs.Turning.{left_out}

fails_before : {X : Type 0} (p : X → Bool) (xs : List X) (k : ℕ) (d : X) → k < unwrap_or (position p xs) 0 → p (get_or xs k d) ≡ false
fails_before p xs k d low = by (nat_lt (position_or_len p xs) (length xs)) low
  where
    by : (b : Bool) → k < unwrap_or (cond b (Some (position_or_len p xs)) None) 0 → p (get_or xs k d) ≡ false
    by true h = fails_before_first p xs k d h
    by false h = absurd (omega (arith, h))

found_within : {X : Type 0} (p : X → Bool) (xs : List X) → unwrap_or (position p xs) 0 ≤ length xs
found_within p xs = by (nat_lt (position_or_len p xs) (length xs)) refl
  where
    by : (b : Bool) → nat_lt (position_or_len p xs) (length xs) ≡ b → unwrap_or (cond b (Some (position_or_len p xs)) None) 0 ≤ length xs
    by true e = let low = ltb-true (position_or_len p xs) (length xs) e in omega (arith, low)
    by false e = omega arith

left_false : (b : Bool) → (b && true) ≡ false → b ≡ false
left_false true e = e
left_false false e = refl

-- no place before the first is the item's
pub none_before : (l : LayoutData) (item : Item) (first k : ℕ) → first ≡ unwrap_or (place_of l item None) 0 → k < first → is_of l k item ≡ false
none_before l item first k is low =
    left_false (is_of l k item)
    (fails_before (λ p. same_item p.item item && is_in None p.map) l.places k no_place (omega (arith, is, low)))

pub first_within : (l : LayoutData) (item : Item) (first : ℕ) → first ≡ unwrap_or (place_of l item None) 0 → first ≤ length l.places
first_within l item first is =
    let most = found_within (λ p. same_item p.item item && is_in None p.map) l.places in
    omega (arith, is, most)

-- a place that isn't the item's has no plan
pub no_visit : (which : Sequence) (c : ChipData) (l : LayoutData) (number k : ℕ) → is_of l k (item_of which number) ≡ false
    → visit which c l number k ≡ stop
no_visit which c l number k other =
    left_out (is_visited which l number k) (at_place which c l number k) (ap (λ b. b && has_rights which l k) other)

-- between them stand all places that the sequence visits
pub record IsStretch (which : Sequence) (c : ChipData) (l : LayoutData) (number first end : ℕ) : Type 0 where
  pub first_in : first ≤ length l.places
  pub end_in : end ≤ length l.places
  pub before : (k : ℕ) → k < first → visit which c l number k ≡ stop
  pub behind : (k : ℕ) → end ≤ k → k < length l.places → visit which c l number k ≡ stop

pub stretch : (which : Sequence) (c : ChipData) (l y z : LayoutData) (number first end : ℕ) (item : Item) → item ≡ item_of which number → y ≡ l → z ≡ l
    → first ≡ unwrap_or (place_of y item None) 0 → IsLast z.places (length z.places) item end → IsStretch which c l number first end
stretch which c l y z number first end item item_is y_is z_is first_is last_is =
    let begins : first ≡ unwrap_or (place_of l (item_of which number) None) 0 =
    first_is ∙ ap (λ v. unwrap_or (place_of v item None) 0) y_is ∙ ap (λ i. unwrap_or (place_of l i None) 0) item_is in
    let ends : IsLast l.places (length l.places) (item_of which number) end =
    subst (λ i. IsLast l.places (length l.places) i end) item_is (subst (λ v. IsLast v.places (length v.places) item end) z_is last_is) in
    record {
      first_in = first_within l (item_of which number) first begins;
      end_in = ends.most;
      before = λ k low. no_visit which c l number k (none_before l (item_of which number) first k begins low);
      behind = λ k from low. no_visit which c l number k (ends.none k from low);
    }

-- places that aren't the item's add nothing to a count
none_more : (p : ℕ → Bool) (i gap : ℕ) → ((k : ℕ) → i ≤ k → k < i + gap → p k ≡ false) → count_below (i + gap) p ≡ count_below i p
none_more p i zero none = ap (λ n. count_below n p) (let e : i + 0 ≡ i = omega arith in e)
none_more p i (suc gap) none =
    let last : p (i + gap) ≡ false = none (i + gap) (omega arith) (omega arith) in
    let one : count_below (suc (i + gap)) p ≡ count_below (i + gap) p + 0 = ap (λ b. count_below (i + gap) p + (if b then 1 else 0)) last in
    ap (λ n. count_below n p) (let e : i + suc gap ≡ suc (i + gap) = omega arith in e) ∙ one
    ∙ (let e : count_below (i + gap) p + 0 ≡ count_below (i + gap) p = omega arith in e)
    ∙ none_more p i gap (λ k from low. none k from (omega (arith, low)))

pub none_counted : (p : ℕ → Bool) (i n : ℕ) → i ≤ n → ((k : ℕ) → i ≤ k → k < n → p k ≡ false) → count_below n p ≡ count_below i p
none_counted p i n low none =
    ap (λ k. count_below k p) (let e : n ≡ i + (n - i) = omega (arith, low) in e)
    ∙ none_more p i (n - i) (λ k from under. none k from (omega (arith, low, under)))
