-- A find is the first event that shows more.
use Rattle.std.proofs.Common.{◌≡◌, ℕ, ◌<◌, zero, suc, Bool, true, false, List, [], ◌∷◌, drop, get_or, Option, Some, None, refl, sym, ap, subst, ◌∙◌, arith}
use Rattle.std.specs.Prelude.{slice_get}
use Rattle.rl_grade.specs.declared.seen.Find.{Find}
use Rattle.rl_grade.specs.declared.seen.Seen.{Seen}
use Rattle.rl_grade.specs.Find.{beside, first_find, front, new_in, seen_of, shows}
use Rattle.rl_grade.specs.First.{FindIsFirst, IsAnswer, IsFirstMore, ShowsNoMore, more_than, seen_at}
use Rattle.rl_grade.specs.Heard.{Heard}
use Rattle.rl_grade.proofs.Finding.{find_of, found_here, none_left, passed_on}

front_at : (base : List Seen) → front base ≡ seen_at base 0
front_at [] = refl
front_at (s ∷ base) = refl

behind_at : (base : List Seen) (k : ℕ) → seen_at (drop 1 base) k ≡ seen_at base (suc k)
behind_at [] k = refl
behind_at (s ∷ base) k = refl

new_at : (base : List Seen) (h : Heard) → new_in base h.told.event ≡ more_than base 0 h
new_at base h = ap (beside (seen_of h.told.event)) (front_at base)

none_now : (base : List Seen) (h : Heard) (heard : List Heard) → shows (new_in base h.told.event) ≡ false
    → (k : ℕ) → ShowsNoMore (drop 1 base) heard k → ShowsNoMore base (h ∷ heard) (suc k)
none_now base h heard quiet k rest e at = ap (λ s. shows (beside (seen_of e.told.event) s)) (sym (behind_at base k)) ∙ rest e at

none_here : (base : List Seen) (h : Heard) (heard : List Heard) → shows (new_in base h.told.event) ≡ false → ShowsNoMore base (h ∷ heard) 0
none_here base h heard quiet e at =
    let same : h ≡ e = cc in
    ap (λ (x : Heard). shows (more_than base 0 x)) (sym same) ∙ ap shows (sym (new_at base h)) ∙ quiet

none_after : (base : List Seen) (h : Heard) (heard : List Heard) → shows (new_in base h.told.event) ≡ false
    → ((k : ℕ) → ShowsNoMore (drop 1 base) heard k) → (k : ℕ) → ShowsNoMore base (h ∷ heard) k
none_after base h heard quiet rest zero = none_here base h heard quiet
none_after base h heard quiet rest (suc k) = none_now base h heard quiet k (rest k)

none_until : (base : List Seen) (h : Heard) (heard : List Heard) → shows (new_in base h.told.event) ≡ false
    → (last : ℕ) → ((k : ℕ) → k < last → ShowsNoMore (drop 1 base) heard k) → (k : ℕ) → k < suc last → ShowsNoMore base (h ∷ heard) k
none_until base h heard quiet last rest zero low = none_here base h heard quiet
none_until base h heard quiet last rest (suc k) low = none_now base h heard quiet k (rest k (omega (arith, low)))

goes_on : (base : List Seen) (h : Heard) (heard : List Heard) (o : Option Find) → shows (new_in base h.told.event) ≡ false
    → IsAnswer (drop 1 base) heard o → IsAnswer base (h ∷ heard) o
goes_on base h heard None quiet rest = none_after base h heard quiet rest
goes_on base h heard (Some find) quiet rest = record {
  k = suc rest.k;
  event = rest.event;
  there = rest.there;
  more = ap (λ s. shows (beside (seen_of rest.event.told.event) s)) (sym (behind_at base rest.k)) ∙ rest.more;
  none_before = none_until base h heard quiet rest.k rest.none_before;
  is = rest.is
      ∙ ap (λ s. let f : Find = record { line = rest.event.line; op = rest.event.told.event.op; new = beside (seen_of rest.event.told.event) s } in f) (behind_at base rest.k);
}

first_here : (base : List Seen) (h : Heard) (heard : List Heard) → shows (new_in base h.told.event) ≡ true
    → IsFirstMore base (h ∷ heard) (find_of base h)
first_here base h heard more = record {
  k = 0;
  event = h;
  there = refl;
  more = ap shows (sym (new_at base h)) ∙ more;
  none_before = λ j low. absurd (omega (arith, low));
  is = ap (λ s. let f : Find = record { line = h.line; op = h.told.event.op; new = s } in f) (new_at base h);
}

by_first : (base : List Seen) (h : Heard) (heard : List Heard) (b : Bool) → shows (new_in base h.told.event) ≡ b
    → IsAnswer (drop 1 base) heard (first_find (drop 1 base) heard) → IsAnswer base (h ∷ heard) (first_find base (h ∷ heard))
by_first base h heard true more rest = subst (IsAnswer base (h ∷ heard)) (sym (found_here base h heard more)) (first_here base h heard more)
by_first base h heard false quiet rest =
    subst (IsAnswer base (h ∷ heard)) (sym (passed_on base h heard quiet)) (goes_on base h heard (first_find (drop 1 base) heard) quiet rest)

pub find_is_first : FindIsFirst
find_is_first base [] = subst (IsAnswer base []) (sym (none_left base)) (λ k e at. absurd cc)
find_is_first base (h ∷ heard) = by_first base h heard (shows (new_in base h.told.event)) refl (find_is_first (drop 1 base) heard)
