-- A line joins its group.
use Rattle.std.proofs.Common.{◌≡◌, ℕ, suc, ◌<◌, Bool, true, false, cond, ltb, List, [], ◌∷◌, ◌++◌}
use Rattle.std.proofs.Common.{length, get_or, map, All, Option, Some, None, Result, Ok, Err, unwrap_or, refl, sym, ap, ◌∙◌, subst, arith}
use Rattle.std.proofs.lemmas.Bool.Decides.{nat_tests}
use Rattle.std.proofs.lemmas.List.{get_or_push, get_or_append_left, map-append}
use Rattle.std.proofs.lemmas.List.Elements.{All-push, All-nil}
use Rattle.rl_map.specs.Layout.{words_of}
use Rattle.rl_access.specs.declared.event.Op.{Op}
use Rattle.rl_access.specs.declared.event.Op.TheVariants as op
use Rattle.rl_access.specs.Event.{ItemFits}
use Rattle.rl_access.specs.Model.{ModelData, IsModel}
use Rattle.rl_access.specs.Rules.{Grant, grant}
use Rattle.rl_access.proofs.Whole.{first_of_place}
use Rattle.rl_log.specs.Named.{op_named}
use Rattle.rl_log.proofs.Numbers.{op_numbers}
use Rattle.rl_script.specs.declared.line.Line.{Line}
use Rattle.rl_weave.specs.declared.access.Access.{Access}
use Rattle.rl_weave.specs.declared.access.WeaveFault.{WeaveFault}
use Rattle.rl_weave.specs.declared.access.WeaveFault.TheVariants.{TooMany}
use Rattle.rl_weave.specs.declared.woven.Woven.{Woven}
use Rattle.rl_weave.specs.Access.{op_of, no_woven, IsNumbered, IsWovenOn}
use Rattle.rl_weave.specs.Weave.{WeaveData, IsWeave, IsWeaveOn, adding, empty, number_apart, number_granted, number_of, place_granted, place_used, same_register, woven_of}
use Rattle.rl_weave.proofs.Granted.{granted_is}
use Rattle.rl_weave.proofs.Weaves.{none_has, weave_appended}
use Rattle.rl_weave_laws.specs.Order.{added}
use Rattle.rl_weave_laws.specs.Runs.{op_at}
use Rattle.rl_weave_log.specs.declared.refusal.WovenRefusal.{WovenRefusal}
use Rattle.rl_weave_log.specs.Adding.{access_named, access_said, adding_line, is_named, with_access, with_number}
use Rattle.rl_weave_laws.specs.Groups.{IsGathered}

-- ---- a group that is read

pub record IsGroup (m : ModelData) (w : WeaveData) : Type 0 where
  pub weave : IsWeave w
  pub on : IsWeaveOn m w
  pub unsent : All (λ v. v.items ≡ []) w.accesses

pub group_gathered : (m : ModelData) (w : WeaveData) → IsGroup m w → IsGathered m w
group_gathered m w h = record {
  weave = h.weave;
  on = h.on;
  unsent = λ i there. h.unsent i no_woven (subst (λ n. n < length w.accesses) there.2 (h.weave.left there.0 i there.1).inside);
}

none_in : {X : Type 0} (P : X → Type 0) → All P []
none_in P k d low = absurd (omega (arith, low))

pub none_grouped : (m : ModelData) → IsGroup m empty
none_grouped m = record {
  weave = record {
    few = omega arith;
    apart = λ i j d low high. absurd (omega (arith, high));
    few_open = omega arith;
    in_order = λ i j d low high. absurd (omega (arith, high));
    left = none_in _;
    unsent = λ _. record { all_open = refl; no_items = none_in _ };
  };
  on = none_in _;
  unsent = none_in _;
}

-- ---- what was found of an access that is added

record IsAdded (m : ModelData) (w : WeaveData) (a : Access) : Type 0 where
  room : length w.accesses < 64
  place : ℕ
  granted : grant m (op_of a) ≡ Ok place
  apart : same_register w a.reg ≡ None

by_same : (w : WeaveData) (o : Option ℕ) (n : ℕ) → number_apart w o ≡ Ok n → o ≡ None
by_same w None n e = refl
by_same w (Some other) n e = absurd cc

by_grant : (m : ModelData) (w : WeaveData) (a : Access) (n : ℕ) (g : Grant) → length w.accesses < 64
    → grant m (op_of a) ≡ g → number_granted w a.reg (place_granted g) ≡ Ok n → IsAdded m w a
by_grant m w a n (Ok place) room is e =
    record { room = room; place = place; granted = is; apart = by_same w (same_register w a.reg) n e }
by_grant m w a n (Err why) room is e = absurd cc

has_room : (w : WeaveData) (m : ModelData) (a : Access) (n : ℕ) → number_of w m a ≡ Ok n → ltb (length w.accesses) 64 ≡ true
has_room w m a n e = by (ltb (length w.accesses) 64) e
  where
    by : (t : Bool)
        → cond t (number_granted w a.reg (place_granted (grant m (op_of a)))) (Err TooMany) ≡ Ok n → t ≡ true
    by true f = refl
    by false f = absurd cc

is_added : (m : ModelData) (w : WeaveData) (a : Access) (n : ℕ) → number_of w m a ≡ Ok n → IsAdded m w a
is_added m w a n e =
    let room = has_room w m a n e in
    by_grant m w a n (grant m (op_of a)) (grind (arith, nat_tests, room)) refl
    (sym (ap (λ t. cond t (number_granted w a.reg (place_granted (grant m (op_of a)))) (Err TooMany)) room) ∙ e)

used_is : (m : ModelData) (a : Access) (place : ℕ) → grant m (op_of a) ≡ Ok place → place_used m a ≡ place
used_is m a place e = ap (λ o. unwrap_or o 0) (granted_is m a.reg a.map a.value place e).found

pub group_joined : (m : ModelData) (w : WeaveData) (a : Access) (n : ℕ) → IsModel m → IsGroup m w → IsNumbered m a
    → number_of w m a ≡ Ok n → IsGroup m (adding w m a)
group_joined m w a n sound h numbers e =
    let v = woven_of m a in
    let found = is_added m w a n e in
    let used = used_is m a found.place found.granted in
    let at = granted_is m a.reg a.map a.value found.place found.granted in
    let some : 0 < length (words_of m.layout found.place 0) =
    (sound.layout.each_location found.place 0 (first_of_place m.layout found.place sound.layout at.there.inside)).some in
    let short : 0 < v.words = subst (λ p. 0 < length (words_of m.layout p 0)) (sym used) some in
    let one : IsWovenOn m v = record {
      numbers = numbers;
      granted = found.granted ∙ ap Ok (sym used);
      words = refl;
      items = All-nil (ItemFits m.layout);
    } in
    record {
      weave = weave_appended w v h.weave found.room (none_has a.reg w.accesses found.apart) short refl;
      on = All-push (IsWovenOn m) w.accesses v h.on one;
      unsent = All-push (λ u. u.items ≡ []) w.accesses v h.unsent refl;
    }

-- ---- its operation is the last one

map_inside : (f g : ℕ → Op) (xs : List ℕ) → All (λ i. f i ≡ g i) xs → map f xs ≡ map g xs
map_inside f g [] each = refl
map_inside f g (x ∷ xs) each =
    ap (λ o. o ∷ map f xs) (each 0 x (omega arith))
    ∙ ap (λ os. g x ∷ os) (map_inside f g xs (λ k d low. each (suc k) d (omega (arith, low))))

pub added_joined : (m : ModelData) (w : WeaveData) (a : Access) → IsWeave w → added (adding w m a) ≡ added w ++ op_of a ∷ []
added_joined m w a ok =
    let v = woven_of m a in
    let later = adding w m a in
    let n = length w.accesses in
    map-append (op_at later) w.still_open (n ∷ [])
    ∙ ap (λ os. os ++ op_at later n ∷ []) (map_inside (op_at later) (op_at w) w.still_open
    (λ k d low. ap (λ (u : Woven). op_of u.access) (get_or_append_left w.accesses (v ∷ []) no_woven (get_or w.still_open k d) (ok.left k d low).inside)))
    ∙ ap (λ (u : Woven). added w ++ op_of u.access ∷ []) (get_or_push w.accesses v no_woven n refl)

-- ---- the access that a line says

pub record JoinsBy (m : ModelData) (w : WeaveData) (line : Line) (later : WeaveData) : Type 0 where
  pub access : Access
  pub named : op_named m line ≡ Some (op_of access)
  pub number : ℕ
  pub number_is : number_of w m access ≡ Ok number
  pub later_is : later ≡ adding w m access

ok_is : {X E : Type 0} {x y : X} → (let r : Result X E = Ok x in r ≡ Ok y) → x ≡ y
ok_is e = cc

op_said : (t : Bool) (o : Option Op) (a : Access) (why : WovenRefusal) → cond t (access_named o) (Err why) ≡ Ok a
    → o ≡ Some (op_of a)
op_said true (Some (op.OtherWrite reg map value)) a why e = ap (λ (b : Access). Some (op_of b)) (ok_is e)
op_said true (Some (op.OtherRead reg map)) a why e = ap (λ (b : Access). Some (op_of b)) (ok_is e)
op_said true (Some _) a why e = absurd (cc)
op_said true None a why e = absurd (cc)
op_said false o a why e = absurd (cc)

with_said : (m : ModelData) (w later : WeaveData) (line : Line) (a : Access) (r : Result ℕ WeaveFault)
    → access_said m line ≡ Ok a → number_of w m a ≡ r → with_number w m a r ≡ Ok later → JoinsBy m w line later
with_said m w later line a (Ok n) said is e = record {
  access = a;
  named = op_said (is_named m line) (op_named m line) a _ said;
  number = n;
  number_is = is;
  later_is = sym (ok_is e);
}
with_said m w later line a (Err fault) said is e = absurd (cc)

by_said : (m : ModelData) (w later : WeaveData) (line : Line) (r : Result Access WovenRefusal) → access_said m line ≡ r
    → with_access w m r ≡ Ok later → JoinsBy m w line later
by_said m w later line (Ok a) said e = with_said m w later line a (number_of w m a) said refl e
by_said m w later line (Err why) said e = absurd (cc)

pub joins_by : (m : ModelData) (w later : WeaveData) (line : Line) → adding_line w m line ≡ Ok later → JoinsBy m w line later
joins_by m w later line e = by_said m w later line (access_said m line) refl e

pub numbers_said : (m : ModelData) (w : WeaveData) (line : Line) (later : WeaveData) (h : JoinsBy m w line later)
    → IsNumbered m h.access
numbers_said m w line later h = op_numbers m line (op_of h.access) h.named
