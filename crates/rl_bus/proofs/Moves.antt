-- One of the adapters is moved on.
use Rattle.std.proofs.Common.{◌≡◌, ℕ, ◌<◌, List, length, map, set, get_or, ap, sym, ◌∙◌, refl}
use Rattle.std.proofs.lemmas.List.{map-set, get_or-map, length-map}
use Rattle.std.proofs.Math.Seq.{map-set_same}
use Rattle.rl_bus.specs.declared.op.Answer.{Answer}
use Rattle.rl_bus.specs.declared.op.BusOp.{BusOp}
use Rattle.rl_bus.specs.Standing.{Standing, nobody, took, standing_at, moved_on, kind_in, kind_at, kinds_of, no_kind}

-- what stands for an adapter is replaced along with it
pub moved_one : {A : Type 0} (f : A → Standing) (xs : List A) (k : ℕ) (was new : A) (op : BusOp) (answer : Answer) → k < length (map f xs) → was ≡ get_or xs k was → f new ≡ took (f was) op answer →
    map f (set xs k new) ≡ moved_on (map f xs) k op answer
moved_one f xs k was new op answer inside is e =
    let within : k < length xs = rw length-map at inside in
    let at : get_or (map f xs) k nobody ≡ f was = get_or-map f xs k was nobody within ∙ sym (ap f is) in
    map-set f xs k new ∙ ap (λ s. set (map f xs) k s) (e ∙ ap (λ s. took s op answer) (sym at))

-- what was read stands at its place
pub read_one : {A : Type 0} (f : A → Standing) (xs : List A) (k : ℕ) (was : A) → k < length xs → was ≡ get_or xs k was → standing_at (map f xs) k ≡ f was
read_one f xs k was within is = get_or-map f xs k was nobody within ∙ sym (ap f is)

-- an item leaves each adapter's kind
pub kinds-moved_on : (all : List Standing) (which : ℕ) (op : BusOp) (answer : Answer) → map kind_in (moved_on all which op answer) ≡ map kind_in all
kinds-moved_on all which op answer = map-set_same kind_in all which (took (standing_at all which) op answer) nobody refl

-- the kind of what was read stands at its place among the kinds
pub read_kind : {A : Type 0} (f : A → Standing) (xs : List A) (k : ℕ) (was : A) → k < length (map f xs) → was ≡ get_or xs k was → kind_at (kinds_of (map f xs)) k ≡ (f was).kind
read_kind f xs k was within is = get_or-map kind_in (map f xs) k nobody no_kind within ∙ ap (λ s. s.kind) (read_one f xs k was (rw length-map at within) is)

-- an item leaves the kinds, where one adapter is replaced by one of its kind
pub same_kinds : {A : Type 0} (f : A → Standing) (xs : List A) (k : ℕ) (was new : A) (op : BusOp) (answer : Answer) → k < length (map f xs) → was ≡ get_or xs k was → f new ≡ took (f was) op answer →
    kinds_of (map f (set xs k new)) ≡ kinds_of (map f xs)
same_kinds f xs k was new op answer within is e = ap kinds_of (moved_one f xs k was new op answer within is e) ∙ kinds-moved_on (map f xs) k op answer
