-- Every operation of a sequence has its numbers.
use Rattle.std.proofs.Common.{ℕ, zero, suc, ◌*◌, ◌<◌, Bool, true, false, length, Option, arith}
use Rattle.rl_model.specs.Chip.{IsSound as IsSoundChip}
use Rattle.rl_model.specs.Fields.{size_of}
use Rattle.rl_model.specs.Rows.{ChipData}
use Rattle.rl_map.specs.Layout.{LayoutData, IsSound}
use Rattle.rl_access.specs.Rules.{memory_size}
use Rattle.rl_seq.specs.declared.sequence.Sequence.{Sequence}
use Rattle.rl_seq.specs.declared.sequence.Sequence.TheVariants.{HwReset, BitBash, Access, Shared, MemWalk}
use Rattle.rl_seq.specs.Choice.{is_bit_compared}
use Rattle.rl_seq.specs.Plan.{Plan, stop, step, look, followed_by, only_if, each_below}
use Rattle.rl_seq.specs.Sequences.{map_at, check_at, bash_once, bash_bit, check_other, fill, check_filled}
use Rattle.rl_seq.specs.Sequences.{settle_before, check_last, walk_location, items_of, at_place, visit, visit_all, walk, beginning_of}
use Rattle.rl_plain.specs.Calls.{PlanHasNumbers, PlansHaveNumbers}

-- ---- plans of plans

followed : (c : ChipData) (l : LayoutData) (p q : Plan) → PlanHasNumbers c l p → PlanHasNumbers c l q → PlanHasNumbers c l (followed_by p q)
followed c l stop q h k = k
followed c l (step op p) q h k = (h.0, followed c l p q h.1 k)
followed c l (look f) q h k = λ m chip layout. followed c l (f m) q (h m chip layout) k

chosen : (c : ChipData) (l : LayoutData) (b : Bool) (p : Plan) → PlanHasNumbers c l p → PlanHasNumbers c l (only_if b p)
chosen c l true p h = h
chosen c l false p h = tt

each : (c : ChipData) (l : LayoutData) (n : ℕ) (f : ℕ → Plan) → ((k : ℕ) → k < n → PlanHasNumbers c l (f k)) → PlanHasNumbers c l (each_below n f)
each c l zero f h = tt
each c l (suc n) f h = followed c l (each_below n f) (f n) (each c l n f (λ k below. h k (omega (arith, below)))) (h n (omega arith))

-- ---- what a sequence does at a place

-- a place has a map of the layout
in_map : (l : LayoutData) (place : ℕ) → IsSound l → place < length l.places → map_at l place < length l.maps
in_map l place ok inside = (ok.each_place place inside).map

bashed : (c : ChipData) (l : LayoutData) (reg map bit : ℕ) → reg < length c.regs → map < length l.maps → PlanHasNumbers c l (bash_bit c reg map bit)
bashed c l reg map bit inside in_map =
    let once : PlanHasNumbers c l (bash_once reg map bit) = λ m chip layout. ((inside, in_map), ((inside, in_map), tt)) in
    chosen c l (is_bit_compared c reg bit) (followed_by (bash_once reg map bit) (bash_once reg map bit))
    (followed c l (bash_once reg map bit) (bash_once reg map bit) once once)

before : (c : ChipData) (l : LayoutData) (mem map k : ℕ) → mem < length c.mems → map < length l.maps → PlanHasNumbers c l (settle_before c mem map k)
before c l mem map zero inside in_map = tt
before c l mem map (suc k) inside in_map = ((inside, in_map), ((inside, in_map), tt))

walked : (c : ChipData) (l : LayoutData) (mem map k : ℕ) → mem < length c.mems → map < length l.maps → PlanHasNumbers c l (walk_location c mem map k)
walked c l mem map k inside in_map =
    followed c l (fill c mem map k) (followed_by (settle_before c mem map k) (check_last c mem map k)) ((inside, in_map), tt)
    (followed c l (settle_before c mem map k) (check_last c mem map k) (before c l mem map k inside in_map) (chosen c l _ (check_filled c mem map k) ((inside, in_map), tt)))

at_place_numbers : (which : Sequence) (c : ChipData) (l : LayoutData) (number place : ℕ) → IsSound l → number < items_of which c → place < length l.places
    → PlanHasNumbers c l (at_place which c l number place)
at_place_numbers HwReset c l reg place ok inside there = ((inside, in_map l place ok there), tt)
at_place_numbers BitBash c l reg place ok inside there =
    each c l (8 * size_of c reg) (bash_bit c reg (map_at l place)) (λ bit low. bashed c l reg (map_at l place) bit inside (in_map l place ok there))
at_place_numbers Access c l reg place ok inside there =
    let map = in_map l place ok there in
    λ m chip layout. ((inside, map), (inside, (inside, ((inside, map), tt))))
at_place_numbers Shared c l reg place ok inside there =
    λ m chip layout. (
      (inside, in_map l place ok there),
      each c l (length l.places) (check_other l reg place) (λ other here. chosen c l _ (check_at l reg other) ((inside, in_map l other ok here), tt)),
    )
at_place_numbers MemWalk c l mem place ok inside there =
    each c l (memory_size c mem) (walk_location c mem (map_at l place)) (λ k low. walked c l mem (map_at l place) k inside (in_map l place ok there))

-- ---- the sequences

numbers : (which : Sequence) (c : ChipData) (l : LayoutData) (block : Option ℕ) → IsSound l → PlanHasNumbers c l (walk which c l block)
numbers which c l block ok =
    each c l (items_of which c) (visit_all which c l block)
    (λ number inside. chosen c l _ (each_below (length l.places) (visit which c l number))
    (each c l (length l.places) (visit which c l number)
    (λ place there. chosen c l _ (at_place which c l number place) (at_place_numbers which c l number place ok inside there))))

begun : (which : Sequence) (c : ChipData) (l : LayoutData) → IsSoundChip c → PlanHasNumbers c l (beginning_of which)
begun HwReset c l sound = (omega (arith, sound.two_kinds), tt)
begun BitBash c l sound = tt
begun Access c l sound = tt
begun Shared c l sound = tt
begun MemWalk c l sound = tt

pub plans_have_numbers : PlansHaveNumbers
plans_have_numbers which c l block sound ok = followed c l (beginning_of which) (walk which c l block) (begun which c l sound) (numbers which c l block ok)
