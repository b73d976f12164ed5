-- The parts of a turn do what the plan of the turn says, and the turns at a place what the plan of the place says.
use Rattle.std.proofs.Common.{◌≡◌, ℕ, zero, suc, ◌+◌, ◌-◌, ◌<◌, ◌≤◌, Bool, true, false, if◌then◌else◌, length, Option, None, Some, IfSome, Result, Ok, refl, sym, ap, subst, ◌∙◌, add-one, arith}
use Rattle.rl_map.specs.Layout.{LayoutData}
use Rattle.rl_model.specs.Rows.{ChipData}
use Rattle.rl_mirror.specs.Mirror.{mirrored_of}
use Rattle.rl_access.specs.Model.{ModelData, IsReady, IsSameChip}
use Rattle.rl_access.specs.declared.event.Op.{Op}
use Rattle.rl_access.specs.declared.event.Tally.{Tally}
use Rattle.rl_access.specs.declared.recorder.Recorder.{Ghosts as Recorder}
use Rattle.rl_seq.specs.declared.sequence.Sequence.{Sequence}
use Rattle.rl_seq.specs.declared.sequence.Sequence.TheVariants as sequence
use Rattle.rl_seq.specs.declared.visit.Visit.{Visit}
use Rattle.rl_seq.specs.declared.visit.Visit.TheVariants.{Check, Bash, Access, Share, Walk}
use Rattle.rl_seq.specs.Choice.{is_bit_compared}
use Rattle.rl_seq.specs.Plan.{Plan, stop, step, look, followed_by, only_if, each_below}
use Rattle.rl_seq.specs.Sequences.{items_of, map_at, bash_once, access_with, write_turned, check_other, walk_location, is_chosen, is_visited, at_place, visit, visit_all}
use Rattle.rl_seq.specs.Stage.{Stage, Follows}
use Rattle.rl_seq.specs.Visits.{visit_of, turn_of, turns, parts_of, part_of}
use Rattle.rl_seq.proofs.Planned.{Alike, alike_same, alike_step, alike_look, alike_looked, same_plan}
use Rattle.rl_seq.proofs.Following.{follows_none, follows_look, follows_same}

-- an operation, or none
abbrev pub if_some : Option Op → Plan
if_some None = stop
if_some (Some op) = step op stop

abbrev pub at_part : ChipData → LayoutData → Visit → (turn part : ℕ) → Plan
at_part c l v turn part = look (λ m. if_some (part_of c l m.mirror v turn part))

part_on : (m n : ModelData) (v : Visit) (turn part : ℕ) → IsSameChip m n
    → part_of n.chip n.layout n.mirror v turn part ≡ part_of m.chip m.layout n.mirror v turn part
part_on m n v turn part same = ap (λ c. part_of c n.layout n.mirror v turn part) same.chip
    ∙ ap (λ l. part_of m.chip l n.mirror v turn part) same.layout

-- what is done at a part, by the answer that the visit gives
at_answer : {R T E : Type 0} (r : Recorder R) (s new : Stage R) (before after : Tally) (m : ModelData) (v : Visit) (turn part : ℕ)
    (answer : Option Op) (result : Result T E)
    → IsSameChip m s.scene.model → answer ≡ part_of s.scene.model.chip s.scene.model.layout s.scene.model.mirror v turn part
    → Follows r s new before after (if_some answer) result → Follows r s new before after (at_part m.chip m.layout v turn part) result
at_answer r s new before after m v turn part answer result same is a =
    follows_look r s new before after (λ n. if_some (part_of m.chip m.layout n.mirror v turn part)) result
    (follows_same r s new before after (if_some answer) _ result (ap if_some (is ∙ part_on m s.scene.model v turn part same)) a)

-- a part that has an operation, as it was performed
pub one_part : {R T E : Type 0} (r : Recorder R) (s new : Stage R) (before after : Tally) (m : ModelData) (v : Visit) (turn part : ℕ)
    (op : Op) (answer : Option Op) (result : Result T E)
    → IsSameChip m s.scene.model → answer ≡ part_of s.scene.model.chip s.scene.model.layout s.scene.model.mirror v turn part
    → answer ≡ Some op
    → Follows r s new before after (step op stop) result → Follows r s new before after (at_part m.chip m.layout v turn part) result
one_part r s new before after m v turn part op answer result same is some a =
    at_answer r s new before after m v turn part answer result same is
    (follows_same r s new before after (step op stop) (if_some answer) result (ap if_some (sym some)) a)

-- a part that is left out
pub no_part : {R E : Type 0} (r : Recorder R) (s : Stage R) (tally : Tally) (m : ModelData) (v : Visit) (turn part : ℕ) (answer : Option Op)
    → IsSameChip m s.scene.model → answer ≡ part_of s.scene.model.chip s.scene.model.layout s.scene.model.mirror v turn part → answer ≡ None
    → IsReady s.scene.model s.scene.adapters s.scene.device → Follows {E = E} r s s tally tally (at_part m.chip m.layout v turn part)
    (Ok (tt {0}))
no_part r s tally m v turn part answer same is none ready =
    at_answer r s s tally tally m v turn part answer (Ok (tt {0})) same is
    (follows_same r s s tally tally stop (if_some answer) (Ok (tt {0})) (ap if_some (sym none)) (follows_none r s tally (tt {0}) ready))

bashed : (c : ChipData) (l : LayoutData) (reg map bit : ℕ) (b : Bool) → Alike
    (each_below (if b then 4 else 0) (at_part c l (Bash reg map) bit))
    (only_if b (followed_by (bash_once reg map bit) (bash_once reg map bit)))
bashed c l reg map bit true = alike_look _ _ (λ m. alike_step _ _ _ (alike_looked _ _
    (λ m1. alike_step _ _ _ (alike_look _ _ (λ m2. alike_step _ _ _ (alike_looked _ _ (λ m3. alike_same _)))))))
bashed c l reg map bit false = alike_same stop

chosen : (op : Op) (b : Bool) → Alike (if_some (if b then Some op else None)) (only_if b (step op stop))
chosen op true = alike_same _
chosen op false = alike_same _

walked : (c : ChipData) (l : LayoutData) (mem map k : ℕ) → Alike (each_below 4 (at_part c l (Walk mem map) k)) (walk_location c mem map k)
walked c l mem map zero = alike_looked _ _ (λ m. alike_step _ _ _ (alike_looked _ _
    (λ m1. alike_looked _ _ (λ m2. alike_looked _ _ (λ m3. chosen _ _)))))
walked c l mem map (suc k) = alike_looked _ _ (λ m. alike_step _ _ _ (alike_looked _ _
    (λ m1. alike_step _ _ _ (alike_looked _ _ (λ m2. alike_step _ _ _ (alike_looked _ _ (λ m3. chosen _ _)))))))

pub turn_alike : (c : ChipData) (l : LayoutData) (v : Visit) (turn : ℕ)
    → Alike (each_below (parts_of c v turn) (at_part c l v turn)) (turn_of c l v turn)
turn_alike c l (Check reg map) turn = alike_looked _ _ (λ m. alike_same _)
turn_alike c l (Bash reg map) bit = bashed c l reg map bit (is_bit_compared c reg bit)
turn_alike c l (Access reg map value) turn = alike_looked _ _ (λ m. alike_step _ _ _
    (alike_looked _ _ (λ m1. alike_step _ _ _ (alike_looked _ _ (λ m2. alike_step _ _ _ (alike_looked _ _ (λ m3. alike_same _)))))))
turn_alike c l (Share reg place value) zero = alike_looked _ _ (λ m. alike_same _)
turn_alike c l (Share reg place value) (suc other) = alike_looked _ _ (λ m. chosen _ _)
turn_alike c l (Walk mem map) k = walked c l mem map k

-- the write, and then a turn for each place
shared : (c : ChipData) (l : LayoutData) (reg place value n : ℕ) → each_below (suc n)
    (turn_of c l (Share reg place value)) ≡ write_turned c l reg place value (each_below n (check_other l reg place))
shared c l reg place value zero = refl
shared c l reg place value (suc n) = ap (λ p. followed_by p (check_other l reg place n)) (shared c l reg place value n)

all_shared : (c : ChipData) (l : LayoutData) (reg place value n : ℕ) → each_below (n + 1)
    (turn_of c l (Share reg place value)) ≡ write_turned c l reg place value (each_below n (check_other l reg place))
all_shared c l reg place value n = ap (λ k. each_below k (turn_of c l (Share reg place value))) (add-one n) ∙ shared c l reg place value n

-- what is chosen is done, and what isn't is left out
chosen_is : (b : Bool) (p : Plan) → b ≡ true → p ≡ only_if b p
chosen_is b p so = ap (λ c. only_if c p) (sym so)

pub left_out : (b : Bool) (p : Plan) → b ≡ false → only_if b p ≡ stop
left_out b p so = ap (λ c. only_if c p) so

-- an answer of another chip and layout that are the same
pub chosen_same : (which : Sequence) (block : Option ℕ) (number : ℕ) (answer : Bool) (h n : ChipData) (y k : LayoutData)
    → answer ≡ is_chosen which h y block number → h ≡ n → y ≡ k → answer ≡ is_chosen which n k block number
chosen_same which block number answer h n y k is chips layouts =
    is ∙ ap (λ c. is_chosen which c y block number) chips ∙ ap (λ l. is_chosen which n l block number) layouts

pub visited_same : (which : Sequence) (number place : ℕ) (answer : Bool) (y k : LayoutData)
    → answer ≡ is_visited which y number place → y ≡ k → answer ≡ is_visited which k number place
visited_same which number place answer y k is layouts = is ∙ ap (λ l. is_visited which l number place) layouts

-- what is mirrored as the sequence comes to the place is what its plan looks at
visited : {R T E : Type 0} (r : Recorder R) (which : Sequence) (number place : ℕ) (s new : Stage R) (before after : Tally)
    (result : Result T E)
    → Follows r s new before after (turns s.scene.model.chip s.scene.model.layout (visit_of which s.scene.model number place)) result
    → Follows r s new before after (at_place which s.scene.model.chip s.scene.model.layout number place) result
visited r sequence.HwReset reg place s new before after result a = a
visited r sequence.BitBash reg place s new before after result a = a
visited r sequence.Access reg place s new before after result a =
    let m = s.scene.model in
    follows_look r s new before after (λ n. access_with m.chip reg (map_at m.layout place) (mirrored_of n.mirror reg)) result a
visited r sequence.Shared reg place s new before after result a =
    let m = s.scene.model in
    follows_look r s new before after (λ n. write_turned m.chip m.layout reg place (mirrored_of n.mirror reg)
    (each_below (length m.layout.places) (check_other m.layout reg place))) result
    (follows_same r s new before after _ _ result (all_shared m.chip m.layout reg place (mirrored_of m.mirror reg)
    (length m.layout.places)) a)
visited r sequence.MemWalk mem place s new before after result a = a

-- a place that the sequence visits, as its turns were taken
pub place_followed : {R T E : Type 0} (r : Recorder R) (m : ModelData) (which : Sequence) (number place : ℕ) (answer : Bool) (y : LayoutData)
    (v : Visit) (s new : Stage R) (before after : Tally) (result : Result T E)
    → IsSameChip m s.scene.model → answer ≡ is_visited which y number place → y ≡ s.scene.model.layout → answer ≡ true
    → v ≡ visit_of which s.scene.model number place
    → Follows r s new before after (turns s.scene.model.chip s.scene.model.layout v) result
    → Follows r s new before after (visit which m.chip m.layout number place) result
place_followed r m which number place answer y v s new before after result same is layouts so visit_is a =
    let n = s.scene.model in
    let at = at_place which n.chip n.layout number place in
    let here = visited_same which number place answer y n.layout is layouts in
    follows_same r s new before after (visit which n.chip n.layout number place) (visit which m.chip m.layout number place) result
    (same_plan (λ c l. visit which c l number place) m n same)
    (follows_same r s new before after at (visit which n.chip n.layout number place) result
    (chosen_is (is_visited which n.layout number place) at (sym here ∙ so))
    (visited r which number place s new before after result
    (follows_same r s new before after _ _ result (ap (turns n.chip n.layout) visit_is) a)))

-- a register or memory that the sequence chooses, as its places were visited
pub item_followed : {R T E : Type 0} (r : Recorder R) (m : ModelData) (which : Sequence) (block : Option ℕ) (number : ℕ) (answer : Bool)
    (h : ChipData) (y : LayoutData) (s new : Stage R) (before after : Tally) (result : Result T E)
    → IsSameChip m s.scene.model → answer ≡ is_chosen which h y block number → h ≡ s.scene.model.chip → y ≡ s.scene.model.layout
    → answer ≡ true
    → Follows r s new before after
    (each_below (length s.scene.model.layout.places) (visit which s.scene.model.chip s.scene.model.layout number)) result
    → Follows r s new before after (visit_all which m.chip m.layout block number) result
item_followed r m which block number answer h y s new before after result same is chips layouts so a =
    let n = s.scene.model in
    let all = each_below (length n.layout.places) (visit which n.chip n.layout number) in
    let here = chosen_same which block number answer h n.chip y n.layout is chips layouts in
    follows_same r s new before after (visit_all which n.chip n.layout block number) (visit_all which m.chip m.layout block number) result
    (same_plan (λ c l. visit_all which c l block number) m n same)
    (follows_same r s new before after all (visit_all which n.chip n.layout block number) result
    (chosen_is (is_chosen which n.chip n.layout block number) all (sym here ∙ so)) a)

-- ---- numbers that are in range stay so, where chip and layout are as before

pub place_there : (place : ℕ) {l now : LayoutData} → place < length l.places → now ≡ l → place < length now.places
place_there place low same = subst (λ (l : LayoutData). place < length l.places) (sym same) low

pub place_in : (place end : ℕ) {l now : LayoutData} → place < end → end ≤ length l.places → now ≡ l → place < length now.places
place_in place end low most same = place_there place (omega (arith, low, most)) same

pub number_in : (which : Sequence) (number : ℕ) {c now : ChipData} → number < items_of which c → now ≡ c → number < items_of which now
number_in which number low same = subst (λ c. number < items_of which c) (sym same) low

pub block_in : (block : Option ℕ) {c now : ChipData} → IfSome block (λ b. b < c.blocks) → now ≡ c → IfSome block (λ b. b < now.blocks)
block_in block there same = subst (λ (c : ChipData). IfSome block (λ b. b < c.blocks)) (sym same) there

pub reg_in : (reg : ℕ) {c now : ChipData} → reg < length c.regs → now ≡ c → reg < length now.regs
reg_in reg low same = subst (λ (c : ChipData). reg < length c.regs) (sym same) low

pub mem_in : (mem : ℕ) {c now : ChipData} → mem < length c.mems → now ≡ c → mem < length now.mems
mem_in mem low same = subst (λ (c : ChipData). mem < length c.mems) (sym same) low

pub place_before : (place turn : ℕ) {l now : LayoutData} → (1 ≤ turn) × (place ≡ turn - 1) → turn < length l.places + 1 → now ≡ l → place < length now.places
place_before place turn before low same = place_there place (omega (arith, before.0, before.1, low)) same
