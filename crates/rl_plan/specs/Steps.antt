-- The words of steps for a register, by how it can be looked at.
use Rattle.std.specs.Prelude.{ℕ, List, [], ◌∷◌, codes}
use Rattle.rl_plan.specs.declared.step.Step.{Step}
use Rattle.rl_plan.specs.declared.step.Step.TheVariants.{Reset, Check, BackCheck, WriteZeros, WriteOnes, PokeZeros, PokeOnes}
use Rattle.rl_plan.specs.declared.step.Sort.{Sort}
use Rattle.rl_plan.specs.declared.step.Sort.TheVariants.{Both, Bus, Reads, Unseen}

-- The first writes after a reset show whether a write is taken once. Behind them each value is written over each value,
-- and what a write leaves is read twice, so that what a read leaves shows.
abbrev pub both_steps : List Step
both_steps =
    Reset ∷ Check ∷ Check ∷ WriteOnes ∷ Check ∷ BackCheck ∷ WriteZeros ∷ Check ∷ Check
    ∷ PokeZeros ∷ WriteOnes ∷ Check ∷ PokeOnes ∷ WriteZeros ∷ Check
    ∷ PokeZeros ∷ WriteZeros ∷ Check ∷ Check ∷ PokeOnes ∷ WriteOnes ∷ Check ∷ Check
    ∷ PokeOnes ∷ Check ∷ Reset ∷ WriteZeros ∷ Check ∷ PokeZeros ∷ Check ∷ []

-- without deposits, from the reset value on: ones first, and after another reset zeros first
abbrev pub bus_steps : List Step
bus_steps =
    Reset ∷ Check ∷ Check ∷ WriteOnes ∷ Check ∷ WriteZeros ∷ Check ∷ Check
    ∷ Reset ∷ WriteZeros ∷ Check ∷ WriteZeros ∷ WriteOnes ∷ Check ∷ Check
    ∷ WriteOnes ∷ Check ∷ WriteZeros ∷ WriteOnes ∷ WriteZeros ∷ Check ∷ []

-- from another reset value on
abbrev pub bus_further_steps : List Step
bus_further_steps = Reset ∷ Check ∷ WriteZeros ∷ Check ∷ Reset ∷ WriteOnes ∷ Check ∷ Check ∷ []

abbrev pub read_steps : List Step
read_steps = Reset ∷ Check ∷ Check ∷ []

-- with the reset HARD
abbrev pub steps_of : Sort → List Step
steps_of Both = both_steps
steps_of Bus = bus_steps
steps_of Reads = read_steps
steps_of Unseen = []

-- with another kind of reset
abbrev pub further_steps_of : Sort → List Step
further_steps_of Both = Reset ∷ Check ∷ []
further_steps_of Bus = bus_further_steps
further_steps_of Reads = read_steps
further_steps_of Unseen = []

-- what the lines are for
abbrev pub purpose_of : Sort → List ℕ
purpose_of Both = codes "each bit at 0 and at 1, by bus and backdoor; what a write and a read make of it; its resets"
purpose_of Bus = codes "each bit as far as the bus brings it; what a write and a read make of it; its resets"
purpose_of Reads = codes "its resets, and what a read makes of it; the bus can't write it"
purpose_of Unseen = codes "its addresses; no check compares a bit of it"
