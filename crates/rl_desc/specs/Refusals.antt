-- The order of refusals, and what a reader answers.
use Rattle.std.specs.Prelude.{◌≡◌, ◌≢◌, List, [], ◌∷◌, Option, Some, None, option_map, Result, Ok, Err}
use Rattle.rl_model.specs.declared.fault.Spot.{Spot}
use Rattle.rl_desc.specs.declared.fault.DescCause.{DescCause}
use Rattle.rl_desc.specs.declared.fault.DescFault.{DescFault}
use Rattle.rl_desc.specs.declared.fault.DescFault.TheVariants.{Bad, Memory}

abbrev pub error_of : {X : Type 0} → Result X DescCause → Option DescCause
error_of (Ok x) = None
error_of (Err c) = Some c

abbrev pub value_of : {X : Type 0} → Result X DescCause → Option X
value_of (Ok x) = Some x
value_of (Err c) = None

abbrev pub or_else : {X : Type 0} → Option X → Option X → Option X
or_else None later = later
or_else (Some x) later = Some x

abbrev pub first : {X : Type 0} → List (Option X) → Option X
first [] = None
first (x ∷ xs) = or_else x (first xs)

abbrev pub at_spot : Option Spot → Option DescCause → Option DescFault
at_spot spot cause = option_map (λ c. Bad c spot) cause

-- The fault is the first one, unless memory ran out.
abbrev pub Fails : DescFault → Option DescFault → Type 0
Fails e fault = e ≢ Memory → fault ≡ Some e

-- What was read, seen by view, is this data, and there is no fault. Or the first fault was met.
abbrev pub Reads : {X Y : Type 0} → (X → Y) → Result X DescFault → Option DescFault → Y → Type 0
Reads view (Ok x) fault y = (fault ≡ None) × (view x ≡ y)
Reads view (Err e) fault y = Fails e fault

-- A value of a shape was read, or refused.
abbrev pub ReadsAs : {X Y : Type 0} → (X → Y) → Result X DescFault → Option Spot → Result Y DescCause → Type 0
ReadsAs view r spot shaped = Reads (λ x. Some (view x)) r (at_spot spot (error_of shaped)) (value_of shaped)
