-- The reasons of a refusal.
use Rattle.std.proofs.Common.{◌≡◌, ◌≢◌, ℕ, List, [], ◌∷◌, ◌++◌, codes, decimal, ◌+◌, Some, None, Result, sym, ap, refl, ◌∙◌, subst, append_assoc, append-nil, slice_index_or}
use Rattle.std.specs.declared.option.Option.{Option}
use Rattle.rl_model.specs.declared.fault.Spot.{Spot}
use Rattle.rl_report.specs.declared.sink.Sink.{Ghosts as Sink}
use Rattle.rl_report.specs.Pieces.{PutsText, joined}
use Rattle.rl_map.specs.declared.fault.MapCause.{MapCause}
use Rattle.rl_map.specs.declared.fault.MapCause.TheVariants as map
use Rattle.rl_session.specs.Refusals.{array_name, before_reason, field_text, map_reason, refusal_text, where_text}

one_text : (cause : MapCause) → ((address other : ℕ) → cause ≢ map.SharedAddress address other)
    → slice_index_or (map_reason cause) 0 [] ∷ [] ≡ map_reason cause
one_text map.TooMany other = refl
one_text map.BadName other = refl
one_text map.DuplicateName other = refl
one_text map.NoSuchMap other = refl
one_text map.TooDeep other = refl
one_text map.BadBytes other = refl
one_text map.NoSuchAdapter other = refl
one_text map.NoSuchItem other = refl
one_text map.PlacedTwice other = refl
one_text map.MemInFifo other = refl
one_text map.AddressOverflow other = refl
one_text map.Unaligned other = refl
one_text (map.SharedAddress address place) other = absurd (other address place refl)

-- a reason is one text, except where two places share an address
pub plain_reason : (cause : MapCause) (text : List ℕ) → ((address other : ℕ) → cause ≢ map.SharedAddress address other)
    → text ≡ slice_index_or (map_reason cause) 0 [] → map_reason cause ≡ text ∷ []
plain_reason cause text other is = sym (ap (λ t. t ∷ []) is ∙ one_text cause other)

-- ---- what stands before the reason

pub field_is : (number : List ℕ) → joined (codes " field " ∷ number ∷ codes ": " ∷ []) ≡ joined (codes " field " ∷ number ∷ []) ++ codes ": "
unfolding joined
field_is number = simp append-nil

nowhere : codes "refused description: " ≡ before_reason None
unfolding joined
nowhere = refl

somewhere : (array row field : List ℕ)
    → joined (codes "refused description " ∷ array ∷ codes " " ∷ row ∷ []) ++ (field ++ codes ": ")
    ≡ joined (codes "refused description" ∷ joined (codes " " ∷ array ∷ codes " " ∷ row ∷ field ∷ []) ∷ codes ": " ∷ [])
unfolding joined
somewhere array row field = simp (append_assoc, append-nil)

with_reason : (place reason : List ℕ)
    → joined (codes "refused description" ∷ place ∷ codes ": " ∷ []) ++ (reason ++ codes "\n")
    ≡ joined (codes "refused description" ∷ place ∷ codes ": " ∷ reason ∷ codes "\n" ∷ [])
unfolding joined
with_reason place reason = simp (append_assoc, append-nil)

-- what was put of a line is what stands before the reason, or the whole line
module _ {K T E : Type 0} (sink : Sink K) (a b : K) (r : Result T E) where
  pub nowhere_put : PutsText sink a b (codes "refused description: ") r → PutsText sink a b (before_reason None) r
  nowhere_put h = subst (λ t. PutsText sink a b t r) nowhere h

  pub place_put : (spot : Spot)
      → PutsText sink a b (joined (codes "refused description " ∷ array_name spot.array ∷ codes " " ∷ decimal (spot.row + 1) ∷ [])
      ++ (field_text spot.field ++ codes ": ")) r → PutsText sink a b (before_reason (Some spot)) r
  place_put spot h = subst (λ t. PutsText sink a b t r) (somewhere (array_name spot.array) (decimal (spot.row + 1)) (field_text spot.field)) h

  pub line_put : (spot : Option Spot) (reason : List (List ℕ))
      → PutsText sink a b (before_reason spot ++ (joined reason ++ codes "\n")) r → PutsText sink a b (refusal_text spot reason) r
  line_put spot reason h = subst (λ t. PutsText sink a b t r) (with_reason (where_text spot) (joined reason)) h
