-- A new device with deaf items holds what one without flaws does, which is what is believed, and no field is spent.
use Rattle.std.proofs.Common.{◌≡◌, ℕ, zero, suc, false, List, [], length, get_or, replicate, Some, refl, sym, ap, ◌∙◌}
use Rattle.std.specs.Prelude.{slice_index}
use Rattle.std.proofs.lemmas.List.Elements.{All-nil}
use Rattle.rl_bus.specs.Account.{without_peer}
use Rattle.rl_bus.specs.declared.table.ItemRow.{ItemRow}
use Rattle.rl_bus.specs.Setup.{held}
use Rattle.rl_bus.specs.State.{State, reset_by, first_state}
use Rattle.rl_model.specs.Rows.{ChipData}
use Rattle.rl_map.specs.Layout.{LayoutData}
use Rattle.rl_map.specs.Tables.{setup_of}
use Rattle.rl_split.specs.Law.{no_flaws}
use Rattle.rl_mirror.specs.Prediction.{blank, reset, fresh}
use Rattle.rl_access.specs.declared.predictor.Gathered.{Gathered}
use Rattle.rl_access.specs.Call.{Scene, scene}
use Rattle.rl_access.specs.Gathering.{no_words}
use Rattle.rl_access.specs.Model.{ModelData}
use Rattle.rl_plain.proofs.Beginning.{new_ones_agree}
use Rattle.rl_detect_laws.specs.Deaf.{deaf_items, NoneSpent, NewOnesAgreeOnBits}

some_is : {A : Type 0} {x y : A} → Some x ≡ Some y → x ≡ y
some_is e = cc

same_bits : (c : ChipData) (l : LayoutData) (deaf : List ItemRow) (count : ℕ)
    → (first_state (setup_of c l (deaf_items deaf)) count).bits ≡ (first_state (setup_of c l no_flaws) count).bits
unfolding first_state reset_by setup_of held
same_bits c l deaf count = refl

none_in : (n i : ℕ) → get_or (replicate n false) i false ≡ false
none_in zero i = refl
none_in (suc n) zero = refl
none_in (suc n) (suc i) = none_in n i

pub none_spent : NoneSpent
unfolding fresh reset
none_spent c field = none_in (length (blank c).spent) field

pub new_ones_agree_on_bits : NewOnesAgreeOnBits
new_ones_agree_on_bits c l deaf count reg sound steady inside =
    let d = first_state (setup_of c l no_flaws) count in
    let m : ModelData = record { chip = c; layout = l; mirror = fresh c; gathered = [] } in
    let s : Scene = scene m [] (without_peer 0) (Some d) in
    let a = new_ones_agree s count sound steady refl (All-nil (λ (g : Gathered). g ≡ no_words)) refl in
    sym (a.believed_is.holds reg inside).bits
    ∙ ap (λ (x : State). slice_index x.bits reg) (sym (some_is a.told))
    ∙ ap (λ xs. slice_index xs reg) (sym (same_bits c l deaf count))
