-- Values, one after the other.
use Rattle.std.proofs.Common.{◌≡◌, ℕ, ◌&&◌, List, [], ◌∷◌, ◌++◌, Some, is_some, Result, Ok, Err, refl, sym, ap, append_assoc}
use Rattle.std.proofs.lemmas.Option.{none-some, same_Some}
use Rattle.std.specs.Int.RustNames.{bit_or}
use Rattle.std.specs.List.{list_all}
use Rattle.toml.specs.declared.value.Value.{Value}
use Rattle.toml.specs.Data.{Data, Members, member, Items, item, as_str, as_table}
use Rattle.toml.specs.View.{view, items_view}
use Rattle.rl_model.specs.declared.sets.Skip.{Skip}
use Rattle.rl_desc.specs.Words.{exclusion_named, skip}
use Rattle.rl_desc.specs.declared.key.Key.{Key}
use Rattle.rl_desc.specs.declared.fault.DescCause.{DescCause}
use Rattle.rl_model.specs.declared.parts.ResetPart.{ResetPart}
use Rattle.rl_desc.specs.Shapes.{◌>>=◌, number, word, are_tables, are_texts, excluded, kinds}
use Rattle.rl_desc.specs.Refusals.{value_of}

-- what all items of an array are
pub all_tables : (vs : List Value) → list_all (λ v. is_some (as_table (view v))) vs ≡ are_tables (items_view vs)
all_tables [] = refl
all_tables (v ∷ vs) = ap (λ t. is_some (as_table (view v)) && t) (all_tables vs)

pub all_texts : (vs : List Value) → list_all (λ v. is_some (as_str (view v))) vs ≡ are_texts (items_view vs)
all_texts [] = refl
all_texts (v ∷ vs) = ap (λ t. is_some (as_str (view v)) && t) (all_texts vs)

pub ok_from_value : {X : Type 0} (r : Result X DescCause) (x : X) → value_of r ≡ Some x → r ≡ Ok x
ok_from_value (Ok y) x h = ap Ok (same_Some y x h)
ok_from_value (Err c) x h = absurd (none-some x h)

regroup : (parts : List ResetPart) (p : ResetPart) (r : Result (List ResetPart) DescCause)
    → ((r >>= λ rest. Ok (p ∷ rest)) >>= λ rest. Ok (parts ++ rest)) ≡ (r >>= λ rest. Ok ((parts ++ p ∷ []) ++ rest))
regroup parts p (Ok rest) = ap Ok (sym (append_assoc parts (p ∷ []) rest))
regroup parts p (Err c) = refl

-- one more value of a reset
pub kinds-more : (k : Key) (name : List ℕ) (d : Data) (ms : Members) (n : ℕ) (parts : List ResetPart) → number k d ≡ Ok n
    → (kinds k (member name d ms) >>= λ rest. Ok (parts ++ rest)) ≡ (kinds k ms >>= λ rest. Ok ((parts ++ record { kind = name; value = n } ∷ []) ++ rest))
kinds-more k name d ms n parts h = rw h (regroup parts (record { kind = name; value = n }) (kinds k ms))

-- one more exclusion
pub excluded-more : (k : Key) (before e after : Skip) (d : Data) (ds : Items) → word exclusion_named k d ≡ Ok e
    → after.bits ≡ bit_or before.bits e.bits → excluded k after ds ≡ excluded k before (item d ds)
excluded-more k before e after d ds read bits =
    let all : after ≡ skip (bit_or before.bits e.bits) = ap skip bits in
    rw (read, all)
