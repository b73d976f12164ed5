-- The kinds of adapters that are gone through one by one.
use Rattle.std.proofs.Common.{◌≡◌, ℕ, ◌+◌, ◌<◌, ◌≤◌, List, [], ◌∷◌, ◌++◌, length, get_or, map, take, take_all, sym, ap, ◌∙◌}
use Rattle.std.proofs.lemmas.List.{map_more, map-append}
use Rattle.rl_bus.specs.declared.op.AdapterKind.{AdapterKind}
use Rattle.rl_bus.specs.Standing.{Standing, kind_in, kinds_of}

-- one more adapter
pub kinds_more : {A : Type 0} (standing : A → Standing) (all adapters : List A) (i : ℕ) (adapter : A) (kinds next : List AdapterKind)
    (kind : AdapterKind) → adapters ≡ all → i < length adapters → adapter ≡ get_or adapters i adapter → kind ≡ (standing adapter).kind
    → kinds ≡ kinds_of (map standing (take i all)) → next ≡ kinds ++ kind ∷ [] → next ≡ kinds_of (map standing (take (i + 1) all))
kinds_more standing all adapters i adapter kinds next kind same within at is so pushed =
    let kind_at = is ∙ ap (λ a. (standing a).kind) at in
    pushed ∙ ap (λ l. l ++ kind ∷ []) so ∙ ap (λ a. kinds_of (map standing (take i a)) ++ kind ∷ []) (sym same)
    ∙ ap (λ k. kinds_of (map standing (take i adapters)) ++ k ∷ []) kind_at
    ∙ sym (map-append kind_in (map standing (take i adapters)) (standing (get_or adapters i adapter) ∷ []))
    ∙ ap kinds_of (sym (map_more standing adapters i adapter within)) ∙ ap (λ a. kinds_of (map standing (take (i + 1) a))) same

-- all adapters
pub kinds_all : {A : Type 0} (standing : A → Standing) (all adapters : List A) (i : ℕ) (kinds : List AdapterKind) → adapters ≡ all
    → length adapters ≤ i → kinds ≡ kinds_of (map standing (take i all)) → kinds ≡ kinds_of (map standing all)
kinds_all standing all adapters i kinds same past so =
    so ∙ ap (λ a. kinds_of (map standing (take i a))) (sym same) ∙ ap (λ a. kinds_of (map standing a)) (take_all i adapters past ∙ same)
