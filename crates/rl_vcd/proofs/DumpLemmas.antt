-- Items that are gone over one by one, and what a dump has told.
use Rattle.std.proofs.Common.{◌≡◌, ℕ, ◌+◌, ◌-◌, ◌^◌, ◌≤◌, ◌<◌, List, [], ◌∷◌, ◌++◌, Bool, true, cond, length, take, drop, Some, Result, Ok, Err, OnOk, refl, sym, ap, subst, ◌∙◌, append_assoc, append-nil, take-append-drop, arith}
use Rattle.std.specs.Prelude.{slice_get}
use Rattle.std.specs.declared.option.Option.{Option}
use Rattle.std.specs.Io.KnownBytes.{Appends, Keeps, append_known}
use Rattle.std.proofs.KnownBytes.{Appends-nil, Appends-kept, Keeps-refl, append_known-grown}
use Rattle.std.proofs.lemmas.List.{drop_more, drop_all, take_more}
use Rattle.std.proofs.lemmas.Option.{get_or_from_slice_get, slice_get_within}
use Rattle.rl_map.specs.Layout.{LayoutData}
use Rattle.rl_access.specs.declared.trace.TraceItem.{TraceItem}
use Rattle.rl_bus.specs.declared.transfer.ApbTransfer.{ApbTransfer}
use Rattle.rl_bus.specs.declared.transfer.ApbResponse.{ApbResponse}
use Rattle.rl_report.specs.Pieces.{AppendsFront, Puts}
use Rattle.rl_log.proofs.KnownLemmas.{front_all, front_none}
use Rattle.rl_vcd.specs.declared.pins.Bus.{Bus}
use Rattle.rl_vcd.specs.Drawn.{RunsOut}
use Rattle.rl_vcd.specs.Dump.{transfer_text}
use Rattle.rl_vcd.specs.Items.{is_apb, bus_of, transfer_of, response_of, item_text, cycle_behind, items_text, cycle_after}

item_is : (l : LayoutData) (label : List ℕ) (item : TraceItem) (n : ℕ) → is_apb l item.port ≡ true
    → item_text l label item n ≡ transfer_text (bus_of l item.port) label (transfer_of item) (response_of item) n
item_is l label item n e = ap (λ (b : Bool). cond b (transfer_text (bus_of l item.port) label (transfer_of item) (response_of item) n) []) e

-- an item that goes through the APB adapter was drawn
pub item_drawn : {T E : Type 0} (result : Result T E) (l : LayoutData) (label old new : List ℕ) (item : TraceItem) (n : ℕ) (b : Bus) (t : ApbTransfer) (r : ApbResponse)
    → is_apb l item.port ≡ true → b ≡ bus_of l item.port → t ≡ transfer_of item → r ≡ response_of item
    → OnOk result (new ≡ old ++ transfer_text b label t r n) → OnOk result (new ≡ old ++ item_text l label item n)
item_drawn (Ok x) l label old new item n b t r e eb et er h =
    h ∙ ap (λ y. old ++ transfer_text y label t r n) eb ∙ ap (λ y. old ++ transfer_text (bus_of l item.port) label y r n) et
    ∙ ap (λ y. old ++ transfer_text (bus_of l item.port) label (transfer_of item) y n) er ∙ ap (λ y. old ++ y) (sym (item_is l label item n e))
item_drawn (Err x) l label old new item n b t r e eb et er h = tt

from_next : {X : Type 0} (xs : List X) (k : ℕ) (x : X) → slice_get xs k ≡ Some x → drop k xs ≡ x ∷ drop (k + 1) xs
from_next xs k x h = drop_more xs k x (slice_get_within xs k x h) ∙ ap (λ y. y ∷ drop (k + 1) xs) (get_or_from_slice_get xs k x x h)

-- the next item was drawn
pub next_drawn : (l : LayoutData) (label whole w1 w2 : List ℕ) (xs : List TraceItem) (k c1 c2 : ℕ) (x : TraceItem) → slice_get xs k ≡ Some x
    → whole ≡ w1 ++ items_text l label (drop k xs) c1 → w2 ≡ w1 ++ item_text l label x c1 → c2 ≡ cycle_behind l x c1
    → whole ≡ w2 ++ items_text l label (drop (k + 1) xs) c2
next_drawn l label whole w1 w2 xs k c1 c2 x at h e f =
    let rest = drop (k + 1) xs in
    let later = items_text l label rest (cycle_behind l x c1) in
    h ∙ ap (λ ys. w1 ++ items_text l label ys c1) (from_next xs k x at) ∙ sym (append_assoc w1 (item_text l label x c1) later) ∙ ap (λ w. w ++ later) (sym e)
    ∙ ap (λ c. w2 ++ items_text l label rest c) (sym f)

pub next_cycle : (l : LayoutData) (end : ℕ) (xs : List TraceItem) (k c1 c2 : ℕ) (x : TraceItem) → slice_get xs k ≡ Some x
    → end ≡ cycle_after l (drop k xs) c1 → c2 ≡ cycle_behind l x c1 → end ≡ cycle_after l (drop (k + 1) xs) c2
next_cycle l end xs k c1 c2 x at h f = h ∙ ap (λ ys. cycle_after l ys c1) (from_next xs k x at) ∙ ap (λ c. cycle_after l (drop (k + 1) xs) c) (sym f)

-- and no further one is left
pub all_drawn : (l : LayoutData) (label whole w : List ℕ) (xs : List TraceItem) (k c : ℕ) → length xs ≤ k → whole ≡ w ++ items_text l label (drop k xs) c → w ≡ whole
all_drawn l label whole w xs k c le h = sym (h ∙ ap (λ ys. w ++ items_text l label ys c) (drop_all k xs le) ∙ append-nil w)

pub all_cycles : (l : LayoutData) (end : ℕ) (xs : List TraceItem) (k c : ℕ) → length xs ≤ k → end ≡ cycle_after l (drop k xs) c → c ≡ end
all_cycles l end xs k c le h = sym (h ∙ ap (λ ys. cycle_after l ys c) (drop_all k xs le))

-- what is told once more was drawn, and some of it was written or nothing
pub told_more : (a b : Option (List ℕ)) (old new bs : List ℕ) → new ≡ old ++ bs → Keeps (append_known a new) b → Appends (append_known a old) b bs
told_more a b old new bs grown kept =
    Appends-kept (append_known a old) (append_known a new) b bs (append_known-grown (append_known a old) a old new bs (Keeps-refl (append_known a old)) grown) kept

-- an event without items
pub none_drawn : (a : Option (List ℕ)) (l : LayoutData) (label : List ℕ) (xs : List TraceItem) (n : ℕ) → length xs ≡ 0 → Appends a a (items_text l label xs n)
none_drawn a l label [] n e = Appends-nil a
none_drawn a l label (x ∷ xs) n e = absurd (omega arith)

pub no_cycle : (l : LayoutData) (xs : List TraceItem) (n : ℕ) → length xs ≡ 0 → n ≡ cycle_after l xs n
no_cycle l [] n e = refl
no_cycle l (x ∷ xs) n e = absurd (omega arith)

-- ---- where no further clock cycle can be counted

cycles_both : (l : LayoutData) (xs ys : List TraceItem) (n : ℕ) → cycle_after l (xs ++ ys) n ≡ cycle_after l ys (cycle_after l xs n)
cycles_both l [] ys n = refl
cycles_both l (x ∷ xs) ys n = cycles_both l xs ys (cycle_behind l x n)

up_to_next : {X : Type 0} (xs : List X) (k : ℕ) (x : X) → slice_get xs k ≡ Some x → take (k + 1) xs ≡ take k xs ++ x ∷ []
up_to_next xs k x h = take_more xs k x (slice_get_within xs k x h) ∙ ap (λ y. take k xs ++ y ∷ []) (get_or_from_slice_get xs k x x h)

-- the cycle behind the next item
pub next_reached : (l : LayoutData) (first : ℕ) (xs : List TraceItem) (k c1 c2 : ℕ) (x : TraceItem) → slice_get xs k ≡ Some x
    → c1 ≡ cycle_after l (take k xs) first → c2 ≡ cycle_behind l x c1 → c2 ≡ cycle_after l (take (k + 1) xs) first
next_reached l first xs k c1 c2 x at h f =
    f ∙ ap (cycle_behind l x) h
    ∙ sym (ap (λ ys. cycle_after l ys first) (up_to_next xs k x at) ∙ cycles_both l (take k xs) (x ∷ []) first)

-- the next item is too late
pub runs_out : (l : LayoutData) (first : ℕ) (xs : List TraceItem) (k c : ℕ) (x : TraceItem) → slice_get xs k ≡ Some x
    → c ≡ cycle_after l (take k xs) first → (is_apb l x.port ≡ true) × (2 ^ 64 - 1024 < c) → RunsOut l xs first
runs_out l first xs k c x at h late = record {
  done = take k xs;
  item = x;
  others = drop (k + 1) xs;
  split = ap (λ ys. take k xs ++ ys) (sym (from_next xs k x at)) ∙ take-append-drop k xs;
  over_apb = late.0;
  late = subst (λ n. 2 ^ 64 - 1024 < n) h late.1;
}

-- ---- a front of what is kept back

pub front_still : (a : Option (List ℕ)) (text : List ℕ) → AppendsFront a a text
front_still a text = front_none a a text (Keeps-refl a)

pub front_as : (a b : Option (List ℕ)) (kept old more : List ℕ) → kept ≡ old ++ more → AppendsFront a b kept → AppendsFront a b (old ++ more)
front_as a b kept old more is h = subst (AppendsFront a b) is h

pub front_put : {T E : Type 0} (a b : Option (List ℕ)) (text : List ℕ) (r : Result T E) → Puts a b text r → AppendsFront a b text
front_put a b text (Ok x) p = front_all a b text p.whole
front_put a b text (Err e) p = p.part
