-- What a check finds, over any device.
use Rattle.std.proofs.Common.{◌≡◌, ◌⊎◌, ℕ, ◌+◌, ◌<◌, Bool, true, false, not, ◌&&◌, cond, eqb, List, length, Option}
use Rattle.std.proofs.Common.{None, Some, Ok, Err, MatchResult, refl, sym, ap, ◌∙◌, subst, inl, inr, arith}
use Rattle.std.specs.Prelude.{slice_index, slice_set}
use Rattle.std.specs.Option.{option_map_or}
use Rattle.std.proofs.lemmas.Bool.{cases_eq}
use Rattle.std.proofs.lemmas.Bool.Decides.{nat_tests}
use Rattle.std.proofs.lemmas.List.{length-set, get_or-set_same, get_or-set_other}
use Rattle.rl_policy.specs.Bits.{bit}
use Rattle.rl_policy.proofs.BitLemmas.{from_bits-same}
use Rattle.rl_model.specs.Fields.{fields_of, field_in, place_at, covers}
use Rattle.rl_model.specs.Rows.{FieldSeen, ChipData}
use Rattle.rl_mirror.specs.Compared.{differ, differing, differs, is_compared}
use Rattle.rl_mirror.specs.Fields.{owned, part_of}
use Rattle.rl_mirror.specs.Mirror.{MirrorData, mirrored_of}
use Rattle.rl_mirror.specs.Prediction.{predict_write, predict_raw}
use Rattle.rl_mirror.proofs.FieldLemmas.{field_list}
use Rattle.rl_mirror.proofs.PlaceLemmas.{IsFieldList, no_place}
use Rattle.rl_mirror.proofs.WordLemmas.{bit-word_by_field}
use Rattle.rl_access.specs.declared.event.End.{End}
use Rattle.rl_access.specs.declared.event.End.TheVariants as end
use Rattle.rl_access.specs.declared.event.Event.{Event}
use Rattle.rl_access.specs.declared.event.Op.{Op}
use Rattle.rl_access.specs.declared.event.Op.TheVariants as op
use Rattle.rl_access.specs.declared.trace.TraceItem.{TraceItem}
use Rattle.rl_access.specs.Call.{Scene, IsDone, IsRefused, Performs}
use Rattle.rl_access.specs.Items.{failed_at}
use Rattle.rl_access.specs.Model.{ModelData, IsModel}
use Rattle.rl_access.specs.Rules.{Grant, grant, whole, every_field, forgetting, value_of, or_error, quiet, taking_raw}
use Rattle.rl_indirect.specs.Bank.{EntryData, BankData, IsSide, IsBank, IsBankOf, selects_other, model_believed, entries_believed}
use Rattle.rl_indirect.specs.Indexed.{is_done, Selects}
use Rattle.rl_indirect.proofs.Windows.{window_parts}

-- ---- the bits without a field count for nothing

part-owned : (bits : ℕ) (fs : List FieldSeen) (k x : ℕ) → IsFieldList bits fs → k < length fs → part_of (field_in fs k).shape (owned fs x) ≡ part_of (field_in fs k).shape x
part-owned bits fs k x list inside =
    let f = (field_in fs k).shape in
    from_bits-same f.width (λ i. bit (owned fs x) (f.lsb + i)) (λ i. bit x (f.lsb + i)) (λ i low.
    let small : f.lsb + i < 64 = omega (arith, list.inside k inside, list.most) in
    let on : covers f (f.lsb + i) ≡ true = grind (arith, nat_tests) in
    bit-word_by_field fs (λ k b. bit x b) (f.lsb + i) small ∙ by (f.lsb + i) (place_at fs (f.lsb + i)) refl on)
  where
    by : (b : ℕ) (o : Option ℕ) → place_at fs b ≡ o → covers (field_in fs k).shape b ≡ true → option_map_or (λ k. bit x b) o false ≡ bit x b
    by b None at on = let off : covers (field_in fs k).shape b ≡ false = no_place fs b k at inside in absurd (cc)
    by b (Some j) at on = refl

pub differing-owned : (bits : ℕ) (fs : List FieldSeen) (read x : ℕ) → IsFieldList bits fs → differing fs read (owned fs x) ≡ differing fs read x
unfolding differing
differing-owned bits fs read x list =
    from_bits-same (length fs) (λ k. differs (field_in fs k).shape read (owned fs x)) (λ k. differs (field_in fs k).shape read x)
    (λ k low. ap (λ p. is_compared (field_in fs k).shape && not (eqb (part_of (field_in fs k).shape read) p)) (part-owned bits fs k x list low))

-- ---- a write of another register

-- the chip is the same, and what is believed of the register
pub record Leaves (m new : ModelData) (reg : ℕ) : Type 0 where
  pub chip : new.chip ≡ m.chip
  pub many : length new.mirror.mirrored ≡ length m.mirror.mirrored
  pub mirrored : mirrored_of new.mirror reg ≡ mirrored_of m.mirror reg

write_elsewhere : (c : ChipData) (reg word fields q : ℕ) (m : MirrorData) → (q ≡ reg → ⊥) → mirrored_of (predict_write c reg word fields m) q ≡ mirrored_of m q
unfolding predict_write
write_elsewhere c reg word fields q m other = get_or-set_other m.mirrored reg q _ 0 other

write_many : (c : ChipData) (reg word fields : ℕ) (m : MirrorData) → length (predict_write c reg word fields m).mirrored ≡ length m.mirrored
unfolding predict_write
write_many c reg word fields m = length-set m.mirrored reg _

outcome_leaves : (m : ModelData) (reg word fields q : ℕ) (e : End) (o : Option ℕ) → (q ≡ reg → ⊥) → Leaves m (or_error o m (quiet e (record m {
  mirror = predict_write m.chip reg word fields m.mirror;
}))).model q
outcome_leaves m reg word fields q e None other = record { chip = refl; many = write_many m.chip reg word fields m.mirror; mirrored = write_elsewhere m.chip reg word fields q m.mirror other }
outcome_leaves m reg word fields q e (Some k) other = record { chip = refl; many = refl; mirrored = refl }

leaves_by : (s t : Scene) (reg q value : ℕ) (map : Option ℕ) (event : Event) (g : Grant) → (q ≡ reg → ⊥)
    → MatchResult g (λ place. IsDone s t (op.Write reg map value) place event) (λ why. IsRefused s t (op.Write reg map value) why event) → Leaves s.model t.model q
leaves_by s t reg q value map event (Ok place) other done =
    let left = outcome_leaves (forgetting s.model place) reg value every_field q end.Done (failed_at event.trace) other in
    subst (λ (m : ModelData). Leaves s.model m q) (sym done.model) (record { chip = left.chip; many = left.many; mirrored = left.mirrored })
leaves_by s t reg q value map event (Err why) other refused = subst (λ (x : Scene). Leaves s.model x.model q) (sym refused.unchanged) (record { chip = refl; many = refl; mirrored = refl })

pub write_leaves : (s t : Scene) (reg q value : ℕ) (map : Option ℕ) (event : Event) → (q ≡ reg → ⊥) → Performs s t (op.Write reg map value) event → Leaves s.model t.model q
write_leaves s t reg q value map event other performs = leaves_by s t reg q value map event (grant s.model (op.Write reg map value)) other performs

-- ---- entry k is believed once it was selected

raw_here : (c : ChipData) (reg value : ℕ) (m : MirrorData) → reg < length m.mirrored → mirrored_of (predict_raw c reg value m) reg ≡ owned (fields_of c reg) value
unfolding predict_raw
raw_here c reg value m l = get_or-set_same m.mirrored reg (owned (fields_of c reg) value) 0 l

pub not_other : (e : EntryData) (k : ℕ) → k < length e.kept → selects_other e k ≡ false → k ≡ e.selected
not_other e k low none = by (cases_eq k e.selected)
  where
    by : (k ≡ e.selected) ⊎ (k ≡ e.selected → ⊥) → k ≡ e.selected
    by (inl same) = same
    by (inr other) = absurd (let on : selects_other e k ≡ true = grind (arith, nat_tests) in cc)

pub is_other : (e : EntryData) (k : ℕ) → selects_other e k ≡ true → k ≡ e.selected → ⊥
is_other e k other same = let off : selects_other e k ≡ false = grind (arith, nat_tests) in cc

-- what is then believed of the data register differs from a value just as entry k does
pub record IsSelected (b : BankData) (s t : Scene) (k : ℕ) : Type 0 where
  pub chip : t.model.chip ≡ s.model.chip
  pub differs_as : (read : ℕ) → differing (fields_of s.model.chip b.window.data_reg) read (mirrored_of t.model.mirror b.window.data_reg)
      ≡ differing (fields_of s.model.chip b.window.data_reg) read (slice_index (entries_believed b s.model) k)

selected_by : (b : BankData) (s t : Scene) (wm : ModelData) (k bits : ℕ) (other : Bool) → IsSide b.size b.model → k < b.size → IsFieldList bits (fields_of s.model.chip b.window.data_reg)
    → b.window.data_reg < length s.model.mirror.mirrored → Leaves s.model wm b.window.data_reg → selects_other b.model k ≡ other
    → t.model ≡ option_map_or (λ value. taking_raw wm b.window.data_reg value) (cond other (Some (slice_index b.model.kept k)) None) wm → IsSelected b s t k
selected_by b s t wm k bits true side low list inside left other is =
    let reg = b.window.data_reg in
    let c = s.model.chip in
    let v = slice_index b.model.kept k in
    let within : reg < length wm.mirror.mirrored = omega (arith, inside, left.many) in
    let here : mirrored_of t.model.mirror reg ≡ owned (fields_of c reg) v =
    ap (λ (m : ModelData). mirrored_of m.mirror reg) is ∙ raw_here wm.chip reg v wm.mirror within ∙ ap (λ (x : ChipData). owned (fields_of x reg) v) left.chip in
    let entry : slice_index (entries_believed b s.model) k ≡ v = get_or-set_other b.model.kept b.model.selected k (mirrored_of s.model.mirror reg) 0 (is_other b.model k other) in
    record {
      chip = ap (λ (m : ModelData). m.chip) is ∙ left.chip;
      differs_as = λ read. ap (differing (fields_of c reg) read) here ∙ differing-owned bits (fields_of c reg) read v list ∙ ap (differing (fields_of c reg) read) (sym entry);
    }
selected_by b s t wm k bits false side low list inside left other is =
    let reg = b.window.data_reg in
    let c = s.model.chip in
    let x = mirrored_of s.model.mirror reg in
    let here : mirrored_of t.model.mirror reg ≡ x = ap (λ (m : ModelData). mirrored_of m.mirror reg) is ∙ left.mirrored in
    let same : k ≡ b.model.selected = not_other b.model k (omega (arith, low, side.many)) other in
    let entry : slice_index (entries_believed b s.model) k ≡ x =
    ap (slice_index (slice_set b.model.kept b.model.selected x)) same ∙ get_or-set_same b.model.kept b.model.selected x 0 (omega (arith, side.selected, side.many)) in
    record {
      chip = ap (λ (m : ModelData). m.chip) is ∙ left.chip;
      differs_as = λ read. ap (differing (fields_of c reg) read) (here ∙ sym entry);
    }

pub selected : (b new : BankData) (s t : Scene) (map : Option ℕ) (k : ℕ) (index : Event) → IsModel s.model → IsBankOf s.model.chip b → IsBank b → k < b.size → Selects b new s t map k index →
    is_done index.end ≡ true → IsSelected b s t k
selected b new s t map k index ok of bank low selects done =
    let reg = b.window.data_reg in
    let apart : reg ≡ b.window.index_reg → ⊥ = λ same. (window_parts s.model.chip b.window b.size of.window).apart (sym same) in
    let wm = selects.written.model in
    selected_by b s t wm k _ (selects_other b.model k) bank.model low (field_list s.model.chip reg ok.chip of.data_reg)
    (subst (λ n. reg < n) (sym ok.mirror.registers) of.data_reg) (write_leaves s selects.written b.window.index_reg reg k map index apart selects.performs) refl
    (selects.model
    ∙ ap (λ t. cond t (model_believed selects.half wm k) wm) done
    ∙ ap (λ (h : BankData). model_believed h wm k) selects.device.bank)

-- ---- the check

checked_by : (m : ModelData) (reg : ℕ) (value : List TraceItem → ℕ) (items : List TraceItem) (read : ℕ) (o : Option ℕ) (left : ModelData)
    → (or_error o m (record { end = end.Value (value items); model = left; differ = differ m.chip reg (value items) m.mirror })).end ≡ end.Value read
    → (or_error o m (record { end = end.Value (value items); model = left; differ = differ m.chip reg (value items) m.mirror })).differ ≡ differ m.chip reg read m.mirror
checked_by m reg value items read None left e = let same : value items ≡ read = cc in ap (λ v. differ m.chip reg v m.mirror) same
checked_by m reg value items read (Some k) left e = absurd (cc)

checked : (s t : Scene) (reg : ℕ) (map : Option ℕ) (event : Event) (read : ℕ) (g : Grant)
    → MatchResult g (λ place. IsDone s t (op.Check reg map) place event) (λ why. IsRefused s t (op.Check reg map) why event) → event.end ≡ end.Value read
    → event.differ ≡ differ s.model.chip reg read s.model.mirror
checked s t reg map event read (Ok place) done e =
    let m = forgetting s.model place in
    let a = whole m reg place 0 in
    ap (λ (e : Event). e.differ) done.event_is
    ∙ checked_by m reg (value_of m a) event.trace read (failed_at event.trace) _ (sym (ap (λ (e : Event). e.end) done.event_is) ∙ e)
checked s t reg map event read (Err why) refused e =
    let ends : event.end ≡ end.Refused why = ap (λ (e : Event). e.end) refused.event_is in
    absurd (cc)

check_differs : (c : ChipData) (reg read : ℕ) (m : MirrorData) → differ c reg read m ≡ differing (fields_of c reg) read (mirrored_of m reg)
unfolding differ
check_differs c reg read m = refl

-- a check of entry k names the fields that differ from it
pub check_finds : (b new : BankData) (s mid t : Scene) (map : Option ℕ) (k : ℕ) (index access : Event) → IsModel s.model → IsBankOf s.model.chip b → IsBank b → k < b.size →
    Selects b new s mid map k index → is_done index.end ≡ true
    → Performs mid t (op.Check b.window.data_reg map) access → (read : ℕ) → access.end ≡ end.Value read
    → access.differ ≡ differing (fields_of s.model.chip b.window.data_reg) read (slice_index (entries_believed b s.model) k)
check_finds b new s mid t map k index access ok of bank low selects done performs read e =
    let reg = b.window.data_reg in
    let is = selected b new s mid map k index ok of bank low selects done in
    checked mid t reg map access read (grant mid.model (op.Check reg map)) performs e
    ∙ check_differs mid.model.chip reg read mid.model.mirror
    ∙ ap (λ (c : ChipData). differing (fields_of c reg) read (mirrored_of mid.model.mirror reg)) is.chip
    ∙ is.differs_as read

-- and so does a read that is one where it is to check
pub read_finds : (b new : BankData) (s mid t : Scene) (map : Option ℕ) (k reg : ℕ) (check : Bool) (index access : Event) → IsModel s.model → IsBankOf s.model.chip b → IsBank b → k < b.size →
    Selects b new s mid map k index
    → is_done index.end ≡ true → reg ≡ b.window.data_reg → Performs mid t (cond check (op.Check reg map) (op.Mirror reg map)) access → check ≡ true → (read : ℕ) → access.end ≡ end.Value read
    → access.differ ≡ differing (fields_of s.model.chip b.window.data_reg) read (slice_index (entries_believed b s.model) k)
read_finds b new s mid t map k reg check index access ok of bank low selects done same performs on =
    check_finds b new s mid t map k index access ok of bank low selects done
    (subst (λ (o : Op). Performs mid t o access) (ap (λ t. cond t (op.Check reg map) (op.Mirror reg map)) on ∙ ap (λ r. op.Check r map) same) performs)
