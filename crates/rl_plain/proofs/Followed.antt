-- What is believed after an access that no item failed.
use Rattle.std.proofs.Common.{◌≡◌, ℕ, ◌-◌, ◌^◌, ◌<◌, Bool, true, false, cond, eqb, eq-eqb, ne_eqb, List, length, refl, sym, ap, ◌∙◌, subst, inl, inr, arith}
use Rattle.std.specs.Int.{bit_at}
use Rattle.std.specs.Prelude.{slice_set}
use Rattle.std.proofs.lemmas.Bool.{cases_eq}
use Rattle.std.proofs.lemmas.List.{length-set}
use Rattle.std.proofs.lemmas.List.Elements.{All-set}
use Rattle.std.proofs.lemmas.Nat.Bits.{bit_at-pow_same, bit_at-pow_other}
use Rattle.rl_policy.specs.Bits.{bit}
use Rattle.rl_policy.proofs.BitLemmas.{bit-max}
use Rattle.rl_model.specs.Rows.{FieldSeen, ChipData}
use Rattle.rl_model.specs.Chip.{IsSound}
use Rattle.rl_model.specs.Fields.{first_of, fields_of}
use Rattle.rl_map.specs.Layout.{place_at, port_at}
use Rattle.rl_split.specs.Step.{Register, every, ranswer}
use Rattle.rl_mirror.specs.Mirror.{MirrorData}
use Rattle.rl_mirror.specs.Prediction.{predict_write, predict_read}
use Rattle.rl_mirror.proofs.FieldLemmas.{field_list}
use Rattle.rl_access.specs.declared.predictor.Gathered.{Gathered}
use Rattle.rl_access.specs.Gathering.{IsNothingGathered, no_words}
use Rattle.rl_access.specs.Model.{ModelData}
use Rattle.rl_access.specs.Operation.{reg_of}
use Rattle.rl_access.specs.Rules.{every_field, forgotten, forgetting, forgetting_field, is_alone}
use Rattle.rl_plain.specs.OneStep.{Step, write_step, read_step, no_step, own_field}
use Rattle.rl_plain.proofs.Registers.{AreChosen}

-- ---- the fields, as a number

pub all_chosen : (c : ChipData) (reg : ℕ) → IsSound c → reg < length c.regs → AreChosen (fields_of c reg) every every_field
all_chosen c reg sound l = record { same = λ k place. sym (bit-max k (omega (arith, place, (field_list c reg sound l).few))) }

bit-pow : (k j : ℕ) → eqb k j ≡ bit (2 ^ j) k
unfolding bit
bit-pow k j =
    elim (cases_eq k j) [
      | inl same ↦ eq-eqb k j same ∙ sym (ap (λ n. eqb n 1) (ap (λ i. bit_at (2 ^ j) i) same ∙ bit_at-pow_same j))
      | inr other ↦ ne_eqb k j other ∙ sym (ap (λ n. eqb n 1) (bit_at-pow_other j k other))
    ]

pub own_chosen : (m : ModelData) (field : ℕ) (fs : List FieldSeen) → AreChosen fs (own_field m.chip field) (2 ^ (field - first_of m.chip (reg_of m.chip field)))
own_chosen m field fs = record { same = λ k place. bit-pow k (field - first_of m.chip (reg_of m.chip field)) }

-- ---- what was gathered

forgotten_by : (explicit : Bool) (place : ℕ) (gathered : List Gathered) → IsNothingGathered gathered → IsNothingGathered (cond explicit (slice_set gathered place no_words) gathered)
forgotten_by true place gathered none = All-set (λ g. g ≡ no_words) gathered place no_words refl none
forgotten_by false place gathered none = none

forgotten_many : (explicit : Bool) (place : ℕ) (gathered : List Gathered) → length (cond explicit (slice_set gathered place no_words) gathered) ≡ length gathered
forgotten_many true place gathered = length-set gathered place no_words
forgotten_many false place gathered = refl

kept_many : (alone : Bool) (xs ys : List Gathered) → length ys ≡ length xs → length (cond alone xs ys) ≡ length xs
kept_many true xs ys e = refl
kept_many false xs ys e = e

kept_by : (alone : Bool) (xs ys : List Gathered) → IsNothingGathered xs → IsNothingGathered ys → IsNothingGathered (cond alone xs ys)
kept_by true xs ys p q = p
kept_by false xs ys p q = q

-- the model that an access begins from: what was gathered of its place may be forgotten
pub record IsEntry (m entry : ModelData) : Type 0 where
  pub chip : entry.chip ≡ m.chip
  pub layout : entry.layout ≡ m.layout
  pub mirror : entry.mirror ≡ m.mirror
  pub gathered : IsNothingGathered m.gathered → IsNothingGathered entry.gathered
  pub many : length entry.gathered ≡ length m.gathered

pub whole_entry : (m : ModelData) (place : ℕ) → IsEntry m (forgetting m place)
whole_entry m place = record {
  chip = refl;
  layout = refl;
  mirror = refl;
  gathered = λ none. forgotten_by (port_at m.layout (place_at m.layout place).port).explicit place m.gathered none;
  many = forgotten_many (port_at m.layout (place_at m.layout place).port).explicit place m.gathered;
}

pub field_entry : (m : ModelData) (field place : ℕ) (write : Bool) → IsEntry m (forgetting_field m field place write)
field_entry m field place write = record {
  chip = refl;
  layout = refl;
  mirror = refl;
  gathered = λ none. kept_by (is_alone m field place write) m.gathered (forgotten m.layout place m.gathered) none
      (forgotten_by (port_at m.layout (place_at m.layout place).port).explicit place m.gathered none);
  many = kept_many (is_alone m field place write) m.gathered (forgotten m.layout place m.gathered) (forgotten_many (port_at m.layout (place_at m.layout place).port).explicit place m.gathered);
}

-- ---- what is believed afterwards

pub record IsPredictedWrite (c : ChipData) (reg : ℕ) (chosen : ℕ → Bool) (word : ℕ) (old new : MirrorData) : Type 0 where
  pub fields : ℕ
  pub are : AreChosen (fields_of c reg) chosen fields
  pub is : new ≡ predict_write c reg word fields old

pub record IsPredictedRead (c : ChipData) (reg : ℕ) (chosen : ℕ → Bool) (value : ℕ) (old new : MirrorData) : Type 0 where
  pub fields : ℕ
  pub are : AreChosen (fields_of c reg) chosen fields
  pub is : new ≡ predict_read c reg value fields old

abbrev pub FollowsStep : ChipData → (reg : ℕ) → (old new : MirrorData) → Register → Step → Type 0
FollowsStep c reg old new r (write_step chosen word) = IsPredictedWrite c reg chosen word old new
FollowsStep c reg old new r (read_step chosen) = IsPredictedRead c reg chosen (ranswer (fields_of c reg) chosen r) old new
FollowsStep c reg old new r no_step = new ≡ old

pub record Followed (m new : ModelData) (reg : ℕ) (step : Step) (r : Register) : Type 0 where
  pub chip : new.chip ≡ m.chip
  pub layout : new.layout ≡ m.layout
  pub gathered : IsNothingGathered m.gathered → IsNothingGathered new.gathered
  pub many : length new.gathered ≡ length m.gathered
  pub mirror : FollowsStep m.chip reg m.mirror new.mirror r step

-- an entry with another mirror, which goes by the step
follows_by : (m entry : ModelData) (reg : ℕ) (step : Step) (r : Register) (mirror : MirrorData) (new : ModelData) → IsEntry m entry → new ≡ record entry { mirror = mirror } →
    FollowsStep m.chip reg m.mirror mirror r step → Followed m new reg step r
follows_by m entry reg step r mirror new is e goes = record {
  chip = ap (λ (x : ModelData). x.chip) e ∙ is.chip;
  layout = ap (λ (x : ModelData). x.layout) e ∙ is.layout;
  gathered = λ none. subst IsNothingGathered (sym (ap (λ (x : ModelData). x.gathered) e)) (is.gathered none);
  many = ap (λ (x : ModelData). length x.gathered) e ∙ is.many;
  mirror = subst (λ x. FollowsStep m.chip reg m.mirror x r step) (sym (ap (λ (x : ModelData). x.mirror) e)) goes;
}

pub write_follows : (m entry : ModelData) (reg word fields : ℕ) (chosen : ℕ → Bool) (r : Register) (new : ModelData) → IsEntry m entry → AreChosen (fields_of m.chip reg) chosen fields →
    new ≡ record entry { mirror = predict_write entry.chip reg word fields entry.mirror } → Followed m new reg (write_step chosen word) r
write_follows m entry reg word fields chosen r new is are e =
    follows_by m entry reg (write_step chosen word) r (predict_write entry.chip reg word fields entry.mirror) new is e (record {
      fields = fields;
      are = are;
      is = ap (λ c. predict_write c reg word fields entry.mirror) is.chip ∙ ap (predict_write m.chip reg word fields) is.mirror;
    })

pub read_follows : (m entry : ModelData) (reg fields : ℕ) (chosen : ℕ → Bool) (r : Register) (new : ModelData) → IsEntry m entry → AreChosen (fields_of m.chip reg) chosen fields →
    new ≡ record entry { mirror = predict_read entry.chip reg (ranswer (fields_of m.chip reg) chosen r) fields entry.mirror } → Followed m new reg (read_step chosen) r
read_follows m entry reg fields chosen r new is are e =
    let value = ranswer (fields_of m.chip reg) chosen r in
    follows_by m entry reg (read_step chosen) r (predict_read entry.chip reg value fields entry.mirror) new is e (record {
      fields = fields;
      are = are;
      is = ap (λ c. predict_read c reg value fields entry.mirror) is.chip ∙ ap (predict_read m.chip reg value fields) is.mirror;
    })

pub nothing_follows : (m : ModelData) (reg : ℕ) (r : Register) (new : ModelData) → new ≡ m → Followed m new reg no_step r
nothing_follows m reg r new e = record {
  chip = ap (λ (x : ModelData). x.chip) e;
  layout = ap (λ (x : ModelData). x.layout) e;
  gathered = λ none. subst IsNothingGathered (sym (ap (λ (x : ModelData). x.gathered) e)) none;
  many = ap (λ (x : ModelData). length x.gathered) e;
  mirror = ap (λ (x : ModelData). x.mirror) e;
}
