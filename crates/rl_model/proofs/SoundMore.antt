-- What holds of a built chip's paths, counts and resets.
use Rattle.std.proofs.Common.{◌≡◌, ℕ, zero, suc, ◌+◌, ◌^◌, ◌<◌, ◌≤◌, false, true, nat_le, List, [], ◌∷◌, ◌++◌, length, map}
use Rattle.std.proofs.Common.{take, slice_get, sum_by, Option, Some, unwrap_or, refl, sym, ap, subst, ◌∙◌, inl, inr, arith}
use Rattle.std.proofs.lemmas.Bool.Decides.{nat_tests}
use Rattle.std.proofs.lemmas.Option.{none-some, same_Some}
use Rattle.rl_model.specs.declared.rows.RegRow.{RegRow}
use Rattle.rl_model.specs.declared.rows.Reset.{Reset}
use Rattle.rl_model.specs.declared.parts.ResetPart.{ResetPart}
use Rattle.rl_model.specs.Data.{RegData}
use Rattle.rl_model.specs.Rows.{FieldSeen, ChipData}
use Rattle.rl_model.specs.Paths.{is_among, number_in}
use Rattle.rl_model.specs.Rules.{names_in, all_kinds}
use Rattle.rl_model.specs.Build.{first_kinds, reset_seen, regs_seen}
use Rattle.rl_model.specs.Chip.{path_at, HasParent, ResetFits}
use Rattle.rl_model.proofs.SoundLemmas.{there, none_at, Located, located}
use Rattle.rl_model.proofs.Sound.{IsBuilt}
use Rattle.rl_model.proofs.PathsFit.{PathsFit, Stands}
use Rattle.rl_model.proofs.FieldNumbers.{few_each, count_of, first_after, length-all_fields, sum_few}
use Rattle.rl_model.proofs.KindLemmas.{among-all_kinds, number_below, number_at, once}

-- ---- paths

stands_in : (c : ChipData) (p : List ℕ) → Stands c.scopes c.paths p → HasParent c p
stands_in c p (inl top) = inl top
stands_in c p (inr h) =
    inr (
      h.scope,
      record {
        name = h.name;
        scope = h.within;
        named = h.named;
        joined = h.joined ∙ ap (λ (o : Option (List ℕ)). unwrap_or o [] ++ 46 ∷ h.name) (sym h.at);
      },
    )

pub parents : (c : ChipData) → PathsFit c.scopes c.paths → (i : ℕ) → i < length c.paths → HasParent c (path_at c i)
parents c fit i lt =
    let (p, at) = there c.paths i lt in
    let P : List ℕ → Type 0 = HasParent c in
    subst P (ap (λ (o : Option (List ℕ)). unwrap_or o []) (sym at)) (stands_in c p (fit.stand i p at))

pub deep : (c : ChipData) → PathsFit c.scopes c.paths → (i : ℕ) → i < length c.paths → names_in (path_at c i) ≤ 8
deep c fit i lt =
    let (p, at) = there c.paths i lt in
    let P : List ℕ → Type 0 = λ q. names_in q ≤ 8 in
    subst P (ap (λ (o : Option (List ℕ)). unwrap_or o []) (sym at)) (fit.deep i p at)

-- ---- counts

pub few_fields : (c : ChipData) (rs : List RegData) → IsBuilt c rs → (n : ℕ) (r : RegRow) → slice_get c.regs n ≡ Some r → r.count ≤ 64
few_fields c rs b n r at = few_each 0 0 b.scopes b.paths b.kinds rs n r b.fault (rw b.regs at at)

pub firsts : (c : ChipData) (rs : List RegData) → IsBuilt c rs → (n : ℕ) (r : RegRow) → slice_get c.regs n ≡ Some r → r.first ≡ sum_by (λ r. r.count) (take n c.regs)
firsts c rs b n r at = rw b.regs (first_after 0 rs n r (rw b.regs at at) ∙ (let plain : 0 + sum_by count_of (take n (regs_seen 0 rs)) ≡ sum_by count_of (take n (regs_seen 0 rs)) = omega arith in
    plain))

pub counts : (c : ChipData) (rs : List RegData) → IsBuilt c rs → length c.fields ≡ sum_by (λ r. r.count) c.regs
counts c rs b = rw (b.fields, b.regs) (length-all_fields 0 0 b.all rs)

pub all_fields : (c : ChipData) (rs : List RegData) → IsBuilt c rs → length c.regs ≤ 1024 → length c.fields ≤ 65536
all_fields c rs b few =
    omega (arith, counts c rs b, sum_few c.regs (few_fields c rs b))

-- ---- resets

record IsReset (all : List (List ℕ)) (parts : List ResetPart) (k : ℕ) (r : Reset) : Type 0 where
  pub part : ResetPart
  pub at : slice_get parts k ≡ Some part
  pub kind : r.kind ≡ number_in all part.kind
  pub value : r.value ≡ part.value

reset_is : (all : List (List ℕ)) (parts : List ResetPart) (k : ℕ) (r : Reset) → slice_get (map (reset_seen all) parts) k ≡ Some r → IsReset all parts k r
reset_is all [] k r at = absurd (none-some r at)
reset_is all (p ∷ ps) zero r at =
    let same : reset_seen all p ≡ r = same_Some _ _ at in
    record {
      part = p;
      at = refl;
      kind = ap (λ (x : Reset). x.kind) (sym same);
      value = ap (λ (x : Reset). x.value) (sym same);
    }
reset_is all (p ∷ ps) (suc k) r at =
    let later = reset_is all ps k r at in
    record { part = later.part; at = later.at; kind = later.kind; value = later.value }

-- the part of a reset, among those of its field
part_of : (c : ChipData) (rs : List RegData) (b : IsBuilt c rs) (i : ℕ) (f : FieldSeen) (k : ℕ) (r : Reset) (loc : Located 0 0 b.all rs i f) → slice_get f.resets k ≡ Some r
    → IsReset b.all loc.part.resets k r
part_of c rs b i f k r loc at =
    reset_is b.all loc.part.resets k r (ap (λ (g : FieldSeen). slice_get g.resets k) (sym loc.is) ∙ at)

among : (c : ChipData) (rs : List RegData) (b : IsBuilt c rs) → b.all ≡ all_kinds first_kinds rs → (i : ℕ) (f : FieldSeen) (k : ℕ) (r : Reset) (loc : Located 0 0 b.all rs i f)
    → (x : IsReset b.all loc.part.resets k r) → is_among x.part.kind b.all ≡ true
among c rs b all_is i f k r loc x =
    rw all_is (among-all_kinds first_kinds rs loc.number loc.owner loc.place loc.part k x.part loc.here loc.is_part x.at)

below_same : (v x w y : ℕ) → v ≡ x → w ≡ y → x < 2 ^ y → v < 2 ^ w
below_same v x w y same_value same_width h = rw (same_value, same_width) h

pub each_reset : (c : ChipData) (rs : List RegData) (b : IsBuilt c rs) → b.all ≡ all_kinds first_kinds rs → c.kinds ≡ b.all → (i : ℕ) (f : FieldSeen) (k : ℕ) (r : Reset) →
    slice_get c.fields i ≡ Some f
    → slice_get f.resets k ≡ Some r → ResetFits c f r
each_reset c rs b all_is kinds_is i f k r at at_r =
    let loc = located 0 0 b.scopes b.paths b.kinds b.all rs i f b.fault (rw b.fields at at) in
    let x = part_of c rs b i f k r loc at_r in
    let number = number_below b.all x.part.kind (among c rs b all_is i f k r loc x) in
    let count = ap (λ (l : List (List ℕ)). length l) kinds_is in
    let low : nat_le (2 ^ loc.part.width) x.part.value ≡ false = none_at (λ (q : ResetPart). nat_le (2 ^ loc.part.width) q.value) loc.part.resets k x.part loc.passes_all.fits x.at in
    let below : x.part.value < 2 ^ loc.part.width = grind (arith, nat_tests) in
    let width : f.shape.width ≡ loc.part.width = ap (λ (g : FieldSeen). g.shape.width) loc.is in
    (omega (arith, number, count, x.kind), below_same r.value x.part.value f.shape.width loc.part.width x.value width below)

pub one_value : (c : ChipData) (rs : List RegData) (b : IsBuilt c rs) → b.all ≡ all_kinds first_kinds rs → (i : ℕ) (f : FieldSeen) (k l : ℕ) (r s : Reset) → slice_get c.fields i ≡ Some f
    → slice_get f.resets k ≡ Some r → slice_get f.resets l ≡ Some s → r.kind ≡ s.kind → k ≡ l
one_value c rs b all_is i f k l r s at at_r at_s same =
    let loc = located 0 0 b.scopes b.paths b.kinds b.all rs i f b.fault (rw b.fields at at) in
    let x = part_of c rs b i f k r loc at_r in
    let y = part_of c rs b i f l s loc at_s in
    let at_x = number_at b.all x.part.kind (among c rs b all_is i f k r loc x) in
    let at_y = number_at b.all y.part.kind (among c rs b all_is i f l s loc y) in
    let numbers : number_in b.all x.part.kind ≡ number_in b.all y.part.kind = sym x.kind ∙ (same ∙ y.kind) in
    let names : x.part.kind ≡ y.part.kind = same_Some _ _ (sym at_x ∙ (ap (λ (n : ℕ). slice_get b.all n) numbers ∙ at_y)) in
    once loc.part.resets k l x.part y.part loc.passes_all.once x.at y.at names
