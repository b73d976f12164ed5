use Rattle.std.proofs.Common.{◌≡◌, ℕ, ◌+◌, ◌-◌, ◌*◌, ◌/◌, ◌%◌, ◌<◌, ◌≤◌, ◌⊎◌, inl, inr, Bool, true, false, arith, sym, ap, ◌∙◌, refl}
use Rattle.std.proofs.Math.Nat.{eq_of_mul-eq-mul_left, mul-div-le}
use Rattle.std.proofs.lemmas.Nat.{same_from_place, div-add-mod'}
use Rattle.rl_map.specs.declared.path.Kind.{Kind}
use Rattle.rl_map.specs.declared.path.Kind.TheVariants.{Little, Big, LittleFifo, BigFifo}
use Rattle.rl_bus.specs.Lanes.{IsWidth}
use Rattle.rl_map.specs.Level.{is_fifo}
use Rattle.rl_map.specs.Access.{place_in_time, address_of}
use Rattle.rl_map.proofs.Chunks.{by_width}

-- outside the FIFO kinds the address tells the place
pub address_plain : (kind : Kind) (start stride count i : ℕ) → is_fifo kind ≡ false → address_of kind start stride count i ≡ start + stride * place_in_time kind count i
address_plain Little start stride count i plain = refl
address_plain Big start stride count i plain = refl
address_plain LittleFifo start stride count i plain = cc
address_plain BigFifo start stride count i plain = cc

-- two addresses that are a multiple of `step` apart, and two bytes that stand below `step`
pub record Spaced (A B i j : ℕ) : Type 0 where
  pub step : ℕ
  pub width : IsWidth step
  pub start : ℕ
  pub steps_a : ℕ
  pub steps_b : ℕ
  pub a_is : A ≡ start + step * steps_a
  pub b_is : B ≡ start + step * steps_b
  pub i_in : i < step
  pub j_in : j < step

-- what a byte-addressed child keeps; of a word-addressed one nothing is asked
abbrev pub Spread : Bool → ℕ → ℕ → ℕ → ℕ → Type 0
Spread true A B i j = Unit {0}
Spread false A B i j = Spaced A B i j

-- a word-addressed child
pub same_word : (off A B c s p q : ℕ) → 0 < s → p < c → q < c → off + A * c * s + s * p ≡ off + B * c * s + s * q → (A ≡ B) × (p ≡ q)
same_word off A B c s p q some low_p low_q e =
    same_from_place A p B q c low_p low_q (eq_of_mul-eq-mul_left s some (A * c + p) (B * c + q) (omega arith))

-- a byte-addressed child in a word-addressed map
pub same_mixed : (off A B b c p q : ℕ) → A % b ≡ 0 → B % b ≡ 0 → p < c → q < c → off + A / b * c + 1 * p ≡ off + B / b * c + 1 * q → (A ≡ B) × (p ≡ q)
same_mixed off A B b c p q round_a round_b low_p low_q e =
    let s = same_from_place (A / b) p (B / b) q c low_p low_q (omega arith) in
    (sym (div-add-mod' A b) ∙ (ap (λ x. x * b + A % b) s.0 ∙ ap (λ x. B / b * b + x) (round_a ∙ sym round_b)) ∙ div-add-mod' B b, s.1)

split_product : (n d i k : ℕ) → d + i ≡ k → n * d + n * i ≡ n * k
split_product n d i k e = omega (arith, ap (λ x. n * x) e)

crossed : (n c i' j' A B off : ℕ) → i' < c → j' < c → off + A + n * (c - 1 - i') ≡ off + B + n * (c - 1 - j') → A + n * j' ≡ B + n * i'
crossed n c i' j' A B off low_i low_j e =
    omega (arith, split_product n (c - 1 - i') i' (c - 1) (omega arith), split_product n (c - 1 - j') j' (c - 1) (omega arith))

pub same_byte : (kind : Kind) (off A B c n i j : ℕ) → is_fifo kind ≡ false → Spaced A B i j → 0 < n → i / n < c → j / n < c
    → off + A + n * place_in_time kind c (i / n) ≡ off + B + n * place_in_time kind c (j / n) → (A ≡ B) × (i / n ≡ j / n)
same_byte Little off A B c n i j plain sp some low_i low_j e =
    let under_i : n * (i / n) < sp.step = omega (arith, mul-div-le i n, sp.i_in) in
    let under_j : n * (j / n) < sp.step = omega (arith, mul-div-le j n, sp.j_in) in
    let s = same_from_place sp.steps_a (n * (i / n)) sp.steps_b (n * (j / n)) sp.step under_i under_j (omega (arith, sp.a_is, sp.b_is)) in
    (sp.a_is ∙ (ap (λ x. sp.start + sp.step * x) s.0 ∙ sym sp.b_is), eq_of_mul-eq-mul_left n some _ _ s.1)
same_byte Big off A B c n i j plain sp some low_i low_j e =
    let under_i : n * (i / n) < sp.step = omega (arith, mul-div-le i n, sp.i_in) in
    let under_j : n * (j / n) < sp.step = omega (arith, mul-div-le j n, sp.j_in) in
    let x = crossed n c (i / n) (j / n) A B off low_i low_j e in
    let s = same_from_place sp.steps_a (n * (j / n)) sp.steps_b (n * (i / n)) sp.step under_j under_i (omega (arith, sp.a_is, sp.b_is)) in
    (sp.a_is ∙ (ap (λ x. sp.start + sp.step * x) s.0 ∙ sym sp.b_is), sym (eq_of_mul-eq-mul_left n some _ _ s.1))
same_byte LittleFifo off A B c n i j plain sp some low_i low_j e = cc
same_byte BigFifo off A B c n i j plain sp some low_i low_j e = cc

-- of two widths one divides the other
abbrev Divides : ℕ → ℕ → Type 0
Divides M n = (k : ℕ) × ((n ≡ M * k) ⊎ (M ≡ n * k))

widths_divide : (M n : ℕ) → IsWidth M → IsWidth n → Divides M n
widths_divide M n wM wn =
    by_width (λ M. Divides M n) M wM
    (by_width (λ n. Divides 1 n) n wn (1, inl refl) (2, inl refl) (4, inl refl) (8, inl refl))
    (by_width (λ n. Divides 2 n) n wn (2, inr refl) (1, inl refl) (2, inl refl) (4, inl refl))
    (by_width (λ n. Divides 4 n) n wn (4, inr refl) (2, inr refl) (1, inl refl) (2, inl refl))
    (by_width (λ n. Divides 8 n) n wn (8, inr refl) (4, inr refl) (2, inr refl) (1, inl refl))

mod_le : (i n : ℕ) → i % n ≤ i
mod_le i n = omega (arith, div-add-mod' i n)

mod_in : (i n : ℕ) → IsWidth n → i % n < n
mod_in i n w = by_width (λ n. i % n < n) n w (omega arith) (omega arith) (omega arith) (omega arith)

finer : (M x k p n off start A : ℕ) → A ≡ start + M * x → n ≡ M * k → off + A + n * p ≡ off + start + M * (x + k * p)
finer M x k p n off start A a e = omega (arith, ap (λ z. z * p) e)

coarser : (M x k p n off start A : ℕ) → A ≡ start + M * x → M ≡ n * k → off + A + n * p ≡ off + start + n * (k * x + p)
coarser M x k p n off start A a e = omega (arith, ap (λ z. z * x) e)

-- what a byte-addressed map makes of a byte-addressed child
pub spaced_byte : (off A B c n i j p q : ℕ) → IsWidth n → Spaced A B i j → Spaced (off + A + n * p) (off + B + n * q) (i % n) (j % n)
spaced_byte off A B c n i j p q w sp =
    let d = widths_divide sp.step n sp.width w in
    elim d.1 [
      | inl e ↦ record {
        step = sp.step;
        width = sp.width;
        start = off + sp.start;
        steps_a = sp.steps_a + d.0 * p;
        steps_b = sp.steps_b + d.0 * q;
        a_is = finer sp.step sp.steps_a d.0 p n off sp.start A sp.a_is e;
        b_is = finer sp.step sp.steps_b d.0 q n off sp.start B sp.b_is e;
        i_in = omega (arith, sp.i_in, mod_le i n);
        j_in = omega (arith, sp.j_in, mod_le j n);
      }
      | inr e ↦ record {
        step = n;
        width = w;
        start = off + sp.start;
        steps_a = d.0 * sp.steps_a + p;
        steps_b = d.0 * sp.steps_b + q;
        a_is = coarser sp.step sp.steps_a d.0 p n off sp.start A sp.a_is e;
        b_is = coarser sp.step sp.steps_b d.0 q n off sp.start B sp.b_is e;
        i_in = mod_in i n w;
        j_in = mod_in j n w;
      }
    ]

-- what a byte-addressed map makes of a word-addressed child
pub spaced_word : (off A B c n i j p q : ℕ) → IsWidth n → Spaced (off + A * c * n + n * p) (off + B * c * n + n * q) (i % n) (j % n)
spaced_word off A B c n i j p q w = record {
  step = n;
  width = w;
  start = off;
  steps_a = A * c + p;
  steps_b = B * c + q;
  a_is = omega arith;
  b_is = omega arith;
  i_in = mod_in i n w;
  j_in = mod_in j n w;
}
