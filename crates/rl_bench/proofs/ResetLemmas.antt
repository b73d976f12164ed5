-- A reset, field by field.
use Rattle.std.proofs.Common.{◌≡◌, ℕ, ◌-◌, Bool, true, false, not, ◌&&◌, ◌||◌, cond, refl, ap, ◌∙◌, Option, Some, None, is_some}
use Rattle.std.specs.Option.{option_or}
use Rattle.rl_bus.specs.Setup.{Setup, field_of, reset_of}
use Rattle.rl_bus.specs.State.{reset_bit, value_bit}

pub right_true : (x y : Bool) → (x && y) ≡ true → y ≡ true
right_true true y h = h
right_true false true h = refl
right_true false false h = h

pub taken_bit : (o : Option ℕ) (c : Bool) (k : ℕ) → (is_some o || (c && not (is_some o))) ≡ is_some (option_or o (cond c (Some k) None))
taken_bit (Some j) c k = refl
taken_bit None true k = refl
taken_bit None false k = refl

pub word_bit : (t : Setup) (kind k b lsb : ℕ) (x w c : Bool) (o v : Option ℕ) → w ≡ reset_bit t kind o b x → v ≡ reset_of t k kind
    → lsb ≡ (field_of t k).lsb → cond (c && not (is_some o)) (value_bit v (b - lsb) w) w ≡ reset_bit t kind (option_or o (cond c (Some k) None)) b x
word_bit t kind k b lsb x w true (Some j) v h e f = h
word_bit t kind k b lsb x w false (Some j) v h e f = h
word_bit t kind k b lsb x w false None v h e f = h
word_bit t kind k b lsb x w true None v h e f =
    ap (value_bit v (b - lsb)) h ∙ ap (λ u. value_bit u (b - lsb) x) e ∙ ap (λ n. value_bit (reset_of t k kind) (b - n) x) f
