-- Several items on the bits of one register, of which no two have a lane in common: each bit is touched once.
use Rattle.std.proofs.Common.{◌≡◌, Bool, true, false, ◌||◌, Option, Some, None, refl, arith}
use Rattle.rl_policy.specs.declared.policy.Policy.{Policy}
use Rattle.rl_policy.specs.Access.{bit_written, mark_written, bit_left}

-- one bit under two items, of which one at most has its lane
pub two_bits : (o : Option Policy) (x s v w l t : Bool) → (l ≡ true → (v ≡ w) × (t ≡ false)) → bit_written o (bit_written o x s v l) (mark_written o s l) w t ≡ bit_written o x s w (l || t)
two_bits None x s v w l t once = refl
two_bits (Some p) x s v w true t once = grind arith
two_bits (Some p) x s v w false t once = grind arith

pub two_marks : (o : Option Policy) (s l t : Bool) → mark_written o (mark_written o s l) t ≡ mark_written o s (l || t)
two_marks None s l t = refl
two_marks (Some p) s l t = grind arith

pub none_bit : (o : Option Policy) (x s w : Bool) → x ≡ bit_written o x s w false
none_bit None x s w = refl
none_bit (Some p) x s w = refl

pub none_mark : (o : Option Policy) (s : Bool) → s ≡ mark_written o s false
none_mark None s = refl
none_mark (Some p) true = refl
none_mark (Some p) false = refl

pub two_reads : (o : Option Policy) (x l t : Bool) → (l ≡ true → t ≡ false) → bit_left o (bit_left o x l) t ≡ bit_left o x (l || t)
two_reads None x l t once = refl
two_reads (Some p) x true t once = grind arith
two_reads (Some p) x false t once = grind arith

pub none_left : (o : Option Policy) (x : Bool) → x ≡ bit_left o x false
none_left None x = refl
none_left (Some p) x = refl
