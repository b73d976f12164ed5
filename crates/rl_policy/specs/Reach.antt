-- Which desired bits an update can reach.
use Rattle.std.specs.Prelude.{◌≡◌, ◌↔◌, Bool, true, not, ◌||◌, IsTrue, false}
use Rattle.std.specs.Bool.{beq}
use Rattle.rl_policy.specs.Table.{after_write, update_bit}
use Rattle.rl_policy.specs.declared.policy.Policy.{Policy}
use Rattle.rl_policy.specs.declared.policy.Policy.TheVariants.{Ro, Rw, Rc, Rs, Wrc, Wrs, Wc, Ws, Wsrc, Wcrs, W1c, W1s, W1t, W0c, W0s, W0t, W1src, W1crs, W0src, W0crs, Wo, Woc, Wos, W1, Wo1}

-- A write can turn the mirrored bit m into the desired bit d, at the spent mark s: this project's own.
abbrev pub is_reached : Policy → Bool → Bool → Bool → Bool
is_reached Ro m d s = beq d m
is_reached Rw m d s = true
is_reached Rc m d s = beq d m
is_reached Rs m d s = beq d m
is_reached Wrc m d s = true
is_reached Wrs m d s = true
is_reached Wc m d s = not d
is_reached Ws m d s = d
is_reached Wsrc m d s = d
is_reached Wcrs m d s = not d
is_reached W1c m d s = not d || m
is_reached W1s m d s = d || not m
is_reached W1t m d s = true
is_reached W0c m d s = not d || m
is_reached W0s m d s = d || not m
is_reached W0t m d s = true
is_reached W1src m d s = d || not m
is_reached W1crs m d s = not d || m
is_reached W0src m d s = d || not m
is_reached W0crs m d s = not d || m
is_reached Wo m d s = true
is_reached Woc m d s = not d
is_reached Wos m d s = d
is_reached W1 m d s = not s || beq d m
is_reached Wo1 m d s = not s || beq d m

-- the law of updates: the update word leaves the desired bit exactly where it can be reached
abbrev pub UpdateReaches : Type 0
UpdateReaches =
    (p : Policy) (m d s : Bool) → (after_write p m (update_bit p d m) s ≡ d) ↔ IsTrue (is_reached p m d s)

-- the policies under which a write gives the same bit whatever was there and whatever is written
abbrev pub is_one_sided : Policy → Bool
is_one_sided Wc = true
is_one_sided Wcrs = true
is_one_sided Woc = true
is_one_sided Ws = true
is_one_sided Wsrc = true
is_one_sided Wos = true
is_one_sided _ = false

-- what keeps desired bits in reach: a prediction, which makes them the mirrored ones; `set`; and a hard reset
pub record KeepsReach : Type 0 where
  pub predicted : (p : Policy) (m s : Bool) → is_one_sided p ≡ false → IsTrue (is_reached p m m s)
  pub set : (p : Policy) (m d v s : Bool)
      → IsTrue (is_reached p m d s)
      → IsTrue (is_reached p m (after_write p d v s) s)
  pub set_one_sided : (p : Policy) (m d v s : Bool)
      → is_one_sided p ≡ true
      → IsTrue (is_reached p m (after_write p d v s) s)
  pub fresh : (p : Policy) (m d s : Bool) → IsTrue (is_reached p m d s) → IsTrue (is_reached p m d false)
