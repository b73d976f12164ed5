-- The table of policies, for one bit of a field: c is the stored bit, w the written one, d the desired
-- and m the mirrored one, and s the spent mark.
use Rattle.std.specs.Prelude.{Bool, true, false, not, ◌&&◌, ◌||◌, if◌then◌else◌}
use Rattle.rl_policy.specs.declared.policy.Policy.{Policy}
use Rattle.rl_policy.specs.declared.policy.Policy.TheVariants.{Ro, Rw, Rc, Rs, Wrc, Wrs, Wc, Ws, Wsrc, Wcrs, W1c, W1s, W1t, W0c, W0s, W0t, W1src, W1crs, W0src, W0crs, Wo, Woc, Wos, W1, Wo1}

-- one of two, and not both
abbrev pub either_alone : Bool → Bool → Bool
either_alone true b = not b
either_alone false b = b

-- A write's effect on one bit of a field, by its policy (uvm_reg_field, IEEE 1800.2-2017, 18.5).
abbrev pub after_write : Policy → Bool → Bool → Bool → Bool
after_write Ro c w s = c
after_write Rw c w s = w
after_write Rc c w s = c
after_write Rs c w s = c
after_write Wrc c w s = w
after_write Wrs c w s = w
after_write Wc c w s = false
after_write Ws c w s = true
after_write Wsrc c w s = true
after_write Wcrs c w s = false
after_write W1c c w s = c && not w
after_write W1s c w s = c || w
after_write W1t c w s = either_alone c w
after_write W0c c w s = c && w
after_write W0s c w s = c || not w
after_write W0t c w s = either_alone c (not w)
after_write W1src c w s = c || w
after_write W1crs c w s = c && not w
after_write W0src c w s = c || not w
after_write W0crs c w s = c && w
after_write Wo c w s = w
after_write Woc c w s = false
after_write Wos c w s = true
after_write W1 c w s = if s then c else w
after_write Wo1 c w s = if s then c else w

-- A read's effect on one bit of a field, by its policy (uvm_reg_field, IEEE 1800.2-2017, 18.5).
abbrev pub after_read : Policy → Bool → Bool
after_read Ro c = c
after_read Rw c = c
after_read Rc c = false
after_read Rs c = true
after_read Wrc c = false
after_read Wrs c = true
after_read Wc c = c
after_read Ws c = c
after_read Wsrc c = false
after_read Wcrs c = true
after_read W1c c = c
after_read W1s c = c
after_read W1t c = c
after_read W0c c = c
after_read W0s c = c
after_read W0t c = c
after_read W1src c = false
after_read W1crs c = true
after_read W0src c = false
after_read W0crs c = true
after_read Wo c = c
after_read Woc c = c
after_read Wos c = c
after_read W1 c = c
after_read Wo1 c = c

-- The policies whose fields read as 0. That a write-only field does is this project's own.
abbrev pub is_write_only : Policy → Bool
is_write_only Wo = true
is_write_only Woc = true
is_write_only Wos = true
is_write_only Wo1 = true
is_write_only _ = false

-- What a read answers of one bit of a field: the stored bit, or 0 of a write-only field, which is this project's own.
abbrev pub value_read : Policy → Bool → Bool
value_read p c = if is_write_only p then false else c

-- The policies that take the first write after a hard reset alone (W1 and WO1 of uvm_reg_field, IEEE 1800.2-2017,
-- 18.5).
abbrev pub spends_mark : Policy → Bool
spends_mark W1 = true
spends_mark Wo1 = true
spends_mark _ = false

-- The bit to write so that the desired one results, where the policy can reach it: this project's own.
abbrev pub update_bit : Policy → Bool → Bool → Bool
update_bit W1c d m = not d
update_bit W1t d m = either_alone d m
update_bit W0s d m = not d
update_bit W0t d m = not (either_alone d m)
update_bit W1crs d m = not d
update_bit W0src d m = not d
update_bit _ d m = d

-- The bit to write so that a field stays as it is, where its policy allows that: this project's own.
abbrev pub neutral_bit : Policy → Bool → Bool
neutral_bit Rw m = m
neutral_bit Wrc m = m
neutral_bit Wrs m = m
neutral_bit Wc m = m
neutral_bit Ws m = m
neutral_bit Wsrc m = m
neutral_bit Wcrs m = m
neutral_bit Wo m = m
neutral_bit Woc m = m
neutral_bit Wos m = m
neutral_bit W1 m = m
neutral_bit Wo1 m = m
neutral_bit W0c m = true
neutral_bit W0s m = true
neutral_bit W0t m = true
neutral_bit W0src m = true
neutral_bit W0crs m = true
neutral_bit _ m = false
