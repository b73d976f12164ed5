-- The names of the policies.
use Rattle.std.specs.Prelude.{ℕ, List, codes}
use Rattle.rl_policy.specs.declared.policy.Policy.{Policy}
use Rattle.rl_policy.specs.declared.policy.Policy.TheVariants.{Ro, Rw, Rc, Rs, Wrc, Wrs, Wc, Ws, Wsrc, Wcrs, W1c, W1s, W1t, W0c, W0s, W0t, W1src, W1crs, W0src, W0crs, Wo, Woc, Wos, W1, Wo1}

-- The bytes of the policy's name, in capitals (uvm_reg_field, IEEE 1800.2-2017, 18.5).
abbrev pub name_of : Policy → List ℕ
name_of Ro = codes "RO"
name_of Rw = codes "RW"
name_of Rc = codes "RC"
name_of Rs = codes "RS"
name_of Wrc = codes "WRC"
name_of Wrs = codes "WRS"
name_of Wc = codes "WC"
name_of Ws = codes "WS"
name_of Wsrc = codes "WSRC"
name_of Wcrs = codes "WCRS"
name_of W1c = codes "W1C"
name_of W1s = codes "W1S"
name_of W1t = codes "W1T"
name_of W0c = codes "W0C"
name_of W0s = codes "W0S"
name_of W0t = codes "W0T"
name_of W1src = codes "W1SRC"
name_of W1crs = codes "W1CRS"
name_of W0src = codes "W0SRC"
name_of W0crs = codes "W0CRS"
name_of Wo = codes "WO"
name_of Woc = codes "WOC"
name_of Wos = codes "WOS"
name_of W1 = codes "W1"
name_of Wo1 = codes "WO1"
