-- The words of a description.
use Rattle.std.specs.Prelude.{ℕ, List, [], ◌∷◌, codes, find, Option, Some, None, if◌then◌else◌}
use Rattle.std.specs.Str.{bytes_eq}
use Rattle.rl_policy.specs.declared.policy.Policy.{Policy}
use Rattle.rl_policy.specs.declared.policy.Policy.TheVariants.{Ro, Rw, Rc, Rs, Wrc, Wrs, Wc, Ws, Wsrc, Wcrs, W1c, W1s, W1t, W0c, W0s, W0t, W1src, W1crs, W0src, W0crs, Wo, Woc, Wos, W1, Wo1}
use Rattle.rl_policy.specs.Names.{name_of}
use Rattle.rl_model.specs.declared.sets.Rights.{Rights}
use Rattle.rl_model.specs.declared.sets.Skip.{Skip}
use Rattle.rl_map.specs.declared.path.Kind.{Kind}
use Rattle.rl_map.specs.declared.path.Kind.TheVariants as kind
use Rattle.rl_desc.specs.declared.words.Access.{Access}
use Rattle.rl_desc.specs.declared.words.Access.TheVariants as access
use Rattle.rl_desc.specs.declared.words.Addressing.{Addressing}
use Rattle.rl_desc.specs.declared.words.Addressing.TheVariants as addressing
use Rattle.rl_desc.specs.declared.words.Predict.{Predict}
use Rattle.rl_desc.specs.declared.words.Predict.TheVariants as predict
use Rattle.rl_desc.specs.declared.words.FlawKind.{FlawKind}
use Rattle.rl_desc.specs.declared.words.FlawKind.TheVariants as flaw_kind

abbrev pub policies : List Policy
policies =
    Ro ∷ Rw ∷ Rc ∷ Rs ∷ Wrc ∷ Wrs ∷ Wc ∷ Ws ∷ Wsrc ∷ Wcrs ∷ W1c ∷ W1s ∷ W1t ∷ W0c ∷ W0s ∷ W0t
    ∷ W1src ∷ W1crs ∷ W0src ∷ W0crs ∷ Wo ∷ Woc ∷ Wos ∷ W1 ∷ Wo1 ∷ []

-- the policy of a name
unfoldable pub policy_named : List ℕ → Option Policy
policy_named name = find (λ p. bytes_eq (name_of p) name) policies

-- the order of bytes of a map, and whether its words share an address
abbrev pub kind_named : List ℕ → Option Kind
kind_named s =
    if bytes_eq s (codes "little") then Some kind.Little
    else if bytes_eq s (codes "big") then Some kind.Big
    else if bytes_eq s (codes "little-fifo") then Some kind.LittleFifo
    else if bytes_eq s (codes "big-fifo") then Some kind.BigFifo
    else None

abbrev pub access_named : List ℕ → Option Access
access_named s =
    if bytes_eq s (codes "rw") then Some access.ReadWrite
    else if bytes_eq s (codes "ro") then Some access.ReadOnly
    else None

abbrev pub addressing_named : List ℕ → Option Addressing
addressing_named s =
    if bytes_eq s (codes "byte") then Some addressing.Byte
    else if bytes_eq s (codes "word") then Some addressing.Word
    else None

-- rights as a set: bit 0 to read, bit 1 to write
abbrev pub rights : ℕ → Rights
rights bits = record { bits = bits }

abbrev pub rights_named : List ℕ → Option Rights
rights_named s =
    if bytes_eq s (codes "rw") then Some (rights 3)
    else if bytes_eq s (codes "ro") then Some (rights 1)
    else if bytes_eq s (codes "wo") then Some (rights 2)
    else None

abbrev pub predict_named : List ℕ → Option Predict
predict_named s =
    if bytes_eq s (codes "implicit") then Some predict.Implicit
    else if bytes_eq s (codes "explicit") then Some predict.Explicit
    else None

abbrev pub flaw_kind_named : List ℕ → Option FlawKind
flaw_kind_named s =
    if bytes_eq s (codes "policy") then Some flaw_kind.OtherPolicy
    else if bytes_eq s (codes "reset") then Some flaw_kind.OtherReset
    else if bytes_eq s (codes "stuck") then Some flaw_kind.Stuck
    else if bytes_eq s (codes "error-range") then Some flaw_kind.ErrorRange
    else if bytes_eq s (codes "error-nth") then Some flaw_kind.ErrorNth
    else if bytes_eq s (codes "deaf") then Some flaw_kind.Deaf
    else None

-- exclusions as a set
abbrev pub skip : ℕ → Skip
skip bits = record { bits = bits }

-- one exclusion, as the set that holds it alone
abbrev pub exclusion_named : List ℕ → Option Skip
exclusion_named s =
    if bytes_eq s (codes "NO_REG_TESTS") then Some (skip 1)
    else if bytes_eq s (codes "NO_REG_HW_RESET_TEST") then Some (skip 2)
    else if bytes_eq s (codes "NO_REG_BIT_BASH_TEST") then Some (skip 4)
    else if bytes_eq s (codes "NO_REG_ACCESS_TEST") then Some (skip 8)
    else if bytes_eq s (codes "NO_REG_SHARED_ACCESS_TEST") then Some (skip 16)
    else if bytes_eq s (codes "NO_MEM_WALK_TEST") then Some (skip 32)
    else None
