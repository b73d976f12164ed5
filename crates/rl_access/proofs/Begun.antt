-- What the access of an operation that was granted begins with.
use Rattle.std.proofs.Common.{◌≡◌, ℕ, ◌^◌, ◌*◌, ◌<◌, List, Option, None, Some, Ok, true, false, length, refl, sym, ap, ◌∙◌, subst, inl, inr}
use borrow.Author.Tests.{ltb-true}
use Rattle.rl_bus.specs.Standing.{Standing}
use Rattle.rl_bus.specs.State.{State}
use Rattle.rl_map.specs.Layout.{LayoutData, place_at}
use Rattle.rl_model.specs.Fields.{field_of, size_of}
use Rattle.rl_model.specs.declared.rows.Item.TheVariants as item
use Rattle.rl_access.specs.declared.access.Access.{Access}
use Rattle.rl_access.specs.declared.event.End.{End}
use Rattle.rl_access.specs.declared.event.End.TheVariants as end
use Rattle.rl_access.specs.declared.event.Op.{Op}
use Rattle.rl_access.specs.declared.event.Op.TheVariants as op
use Rattle.rl_access.specs.declared.event.Refused.TheVariants.{OutOfRange, TooWide}
use Rattle.rl_access.specs.Access.{IsAccessFor, IsAccessOn}
use Rattle.rl_access.specs.Event.{IsTold, IsToldFor}
use Rattle.rl_access.specs.Model.{ModelData, IsReady, IsReadyFor, IsSameChip}
use Rattle.rl_access.specs.Operation.{HasNumbers, digits_of, ends_with_value, has_end, location_size, reg_of, register_of}
use Rattle.rl_access.specs.Rules.{at_location, grant, memory_size, named, watched_way, way, writable}
use Rattle.rl_access.proofs.Carried.{IsPlainRead, IsPlainWrite}
use Rattle.rl_access.proofs.Granted.{only_ok}
use Rattle.rl_access.proofs.MemoryPerforms.{IsLocationRead}

-- ---- the model that it begins from has the chip and the layout of the operation's

pub record IsEntered (entry : ModelData) (standings : List Standing) (state : Option State) (a : Access) (name : Op) : Type 0 where
  pub ready : IsReady entry standings state
  pub access : IsAccessOn entry a
  pub told : IsTold entry name a.reg

pub ready_same : {standings : List Standing} {state : Option State} (m entry : ModelData) → IsSameChip m entry → IsReadyFor m.chip m.layout standings state → IsReady entry standings state
ready_same {standings} {state} m entry same ready =
    subst (λ c. IsReadyFor c entry.layout standings state) (sym same.chip) (subst (λ l. IsReadyFor m.chip l standings state) (sym same.layout) ready)

access_same : (m entry : ModelData) (a : Access) → IsSameChip m entry → IsAccessOn m a → IsAccessOn entry a
access_same m entry a same on = subst (λ c. IsAccessFor c entry.layout a) (sym same.chip) (subst (λ l. IsAccessFor m.chip l a) (sym same.layout) on)

told_same : (m entry : ModelData) (told : Op) (reg : ℕ) → IsSameChip m entry → IsTold m told reg → IsTold entry told reg
told_same m entry told reg same is =
    subst (λ c. IsToldFor c (length entry.layout.maps) told reg) (sym same.chip) (subst (λ (l : LayoutData). IsToldFor m.chip (length l.maps) told reg) (sym same.layout) is)

pub entered : {standings : List Standing} {state : Option State} (m entry : ModelData) (a : Access) (told : Op) → IsSameChip m entry → IsReadyFor m.chip m.layout standings state → IsAccessOn m a →
    IsTold m told a.reg → IsEntered entry standings state a told
entered m entry a told same ready on is = record { ready = ready_same m entry same ready; access = access_same m entry a same on; told = told_same m entry told a.reg same is }

-- ---- the operation's name is one of this register, and may end so

pub record IsNamedFor (m : ModelData) (told : Op) (reg : ℕ) : Type 0 where
  pub register : register_of m.chip told ≡ Some reg
  pub errors : (k : ℕ) → has_end told (end.BusError k) ≡ true

pub is_told : (m : ModelData) (told : Op) (reg at : ℕ) → IsNamedFor m told reg → HasNumbers m.chip (length m.layout.maps) told → at ≡ reg → at < length m.chip.regs → IsTold m told at
is_told m told reg at names numbers same inside = record { reg_in = inside; register = names.register ∙ ap Some (sym same); numbers = numbers; errors = names.errors }

pub record IsWriteNamed (m : ModelData) (told : Op) (reg : ℕ) (good : End) : Type 0 where
  pub names : IsNamedFor m told reg
  pub ends : has_end told good ≡ true

pub record IsReadNamed (m : ModelData) (told : Op) (reg : ℕ) : Type 0 where
  pub names : IsNamedFor m told reg
  pub ends : (value : ℕ) → has_end told (end.Value value) ≡ true
  pub digits : digits_of m.chip told ≡ 2 * size_of m.chip reg

pub plain_write_named : (m : ModelData) (o told : Op) (reg value : ℕ) → IsPlainWrite o reg value → told ≡ named m o → IsWriteNamed m told reg end.Done
plain_write_named m o told reg value (inl is) names =
    subst (λ x. IsWriteNamed m x reg end.Done) (sym (names ∙ ap (named m) is.1)) (record { names = record { register = refl; errors = λ k. refl }; ends = refl })
plain_write_named m o told reg value (inr is) names =
    subst (λ x. IsWriteNamed m x reg end.Done) (sym (names ∙ ap (named m) is.1)) (record { names = record { register = refl; errors = λ k. refl }; ends = refl })

pub field_write_named : (m : ModelData) (told : Op) (field value : ℕ) (map : Option ℕ) → told ≡ named m (op.FieldWrite field map value) → IsWriteNamed m told (reg_of m.chip field) end.Done
field_write_named m told field value map names =
    subst (λ x. IsWriteNamed m x (reg_of m.chip field) end.Done) (sym names) (record { names = record { register = refl; errors = λ k. refl }; ends = refl })

pub update_named : (m : ModelData) (told : Op) (reg word : ℕ) (map : Option ℕ) → told ≡ named m (op.Update reg map) → IsWriteNamed m told reg (end.Sent word)
update_named m told reg word map names =
    subst (λ x. IsWriteNamed m x reg (end.Sent word)) (sym names) (record { names = record { register = refl; errors = λ k. refl }; ends = refl })

pub plain_read_named : (m : ModelData) (o told : Op) (reg : ℕ) → IsPlainRead o reg → told ≡ named m o → IsReadNamed m told reg
plain_read_named m o told reg (inl is) names =
    subst (λ x. IsReadNamed m x reg) (sym (names ∙ ap (named m) is.1)) (record { names = record { register = refl; errors = λ k. refl }; ends = λ v. refl; digits = refl })
plain_read_named m o told reg (inr (inl is)) names =
    subst (λ x. IsReadNamed m x reg) (sym (names ∙ ap (named m) is.1)) (record { names = record { register = refl; errors = λ k. refl }; ends = λ v. refl; digits = refl })
plain_read_named m o told reg (inr (inr is)) names =
    subst (λ x. IsReadNamed m x reg) (sym (names ∙ ap (named m) is.1)) (record { names = record { register = refl; errors = λ k. refl }; ends = λ v. refl; digits = refl })

pub check_named : (m : ModelData) (told : Op) (reg : ℕ) (map : Option ℕ) → told ≡ named m (op.Check reg map) → IsReadNamed m told reg
check_named m told reg map names =
    subst (λ x. IsReadNamed m x reg) (sym names) (record { names = record { register = refl; errors = λ k. refl }; ends = λ v. refl; digits = refl })

-- ---- its digits are those of the place's bytes

pub place_digits : (m entry : ModelData) (told : Op) (reg : ℕ) (a it : Access) → IsReadNamed m told reg → entry.chip ≡ m.chip → entry.layout ≡ m.layout → a ≡ it →
    16 ^ (2 * size_of m.chip reg) ≡ 256 ^ (place_at m.layout it.place).bytes → 16 ^ digits_of entry.chip told ≡ 256 ^ (place_at entry.layout a.place).bytes
place_digits m entry told reg a it names chip layout same digits =
    ap (λ c. 16 ^ digits_of c told) chip
    ∙ ap (λ n. 16 ^ n) names.digits
    ∙ digits
    ∙ ap (λ l. 256 ^ (place_at l it.place).bytes) (sym layout)
    ∙ ap (λ (x : Access). 256 ^ (place_at entry.layout x.place).bytes) (sym same)

-- ---- its number is in range, and its value fits

pub plain_read_inside : (m : ModelData) (o : Op) (reg : ℕ) → IsPlainRead o reg → HasNumbers m.chip (length m.layout.maps) o → reg < length m.chip.regs
plain_read_inside m o reg (inl is) numbers = (subst (HasNumbers m.chip (length m.layout.maps)) is.1 numbers).0
plain_read_inside m o reg (inr (inl is)) numbers = (subst (HasNumbers m.chip (length m.layout.maps)) is.1 numbers).0
plain_read_inside m o reg (inr (inr is)) numbers = (subst (HasNumbers m.chip (length m.layout.maps)) is.1 numbers).0

pub plain_write_inside : (m : ModelData) (o : Op) (reg value : ℕ) → IsPlainWrite o reg value → HasNumbers m.chip (length m.layout.maps) o → reg < length m.chip.regs
plain_write_inside m o reg value (inl is) numbers = (subst (HasNumbers m.chip (length m.layout.maps)) is.1 numbers).0
plain_write_inside m o reg value (inr is) numbers = (subst (HasNumbers m.chip (length m.layout.maps)) is.1 numbers).0

pub plain_write_fits : (m : ModelData) (o : Op) (reg value place : ℕ) → IsPlainWrite o reg value → grant m o ≡ Ok place → value < 256 ^ size_of m.chip reg
plain_write_fits m o reg value place (inl is) granted =
    let both = only_ok (way m (item.Reg reg) is.0 true) _ TooWide place (sym (ap (grant m) is.1) ∙ granted) in ltb-true value (256 ^ size_of m.chip reg) both.1
plain_write_fits m o reg value place (inr is) granted =
    let both = only_ok (watched_way m reg is.0 true) _ TooWide place (sym (ap (grant m) is.1) ∙ granted) in ltb-true value (256 ^ size_of m.chip reg) both.1

pub field_write_fits : (m : ModelData) (field value place : ℕ) (map : Option ℕ) → grant m (op.FieldWrite field map value) ≡ Ok place → value < 2 ^ (field_of m.chip field).shape.width
field_write_fits m field value place map granted =
    let both = only_ok (way m (item.Reg (reg_of m.chip field)) map true) _ TooWide place granted in ltb-true value (2 ^ (field_of m.chip field).shape.width) both.1

-- ---- a location of a memory

pub write_location_in : (m : ModelData) (mem index value place : ℕ) (map : Option ℕ) → grant m (op.MemWrite mem map index value) ≡ Ok place →
    (index < memory_size m.chip mem) × (value < 256 ^ location_size m.chip mem)
write_location_in m mem index value place map granted =
    let fits = only_ok (at_location m mem index (writable m mem (way m (item.Mem mem) map true))) _ TooWide place granted in
    let inside = only_ok (writable m mem (way m (item.Mem mem) map true)) _ OutOfRange place fits.0 in
    (ltb-true index (memory_size m.chip mem) inside.1, ltb-true value (256 ^ location_size m.chip mem) fits.1)

pub read_location_in : (m : ModelData) (o : Op) (mem index place : ℕ) → IsLocationRead o mem index → grant m o ≡ Ok place → index < memory_size m.chip mem
read_location_in m o mem index place (inl is) granted =
    let inside = only_ok (way m (item.Mem mem) is.0 false) _ OutOfRange place (sym (ap (grant m) is.1) ∙ granted) in ltb-true index (memory_size m.chip mem) inside.1
read_location_in m o mem index place (inr is) granted =
    let fits = only_ok (at_location m mem index (way m (item.Mem mem) is.0 false)) _ TooWide place (sym (ap (grant m) is.2) ∙ granted) in
    let inside = only_ok (way m (item.Mem mem) is.0 false) _ OutOfRange place fits.0 in ltb-true index (memory_size m.chip mem) inside.1

pub read_mem_inside : (m : ModelData) (o : Op) (mem index : ℕ) → IsLocationRead o mem index → HasNumbers m.chip (length m.layout.maps) o → mem < length m.chip.mems
read_mem_inside m o mem index (inl is) numbers = (subst (HasNumbers m.chip (length m.layout.maps)) is.1 numbers).0
read_mem_inside m o mem index (inr is) numbers = (subst (HasNumbers m.chip (length m.layout.maps)) is.2 numbers).0

-- its name is that of a read of the memory
pub record IsLocationNamed (m : ModelData) (told : Op) (mem : ℕ) : Type 0 where
  pub register : register_of m.chip told ≡ None
  pub ends : (e : End) → has_end told e ≡ ends_with_value e
  pub digits : digits_of m.chip told ≡ 2 * location_size m.chip mem

pub location_read_named : (m : ModelData) (o told : Op) (mem index : ℕ) → IsLocationRead o mem index → told ≡ named m o → IsLocationNamed m told mem
location_read_named m o told mem index (inl is) names =
    subst (λ x. IsLocationNamed m x mem) (sym (names ∙ ap (named m) is.1)) (record { register = refl; ends = λ e. refl; digits = refl })
location_read_named m o told mem index (inr is) names =
    subst (λ x. IsLocationNamed m x mem) (sym (names ∙ ap (named m) is.2)) (record { register = refl; ends = λ e. refl; digits = refl })
