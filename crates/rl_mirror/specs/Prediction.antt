-- What accesses, resets and `set` do to what is believed of a register.
use Rattle.std.specs.Prelude.{ℕ, ◌+◌, ◌-◌, Bool, false, not, ◌&&◌, ◌||◌, ◌==◌, if◌then◌else◌, List, length, map, replicate, slice_set, get_or}
use Rattle.std.specs.List.{range_with_len}
use Rattle.std.specs.Option.{option_map_or}
use Rattle.rl_policy.specs.Bits.{bit, put_bit, from_bits}
use Rattle.rl_policy.specs.Table.{after_write, after_read, value_read, update_bit, neutral_bit, is_write_only, spends_mark}
use Rattle.rl_policy.specs.declared.policy.Policy.{Policy}
use Rattle.rl_model.specs.Chip.{value_for}
use Rattle.rl_model.specs.Rows.{FieldSeen, ChipData}
use Rattle.rl_model.specs.Fields.{field_of, first_of, fields_of, field_in, policy_in}
use Rattle.rl_mirror.specs.Fields.{word_by_field, owned}
use Rattle.rl_mirror.specs.Mirror.{MirrorData, mirrored_of, desired_of, marks_in, is_spent}

-- ---- words of a register, by its fields; `marks k` is the spent mark of the k-th field

-- The bits after a write of a word, each by the policy of its field (uvm_reg_field, IEEE 1800.2-2017, 18.5).
unfoldable pub written : List FieldSeen → (marks : ℕ → Bool) → (bits word : ℕ) → ℕ
written fields marks bits word =
    word_by_field fields (λ k b. after_write (policy_in fields k) (bit bits b) (bit word b) (marks k))

-- What a read answers.
unfoldable pub shown : List FieldSeen → ℕ → ℕ
shown fields bits = word_by_field fields (λ k b. value_read (policy_in fields k) (bit bits b))

-- The bits after a read, each by the policy of its field (uvm_reg_field, IEEE 1800.2-2017, 18.5).
unfoldable pub left_by_read : List FieldSeen → ℕ → ℕ
left_by_read fields bits = word_by_field fields (λ k b. after_read (policy_in fields k) (bit bits b))

-- The word that brings the mirrored bits to the desired ones, where their policies can reach them: this project's own.
unfoldable pub update_word : List FieldSeen → (desired mirrored : ℕ) → ℕ
update_word fields desired mirrored =
    word_by_field fields (λ k b. update_bit (policy_in fields k) (bit desired b) (bit mirrored b))

-- The word that leaves the fields as they are, where their policies allow that: this project's own.
unfoldable pub neutral_word : List FieldSeen → ℕ → ℕ
neutral_word fields mirrored = word_by_field fields (λ k b. neutral_bit (policy_in fields k) (bit mirrored b))

-- ---- values that an access to the chosen fields brings; those of other fields are kept

unfoldable pub learned_by_write : List FieldSeen → (chosen marks : ℕ → Bool) → (mirrored word kept : ℕ) → ℕ
learned_by_write fields chosen marks mirrored word kept =
    word_by_field fields (λ k b.
    if chosen k then after_write (policy_in fields k) (bit mirrored b) (bit word b) (marks k) else bit kept b)

-- What is known of a bit after a read. That a read tells nothing of a write-only field is this project's own.
abbrev pub learned_bit : Policy → (read kept : Bool) → Bool
learned_bit p read kept = if is_write_only p then kept else after_read p read

-- the bits of the chosen fields of which a read tells
abbrev pub told_bits : List FieldSeen → (chosen : ℕ) → ℕ
told_bits fields chosen = word_by_field fields (λ k b. bit chosen k && not (is_write_only (policy_in fields k)))

unfoldable pub learned_by_read : List FieldSeen → (chosen : ℕ → Bool) → (read kept : ℕ) → ℕ
learned_by_read fields chosen read kept =
    word_by_field fields (λ k b.
    if chosen k then learned_bit (policy_in fields k) (bit read b) (bit kept b) else bit kept b)

-- ---- a reset

abbrev pub reset_bit : FieldSeen → (kind b : ℕ) → Bool → Bool
reset_bit f kind b kept = option_map_or (λ v. bit v (b - f.shape.lsb)) (value_for kind f.resets) kept

-- Each field with a value for the kind takes it (uvm_reg_field::reset, IEEE 1800.2-2017, 18.5).
unfoldable pub after_reset : List FieldSeen → (kind kept : ℕ) → ℕ
after_reset fields kind kept = word_by_field fields (λ k b. reset_bit (field_in fields k) kind b (bit kept b))

-- ---- the mirror of the whole chip

-- a register gets a mirrored and a desired value
abbrev pub with_values : MirrorData → (reg mirrored desired : ℕ) → MirrorData
with_values m reg mirrored desired =
    record m { mirrored = slice_set m.mirrored reg mirrored; desired = slice_set m.desired reg desired }

-- a write of the chosen fields spends this field
abbrev pub is_spent_by : ChipData → (reg fields : ℕ) → ℕ → Bool
is_spent_by c reg fields n =
    (field_of c n).shape.reg == reg && (bit fields (n - first_of c reg) && spends_mark (field_of c n).shape.policy)

unfoldable pub spent_after : ChipData → (reg fields : ℕ) → List Bool → List Bool
spent_after c reg fields spent =
    map (λ n. get_or spent n false || is_spent_by c reg fields n) (range_with_len 0 (length spent))

-- A write of a word to the chosen fields went through (uvm_reg_field::predict with UVM_PREDICT_WRITE, IEEE 1800.2-2017,
-- 18.5); bit k of `fields` stands for the k-th field of the register.
unfoldable pub predict_write : ChipData → (reg word fields : ℕ) → MirrorData → MirrorData
predict_write c reg word fields m =
    let after = λ (kept : ℕ).
    learned_by_write (fields_of c reg) (bit fields) (marks_in c m.spent reg) (mirrored_of m reg) word kept in
    record (with_values m reg (after (mirrored_of m reg)) (after (desired_of m reg))) {
      spent = spent_after c reg fields m.spent;
    }

-- A read of the chosen fields answered this (uvm_reg_field::predict with UVM_PREDICT_READ, IEEE 1800.2-2017, 18.5).
unfoldable pub predict_read : ChipData → (reg read fields : ℕ) → MirrorData → MirrorData
predict_read c reg read fields m =
    let after = λ (kept : ℕ). learned_by_read (fields_of c reg) (bit fields) read kept in
    with_values m reg (after (mirrored_of m reg)) (after (desired_of m reg))

-- The bits of the register are these (uvm_reg_field::predict with UVM_PREDICT_DIRECT, IEEE 1800.2-2017, 18.5).
unfoldable pub predict_raw : ChipData → (reg value : ℕ) → MirrorData → MirrorData
predict_raw c reg value m = with_values m reg (owned (fields_of c reg) value) (owned (fields_of c reg) value)

-- A reset of this kind (uvm_reg_field::reset, IEEE 1800.2-2017, 18.5), which clears all marks where it is the hard one.
unfoldable pub reset : ChipData → (kind : ℕ) → MirrorData → MirrorData
reset c kind m =
    let after = λ (values : List ℕ).
    map (λ reg. after_reset (fields_of c reg) kind (get_or values reg 0)) (range_with_len 0 (length values)) in
    record {
      mirrored = after m.mirrored;
      desired = after m.desired;
      spent = if kind == 0 then replicate (length m.spent) false else m.spent;
    }

-- no field has a value yet
abbrev pub blank : ChipData → MirrorData
blank c = record {
  mirrored = replicate (length c.regs) 0;
  desired = replicate (length c.regs) 0;
  spent = replicate (length c.fields) false;
}

-- the first state: that after a hard reset, with 0 in each field without a value for it
unfoldable pub fresh : ChipData → MirrorData
fresh c = reset c 0 (blank c)

-- The field is to become v (uvm_reg_field::set, IEEE 1800.2-2017, 18.5). That its desired value is the write effect on
-- the desired value is this project's own.
unfoldable pub set : ChipData → (field v : ℕ) → MirrorData → MirrorData
set c field v m =
    let f = field_of c field in
    let wish = λ (b : ℕ).
    after_write f.shape.policy (bit (desired_of m f.shape.reg) (f.shape.lsb + b)) (bit v b) (is_spent m field) in
    record m {
      desired = slice_set m.desired f.shape.reg
          (from_bits 64 (put_bit f.shape.lsb f.shape.width wish (bit (desired_of m f.shape.reg))));
    }

-- ---- words to send

-- Some field of the register has another desired value than its mirrored one, so an update writes (uvm_reg::update,
-- IEEE 1800.2-2017, 18.4). That a volatile field is no reason to write is this project's own.
abbrev pub needs_update : MirrorData → (reg : ℕ) → Bool
needs_update m reg = not (desired_of m reg == mirrored_of m reg)

-- The word that an update writes (uvm_reg::update, IEEE 1800.2-2017, 18.4). That it is one word for the whole register
-- is this project's own.
unfoldable pub update_word_of : ChipData → (reg : ℕ) → MirrorData → ℕ
update_word_of c reg m = update_word (fields_of c reg) (desired_of m reg) (mirrored_of m reg)

-- The word with v in the field, and the neutral word in each other field of its register: this project's own.
unfoldable pub neutral_around : ChipData → (field v : ℕ) → MirrorData → ℕ
neutral_around c field v m =
    let f = field_of c field in
    from_bits 64
    (put_bit f.shape.lsb f.shape.width (bit v)
    (bit (neutral_word (fields_of c f.shape.reg) (mirrored_of m f.shape.reg))))
