-- The lines of a log that tell no event: none is indented, and each is one line.
use Rattle.std.proofs.Common.{◌≡◌, ℕ, ◌+◌, Bool, true, false, if◌then◌else◌, List, [], ◌∷◌, ◌++◌, codes, decimal, length, Option, Some, None, Result, Ok, Err, refl, sym, ap, subst, ◌∙◌, append-nil}
use Rattle.std.specs.Prelude.{nat_lt, nat_le}
use Rattle.rl_policy.specs.Numbers.{hex_digits}
use Rattle.rl_bus.specs.declared.op.AdapterKind.{AdapterKind}
use Rattle.rl_model.specs.declared.fault.Array.{Array}
use Rattle.rl_model.specs.declared.fault.Array.TheVariants as array
use Rattle.rl_model.specs.declared.fault.Spot.{Spot}
use Rattle.rl_model.specs.declared.fault.ModelCause.{ModelCause}
use Rattle.rl_model.specs.declared.fault.ModelCause.TheVariants as model
use Rattle.rl_map.specs.declared.fault.MapCause.{MapCause}
use Rattle.rl_map.specs.declared.fault.MapCause.TheVariants as map
use Rattle.rl_desc.specs.declared.fault.DescCause.{DescCause}
use Rattle.rl_desc.specs.declared.fault.DescCause.TheVariants.{Text, UnknownKey, MissingKey, WrongType, BadValue}
use Rattle.rl_desc.specs.declared.fault.DescFault.{DescFault}
use Rattle.rl_desc.specs.declared.fault.DescFault.TheVariants.{Bad, Model, Map, TooManyFlaws, Flaw, Memory}
use Rattle.rl_desc.specs.declared.key.Key.{Key}
use Rattle.rl_desc.specs.declared.key.Key.TheVariants as key
use Rattle.rl_desc.specs.Data.{DescData}
use Rattle.rl_desc.specs.Described.{first_fault, description_of}
use Rattle.rl_desc.specs.Keys.{key_name}
use Rattle.rl_report.specs.Opening.{separator_at}
use Rattle.rl_report.specs.Pieces.{joined}
use Rattle.rl_report.specs.WithoutItems.{plain_part, is_one_line, is_indented, IsLine}
use Rattle.rl_report.proofs.PlainPart.{plain_part-line, plain_part-nil}
use Rattle.rl_report.proofs.Unbroken.{IsUnbroken, unbroken-fixed, unbroken-joined, unbroken-last, unbroken-decimal, unbroken-hex_digits, one_line-joined}
use Rattle.rl_script.specs.Commands.{sequence_name}
use Rattle.rl_script.specs.declared.line.Sequence.{Sequence}
use Rattle.rl_script.specs.declared.line.Sequence.TheVariants.{HwReset}
use Rattle.rl_log.specs.declared.counts.Counts.{Counts}
use Rattle.rl_log.specs.declared.refusal.LineRefusal.{LineRefusal}
use Rattle.rl_log.specs.declared.refusal.LineRefusal.TheVariants as refusal
use Rattle.rl_log.specs.Entry.{over_text, sequence_text, begin_text, tally_text, closing_text}
use Rattle.rl_session.specs.Refusals.{array_name, field_text, where_text, bad_reason, model_reason, map_reason, refusal_text, flaw_at, description_refused_text}
use Rattle.rl_session.specs.Session.{no_head_text, head_before, head_of, said_by, opening_after, opening_of}
use Rattle.rl_log.specs.Texts.{reason_text, refused_text, end_text}

-- ---- what is left of one line

pub line_stays : (line : List ℕ) → IsLine line → plain_part line ≡ line
line_stays line h =
    ap plain_part (sym (append-nil line)) ∙ plain_part-line line [] h ∙ ap (λ rest. line ++ rest) plain_part-nil ∙ append-nil line

fixed : (text : List ℕ) (pieces : List (List ℕ)) → IsUnbroken text → is_one_line (joined pieces) ≡ true → is_one_line (joined (text ∷ pieces)) ≡ true
fixed text pieces u h = one_line-joined text pieces u h

last_ends : (text : List ℕ) → is_one_line text ≡ true → is_one_line (joined (text ∷ [])) ≡ true
unfolding joined
last_ends text h = ap is_one_line (append-nil text) ∙ h

-- ---- a sequence's lines

unbroken-sequence_name : (which : Sequence) → IsUnbroken (sequence_name which)
unbroken-sequence_name HwReset = unbroken-fixed _ refl
unbroken-sequence_name _ = unbroken-fixed _ refl

unbroken-sequence_text : (which : Sequence) (over : Option (List ℕ)) → IsUnbroken (over_text over) → IsUnbroken (sequence_text which over)
unbroken-sequence_text which over path =
    unbroken-joined (codes "seq ") _ (unbroken-fixed _ refl) (unbroken-joined (sequence_name which) _ (unbroken-sequence_name which)
    (unbroken-joined (codes " ") _ (unbroken-fixed _ refl) (unbroken-last (over_text over) path)))

sequence_flush : (which : Sequence) (over : Option (List ℕ)) (rest : List (List ℕ)) → is_indented (joined (sequence_text which over ∷ rest)) ≡ false
unfolding joined
sequence_flush which over rest = refl

pub begin_is_line : (which : Sequence) (over : Option (List ℕ)) → IsUnbroken (over_text over) → IsLine (begin_text which over)
begin_is_line which over path = record {
  one = one_line-joined (sequence_text which over) _ (unbroken-sequence_text which over path) (last_ends (codes ": begin\n") refl);
  flush = sequence_flush which over (codes ": begin\n" ∷ []);
}

tally_ends : (steps differences errors : ℕ) → is_one_line (tally_text steps differences errors) ≡ true
tally_ends steps differences errors =
    fixed (codes ": ") _ (unbroken-fixed _ refl) (fixed (decimal steps) _ (unbroken-decimal steps) (fixed (codes " steps, ") _ (unbroken-fixed _ refl)
    (fixed (decimal differences) _ (unbroken-decimal differences) (fixed (codes " differences, ") _ (unbroken-fixed _ refl) (fixed (decimal errors) _ (unbroken-decimal errors)
    (last_ends (codes " bus errors\n") refl))))))

pub closing_is_line : (which : Sequence) (over : Option (List ℕ)) (steps differences errors : ℕ) → IsUnbroken (over_text over) → IsLine (closing_text which over steps differences errors)
closing_is_line which over steps differences errors path = record {
  one = one_line-joined (sequence_text which over) _ (unbroken-sequence_text which over path) (last_ends (tally_text steps differences errors) (tally_ends steps differences errors));
  flush = sequence_flush which over (tally_text steps differences errors ∷ []);
}

-- ---- the last line

unbroken-reason : (why : LineRefusal) → IsUnbroken (reason_text why)
unbroken-reason refusal.TooLong = unbroken-fixed _ refl
unbroken-reason refusal.NotAscii = unbroken-fixed _ refl
unbroken-reason refusal.NoSuchCommand = unbroken-fixed _ refl
unbroken-reason refusal.WrongCount = unbroken-fixed _ refl
unbroken-reason refusal.BadName = unbroken-fixed _ refl
unbroken-reason refusal.BadNumber = unbroken-fixed _ refl
unbroken-reason refusal.NumberTooLarge = unbroken-fixed _ refl
unbroken-reason refusal.CountOutOfRange = unbroken-fixed _ refl
unbroken-reason refusal.NoSuchName = unbroken-fixed _ refl
unbroken-reason refusal.TooManyLines = unbroken-fixed _ refl

refused_flush : (rest : List (List ℕ)) → is_indented (joined (codes "refused line " ∷ rest)) ≡ false
unfolding joined
refused_flush rest = refl

pub refused_is_line : (number : ℕ) (why : LineRefusal) → IsLine (refused_text number why)
refused_is_line number why = record {
  one = fixed (codes "refused line ") _ (unbroken-fixed _ refl) (fixed (decimal number) _ (unbroken-decimal number) (fixed (codes ": ") _ (unbroken-fixed _ refl)
      (fixed (reason_text why) _ (unbroken-reason why) (last_ends (codes "\n") refl))));
  flush = refused_flush _;
}

end_flush : (rest : List (List ℕ)) → is_indented (joined (codes "end: " ∷ rest)) ≡ false
unfolding joined
end_flush rest = refl

pub end_is_line : (counts : Counts) → IsLine (end_text counts)
end_is_line counts = record {
  one = fixed (codes "end: ") _ (unbroken-fixed _ refl) (fixed (decimal counts.events) _ (unbroken-decimal counts.events) (fixed (codes " events, ") _ (unbroken-fixed _ refl)
      (fixed (decimal counts.differences) _ (unbroken-decimal counts.differences) (fixed (codes " differences, ") _ (unbroken-fixed _ refl) (fixed (decimal counts.errors) _ (unbroken-decimal
      counts.errors)
      (last_ends (codes " bus errors\n") refl))))));
  flush = end_flush _;
}

-- ---- a description that is refused

unbroken-key : (k : Key) → IsUnbroken (key_name k)
unbroken-key key.Block = unbroken-fixed _ refl
unbroken-key _ = unbroken-fixed _ refl

unbroken-bad : (cause : DescCause) → IsUnbroken (joined (bad_reason cause))
unbroken-bad Text = unbroken-last (codes "not toml") (unbroken-fixed _ refl)
unbroken-bad UnknownKey = unbroken-last (codes "unknown key") (unbroken-fixed _ refl)
unbroken-bad (MissingKey k) = unbroken-joined (codes "missing key ") _ (unbroken-fixed _ refl) (unbroken-last (key_name k) (unbroken-key k))
unbroken-bad (WrongType k) = unbroken-joined (codes "wrong type of ") _ (unbroken-fixed _ refl) (unbroken-last (key_name k) (unbroken-key k))
unbroken-bad (BadValue k) = unbroken-joined (codes "bad value of ") _ (unbroken-fixed _ refl) (unbroken-last (key_name k) (unbroken-key k))

unbroken-model : (cause : ModelCause) → IsUnbroken (model_reason cause)
unbroken-model model.TooMany = unbroken-fixed _ refl
unbroken-model _ = unbroken-fixed _ refl

unbroken-map : (cause : MapCause) → IsUnbroken (joined (map_reason cause))
unbroken-map (map.SharedAddress address other) =
    unbroken-joined (codes "shared address 0x") _ (unbroken-fixed _ refl) (unbroken-joined (hex_digits address) _ (unbroken-hex_digits address)
    (unbroken-joined (codes " with place ") _ (unbroken-fixed _ refl) (unbroken-last (decimal (other + 1)) (unbroken-decimal (other + 1)))))
unbroken-map _ = unbroken-last _ (unbroken-fixed _ refl)

unbroken-array : (a : Array) → IsUnbroken (array_name a)
unbroken-array array.Block = unbroken-fixed _ refl
unbroken-array _ = unbroken-fixed _ refl

unbroken-field_text : (field : Option ℕ) → IsUnbroken (field_text field)
unbroken-field_text None = unbroken-fixed _ refl
unbroken-field_text (Some field) = unbroken-joined (codes " field ") _ (unbroken-fixed _ refl) (unbroken-last (decimal (field + 1)) (unbroken-decimal (field + 1)))

unbroken-where : (spot : Option Spot) → IsUnbroken (where_text spot)
unbroken-where None = unbroken-fixed _ refl
unbroken-where (Some spot) =
    unbroken-joined (codes " ") _ (unbroken-fixed _ refl) (unbroken-joined (array_name spot.array) _ (unbroken-array spot.array) (unbroken-joined (codes " ") _ (unbroken-fixed _ refl)
    (unbroken-joined (decimal (spot.row + 1)) _ (unbroken-decimal (spot.row + 1)) (unbroken-last (field_text spot.field) (unbroken-field_text spot.field)))))

description_flush : (rest : List (List ℕ)) → is_indented (joined (codes "refused description" ∷ rest)) ≡ false
unfolding joined
description_flush rest = refl

refusal_is_line : (spot : Option Spot) (reason : List (List ℕ)) → IsUnbroken (joined reason) → IsLine (refusal_text spot reason)
refusal_is_line spot reason u = record {
  one = fixed (codes "refused description") _ (unbroken-fixed _ refl) (fixed (where_text spot) _ (unbroken-where spot) (fixed (codes ": ") _ (unbroken-fixed _ refl)
      (fixed (joined reason) _ u (last_ends (codes "\n") refl))));
  flush = description_flush _;
}

description_stays : (fault : DescFault) → plain_part (description_refused_text fault) ≡ description_refused_text fault
description_stays (Bad cause spot) = line_stays (refusal_text spot (bad_reason cause)) (refusal_is_line spot (bad_reason cause) (unbroken-bad cause))
description_stays (Model cause spot) = line_stays (refusal_text (Some spot) (model_reason cause ∷ [])) (refusal_is_line (Some spot) (model_reason cause ∷ []) (unbroken-last (model_reason cause)
    (unbroken-model cause)))
description_stays (Map cause spot) = line_stays (refusal_text (Some spot) (map_reason cause)) (refusal_is_line (Some spot) (map_reason cause) (unbroken-map cause))
description_stays (TooManyFlaws row) = line_stays (refusal_text (flaw_at row) (codes "too many" ∷ [])) (refusal_is_line (flaw_at row) (codes "too many" ∷ []) (unbroken-last (codes "too many")
    (unbroken-fixed _ refl)))
description_stays (Flaw row) = line_stays (refusal_text (flaw_at row) (codes "bad flaw" ∷ [])) (refusal_is_line (flaw_at row) (codes "bad flaw" ∷ []) (unbroken-last (codes "bad flaw")
    (unbroken-fixed _ refl)))
description_stays Memory = plain_part-nil

-- ---- a session that is refused before its script

too_long_is_line : IsLine (codes "refused session: description too long\n")
too_long_is_line = record { one = refl; flush = refl }

missing_is_line : IsLine (codes "refused session: no separator\n")
missing_is_line = record { one = refl; flush = refl }

no_head_stays : (long : Bool) → let text : List ℕ = if long then codes "refused session: description too long\n" else codes "refused session: no separator\n" in plain_part text ≡ text
no_head_stays true = line_stays (codes "refused session: description too long\n") too_long_is_line
no_head_stays false = line_stays (codes "refused session: no separator\n") missing_is_line

-- its last line stays
abbrev Stays : {A : Type 0} → Result A (List ℕ) → Type 0
Stays (Ok x) = Unit {0}
Stays (Err line) = plain_part line ≡ line

head_within : (within : Bool) (head : List ℕ) (line : List ℕ) → plain_part line ≡ line → Stays {A = List ℕ} (if within then Ok head else Err line)
head_within true head line h = tt
head_within false head line h = h

head_stays : (at : Option ℕ) (bytes : List ℕ) → Stays (head_before at bytes)
head_stays None bytes = no_head_stays (nat_lt 1048576 (length bytes))
head_stays (Some at) bytes = head_within (nat_le at 1048576) _ (no_head_text bytes) (no_head_stays (nat_lt 1048576 (length bytes)))

said_stays : (fault : Option DescFault) (desc : Option DescData) → Stays (said_by fault desc)
said_stays (Some fault) desc = description_stays fault
said_stays None (Some desc) = tt
said_stays None None = plain_part-nil

after_stays : (head : Result (List ℕ) (List ℕ)) (kinds : List AdapterKind) → Stays head → Stays (opening_after head kinds)
after_stays (Ok head) kinds h = said_stays (first_fault head kinds) (description_of head kinds)
after_stays (Err line) kinds h = h

opening_all : (bytes : List ℕ) (kinds : List AdapterKind) → Stays (opening_of bytes kinds)
unfolding opening_of head_of
opening_all bytes kinds = after_stays (head_before (separator_at bytes) bytes) kinds (head_stays (separator_at bytes) bytes)

pub opening_stays : (bytes : List ℕ) (kinds : List AdapterKind) (line : List ℕ) → opening_of bytes kinds ≡ Err line → plain_part line ≡ line
opening_stays bytes kinds line is = subst Stays is (opening_all bytes kinds)
