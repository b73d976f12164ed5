-- How a session opens: the bytes before its separator, and what they describe.
use Rattle.std.specs.Prelude.{ℕ, nat_lt, if◌then◌else◌, List, [], length, drop, Option, Some, None, Result, Ok, Err, take, codes, nat_le}
use Rattle.rl_desc.specs.Data.{DescData}
use Rattle.rl_report.specs.Lines.{lines_of, after_line}
use Rattle.rl_report.specs.Opening.{separator_at}
use Rattle.rl_log.specs.declared.status.Status.{Status}
use Rattle.rl_log.specs.declared.status.Status.TheVariants.{Refused, Passed}
use Rattle.rl_bus.specs.declared.op.AdapterKind.{AdapterKind}
use Rattle.rl_map.specs.LayoutText.{layout_text}
use Rattle.rl_desc.specs.declared.fault.DescFault.{DescFault}
use Rattle.rl_desc.specs.Described.{first_fault, description_of}
use Rattle.rl_session.specs.Refusals.{description_refused_text}

-- ---- a session

-- the bytes behind the separator's line
abbrev pub behind : Option ℕ → List ℕ → List ℕ
behind None bytes = []
behind (Some at) bytes = after_line (drop at bytes)

abbrev pub script_of : List ℕ → List (List ℕ)
script_of bytes = lines_of (behind (separator_at bytes) bytes)

-- the last line, where no separator begins within the bytes that a description may have
abbrev pub no_head_text : List ℕ → List ℕ
no_head_text bytes =
    if nat_lt 1048576 (length bytes) then codes "refused session: description too long\n"
    else codes "refused session: no separator\n"

abbrev pub head_before : Option ℕ → List ℕ → Result (List ℕ) (List ℕ)
head_before (Some at) bytes = if nat_le at 1048576 then Ok (take at bytes) else Err (no_head_text bytes)
head_before None bytes = Err (no_head_text bytes)

-- the bytes before the separator, or the last line
unfoldable pub head_of : List ℕ → Result (List ℕ) (List ℕ)
head_of bytes = head_before (separator_at bytes) bytes

-- a description without a fault describes something
abbrev pub said_by : Option DescFault → Option DescData → Result DescData (List ℕ)
said_by (Some fault) desc = Err (description_refused_text fault)
said_by None (Some desc) = Ok desc
said_by None None = Err []

abbrev pub opening_after : Result (List ℕ) (List ℕ) → List AdapterKind → Result DescData (List ℕ)
opening_after (Ok head) kinds = said_by (first_fault head kinds) (description_of head kinds)
opening_after (Err line) kinds = Err line

-- what a session describes, or its last line where it is refused before its script
unfoldable pub opening_of : List ℕ → List AdapterKind → Result DescData (List ℕ)
opening_of bytes kinds = opening_after (head_of bytes) kinds

-- the last line of a session that is refused so
abbrev pub refusal_of : Result DescData (List ℕ) → List ℕ
refusal_of (Ok desc) = []
refusal_of (Err line) = line

-- ---- what `map` writes, and how it ends

abbrev pub map_text : Result DescData (List ℕ) → List ℕ
map_text (Ok desc) = layout_text desc.chip desc.layout
map_text (Err line) = line

abbrev pub map_status : Result DescData (List ℕ) → Status
map_status (Ok desc) = Passed
map_status (Err line) = Refused
