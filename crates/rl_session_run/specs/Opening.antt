-- How a session is opened: its bytes up to the separator, and what they describe.
use Rattle.std.specs.Prelude.{◌≡◌, ◌≢◌, ℕ, ◌≤◌, List, [], ◌++◌, length, Bool, true, false, Option, Some, Result, Ok, Err}
use Rattle.rl_bus.specs.declared.op.AdapterKind.{AdapterKind}
use Rattle.rl_model.specs.Chip.{closed_chip}
use Rattle.rl_map.specs.Maps.{IsBuiltWith}
use Rattle.rl_flaw.specs.Flaws.{AreFlawsOf}
use Rattle.rl_desc.specs.Data.{DescData}
use Rattle.rl_report.specs.Opening.{separator_at, FindsHead}
use Rattle.rl_report.specs.Reading.{Reading, input_of}
use Rattle.rl_session.specs.Session.{behind, head_of, opening_of}

-- The bytes before the separator were read, and the reader has the rest.
pub record ReadsHead (bytes head : List ℕ) (lines : Reading) (left : Option (List ℕ)) : Type 0 where
  pub head_is : head_of bytes ≡ Ok head
  pub rest : input_of lines left ≡ Some (behind (separator_at bytes) bytes)
  pub finds : FindsHead bytes head lines left

-- At most 8192 bytes were taken from the front of the script. The others, where there are any, are still to be read.
pub record IsUnread (script : List ℕ) (left : Option (List ℕ)) : Type 0 where
  pub taken : List ℕ
  pub others : List ℕ
  pub split : taken ++ others ≡ script
  pub few : length taken ≤ 8192
  pub is_left : others ≢ [] → left ≡ Some others

-- where a session has a head, the script behind it is unread
abbrev pub LeavesScript : List ℕ → Option (List ℕ) → Type 0
LeavesScript bytes left = (head : List ℕ) → head_of bytes ≡ Ok head → IsUnread (behind (separator_at bytes) bytes) left

-- They describe this, for adapters of these kinds.
pub record OpensWith (bytes : List ℕ) (kinds : List AdapterKind) (desc : DescData) (lines : Reading)
    (left : Option (List ℕ)) : Type 0 where
  pub opening : opening_of bytes kinds ≡ Ok desc
  pub head : List ℕ
  pub reads : ReadsHead bytes head lines left

-- A session opens with this, by whatever it may be refused for, and the reader has its script.
pub record OpensAs (described : Result DescData (List ℕ)) (bytes : List ℕ) (desc : DescData) (lines : Reading)
    (left : Option (List ℕ)) : Type 0 where
  pub opening : described ≡ Ok desc
  pub rest : input_of lines left ≡ Some (behind (separator_at bytes) bytes)

-- the description as it is, but nothing in it has a backdoor
abbrev pub without_backdoors : DescData → DescData
without_backdoors desc = record desc { chip = closed_chip desc.chip }

-- what of a description is played on a device that has a backdoor, or that has none
abbrev pub played_on : (backdoor : Bool) → DescData → DescData
played_on true desc = desc
played_on false desc = without_backdoors desc

-- what a session opens with on such a device, or the line that refuses it
abbrev pub opening_on : (backdoor : Bool) → Result DescData (List ℕ) → Result DescData (List ℕ)
opening_on true opening = opening
opening_on false (Ok desc) = Ok (without_backdoors desc)
opening_on false (Err line) = Err line

-- A description that may be run: of adapters of these kinds, whose parts belong together.
pub record IsRunnable (desc : DescData) (kinds : List AdapterKind) : Type 0 where
  pub same_kinds : desc.layout.kinds ≡ kinds
  pub built_with : IsBuiltWith desc.layout desc.chip
  pub flaws : AreFlawsOf desc.chip desc.layout desc.flaws

-- The reader stands behind a separator.
pub record IsBehindHead (lines : Reading) : Type 0 where
  pub found : lines.found ≡ true
  pub going : lines.refused ≡ false

-- A session that was opened: its description may be run, and its script is next.
pub record AwaitsScript (desc : DescData) (lines : Reading) (kinds : List AdapterKind) : Type 0 where
  pub runnable : IsRunnable desc kinds
  pub behind : IsBehindHead lines

-- The reader has taken nothing yet.
pub record IsFresh (lines : Reading) : Type 0 where
  pub input : (left : Option (List ℕ)) → input_of lines left ≡ left
  pub first : lines.asked ≡ false
  pub going : lines.refused ≡ false
