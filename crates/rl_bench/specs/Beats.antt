-- A list with a number for each word, or none where no words queue:
-- the beat of an address is kept with the first word there.
use Rattle.std.specs.Prelude.{◌≡◌, ℕ, ◌<◌, ◌≤◌, ◌&&◌, ◌==◌, true, Bool, if◌then◌else◌, List, [], length, Option, Some, None, unwrap_or, slice_index, slice_index_or, position, filter}
use Rattle.std.specs.List.{list_any}
use Rattle.rl_bus.specs.declared.table.WordRow.{WordRow}
use Rattle.rl_bus.specs.declared.table.Cell.TheVariants.{Reg}
use Rattle.rl_bus.specs.Setup.{stands_at, stands_for}
use Rattle.rl_bench.specs.declared.beats.Queue.{Queue}

abbrev pub beat_in : List ℕ → Option ℕ → ℕ
beat_in beats None = 0
beat_in beats (Some k) = slice_index beats k

abbrev pub beats_of : List WordRow → List ℕ → ℕ → ℕ → ℕ
beats_of words beats port address = beat_in beats (position (stands_at port address) words)

-- ---- addresses where words queue: where more than one has the same direction

-- what stands past the end of the words
abbrev pub no_word : WordRow
no_word = record {
  port = 0;
  address = 0;
  reads = true;
  writes = true;
  cell = Reg 0;
  place = 0;
  lanes = record { enabled = 0; bytes = [] };
}

-- a place has a word at the address
abbrev pub has_place : List WordRow → ℕ → ℕ → ℕ → Bool
has_place words place port address = list_any (λ w. stands_at port address w && w.place == place) words

-- how many words of a direction stand at the address
abbrev pub count_for : List WordRow → ℕ → ℕ → Bool → ℕ
count_for words port address write = length (filter (stands_for port address write) words)

-- the queue is that of a word and a place
abbrev pub is_queue : ℕ → ℕ → Queue → Bool
is_queue k place q = q.first == k && q.place == place

-- the beats of a place go to 0 where words queue, and each other one stays
abbrev pub SendsBack : List Queue → (place : ℕ) → (old new : List ℕ) → Type 0
SendsBack queues place old new =
    (k : ℕ) → slice_index new k ≡ (if list_any (is_queue k place) queues then 0 else slice_index old k)

-- the place of a queue has a word at the address of the queue's first one
pub record IsQueueIn (words : List WordRow) (q : Queue) : Type 0 where
  pub inside : q.first < length words
  pub place :
      has_place words q.place (slice_index_or words q.first no_word).port (slice_index_or words q.first no_word).address
      ≡ true

pub record AreQueuesOf (words : List WordRow) (queues : List Queue) : Type 0 where
  pub each : (i : ℕ) (d : Queue) → i < length queues → IsQueueIn words (slice_index_or queues i d)
  -- each place with a word at an address where words queue has a queue there
  pub all : (p a place : ℕ) (write : Bool)
      → 1 < count_for words p a write → has_place words place p a ≡ true
      → list_any (is_queue (unwrap_or (position (stands_at p a) words) 0) place) queues ≡ true

-- a beat other than 0 is that of an address where words queue
abbrev pub IsQuiet : List WordRow → List ℕ → Type 0
IsQuiet words beats = (p a : ℕ) → ((write : Bool) → count_for words p a write ≤ 1) → beats_of words beats p a ≡ 0

-- where words queue, each word has a number
abbrev pub HasBeats : List WordRow → List ℕ → Type 0
HasBeats words beats = (p a : ℕ) (write : Bool) → 1 < count_for words p a write → length beats ≡ length words

-- each beat names a word, where words of the direction stand
abbrev pub BeatsAreWords : List WordRow → List ℕ → Type 0
BeatsAreWords words beats =
    (p a : ℕ) (write : Bool) → 0 < count_for words p a write → beats_of words beats p a < count_for words p a write
