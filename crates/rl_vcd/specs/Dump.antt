-- The text of a dump (IEEE 1364, Value Change Dump).
use Rattle.std.specs.Prelude.{ℕ, zero, suc, List, [], ◌∷◌, ◌++◌, ◌+◌, ◌*◌, codes, decimal, flat_map, false}
use Rattle.rl_bus.specs.declared.transfer.ApbTransfer.{ApbTransfer}
use Rattle.rl_bus.specs.declared.transfer.ApbResponse.{ApbResponse}
use Rattle.rl_vcd.specs.declared.pins.Bus.{Bus}
use Rattle.rl_vcd.specs.Signals.{joined, binary, name_of, bit_text, word_text}
use Rattle.rl_vcd.specs.Pins.{idle, pins_at, changes}

-- ---- cycles

-- a time from 10 n on, whose last digit is the first of `rest`, and what is written behind it
abbrev pub time_text : (n : ℕ) (rest : List ℕ) → List ℕ
time_text n rest = joined (codes "#" ∷ decimal n ∷ rest ∷ [])

-- PCLK rises at 10 n, and the pins change at 10 n + 1
abbrev pub opening_text : ℕ → List ℕ
opening_text n = joined (time_text n (codes "0\n1c\n") ∷ time_text n (codes "1\n") ∷ [])

-- PCLK falls at 10 n + 5
abbrev pub closing_text : ℕ → List ℕ
closing_text n = time_text n (codes "5\n0c\n")

-- clock cycle `n` with what changes in it
abbrev pub cycle_text : (n : ℕ) (changed : List ℕ) → List ℕ
cycle_text n changed = joined (opening_text n ∷ changed ∷ closing_text n ∷ [])

-- the operation beside the pins: a zero and eight binary digits for each character
abbrev pub label_text : List ℕ → List ℕ
label_text label = joined (codes "b0" ∷ flat_map (binary 8) label ∷ codes " o\n" ∷ [])

-- the first `count` cycles of the access phase of a transfer that begins in cycle `n`
abbrev pub access_text : Bus → ApbTransfer → ApbResponse → (n count : ℕ) → List ℕ
access_text b t r n zero = []
access_text b t r n (suc k) =
    access_text b t r n k ++ cycle_text (n + k + 1) (changes b (pins_at t r k) (pins_at t r (k + 1)))

-- a transfer: its setup phase, in which its operation appears, its access phase, and an idle cycle
abbrev pub transfer_text : Bus → (label : List ℕ) → ApbTransfer → ApbResponse → (n : ℕ) → List ℕ
transfer_text b label t r n = joined (
    cycle_text n (joined (label_text label ∷ changes b idle (pins_at t r 0) ∷ []))
    ∷ access_text b t r n (r.waits + 1)
    ∷ cycle_text (n + r.waits + 2) (joined (changes b (pins_at t r (r.waits + 1)) idle ∷ label_text [] ∷ []))
    ∷ [])

-- ---- the header

-- a bus, and the name of its root map
pub record BusData : Type 0 where
  pub name : List ℕ
  pub bus : Bus

abbrev pub var_text : Bus → (letter digits : ℕ) → (name : List ℕ) → List ℕ
var_text b letter digits name =
    joined (codes "$var wire " ∷ decimal digits ∷ codes " " ∷ name_of letter b.number ∷ codes " " ∷ name
    ∷ codes " $end\n" ∷ [])

-- the declarations of the pins of a bus whose data has so many bytes
abbrev pub vars_text : Bus → (bytes : ℕ) → List ℕ
vars_text b bytes = joined (
    var_text b 115 1 (codes "PSEL")
    ∷ var_text b 101 1 (codes "PENABLE")
    ∷ var_text b 97 32 (codes "PADDR")
    ∷ var_text b 119 1 (codes "PWRITE")
    ∷ var_text b 100 (8 * bytes) (codes "PWDATA")
    ∷ var_text b 98 bytes (codes "PSTRB")
    ∷ var_text b 114 1 (codes "PREADY")
    ∷ var_text b 113 (8 * bytes) (codes "PRDATA")
    ∷ var_text b 120 1 (codes "PSLVERR")
    ∷ [])

-- the declaration of a bus
abbrev pub scope_text : (name : List ℕ) → Bus → List ℕ
scope_text name b =
    joined (codes "$scope module " ∷ name ∷ codes " $end\n" ∷ vars_text b b.bytes ∷ codes "$upscope $end\n" ∷ [])

-- the pins of a bus before its first transfer
abbrev pub idle_text : Bus → List ℕ
idle_text b = joined (
    bit_text 115 b.number false
    ∷ bit_text 101 b.number false
    ∷ word_text 97 b.number 32 0
    ∷ bit_text 119 b.number false
    ∷ word_text 100 b.number (8 * b.bytes) 0
    ∷ word_text 98 b.number b.bytes 0
    ∷ bit_text 114 b.number false
    ∷ word_text 113 b.number (8 * b.bytes) 0
    ∷ bit_text 120 b.number false
    ∷ [])

-- what a dump of these buses begins with: its clock and its operation, each bus, and their values before any transfer
unfoldable pub header_text : List BusData → List ℕ
header_text buses = joined (
    codes "$comment The pins of each APB transfer, by clock. $end\n"
    ∷ codes "$timescale 1 ns $end\n$scope module session $end\n"
    ∷ codes "$var wire 1 c PCLK $end\n$var reg 1024 o op $end\n"
    ∷ flat_map (λ (b : BusData). scope_text b.name b.bus) buses
    ∷ codes "$upscope $end\n$enddefinitions $end\n#0\n$dumpvars\n0c\nb0 o\n"
    ∷ flat_map (λ (b : BusData). idle_text b.bus) buses
    ∷ codes "$end\n"
    ∷ [])
