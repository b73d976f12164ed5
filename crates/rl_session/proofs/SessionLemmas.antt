-- How a session opens, by its head.
use Rattle.std.proofs.Common.{◌≡◌, ◌≢◌, ℕ, ◌<◌, ◌≤◌, Bool, true, false, ltb, List, ◌++◌, length, take, drop, codes, Result, Ok, Err, IfOk, IfErr, Some, None, refl, sym, ap, ◌∙◌}
use Rattle.std.proofs.lemmas.Bool.{le-leb, lt-leb, lt-ltb, le-ltb}
use Rattle.std.proofs.Math.Seq.{take-append_seam}
use Rattle.std.specs.declared.option.Option.{Option}
use Rattle.std.specs.Prelude.{if◌then◌else◌}
use Rattle.rl_bus.specs.declared.op.AdapterKind.{AdapterKind}
use Rattle.rl_desc.specs.declared.fault.DescFault.{DescFault}
use Rattle.rl_desc.specs.declared.fault.DescFault.TheVariants.{Memory}
use Rattle.rl_desc.specs.Data.{DescData}
use Rattle.rl_desc.specs.Described.{first_fault, description_of}
use Rattle.rl_report.specs.Opening.{separator_at, HasNoHead, FindsHead}
use Rattle.rl_report.specs.Reading.{Reading}
use Rattle.rl_session.specs.Refusals.{description_refused_text}
use Rattle.rl_session.specs.Session.{no_head_text, head_before, head_of, said_by, opening_after, opening_of}

first_of : (bytes head : List ℕ) → head ++ drop (length head) bytes ≡ bytes → take (length head) bytes ≡ head
first_of bytes head split = ap (take (length head)) (sym split) ∙ take-append_seam head (drop (length head) bytes)

pub found_head : (bytes head : List ℕ) (new : Reading) (left : Option (List ℕ)) → FindsHead bytes head new left
    → head_of bytes ≡ Ok head
unfolding head_of
found_head bytes head new left f =
    ap (λ p. head_before p bytes) f.place
    ∙ ap (λ b. if b then Ok (take (length head) bytes) else Err (no_head_text bytes)) (le-leb (length head) 1048576 f.short)
    ∙ ap Ok (first_of bytes head f.front)

past : (place : Option ℕ) (bytes : List ℕ) → ((at : ℕ) → place ≡ Some at → 1048576 < at)
    → head_before place bytes ≡ Err (no_head_text bytes)
past None bytes h = refl
past (Some at) bytes h =
    ap (λ b. if b then Ok (take at bytes) else Err (no_head_text bytes)) (lt-leb at 1048576 (h at refl))

no_head : (bytes : List ℕ) (long : Bool) → HasNoHead bytes → ltb 1048576 (length bytes) ≡ long
    → head_of bytes ≡ Err (if long then codes "refused session: description too long\n" else codes "refused session: no separator\n")
unfolding head_of
no_head bytes long none is =
    past (separator_at bytes) bytes none
    ∙ ap (λ b. Err (if b then codes "refused session: description too long\n" else codes "refused session: no separator\n")) is

pub missing_head : (bytes : List ℕ) → HasNoHead bytes → length bytes ≤ 1048576 → head_of bytes ≡ Err
    (codes "refused session: no separator\n")
missing_head bytes none few = no_head bytes false none (le-ltb 1048576 (length bytes) few)

pub long_head : (bytes : List ℕ) → HasNoHead bytes → 1048576 < length bytes → head_of bytes ≡ Err
    (codes "refused session: description too long\n")
long_head bytes none many = no_head bytes true none (lt-ltb 1048576 (length bytes) many)

pub opening_refused : (bytes line : List ℕ) (kinds : List AdapterKind) → head_of bytes ≡ Err line
    → opening_of bytes kinds ≡ Err line
unfolding opening_of
opening_refused bytes line kinds e = ap (λ h. opening_after h kinds) e

pub opening_found : (bytes head : List ℕ) (kinds : List AdapterKind) → head_of bytes ≡ Ok head
    → opening_of bytes kinds ≡ opening_after (Ok head) kinds
unfolding opening_of
opening_found bytes head kinds e = ap (λ h. opening_after h kinds) e

-- ---- a description, for kinds that are these

pub described_ok : (head : List ℕ) (kinds these : List AdapterKind) (r : Result DescData DescFault) → kinds ≡ these
    → IfOk r (λ _. first_fault head kinds ≡ None) → IfOk r (λ desc. description_of head kinds ≡ Some desc) → IfOk r
    (λ desc. opening_after (Ok head) these ≡ Ok desc)
described_ok head kinds these (Ok desc) same valid read =
    ap (λ k. said_by (first_fault head k) (description_of head k)) (sym same) ∙ ap
    (λ f. said_by f (description_of head kinds)) valid ∙ ap (λ d. said_by None d) read
described_ok head kinds these (Err fault) same valid read = tt

pub described_err : (head : List ℕ) (kinds these : List AdapterKind) (r : Result DescData DescFault) → kinds ≡ these
    → IfErr r (λ fault. fault ≢ Memory → first_fault head kinds ≡ Some fault) → IfErr r
    (λ fault. fault ≢ Memory → opening_after (Ok head) these ≡ Err (description_refused_text fault))
described_err head kinds these (Ok desc) same refused = tt
described_err head kinds these (Err fault) same refused =
    λ known. ap (λ k. said_by (first_fault head k) (description_of head k)) (sym same) ∙ ap
    (λ f. said_by f (description_of head kinds)) (refused known)
