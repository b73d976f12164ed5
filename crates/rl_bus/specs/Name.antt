-- A name of 1 to 16 bytes in an array.
use Rattle.std.specs.Prelude.{◌≡◌, ℕ, ◌-◌, ◌<◌, ◌≤◌, List, ◌++◌, length, take, drop, replicate}
use Rattle.std.proofs.Common.{sym, ap, ◌∙◌, arith}
use Rattle.std.proofs.lemmas.List.{length-take-le, take-append-drop}
use Rattle.rl_bus.specs.declared.name.ShortName.TheInside.{Inside}

-- its bytes
abbrev pub text_of : Inside → List ℕ
text_of a = take a.len a.bytes

-- it has a byte, and what stands behind the bytes is 0
pub record IsName (a : Inside) : Type 0 where
  pub some : 0 < a.len
  pub within : a.len ≤ 16
  pub size : length a.bytes ≡ 16
  pub behind : drop a.len a.bytes ≡ replicate (16 - a.len) 0

-- the array of these bytes
abbrev pub name_of : List ℕ → Inside
name_of text = record { len = length text; bytes = text ++ replicate (16 - length text) 0 }

pub name_of-text_of : (a : Inside) → IsName a → name_of (text_of a) ≡ a
name_of-text_of a h =
    let array : ℕ → List ℕ → Inside = λ n bytes. record { len = n; bytes = bytes } in
    let size : length (take a.len a.bytes) ≡ a.len = length-take-le a.len a.bytes (omega (arith, h.within, h.size)) in
    ap (λ n. array n (take a.len a.bytes ++ replicate (16 - n) 0)) size
    ∙ ap (λ rest. array a.len (take a.len a.bytes ++ rest)) (sym h.behind)
    ∙ ap (λ bytes. array a.len bytes) (take-append-drop a.len a.bytes)
