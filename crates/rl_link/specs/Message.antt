-- What is reported of a peer to a user: what it chatters, an unknown value, what it didn't do, and how the link broke.
use Rattle.std.specs.Prelude.{ℕ, List, [], ◌∷◌, ◌++◌, codes, decimal, take, Bool, true, false, if◌then◌else◌}
use Rattle.rl_report.specs.Lines.{first_line}
use Rattle.rl_report.specs.Pieces.{joined}
use Rattle.rl_link.specs.declared.link.Break.{Break}
use Rattle.rl_link.specs.declared.answer.Cause.{Cause}
use Rattle.rl_link.specs.declared.answer.Cause.TheVariants.{Unsent, Unread, Closed, TooLong, TooMany, Unasked, Unclear, TooWide, Backdoor, Memory}

abbrev pub cause_text : Cause → List ℕ
cause_text Unsent = codes "the request couldn't be sent"
cause_text Unread = codes "the answer couldn't be read"
cause_text Closed = codes "the output ended before an answer"
cause_text TooLong = codes "a line of more than 4096 bytes"
cause_text TooMany = codes "10000 lines that are no answer"
cause_text Unasked = codes "an answer that nothing was asked for"
cause_text Unclear = codes "a line that doesn't answer the request"
cause_text TooWide = codes "a word that is wider than the bus"
cause_text Backdoor = codes "a link has no backdoor"
cause_text Memory = codes "no memory"

-- a line of the peer is what broke the link
abbrev pub is_of_line : Cause → Bool
is_of_line TooLong = true
is_of_line Unasked = true
is_of_line Unclear = true
is_of_line TooWide = true
is_of_line _ = false

-- what is told of what was read and isn't used yet: its first line, up to a limit
abbrev pub line_told : (held : List ℕ) → List ℕ
line_told held = take 80 (first_line held)

-- ---- the lines

-- a line that is no answer
abbrev pub chatter_text : (line : List ℕ) → List ℕ
chatter_text line = joined (codes "peer: " ∷ line ∷ codes "\n" ∷ [])

-- an answer with unknown bits
abbrev pub unknown_text : (line : ℕ) (held request : List ℕ) → List ℕ
unknown_text line held request =
    joined (codes "an unknown value at line " ∷ decimal line ∷ codes " of the peer's output: `" ∷ line_told held
    ∷ codes "`; the request was `" ∷ first_line request ∷ codes "`\n" ∷ [])

-- an answer that says that a reset or a change wasn't done
abbrev pub undone_text : (held request : List ℕ) → List ℕ
undone_text held request =
    joined (codes "# not done: `" ∷ first_line request
    ∷ codes "`; the answer was `" ∷ line_told held ∷ codes "`\n" ∷ [])

-- a break: where, and behind why the request, and the line that came where it is what broke the link
abbrev pub where_told : (line : ℕ) → List ℕ
where_told line = joined (codes "the link broke at line " ∷ decimal line ∷ codes " of the peer's output: " ∷ [])

abbrev pub request_told : (request : List ℕ) → List ℕ
request_told request = joined (codes "; the request was `" ∷ first_line request ∷ codes "`\n" ∷ [])

abbrev pub line_and_request : (held request : List ℕ) → List ℕ
line_and_request held request =
    joined (codes ": `" ∷ line_told held ∷ codes "`; the request was `" ∷ first_line request ∷ codes "`\n" ∷ [])

abbrev pub talk_told : Cause → (held request : List ℕ) → List ℕ
talk_told cause held request = if is_of_line cause then line_and_request held request else request_told request

abbrev pub told_text : Break → (held request : List ℕ) → List ℕ
told_text broken held request =
    (where_told broken.line ++ cause_text broken.cause) ++ talk_told broken.cause held request

-- behind a mark
abbrev pub break_text : (mark : List ℕ) → Break → (held request : List ℕ) → List ℕ
break_text mark broken held request = mark ++ told_text broken held request
