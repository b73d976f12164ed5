-- One bit of a field under the steps of a plan, in the model and in a device with a flaw.
use Rattle.std.specs.Prelude.{◌≡◌, Bool, true, false, not, ◌||◌, if◌then◌else◌, List, [], ◌∷◌, bytes_eq, Option, Some, None, unwrap_or}
use Rattle.std.specs.Option.{option_map_or}
use Rattle.rl_policy.specs.declared.policy.Policy.{Policy}
use Rattle.rl_policy.specs.declared.policy.Policy.TheVariants.{Ro, Rc, Rs}
use Rattle.rl_policy.specs.Names.{name_of}
use Rattle.rl_policy.specs.Table.{after_read, after_write, either_alone, is_write_only, value_read}
use Rattle.rl_plan.specs.declared.step.Step.{Step}
use Rattle.rl_plan.specs.declared.step.Step.TheVariants.{Reset, Check, BackCheck, WriteZeros, WriteOnes, PokeZeros, PokeOnes}
use Rattle.rl_plan.specs.Steps.{both_steps}

-- the bit in both, each with its spent mark
pub record Held : Type 0 where
  pub mirrored : Bool
  pub spent : Bool
  pub stored : Bool
  pub spent_there : Bool

-- the policy that the device has, where it is stuck, whether it is deaf, and whether its reset value is the other one
pub record Flawed : Type 0 where
  pub policy : Policy
  pub stuck : Option Bool
  pub deaf : Bool
  pub wrong : Bool

abbrev pub settled : Flawed → Bool → Bool
settled f b = unwrap_or f.stuck b

-- ---- a step: what is held after it, or none where it shows a difference

abbrev pub unless : Bool → Held → Option Held
unless shown h = if shown then None else Some h

abbrev pub after_check : Policy → Flawed → Held → Option Held
after_check p f h =
    unless (either_alone (value_read p h.mirrored) (value_read f.policy h.stored))
    (record h { mirrored = after_read p h.mirrored; stored = settled f (after_read f.policy h.stored) })

-- the backdoor has the effects that the model knows of
abbrev pub after_back : Policy → Flawed → Held → Option Held
after_back p f h =
    unless (either_alone (value_read p h.mirrored) (value_read p h.stored))
    (record h { mirrored = after_read p h.mirrored; stored = settled f (after_read p h.stored) })

abbrev pub after_writing : Policy → Flawed → (word : Bool) → Held → Held
after_writing p f word h = record {
  mirrored = after_write p h.mirrored word h.spent;
  spent = true;
  stored = if f.deaf then h.stored else settled f (after_write f.policy h.stored word h.spent_there);
  spent_there = h.spent_there || not f.deaf;
}

abbrev pub after_poking : Flawed → (value : Bool) → Held → Held
after_poking f value h = record h { mirrored = value; stored = settled f value }

-- a reset brings its value, where the field has one
abbrev pub after_reset : Flawed → (value : Option Bool) → Held → Held
after_reset f value h = record {
  mirrored = unwrap_or value h.mirrored;
  spent = false;
  stored = settled f (option_map_or (λ v. either_alone f.wrong v) value h.stored);
  spent_there = false;
}

abbrev pub after_step : Policy → Flawed → (value : Option Bool) → Step → Held → Option Held
after_step p f value Reset h = Some (after_reset f value h)
after_step p f value Check h = after_check p f h
after_step p f value BackCheck h = after_back p f h
after_step p f value WriteZeros h = Some (after_writing p f false h)
after_step p f value WriteOnes h = Some (after_writing p f true h)
after_step p f value PokeZeros h = Some (after_poking f false h)
after_step p f value PokeOnes h = Some (after_poking f true h)

-- some step shows a difference
abbrev pub shows : Policy → Flawed → (value : Option Bool) → List Step → Held → Bool
shows p f value [] h = false
shows p f value (step ∷ steps) h = option_map_or (shows p f value steps) (after_step p f value step h) true

-- ---- what the steps by bus and backdoor show, whatever is held before them

abbrev pub is_shown : Policy → Flawed → (value : Option Bool) → Held → Bool
is_shown p f value h = shows p f value both_steps h

abbrev pub unflawed : Policy → Flawed
unflawed p = record { policy = p; stuck = None; deaf = false; wrong = false }

abbrev pub takes_writes : Policy → Bool
takes_writes Ro = false
takes_writes Rc = false
takes_writes Rs = false
takes_writes p = true

-- any two policies are told apart, whatever the reset value is, and where there is none
abbrev pub TellsPoliciesApart : Type 0
TellsPoliciesApart = (p q : Policy) (value : Option Bool) (h : Held) → is_write_only p ≡ false
    → bytes_eq (name_of q) (name_of p) ≡ false → is_shown p (unflawed q) value h ≡ true

-- a stuck bit shows
abbrev pub ShowsStuckBits : Type 0
ShowsStuckBits = (p : Policy) (at : Bool) (value : Option Bool) (h : Held) → is_write_only p ≡ false
    → is_shown p (record (unflawed p) { stuck = Some at }) value h ≡ true

-- a device that takes no writes shows, where the policy takes them
abbrev pub ShowsDeafOnes : Type 0
ShowsDeafOnes = (p : Policy) (value : Option Bool) (h : Held) → is_write_only p ≡ false → takes_writes p ≡ true
    → is_shown p (record (unflawed p) { deaf = true }) value h ≡ true

-- a wrong reset value shows
abbrev pub ShowsWrongResets : Type 0
ShowsWrongResets = (p : Policy) (value : Bool) (h : Held) → is_write_only p ≡ false
    → is_shown p (record (unflawed p) { wrong = true }) (Some value) h ≡ true

-- Behind a HARD reset that gives the bit a value, what steps show doesn't depend on what was held before it.
abbrev pub ForgetsAtReset : Type 0
ForgetsAtReset = (p : Policy) (f : Flawed) (value : Bool) (steps : List Step) (h other : Held)
    → shows p f (Some value) (Reset ∷ steps) h ≡ shows p f (Some value) (Reset ∷ steps) other
