-- The parts of a chip, without where they lie in memory.
use Rattle.std.specs.Prelude.{ℕ, Bool, List, Option}
use Rattle.rl_policy.specs.declared.policy.Policy.{Policy}
use Rattle.rl_model.specs.declared.parts.ScopePart.{ScopePart}
use Rattle.rl_model.specs.declared.parts.ResetPart.{ResetPart}
use Rattle.rl_model.specs.declared.parts.MemPart.{MemPart}
use Rattle.rl_model.specs.declared.sets.Skip.{Skip}

pub record FieldData : Type 0 where
  pub name : List ℕ
  pub lsb : ℕ
  pub width : ℕ
  pub policy : Policy
  pub volatile : Bool
  pub compare : Bool
  pub alone : Bool
  pub resets : List ResetPart

pub record RegData : Type 0 where
  pub name : List ℕ
  pub of : Option (List ℕ)
  pub bytes : ℕ
  pub backdoor : Bool
  pub skip : Skip
  pub fields : List FieldData

pub record PartsData : Type 0 where
  pub blocks : List ScopePart
  pub files : List ScopePart
  pub regs : List RegData
  pub mems : List MemPart
