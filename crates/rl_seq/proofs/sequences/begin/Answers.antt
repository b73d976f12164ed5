use Rattle.std.proofs.Common.{◌≡◌, refl}
use Rattle.rl_seq.specs.declared.sequence.Sequence.{Sequence}
use Rattle.rl_seq.specs.declared.sequence.Sequence.TheVariants.{HwReset, BitBash, Access, Shared, MemWalk}
use Rattle.rl_seq.specs.Plan.{stop}
use Rattle.rl_seq.specs.Sequences.{beginning_of}
use Rattle.rl_seq.proofs.Following.{follows_none, follows_same, same_run}
use Rattle.rl_seq.proofs.sequences.begin.Goals as goal

pub returns-in-HwReset : goal.returns-in-HwReset
returns-in-HwReset g c = rw c.in-HwReset.is (record {
  follows = c.perform_step.ensures.follows;
  same = record { model = refl; device = refl; adapters = refl; recorder = refl };
})

-- no other sequence begins with anything
nothing_before : (which : Sequence) → (which ≡ HwReset → ⊥) → stop ≡ beginning_of which
nothing_before HwReset other = absurd (other refl)
nothing_before BitBash other = refl
nothing_before Access other = refl
nothing_before Shared other = refl
nothing_before MemWalk other = refl

pub returns-in_default : goal.returns-in_default
returns-in_default g c = record {
  follows = follows_same g.R.Recorder _ _ _ _ stop (beginning_of c.args.sequence) _
      (nothing_before c.args.sequence c.in_default.not-HwReset) (follows_none g.R.Recorder _ _ _ c.requires);
  same = same_run _;
}
