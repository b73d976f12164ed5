use Rattle.std.proofs.Common.{subst}
use Rattle.rl_model.specs.Rows.{ChipData}
use Rattle.rl_model.specs.Masks.{AreEffects}
use Rattle.rl_model.proofs.EffectLemmas.{masks_at}
use Rattle.rl_model.proofs.Reading.{sound_as}
use Rattle.rl_model.proofs.chip.Chip.effects.Goals as goal

pub returns-clause-value : goal.returns-clause-value
returns-clause-value c =
    masks_at c.args.self.now c.self.inside.effects.items c.args.reg c.index.result.now
    (subst (λ (x : ChipData). AreEffects x.regs x.fields c.self.inside.effects.items) c.self.view_is c.self.invariant.1) c.requires c.index.ensures

pub returns-clause-sound : goal.returns-clause-sound
returns-clause-sound c = sound_as _ _ c.self.view_is c.self.invariant.0
