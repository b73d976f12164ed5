-- Faults of a chip and of a layout as those of a description.
use Rattle.rl_model.specs.declared.fault.ModelFault.{ModelFault}
use Rattle.rl_model.specs.declared.fault.ModelFault.TheVariants as model
use Rattle.rl_map.specs.declared.fault.MapFault.{MapFault}
use Rattle.rl_map.specs.declared.fault.MapFault.TheVariants as map
use Rattle.rl_desc.specs.declared.fault.DescFault.{DescFault}
use Rattle.rl_desc.specs.declared.fault.DescFault.TheVariants.{Model, Map, Memory}

abbrev pub of_model : ModelFault → DescFault
of_model (model.Bad cause spot) = Model cause spot
of_model model.Memory = Memory

abbrev pub of_map : MapFault → DescFault
of_map (map.Bad cause spot) = Map cause spot
of_map map.Memory = Memory
