-- A layout that is opened, as data.
use Rattle.rl_map.specs.declared.layout.Layout.TheInside.{Inside}
use Rattle.rl_map.specs.Layout.{LayoutData}
use Rattle.rl_map.proofs.Closing.{built}

abbrev pub opened : Inside → LayoutData
opened l = built l.maps.items l.places.items l.ports.items l.kinds.items l.rows.value.items
