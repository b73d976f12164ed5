-- What a line says that was read in place.
use Rattle.rl_script.specs.declared.line.Line.{Line}
use Rattle.rl_script.specs.declared.line.Line.TheVariants as line
use Rattle.rl_script.specs.declared.line_ref.ItemLine.{ItemLine}
use Rattle.rl_script.specs.declared.line_ref.LineRef.{LineRef}
use Rattle.rl_script.specs.declared.line_ref.LineRef.TheVariants.{Blank, OnItem, BurstWrite, Reset, Seq}
use Rattle.rl_script.specs.Commands.{line_of}

abbrev pub item_said : ItemLine → Line
item_said l = line_of l.item l.path l.first l.second l.map

abbrev pub line_said : LineRef → Line
line_said Blank = line.Blank
line_said (OnItem l) = item_said l
line_said (BurstWrite mem first values map) = line.BurstWrite mem first values map
line_said (Reset kind) = line.Reset kind
line_said (Seq which block) = line.Seq which block
