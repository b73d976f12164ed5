use Rattle.rl_detect_laws.proofs.Logged.{shown_is_found, shown_never_passes}
use Rattle.rl_detect_laws.proofs.session_law.shown_is_found.Goals as goal

pub returns : goal.returns
returns c = record { passes = shown_never_passes; found = shown_is_found }
