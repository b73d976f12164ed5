use Rattle.rl_detect_laws.proofs.Sessions.{session_finds_deaf_memory, session_marks_only_deaf}
use Rattle.rl_detect_laws.proofs.session_law.session_finds_deaf_memory.Goals as goal

pub returns : goal.returns
returns c = record { found = session_finds_deaf_memory; only = session_marks_only_deaf }
