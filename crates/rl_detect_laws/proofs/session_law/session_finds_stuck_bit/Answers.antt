use Rattle.rl_detect_laws.proofs.Sessions.{session_finds_stuck_bit, session_finds_stuck_bit_beside, session_finds_stuck_reset}
use Rattle.rl_detect_laws.proofs.session_law.session_finds_stuck_bit.Goals as goal

pub returns : goal.returns
returns c =
    record { turned = session_finds_stuck_bit; beside = session_finds_stuck_bit_beside; reset = session_finds_stuck_reset }
