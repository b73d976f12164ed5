use Rattle.rl_detect_laws.proofs.BitTables.{deaf_is_shown, other_policy_is_shown, stuck_is_shown}
use Rattle.rl_detect_laws.proofs.BitTables.{first_value_is_shown, first_value_is_shown_behind, first_value_shows_deaf}
use Rattle.rl_detect_laws.proofs.law.policies_are_shown.Goals as goal

pub returns : goal.returns
returns c = record {
  stuck = stuck_is_shown;
  deaf = deaf_is_shown;
  other = other_policy_is_shown;
  stuck_first = first_value_is_shown;
  stuck_behind = first_value_is_shown_behind;
  deaf_first = first_value_shows_deaf;
}
