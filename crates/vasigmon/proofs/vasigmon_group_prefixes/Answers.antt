-- The list in first-seen order, which the function behind the entry answers, is the group's prefix list. Assumes nothing.
use Rattle.prefixes.proofs.Groups.{prefixes-meet}
use Rattle.vasigmon.proofs.vasigmon_group_prefixes.Goals as goal

pub returns : goal.returns
returns c = search prefixes-meet
