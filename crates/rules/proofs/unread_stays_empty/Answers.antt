use Rattle.rules.proofs.unread_stays_empty.Goals as goal
use Rattle.rules.proofs.Unread.{starts_unread, stays_unread}

pub returns : goal.returns
returns c = record { starts = starts_unread; stays = stays_unread }
