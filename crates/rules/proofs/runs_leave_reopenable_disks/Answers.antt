use Rattle.rules.proofs.runs_leave_reopenable_disks.Goals as goal
use Rattle.rules.proofs.Leaving.{leaves_reopenable}

pub returns : goal.returns
returns c = leaves_reopenable
