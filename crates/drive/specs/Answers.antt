-- What a call answers, by what it came to.
use Rattle.std.specs.Prelude.{Ok, Err, Result}
use Rattle.device.specs.declared.fault.Code.TheVariants.{Done}
use Rattle.device.specs.declared.fault.Fault.{Fault}
use Rattle.device.specs.declared.fault.Layer.TheVariants.{None}
use Rattle.drive.specs.declared.answer.Answer.{Answer}

abbrev pub done_answer : Answer
done_answer = record { code = Done; length = 0; layer = None; sector = 0xFFFF }

-- the answer that passes a fault on
abbrev pub from_fault : Fault → Answer
from_fault f = record { code = f.code; length = 0; layer = f.layer; sector = f.sector }

abbrev pub answer_of : Result Unit Fault → Answer
answer_of (Ok u) = done_answer
answer_of (Err f) = from_fault f
