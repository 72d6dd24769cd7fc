-- Where a run ends, initialised and with every unit closed, the disk serves a new drive.
use Rattle.std.proofs.Common.{◌≡◌, true, false, List, refl}
use Rattle.std.proofs.lemmas.Bool.{both_ways}
use Rattle.rules.specs.Model.{Model, Outcome, some_open}
use Rattle.rules.specs.Runs.{View, Call, Reopens, Run, none, more, LeavesReopenable}

abbrev Reopenable : Model → View → Type 0
Reopenable b v = b.initialized ≡ true → some_open b ≡ false → Reopens v.sectors b.files

-- the last step tells
run_leaves : {b : Model} {v : View} {qs : List Call} {os : List Outcome} {b'' : Model} {v'' : View} → Run b v qs os b'' v'' → Reopenable b v → Reopenable b'' v''
run_leaves none h = h
run_leaves (more step rest) h = run_leaves rest step.reopens

pub leaves_reopenable : LeavesReopenable
leaves_reopenable m free qs ts b v ran = run_leaves ran.2 (λ i. absurd (both_ways false refl i))
