use Rattle.std.proofs.Common.{◌≡◌, false, ltb, length, arith}
use Rattle.std.proofs.lemmas.Bool.{le-ltb}
use Rattle.device.specs.Device.{Medium}
use Rattle.device.specs.Joined.{joined}
use Rattle.device.proofs.JoinedFacts.{length_joined}
use Rattle.library_tests.proofs.pair_tests.cut_at_65535.Goals as goal

cut : (a b : Medium) → length a.sectors ≡ 65535 → length (joined a b).sectors ≡ 65535
cut a b full = omega (arith, length_joined a.sectors b.sectors)

past : (a b : Medium) → length a.sectors ≡ 65535 → ltb 65535 (length (joined a b).sectors) ≡ false
past a b full = let e = cut a b full in le-ltb 65535 (length (joined a b).sectors) (omega arith)

pub returns : goal.returns
returns c = record {
  length = cut;
  read = λ a b full. simp (past a b full);
  write = λ a b full. simp (past a b full);
}
