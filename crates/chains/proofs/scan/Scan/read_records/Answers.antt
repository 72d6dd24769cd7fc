use Rattle.std.proofs.Common.{◌≡◌, ◌+◌, ℕ, List, ◌||◌, map, Ok, sym, ap, ◌∙◌, rules}
use Rattle.arrayvec.specs.ArrayVec.{ArrayVec, array_vec_len}
use Rattle.freespace.specs.Bits.{bit_of}
use Rattle.chains.specs.declared.name.Name.{Name}
use Rattle.chains.specs.Files.{records_from}
use Rattle.chains.specs.Names.{same}
use Rattle.chains.specs.NameBytes.{name_bytes}
use Rattle.chains.specs.Reading.{among}
use Rattle.chains.specs.Scans.{disk_of, seen_of}
use Rattle.chains.proofs.NameLists.{among_more}
use Rattle.chains.proofs.scan.Scan.read_records.Goals as goal

pub returns-clause-scans : goal.returns-clause-scans
returns-clause-scans g c =
    let s = seen_of c.args.self.now in
    let m = c.args.place.now.name in
    let noted : records_from (disk_of c.args.self.now.disk) c.args.place.now.at (name_bytes m) s ≡ Ok (record { met = bit_of c.walk.new.self.met.bits; names = λ n. same n (name_bytes m) || s.names n; files = s.files + 1 }) = search rules in
    let names = λ (n : List ℕ). ap (λ xs. among n (map name_bytes xs)) c.push.ensures.items ∙ among_more n _ m ∙ ap (λ (xs : ArrayVec Name). same n (name_bytes m) || among n (map name_bytes xs.items)) c.walk.ensures.names in
    let files = c.push.ensures.len ∙ ap (λ (xs : ArrayVec Name). array_vec_len xs + 1) c.walk.ensures.names in
    noted ∙ (λ i. Ok (record { met = bit_of c.walk.new.self.met.bits; names = λ n. sym (names n) i; files = sym files i }))
