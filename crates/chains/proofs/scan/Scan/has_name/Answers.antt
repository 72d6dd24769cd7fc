use Rattle.std.proofs.Common.{◌∙◌, rules}
use Rattle.chains.specs.NameBytes.{name_bytes}
use Rattle.chains.proofs.NameLists.{among_is}
use Rattle.chains.proofs.scan.Scan.has_name.Goals as goal

pub returns : goal.returns
returns g c =
    let known = c.contains.ensures.value ∙ among_is (name_bytes c.args.name.now) _ in
    search rules
