use Rattle.std.proofs.Common.{rules, tests, ◌∙◌}
use Rattle.std.proofs.lemmas.Iterator.{YieldsList-from_slice}
use Rattle.std.proofs.lemmas.Iterator.Search.{any_from_yields_List}
use Rattle.rules.specs.Model.{has_name}
use Rattle.drive.specs.Units.{unit_of}
use Rattle.drive.proofs.UnitTable.{some_shows}
use Rattle.drive.proofs.units.State.some_holds.Goals as goal

pub returns : goal.returns
returns c =
    any_from_yields_List (λ u. has_name c.args.name.now (unit_of u)) _ _ _ c.any.ensures.ran (YieldsList-from_slice c.args.self.now.units (cc)) (λ x b q k. search (rules, tests))
    ∙ some_shows (has_name c.args.name.now) c.args.self.now.units
