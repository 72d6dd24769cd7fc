use Rattle.std.proofs.Common.{rules, tests, ◌∙◌}
use Rattle.std.proofs.lemmas.Iterator.{YieldsList-from_slice}
use Rattle.std.proofs.lemmas.Iterator.Search.{any_from_yields_List}
use Rattle.drive.specs.Units.{is_open, unit_of}
use Rattle.drive.proofs.UnitTable.{some_shows}
use Rattle.drive.proofs.units.State.some_open.Goals as goal

pub returns : goal.returns
returns c =
    any_from_yields_List (λ u. is_open (unit_of u)) _ _ _ c.any.ensures.ran (YieldsList-from_slice c.args.self.now.units (cc)) (λ x b q k. search (rules, tests))
    ∙ some_shows is_open c.args.self.now.units
