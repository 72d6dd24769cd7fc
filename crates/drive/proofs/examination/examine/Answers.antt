use Rattle.rules.proofs.OnlySound.{reading_is_exact}
use Rattle.drive.proofs.Examining.{examined_by}
use Rattle.drive.proofs.examination.examine.Goals as goal

pub returns-clause-answer : goal.returns-clause-answer
returns-clause-answer g c = examined_by _ _ _ c.try_examine.ensures.does c.into.ensures

pub returns-clause-exact : goal.returns-clause-exact
returns-clause-exact g c = reading_is_exact _ c.try_examine.ensures.whole
