use Rattle.rules.proofs.Lookups.{listed_at}
use Rattle.drive.proofs.Erasing.{never, removes_done}
use Rattle.drive.proofs.drive.Drive.remove_file.Goals as goal

pub returns-in_err-give_back_file : goal.returns-in_err-give_back_file
returns-in_err-give_back_file g c n l knows shut off seen =
    let s = listed_at n l.places c.args.file.place c.args.file.descriptor knows.laid.proper.distinct seen in
    never (c.in_err-give_back_file.ensures.freed l s.file knows.laid shut s.entry s.at knows.span).0

pub returns : goal.returns
returns g c =
    let back = c.in_ok-give_back_file.ensures in
    removes_done g.D.ReadingDevice g.A.SectorAllocator c.args.file c.args.self.now c.give_back_file.new.self c.unlist_file.new.self c.unlist_file.result
    back.medium back.state back.span back.freed c.unlist_file.ensures.allocator c.unlist_file.ensures.after
