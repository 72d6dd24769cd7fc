use Rattle.std.proofs.Common.{sym, refl, ap, ◌∙◌, subst}
use Rattle.device.specs.Device.{Medium}
use Rattle.chains.specs.declared.descriptor.Descriptor.{Descriptor}
use Rattle.chains.specs.Changes.{LaidOut}
use Rattle.drive.proofs.Erasing.{all_given, never, ok_same}
use Rattle.drive.proofs.drive.Drive.give_back_file.Goals as goal

pub returns-in_err-fields-clause-freed : goal.returns-in_err-fields-clause-freed
returns-in_err-fields-clause-freed g c l f laid shut there at size = never (c.in_err-fields.ensures.shows l f c.args.file.place laid shut there at)

pub returns-in_err-free_chain-clause-freed : goal.returns-in_err-free_chain-clause-freed
returns-in_err-free_chain-clause-freed g c l f laid shut there at size =
    let same = c.read_descriptor.ensures.same in
    let fields = ok_same (c.in_ok-fields.ensures.shows l f c.args.file.place laid shut there at) in
    never
    (c.in_err-free_chain.ensures.freed l f c.args.file.place (subst (λ (m : Medium). LaidOut l m.sectors) (sym same) laid) (ap (λ (m : Medium). m.door) same ∙ shut) there
    (ap (λ (x : Descriptor). x.first) fields) (ap (λ (x : Descriptor). x.count) fields) size).0

pub returns-clause-freed : goal.returns-clause-freed
returns-clause-freed g c l f laid shut there at size =
    let same = c.read_descriptor.ensures.same in
    let fields = ok_same (c.in_ok-fields.ensures.shows l f c.args.file.place laid shut there at) in
    let records =
    (c.in_ok-free_chain.ensures.freed l f c.args.file.place (subst (λ (m : Medium). LaidOut l m.sectors) (sym same) laid) (ap (λ (m : Medium). m.door) same ∙ shut) there
    (ap (λ (x : Descriptor). x.first) fields) (ap (λ (x : Descriptor). x.count) fields) size).1 in
    (refl, all_given _ l f c.args.file.place c.args.file.descriptor _ _ _ _ _ _ laid there at size c.free_chain.ensures.spans records c.give.ensures.value c.give.ensures.after)
