use Rattle.std.proofs.Common.{◌≡◌, Ok, ◌∙◌, rules}
use Rattle.chains.specs.Descriptors.{descriptor_read}
use Rattle.chains.proofs.LaidOut.{descriptor_shown}
use Rattle.chains.proofs.descriptor.read_descriptor.Goals as goal

pub returns-in_err-sector-clause-shows : goal.returns-in_err-sector-clause-shows
returns-in_err-sector-clause-shows g c d f p laid shut at_place here =
    let m = g.D.ReadingDevice.medium c.args.device.now in
    let value : c.from_residual.result ≡ descriptor_read m c.args.at = search rules in
    value ∙ descriptor_shown m c.args.at d f p laid shut at_place here

pub returns-clause-shows : goal.returns-clause-shows
returns-clause-shows g c d f p laid shut at_place here =
    let m = g.D.ReadingDevice.medium c.args.device.now in
    let value : Ok c.parse_descriptor.result ≡ descriptor_read m c.args.at = search rules in
    value ∙ descriptor_shown m c.args.at d f p laid shut at_place here
