use Rattle.std.proofs.Common.{◌≤◌, length, arith}
use Rattle.be_hall.proofs.Holding.{fit_after}
use Rattle.be_serial.proofs.serial.Run.ask.Goals as goal

pub has_entry-has-requires-clause-fits : goal.has_entry-has-requires-clause-fits
has_entry-has-requires-clause-fits g c =
    let self = c.args.self.now in
    let n = length self.history.items in
    let room = c.requires.runs.room in
    let limit = c.requires.limit in
    let small : n ≤ 4611686018427387904 = omega arith in
    fit_after g.W.Parts.meaning (g.W.Parts.machine self.rules).fits n 4611686018427387904 self.held.parts (λ m f. (g.met.W.Parts.lawful self.rules).fits_more n 4611686018427387904 m small f) c.requires.runs.fits
