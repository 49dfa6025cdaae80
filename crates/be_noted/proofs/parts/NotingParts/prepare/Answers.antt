use Rattle.be_noted.proofs.Both.{fit_alone, some_alone}
use Rattle.be_noted.proofs.parts.NotingParts.prepare.Goals as goal

pub note-requires : goal.note-requires
note-requires c = (
  some_alone c.args.self.now c.args.held.now.parts c.requires.fitting,
  fit_alone c.args.self.now c.args.held.now.parts 4611686018427387904 c.requires.fits,
)
