use Rattle.std.proofs.Common.{subst, sym}
use Rattle.be_hall.specs.Hands.{meant}
use Rattle.be_hall.specs.Machine.{SomeFits}
use Rattle.be_noting.proofs.InHand.{has_entry_noted}
use Rattle.be_parts.specs.Parts.{meaning_of}
use Rattle.be_rules.specs.Rules.{world_machine}
use Rattle.be_script.specs.Script.{Declared}
use Rattle.be_world.specs.Turns.{HasEntry, legal_entry}
use Rattle.be_jotted.specs.Jotting.{told_of}
use Rattle.be_noted.proofs.Both.{fit_alone, fits_back, some_alone}
use Rattle.be_noted.specs.Noting.{noted_of}
use Rattle.be_noted.proofs.turns.NotingTurns.has_entry.Goals as goal

pub has_entry-requires-clause-fitting : goal.has_entry-requires-clause-fitting
has_entry-requires-clause-fitting c =
    let parts = c.args.held.now.parts in
    subst (λ (x : Declared). SomeFits (world_machine x) (meant meaning_of parts))
    (sym c.self.view_is) (some_alone c.args.self.now parts c.requires.fitting)

pub has_entry-requires-clause-fits : goal.has_entry-requires-clause-fits
has_entry-requires-clause-fits c =
    fit_alone c.args.self.now c.args.held.now.parts 4611686018427387904 c.requires.fits

pub returns : goal.returns
returns c =
    let d = c.args.self.now in
    let parts = c.args.held.now.parts in
    let has =
    subst (λ (x : Declared). HasEntry x (meant meaning_of parts) c.args.activity
    c.has_entry.result) c.self.view_is c.has_entry.ensures in
    has_entry_noted (world_machine d) (told_of d) (meant noted_of parts) (legal_entry d)
    c.args.activity c.has_entry.result
    (λ all sound fits. has all sound (fits_back d parts all fits))
