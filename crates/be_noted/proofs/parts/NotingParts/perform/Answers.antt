use Rattle.std.proofs.Common.{◌-◌, subst, sym}
use Rattle.be_hall.specs.Machine.{IsReady}
use Rattle.be_parts.specs.Kept.{note_in}
use Rattle.be_script.specs.Script.{Declared}
use Rattle.be_world.specs.Performing.{HasPerformed, MayMake}
use Rattle.be_jotted.specs.Jotting.{noted_machine}
use Rattle.be_noted.proofs.Both.{fit_alone, fit_noted, ready_alone, some_alone}
use Rattle.be_noted.proofs.Noted.{after_is}
use Rattle.be_noted.specs.Noting.{noted_entry}
use Rattle.be_noted.proofs.parts.NotingParts.perform.Goals as goal

pub make-requires : goal.make-requires
make-requires c =
    let d = c.args.self.now in
    let parts = c.args.held.now.parts in
    let e = noted_entry c.args.ready in
    subst (λ (x : Declared). MayMake x parts c.args.ready.ready c.args.number) (sym c.self.view_is)
    (record {
      limits = c.requires.fitting.1.limits;
      fitting = some_alone d parts c.requires.fitting;
      number = c.requires.number;
      fits = fit_alone d parts (c.args.number - 1) c.requires.fits;
      prepared = c.requires.prepared.0;
      ready =
          ready_alone d parts c.requires.fitting e
          (subst (λ h. IsReady (noted_machine d) h e) c.requires.seen c.requires.permitted);
      spare = c.requires.spare;
    })

pub returns-clause-after : goal.returns-clause-after
returns-clause-after c =
    let e = noted_entry c.args.ready in
    let note = note_in c.args.ready.note in
    after_is c.args.self.now e note c.args.number c.args.held.now c.make.new.held
    (subst (λ (x : Declared). HasPerformed x e note c.args.number c.args.held.now c.make.new.held)
    c.self.view_is c.make.ensures) c.requires.prepared.1

pub returns-clause-fits : goal.returns-clause-fits
returns-clause-fits c =
    fit_noted c.args.self.now c.make.new.held.parts c.args.number c.make.ensures.fits
