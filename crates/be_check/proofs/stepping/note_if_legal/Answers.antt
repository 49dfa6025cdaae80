use Rattle.std.proofs.Common.{arith}
use Rattle.be_check.proofs.Noting.{above, fits_before, fits_last_noted, is_made_noted}
use Rattle.be_check.proofs.Noting.{never_needs, not_legal, number_is, permitted, some_mid, some_now}
use Rattle.be_check.proofs.stepping.note_if_legal.Goals as goal

pub prepare-requires-clause-fitting : goal.prepare-requires-clause-fitting
prepare-requires-clause-fitting c =
    some_now c.args.noting.now c.args.held.now.parts c.args.made c.requires

pub prepare-requires-clause-fits : goal.prepare-requires-clause-fits
prepare-requires-clause-fits c =
    fits_last_noted c.args.noting.now c.args.held.now.parts c.args.made c.requires

pub perform-requires-clause-fitting : goal.perform-requires-clause-fitting
perform-requires-clause-fitting c =
    some_mid c.args.noting.now c.args.held.now.parts c.args.made c.requires c.args.entry.now
    c.prepare.new.held.parts c.prepare.ensures.same

pub perform-requires-clause-fits : goal.perform-requires-clause-fits
perform-requires-clause-fits c =
    fits_before c.args.noting.now c.args.held.now.parts c.args.made c.requires c.args.entry.now
    c.prepare.new.held.parts c.prepare.ensures.same

pub perform-requires-clause-number : goal.perform-requires-clause-number
perform-requires-clause-number c = (
  omega arith,
  number_is c.args.noting.now c.args.held.now.parts c.args.made c.requires c.args.entry.now
      c.prepare.new.held.parts c.prepare.ensures.same c.in_ok-ready.field-0 c.in-Ready.ready
      c.in_ok-ready.ensures.answer c.in-Ready.is,
)

pub perform-requires-clause-permitted : goal.perform-requires-clause-permitted
perform-requires-clause-permitted c =
    permitted c.args.noting.now c.args.held.now.parts c.args.made c.requires c.args.entry.now
    c.prepare.new.held.parts c.prepare.ensures.same c.in_ok-ready.field-0 c.in-Ready.ready
    c.in_ok-ready.ensures.answer c.in-Ready.is

pub perform-requires-clause-above : goal.perform-requires-clause-above
perform-requires-clause-above c =
    above c.args.noting.now c.args.held.now.parts c.args.made c.requires c.args.entry.now
    c.prepare.new.held.parts c.prepare.ensures.same c.in_ok-ready.field-0 c.in-Ready.ready
    c.in_ok-ready.ensures.answer c.in-Ready.is c.prepare.ensures.logs

pub unreachable-requires : goal.unreachable-requires
unreachable-requires c =
    never_needs c.args.noting.now c.args.held.now.parts c.args.made c.requires c.args.entry.now
    c.prepare.new.held.parts c.prepare.ensures.same c.in_ok-ready.field-0 c.in-Needs.field-0
    c.in-Needs.is c.in_ok-ready.ensures.answer

pub returns-in-NotLegal : goal.returns-in-NotLegal
returns-in-NotLegal c =
    not_legal c.args.noting.now c.args.held.now.parts c.args.made c.requires c.args.entry.now
    c.prepare.new.held.parts c.prepare.ensures.same c.in_ok-ready.field-0 c.in-NotLegal.is
    c.in_ok-ready.ensures.answer

pub returns-in-Ready : goal.returns-in-Ready
returns-in-Ready c =
    is_made_noted c.args.noting.now c.args.held.now.parts c.args.made c.requires c.args.entry.now
    c.prepare.new.held.parts c.prepare.ensures.same c.in_ok-ready.field-0 c.in-Ready.ready
    c.in_ok-ready.ensures.answer c.in-Ready.is c.perform.new.held.parts c.perform.ensures.places
    c.perform.ensures.after c.perform.ensures.fits c.perform.ensures.logs c.prepare.ensures.logs
