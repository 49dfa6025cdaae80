use Rattle.std.proofs.Common.{arith}
use Rattle.be_check.proofs.Following.{above, fits_last, one_more, permitted, some_fits, some_mid}
use Rattle.be_check.proofs.Trying.{is_legal, is_made, never_needs, not_legal}
use Rattle.be_check.proofs.stepping.make_if_legal.Goals as goal

pub prepare-requires-clause-fitting : goal.prepare-requires-clause-fitting
prepare-requires-clause-fitting c =
    some_fits c.args.world.now c.args.held.now.parts c.args.made c.requires

pub prepare-requires-clause-fits : goal.prepare-requires-clause-fits
prepare-requires-clause-fits c =
    fits_last c.args.world.now c.args.held.now.parts c.args.made c.requires

pub perform-requires-clause-fitting : goal.perform-requires-clause-fitting
perform-requires-clause-fitting c =
    let d = c.args.world.now in
    let parts = c.args.held.now.parts in
    let e = c.args.entry.now in
    let mid = c.prepare.new.held.parts in
    let legal =
    is_legal d parts c.args.made c.requires e mid c.prepare.ensures.same c.in_ok-ready.field-0
    c.in-Ready.ready c.in_ok-ready.ensures.answer c.in-Ready.is in
    some_mid d parts c.args.made c.requires e legal mid c.prepare.ensures.same

pub perform-requires-clause-number : goal.perform-requires-clause-number
perform-requires-clause-number c =
    let d = c.args.world.now in
    let parts = c.args.held.now.parts in
    let e = c.args.entry.now in
    let mid = c.prepare.new.held.parts in
    let legal =
    is_legal d parts c.args.made c.requires e mid c.prepare.ensures.same c.in_ok-ready.field-0
    c.in-Ready.ready c.in_ok-ready.ensures.answer c.in-Ready.is in
    (omega arith, one_more d parts c.args.made c.requires e legal)

pub perform-requires-clause-permitted : goal.perform-requires-clause-permitted
perform-requires-clause-permitted c =
    let d = c.args.world.now in
    let parts = c.args.held.now.parts in
    let e = c.args.entry.now in
    let mid = c.prepare.new.held.parts in
    let v = c.in_ok-ready.field-0 in
    let r = c.in-Ready.ready in
    let answer = c.in_ok-ready.ensures.answer in
    let legal =
    is_legal d parts c.args.made c.requires e mid c.prepare.ensures.same v r answer c.in-Ready.is in
    permitted d parts c.args.made c.requires e legal mid c.prepare.ensures.same v r answer
    c.in-Ready.is

pub perform-requires-clause-above : goal.perform-requires-clause-above
perform-requires-clause-above c =
    let d = c.args.world.now in
    let parts = c.args.held.now.parts in
    let e = c.args.entry.now in
    let mid = c.prepare.new.held.parts in
    let v = c.in_ok-ready.field-0 in
    let r = c.in-Ready.ready in
    let answer = c.in_ok-ready.ensures.answer in
    let legal =
    is_legal d parts c.args.made c.requires e mid c.prepare.ensures.same v r answer c.in-Ready.is in
    above d parts c.args.made c.requires e legal mid c.prepare.ensures.same v r answer
    c.in-Ready.is c.prepare.ensures.logs

pub unreachable-requires : goal.unreachable-requires
unreachable-requires c =
    never_needs c.args.world.now c.args.held.now.parts c.args.made c.requires c.args.entry.now
    c.prepare.new.held.parts c.prepare.ensures.same c.in_ok-ready.field-0 c.in-Needs.field-0
    c.in-Needs.is c.in_ok-ready.ensures.answer

pub returns-in-NotLegal : goal.returns-in-NotLegal
returns-in-NotLegal c =
    not_legal c.args.world.now c.args.held.now.parts c.args.made c.requires c.args.entry.now
    c.prepare.new.held.parts c.prepare.ensures.same c.in_ok-ready.field-0 c.in-NotLegal.is
    c.in_ok-ready.ensures.answer

pub returns-in-Ready : goal.returns-in-Ready
returns-in-Ready c =
    is_made c.args.world.now c.args.held.now.parts c.args.made c.requires c.args.entry.now
    c.prepare.new.held.parts c.prepare.ensures.same c.in_ok-ready.field-0 c.in-Ready.ready
    c.in_ok-ready.ensures.answer c.in-Ready.is c.perform.new.held.parts
    c.perform.ensures.places c.perform.ensures.after c.perform.ensures.fits c.perform.ensures.logs
    c.prepare.ensures.logs
