use Rattle.std.proofs.Common.{sym, ap, subst}
use Rattle.be_hall.specs.Passes.{about_of, Gives}
use Rattle.be_hall.proofs.InHand.{shows, gives_these, some_fits, fit_all}
use Rattle.be_hall.proofs.hall.Hall.see.Goals as goal

pub returns-clause-gives : goal.returns-clause-gives
returns-clause-gives g c =
    let it = c.args.pass.now in
    let a = about_of g.P.Parts.meaning c.args.self.now.table.shared.key in
    let s = shows g.P.Parts.machine g.P.Parts.meaning g.P.Parts.log a _ _ it.seat.me.0 it.held.parts it.tied (c.glance.ensures.sees a c.requires.1).1 in
    subst (λ v. Gives g.P.Parts.machine g.P.Parts.meaning a v it.held.parts) (ap (λ m. m.0) (sym c.glance.ensures.same.2)) (gives_these g.P.Parts.machine g.P.Parts.meaning g.P.Parts.log a _ it.seat.me.0 it.held.parts s)

pub returns-clause-askable : goal.returns-clause-askable
returns-clause-askable g c =
    let it = c.args.pass.now in
    let a = about_of g.P.Parts.meaning c.args.self.now.table.shared.key in
    let s = shows g.P.Parts.machine g.P.Parts.meaning g.P.Parts.log a _ _ it.seat.me.0 it.held.parts it.tied (c.glance.ensures.sees a c.requires.1).1 in (
      some_fits g.P.Parts.machine g.P.Parts.meaning g.P.Parts.log a _ it.seat.me.0 it.held.parts c.args.self.now.book.rules c.args.self.now.same_rules s,
      fit_all g.P.Parts.machine g.P.Parts.meaning g.P.Parts.log a _ it.seat.me.0 it.held.parts c.args.self.now.book.rules c.args.self.now.same_rules (g.met.P.Parts.lawful _) s,
    )
