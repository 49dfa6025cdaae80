use Rattle.be_desk.proofs.AffectedLemmas.{AreListed}
use Rattle.be_desk.proofs.altered.altered.Given as goal

abbrev pub invariant-loop-u : goal.invariant-loop-u
invariant-loop-u l = AreListed l.before l.after l.w l.u l.names.items
