use Rattle.small_world.proofs.Telling.{legal_where, none_where}
use Rattle.small_world.proofs.turns.WorldTurns.next.Goals as goal

pub returns-in-May : goal.returns-in-May
returns-in-May c =
    λ all s f. legal_where c.args.self.now all c.args.activity c.wish_of-wish.result
    c.wish_of-wish.ensures (c.in-May.ensures all s f).0

pub returns-in-Needs : goal.returns-in-Needs
returns-in-Needs c = (c.in-Needs.ensures.1, c.in-Needs.ensures.0)

pub returns-then-activity-from : goal.returns-then-activity-from
returns-then-activity-from c =
    λ all s f. none_where c.args.self.now all c.args.activity c.wish_of-wish.result
    c.wish_of-wish.ensures (c.in-MayNot.ensures all s f)

pub returns-else-activity-from : goal.returns-else-activity-from
returns-else-activity-from c =
    λ all s f. none_where c.args.self.now all c.args.activity c.wish_of-wish.result
    c.wish_of-wish.ensures (c.in-MayNot.ensures all s f)
