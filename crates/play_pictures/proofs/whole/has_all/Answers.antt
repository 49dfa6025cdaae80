use Rattle.std.proofs.Common.{SFits, w16, rules}
use Rattle.std.proofs.lemmas.Int.{to_z-of_z}
use Rattle.be_facts.proofs.Truths.{and_map}
use Rattle.play_pictures.proofs.whole.has_all.Goals as goal

pub returns-then-lies_between : goal.returns-then-lies_between
returns-then-lies_between c =
    let left : SFits w16 c.args.rect.left = search rules in
    let top : SFits w16 c.args.rect.top = search rules in
    let right : SFits w16 c.args.rect.right = search rules in
    let bottom : SFits w16 c.args.rect.bottom = search rules in
    let first : SFits w16 c.args.frame.left = search rules in
    let second : SFits w16 c.args.frame.top = search rules in
    let third : SFits w16 c.args.frame.right = search rules in
    let last : SFits w16 c.args.frame.bottom = search rules in
    let across : SFits w16 c.args.place.x = search rules in
    let down : SFits w16 c.args.place.y = search rules in
    let columns = simp to_z-of_z at c.lies_between.ensures in
    let rows = simp to_z-of_z at c.lies_between-then-lies_between.ensures in
    λ e x y. and_map _ _ _ _ (columns c.if-lies_between.true x) (rows e y)
