use Rattle.std.proofs.Common.{Bool, ◌≡◌, Decides, sym, subst}
use Rattle.be_geom.proofs.SameRects.{rect_decides}
use Rattle.be_desk.proofs.altered.is_same.Goals as goal

pub returns : goal.returns
returns c = subst (λ (b : Bool). Decides b (c.args.one ≡ c.args.other)) (sym c.eq.ensures) (rect_decides c.args.one c.args.other)
