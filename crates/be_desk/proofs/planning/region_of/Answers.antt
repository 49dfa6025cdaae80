use Rattle.std.proofs.Common.{◌≡◌, ℕ, ap, sym, ◌∙◌}
use Rattle.std.proofs.lemmas.Result.{IfOk-weaker}
use Rattle.be_geom.specs.Numbers.{is_number}
use Rattle.be_region.specs.Regions.{SamePixels}
use Rattle.be_stack.specs.Owner.{owner_at}
use Rattle.be_stack.specs.Visible.{IsVisible}
use Rattle.be_desk.specs.Affected.{IsZone, OthersStay}
use Rattle.be_desk.proofs.planning.region_of.Goals as goal

pub returns-then-pane-w : goal.returns-then-pane-w
returns-then-pane-w c =
    let stack = c.args.next.now.stack in
    IfOk-weaker c.copy.result (λ region. SamePixels region c.args.next.now.zone.new) (λ region. IsVisible region stack c.args.pane.now.window) (λ region same x y. same x y ∙ c.requires.zone.new x y ∙ ap (λ n. is_number n (owner_at stack x y)) (sym c.if-pane-w.true)) c.copy.ensures

pub returns : goal.returns
returns c =
    let old = c.args.desk.now.stack in
    let new = c.args.next.now.stack in
    let u = c.args.pane.now.window in
    IfOk-weaker c.owned_after.result (λ region. (w : ℕ) → (u ≡ w → ⊥) → OthersStay old new w → IsZone old new w c.args.next.now.zone → IsVisible region new u) (λ region. IsVisible region new u) (λ region is. is c.args.w c.if-pane-w.false c.requires.others c.requires.zone) c.owned_after.ensures
