use Rattle.std.proofs.Common.{◌≡◌, ℕ}
use Rattle.std.proofs.lemmas.Result.{IfOk-weaker}
use Rattle.be_region.specs.Regions.{IsDifference}
use Rattle.be_stack.specs.Visible.{IsVisible}
use Rattle.be_desk.specs.Affected.{IsZone, OthersStay}
use Rattle.be_desk.proofs.OthersLemmas.{owned_rest}
use Rattle.be_desk.proofs.zone.owned_after.Goals as goal

pub returns : goal.returns
returns c =
    let before = c.args.before.now in
    let after = c.args.after.now in
    let u = c.args.u in
    let zone = c.args.zone.now in
    IfOk-weaker c.beside.result (λ rest. IsDifference rest c.args.owned.now zone.new) (λ rest. (w : ℕ) → (u ≡ w → ⊥) → OthersStay before after w → IsZone before after w zone → IsVisible rest after u) (λ rest beside w other stay is. owned_rest before after w u zone c.args.owned.now rest stay is other (c.meets.ensures c.if-meets.false) c.requires beside) c.beside.ensures

pub returns-then-meets : goal.returns-then-meets
returns-then-meets c =
    let before = c.args.before.now in
    let after = c.args.after.now in
    let u = c.args.u in
    let zone = c.args.zone.now in
    IfOk-weaker c.visible.result (λ rest. IsVisible rest after u) (λ rest. (w : ℕ) → (u ≡ w → ⊥) → OthersStay before after w → IsZone before after w zone → IsVisible rest after u) (λ rest is w other stay zoned. is) c.visible.ensures
