use Rattle.std.proofs.Common.{◌≡◌, refl, to_z, of_z, rules}
use Rattle.std.specs.Int.{w16}
use Rattle.std.proofs.lemmas.Result.{on_ok_weaker}
use Rattle.be_flat.proofs.Spelling.{row_of_two}
use Rattle.be_flat.proofs.writing.append_rect.Goals as goal

pub returns : goal.returns
returns c =
    let r = c.args.rect in
    let left : to_z w16 (of_z w16 r.left) ≡ r.left = search rules in
    let top : to_z w16 (of_z w16 r.top) ≡ r.top = search rules in
    let right : to_z w16 (of_z w16 r.right) ≡ r.right = search rules in
    let bottom : to_z w16 (of_z w16 r.bottom) ≡ r.bottom = search rules in
    let first = simp (left, top) at c.in_ok-append_point.ensures in
    on_ok_weaker c.append_point-2.result (λ w. row_of_two _ _ _ (λ a b p q. (a, b, refl, p, q)) first (simp (right, bottom) at w)) c.append_point-2.ensures
