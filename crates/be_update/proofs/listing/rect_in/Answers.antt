use Rattle.std.proofs.Common.{Some, Err, SFits, w16, w32, rules, arith, refl, sym, ap, ◌∙◌}
use Rattle.std.proofs.lemmas.Int.{ints, to_z-of_z}
use Rattle.be_views.specs.Trees.{place_of}
use Rattle.be_views.proofs.ChildLemmas.{in_frame}
use Rattle.be_update.proofs.ListingLemmas.{IsOwn, near, no_view, place_is, rect_none, rect_some}
use Rattle.be_update.proofs.listing.rect_in.Goals as goal
use Rattle.be_update.proofs.listing.rect_in.Goals.{in-Some-frame, in-None}

pub returns-in-Err-NoView : goal.returns-in-Err-NoView
returns-in-Err-NoView c pixels same =
    no_view c.args.tree.now c.args.view pixels (c.clip_of.ensures.no_view.0 (c.in-Err-NoView.is ∙ ap (λ e. Err e) c.in-Err-NoView.field-0-is))

pub rect_from-requires-clause-left : goal.rect_from-requires-clause-left
rect_from-requires-clause-left c =
    let frame = c.in-Some-frame.frame in
    let f = c.in-Some-frame.ensures.some in
    let inside = in_frame frame frame.left f.left.0 (f.holds frame.left f.left.0 f.left.1) in
    let x : SFits w16 c.in-Some-frame.frame.left = search rules in
    let b : SFits w16 c.in-Some-frame.frame.bottom = search rules in
    let place : SFits w32 c.in-Some.left = search rules in
    let own : IsOwn c.args.tree.now c.args.view c.args.session.now c.intersect.new.self c.in-Ok.clip = record { shows = c.in-Ok.ensures.clip; both = c.in_ok-intersect.ensures.ok } in
    let d = inside.3 in
    let n = near c.args.tree.now c.args.view c.args.session.now c.intersect.new.self c.in-Ok.clip frame.left f.left.0 c.in-Some.left c.in-Some.top c.requires own (place_is (place_of c.args.tree.now c.args.view) c.in-Some.left c.in-Some.top c.in-Some.ensures.place) f.left.1 (omega (arith, ints)) (omega (arith, ints)) in
    simp to_z-of_z n.0

pub rect_from-requires-clause-top : goal.rect_from-requires-clause-top
rect_from-requires-clause-top c =
    let frame = c.in-Some-frame.frame in
    let f = c.in-Some-frame.ensures.some in
    let inside = in_frame frame f.top.0 frame.top (f.holds f.top.0 frame.top f.top.1) in
    let x : SFits w16 c.in-Some-frame.frame.top = search rules in
    let b : SFits w16 c.in-Some-frame.frame.right = search rules in
    let place : SFits w32 c.in-Some.top = search rules in
    let own : IsOwn c.args.tree.now c.args.view c.args.session.now c.intersect.new.self c.in-Ok.clip = record { shows = c.in-Ok.ensures.clip; both = c.in_ok-intersect.ensures.ok } in
    let d = inside.1 in
    let n = near c.args.tree.now c.args.view c.args.session.now c.intersect.new.self c.in-Ok.clip f.top.0 frame.top c.in-Some.left c.in-Some.top c.requires own (place_is (place_of c.args.tree.now c.args.view) c.in-Some.left c.in-Some.top c.in-Some.ensures.place) f.top.1 (omega (arith, ints)) (omega (arith, ints)) in
    simp to_z-of_z n.1

pub rect_from-requires-clause-across : goal.rect_from-requires-clause-across
rect_from-requires-clause-across c =
    let frame = c.in-Some-frame.frame in
    let f = c.in-Some-frame.ensures.some in
    (in_frame frame frame.left f.left.0 (f.holds frame.left f.left.0 f.left.1)).1

pub rect_from-requires-clause-down : goal.rect_from-requires-clause-down
rect_from-requires-clause-down c =
    let frame = c.in-Some-frame.frame in
    let f = c.in-Some-frame.ensures.some in
    (in_frame frame f.top.0 frame.top (f.holds f.top.0 frame.top f.top.1)).3

pub returns : goal.returns
returns c pixels same =
    let left : SFits w32 c.in-Some.left = search rules in
    let top : SFits w32 c.in-Some.top = search rules in
    let own : IsOwn c.args.tree.now c.args.view c.args.session.now c.intersect.new.self c.in-Ok.clip = record { shows = c.in-Ok.ensures.clip; both = c.in_ok-intersect.ensures.ok } in
    let place = place_is (place_of c.args.tree.now c.args.view) c.in-Some.left c.in-Some.top c.in-Some.ensures.place in
    elim c.match-frame.branch [
      | in-Some-frame w ↦
          w.result-is ∙ ap (λ r. Some r) (simp to_z-of_z at w.rect_from.ensures)
          ∙ sym (rect_some c.args.tree.now c.args.view pixels c.args.session.now c.intersect.new.self c.in-Ok.clip w.in-Some-frame.frame c.in-Some.left c.in-Some.top own same place w.in-Some-frame.ensures.some)
      | in-None w ↦
          w.result-is
          ∙ sym (rect_none c.args.tree.now c.args.view pixels c.args.session.now c.intersect.new.self c.in-Ok.clip c.in-Some.left c.in-Some.top own same place (w.in-None.ensures.none.0 refl))
    ]
