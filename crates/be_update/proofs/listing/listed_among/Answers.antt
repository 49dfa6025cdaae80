use Rattle.std.proofs.Common.{◌++◌, ℕ, List, Option, Some, None, get_or, take, sym, ap, ◌∙◌}
use Rattle.std.specs.Prelude.{filter_map}
use Rattle.std.specs.Option.{option_map}
use Rattle.std.proofs.lemmas.List.{append-nil, take_all}
use Rattle.be_geom.specs.declared.rect.Rect.{Rect}
use Rattle.be_update.specs.Listing.{rect_in}
use Rattle.be_update.proofs.ListingLemmas.{listed_as, more}
use Rattle.be_update.proofs.listing.listed_among.Goals as goal
use Rattle.be_update.proofs.listing.listed_among.Goals.{in-Some+in_ok-push, in_default}

pub loop-view-preserved : goal.loop-view-preserved
loop-view-preserved c pixels same =
    let g : ℕ → Option (ℕ × Rect) = λ v. option_map (λ r. (v, r)) (rect_in c.args.tree.now pixels v) in
    let i = c.loop-view.view-index in
    let order = c.args.order.now in
    let v = get_or order i 0 in
    let read = c.in_ok-rect.ensures pixels same in
    elim c.match-branch-3.branch [
      | in-Some+in_ok-push w ↦
          ap (λ (vs : _). vs.items) w.views-is
          ∙ w.in_ok-push.ensures.items
          ∙ ap (λ (l : List (ℕ × Rect)). l ++ listed_as (Some (v, w.in-Some.rect))) (c.loop-view.invariant pixels same)
          ∙ sym (more g order i 0 (Some (v, w.in-Some.rect)) c.loop-view-test.true (ap (option_map (λ r. (v, r))) (sym read ∙ w.in-Some.is)))
      | in_default w ↦
          ap (λ (vs : _). vs.items) w.views-is
          ∙ c.loop-view.invariant pixels same
          ∙ sym (append-nil (filter_map g (take i order)))
          ∙ sym (more g order i 0 None c.loop-view-test.true (ap (option_map (λ r. (v, r))) (sym read ∙ w.in_default.is)))
    ]

pub returns : goal.returns
returns c pixels same =
    c.loop-view.invariant pixels same
    ∙ ap (filter_map (λ v. option_map (λ r. (v, r)) (rect_in c.args.tree.now pixels v))) (take_all c.loop-view.view-index c.args.order.now c.loop-view-test.false)
