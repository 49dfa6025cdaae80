use Rattle.std.proofs.Common.{◌≡◌, ◌++◌, List, [], ◌∷◌, Result, Ok, Err, ap, subst, ◌∙◌, false}
use Rattle.std.specs.Result.{IfOk}
use Rattle.std.proofs.lemmas.Int.{to_z-of_z}
use Rattle.be_color.specs.declared.colors.Color.{Color}
use Rattle.be_color.specs.declared.colors.Color.TheVariants.{Solid}
use Rattle.be_pane.specs.Panes.{first_pane}
use Rattle.be_pane.specs.StandsFor.{PaneStandsFor}
use Rattle.be_span.specs.Spans.{black_cell}
use Rattle.be_state.specs.Stacks.{origin_point}
use Rattle.be_views.specs.Trees.{Tree}
use Rattle.be_views.specs.Whole.{root_view}
use Rattle.be_picture.specs.Playing.{white}
use Rattle.be_picture.proofs.blank.pane_of.Goals as goal

still : {X E : Type 0} (P Q : X → Type 0) → ((x : X) → P x → Q x) → (r : Result X E) → IfOk r P → IfOk r Q
still P Q same (Ok x) h = same x h
still P Q same (Err e) h = tt

pub returns-clause-stands : goal.returns-clause-stands
returns-clause-stands c =
    let items : c.push.new.self.items ≡ Solid white ∷ [] =
    c.in_ok-push.ensures.items
    ∙ ap (λ (cs : List Color). cs ++ Solid white ∷ []) c.new-colors.ensures.items in
    let tree : c.in_ok-new.field-0 ≡ root_view c.args.right c.args.bottom ∷ [] =
    simp (to_z-of_z, c.ranges.right, c.ranges.bottom) at c.in_ok-new.ensures in
    still _ _ (λ pane stands.
    subst (λ (t : Tree). PaneStandsFor pane 0 origin_point (first_pane (Solid white ∷ [])) t (λ x y. false) (λ x y. black_cell)) tree
    (subst (λ (cs : List Color). PaneStandsFor pane 0 origin_point (first_pane cs) c.in_ok-new.field-0 (λ x y. false) (λ x y. black_cell)) items
    (stands (λ x y. black_cell)))) c.new-2.result c.new-2.ensures.first
