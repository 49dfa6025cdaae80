use Rattle.std.proofs.Common.{◌∙◌, ap, sym, [], ◌∷◌, ◌++◌, List}
use Rattle.std.proofs.Common.{Vec, Global}
use Rattle.std.proofs.lemmas.Bool.{false≢true}
use Rattle.be_geom.specs.declared.rect.Rect.{Rect}
use Rattle.be_region.proofs.OneLemmas.{none_bands, one_band}
use Rattle.be_region.proofs.region.Region.from_rect.Goals as goal
use Rattle.be_region.proofs.region.Region.from_rect.Goals.{then-not-is_empty+in_ok-push, else-not-is_empty}

pub invariant_of-result : goal.invariant_of-result
invariant_of-result c =
    elim c.if-not-is_empty.branch [ then-not-is_empty+in_ok-push w ↦ one_band _ c.args.rect (ap (λ (v : Vec Rect Global). v.items) w.rects-is ∙ w.in_ok-push.ensures.items ∙ ap (λ (l : List Rect). l ++ c.args.rect ∷ []) c.new-rects.ensures.items) (λ h. false≢true (sym w.if-not-is_empty.true ∙ c.is_empty.ensures.1 h)) | else-not-is_empty w ↦ none_bands _ (ap (λ (v : Vec Rect Global). v.items) w.rects-is ∙ c.new-rects.ensures.items) ]
