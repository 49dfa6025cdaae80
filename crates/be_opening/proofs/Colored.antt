-- The views of a window, one by one, and their colours.
use Rattle.std.specs.Prelude.{◌==◌, Bool, cond}
use Rattle.std.specs.List.{filter}
use Rattle.std.proofs.Common.{◌≡◌, ℕ, ◌+◌, ◌<◌, List, [], ◌∷◌, ◌++◌, length, map, take, get_or, ◌≢◌, sym, ap, subst, ◌∙◌, eq-eqb}
use Rattle.std.proofs.lemmas.Bool.{ne_eqb}
use Rattle.std.proofs.lemmas.List.{append-nil, map-append}
use Rattle.std.proofs.lemmas.List.Elements.{filter_more}
use Rattle.be_script.specs.declared.ViewLine.{ViewLine}

-- ---- one view more

seen_more : (w : ℕ) (views seen : List ViewLine) (i : ℕ) (view : ViewLine) → seen ≡ views → i < length seen → view ≡ get_or seen i view → filter (λ v. v.window == w) (take (i + 1) views) ≡ filter (λ v. v.window == w) (take i views) ++ cond (view.window == w) (view ∷ []) []
seen_more w views seen i view same less is =
    subst (λ (l : List ViewLine). filter (λ v. v.window == w) (take (i + 1) l) ≡ filter (λ v. v.window == w) (take i l) ++ cond (view.window == w) (view ∷ []) []) same
    (filter_more (λ v. v.window == w) seen i view less ∙ ap (λ (v : ViewLine). filter (λ v. v.window == w) (take i seen) ++ cond (v.window == w) (v ∷ []) []) (sym is))

-- the window's own
pub own_more : {X : Type 0} (f : ViewLine → X) (first : X) (w : ℕ) (views seen : List ViewLine) (i : ℕ) (view : ViewLine) (old new : List X) → seen ≡ views → i < length seen → view ≡ get_or seen i view → old ≡ first ∷ map f (filter (λ v. v.window == w) (take i views)) → view.window ≡ w → new ≡ old ++ f view ∷ [] → new ≡ first ∷ map f (filter (λ v. v.window == w) (take (i + 1) views))
own_more {X = X} f first w views seen i view old new same less is before own added =
    added
    ∙ ap (λ (l : List X). l ++ f view ∷ []) before
    ∙ ap (λ (l : List X). first ∷ l) (sym (map-append f (filter (λ v. v.window == w) (take i views)) (view ∷ [])))
    ∙ ap (λ (b : Bool). first ∷ map f (filter (λ v. v.window == w) (take i views) ++ cond b (view ∷ []) [])) (sym (eq-eqb view.window w own))
    ∙ ap (λ (l : List ViewLine). first ∷ map f l) (sym (seen_more w views seen i view same less is))

-- another window's
pub other_more : {X : Type 0} (f : ViewLine → X) (first : X) (w : ℕ) (views seen : List ViewLine) (i : ℕ) (view : ViewLine) (old new : List X) → seen ≡ views → i < length seen → view ≡ get_or seen i view → old ≡ first ∷ map f (filter (λ v. v.window == w) (take i views)) → view.window ≢ w → new ≡ old → new ≡ first ∷ map f (filter (λ v. v.window == w) (take (i + 1) views))
other_more {X = X} f first w views seen i view old new same less is before other stays =
    stays
    ∙ before
    ∙ ap (λ (l : List ViewLine). first ∷ map f l) (sym (append-nil (filter (λ v. v.window == w) (take i views))))
    ∙ ap (λ (b : Bool). first ∷ map f (filter (λ v. v.window == w) (take i views) ++ cond b (view ∷ []) [])) (sym (ne_eqb view.window w other))
    ∙ ap (λ (l : List ViewLine). first ∷ map f l) (sym (seen_more w views seen i view same less is))
