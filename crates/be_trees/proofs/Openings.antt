-- The views that are declared in a window, one by one.
use Rattle.std.specs.Prelude.{◌==◌, cond, Bool}
use Rattle.std.specs.List.{filter}
use Rattle.std.proofs.Common.{◌≡◌, ◌≢◌, ℕ, ◌+◌, ◌<◌, ◌≤◌, List, [], ◌∷◌, ◌++◌, length, map}
use Rattle.std.proofs.Common.{drop, get_or, sym, ap, subst, ◌∙◌, append_assoc, append-nil, eq-eqb}
use Rattle.std.proofs.lemmas.Bool.{ne_eqb}
use Rattle.std.proofs.lemmas.List.{drop_all, drop_more}
use Rattle.be_script.specs.Windows.{declared_view}
use Rattle.be_script.specs.declared.ViewLine.{ViewLine}
use Rattle.be_views.specs.Trees.{Tree}

-- those of them that a window has
abbrev pub declared_in : ℕ → List ViewLine → Tree
declared_in w views = map declared_view (filter (λ view. view.window == w) views)

next_view : (views seen : List ViewLine) (i : ℕ) (view : ViewLine) → seen ≡ views
    → i < length seen → view ≡ get_or seen i view → drop i views ≡ view ∷ drop (i + 1) views
next_view views seen i view same below is =
    subst (λ (vs : List ViewLine). drop i vs ≡ view ∷ drop (i + 1) vs) same
    (drop_more seen i view below ∙ ap (λ (v : ViewLine). v ∷ drop (i + 1) seen) (sym is))

-- the window's own is added
pub own_view : (w : ℕ) (views seen : List ViewLine) (i : ℕ) (view : ViewLine) (old new : Tree)
    → seen ≡ views → i < length seen → view ≡ get_or seen i view → view.window ≡ w
    → new ≡ old ++ declared_view view ∷ []
    → new ++ declared_in w (drop (i + 1) views) ≡ old ++ declared_in w (drop i views)
own_view w views seen i view old new same below is own added =
    let rest = drop (i + 1) views in
    let others = filter (λ v. v.window == w) rest in
    ap (λ (tree : Tree). tree ++ declared_in w rest) added
    ∙ append_assoc old (declared_view view ∷ []) (declared_in w rest)
    ∙ ap (λ (b : Bool). old ++ map declared_view (cond b (view ∷ others) others))
    (sym (eq-eqb view.window w own))
    ∙ ap (λ (vs : List ViewLine). old ++ declared_in w vs)
    (sym (next_view views seen i view same below is))

-- another window's is passed over
pub other_view : (w : ℕ) (views seen : List ViewLine) (i : ℕ) (view : ViewLine) (old new : Tree)
    → seen ≡ views → i < length seen → view ≡ get_or seen i view → view.window ≢ w → new ≡ old
    → new ++ declared_in w (drop (i + 1) views) ≡ old ++ declared_in w (drop i views)
other_view w views seen i view old new same below is other stays =
    let rest = drop (i + 1) views in
    let others = filter (λ v. v.window == w) rest in
    ap (λ (tree : Tree). tree ++ declared_in w rest) stays
    ∙ ap (λ (b : Bool). old ++ map declared_view (cond b (view ∷ others) others))
    (sym (ne_eqb view.window w other))
    ∙ ap (λ (vs : List ViewLine). old ++ declared_in w vs)
    (sym (next_view views seen i view same below is))

pub none_left : (w : ℕ) (views : List ViewLine) (i : ℕ) (tree all : Tree)
    → tree ++ declared_in w (drop i views) ≡ all → length views ≤ i → tree ≡ all
none_left w views i tree all is end =
    sym (append-nil tree)
    ∙ ap (λ (vs : List ViewLine). tree ++ declared_in w vs) (sym (drop_all i views end)) ∙ is
