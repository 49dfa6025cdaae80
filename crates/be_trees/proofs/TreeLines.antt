-- The lines of a tree, as they are put together piece by piece.
use Rattle.std.proofs.Common.{◌≡◌, ℕ, ◌+◌, ◌<◌, ◌≤◌, List, [], ◌∷◌, ◌++◌, length, drop, get_or}
use Rattle.std.proofs.Common.{Some, codes, append_assoc, append-nil, refl, sym, ap, ◌∙◌, arith}
use Rattle.std.specs.Fmt.{decimal}
use Rattle.std.specs.Prelude.{option_map, slice_get, unwrap_or}
use Rattle.std.proofs.lemmas.List.{drop_all, drop_more}
use Rattle.std.proofs.lemmas.Option.{same_Some, slice_get-get_or}
use Rattle.be_follow.specs.declared.mode.Follow.{Follow}
use Rattle.be_geom.specs.declared.rect.Rect.{Rect}
use Rattle.be_views.specs.Trees.{View, Tree}
use Rattle.be_written.specs.Lines.{behind, line_of}
use Rattle.be_written.specs.TraceText.{edge_words}
use Rattle.be_written.proofs.WriteLemmas.{line_written}
use Rattle.be_trees.specs.TreeText.{across_word, down_word, size_words, tree_text, view_words}
use Rattle.be_trees.specs.TreeText.{views_text}

-- ---- words

four : (o a b c d : List ℕ) → (((o ++ a) ++ b) ++ c) ++ d ≡ o ++ (a ++ (b ++ (c ++ d)))
four o a b c d = simp append_assoc

five : (o a b c d e : List ℕ)
    → ((((o ++ a) ++ b) ++ c) ++ d) ++ e ≡ o ++ (a ++ (b ++ (c ++ (d ++ e))))
five o a b c d e = simp append_assoc

edges_in_front : (l t r b rest : List ℕ)
    → (l ++ (t ++ (r ++ (b ++ [])))) ++ rest ≡ l ++ (t ++ (r ++ (b ++ rest)))
edges_in_front l t r b rest = simp append_assoc

edges_line : (o l t r b : List ℕ) → (((o ++ 32 ∷ l) ++ 32 ∷ t) ++ 32 ∷ r) ++ 32 ∷ b
    ≡ o ++ behind (l ∷ t ∷ r ∷ b ∷ [])
edges_line o l t r b =
    four o (32 ∷ l) (32 ∷ t) (32 ∷ r) (32 ∷ b)
    ∙ ap (λ (last : List ℕ). o ++ ((32 ∷ l) ++ ((32 ∷ t) ++ ((32 ∷ r) ++ last))))
    (sym (append-nil (32 ∷ b)))

pub edges_written : (old one two three new l t r b : List ℕ) → one ≡ old ++ 32 ∷ l →
    two ≡ one ++ 32 ∷ t → three ≡ two ++ 32 ∷ r → new ≡ three ++ 32 ∷ b →
    new ≡ old ++ behind (l ∷ t ∷ r ∷ b ∷ [])
edges_written old one two three new l t r b e f g h = let line = edges_line old l t r b in cc

-- ---- lines

size_line : (o w h : List ℕ) → (o ++ 32 ∷ w) ++ 32 ∷ h ≡ o ++ behind (w ∷ h ∷ [])
size_line o w h =
    append_assoc o (32 ∷ w) (32 ∷ h)
    ∙ ap (λ (last : List ℕ). o ++ ((32 ∷ w) ++ last)) (sym (append-nil (32 ∷ h)))

pub size_written : (old one two three new w h : List ℕ) → one ≡ old ++ codes "size" →
    two ≡ one ++ 32 ∷ w → three ≡ two ++ 32 ∷ h → new ≡ three ++ 10 ∷ [] →
    new ≡ old ++ line_of (codes "size" ∷ w ∷ h ∷ [])
size_written old one two three new w h e f g k =
    let words : three ≡ one ++ behind (w ∷ h ∷ []) = (let line = size_line one w h in cc) in
    line_written old one three new (codes "size") (w ∷ h ∷ []) e words k

view_line : (o k p l t r b x y : List ℕ)
    → ((((o ++ 32 ∷ k) ++ 32 ∷ p) ++ behind (l ∷ t ∷ r ∷ b ∷ [])) ++ 32 ∷ x) ++ 32 ∷ y
    ≡ o ++ behind (k ∷ p ∷ l ∷ t ∷ r ∷ b ∷ x ∷ y ∷ [])
view_line o k p l t r b x y =
    five o (32 ∷ k) (32 ∷ p) (behind (l ∷ t ∷ r ∷ b ∷ [])) (32 ∷ x) (32 ∷ y)
    ∙ ap (λ (rest : List ℕ). o ++ ((32 ∷ k) ++ ((32 ∷ p) ++ rest)))
    (edges_in_front (32 ∷ l) (32 ∷ t) (32 ∷ r) (32 ∷ b) ((32 ∷ x) ++ 32 ∷ y)
    ∙ ap (λ (last : List ℕ). (32 ∷ l) ++ ((32 ∷ t) ++ ((32 ∷ r) ++ ((32 ∷ b) ++ ((32 ∷ x) ++ last)))))
    (sym (append-nil (32 ∷ y))))

pub view_written : (old one two three four five six new k p l t r b x y : List ℕ) →
    one ≡ old ++ codes "view" → two ≡ one ++ 32 ∷ k → three ≡ two ++ 32 ∷ p →
    four ≡ three ++ behind (l ∷ t ∷ r ∷ b ∷ []) → five ≡ four ++ 32 ∷ x → six ≡ five ++ 32 ∷ y →
    new ≡ six ++ 10 ∷ [] →
    new ≡ old ++ line_of (codes "view" ∷ k ∷ p ∷ l ∷ t ∷ r ∷ b ∷ x ∷ y ∷ [])
view_written old one two three four five six new k p l t r b x y e f g h i j m =
    let words : six ≡ one ++ behind (k ∷ p ∷ l ∷ t ∷ r ∷ b ∷ x ∷ y ∷ []) =
    (let line = view_line one k p l t r b x y in cc) in
    line_written old one six new (codes "view") (k ∷ p ∷ l ∷ t ∷ r ∷ b ∷ x ∷ y ∷ []) e words m

-- ---- what a view's words say

-- what is told of the view of a number
pub told_of : {X : Type 0} (f : View → X) (tree : Tree) (number : ℕ) (view : View) (x : X)
    → slice_get tree number ≡ Some view → option_map f (slice_get tree number) ≡ Some x
    → x ≡ f view
told_of f tree number view x there told =
    same_Some x (f view) (sym told ∙ ap (option_map f) there)

pub words_are : (n p : ℕ) (r : Rect) (m : Follow) (x y : List ℕ) (view : View)
    → p ≡ unwrap_or view.parent 0 → r ≡ view.frame → m ≡ view.mode → x ≡ across_word m.across
    → y ≡ down_word m.down
    → codes "view" ∷ decimal n ∷ decimal p ∷ edge_words r ++ x ∷ y ∷ [] ≡ view_words n view
words_are n p r m x y view a b c d e = rw (a, b, d, e, c) refl

-- ---- all lines

pub root_first : (tree : Tree) (old new : List ℕ) → old ≡ [] → 0 < length tree
    → ((root : View) → slice_get tree 0 ≡ Some root → new ≡ old ++ line_of (size_words root.frame))
    → new ++ views_text 1 (drop 1 tree) ≡ tree_text tree
unfolding tree_text
root_first [] old new none some line = absurd (omega arith)
root_first (root ∷ views) old new none some line =
    ap (λ (text : List ℕ). text ++ views_text 1 views)
    (line root refl ∙ ap (λ (text : List ℕ). text ++ line_of (size_words root.frame)) none)

pub view_next : (tree : Tree) (n : ℕ) (old new : List ℕ) → n < length tree
    → ((view : View) → slice_get tree n ≡ Some view → new ≡ old ++ line_of (view_words n view))
    → new ++ views_text (n + 1) (drop (n + 1) tree) ≡ old ++ views_text n (drop n tree)
unfolding views_text
view_next [] n old new below line = absurd (omega arith)
view_next (root ∷ views) n old new below line =
    let tree : Tree = root ∷ views in
    let view : View = get_or tree n root in
    let rest = views_text (n + 1) (drop (n + 1) tree) in
    ap (λ (text : List ℕ). text ++ rest) (line view (slice_get-get_or tree n root below))
    ∙ append_assoc old (line_of (view_words n view)) rest
    ∙ ap (λ (vs : Tree). old ++ views_text n vs) (sym (drop_more tree n root below))

pub all_written : (tree : Tree) (n : ℕ) (text all : List ℕ)
    → text ++ views_text n (drop n tree) ≡ all → length tree ≤ n → text ≡ all
unfolding views_text
all_written tree n text all is end =
    sym (append-nil text)
    ∙ ap (λ (vs : Tree). text ++ views_text n vs) (sym (drop_all n tree end)) ∙ is
