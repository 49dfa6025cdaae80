-- How deep views lie, with one view more behind them.
use Rattle.std.specs.Prelude.{slice_index_or, slice_set}
use Rattle.std.proofs.Common.{◌≡◌, ℕ, zero, suc, ◌+◌, ◌<◌, List, [], ◌∷◌, ◌++◌, Some, None}
use Rattle.std.proofs.Common.{length, inl, inr, sym, ap, ◌∙◌, arith}
use Rattle.std.proofs.lemmas.Bool.{cases_order}
use Rattle.std.proofs.lemmas.Grind.{get_or-set_at}
use Rattle.std.proofs.lemmas.List.{get_or-set_other}
use Rattle.be_views.specs.Trees.{View, Tree}
use Rattle.be_views.specs.Whole.{AreParentsFirst, depth_above, depth_in, depth_from, depth_of}
use Rattle.be_views.proofs.TreeLemmas.{got_last, length_more, depth_push, depth_more}
use Rattle.be_archive.specs.Rows.{DepthsAre}

-- a view that was there lies as deep as before
pub depth_old : (tree : Tree) (w : View) (v : ℕ) → AreParentsFirst tree → v < length tree
    → depth_of (tree ++ w ∷ []) v ≡ depth_of tree v
unfolding depth_of
depth_old tree w v first h =
    let n = length_more tree w in
    depth_push tree w (length (tree ++ w ∷ [])) v first h
    ∙ depth_more tree (length (tree ++ w ∷ [])) (length tree) v first (omega arith) h

-- and the new one lies one deeper than its parent
pub depth_new : (tree : Tree) (w : View) (p : ℕ) → AreParentsFirst tree → w.parent ≡ Some p
    → p < length tree → depth_of (tree ++ w ∷ []) (length tree) ≡ depth_of tree p + 1
unfolding depth_of
depth_new tree w p first is h =
    ap (λ n. depth_from n (tree ++ w ∷ []) (length tree)) (length_more tree w)
    ∙ (ap (depth_in (depth_from (length tree) (tree ++ w ∷ []))) (got_last tree w)
    ∙ (ap (λ o. depth_above (depth_from (length tree) (tree ++ w ∷ [])) o + 1) is
    ∙ ap (λ n. n + 1) (depth_push tree w (length tree) p first h)))

-- ---- depths of many views

pub depths_more : (depths : List ℕ) (tree : Tree) (w : View) (p d : ℕ) → AreParentsFirst tree
    → w.parent ≡ Some p → p < length tree → d ≡ depth_of tree p + 1
    → length tree < length depths → DepthsAre depths tree
    → DepthsAre (slice_set depths (length tree) d) (tree ++ w ∷ [])
depths_more depths tree w p d first is h deep room old = λ v within.
    let n = length_more tree w in
    elim (cases_order v (length tree)) [
      | inl same ↦ get_or-set_at depths (length tree) v d 0 same room
          ∙ (deep ∙ (sym (depth_new tree w p first is h)
          ∙ ap (depth_of (tree ++ w ∷ [])) (sym same)))
      | inr other ↦ elim other [
        | inl less ↦ get_or-set_other depths (length tree) v d 0 (λ e. omega (arith, e, less))
            ∙ (old v less ∙ sym (depth_old tree w v first less))
        | inr more ↦ absurd (omega (arith, n, within, more))
      ]
    ]

-- the root is at depth 1
pub depth_of_root : (depths : List ℕ) (root : View) → slice_index_or depths 0 0 ≡ 1
    → root.parent ≡ None → DepthsAre depths (root ∷ [])
unfolding depth_of
depth_of_root depths root one is zero h =
    one ∙ sym (ap (λ o. depth_above (depth_from 0 (root ∷ [])) o + 1) is)
depth_of_root depths root one is (suc v) h =
    absurd (let k : suc v < 1 = h in omega (arith, k))
