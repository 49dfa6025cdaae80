-- Which part is at a place.
use Rattle.std.proofs.Common.{◌≡◌, ℕ, zero, suc, ◌+◌, ◌<◌, List, [], ◌∷◌, ◌++◌, map, length, ◌⊎◌, inl, inr, ⊎_elim, refl, sym, ap, ◌∙◌, subst, arith}
use Rattle.std.specs.List.{range_with_len}
use mathlib.Core.Option.{some}
use lib.ListN.{get_elem?}
use Rattle.be_script.specs.Script.{Declared}
use Rattle.be_machine.specs.Touched.{Part}
use Rattle.be_machine.specs.Touched as part
use Rattle.be_rules.specs.Places.{IsPart, place_of}
use Rattle.be_rules.specs.Slices.{all_parts}
use Rattle.be_rules.proofs.ListLemmas.{elem_range, same_elements, there_in}
use Rattle.be_rules.proofs.Keepers.{long}

-- in the front list, or behind it
split_at : (xs ys : List Part) (i : ℕ) (x : Part) → get_elem? (xs ++ ys) i ≡ some x → (get_elem? xs i ≡ some x) ⊎ ((j : ℕ) × (i ≡ length xs + j) × (get_elem? ys j ≡ some x))
split_at [] ys i x e = let same : i ≡ 0 + i = omega arith in inr (i, same, e)
split_at (z ∷ xs) ys zero x e = inl e
split_at (z ∷ xs) ys (suc i) x e = ⊎_elim (λ h. inl h) (λ h. inr (h.0, (let is : i ≡ length xs + h.0 = h.1 in let same : suc i ≡ suc (length xs) + h.0 = omega arith in same), h.2)) (split_at xs ys i x e)

ranged : (g : ℕ → Part) (n i : ℕ) (x : Part) → get_elem? (map g (range_with_len 0 n)) i ≡ some x → x ≡ g i
ranged g n i x e =
    let lt : i < n = subst (λ k. i < k) (long g n) (there_in (map g (range_with_len 0 n)) i x e) in
    same_elements x (g i) (sym e ∙ elem_range g n i lt)

module _ (d : Declared) (base : ℕ) (g : ℕ → Part) (n : ℕ) (ps : List Part) (at : (k : ℕ) → place_of d (g k) ≡ base + k)
    (later : (j : ℕ) (x : Part) → get_elem? ps j ≡ some x → base + (n + j) ≡ place_of d x) where
  spot_by : (i : ℕ) (x : Part) → get_elem? (map g (range_with_len 0 n) ++ ps) i ≡ some x → base + i ≡ place_of d x
  spot_by i x e = ⊎_elim
      (λ h. sym (at i) ∙ ap (place_of d) (sym (ranged g n i x h)))
      (λ h. ap (λ k. base + k) (h.1 ∙ ap (λ k. k + h.0) (long g n)) ∙ later h.0 x h.2)
      (split_at (map g (range_with_len 0 n)) ps i x e)

module _ (d : Declared) where
  abbrev apps : ℕ
  apps = length d.apps

  abbrev windows : ℕ
  windows = length d.windows

  panes : (i : ℕ) (x : Part) → get_elem? (map part.pane (range_with_len 0 windows)) i ≡ some x → 2 + (apps + (windows + (windows + (windows + i)))) ≡ place_of d x
  panes i x e = ap (place_of d) (sym (ranged part.pane windows i x e))

  links : (i : ℕ) (x : Part) → get_elem? (map part.link (range_with_len 0 windows) ++ map part.pane (range_with_len 0 windows)) i ≡ some x → (2 + (apps + (windows + windows))) + i ≡ place_of d x
  links = spot_by d (2 + (apps + (windows + windows))) part.link windows _ (λ k. omega arith)
      (λ j x e. (let same : (2 + (apps + (windows + windows))) + (windows + j) ≡ 2 + (apps + (windows + (windows + (windows + j)))) = omega arith in same) ∙ panes j x e)

  ports : (i : ℕ) (x : Part) → get_elem? (map part.port (range_with_len 0 windows) ++ (map part.link (range_with_len 0 windows) ++ map part.pane (range_with_len 0 windows))) i ≡ some x → (2 + (apps + windows)) + i ≡ place_of d x
  ports = spot_by d (2 + (apps + windows)) part.port windows _ (λ k. omega arith)
      (λ j x e. (let same : (2 + (apps + windows)) + (windows + j) ≡ (2 + (apps + (windows + windows))) + j = omega arith in same) ∙ links j x e)

  loopers : (i : ℕ) (x : Part) → get_elem? (map part.looper (range_with_len 0 windows) ++ (map part.port (range_with_len 0 windows) ++ (map part.link (range_with_len 0 windows) ++ map part.pane (range_with_len 0 windows)))) i ≡ some x → (2 + apps) + i ≡ place_of d x
  loopers = spot_by d (2 + apps) part.looper windows _ (λ k. omega arith)
      (λ j x e. (let same : (2 + apps) + (windows + j) ≡ (2 + (apps + windows)) + j = omega arith in same) ∙ ports j x e)

  cells : (i : ℕ) (x : Part) → get_elem? (map part.cell (range_with_len 0 apps) ++ (map part.looper (range_with_len 0 windows) ++ (map part.port (range_with_len 0 windows) ++ (map part.link (range_with_len 0 windows) ++ map part.pane (range_with_len 0 windows))))) i ≡ some x → 2 + i ≡ place_of d x
  cells = spot_by d 2 part.cell apps _ (λ k. refl)
      (λ j x e. (let same : 2 + (apps + j) ≡ (2 + apps) + j = omega arith in same) ∙ loopers j x e)

  -- a part is where its place says
  pub spot : (p : ℕ) (x : Part) → get_elem? (all_parts d) p ≡ some x → p ≡ place_of d x
  spot zero x e = ap (place_of d) (same_elements part.desk x e)
  spot (suc zero) x e = ap (place_of d) (same_elements part.input x e)
  spot (suc (suc i)) x e = (let at : suc (suc i) ≡ 2 + i = omega arith in at) ∙ cells i x e

  -- ---- it is the script's

  abbrev AreAll : List Part → Type 0
  AreAll xs = (i : ℕ) (x : Part) → get_elem? xs i ≡ some x → IsPart d x

  all_both : (xs ys : List Part) → AreAll xs → AreAll ys → AreAll (xs ++ ys)
  all_both xs ys f g i x e = ⊎_elim (λ h. f i x h) (λ h. g h.0 x h.2) (split_at xs ys i x e)

  all_of : (g : ℕ → Part) (n : ℕ) → ((k : ℕ) → k < n → IsPart d (g k)) → AreAll (map g (range_with_len 0 n))
  all_of g n each i x e =
      let lt : i < n = subst (λ k. i < k) (long g n) (there_in (map g (range_with_len 0 n)) i x e) in
      subst (IsPart d) (sym (ranged g n i x e)) (each i lt)

  -- a part that has a place is one of the script's
  pub part_there : (p : ℕ) (x : Part) → get_elem? (all_parts d) p ≡ some x → IsPart d x
  part_there zero x e = subst (IsPart d) (same_elements part.desk x e) tt
  part_there (suc zero) x e = subst (IsPart d) (same_elements part.input x e) tt
  part_there (suc (suc i)) x e =
      all_both (map part.cell (range_with_len 0 apps)) _ (all_of part.cell apps (λ k lt. lt))
      (all_both (map part.looper (range_with_len 0 windows)) _ (all_of part.looper windows (λ k lt. lt))
      (all_both (map part.port (range_with_len 0 windows)) _ (all_of part.port windows (λ k lt. lt))
      (all_both (map part.link (range_with_len 0 windows)) _ (all_of part.link windows (λ k lt. lt)) (all_of part.pane windows (λ k lt. lt)))))
      i x e
