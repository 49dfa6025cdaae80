-- Panes that are lent, window by window.
use Rattle.std.proofs.Common.{◌≡◌, ℕ, zero, suc, ◌+◌, ◌<◌, List, [], ◌∷◌, ◌++◌, map, length, take, get_or, Some, refl, sym, ap, ◌∙◌, subst, arith}
use Rattle.std.specs.Borrow.{Bor}
use Rattle.std.specs.List.{AllPairs, Contains}
use Rattle.std.specs.Prelude.{slice_get, slice_index_or}
use Rattle.std.proofs.lemmas.List.{length-map}
use Rattle.std.proofs.lemmas.Option.{same_Some}
use Rattle.be_desk.specs.Plans.{AreAscending, lent}
use Rattle.be_pane.specs.declared.pane.Pane.{Pane}
use Rattle.be_parts.specs.declared.part.Part.{Part}
use Rattle.be_script.specs.Script.{Declared}
use Rattle.be_ready.specs.Lent.{AreLent, IsLent}

-- ---- lists of windows

pub first_there : (u : ℕ) (us : List ℕ) → Contains (u ∷ us) u
first_there u us = (0, omega arith, refl)

pub later_there : (u v : ℕ) (us : List ℕ) → Contains us v → Contains (u ∷ us) v
later_there u v us (k, lt, is) = (suc k, omega arith, is)

pub got_there : (us : List ℕ) (k u : ℕ) → slice_get us k ≡ Some u → Contains us u
got_there [] k u at = absurd (cc)
got_there (v ∷ vs) zero u at = subst (λ n. Contains (v ∷ vs) n) (same_Some v u at) (first_there v vs)
got_there (v ∷ vs) (suc k) u at = later_there v u vs (got_there vs k u at)

pub there_got : (us : List ℕ) (u : ℕ) → Contains us u → (k : ℕ) × (slice_get us k ≡ Some u)
there_got [] u (k, lt, is) = absurd (omega arith)
there_got (v ∷ vs) u (zero, lt, is) = (0, ap (λ n. Some n) is)
there_got (v ∷ vs) u (suc k, lt, is) = let rest = there_got vs u (k, omega arith, is) in (suc rest.0, rest.1)

-- ---- in order

map_read : (f : Pane → ℕ) (xs : List Pane) (k : ℕ) (x : Pane) → slice_index_or (map f xs) k (f x) ≡ f (slice_index_or xs k x)
map_read f [] k x = refl
map_read f (y ∷ ys) zero x = refl
map_read f (y ∷ ys) (suc k) x = map_read f ys k x

-- panes rise where their windows do
pub rising : (panes : List Pane) (names : List ℕ) → map (λ (p : Pane). p.window) panes ≡ names → AllPairs (λ u v. u < v) names → AreAscending panes
rising panes names are rises i j default less lt =
    let windows : List ℕ = map (λ (p : Pane). p.window) panes in
    let risen : AllPairs (λ u v. u < v) windows = subst (AllPairs (λ u v. u < v)) (sym are) rises in
    let there : j < length windows = subst (λ n. j < n) (sym (length-map panes (λ (p : Pane). p.window))) lt in
    let one : slice_index_or windows i default.window ≡ (slice_index_or panes i default).window = map_read (λ p. p.window) panes i default in
    let other : slice_index_or windows j default.window ≡ (slice_index_or panes j default).window = map_read (λ p. p.window) panes j default in
    subst (λ n. n < (slice_index_or panes j default).window) one (subst (λ n. slice_index_or windows i default.window < n) other (risen i j default.window less there))

-- ---- what is lent

module _ (d : Declared) (parts : List (ℕ × Part)) where
  lent_by : (us : List ℕ) (ps : List Pane) (i : ℕ) (p : Pane) → AreLent d parts (take i us) ps → i < length us → IsLent d parts (get_or us i 0) p → AreLent d parts (take (suc i) us) (ps ++ p ∷ [])
  lent_by [] ps i p h lt one = absurd (omega arith)
  lent_by (u ∷ us) [] zero p h lt one = (one, tt)
  lent_by (u ∷ us) (q ∷ qs) zero p h lt one = absurd h
  lent_by (u ∷ us) [] (suc i) p h lt one = absurd h
  lent_by (u ∷ us) (q ∷ qs) (suc i) p h lt one = (h.0, lent_by us qs i p h.1 (omega arith) one)

  -- one more
  pub lent_more : (us : List ℕ) (ps all : List Pane) (i : ℕ) (p : Pane) → all ≡ ps ++ p ∷ [] → AreLent d parts (take i us) ps → i < length us → IsLent d parts (get_or us i 0) p → AreLent d parts (take (i + 1) us) all
  lent_more us ps all i p is h lt one =
      let more : suc i ≡ i + 1 = omega arith in
      subst (λ (l : List Pane). AreLent d parts (take (i + 1) us) l) (sym is) (subst (λ n. AreLent d parts (take n us) (ps ++ p ∷ [])) more (lent_by us ps i p h lt one))

  -- of the same windows, and the same panes
  pub lent_as : (us names : List ℕ) (bs cs : List (Bor Pane)) → us ≡ names → bs ≡ cs → AreLent d parts us (lent cs) → AreLent d parts names (lent bs)
  lent_as us names bs cs named same l = subst (λ (ns : List ℕ). AreLent d parts ns (lent bs)) named (subst (λ (ps : List (Bor Pane)). AreLent d parts us (lent ps)) (sym same) l)

  -- the one of a number
  pub lent_at : (us : List ℕ) (ps : List Pane) → AreLent d parts us ps → (k : ℕ) (p : Pane) → slice_get ps k ≡ Some p → (u : ℕ) × (slice_get us k ≡ Some u) × IsLent d parts u p
  lent_at [] [] l k p at = absurd (cc)
  lent_at [] (q ∷ qs) l k p at = absurd l
  lent_at (u ∷ us) [] l k p at = absurd l
  lent_at (u ∷ us) (q ∷ qs) l zero p at = (u, refl, subst (IsLent d parts u) (same_Some q p at) l.0)
  lent_at (u ∷ us) (q ∷ qs) l (suc k) p at = lent_at us qs l.1 k p at

  -- and of a window
  pub lent_for : (us : List ℕ) (ps : List Pane) → AreLent d parts us ps → (k u : ℕ) → slice_get us k ≡ Some u → (p : Pane) × (slice_get ps k ≡ Some p) × IsLent d parts u p
  lent_for [] [] l k u at = absurd (cc)
  lent_for [] (q ∷ qs) l k u at = absurd l
  lent_for (v ∷ vs) [] l k u at = absurd l
  lent_for (v ∷ vs) (q ∷ qs) l zero u at = (q, refl, subst (λ n. IsLent d parts n q) (same_Some v u at) l.0)
  lent_for (v ∷ vs) (q ∷ qs) l (suc k) u at = lent_for vs qs l.1 k u at

  -- their windows
  pub windows_are : (us : List ℕ) (ps : List Pane) → ((u : ℕ) (p : Pane) → Contains us u → IsLent d parts u p → p.window ≡ u) → AreLent d parts us ps → map (λ (p : Pane). p.window) ps ≡ us
  windows_are [] [] each l = refl
  windows_are [] (q ∷ qs) each l = absurd l
  windows_are (u ∷ us) [] each l = absurd l
  windows_are (u ∷ us) (q ∷ qs) each l =
      ap (λ n. n ∷ map (λ (p : Pane). p.window) qs) (each u q (first_there u us) l.0)
      ∙ ap (λ vs. u ∷ vs) (windows_are us qs (λ v p there. each v p (later_there u v us there)) l.1)
