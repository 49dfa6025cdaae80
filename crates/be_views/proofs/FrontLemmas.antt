-- Which of the views that lie in one directly is in front at a pixel, and which of them are in front of it.
use Rattle.std.specs.Prelude.{find, reverse, slice_get, is_some}
use Rattle.std.specs.Option.{option_or}
use Rattle.std.proofs.Common.{◌≡◌, ℕ, ◌+◌, zero, suc, ℤ, Bool, true, false, ◌&&◌, ◌||◌, cond, List, [], ◌∷◌, Option, Some, None, drop, arith, refl, sym, ap, subst, ◌∙◌}
use Rattle.std.proofs.lemmas.Bool.{and_parts, true≢false}
use Rattle.std.proofs.lemmas.Option.{none-some, same_Some, cond_some}
use Rattle.std.proofs.lemmas.List.{reverse-append}
use Rattle.std.proofs.lemmas.List.Folds.{find-append}
use Rattle.be_geom.specs.Numbers.{is_number}
use Rattle.be_geom.specs.Rects.{rect_has}
use Rattle.be_geom.proofs.Numbered.{number_is}
use Rattle.be_views.specs.Trees.{View, Tree, children_from}
use Rattle.be_views.specs.Pixels.{last_child_at}
use Rattle.be_views.specs.Clips.{covers}

-- the last of the views from number k on
abbrev pub last_from : ℕ → ℕ → Tree → ℤ → ℤ → Option (ℕ × View)
last_from k u tree x y = find (λ child. rect_has child.1.frame x y) (reverse (children_from k u tree))

or_none : {A : Type 0} (o : Option A) → o ≡ option_or o None
or_none None = refl
or_none (Some a) = refl

front_step : (q : ℕ × View → Bool) (b : Bool) (k : ℕ) (w : View) (cs : List (ℕ × View)) → find q (reverse (cond b ((k, w) ∷ cs) cs)) ≡ option_or (find q (reverse cs)) (cond (b && q (k, w)) (Some (k, w)) None)
front_step q true k w cs = ap (find q) (reverse-append ((k, w) ∷ []) cs) ∙ find-append q (reverse cs) ((k, w) ∷ [])
front_step q false k w cs = or_none (find q (reverse cs))

last_step : (k u : ℕ) (w : View) (rest : Tree) (x y : ℤ) → last_from k u (w ∷ rest) x y ≡ option_or (last_from (suc k) u rest x y) (cond (is_number u w.parent && rect_has w.frame x y) (Some (k, w)) None)
last_step k u w rest x y =
    front_step (λ child. rect_has child.1.frame x y) (is_number u w.parent) k w (children_from (suc k) u rest)

-- ---- the child that is in front

-- the child's number counts from k on, it lies in view u, and its frame holds the pixel
pub record IsFront (k u : ℕ) (tree : Tree) (x y : ℤ) (c : ℕ × View) : Type 0 where
  pub at : ℕ
  pub number : c.0 ≡ k + at
  pub got : slice_get tree at ≡ Some c.1
  pub lies : is_number u c.1.parent ≡ true
  pub holds : rect_has c.1.frame x y ≡ true

front_or : (k u : ℕ) (w : View) (rest : Tree) (x y : ℤ) (o : Option (ℕ × View)) (c : ℕ × View) → ((d : ℕ × View) → o ≡ Some d → IsFront (suc k) u rest x y d) → option_or o (cond (is_number u w.parent && rect_has w.frame x y) (Some (k, w)) None) ≡ Some c → IsFront k u (w ∷ rest) x y c
front_or k u w rest x y None c h e =
    let parts = cond_some (is_number u w.parent && rect_has w.frame x y) (k, w) c e in
    let tests = and_parts (is_number u w.parent) (rect_has w.frame x y) parts.0 in
    subst (λ (d : ℕ × View). IsFront k u (w ∷ rest) x y d) parts.1 record { at = 0; number = omega arith; got = refl; lies = tests.0; holds = tests.1 }
front_or k u w rest x y (Some d) c h e =
    let f = h d refl in
    let number = f.number in
    subst (λ (b : ℕ × View). IsFront k u (w ∷ rest) x y b) (same_Some d c e) record { at = suc f.at; number = omega arith; got = f.got; lies = f.lies; holds = f.holds }

is_front : (k u : ℕ) (tree : Tree) (x y : ℤ) (c : ℕ × View) → last_from k u tree x y ≡ Some c → IsFront k u tree x y c
is_front k u [] x y c e = absurd (none-some c e)
is_front k u (w ∷ rest) x y c e =
    front_or k u w rest x y (last_from (suc k) u rest x y) c (λ d. is_front (suc k) u rest x y d) (sym (last_step k u w rest x y) ∙ e)

-- what is known of the child in front
pub record IsChild (tree : Tree) (u : ℕ) (x y : ℤ) (c : ℕ × View) : Type 0 where
  pub got : slice_get tree c.0 ≡ Some c.1
  pub lies : c.1.parent ≡ Some u
  pub holds : rect_has c.1.frame x y ≡ true

pub child_is : (tree : Tree) (u : ℕ) (x y : ℤ) (c : ℕ × View) → last_child_at tree u x y ≡ Some c → IsChild tree u x y c
child_is tree u x y c e =
    let f = is_front 0 u tree x y c e in
    let number = f.number in
    let n : f.at ≡ c.0 = omega arith in
    record { got = ap (slice_get tree) (sym n) ∙ f.got; lies = number_is u c.1.parent f.lies; holds = f.holds }

-- ---- what is in front of it

some_or : {A : Type 0} (o : Option A) (b : Bool) (a : A) → is_some (option_or o (cond b (Some a) None)) ≡ (b || is_some o)
some_or None true a = refl
some_or None false a = refl
some_or (Some c) true a = refl
some_or (Some c) false a = refl

covers_from : (k u : ℕ) (tree : Tree) (x y : ℤ) → covers tree u x y ≡ is_some (last_from k u tree x y)
covers_from k u [] x y = refl
covers_from k u (w ∷ rest) x y =
    ap (λ b. (is_number u w.parent && rect_has w.frame x y) || b) (covers_from (suc k) u rest x y) ∙ sym (ap is_some (last_step k u w rest x y) ∙ some_or (last_from (suc k) u rest x y) (is_number u w.parent && rect_has w.frame x y) (k, w))

pub covers_is : (tree : Tree) (u : ℕ) (x y : ℤ) → covers tree u x y ≡ is_some (last_child_at tree u x y)
covers_is tree u x y = covers_from 0 u tree x y

pub none_of : {A : Type 0} (o : Option A) → is_some o ≡ false → o ≡ None
none_of None h = refl
none_of (Some a) h = absurd (true≢false h)

uncovered_is_last : (k u i : ℕ) (tree : Tree) (x y : ℤ) (w : View) → slice_get tree i ≡ Some w → is_number u w.parent ≡ true → rect_has w.frame x y ≡ true → covers (drop (suc i) tree) u x y ≡ false → last_from k u tree x y ≡ Some (k + i, w)
uncovered_is_last k u i [] x y w got lies holds free = absurd (none-some w got)
uncovered_is_last k u zero (v ∷ rest) x y w got lies holds free =
    let e : v ≡ w = same_Some v w got in
    let n : k ≡ k + 0 = omega arith in
    last_step k u v rest x y ∙ ap (λ o. option_or o (cond (is_number u v.parent && rect_has v.frame x y) (Some (k, v)) None)) (none_of (last_from (suc k) u rest x y) (sym (covers_from (suc k) u rest x y) ∙ free)) ∙ ap (λ (z : View). cond (is_number u z.parent && rect_has z.frame x y) (Some (k, z)) None) e ∙ ap (λ b. cond (b && rect_has w.frame x y) (Some (k, w)) None) lies ∙ ap (λ b. cond b (Some (k, w)) None) holds ∙ ap (λ m. Some (m, w)) n
uncovered_is_last k u (suc i) (v ∷ rest) x y w got lies holds free =
    let n : suc k + i ≡ k + suc i = omega arith in
    last_step k u v rest x y ∙ ap (λ o. option_or o (cond (is_number u v.parent && rect_has v.frame x y) (Some (k, v)) None)) (uncovered_is_last (suc k) u i rest x y w got lies holds free) ∙ ap (λ m. Some (m, w)) n

pub in_front : (tree : Tree) (u c : ℕ) (x y : ℤ) (w : View) → slice_get tree c ≡ Some w → is_number u w.parent ≡ true → rect_has w.frame x y ≡ true → covers (drop (c + 1) tree) u x y ≡ false → last_child_at tree u x y ≡ Some (c, w)
in_front tree u c x y w got lies holds free =
    let n : c + 1 ≡ suc c = omega arith in
    let m : 0 + c ≡ c = omega arith in
    uncovered_is_last 0 u c tree x y w got lies holds (ap (λ k. covers (drop k tree) u x y) (sym n) ∙ free) ∙ ap (λ k. Some (k, w)) m

last_or : (k u i : ℕ) (v : View) (rest : Tree) (x y : ℤ) (o : Option (ℕ × View)) (c : ℕ × View) → last_from (suc k) u rest x y ≡ o → ((j : ℕ) (d : ℕ × View) → o ≡ Some d → d.0 ≡ suc k + j → covers (drop (suc j) rest) u x y ≡ false) → option_or o (cond (is_number u v.parent && rect_has v.frame x y) (Some (k, v)) None) ≡ Some c → c.0 ≡ k + i → covers (drop (suc i) (v ∷ rest)) u x y ≡ false
last_or k u zero v rest x y None c is h e n = covers_from (suc k) u rest x y ∙ ap is_some is
last_or k u (suc i) v rest x y None c is h e n =
    let parts = cond_some (is_number u v.parent && rect_has v.frame x y) (k, v) c e in
    let same : k ≡ c.0 = ap (λ (d : ℕ × View). d.0) parts.1 in
    absurd (omega arith)
last_or k u zero v rest x y (Some d) c is h e n =
    let f = is_front (suc k) u rest x y d is in
    let number = f.number in
    let same : d.0 ≡ c.0 = ap (λ (b : ℕ × View). b.0) (same_Some d c e) in
    absurd (omega arith)
last_or k u (suc i) v rest x y (Some d) c is h e n =
    let same : d.0 ≡ c.0 = ap (λ (b : ℕ × View). b.0) (same_Some d c e) in
    h i d refl (omega arith)

last_is_uncovered : (k u : ℕ) (tree : Tree) (x y : ℤ) (i : ℕ) (c : ℕ × View) → last_from k u tree x y ≡ Some c → c.0 ≡ k + i → covers (drop (suc i) tree) u x y ≡ false
last_is_uncovered k u [] x y i c e n = absurd (none-some c e)
last_is_uncovered k u (v ∷ rest) x y i c e n =
    last_or k u i v rest x y (last_from (suc k) u rest x y) c refl (λ j d. last_is_uncovered (suc k) u rest x y j d) (sym (last_step k u v rest x y) ∙ e) n

pub none_in_front : (tree : Tree) (u : ℕ) (x y : ℤ) (c : ℕ × View) → last_child_at tree u x y ≡ Some c → covers (drop (c.0 + 1) tree) u x y ≡ false
none_in_front tree u x y c e =
    let n : c.0 + 1 ≡ suc c.0 = omega arith in
    ap (λ k. covers (drop k tree) u x y) n ∙ last_is_uncovered 0 u tree x y c.0 c e (omega arith)
