-- The number of a body is its place.
use Rattle.std.proofs.Common.{◌≡◌, ℕ, suc, ◌+◌, ◌==◌, Bool, true, false, cond, ◌&&◌, ◌||◌, List, [], ◌∷◌, ◌++◌, length, filter, map, Option, Some, None, refl, ap, sym, ◌∙◌, subst, arith, eqb-true, add-zero}
use Rattle.std.specs.Prelude.{slice_get, find}
use Rattle.std.specs.BTreeMap.{BTreeMap, get, Updates}
use Rattle.std.specs.Ordering.{is_eq, nat_cmp, ordering_then}
use Rattle.std.specs.List.{position_from, list_any}
use Rattle.be_facts.proofs.Truths.{and_regroup, and_second, and_first}
use Rattle.be_facts.proofs.Orderings.{is_eq_then, is_eq_nat_cmp}
use Rattle.be_handler.specs.Routes.{same_target}
use Rattle.be_message.specs.declared.target.Target.{Target}
use Rattle.be_message.specs.declared.target.Target.TheVariants.{Window, View, Plain}
use Rattle.be_script.specs.declared.BodyLine.{BodyLine}
use Rattle.be_script.specs.declared.costs.body_numbers.BodyNumbers.{BodyNumbers}
use Rattle.be_script.specs.BodyNumbers.{pair_cmp, triple_cmp, HasNew}
use Rattle.be_script.specs.Routes.{is_body_at, HasNumbers}
use Rattle.be_script.specs.Windows.{is_body_of, declared_body}

pub same_target-true : (a b : Target) → same_target a b ≡ true → a ≡ b
same_target-true Window Window h = refl
same_target-true Window (View v) h = cc
same_target-true Window (Plain v) h = cc
same_target-true (View v) Window h = cc
same_target-true (View v) (View u) h = ap View (eqb-true v u h)
same_target-true (View v) (Plain u) h = cc
same_target-true (Plain v) Window h = cc
same_target-true (Plain v) (View u) h = cc
same_target-true (Plain v) (Plain u) h = ap Plain (eqb-true v u h)

-- ---- keys

pair-test : (w a v b : ℕ) → is_eq (pair_cmp (w, a) (v, b)) ≡ ((w == v && true) && a == b)
pair-test w a v b = is_eq_then (nat_cmp w v) (nat_cmp a b) ∙ rw (is_eq_nat_cmp w v, is_eq_nat_cmp a b) (plus_true (w == v) (a == b))
  where
    plus_true : (x y : Bool) → (x && y) ≡ ((x && true) && y)
    plus_true true y = refl
    plus_true false y = refl

triple-test : (w k a v l b : ℕ) → is_eq (triple_cmp (w, k, a) (v, l, b)) ≡ ((w == v && k == l) && a == b)
triple-test w k a v l b =
    is_eq_then (ordering_then (nat_cmp w v) (nat_cmp k l)) (nat_cmp a b)
    ∙ rw (is_eq_then (nat_cmp w v) (nat_cmp k l), is_eq_nat_cmp w v, is_eq_nat_cmp k l, is_eq_nat_cmp a b) refl

not_there : (a b : Bool) (new old : Option ℕ) → old ≡ cond ((a && false) && b) new old
not_there true b new old = refl
not_there false b new old = refl

-- what an insert into one of the maps makes
pub window-new : (old : BodyNumbers) (m : BTreeMap (ℕ × ℕ) ℕ) (w a n : ℕ) → Updates pair_cmp old.of_windows m (w, a) (Some n) →
    HasNew old record { of_windows = m; of_views = old.of_views; of_plains = old.of_plains } w Window a n
window-new old m w a n new v Window b = new.0 (v, b) ∙ ap (λ x. cond x (Some n) (get pair_cmp old.of_windows (v, b))) (pair-test w a v b)
window-new old m w a n new v (View k) b = not_there (w == v) (a == b) (Some n) (get triple_cmp old.of_views (v, k, b))
window-new old m w a n new v (Plain k) b = not_there (w == v) (a == b) (Some n) (get triple_cmp old.of_plains (v, k, b))

pub view-new : (old : BodyNumbers) (m : BTreeMap (ℕ × ℕ × ℕ) ℕ) (w k a n : ℕ) → Updates triple_cmp old.of_views m (w, k, a) (Some n) →
    HasNew old record { of_windows = old.of_windows; of_views = m; of_plains = old.of_plains } w (View k) a n
view-new old m w k a n new v Window b = not_there (w == v) (a == b) (Some n) (get pair_cmp old.of_windows (v, b))
view-new old m w k a n new v (View l) b = new.0 (v, l, b) ∙ ap (λ x. cond x (Some n) (get triple_cmp old.of_views (v, l, b))) (triple-test w k a v l b)
view-new old m w k a n new v (Plain l) b = not_there (w == v) (a == b) (Some n) (get triple_cmp old.of_plains (v, l, b))

pub plain-new : (old : BodyNumbers) (m : BTreeMap (ℕ × ℕ × ℕ) ℕ) (w k a n : ℕ) → Updates triple_cmp old.of_plains m (w, k, a) (Some n) →
    HasNew old record { of_windows = old.of_windows; of_views = old.of_views; of_plains = m } w (Plain k) a n
plain-new old m w k a n new v Window b = not_there (w == v) (a == b) (Some n) (get pair_cmp old.of_windows (v, b))
plain-new old m w k a n new v (View l) b = not_there (w == v) (a == b) (Some n) (get triple_cmp old.of_views (v, l, b))
plain-new old m w k a n new v (Plain l) b = new.0 (v, l, b) ∙ ap (λ x. cond x (Some n) (get triple_cmp old.of_plains (v, l, b))) (triple-test w k a v l b)

-- ---- one more body

more : (b any : Bool) (here rest late all : Option ℕ) → all ≡ cond any rest late → cond b here all ≡ cond (b || any) (cond b here rest) late
more true any here rest late all h = refl
more false any here rest late all h = h

position-more : {X : Type 0} (p : X → Bool) (a : ℕ) (xs : List X) (x : X) →
    position_from p a (xs ++ x ∷ []) ≡ cond (list_any p xs) (position_from p a xs) (cond (p x) (Some (a + length xs)) None)
position-more p a [] x = rw add-zero refl
position-more p a (y ∷ ys) x =
    let at : a + 1 + length ys ≡ a + suc (length ys) = omega arith in
    more (p y) (list_any p ys) (Some a) (position_from p (a + 1) ys) (cond (p x) (Some (a + suc (length ys))) None) (position_from p (a + 1) (ys ++ x ∷ []))
    (position-more p (a + 1) ys x
    ∙ ap (λ n. cond (list_any p ys) (position_from p (a + 1) ys) (cond (p x) (Some n) None)) at)

none : (b : Bool) (any : Bool) (here : Option ℕ) (rest : Option ℕ) → (b || any) ≡ false → (any ≡ false → rest ≡ None) → cond b here rest ≡ None
none true any here rest h k = cc
none false any here rest h k = k h

position-none : {X : Type 0} (p : X → Bool) (a : ℕ) (xs : List X) → list_any p xs ≡ false → position_from p a xs ≡ None
position-none p a [] h = refl
position-none p a (x ∷ xs) h = none (p x) (list_any p xs) (Some a) (position_from p (a + 1) xs) h (position-none p (a + 1) xs)

last : (any b : Bool) (found : Option ℕ) (k : ℕ) → (b ≡ true → any ≡ false) → (any ≡ false → found ≡ None) →
    cond b (Some k) found ≡ cond any found (cond b (Some k) None)
last true true found k h e = cc (h refl)
last true false found k h e = refl
last false true found k h e = refl
last false false found k h e = e refl

-- the same body, where it is the one that is looked for
same_body : (w : ℕ) (t : Target) (what : ℕ) (line : BodyLine) (bodies : List BodyLine) → is_body_at w t what line ≡ true →
    list_any (is_body_at line.window line.target line.what) bodies ≡ false → list_any (is_body_at w t what) bodies ≡ false
same_body w t what line bodies h e =
    let front : (line.window == w && same_target line.target t) ≡ true = and_first (line.window == w && same_target line.target t) (line.what == what) h in
    let a : line.window ≡ w = eqb-true line.window w (and_first (line.window == w) (same_target line.target t) front) in
    let b : line.target ≡ t = same_target-true line.target t (and_second (line.window == w) (same_target line.target t) front) in
    let c : line.what ≡ what = eqb-true line.what what (and_second (line.window == w && same_target line.target t) (line.what == what) h) in
    sym (ap (λ n. list_any (is_body_at n line.target line.what) bodies) a
    ∙ ap (λ u. list_any (is_body_at w u line.what) bodies) b
    ∙ ap (λ n. list_any (is_body_at w t n) bodies) c) ∙ e

pub numbers-more : (bodies : List BodyLine) (line : BodyLine) (old new : BodyNumbers) → HasNumbers bodies old →
    HasNew old new line.window line.target line.what (length bodies) →
    list_any (is_body_at line.window line.target line.what) bodies ≡ false → HasNumbers (bodies ++ line ∷ []) new
numbers-more bodies line old new has is_new apart = λ w t what.
    is_new w t what
    ∙ ap (λ o. cond (is_body_at w t what line) (Some (length bodies)) o) (has w t what)
    ∙ last (list_any (is_body_at w t what) bodies) (is_body_at w t what line) (position_from (is_body_at w t what) 0 bodies) (length bodies)
    (λ h. same_body w t what line bodies h apart) (position-none (is_body_at w t what) 0 bodies)
    ∙ ap (λ n. cond (list_any (is_body_at w t what) bodies) (position_from (is_body_at w t what) 0 bodies) (cond (is_body_at w t what line) (Some n) None)) (omega arith)
    ∙ sym (position-more (is_body_at w t what) 0 bodies line)

-- ---- the bodies of a window among all

one_body : (b s e any : Bool) (p : BodyLine → Bool) (line : BodyLine) (kept : List BodyLine) →
    p line ≡ (s && e) → list_any p kept ≡ any → list_any p (cond b (line ∷ kept) kept) ≡ (((b && s) && e) || any)
one_body true s e any p line kept h k = rw (h, k) refl
one_body false s e any p line kept h k = k

pub through_map : {X Y : Type 0} (p : Y → Bool) (f : X → Y) (xs : List X) → list_any p (map f xs) ≡ list_any (λ x. p (f x)) xs
through_map p f [] = refl
through_map p f (x ∷ xs) = ap (λ b. p (f x) || b) (through_map p f xs)

-- a body in the chain is a body of the window
pub chain-bodies : (w : ℕ) (t : Target) (what : ℕ) (bodies : List BodyLine) →
    list_any (λ b. same_target b.target t && b.what == what) (map declared_body (filter (λ line. line.window == w) bodies)) ≡ list_any (is_body_at w t what) bodies
chain-bodies w t what bodies =
    through_map (λ b. same_target b.target t && b.what == what) declared_body (filter (λ line. line.window == w) bodies) ∙ any_of w t what bodies
  where
    any_of : (w : ℕ) (t : Target) (what : ℕ) (bodies : List BodyLine) →
        list_any (is_body_of t what) (filter (λ line. line.window == w) bodies) ≡ list_any (is_body_at w t what) bodies
    any_of w t what [] = refl
    any_of w t what (line ∷ lines) =
        one_body (line.window == w) (same_target line.target t) (line.what == what) (list_any (is_body_at w t what) lines) (is_body_of t what) line
        (filter (λ line. line.window == w) lines) refl (any_of w t what lines)

-- ---- the place tells the program

-- what is at a number that is looked up from number a on
abbrev pub IsPlace : ℕ → ℕ → List BodyLine → Option ℕ → Option BodyLine → Type 0
IsPlace what a bodies None None = Unit {0}
IsPlace what a bodies None (Some line) = ⊥
IsPlace what a bodies (Some n) None = ⊥
IsPlace what a bodies (Some n) (Some line) = (k : ℕ) × (n ≡ a + k) × (slice_get bodies k ≡ Some line) × (line.what ≡ what)

behind : (what a : ℕ) (x : BodyLine) (xs : List BodyLine) (at : Option ℕ) (found : Option BodyLine) →
    IsPlace what (a + 1) xs at found → IsPlace what a (x ∷ xs) at found
behind what a x xs None None h = tt
behind what a x xs None (Some line) h = h
behind what a x xs (Some n) None h = h
behind what a x xs (Some n) (Some line) h = (suc h.0, omega (arith, h.1), h.2, h.3)

place_step : (b g : Bool) (what a : ℕ) (x : BodyLine) (xs : List BodyLine) (at : Option ℕ) (found : Option BodyLine) → (g ≡ true → x.what ≡ what) →
    IsPlace what (a + 1) xs at found → IsPlace what a (x ∷ xs) (cond (b && g) (Some a) at) (cond b (cond g (Some x) found) found)
place_step true true what a x xs at found h k = (0, sym (add-zero a), refl, h refl)
place_step true false what a x xs at found h k = behind what a x xs at found k
place_step false g what a x xs at found h k = behind what a x xs at found k

found_first : (p : BodyLine → Bool) (b : Bool) (x : BodyLine) (kept : List BodyLine) →
    cond b (cond (p x) (Some x) (find p kept)) (find p kept) ≡ find p (cond b (x ∷ kept) kept)
found_first p true x kept = refl
found_first p false x kept = refl

pub place-found : (w : ℕ) (t : Target) (what a : ℕ) (bodies : List BodyLine) →
    IsPlace what a bodies (position_from (is_body_at w t what) a bodies) (find (is_body_of t what) (filter (λ line. line.window == w) bodies))
place-found w t what a [] = tt
place-found w t what a (x ∷ xs) =
    let kept = filter (λ line. line.window == w) xs in
    let rest = position_from (is_body_at w t what) (a + 1) xs in
    let step : IsPlace what a (x ∷ xs) (cond (x.window == w && is_body_of t what x) (Some a) rest)
    (cond (x.window == w) (cond (is_body_of t what x) (Some x) (find (is_body_of t what) kept)) (find (is_body_of t what) kept)) =
    place_step (x.window == w) (is_body_of t what x) what a x xs rest (find (is_body_of t what) kept)
    (λ h. eqb-true x.what what (and_second (same_target x.target t) (x.what == what) h)) (place-found w t what (a + 1) xs) in
    subst (λ (o : Option BodyLine). IsPlace what a (x ∷ xs) (position_from (is_body_at w t what) a (x ∷ xs)) o)
    (found_first (is_body_of t what) (x.window == w) x kept)
    (subst (λ (b : Bool). IsPlace what a (x ∷ xs) (cond b (Some a) rest)
    (cond (x.window == w) (cond (is_body_of t what x) (Some x) (find (is_body_of t what) kept)) (find (is_body_of t what) kept)))
    (and_regroup (x.window == w) (same_target x.target t) (x.what == what)) step)
