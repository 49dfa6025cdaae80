-- Lists of points as sets of pixels.
use Rattle.std.proofs.Common.{◌≡◌, ℤ, ◌+ℤ◌, ◌-ℤ◌, Bool, ◌&&◌, ◌||◌, List, [], ◌∷◌, map, arith, refl, ap, ◌∙◌}
use Rattle.std.specs.List.{list_any}
use Rattle.std.specs.Ordering.{int_eq}
use Rattle.std.proofs.lemmas.Int.{ints}
use Rattle.std.proofs.lemmas.Bool.Decides.{same_from_decides, Decides-int_eq}
use Rattle.be_geom.specs.declared.point.Point.{Point}
use Rattle.be_geom.specs.Places.{at_pixel, less, same_point}

-- the list has the pixel
abbrev pub has_pixel : List Point → ℤ → ℤ → Bool
has_pixel ps x y = list_any (same_point (at_pixel x y)) ps

there : (x p c : ℤ) → x +ℤ c ≡ p → x ≡ p -ℤ c
there x p c e = omega (arith, ints)

back : (x p c : ℤ) → x ≡ p -ℤ c → x +ℤ c ≡ p
back x p c e = omega (arith, ints)

eq_moved : (x p c : ℤ) → int_eq x (p -ℤ c) ≡ int_eq (x +ℤ c) p
eq_moved x p c =
    same_from_decides (int_eq x (p -ℤ c)) (int_eq (x +ℤ c) p) (Decides-int_eq x (p -ℤ c))
    (λ h. there x p c ((Decides-int_eq (x +ℤ c) p).0 h), λ h. (Decides-int_eq (x +ℤ c) p).1 (back x p c h))

moved_point : (x y : ℤ) (p c : Point) → same_point (at_pixel x y) (less p c) ≡ same_point (at_pixel (x +ℤ c.x) (y +ℤ c.y)) p
moved_point x y p c =
    ap (λ v. v && int_eq y (p.y -ℤ c.y)) (eq_moved x p.x c.x) ∙ ap (λ v. int_eq (x +ℤ c.x) p.x && v) (eq_moved y p.y c.y)

pub moved_has : (ps : List Point) (c : Point) (x y : ℤ) → has_pixel (map (λ p. less p c) ps) x y ≡ has_pixel ps (x +ℤ c.x) (y +ℤ c.y)
moved_has [] c x y = refl
moved_has (p ∷ ps) c x y =
    ap (λ v. v || has_pixel (map (λ q. less q c) ps) x y) (moved_point x y p c)
    ∙ ap (λ v. same_point (at_pixel (x +ℤ c.x) (y +ℤ c.y)) p || v) (moved_has ps c x y)
