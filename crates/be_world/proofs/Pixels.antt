-- A bitmap row by row.
use Rattle.std.proofs.Common.{◌≡◌, ℕ, ◌+◌, ◌*◌, ◌<◌, ◌≤◌, List, ◌++◌, length, take, drop, sym, ap}
use Rattle.std.proofs.Common.{◌∙◌, ⊎_elim, arith, length-take}
use Rattle.std.specs.Prelude.{pos, slice_get}
use Rattle.std.proofs.Math.Seq.{take-append-add, take-length}
use Rattle.std.proofs.lemmas.Bool.{cases_lt}
use Rattle.std.proofs.lemmas.List.{length-take-le, take-append-drop}
use Rattle.std.proofs.lemmas.Option.{slice_get_past}
use Rattle.be_facts.proofs.Lists.{get_drop, get_take}
use Rattle.be_bitmap.specs.Pictures.{Picture, bitmap_pixel}
use Rattle.be_bitmap.specs.Sides.{IsPicture, IsRefused}
use Rattle.be_bitmap.specs.declared.fault.BitmapFault.{BitmapFault}
use Rattle.be_bitmap.specs.declared.fault.BitmapFault.TheVariants.{TooLarge, WrongLength}
use Rattle.be_bitmap.proofs.PixelLemmas.{pixel_inside, pixel_right}
use Rattle.be_color.specs.declared.colors.Color.{Color}
use Rattle.be_rules.proofs.ListLemmas.{same_list}

-- a part of a list behind the part before it
joined : {X : Type 0} (xs : List X) (n m : ℕ) → n ≤ length xs
    → take n xs ++ take m (drop n xs) ≡ take (n + m) xs
joined xs n m le =
    sym (take-append-add (take n xs) (drop n xs) m)
    ∙ (λ i. take (length-take-le n xs le i + m) (take-append-drop n xs i))

module _ (p : Picture) (row : ℕ) (line : List Color) (inside : row < p.height)
    (pixels : (k : ℕ) → slice_get line k ≡ bitmap_pixel p (pos (0 + k)) (pos row)) where
  at : (k : ℕ) → slice_get line k ≡ slice_get (take p.width (drop (row * p.width) p.colors)) k
  at k =
      ⊎_elim
      (λ (left : 0 + k < p.width).
      pixels k
      ∙ pixel_inside p (0 + k) row left inside
      ∙ sym (get_take p.width (drop (row * p.width) p.colors) k (omega arith)
      ∙ get_drop (row * p.width) p.colors k (row * p.width + (0 + k)) (omega arith)))
      (λ (past : p.width ≤ 0 + k).
      pixels k
      ∙ pixel_right p (0 + k) row past
      ∙ sym (slice_get_past (take p.width (drop (row * p.width) p.colors)) k
      (rw length-take (omega arith))))
      (cases_lt (0 + k) p.width)

  row_is : line ≡ take p.width (drop (row * p.width) p.colors)
  row_is = same_list line (take p.width (drop (row * p.width) p.colors)) at

  -- the rows up to this one
  pub next_row : (before : List Color) → IsPicture p → before ≡ take (row * p.width) p.colors
      → before ++ line ≡ take ((row + 1) * p.width) p.colors
  next_row before whole is =
      let few : row * p.width ≤ length p.colors = subst_le in
      (λ i. is i ++ row_is i)
      ∙ joined p.colors (row * p.width) p.width few
      ∙ ap (λ n. take n p.colors) (let more : row * p.width + p.width ≡ (row + 1) * p.width =
      grind arith in more)
    where
      subst_le : row * p.width ≤ length p.colors
      subst_le = let w = whole.whole in grind arith

-- all of them
pub all_rows : (p : Picture) (rows : List Color) → IsPicture p
    → rows ≡ take (p.height * p.width) p.colors → rows ≡ p.colors
all_rows p rows whole is =
    let long : p.height * p.width ≡ length p.colors = (let w = whole.whole in grind arith) in
    is ∙ ap (λ n. take n p.colors) long ∙ take-length p.colors

-- they are not refused
pub not_refused : (p : Picture) (fault : BitmapFault) (colors : List Color) → IsPicture p
    → colors ≡ p.colors → IsRefused fault p.width p.height colors → ⊥
not_refused p (TooLarge back) colors whole is refused = let no = refused.0 in
    let yes = whole.sides in absurd (cc)
not_refused p (WrongLength back) colors whole is refused = refused.1 (ap length is ∙ whole.whole)
