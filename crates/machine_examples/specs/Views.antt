-- Small facts about shapes and views.
use Rattle.std.specs.Prelude.{◌≡◌, ℕ, pos, true, false, [], ◌∷◌, Some, None, map}
use Rattle.be_geom.specs.declared.rect.Rect.{Rect}
use Rattle.be_geom.specs.Places.{at_pixel}
use Rattle.be_follow.specs.declared.mode.Follow.{Follow}
use Rattle.be_follow.specs.declared.mode.Across.TheVariants as across
use Rattle.be_follow.specs.declared.mode.Down.TheVariants as down
use Rattle.be_font.specs.Glyphs.{glyph_bit}
use Rattle.be_shape.specs.Rasters.{line_has}
use Rattle.be_views.specs.Pixels.{view_at}
use Rattle.be_views.specs.Resizing.{frames_after}
use Rattle.be_views.specs.Trees.{Tree, place_of, preorder}

abbrev pub rect : ℕ → ℕ → ℕ → ℕ → Rect
rect l t r b = record { left = pos l; top = pos t; right = pos r; bottom = pos b }

abbrev pub at_left_top : Follow
at_left_top = record { across = across.Left; down = down.Top }

abbrev pub at_right : Follow
at_right = record { across = across.LeftRight; down = down.Top }

-- a root with two children that overlap, the first of which has a child
abbrev pub tree : Tree
tree =
    record { parent = None; frame = rect 0 0 9 9; mode = at_left_top }
    ∷ record { parent = Some 0; frame = rect 1 1 5 5; mode = at_right }
    ∷ record { parent = Some 0; frame = rect 4 4 8 8; mode = at_left_top }
    ∷ record { parent = Some 1; frame = rect 1 1 9 9; mode = at_right } ∷ []

-- what the definitions say of these views, of two lines and of a letter
pub record Holds : Type 0 where
  -- of two children that hold a pixel the later one has it, and a child's child never draws past
  -- its parent
  pub views_at : (view_at tree (pos 5) (pos 5) ≡ Some 2) × (view_at tree (pos 3) (pos 3) ≡ Some 3)
      × (view_at tree (pos 6) (pos 3) ≡ Some 0) × (view_at tree (pos 1) (pos 1) ≡ Some 1)
      × (view_at tree (pos 10) (pos 1) ≡ None)
  pub places : (place_of tree 3 ≡ Some (at_pixel (pos 2) (pos 2))) × (place_of tree 4 ≡ None)
      × (preorder tree ≡ 0 ∷ 1 ∷ 3 ∷ 2 ∷ [])
  -- a view that follows both sides grows with its parent, and so does one in it
  pub grown : frames_after tree (pos 12) (pos 9)
      ≡ rect 0 0 12 9 ∷ rect 1 1 8 5 ∷ rect 4 4 8 8 ∷ rect 1 1 12 9 ∷ []
  -- the line from (0, 0) to (2, 1) is (0, 0), (1, 1), (2, 1)
  pub line : map (λ p. line_has (at_pixel (pos 0) (pos 0)) (at_pixel (pos 2) (pos 1)) 1 p.x p.y)
      (at_pixel (pos 0) (pos 0) ∷ at_pixel (pos 1) (pos 0) ∷ at_pixel (pos 1) (pos 1) ∷ at_pixel
      (pos 2) (pos 0) ∷ at_pixel (pos 2) (pos 1) ∷ at_pixel (pos 3) (pos 1) ∷ [])
      ≡ true ∷ false ∷ true ∷ false ∷ true ∷ false ∷ []
  -- with a pen of 2 a point covers itself and what is right of it and below
  pub point : map (λ p. line_has (at_pixel (pos 3) (pos 3)) (at_pixel (pos 3) (pos 3)) 2 p.x p.y)
      (at_pixel (pos 2) (pos 3) ∷ at_pixel (pos 3) (pos 3) ∷ at_pixel (pos 4) (pos 4) ∷ at_pixel
      (pos 5) (pos 4) ∷ []) ≡ false ∷ true ∷ true ∷ false ∷ []
  -- the letter A, 7e1111117e: its lowest left pixel is set, its highest left one isn't
  pub letter_a : (glyph_bit 65 0 6 ≡ true) × (glyph_bit 65 0 0 ≡ false) × (glyph_bit 65 2 0 ≡ true)
      × (glyph_bit 65 5 6 ≡ false)
