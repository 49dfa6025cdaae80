-- The pixels of a row, one behind the other.
use Rattle.std.proofs.Common.{◌≡◌, ℕ, suc, List, [], ◌∷◌, ◌++◌, Option, Some, None, refl, ap, sym, ◌∙◌, drop, take, append_assoc}
use Rattle.std.specs.Option.{option_map}
use Rattle.std.specs.Prelude.{option_and_then}
use Rattle.be_color.specs.declared.colors.Color.{Color}
use Rattle.be_lex.specs.Colors.{pixel_of}
use Rattle.be_line.specs.Kinds.{pixels_in}

one_more : (cs : List Color) (color : Color) (o : Option (List Color)) → option_map (λ more. (cs ++ color ∷ []) ++ more) o ≡ option_map (λ more. cs ++ more) (option_map (λ colors. color ∷ colors) o)
one_more cs color None = refl
one_more cs color (Some xs) = ap Some (append_assoc cs (color ∷ []) xs)

-- one pixel more was read
pub pixel_read : (n m : ℕ) (cs : List Color) (rest : List ℕ) (color : Color) → n ≡ suc m → pixel_of (take 6 rest) ≡ Some color →
    option_map (λ more. (cs ++ color ∷ []) ++ more) (pixels_in m (drop 6 rest)) ≡ option_map (λ more. cs ++ more) (pixels_in n rest)
pixel_read n m cs rest color e is =
    one_more cs color (pixels_in m (drop 6 rest))
    ∙ sym (ap (λ (k : ℕ). option_map (λ more. cs ++ more) (pixels_in k rest)) e
    ∙ ap (λ (o : Option Color). option_map (λ more. cs ++ more) (option_and_then (λ color. option_map (λ colors. color ∷ colors) (pixels_in m (drop 6 rest))) o)) is)
