-- One pixel, watched while a history is carried out.
use Rattle.std.proofs.Common.{◌≡◌, ℕ, ◌+◌, ◌<◌, false, List, [], ◌∷◌, ◌++◌}
use Rattle.std.proofs.Common.{length, take, get_or, Option, refl, sym, ap, subst, ◌∙◌, arith}
use Rattle.std.specs.Prelude.{pos, option_map, if◌then◌else◌}
use Rattle.std.proofs.lemmas.List.{length-take-le, take_all, take_more}
use Rattle.be_color.specs.declared.colors.Rgb.{Rgb}
use Rattle.be_machine.proofs.PixelColors.{colors_stay}
use Rattle.be_machine.specs.History.{state_after}
use Rattle.be_machine.specs.PixelLaws.{is_painting}
use Rattle.be_machine.specs.Pixels.{color_at}
use Rattle.be_machine.specs.State.{opening_state}
use Rattle.be_machine.specs.Step.{step}
use Rattle.be_machine.specs.declared.Entry.{Entry}
use Rattle.be_check.specs.Following.{state_in}
use Rattle.be_parts.specs.declared.part.Part.{Part}
use Rattle.be_script.specs.Script.{Declared}
use Rattle.be_check.specs.Explaining.{explained, last_change, last_from, same_color}
use Rattle.be_check.specs.Stepping.{HasAll, IsMade}
use Rattle.be_check.specs.declared.explaining.Explained.{Explained}
use Rattle.be_check.proofs.Changing.{last_more}
use Rattle.be_check.proofs.Coming.{HasCome, come_further}

-- the first n entries were made, and the pixel's colour and its last change are these
pub record Watches (d : Declared) (h : List Entry) (x y n : ℕ) (parts : List (ℕ × Part))
    (color : Option Rgb) (last : ℕ) : Type 0 where
  pub come : HasCome d h n parts
  pub color_is : color ≡ color_at (state_in d parts) (pos x) (pos y)
  pub last_is : last ≡ last_change d (take n h) (pos x) (pos y)

abbrev pub paired : ℕ → Rgb → Explained
paired entry rgb = record { rgb = rgb; entry = entry }

module _ (d : Declared) (h : List Entry) where
  pub has_all : (n : ℕ) (parts : List (ℕ × Part)) → HasCome d h n parts → HasAll d parts
  has_all n parts come = record { sound = come.follows.sound; places = come.follows.places }

  -- the same where the script is told otherwise
  pub all_of : (other : Declared) → other ≡ d → (n : ℕ) (parts : List (ℕ × Part))
      → HasCome d h n parts → HasAll other parts
  all_of other same n parts come = subst (λ z. HasAll z parts) (sym same) (has_all n parts come)

  module _ (x y : ℕ) where
    abbrev color_in : List (ℕ × Part) → Option Rgb
    color_in parts = color_at (state_in d parts) (pos x) (pos y)

    abbrev last_in : List Entry → ℕ
    last_in l = last_change d l (pos x) (pos y)

    pub watch_first : (parts : List (ℕ × Part)) (color : Option Rgb) → HasCome d h 0 parts
        → color ≡ color_in parts → Watches d h x y 0 parts color 0
    unfolding last_from
    watch_first parts color come is = record { come = come; color_is = is; last_is = refl }

    module _ (n : ℕ) (e : Entry) (within : n < length h) (is : e ≡ get_or h n e)
        (parts new : List (ℕ × Part)) (made : IsMade d e n parts new) (color : Option Rgb)
        (last : ℕ) (watch : Watches d h x y n parts color last) where
      come_new : HasCome d h (n + 1) new
      come_new = come_further d h n e within is parts watch.come new made

      before : state_after d (take n h) ≡ state_in d parts
      before = sym watch.come.state

      behind : step d (state_after d (take n h)) e ≡ state_in d new
      behind = ap (λ s. step d s e) before ∙ sym made.state

      longer : take (n + 1) h ≡ take n h ++ e ∷ []
      longer = take_more h n e within ∙ ap (λ (z : Entry). take n h ++ z ∷ []) (sym is)

      numbered : 1 + length (take n h) ≡ n + 1
      numbered = let long = length-take-le n h (omega arith) in omega (arith, long)

      next_last : last_in (take (n + 1) h)
          ≡ (if same_color (color_in parts) (color_in new) then last_in (take n h) else n + 1)
      next_last =
          ap last_in longer
          ∙ last_more d (pos x) (pos y) (opening_state d) 1 0 (take n h) e
          ∙ (λ i. if same_color (color_at (before i) (pos x) (pos y))
          (color_at (behind i) (pos x) (pos y)) then last_in (take n h) else numbered i)

      pub still : is_painting e.act ≡ false → color ≡ color_in new
      still quiet =
          watch.color_is
          ∙ sym (ap (λ s. color_at s (pos x) (pos y)) made.state
          ∙ colors_stay d (state_in d parts) e (pos x) (pos y) made.legal quiet)

      pub watch_next : (seen : Option Rgb) (found : ℕ) → seen ≡ color_in new
          → found ≡ (if same_color color seen then last else n + 1)
          → Watches d h x y (n + 1) new seen found
      watch_next seen found is_seen is_found = record {
        come = come_new;
        color_is = is_seen;
        last_is =
            is_found
            ∙ (λ i. if same_color (watch.color_is i) (is_seen i) then watch.last_is i else n + 1)
            ∙ sym next_last;
      }

    -- ---- behind the last entry

    pub watched : (n : ℕ) → n ≡ length h → (parts : List (ℕ × Part)) (color : Option Rgb)
        (last : ℕ) → Watches d h x y n parts color last
        → option_map (paired last) color ≡ explained d h (pos x) (pos y)
    watched n whole parts color last watch =
        let all : take n h ≡ h = take_all n h (omega arith) in
        let now : color ≡ color_at (state_after d h) (pos x) (pos y) =
        watch.color_is ∙ ap (λ s. color_at s (pos x) (pos y)) watch.come.state
        ∙ ap (λ (l : List Entry). color_at (state_after d l) (pos x) (pos y)) all in
        let number : last ≡ last_in h = watch.last_is ∙ ap last_in all in
        λ i. option_map (paired (number i)) (now i)
