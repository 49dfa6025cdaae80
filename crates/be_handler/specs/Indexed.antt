-- The words of bodies, by handler.
use Rattle.std.specs.Prelude.{◌≡◌, ℕ, ◌==◌, Bool, ◌&&◌, List, [], length, Option, slice_index_or}
use Rattle.std.specs.List.{list_any}
use Rattle.be_message.specs.declared.target.Target.{Target}
use Rattle.be_message.specs.declared.target.Target.TheVariants.{Window, View, Plain}
use Rattle.be_handler.specs.Routes.{Body, same_target}
use Rattle.be_handler.specs.Words.{has_word}

-- one of the bodies is this handler's for the word
abbrev pub is_body : List Body → ℕ → Target → Bool
is_body bodies what target = list_any (λ b. same_target b.target target && b.what == what) bodies

-- the words of each handler are those of its bodies; a handler that isn't there has none
pub record IsIndexed (parents : List (Option ℕ)) (nexts : List Target) (bodies : List Body)
    (window : List ℕ) (views plains : List (List ℕ)) : Type 0 where
  pub of_window : (word : ℕ) → has_word window word ≡ is_body bodies word Window
  pub of_views : (v word : ℕ) → has_word (slice_index_or views v []) word
      ≡ is_body bodies word (View v)
  pub of_plains : (h word : ℕ) → has_word (slice_index_or plains h []) word
      ≡ is_body bodies word (Plain h)
  pub each_view : length views ≡ length parents
  pub each_plain : length plains ≡ length nexts
