-- The number of a body, looked up by its window, its handler and its word.
use Rattle.std.specs.Prelude.{◌≡◌, ℕ, ◌==◌, ◌&&◌, Option, Some, if◌then◌else◌}
use Rattle.std.specs.BTreeMap.{get}
use Rattle.std.specs.declared.cmp.Ordering.{Ordering}
use Rattle.std.specs.Ordering.{nat_cmp, ordering_then}
use Rattle.be_handler.specs.Routes.{same_target}
use Rattle.be_message.specs.declared.target.Target.{Target}
use Rattle.be_message.specs.declared.target.Target.TheVariants.{Window, View, Plain}
use Rattle.be_script.specs.declared.costs.body_numbers.BodyNumbers.{BodyNumbers}

-- window and word
abbrev pub pair_cmp : ℕ × ℕ → ℕ × ℕ → Ordering
pair_cmp a b = ordering_then (nat_cmp a.0 b.0) (nat_cmp a.1 b.1)

-- window, handler and word
abbrev pub triple_cmp : ℕ × ℕ × ℕ → ℕ × ℕ × ℕ → Ordering
triple_cmp a b = ordering_then (ordering_then (nat_cmp a.0 b.0) (nat_cmp a.1 b.1)) (nat_cmp a.2 b.2)

abbrev pub number_of : BodyNumbers → ℕ → Target → ℕ → Option ℕ
number_of numbers w Window what = get pair_cmp numbers.of_windows (w, what)
number_of numbers w (View v) what = get triple_cmp numbers.of_views (w, v, what)
number_of numbers w (Plain h) what = get triple_cmp numbers.of_plains (w, h, what)

-- a body has this number, and the others have theirs
abbrev pub HasNew : BodyNumbers → BodyNumbers → ℕ → Target → ℕ → ℕ → Type 0
HasNew old new window target what number =
    (w : ℕ) (t : Target) (word : ℕ) →
    number_of new w t word ≡ (if window == w && same_target target t && what == word
    then Some number else number_of old w t word)
