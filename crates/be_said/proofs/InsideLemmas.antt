-- The names of a window, by what is kept of it.
use Rattle.std.proofs.Common.{◌≡◌, ℕ, ◌≤◌, Bool, true, false, cond, List, [], ◌∷◌, length, map, Option, Some, None, codes, ap, sym, refl}
use Rattle.std.proofs.lemmas.Slice.Eq.{bytes_eq-Decides}
use Rattle.std.specs.Prelude.{slice_get}
use Rattle.std.specs.Str.{bytes_eq}
use Rattle.be_command.specs.Names.{Known, number_in}
use Rattle.be_said.specs.declared.inside.Inside.{Inside}
use Rattle.be_said.specs.Inside.{AreInside}
use Rattle.be_said.specs.SoFar.{SoFar, known_in, plain_names, view_names}
use Rattle.be_script.specs.declared.ViewLine.{ViewLine}

-- a window that is there
pub known_there : (said : SoFar) (insides : List Inside) (w : ℕ) (inside : Inside) → AreInside said insides → slice_get insides w ≡ Some inside → inside.names ≡ known_in said (Some w)
known_there said insides w inside are there = (are.each w inside there).names

pub views_there : (said : SoFar) (insides : List Inside) (w : ℕ) (inside : Inside) → AreInside said insides → slice_get insides w ≡ Some inside → inside.names.views ≡ view_names said (Some w)
views_there said insides w inside are there = ap (λ (known : Known). known.views) (known_there said insides w inside are there)

pub plain_there : (said : SoFar) (insides : List Inside) (w : ℕ) (inside : Inside) → AreInside said insides → slice_get insides w ≡ Some inside → inside.plain.items ≡ plain_names said (Some w)
plain_there said insides w inside are there = (are.each w inside there).plain

pub few_there : (said : SoFar) (insides : List Inside) (w : ℕ) (inside : Inside) → AreInside said insides → slice_get insides w ≡ Some inside → length inside.plain.items ≤ 16
few_there said insides w inside are there = (are.each w inside there).few_plain

-- a window that isn't there has the root alone
pub views_absent : (said : SoFar) (insides : List Inside) (w : ℕ) → AreInside said insides → slice_get insides w ≡ None → view_names said (Some w) ≡ codes "root" ∷ []
views_absent said insides w are absent = ap (λ (lines : List ViewLine). codes "root" ∷ map (λ line. line.name) lines) (are.no_views w absent)

other_than : (name word : List ℕ) (b : Bool) → bytes_eq name word ≡ b → bytes_eq word name ≡ false → cond {A = Option ℕ} b (Some 0) None ≡ None
other_than name word true e not = let is : bytes_eq word name ≡ true = (bytes_eq-Decides word name).1 (sym ((bytes_eq-Decides name word).0 e)) in (cc)
other_than name word false e not = refl

pub alone : (name word : List ℕ) → bytes_eq word name ≡ false → number_in (name ∷ []) word ≡ None
alone name word not = other_than name word (bytes_eq name word) refl not
