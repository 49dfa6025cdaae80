-- Which pixels of two regions are kept (The Be Book: BRegion, Include, Exclude, IntersectWith).
use Rattle.std.specs.Prelude.{Bool, not, ◌&&◌, ◌||◌}
use Rattle.be_region.specs.declared.rule.Rule.{Rule}
use Rattle.be_region.specs.declared.rule.Rule.TheVariants.{Union, Difference, Intersection}

-- whether a pixel is kept, by whether the one region has it and whether the other does
abbrev pub keeps : Rule → Bool → Bool → Bool
keeps Union p q = p || q
keeps Difference p q = p && not q
keeps Intersection p q = p && q
