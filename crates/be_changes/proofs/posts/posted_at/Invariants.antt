use Rattle.be_changes.proofs.posts.posted_at.Given as goal
use Rattle.be_hall.specs.Hands.{part_at}
use Rattle.be_parts.specs.Ports.{HasPosted}
use Rattle.be_parts.specs.declared.part.Part.TheVariants.{Port}
use Rattle.be_rules.specs.Slices.{Slice}
use Rattle.std.specs.Prelude.{◌≡◌, Some}

abbrev pub ghosts-choose : goal.ghosts-choose
ghosts-choose a = record { is = λ it. (was : Slice) → part_at a.about.now.held.value.parts a.about.now.place ≡ Some (Port was) → HasPosted a.about.now.letter.value was it }
