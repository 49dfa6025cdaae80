-- What a command does with the states that are open, as the code tells them apart.
use Rattle.std.specs.Prelude.{ℕ, ◌==◌, if◌then◌else◌, Option, Some, None}
use Rattle.be_command.specs.declared.Command.{Command}
use Rattle.be_command.specs.Effects.{Deed, draws, sets, colors, saves, restores, copies}
use Rattle.be_command.specs.Effects.{invalidates, Effect, at_view, changes, ends_update, effect_of}
use Rattle.be_picture.specs.declared.sorts.Sort.{Sort}
use Rattle.be_picture.specs.declared.sorts.Sort.TheVariants.{Opens, Closes, Stays}

abbrev pub at_root : ℕ → Sort → Option Sort
at_root v sort = if v == 0 then Some sort else None

abbrev pub sort_at : ℕ → Deed → Option Sort
sort_at v (draws figure) = at_root v Stays
sort_at v (sets setting) = at_root v Stays
sort_at v (colors color) = at_root v Stays
sort_at v saves = at_root v Opens
sort_at v restores = at_root v Closes
sort_at v (copies source target) = None
sort_at v (invalidates r) = None

abbrev pub sort_of_effect : Effect → Option Sort
sort_of_effect (at_view v deed) = sort_at v deed
sort_of_effect (changes change) = None
sort_of_effect ends_update = None

abbrev pub sort_of : Command → Option Sort
sort_of c = sort_of_effect (effect_of c)
