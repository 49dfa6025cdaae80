-- The port of a window's options holds 1 to 100 letters.
use Rattle.std.proofs.Common.{◌≡◌, ℕ, ◌≤◌, pos, ℤ, unsigned_abs, Bool, true, false, cond, List, [], ◌∷◌, Option, Some, None, Ok, Err, refl, subst, arith}
use Rattle.std.specs.Prelude.{fold, map}
use Rattle.std.specs.List.{list_all}
use Rattle.std.proofs.lemmas.Bool.{and_parts}
use Rattle.std.proofs.lemmas.Int.{ints}
use Rattle.be_command.specs.declared.fault.Reason.TheVariants.{Shape, Range}
use Rattle.be_geom.specs.Points.{between}
use Rattle.be_line.specs.declared.options.Options.{Options}
use Rattle.be_line.specs.declared.options.WindowOption.{WindowOption}
use Rattle.be_line.specs.declared.options.WindowOption.TheVariants as option
use Rattle.be_line.specs.Fields.{all_there}
use Rattle.be_line.specs.Options as options

abbrev HasPort : Options → Type 0
HasPort o = (1 ≤ o.port) × (o.port ≤ 100)

port_between : (n : ℤ) → between (pos 1) n (pos 100) ≡ true → (1 ≤ unsigned_abs n) × (unsigned_abs n ≤ 100)
unfolding between
port_between n h = grind (arith, ints)

port_with : (o : Options) (x : WindowOption) → options.is_in_range x ≡ true → HasPort o → HasPort (options.with_option o x)
port_with o option.FirstClick h k = k
port_with o option.AvoidFocus h k = k
port_with o (option.Port n) h k = port_between n h
port_with o (option.Color c) h k = k

port_of_all : (xs : List WindowOption) (o : Options) → list_all options.is_in_range xs ≡ true → HasPort o → HasPort (fold options.with_option o xs)
port_of_all [] o h k = k
port_of_all (x ∷ xs) o h k =
    let parts = and_parts (options.is_in_range x) (list_all options.is_in_range xs) h in
    port_of_all xs (options.with_option o x) parts.1 (port_with o x parts.0 k)

ranged_port : (b : Bool) (xs : List WindowOption) (o : Options) → list_all options.is_in_range xs ≡ b → cond b (Ok (fold options.with_option options.no_options xs)) (Err Range) ≡ Ok o → HasPort o
ranged_port true xs o h e =
    let same : fold options.with_option options.no_options xs ≡ o = (cc) in
    subst HasPort same (port_of_all xs options.no_options h (omega arith, omega arith))
ranged_port false xs o h e = absurd ((cc))

once_port : (b : Bool) (xs : List WindowOption) (o : Options) → cond b (options.ranged xs) (Err Shape) ≡ Ok o → HasPort o
once_port true xs o e = ranged_port (list_all options.is_in_range xs) xs o refl e
once_port false xs o e = absurd ((cc))

port_once : (given : Option (List WindowOption)) (o : Options) → options.once given ≡ Ok o → HasPort o
port_once (Some xs) o e = once_port (options.stand_once xs) xs o e
port_once None o e = absurd ((cc))

pub options-port : (words : List (List ℕ)) (o : Options) → options.options_said words ≡ Ok o → (1 ≤ o.port) × (o.port ≤ 100)
unfolding options.options_said
options-port words o e = port_once (all_there (map options.option_of words)) o e
