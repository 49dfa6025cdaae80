-- The options of a window, read one after the other, are those of the whole line.
use Rattle.std.proofs.Common.{◌≡◌, ℤ, pos, Bool, true, false, not, ◌&&◌, List, [], ◌∷◌, ◌++◌, Option, Some, None, Result, Ok, Err, refl, ap, sym, ◌∙◌, append_assoc, cond}
use Rattle.std.specs.Prelude.{fold, option_map}
use Rattle.std.specs.List.{list_all}
use Rattle.std.proofs.lemmas.List.Folds.{list_all-append}
use Rattle.std.proofs.lemmas.List.Sums.{fold-append}
use Rattle.be_facts.proofs.Truths.{and_false, and_second, and_first, and_true}
use Rattle.be_color.specs.declared.colors.Color.{Color}
use Rattle.be_geom.specs.Points.{between}
use Rattle.be_command.specs.declared.fault.Reason.{Reason}
use Rattle.be_command.specs.declared.fault.Reason.TheVariants.{Shape, Range}
use Rattle.be_line.specs.declared.options.Given.{Given}
use Rattle.be_line.specs.declared.options.Options.{Options}
use Rattle.be_line.specs.declared.options.WindowOption.{WindowOption}
use Rattle.be_line.specs.declared.options.WindowOption.TheVariants as option
use Rattle.be_line.specs.Fields.{all_there}
use Rattle.be_line.specs.GivenOptions.{no_option, with_one, with_option, finished, told}
use Rattle.be_line.specs.Options as options

-- ---- options that stand once

-- none of these is of the sort of another
abbrev none_like : WindowOption → List WindowOption → Bool
none_like o os = list_all (λ other. not (options.same_option other o)) os

shuffled : (a b c d : Bool) → ((a && (b && true)) && (c && d)) ≡ ((a && c) && (b && d))
shuffled true true c d = refl
shuffled true false true d = refl
shuffled true false false d = refl
shuffled false b c d = refl

-- one more stands once beside others where none is like it
once_more : (os : List WindowOption) (o : WindowOption) → options.stand_once (os ++ o ∷ []) ≡ (options.stand_once os && none_like o os)
once_more [] o = refl
once_more (p ∷ os) o =
    ap (λ b. b && options.stand_once (os ++ o ∷ [])) (list_all-append (λ other. not (options.same_option p other)) os (o ∷ []))
    ∙ ap (λ b. (list_all (λ other. not (options.same_option p other)) os && (not (options.same_option p o) && true)) && b) (once_more os o)
    ∙ shuffled (list_all (λ other. not (options.same_option p other)) os) (not (options.same_option p o)) (options.stand_once os) (none_like o os)

-- ---- what was read so far

-- these options were read, and nothing else
record IsGiven (os : List WindowOption) (given : Given) : Type 0 where
  pub formed : given.is_formed ≡ options.stand_once os
  pub ranged : given.is_in_range ≡ list_all options.is_in_range os
  pub so_far : list_all options.is_in_range os ≡ true → given.options ≡ fold options.with_option options.no_options os
  pub first_click : none_like option.FirstClick os ≡ not given.has_first_click
  pub avoid_focus : none_like option.AvoidFocus os ≡ not given.has_avoid_focus
  pub port : (n : ℤ) → none_like (option.Port n) os ≡ not given.has_port
  pub color : (c : Color) → none_like (option.Color c) os ≡ not given.has_color

none_given : IsGiven [] no_option
none_given = record {
  formed = refl;
  ranged = refl;
  so_far = λ e. refl;
  first_click = refl;
  avoid_focus = refl;
  port = λ n. refl;
  color = λ c. refl;
}

-- what holds of others and of one more
like_one : (os : List WindowOption) (o p : WindowOption) (b : Bool) → none_like p os ≡ b → none_like p (os ++ o ∷ []) ≡ (b && (not (options.same_option o p) && true))
like_one os o p b e = list_all-append (λ other. not (options.same_option other p)) os (o ∷ []) ∙ ap (λ v. v && (not (options.same_option o p) && true)) e

ranged_one : (os : List WindowOption) (o : WindowOption) (b : Bool) → b ≡ list_all options.is_in_range os → (b && options.is_in_range o) ≡ list_all options.is_in_range (os ++ o ∷ [])
ranged_one os o b e =
    ap (λ v. v && options.is_in_range o) e
    ∙ sym (list_all-append options.is_in_range os (o ∷ []) ∙ ap (λ v. list_all options.is_in_range os && v) (and_true (options.is_in_range o)))

formed_one : (os : List WindowOption) (o : WindowOption) (b has : Bool) → b ≡ options.stand_once os → none_like o os ≡ not has → (b && not has) ≡ options.stand_once (os ++ o ∷ [])
formed_one os o b has e none = ap (λ v. v && not has) e ∙ ap (λ v. options.stand_once os && v) (sym none) ∙ sym (once_more os o)

folded_one : (os : List WindowOption) (o : WindowOption) (so_far : Options) →
    (list_all options.is_in_range os ≡ true → so_far ≡ fold options.with_option options.no_options os) →
    list_all options.is_in_range (os ++ o ∷ []) ≡ true → options.with_option so_far o ≡ fold options.with_option options.no_options (os ++ o ∷ [])
folded_one os o so_far known e =
    let all : list_all options.is_in_range os ≡ true = and_first (list_all options.is_in_range os) (options.is_in_range o && true) (sym (list_all-append options.is_in_range os (o ∷ [])) ∙ e) in
    ap (λ v. options.with_option v o) (known all) ∙ sym (fold-append options.with_option options.no_options os (o ∷ []))

-- a port out of range says nothing
port_folded : (os : List WindowOption) (m : ℤ) (so_far : Options) →
    (list_all options.is_in_range os ≡ true → so_far ≡ fold options.with_option options.no_options os) →
    list_all options.is_in_range (os ++ option.Port m ∷ []) ≡ true →
    cond (between (pos 1) m (pos 100)) (options.with_option so_far (option.Port m)) so_far ≡ fold options.with_option options.no_options (os ++ option.Port m ∷ [])
port_folded os m so_far known e =
    let inside : between (pos 1) m (pos 100) ≡ true = and_first (between (pos 1) m (pos 100)) true (and_second (list_all options.is_in_range os) _ (sym (list_all-append options.is_in_range os (option.Port m ∷ [])) ∙ e)) in
    ap (λ b. cond b (options.with_option so_far (option.Port m)) so_far) inside ∙ folded_one os (option.Port m) so_far known e

step : (os : List WindowOption) (given : Given) (o : WindowOption) → IsGiven os given → IsGiven (os ++ o ∷ []) (with_one given o)
step os given option.FirstClick k = record {
  formed = formed_one os option.FirstClick given.is_formed given.has_first_click k.formed k.first_click;
  ranged = sym (and_true given.is_in_range) ∙ ranged_one os option.FirstClick given.is_in_range k.ranged;
  so_far = folded_one os option.FirstClick given.options k.so_far;
  first_click = like_one os option.FirstClick option.FirstClick _ k.first_click ∙ and_false _;
  avoid_focus = like_one os option.FirstClick option.AvoidFocus _ k.avoid_focus ∙ and_true _;
  port = λ n. like_one os option.FirstClick (option.Port n) _ (k.port n) ∙ and_true _;
  color = λ c. like_one os option.FirstClick (option.Color c) _ (k.color c) ∙ and_true _;
}
step os given option.AvoidFocus k = record {
  formed = formed_one os option.AvoidFocus given.is_formed given.has_avoid_focus k.formed k.avoid_focus;
  ranged = sym (and_true given.is_in_range) ∙ ranged_one os option.AvoidFocus given.is_in_range k.ranged;
  so_far = folded_one os option.AvoidFocus given.options k.so_far;
  first_click = like_one os option.AvoidFocus option.FirstClick _ k.first_click ∙ and_true _;
  avoid_focus = like_one os option.AvoidFocus option.AvoidFocus _ k.avoid_focus ∙ and_false _;
  port = λ n. like_one os option.AvoidFocus (option.Port n) _ (k.port n) ∙ and_true _;
  color = λ c. like_one os option.AvoidFocus (option.Color c) _ (k.color c) ∙ and_true _;
}
step os given (option.Port m) k = record {
  formed = formed_one os (option.Port m) given.is_formed given.has_port k.formed (k.port m);
  ranged = ranged_one os (option.Port m) given.is_in_range k.ranged;
  so_far = port_folded os m given.options k.so_far;
  first_click = like_one os (option.Port m) option.FirstClick _ k.first_click ∙ and_true _;
  avoid_focus = like_one os (option.Port m) option.AvoidFocus _ k.avoid_focus ∙ and_true _;
  port = λ n. like_one os (option.Port m) (option.Port n) _ (k.port n) ∙ and_false _;
  color = λ c. like_one os (option.Port m) (option.Color c) _ (k.color c) ∙ and_true _;
}
step os given (option.Color b) k = record {
  formed = formed_one os (option.Color b) given.is_formed given.has_color k.formed (k.color b);
  ranged = sym (and_true given.is_in_range) ∙ ranged_one os (option.Color b) given.is_in_range k.ranged;
  so_far = folded_one os (option.Color b) given.options k.so_far;
  first_click = like_one os (option.Color b) option.FirstClick _ k.first_click ∙ and_true _;
  avoid_focus = like_one os (option.Color b) option.AvoidFocus _ k.avoid_focus ∙ and_true _;
  port = λ n. like_one os (option.Color b) (option.Port n) _ (k.port n) ∙ and_true _;
  color = λ c. like_one os (option.Color b) (option.Color c) _ (k.color c) ∙ and_false _;
}

-- ---- to the last word

-- once a word is of the wrong form, all are
still : (given : Given) (o : WindowOption) → given.is_formed ≡ false → (with_one given o).is_formed ≡ false
still given option.FirstClick e = ap (λ b. b && not given.has_first_click) e
still given option.AvoidFocus e = ap (λ b. b && not given.has_avoid_focus) e
still given (option.Port n) e = ap (λ b. b && not given.has_port) e
still given (option.Color c) e = ap (λ b. b && not given.has_color) e

broken : (xs : List (Option WindowOption)) (given : Given) → given.is_formed ≡ false → told given xs ≡ Err Shape
broken [] given e = ap (λ b. cond b (cond given.is_in_range (Ok given.options) (Err Range)) (Err Shape)) e
broken (None ∷ xs) given e = broken xs (with_option given None) refl
broken (Some o ∷ xs) given e = broken xs (with_one given o) (still given o e)

abbrev ending : Bool → Bool → Options → Result Options Reason
ending formed ranged options = cond formed (cond ranged (Ok options) (Err Range)) (Err Shape)

same_ending : (formed ranged : Bool) (a b : Options) → (ranged ≡ true → a ≡ b) → ending formed ranged a ≡ ending formed ranged b
same_ending true true a b e = ap Ok (e refl)
same_ending true false a b e = refl
same_ending false ranged a b e = refl

all_of : (os : List WindowOption) (given : Given) → IsGiven os given → finished given ≡ options.once (Some os)
all_of os given k =
    ap (λ b. ending b given.is_in_range given.options) k.formed
    ∙ ap (λ b. ending (options.stand_once os) b given.options) k.ranged
    ∙ same_ending (options.stand_once os) (list_all options.is_in_range os) given.options (fold options.with_option options.no_options os) k.so_far

append-none : (os : List WindowOption) → os ≡ os ++ []
append-none [] = refl
append-none (o ∷ os) = ap (λ more. o ∷ more) (append-none os)

moved : (os : List WindowOption) (o : WindowOption) (more : Option (List WindowOption)) →
    option_map (λ rest. (os ++ o ∷ []) ++ rest) more ≡ option_map (λ rest. os ++ rest) (option_map (λ rest. o ∷ rest) more)
moved os o None = refl
moved os o (Some rest) = ap Some (append_assoc os (o ∷ []) rest)

behind_some : (xs : List (Option WindowOption)) (os : List WindowOption) (given : Given) → IsGiven os given →
    told given xs ≡ options.once (option_map (λ rest. os ++ rest) (all_there xs))
behind_some [] os given k = all_of os given k ∙ ap (λ all. options.once (Some all)) (append-none os)
behind_some (None ∷ xs) os given k = broken xs (with_option given None) refl
behind_some (Some o ∷ xs) os given k =
    behind_some xs (os ++ o ∷ []) (with_one given o) (step os given o k) ∙ ap options.once (moved os o (all_there xs))

all_same : (more : Option (List WindowOption)) → option_map (λ rest. [] ++ rest) more ≡ more
all_same None = refl
all_same (Some rest) = refl

-- one after the other they say what they say together
pub options_are_told : (xs : List (Option WindowOption)) → told no_option xs ≡ options.once (all_there xs)
options_are_told xs = behind_some xs [] no_option none_given ∙ ap options.once (all_same (all_there xs))
