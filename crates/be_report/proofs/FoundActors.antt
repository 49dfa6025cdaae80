-- The name of an activity is looked for among those of applications, then of windows, then of the last two.
use Rattle.std.proofs.Common.{◌≡◌, ℕ, ◌+◌, ◌*◌, ◌<◌, false, cond, List, [], ◌∷◌, ◌++◌, length, get_or, drop, map, flat_map, Option, Some, None, option_map, codes, refl, sym, ap, ◌∙◌, arith, length-append}
use Rattle.std.specs.Str.{bytes_eq}
use Rattle.std.proofs.lemmas.List.{length-map, drop_more}
use Rattle.be_command.specs.Names.{number_in}
use Rattle.be_script.specs.Script.{Declared}
use Rattle.be_script.specs.declared.AppLine.{AppLine}
use Rattle.be_script.specs.declared.WindowLine.{WindowLine}
use Rattle.be_written.specs.Names.{app_actor, looper_actor, twin_actor, window_actors, last_actors, actor_names}
use Rattle.be_written.proofs.ActorNames.{length_windows}
use Rattle.be_report.proofs.CodeLemmas.{place_from, or_behind, place_from-append, place_from-shift, window_passed}

apps_mapped : (lines : List AppLine) → map app_actor (map (λ line. line.name) lines) ≡ map (λ line. app_actor line.name) lines
apps_mapped [] = refl
apps_mapped (line ∷ lines) = ap (λ (names : List (List ℕ)). app_actor line.name ∷ names) (apps_mapped lines)

abbrev apps_of : Declared → List (List ℕ)
apps_of d = map (λ line. app_actor line.name) d.apps

abbrev windows_of : Declared → List (List ℕ)
windows_of d = flat_map window_actors d.windows

-- where the last two stand
abbrev pub last_place : Declared → ℕ
last_place d = length d.apps + 2 * length d.windows

split_names : (word : List ℕ) (apps windows : List (List ℕ)) (m n : ℕ) → length apps ≡ m → length windows ≡ n
    → number_in (apps ++ windows ++ last_actors) word ≡ or_behind (or_behind (number_in apps word) (option_map (λ k. k + m) (number_in windows word))) (place_from word (m + n) last_actors)
split_names word apps windows m n first second =
    let both = length-append apps windows in
    place_from-append word 0 (apps ++ windows) last_actors
    ∙ ap (λ (o : Option ℕ). or_behind o (place_from word (0 + length (apps ++ windows)) last_actors)) (place_from-append word 0 apps windows ∙ ap (or_behind (place_from word 0 apps)) (place_from-shift word 0 (length apps) windows))
    ∙ ap (λ (k : ℕ). or_behind (or_behind (number_in apps word) (option_map (λ i. i + k) (number_in windows word))) (place_from word (0 + length (apps ++ windows)) last_actors)) first
    ∙ ap (λ (k : ℕ). or_behind (or_behind (number_in apps word) (option_map (λ i. i + m) (number_in windows word))) (place_from word k last_actors)) (omega arith)

actors_split : (d : Declared) (word : List ℕ) → number_in (actor_names d) word ≡ or_behind (or_behind (number_in (apps_of d) word) (option_map (λ k. k + length d.apps) (number_in (windows_of d) word))) (place_from word (last_place d) last_actors)
unfolding actor_names
actors_split d word =
    ap (λ (apps : List (List ℕ)). number_in (apps ++ windows_of d ++ last_actors) word) (apps_mapped d.apps)
    ∙ split_names word (apps_of d) (windows_of d) (length d.apps) (2 * length d.windows) (length-map d.apps (λ (line : AppLine). app_actor line.name)) (length_windows d.windows)

-- an application's
pub app_found : (d : Declared) (word : List ℕ) (n : ℕ) → Some n ≡ number_in (apps_of d) word → Some n ≡ number_in (actor_names d) word
app_found d word n e =
    ap (λ (o : Option ℕ). or_behind (or_behind o (option_map (λ k. k + length d.apps) (number_in (windows_of d) word))) (place_from word (last_place d) last_actors)) e ∙ sym (actors_split d word)

-- a window's
pub window_found : (d : Declared) (word : List ℕ) (n m : ℕ) → None ≡ number_in (apps_of d) word → Some n ≡ number_in (windows_of d) word → m ≡ length d.apps + n → Some m ≡ number_in (actor_names d) word
window_found d word n m none e same =
    ap Some (omega arith)
    ∙ ap (λ (o : Option ℕ). or_behind (or_behind (let none : Option ℕ = None in none) (option_map (λ k. k + length d.apps) o)) (place_from word (last_place d) last_actors)) e
    ∙ ap (λ (o : Option ℕ). or_behind (or_behind o (option_map (λ k. k + length d.apps) (number_in (windows_of d) word))) (place_from word (last_place d) last_actors)) none
    ∙ sym (actors_split d word)

-- one of the last two, or none
pub last_found : (d : Declared) (word : List ℕ) → None ≡ number_in (apps_of d) word → None ≡ number_in (windows_of d) word
    → number_in (actor_names d) word ≡ cond (bytes_eq (codes "input") word) (Some (last_place d)) (cond (bytes_eq (codes "stop") word) (Some (last_place d + 1)) None)
last_found d word apps windows =
    actors_split d word
    ∙ ap (λ (o : Option ℕ). or_behind (or_behind o (option_map (λ k. k + length d.apps) (number_in (windows_of d) word))) (place_from word (last_place d) last_actors)) (sym apps)
    ∙ ap (λ (o : Option ℕ). or_behind (or_behind (let none : Option ℕ = None in none) (option_map (λ k. k + length d.apps) o)) (place_from word (last_place d) last_actors)) (sym windows)

-- a window that has another name
pub window_over : (word : List ℕ) (lines : List WindowLine) (k : ℕ) (line : WindowLine) → k < length lines → line ≡ get_or lines k line
    → bytes_eq (looper_actor line.name) word ≡ false → bytes_eq (twin_actor line.name) word ≡ false
    → place_from word (2 * k) (flat_map window_actors (drop k lines)) ≡ place_from word (2 * (k + 1)) (flat_map window_actors (drop (k + 1) lines))
window_over word lines k line within is first second =
    ap (λ (ls : List WindowLine). place_from word (2 * k) (flat_map window_actors ls)) (drop_more lines k line within ∙ ap (λ (l : WindowLine). l ∷ drop (k + 1) lines) (sym is))
    ∙ window_passed word (looper_actor line.name) (twin_actor line.name) (flat_map window_actors (drop (k + 1) lines)) k first second
