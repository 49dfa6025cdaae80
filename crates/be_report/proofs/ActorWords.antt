-- The names of activities: no two are the same, and there is one for each.
use Rattle.std.proofs.Common.{◌≡◌, ℕ, true, not, ◌&&◌, List, [], ◌∷◌, ◌++◌, length, map, flat_map, refl, arith, length-append}
use Rattle.std.specs.List.{list_all}
use Rattle.std.specs.Str.{bytes_eq}
use Rattle.std.proofs.lemmas.Bool.{and_parts, and_from}
use Rattle.std.proofs.lemmas.List.{length-map}
use Rattle.be_script.specs.Limits.{IsWithinLimits}
use Rattle.be_script.specs.Names.{are_names, are_different, is_declared_name}
use Rattle.be_script.specs.Script.{Declared}
use Rattle.be_script.specs.declared.AppLine.{AppLine}
use Rattle.be_script.specs.declared.WindowLine.{WindowLine}
use Rattle.be_machine.specs.Activities.{activities}
use Rattle.be_written.specs.Names.{window_names, app_names, app_actor, looper_actor, twin_actor, window_actors, last_actors, actor_names}
use Rattle.be_written.proofs.ActorNames.{names_of, length_windows}
use Rattle.be_report.proofs.NameWords.{differs, apart, apart-append, different-append}

-- ---- how many

pub length-actor_names : (d : Declared) → length (actor_names d) ≡ activities d
unfolding actor_names
length-actor_names d =
    let all = length-append (map app_actor (app_names d) ++ flat_map window_actors d.windows) last_actors in
    let some = length-append (map app_actor (app_names d)) (flat_map window_actors d.windows) in
    let actors = length-map (app_names d) app_actor in
    let apps = length-map d.apps (λ (line : AppLine). line.name) in
    let windows = length_windows d.windows in
    omega arith

pub length-window_names : (d : Declared) → length (window_names d) ≡ length d.windows
length-window_names d = length-map d.windows (λ (line : WindowLine). line.name)

-- ---- applications

differs_app : (name : List ℕ) (names : List (List ℕ)) → differs name names ≡ true → differs (app_actor name) (map app_actor names) ≡ true
differs_app name [] h = refl
differs_app name (other ∷ names) h =
    let parts = and_parts (not (bytes_eq name other)) (differs name names) h in
    and_from (not (bytes_eq (app_actor name) (app_actor other))) (differs (app_actor name) (map app_actor names)) parts.0 (differs_app name names parts.1)

different_apps : (names : List (List ℕ)) → are_different names ≡ true → are_different (map app_actor names) ≡ true
different_apps [] h = refl
different_apps (name ∷ names) h =
    let parts = and_parts (differs name names) (are_different names) h in
    and_from (differs (app_actor name) (map app_actor names)) (are_different (map app_actor names)) (differs_app name names parts.0) (different_apps names parts.1)

-- ---- windows

differs_looper : (name : List ℕ) (lines : List WindowLine) → differs name (names_of lines) ≡ true → differs (looper_actor name) (flat_map window_actors lines) ≡ true
differs_looper name [] h = refl
differs_looper name (line ∷ lines) h =
    let parts = and_parts (not (bytes_eq name line.name)) (differs name (names_of lines)) h in
    and_from (not (bytes_eq (looper_actor name) (looper_actor line.name))) (differs (looper_actor name) (flat_map window_actors lines)) parts.0 (differs_looper name lines parts.1)

differs_twin : (name : List ℕ) (lines : List WindowLine) → differs name (names_of lines) ≡ true → differs (twin_actor name) (flat_map window_actors lines) ≡ true
differs_twin name [] h = refl
differs_twin name (line ∷ lines) h =
    let parts = and_parts (not (bytes_eq name line.name)) (differs name (names_of lines)) h in
    and_from (not (bytes_eq (twin_actor name) (twin_actor line.name))) (differs (twin_actor name) (flat_map window_actors lines)) parts.0 (differs_twin name lines parts.1)

different_windows : (lines : List WindowLine) → are_different (names_of lines) ≡ true → are_different (flat_map window_actors lines) ≡ true
different_windows [] h = refl
different_windows (line ∷ lines) h =
    let parts = and_parts (differs line.name (names_of lines)) (are_different (names_of lines)) h in
    let rest = flat_map window_actors lines in
    and_from (differs (looper_actor line.name) rest) (differs (twin_actor line.name) rest && are_different rest) (differs_looper line.name lines parts.0)
    (and_from (differs (twin_actor line.name) rest) (are_different rest) (differs_twin line.name lines parts.0) (different_windows lines parts.1))

-- ---- all of them

app_windows : (name : List ℕ) (lines : List WindowLine) → differs (app_actor name) (flat_map window_actors lines) ≡ true
app_windows name [] = refl
app_windows name (line ∷ lines) = app_windows name lines

apps_windows : (names : List (List ℕ)) (lines : List WindowLine) → apart (map app_actor names) (flat_map window_actors lines) ≡ true
apps_windows [] lines = refl
apps_windows (name ∷ names) lines =
    and_from (differs (app_actor name) (flat_map window_actors lines)) (apart (map app_actor names) (flat_map window_actors lines)) (app_windows name lines) (apps_windows names lines)

apps_last : (names : List (List ℕ)) → apart (map app_actor names) last_actors ≡ true
apps_last [] = refl
apps_last (name ∷ names) = apps_last names

windows_last : (lines : List WindowLine) → apart (flat_map window_actors lines) last_actors ≡ true
windows_last [] = refl
windows_last (line ∷ lines) = windows_last lines

different_all : (names : List (List ℕ)) (lines : List WindowLine) → are_different names ≡ true → are_different (names_of lines) ≡ true → are_different (map app_actor names ++ flat_map window_actors lines ++ last_actors) ≡ true
different_all names lines h k =
    let apps = map app_actor names in
    let windows = flat_map window_actors lines in
    different-append (apps ++ windows) last_actors (different-append apps windows (different_apps names h) (different_windows lines k) (apps_windows names lines)) refl
    (apart-append apps windows last_actors (apps_last names) (windows_last lines))

names_differ : (names : List (List ℕ)) → are_names names ≡ true → are_different names ≡ true
unfolding are_names
names_differ names h = (and_parts (list_all is_declared_name names) (are_different names) h).1

pub different-window_names : (d : Declared) → IsWithinLimits d → are_different (window_names d) ≡ true
different-window_names d limits = names_differ (window_names d) limits.names

pub different-actor_names : (d : Declared) → IsWithinLimits d → are_different (actor_names d) ≡ true
unfolding actor_names
different-actor_names d limits = different_all (app_names d) d.windows (names_differ (app_names d) limits.app_names) (names_differ (window_names d) limits.names)
