use Rattle.std.proofs.Common.{◌+◌, ℕ, Bool, List, length, map, flat_map, cond, codes, Some, None, ap, sym, ◌∙◌, arith}
use Rattle.std.specs.Str.{bytes_eq}
use Rattle.be_command.specs.Names.{number_in}
use Rattle.be_script.specs.Script.{declared_by}
use Rattle.be_script.specs.declared.AppLine.{AppLine}
use Rattle.be_script.specs.declared.WindowLine.{WindowLine}
use Rattle.be_written.specs.Names.{app_actor, window_actors}
use Rattle.be_written.proofs.ActorNames.{length_windows}
use Rattle.be_report.proofs.FoundActors.{last_place, app_found, window_found, last_found}
use Rattle.be_report.proofs.NameWords.{number_alone}
use Rattle.be_report.proofs.naming.actor_named.Goals as goal

pub returns-in-Some : goal.returns-in-Some
returns-in-Some c =
    let found = sym c.in-Some.is ∙ c.app_acting.ensures ∙ ap (λ (lines : List AppLine). number_in (map (λ line. app_actor line.name) lines) c.args.word.now) c.deref.ensures.value in
    app_found (declared_by c.args.script.now) c.args.word.now c.in-Some.app found

pub overflow_add-result : goal.overflow_add-result
overflow_add-result c =
    let windows = c.args.script.now.windows.items in
    let found = sym (sym c.in-Some-window_acting.is ∙ c.window_acting.ensures ∙ ap (λ (lines : List WindowLine). number_in (flat_map window_actors lines) c.args.word.now) c.deref-2.ensures.value) in
    let below = (number_alone (flat_map window_actors windows) c.args.word.now c.in-Some-window_acting.place found).0 in
    let count = length_windows windows in
    let apps = c.len-apps.ensures in
    let few = c.requires.windows in
    let fewer = c.requires.apps in
    omega arith

pub returns-in-Some-window_acting : goal.returns-in-Some-window_acting
returns-in-Some-window_acting c =
    let none = sym c.in_default.is ∙ c.app_acting.ensures ∙ ap (λ (lines : List AppLine). number_in (map (λ line. app_actor line.name) lines) c.args.word.now) c.deref.ensures.value in
    let found = sym c.in-Some-window_acting.is ∙ c.window_acting.ensures ∙ ap (λ (lines : List WindowLine). number_in (flat_map window_actors lines) c.args.word.now) c.deref-2.ensures.value in
    let apps = c.len-apps.ensures ∙ sym c.deref.ensures.len ∙ ap length c.deref.ensures.value in
    window_found (declared_by c.args.script.now) c.args.word.now c.in-Some-window_acting.place (c.len-apps.result + c.in-Some-window_acting.place) none found (ap (λ (n : ℕ). n + c.in-Some-window_acting.place) apps)

pub returns-then-eq : goal.returns-then-eq
returns-then-eq c =
    let d = declared_by c.args.script.now in
    let word = c.args.word.now in
    let apps = c.len-apps.ensures ∙ sym c.deref.ensures.len ∙ ap length c.deref.ensures.value in
    let windows = c.len.ensures ∙ sym c.deref-2.ensures.len ∙ ap length c.deref-2.ensures.value in
    let no_app = sym c.in_default.is ∙ c.app_acting.ensures ∙ ap (λ (lines : List AppLine). number_in (map (λ line. app_actor line.name) lines) word) c.deref.ensures.value in
    let no_window = sym c.in_default-window_acting.is ∙ c.window_acting.ensures ∙ ap (λ (lines : List WindowLine). number_in (flat_map window_actors lines) word) c.deref-2.ensures.value in
    let input = ap (λ (name : List ℕ). bytes_eq name word) (sym c.as_slice.ensures) ∙ sym c.eq.ensures ∙ c.if-eq.true in
    let there = last_found d word no_app no_window
    ∙ ap (λ (b : Bool). cond b (Some (last_place d)) (cond (bytes_eq (codes "stop") word) (Some (last_place d + 1)) None)) input in
    ap Some (omega arith) ∙ sym there

pub returns-then-eq-2 : goal.returns-then-eq-2
returns-then-eq-2 c =
    let d = declared_by c.args.script.now in
    let word = c.args.word.now in
    let apps = c.len-apps.ensures ∙ sym c.deref.ensures.len ∙ ap length c.deref.ensures.value in
    let windows = c.len.ensures ∙ sym c.deref-2.ensures.len ∙ ap length c.deref-2.ensures.value in
    let no_app = sym c.in_default.is ∙ c.app_acting.ensures ∙ ap (λ (lines : List AppLine). number_in (map (λ line. app_actor line.name) lines) word) c.deref.ensures.value in
    let no_window = sym c.in_default-window_acting.is ∙ c.window_acting.ensures ∙ ap (λ (lines : List WindowLine). number_in (flat_map window_actors lines) word) c.deref-2.ensures.value in
    let input = ap (λ (name : List ℕ). bytes_eq name word) (sym c.as_slice.ensures) ∙ sym c.eq.ensures ∙ c.if-eq.false in
    let stop = ap (λ (name : List ℕ). bytes_eq name word) (sym c.as_slice-else-eq.ensures) ∙ sym c.eq-else-eq.ensures ∙ c.if-eq-2.true in
    let there = last_found d word no_app no_window
    ∙ ap (λ (b : Bool). cond b (Some (last_place d)) (cond (bytes_eq (codes "stop") word) (Some (last_place d + 1)) None)) input
    ∙ ap (λ (b : Bool). cond b (Some (last_place d + 1)) None) stop in
    ap Some (omega arith) ∙ sym there

pub returns-else-eq-2 : goal.returns-else-eq-2
returns-else-eq-2 c =
    let d = declared_by c.args.script.now in
    let word = c.args.word.now in
    let no_app = sym c.in_default.is ∙ c.app_acting.ensures ∙ ap (λ (lines : List AppLine). number_in (map (λ line. app_actor line.name) lines) word) c.deref.ensures.value in
    let no_window = sym c.in_default-window_acting.is ∙ c.window_acting.ensures ∙ ap (λ (lines : List WindowLine). number_in (flat_map window_actors lines) word) c.deref-2.ensures.value in
    let input = ap (λ (name : List ℕ). bytes_eq name word) (sym c.as_slice.ensures) ∙ sym c.eq.ensures ∙ c.if-eq.false in
    let stop = ap (λ (name : List ℕ). bytes_eq name word) (sym c.as_slice-else-eq.ensures) ∙ sym c.eq-else-eq.ensures ∙ c.if-eq-2.false in
    let there = last_found d word no_app no_window
    ∙ ap (λ (b : Bool). cond b (Some (last_place d)) (cond (bytes_eq (codes "stop") word) (Some (last_place d + 1)) None)) input
    ∙ ap (λ (b : Bool). cond b (Some (last_place d + 1)) None) stop in
    sym there
