use Rattle.std.proofs.Common.{◌≡◌, ℕ, ◌≤◌, false, List, Some, None, length, codes, ap, sym, refl, ◌∙◌}
use Rattle.std.proofs.lemmas.Bool.{ltb-false}
use Rattle.std.proofs.lemmas.Option.{slice_get_past, slice_get_read}
use Rattle.std.specs.Prelude.{slice_get}
use Rattle.std.specs.Str.{bytes_eq}
use Rattle.be_command.specs.Names.{number_in}
use Rattle.be_said.specs.declared.inside.Inside.{Inside}
use Rattle.be_said.specs.Said.{seen_said}
use Rattle.be_said.specs.SoFar.{SoFar, view_names}
use Rattle.be_said.proofs.InsideLemmas.{alone, views_absent, views_there}
use Rattle.be_said.proofs.said.SoFar.view_named.Goals as goal

pub returns-in-Some : goal.returns-in-Some
returns-in-Some c =
    let inside = c.in-Some.inside.now in
    let w = c.from.result in
    let read = c.in-Some.ensures.lookup in
    let there : slice_get c.self.inside.inside.items w ≡ Some inside =
    ap (λ (insides : List Inside). slice_get insides w) (sym c.deref.ensures.value)
    ∙ slice_get_read c.deref.result.now (length c.deref.result.now) w inside refl read.3.0 read.1 in
    let window : Some w ≡ c.args.window = ap Some c.from.ensures ∙ sym c.in_ok-window.was in
    c.view.ensures
    ∙ ap (λ (names : List (List ℕ)). number_in names c.args.word.now)
    (views_there (seen_said c.self.inside) c.self.inside.inside.items w inside c.self.invariant there
    ∙ ap (λ (said : SoFar). view_names said (Some w)) c.self.view_is
    ∙ ap (view_names c.args.self.now) window)

pub returns-in-None-2 : goal.returns-in-None-2
returns-in-None-2 c =
    let w = c.from.result in
    let past : length c.deref.result.now ≤ w = ltb-false _ _ (sym c.in-None-2.ensures.lookup.0) in
    let absent : slice_get c.self.inside.inside.items w ≡ None =
    ap (λ (insides : List Inside). slice_get insides w) (sym c.deref.ensures.value) ∙ slice_get_past c.deref.result.now w past in
    let window : Some w ≡ c.args.window = ap Some c.from.ensures ∙ sym c.in_ok-window.was in
    let other : bytes_eq c.args.word.now (codes "root") ≡ false = ap (bytes_eq c.args.word.now) (sym c.as_slice.ensures) ∙ sym c.if-eq.ensures in
    sym (alone (codes "root") c.args.word.now other)
    ∙ ap (λ (names : List (List ℕ)). number_in names c.args.word.now)
    (sym (views_absent (seen_said c.self.inside) c.self.inside.inside.items w c.self.invariant absent)
    ∙ ap (λ (said : SoFar). view_names said (Some w)) c.self.view_is
    ∙ ap (view_names c.args.self.now) window)
