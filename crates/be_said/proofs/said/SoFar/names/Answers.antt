use Rattle.std.proofs.Common.{◌≡◌, Some, length, ap, sym, refl, ◌∙◌}
use Rattle.std.proofs.lemmas.Option.{slice_get_read}
use Rattle.std.specs.Prelude.{slice_get}
use Rattle.be_said.specs.Said.{seen_said}
use Rattle.be_said.specs.SoFar.{SoFar, known_in, window_of}
use Rattle.be_said.proofs.InsideLemmas.{known_there}
use Rattle.be_said.proofs.said.SoFar.names.Goals as goal

pub returns-clause-names : goal.returns-clause-names
returns-clause-names c =
    let insides = c.self.inside.inside.items in
    let said = seen_said c.self.inside in
    let w = c.from.result in
    let inside = c.index.result.now in
    let window : window_of said.begun ≡ Some w = sym c.in_ok-window.ensures ∙ ap Some (sym c.from.ensures) in
    let there : slice_get insides w ≡ Some inside = slice_get_read insides (length insides) w inside refl (c.self.invariant.begun_there w window) c.index.ensures in
    known_there said insides w inside c.self.invariant there
    ∙ ap (known_in said) (sym window)
    ∙ ap (λ (s : SoFar). known_in s (window_of s.begun)) c.self.view_is
