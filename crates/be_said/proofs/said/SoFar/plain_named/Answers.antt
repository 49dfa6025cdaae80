use Rattle.std.proofs.Common.{◌≡◌, ◌≤◌, ℕ, List, Some, length, ap, sym, refl, subst, ◌∙◌}
use Rattle.std.proofs.lemmas.Option.{slice_get_read}
use Rattle.std.specs.Prelude.{slice_get}
use Rattle.be_command.specs.Names.{number_in}
use Rattle.be_said.specs.declared.inside.Inside.{Inside}
use Rattle.be_said.specs.SoFar.{SoFar, plain_names}
use Rattle.be_said.specs.Said.{seen_said}
use Rattle.be_said.proofs.InsideLemmas.{few_there, plain_there}
use Rattle.be_said.proofs.said.SoFar.plain_named.Goals as goal

pub number_of_name-requires : goal.number_of_name-requires
number_of_name-requires c =
    let inside = c.in_ok-inside.inside.now in
    let w = c.from.result in
    let read = c.in_ok-inside.ensures.lookup in
    let there : slice_get c.self.inside.inside.items w ≡ Some inside =
    ap (λ (insides : List Inside). slice_get insides w) (sym c.deref.ensures.value) ∙ slice_get_read c.deref.result.now (length c.deref.result.now) w inside refl read.3.0 read.1 in
    let few : length inside.plain.items ≤ 16 = few_there (seen_said c.self.inside) c.self.inside.inside.items w inside c.self.invariant there in
    let P : ℕ → Type 0 = λ n. n ≤ 16 in
    subst P (sym (ap length c.deref-2.ensures.value)) few

pub returns : goal.returns
returns c =
    let inside = c.in_ok-inside.inside.now in
    let w = c.from.result in
    let read = c.in_ok-inside.ensures.lookup in
    let there : slice_get c.self.inside.inside.items w ≡ Some inside =
    ap (λ (insides : List Inside). slice_get insides w) (sym c.deref.ensures.value) ∙ slice_get_read c.deref.result.now (length c.deref.result.now) w inside refl read.3.0 read.1 in
    let window : Some w ≡ c.args.window = ap Some c.from.ensures ∙ sym c.in_ok-window.was in
    c.number_of_name.ensures
    ∙ ap (λ (names : List (List ℕ)). number_in names c.args.word.now)
    (c.deref-2.ensures.value
    ∙ plain_there (seen_said c.self.inside) c.self.inside.inside.items w inside c.self.invariant there
    ∙ ap (λ (said : SoFar). plain_names said (Some w)) c.self.view_is
    ∙ ap (plain_names c.args.self.now) window)
