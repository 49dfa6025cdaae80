use Rattle.std.proofs.Common.{◌≡◌, ◌<◌, ◌≤◌, length, refl, sym, ap, ◌∙◌, arith}
use Rattle.std.proofs.lemmas.Bool.Decides.{nat_tests}
use Rattle.std.proofs.lemmas.List.{length-reverse}
use Rattle.std.proofs.lemmas.Option.{same_Some, slice_get_read}
use Rattle.be_state.proofs.StackLemmas.{saved_layer, top_layer, viewed}
use Rattle.be_state.proofs.stack.StateStack.clip.Goals as goal

pub returns-in-Some-clause-clip : goal.returns-in-Some-clause-clip
returns-in-Some-clause-clip c layer is =
    let items = c.deref.result.now in
    let view = viewed c.args.self.now c.self.inside.top items c.self.inside.saved.items c.deref.ensures.value c.self.view_is in
    let test = c.in-Some.ensures.lookup.0 in
    let less : c.args.state < length items = grind (arith, nat_tests) in
    let found = slice_get_read items (length items) c.args.state c.in-Some.layer.now refl less c.in-Some.ensures.lookup.1 in
    ap (λ l. l.clip) (same_Some layer c.in-Some.layer.now (sym is ∙ saved_layer c.args.self.now c.self.inside.top items c.args.state view less ∙ found))
    ∙ c.clip.ensures.clip

pub returns-in-None-clause-clip : goal.returns-in-None-clause-clip
returns-in-None-clause-clip c layer is =
    let items = c.deref.result.now in
    let view = viewed c.args.self.now c.self.inside.top items c.self.inside.saved.items c.deref.ensures.value c.self.view_is in
    let test = c.in-None.ensures.lookup in
    let past : length items ≤ c.args.state = grind (arith, nat_tests) in
    let long : length c.args.self.now.saved ≡ length items = ap (λ s. length s.saved) (sym view) ∙ length-reverse items in
    let few = c.requires in
    let last : c.args.state ≡ length items = omega (arith, past, long, few) in
    ap (λ l. l.clip) (same_Some layer c.self.inside.top (sym is ∙ top_layer c.args.self.now c.self.inside.top items c.args.state view last))
    ∙ c.clip-in-None.ensures.clip
