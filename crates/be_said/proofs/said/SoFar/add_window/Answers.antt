use Rattle.std.proofs.Common.{◌<◌, ◌++◌, ◌∷◌, [], length, map, sym, ap, ◌∙◌, subst, arith}
use Rattle.be_facts.proofs.Lists.{map_length}
use Rattle.be_said.specs.Everywhere.{with_window}
use Rattle.be_said.specs.Fits.{Fits}
use Rattle.be_said.specs.Deeds.{adds_window}
use Rattle.be_said.specs.Inside.{IsOpened}
use Rattle.be_said.specs.Said.{seen_said}
use Rattle.be_said.specs.SoFar.{bitmap_names, window_names}
use Rattle.be_said.proofs.OpeningLemmas.{taken_and_more, window-done, window-kept, window-many, window_name_fits}
use Rattle.be_said.proofs.said.SoFar.add_window.Goals as goal

pub returns-then-len-ge-WINDOWS : goal.returns-then-len-ge-WINDOWS
returns-then-len-ge-WINDOWS c = rw (← c.self.view_is) (window-many _ c.args.line (omega arith))

pub add_window-requires : goal.add_window-requires
add_window-requires c =
    let fits : Fits (seen_said c.self.inside) (adds_window c.args.line) = subst (λ s. Fits s (adds_window c.args.line)) (sym c.self.view_is) c.requires in
    let few : length c.self.inside.windows.items < 32 = omega arith in
    rw c.deref_mut.ensures.value (window_name_fits (seen_said c.self.inside) _ _ c.self.invariant few fits.1)

pub invariant_of-self : goal.invariant_of-self
invariant_of-self c =
    let fits : Fits (seen_said c.self.inside) (adds_window c.args.line) = subst (λ s. Fits s (adds_window c.args.line)) (sym c.self.view_is) c.requires in
    let few : length c.self.inside.windows.items < 32 = omega arith in
    let made = c.in_ok-add_window.ensures ∙ ap (map (with_window c.args.line.name)) c.deref_mut.ensures.value in
    let opened : IsOpened (window_names (seen_said c.self.inside) ++ c.args.line.name ∷ []) (bitmap_names (seen_said c.self.inside)) c.in_ok-inside.inside =
    subst (λ ws. IsOpened (map (λ line. line.name) ws ++ c.args.line.name ∷ []) (bitmap_names (seen_said c.self.inside)) c.in_ok-inside.inside) c.deref.ensures.value
    (subst (λ bs. IsOpened (map (λ line. line.name) c.deref.result.now ++ c.args.line.name ∷ []) (map (λ line. line.name) bs) c.in_ok-inside.inside) c.deref-2.ensures.value
    c.in_ok-inside.ensures.opened) in
    rw (c.in_ok-push.ensures.items, c.in_ok-push-2.ensures.items)
    (taken_and_more _ _ _ _ _ _ made
    (omega (arith, map_length (with_window c.args.line.name) c.self.inside.inside.items, c.deref_mut.ensures.len, ap length c.deref_mut.ensures.value))
    (window-kept _ _ c.args.line _ c.self.invariant fits.0 few fits.1 opened))

pub returns : goal.returns
returns c =
    let few : length c.self.inside.windows.items < 32 = omega arith in
    rw (← c.self.view_is, c.in_ok-push-2.ensures.items) (window-done _ c.args.line few)
