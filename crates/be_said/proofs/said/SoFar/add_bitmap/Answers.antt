use Rattle.std.proofs.Common.{◌≡◌, ◌<◌, length, map, sym, ap, ◌∙◌, subst, arith}
use Rattle.be_facts.proofs.Lists.{map_length}
use Rattle.be_said.specs.Everywhere.{with_bitmap}
use Rattle.be_said.specs.Fits.{IsNew}
use Rattle.be_said.specs.Said.{seen_said}
use Rattle.be_said.specs.SoFar.{bitmap_names, nothing}
use Rattle.be_said.proofs.BitmapKept.{bitmap-ended, bitmap_name_fits}
use Rattle.be_said.proofs.GrownInside.{taken_whole}
use Rattle.be_said.proofs.said.SoFar.add_bitmap.Goals as goal

pub add_bitmap-requires : goal.add_bitmap-requires
add_bitmap-requires c =
    let room : length (seen_said c.self.inside).bitmaps < 64 = subst (λ s. length s.bitmaps < 64) (sym c.self.view_is) c.requires.room in
    let new : IsNew (bitmap_names (seen_said c.self.inside)) c.args.line.name = subst (λ s. IsNew (bitmap_names s) c.args.line.name) (sym c.self.view_is) c.requires.new in
    rw c.deref_mut.ensures.value (bitmap_name_fits (seen_said c.self.inside) _ _ c.self.invariant room new)

pub invariant_of-self : goal.invariant_of-self
invariant_of-self c =
    let free : (seen_said c.self.inside).begun ≡ nothing = subst (λ s. s.begun ≡ nothing) (sym c.self.view_is) c.requires.free in
    let room : length (seen_said c.self.inside).bitmaps < 64 = subst (λ s. length s.bitmaps < 64) (sym c.self.view_is) c.requires.room in
    let new : IsNew (bitmap_names (seen_said c.self.inside)) c.args.line.name = subst (λ s. IsNew (bitmap_names s) c.args.line.name) (sym c.self.view_is) c.requires.new in
    let made = c.in_ok-add_bitmap.ensures ∙ ap (map (with_bitmap c.args.line.name)) c.deref_mut.ensures.value in
    rw c.in_ok-push.ensures.items
    (taken_whole _ _ _ _ _ made (omega (arith, map_length (with_bitmap c.args.line.name) c.self.inside.inside.items, c.deref_mut.ensures.len, ap length c.deref_mut.ensures.value))
    (bitmap-ended _ _ c.args.line c.self.invariant free room new))
