-- What the code's reach says of a pixel is what the reach that it stands for says.
use Rattle.std.specs.Prelude.{option_map}
use Rattle.std.proofs.Common.{◌≡◌, ℕ, ℤ, List, Option, Some, None, refl, sym, ap, ◌∙◌}
use Rattle.std.proofs.lemmas.Option.{none-some, same_Some}
use Rattle.be_geom.specs.declared.point.Point.{Point}
use Rattle.be_geom.specs.declared.rect.Rect.{Rect}
use Rattle.be_geom.specs.Places.{at_pixel}
use Rattle.be_state.specs.Stacks.{Stack, clip_has}
use Rattle.be_views.specs.Trees.{Tree}
use Rattle.be_views.specs.Places.{pair_of}
use Rattle.be_paint.specs.Reach.{Reach, session_has}
use Rattle.be_region.specs.Sessions.{SameSession}
use Rattle.be_paint.specs.Seen.{IsSeenAs, IsSite}
use Rattle.be_paint.specs.declared.reach.Reach as given
use Rattle.be_paint.specs.declared.reach.Site.{Site}

pub session_same : (o : Option (List Rect)) (s : Option (List Point)) → SameSession o s
    → (x y : ℤ) → clip_has o x y ≡ session_has s (at_pixel x y)
session_same (Some rects) (Some pixels) h x y = h x y
session_same (Some rects) None h x y = absurd h
session_same None (Some pixels) h x y = absurd h
session_same None None h x y = refl

-- the part of a reach that is told by equations
seen_as : {A : Type 0} (F : Reach → A) (seen : Reach) (w p : Point) (t : Tree) (v : ℕ) (st : Stack) → seen.window ≡ w → seen.place ≡ p → seen.tree ≡ t → seen.view ≡ v → seen.stack ≡ st → F seen ≡ F record { window = w; place = p; tree = t; view = v; stack = st; session = seen.session }
seen_as F seen w p t v st hw hp ht hv hs =
    ap (λ (a : Point). F record { window = a; place = seen.place; tree = seen.tree; view = seen.view; stack = seen.stack; session = seen.session }) hw
    ∙ ap (λ (a : Point). F record { window = w; place = a; tree = seen.tree; view = seen.view; stack = seen.stack; session = seen.session }) hp
    ∙ ap (λ (a : Tree). F record { window = w; place = p; tree = a; view = seen.view; stack = seen.stack; session = seen.session }) ht
    ∙ ap (λ (a : ℕ). F record { window = w; place = p; tree = t; view = a; stack = seen.stack; session = seen.session }) hv
    ∙ ap (λ (a : Stack). F record { window = w; place = p; tree = t; view = v; stack = a; session = seen.session }) hs

-- what the code's reach stands for, where the view lies at a site
abbrev pub seen_on : given.Reach → Site → Option (List Point) → Reach
seen_on g site session = record { window = g.window; place = at_pixel site.view.right site.view.down; tree = g.tree.now; view = g.view; stack = g.states.now; session = session }

pub seen_at : {A : Type 0} (F : Reach → A) (g : given.Reach) (site : Site) (seen : Reach) → IsSeenAs g seen → IsSite g site → F seen ≡ F (seen_on g site seen.session)
seen_at F g site seen h is =
    seen_as F seen g.window (at_pixel site.view.right site.view.down) g.tree.now g.view g.states.now h.window (same_Some seen.place (at_pixel site.view.right site.view.down) (sym h.place ∙ is.place)) h.tree h.view h.stack

-- a place as a pair
pub place_seen : (x y : ℤ) (o : Option Point) (p : Point) → Some (x, y) ≡ option_map pair_of o → o ≡ Some p → p ≡ at_pixel x y
place_seen x y None p e f = absurd (none-some p f)
place_seen x y (Some q) p e f =
    let same : (x, y) ≡ pair_of q = same_Some (x, y) (pair_of q) e in
    sym (same_Some q p f) ∙ sym (ap (λ (r : ℤ × ℤ). at_pixel r.0 r.1) same)

pub place_is : (x y : ℤ) (o : Option Point) → Some (x, y) ≡ option_map pair_of o → o ≡ Some (at_pixel x y)
place_is x y None e = absurd (none-some (x, y) (sym e))
place_is x y (Some q) e =
    let same : (x, y) ≡ pair_of q = same_Some (x, y) (pair_of q) e in
    ap Some (sym (ap (λ (r : ℤ × ℤ). at_pixel r.0 r.1) same))
