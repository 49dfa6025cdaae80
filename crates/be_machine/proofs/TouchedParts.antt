-- What leaves all parts but some as they were, and what comes of one such step after another.
use Rattle.std.proofs.Common.{◌≡◌, ℕ, List, Option, Some, None, inl, inr, refl, sym, ap, ◌∙◌, Bool, true, false}
use Rattle.std.specs.Prelude.{slice_get, if◌then◌else◌}
use Rattle.std.specs.Option.{option_map_or}
use Rattle.be_link.specs.Queues.{Buffer, Numbered}
use Rattle.be_message.specs.Messages.{Message}
use Rattle.be_pane.specs.Panes.{Pane}
use Rattle.be_port.specs.Ports.{Port}
use Rattle.be_machine.specs.Lists.{at}
use Rattle.be_machine.specs.Pixels.{owner_in, pixel_at}
use Rattle.be_machine.specs.State.{State, App, Looper}
use Rattle.be_machine.specs.Touched.{Part, desk, input, cell, looper, port, link, pane, SamePixels, SamePart, IsOf}
use Rattle.be_machine.proofs.Lists.{at_elsewhere}

-- all parts are the same but those that are excepted
abbrev pub Alters : State → State → (Part → Type 0) → Type 0
Alters s r Excepted = (p : Part) → (Excepted p → ⊥) → SamePart s r p

-- ---- one after the other

same_pixels : (s r t : State) (u : ℕ) → SamePixels s r u → SamePixels r t u → SamePixels s t u
same_pixels s r t u h k x y (inl was) =
    let first : (owner_in r x y ≡ owner_in s x y) × (pixel_at r x y ≡ pixel_at s x y) = h x y (inl was) in
    let second : (owner_in t x y ≡ owner_in r x y) × (pixel_at t x y ≡ pixel_at r x y) = k x y (inl (first.0 ∙ was)) in
    (second.0 ∙ first.0, second.1 ∙ first.1)
same_pixels s r t u h k x y (inr now) =
    let second : (owner_in t x y ≡ owner_in r x y) × (pixel_at t x y ≡ pixel_at r x y) = k x y (inr now) in
    let first : (owner_in r x y ≡ owner_in s x y) × (pixel_at r x y ≡ pixel_at s x y) = h x y (inr (sym second.0 ∙ now)) in
    (second.0 ∙ first.0, second.1 ∙ first.1)

same_part : (s r t : State) (p : Part) → SamePart s r p → SamePart r t p → SamePart s t p
same_part s r t desk h k = k ∙ h
same_part s r t input h k = (k.0 ∙ h.0, k.1 ∙ h.1)
same_part s r t (cell m) h k = k ∙ h
same_part s r t (looper w) h k = (k.0 ∙ h.0, k.1 ∙ h.1)
same_part s r t (port w) h k = k ∙ h
same_part s r t (link w) h k = k ∙ h
same_part s r t (pane w) (panes, pixels, corner, tree) (panes', pixels', corner', tree') = (panes' ∙ panes, same_pixels s r t w pixels pixels', corner' ∙ corner, tree' ∙ tree)

pub both_alter : (s r t : State) (P Q R : Part → Type 0) → ((p : Part) → P p → R p) → ((p : Part) → Q p → R p) → Alters s r P → Alters r t Q → Alters s t R
both_alter s r t P Q R first second h k p other = same_part s r t p (h p (λ e. other (first p e))) (k p (λ e. other (second p e)))

pub wider : (s r : State) (P R : Part → Type 0) → ((p : Part) → P p → R p) → Alters s r P → Alters s r R
wider s r P R more h p other = h p (λ e. other (more p e))

-- ---- nothing

pub same_state : (s : State) (p : Part) → SamePart s s p
same_state s desk = refl
same_state s input = (refl, refl)
same_state s (cell m) = refl
same_state s (looper w) = (refl, refl)
same_state s (port w) = refl
same_state s (link w) = refl
same_state s (pane w) = (refl, λ x y o. (refl, refl), refl, refl)

pub none_alters : (s : State) (P : Part → Type 0) → Alters s s P
none_alters s P p other = same_state s p

pub found_alters : {X : Type 0} (s : State) (f : X → State) (o : Option X) (P : Part → Type 0) → ((x : X) → o ≡ Some x → Alters s (f x) P) → Alters s (option_map_or f o s) P
found_alters s f (Some x) P each = each x refl
found_alters s f None P each = none_alters s P

pub of_alters : (s : State) (f : ℕ → State) (o : Option ℕ) (part : ℕ → Part) → ((n : ℕ) → Alters s (f n) (λ p. p ≡ part n)) → Alters s (option_map_or f o s) (IsOf part o)
of_alters s f (Some n) part each = each n
of_alters s f None part each = none_alters s (IsOf part None)

pub tested_alters : (s : State) (b : Bool) (x y : State) (P : Part → Type 0) → Alters s x P → Alters s y P → Alters s (if b then x else y) P
tested_alters s true x y P h k = h
tested_alters s false x y P h k = k

-- ---- one list changes at one place

elsewhere : {X : Type 0} (xs : List X) (v w : ℕ) (f : X → X) (part : ℕ → Part) → (part w ≡ part v → ⊥) → slice_get (at xs v f) w ≡ slice_get xs w
elsewhere xs v w f part other = at_elsewhere xs v w f (λ e. other (ap part (sym e)))

pub ports_alter : (s : State) (v : ℕ) (f : Port Message → Port Message) → Alters s (record s { ports = at s.ports v f }) (λ p. p ≡ port v)
ports_alter s v f desk other = refl
ports_alter s v f input other = (refl, refl)
ports_alter s v f (cell m) other = refl
ports_alter s v f (looper w) other = (refl, refl)
ports_alter s v f (port w) other = elsewhere s.ports v w f port other
ports_alter s v f (link w) other = refl
ports_alter s v f (pane w) other = (refl, λ x y o. (refl, refl), refl, refl)

pub loopers_alter : (s : State) (v : ℕ) (f : Looper → Looper) → Alters s (record s { loopers = at s.loopers v f }) (λ p. p ≡ looper v)
loopers_alter s v f desk other = refl
loopers_alter s v f input other = (refl, refl)
loopers_alter s v f (cell m) other = refl
loopers_alter s v f (looper w) other = (elsewhere s.loopers v w f looper other, refl)
loopers_alter s v f (port w) other = refl
loopers_alter s v f (link w) other = refl
loopers_alter s v f (pane w) other = (refl, λ x y o. (refl, refl), refl, refl)

pub buffers_alter : (s : State) (v : ℕ) (f : Buffer → Buffer) → Alters s (record s { buffers = at s.buffers v f }) (λ p. p ≡ looper v)
buffers_alter s v f desk other = refl
buffers_alter s v f input other = (refl, refl)
buffers_alter s v f (cell m) other = refl
buffers_alter s v f (looper w) other = (refl, elsewhere s.buffers v w f looper other)
buffers_alter s v f (port w) other = refl
buffers_alter s v f (link w) other = refl
buffers_alter s v f (pane w) other = (refl, λ x y o. (refl, refl), refl, refl)

pub links_alter : (s : State) (v : ℕ) (f : List Numbered → List Numbered) → Alters s (record s { links = at s.links v f }) (λ p. p ≡ link v)
links_alter s v f desk other = refl
links_alter s v f input other = (refl, refl)
links_alter s v f (cell m) other = refl
links_alter s v f (looper w) other = (refl, refl)
links_alter s v f (port w) other = refl
links_alter s v f (link w) other = elsewhere s.links v w f link other
links_alter s v f (pane w) other = (refl, λ x y o. (refl, refl), refl, refl)

pub panes_alter : (s : State) (v : ℕ) (f : Pane → Pane) → Alters s (record s { panes = at s.panes v f }) (λ p. p ≡ pane v)
panes_alter s v f desk other = refl
panes_alter s v f input other = (refl, refl)
panes_alter s v f (cell m) other = refl
panes_alter s v f (looper w) other = (refl, refl)
panes_alter s v f (port w) other = refl
panes_alter s v f (link w) other = refl
panes_alter s v f (pane w) other = (elsewhere s.panes v w f pane other, λ x y o. (refl, refl), refl, refl)

pub apps_alter : (s : State) (v : ℕ) (f : App → App) → Alters s (record s { apps = at s.apps v f }) (λ p. p ≡ cell v)
apps_alter s v f desk other = refl
apps_alter s v f input other = (refl, refl)
apps_alter s v f (cell m) other = elsewhere s.apps v m f cell other
apps_alter s v f (looper w) other = (refl, refl)
apps_alter s v f (port w) other = refl
apps_alter s v f (link w) other = refl
apps_alter s v f (pane w) other = (refl, λ x y o. (refl, refl), refl, refl)
