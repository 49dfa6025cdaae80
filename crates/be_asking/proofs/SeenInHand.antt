-- What a part in hand tells of locks, of who waits, and of the command that comes next.
use Rattle.std.proofs.Common.{◌≡◌, ℕ, Bool, true, false, List, [], ◌∷◌, Option, Some, None, refl, sym, ap, ◌∙◌, subst}
use Rattle.std.specs.Prelude.{◌==◌, slice_get, if◌then◌else◌}
use Rattle.std.proofs.lemmas.Option.{same_Some}
use Rattle.be_facts.proofs.Numbers.{eq_self}
use Rattle.be_desk.specs.Changes.{Desk}
use Rattle.be_hall.specs.Hands.{meant, part_at}
use Rattle.be_hall.specs.Machine.{Fits}
use Rattle.be_link.specs.Queues.{Numbered}
use Rattle.be_script.specs.Script.{Declared}
use Rattle.be_machine.specs.State.{App, Looper, State}
use Rattle.be_machine.specs.Touched as part
use Rattle.be_parts.specs.Parts.{meaning_of}
use Rattle.be_parts.specs.declared.part.Part.{Part}
use Rattle.be_rules.specs.Places.{IsPart, place_of}
use Rattle.be_rules.specs.Rules.{IsSound}
use Rattle.be_rules.specs.Slices.{Slice, slice_of, slices, app_in, desk_in, looper_in, link_in}
use Rattle.be_rules.specs.Sure.{app_of, find_in, link_of, looper_of, or_later}
use Rattle.be_rules.proofs.InHand.{app_there, found_in, link_there, looper_there}
use Rattle.be_rules.proofs.Lawfully.{state}
use Rattle.be_asking.proofs.InHand.{desk_read, slice_read}

module _ {Y : Type 0} (f : Slice → Option Y) where
  first_or_later : (o rest : Option Y) → ((y : Y) × (rest ≡ Some y)) → (y : Y) × (or_later o rest ≡ Some y)
  first_or_later (Some y) rest h = (y, refl)
  first_or_later None rest h = h

  here_first : (o rest : Option Y) (y : Y) → o ≡ Some y → (z : Y) × (or_later o rest ≡ Some z)
  here_first (Some x) rest y e = (x, refl)
  here_first None rest y e = absurd (cc)

  by_test : (b : Bool) (x part : Part) (rest : Option Part) (found : Option Y) (y : Y) → (if b then Some x else rest) ≡ Some part → f (meaning_of part) ≡ Some y → (rest ≡ Some part → (z : Y) × (found ≡ Some z)) → (z : Y) × (or_later (f (meaning_of x)) found ≡ Some z)
  by_test true x part rest found y at is later = here_first (f (meaning_of x)) found y (ap (λ z. f (meaning_of z)) (same_Some x part at) ∙ is)
  by_test false x part rest found y at is later = first_or_later (f (meaning_of x)) found (later at)

  -- what is found of a part in hand is found among them, or something else is
  some_found : (parts : List (ℕ × Part)) (p : ℕ) (y : Part) (z : Y) → part_at parts p ≡ Some y → f (meaning_of y) ≡ Some z → (x : Y) × (find_in f (meant meaning_of parts) ≡ Some x)
  some_found [] p y z at is = absurd (cc)
  some_found (x ∷ xs) p y z at is = by_test (x.0 == p) x.1 y (part_at xs p) (find_in f (meant meaning_of xs)) z at is (λ later. some_found xs p y z later is)

desk_there : (s : State) (x : Desk) (p : part.Part) → desk_in (slice_of s p) ≡ Some x → Some s.desk ≡ Some x
desk_there s x part.desk e = e
desk_there s x part.input e = absurd (cc)
desk_there s x (part.cell m) e = absurd (cc)
desk_there s x (part.looper w) e = absurd (cc)
desk_there s x (part.port w) e = absurd (cc)
desk_there s x (part.link w) e = absurd (cc)
desk_there s x (part.pane w) e = absurd (cc)

module _ (d : Declared) (parts : List (ℕ × Part)) (all : List Slice) (sound : IsSound d all) (fits : Fits all (meant meaning_of parts)) (y : Part) where
  cut : Fits (slices d (state d all sound)) (meant meaning_of parts)
  cut = subst (λ l. Fits l (meant meaning_of parts)) sound.is fits

  -- an application's
  pub app_found : (m : ℕ) (a : App) → IsPart d (part.cell m) → part_at parts (place_of d (part.cell m)) ≡ Some y → app_in (meaning_of y) ≡ Some a → find_in (app_of m) (meant meaning_of parts) ≡ Some a
  app_found m a there at has =
      let is : slice_of (state d all sound) (part.cell m) ≡ meaning_of y = slice_read d parts all sound fits y (part.cell m) there at in
      let read : slice_get (state d all sound).apps m ≡ Some a = ap app_in is ∙ has in
      let own : app_of m (meaning_of y) ≡ Some a = ap (app_of m) (sym is) ∙ ap (λ (b : Bool). if b then slice_get (state d all sound).apps m else None) (eq_self m) ∙ read in
      let found = some_found (app_of m) parts (place_of d (part.cell m)) y a at own in
      found.1 ∙ ap (λ (o : App). Some o) (found_in d (state d all sound) (app_of m) (meant meaning_of parts) found.0 (found.0 ≡ a) cut found.1 (λ x e. same_Some found.0 a (sym (app_there (state d all sound) m found.0 x e) ∙ read)))

  -- a looper's
  pub looper_found : (w : ℕ) (l : Looper) → IsPart d (part.looper w) → part_at parts (place_of d (part.looper w)) ≡ Some y → looper_in (meaning_of y) ≡ Some l → find_in (looper_of w) (meant meaning_of parts) ≡ Some l
  looper_found w l there at has =
      let is : slice_of (state d all sound) (part.looper w) ≡ meaning_of y = slice_read d parts all sound fits y (part.looper w) there at in
      let read : slice_get (state d all sound).loopers w ≡ Some l = ap looper_in is ∙ has in
      let own : looper_of w (meaning_of y) ≡ Some l = ap (looper_of w) (sym is) ∙ ap (λ (b : Bool). if b then slice_get (state d all sound).loopers w else None) (eq_self w) ∙ read in
      let found = some_found (looper_of w) parts (place_of d (part.looper w)) y l at own in
      found.1 ∙ ap (λ (o : Looper). Some o) (found_in d (state d all sound) (looper_of w) (meant meaning_of parts) found.0 (found.0 ≡ l) cut found.1 (λ x e. same_Some found.0 l (sym (looper_there (state d all sound) w found.0 x e) ∙ read)))

  -- a link's
  pub link_found : (w : ℕ) (l : List Numbered) → IsPart d (part.link w) → part_at parts (place_of d (part.link w)) ≡ Some y → link_in (meaning_of y) ≡ Some l → find_in (link_of w) (meant meaning_of parts) ≡ Some l
  link_found w l there at has =
      let is : slice_of (state d all sound) (part.link w) ≡ meaning_of y = slice_read d parts all sound fits y (part.link w) there at in
      let read : slice_get (state d all sound).links w ≡ Some l = ap link_in is ∙ has in
      let own : link_of w (meaning_of y) ≡ Some l = ap (link_of w) (sym is) ∙ ap (λ (b : Bool). if b then slice_get (state d all sound).links w else None) (eq_self w) ∙ read in
      let found = some_found (link_of w) parts (place_of d (part.link w)) y l at own in
      found.1 ∙ ap (λ (o : List Numbered). Some o) (found_in d (state d all sound) (link_of w) (meant meaning_of parts) found.0 (found.0 ≡ l) cut found.1 (λ x e. same_Some found.0 l (sym (link_there (state d all sound) w found.0 x e) ∙ read)))

  -- the desk
  pub desk_found : (x : Desk) → part_at parts (place_of d part.desk) ≡ Some y → desk_in (meaning_of y) ≡ Some x → find_in desk_in (meant meaning_of parts) ≡ Some x
  desk_found x at has =
      let read : Some (state d all sound).desk ≡ Some x = desk_read d parts all sound fits y at ∙ has in
      let found = some_found desk_in parts (place_of d part.desk) y x at has in
      found.1 ∙ ap (λ (o : Desk). Some o) (found_in d (state d all sound) desk_in (meant meaning_of parts) found.0 (found.0 ≡ x) cut found.1 (λ z e. same_Some found.0 x (sym (desk_there (state d all sound) found.0 z e) ∙ read)))
