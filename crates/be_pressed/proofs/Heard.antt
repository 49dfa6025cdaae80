-- The views of a window hear a letter, one after the other.
use Rattle.std.proofs.Common.{◌≡◌, ◌≢◌, ℕ, ◌+◌, ◌<◌, ◌≤◌, List, [], ◌∷◌, ◌++◌, Bool, true}
use Rattle.std.proofs.Common.{false, ◌&&◌, length, map, set, Option, Some, cond}
use Rattle.std.proofs.Common.{⊎_elim, refl, sym, ap, subst, ◌∙◌, arith}
use Rattle.std.proofs.Math.Seq.{map-set_same}
use Rattle.std.proofs.lemmas.Bool.{cases_lt, eqb-true, ne_eqb, eq-eqb, and_left}
use Rattle.std.proofs.lemmas.Bool.Decides.{eqb_tells}
use Rattle.std.proofs.lemmas.List.{append-nil, get_or-set_other, length-set}
use Rattle.std.proofs.lemmas.List.{map-append}
use Rattle.std.proofs.lemmas.List.Elements.{filter-append}
use Rattle.std.proofs.lemmas.Option.{get_or_from_slice_get, same_Some, slice_get-get_or}
use Rattle.std.proofs.lemmas.Option.{slice_get_cases, slice_get_past, slice_get_within}
use Rattle.std.specs.Option.{option_map_or}
use Rattle.std.specs.Prelude.{filter, slice_get, ◌==◌}
use Rattle.be_facts.proofs.Truths.{and_first}
use Rattle.be_facts.proofs.Lists.{set_same}
use Rattle.be_control.specs.Buttons.{Button, HasHeard, Heard, invokes, is_armed, is_at, is_inside}
use Rattle.be_control.specs.Buttons.{is_press, is_release, pressed_by}
use Rattle.be_control.specs.declared.button.Pressed.{Pressed}
use Rattle.be_control.specs.declared.button.Pressed.TheVariants.{Armed, Idle, Invoked}
use Rattle.be_geom.specs.declared.rect.Rect.{Rect}
use Rattle.be_message.specs.Words.{mouse_down, mouse_up}
use Rattle.be_message.specs.declared.target.Target.{Target}
use Rattle.be_message.specs.declared.target.Target.TheVariants as target
use Rattle.be_pressed.specs.ButtonText.{all_heard, heard_by, is_for}
use Rattle.be_pressed.specs.Hearing.{HaveHeard, invokes_button, is_invoked}
use Rattle.be_pressed.specs.declared.letter.TakenLetter.{TakenLetter}

-- ---- lists

pub set_other : {X : Type 0} (xs : List X) (k v : ℕ) (y : X) → v ≢ k
    → slice_get (set xs k y) v ≡ slice_get xs v
set_other {X} xs k v y other =
    ⊎_elim
    (λ found.
    let within = found.1 in
    slice_get-get_or (set xs k y) v y (omega (arith, length-set xs k y))
    ∙ ap Some (get_or-set_other xs k v y y other) ∙ sym (slice_get-get_or xs v y within))
    (λ past.
    let beyond = past.0 in
    slice_get_past (set xs k y) v (omega (arith, length-set xs k y)) ∙ sym past.1)
    (slice_get_cases xs v).1

-- ---- one letter more

counted_in : (w v : ℕ) (before : List TakenLetter) (letter : TakenLetter) (mine : Bool)
    → (letter.window == w) ≡ mine
    → all_heard w v (before ++ letter ∷ [])
    ≡ all_heard w v before ++ map (heard_by v) (cond mine (letter ∷ []) [])
counted_in w v before letter mine is =
    ap (map (heard_by v)) (filter-append (λ l. l.window == w) before (letter ∷ []))
    ∙ map-append (heard_by v) (filter (λ l. l.window == w) before)
    (filter (λ l. l.window == w) (letter ∷ []))
    ∙ ap (λ (b : Bool). all_heard w v before ++ map (heard_by v) (cond b (letter ∷ []) [])) is

pub own_heard : (v : ℕ) (before : List TakenLetter) (letter : TakenLetter)
    → all_heard letter.window v (before ++ letter ∷ [])
    ≡ all_heard letter.window v before ++ heard_by v letter ∷ []
own_heard v before letter =
    counted_in letter.window v before letter true (eq-eqb letter.window letter.window refl)

pub others_heard : (w v : ℕ) (before : List TakenLetter) (letter : TakenLetter)
    → letter.window ≢ w → all_heard w v (before ++ letter ∷ []) ≡ all_heard w v before
others_heard w v before letter other =
    counted_in w v before letter false (ne_eqb letter.window w other)
    ∙ append-nil (all_heard w v before)

-- ---- who is invoked

by_none : (w a : Bool) → ((w && false) && a) ≡ false
by_none true a = refl
by_none false a = refl

not_own : (bounds : Rect) (hs : List Heard) (h : Heard) → h.own ≡ false
    → invokes bounds hs h ≡ false
unfolding invokes
not_own bounds hs h other =
    ap (λ (b : Bool). ((h.message.what == mouse_up) && (b && is_at bounds h.message))
    && is_armed bounds hs) other
    ∙ by_none (h.message.what == mouse_up) (is_armed bounds hs)

up_or_down : (what : ℕ) → (what == mouse_up) ≡ true → (what == mouse_down) ≡ false
up_or_down what up = ap (λ (n : ℕ). n == mouse_down) (eqb-true what mouse_up up)

no_press : (bounds : Rect) (hs : List Heard) (h : Heard) → invokes bounds hs h ≡ true
    → is_press bounds h ≡ false
unfolding invokes
no_press bounds hs h is =
    let release = and_first (is_release bounds h) (is_armed bounds hs) is in
    let up = and_first (h.message.what == mouse_up) (is_inside bounds h) release in
    and_left (h.message.what == mouse_down) (is_inside bounds h) (up_or_down h.message.what up)

said : Bool → Bool → Pressed
said press invoked = cond press Armed (cond invoked Invoked Idle)

invoked_if : (bounds : Rect) (hs : List Heard) (h : Heard) → invokes bounds hs h ≡ true
    → pressed_by bounds hs h ≡ Invoked
unfolding said
invoked_if bounds hs h is =
    ap (λ (b : Bool). said b (invokes bounds hs h)) (no_press bounds hs h is) ∙ ap (said false) is

never_said : (press : Bool) → said press false ≡ Invoked → ⊥
unfolding said
never_said true is = (cc)
never_said false is = (cc)

only_if : (bounds : Rect) (hs : List Heard) (h : Heard) → invokes bounds hs h ≡ false
    → pressed_by bounds hs h ≡ Invoked → ⊥
unfolding said
only_if bounds hs h not_so is =
    never_said (is_press bounds h) (sym (ap (said (is_press bounds h)) not_so) ∙ is)

as_it_is : (b : Bool) → cond b true false ≡ b
as_it_is true = refl
as_it_is false = refl

-- ---- the loop

abbrev pub bounds_at : Button → Rect
bounds_at button = button.bounds

-- views before this one have been asked, and this is invoked of them
abbrev pub IsInvoked : List TakenLetter → TakenLetter → List Button → ℕ → Bool
    → Target → Type 0
IsInvoked before letter olds k invoked (target.View t) =
    (t < k → invoked ≡ option_map_or (invokes_button before letter t) (slice_get olds t) false)
    × (k ≤ t → invoked ≡ false)
IsInvoked before letter olds k invoked target.Window = invoked ≡ false
IsInvoked before letter olds k invoked (target.Plain h) = invoked ≡ false

-- the views before this one have heard the letter
pub record IsHearing (letter : TakenLetter) (olds : List Button) (k : ℕ)
    (buttons : List Button) (invoked : Bool) : Type 0 where
  pub many : length buttons ≡ length olds
  pub stay : map bounds_at buttons ≡ map bounds_at olds
  pub behind : (v : ℕ) → k ≤ v → slice_get buttons v ≡ slice_get olds v
  pub heard : (before : List TakenLetter) → HaveHeard letter.window before olds
      → (v : ℕ) (button : Button) → slice_get buttons v ≡ Some button → v < k
      → HasHeard button (all_heard letter.window v (before ++ letter ∷ []))
  pub so_far : (before : List TakenLetter) → HaveHeard letter.window before olds
      → IsInvoked before letter olds k invoked letter.target

none_yet : (before : List TakenLetter) (letter : TakenLetter) (olds : List Button)
    (to : Target) → IsInvoked before letter olds 0 false to
none_yet before letter olds (target.View t) = (λ less. absurd (omega arith), λ le. refl)
none_yet before letter olds target.Window = refl
none_yet before letter olds (target.Plain h) = refl

pub hearing_begins : (letter : TakenLetter) (olds : List Button)
    → IsHearing letter olds 0 olds false
hearing_begins letter olds = record {
  many = refl;
  stay = refl;
  behind = λ v le. refl;
  heard = λ before was v button there less. absurd (omega arith);
  so_far = λ before was. none_yet before letter olds letter.target;
}

-- a view hears the letter: what it was, and what it is then
pub record Hears (letter : TakenLetter) (k : ℕ) (x y : Button) (pressed : Pressed) : Type 0 where
  pub same : y.bounds ≡ x.bounds
  pub heard : (b : List Heard) → HasHeard x b
      → HasHeard y (b ++ heard_by k letter ∷ [])
  pub told : (b : List Heard) → HasHeard x b
      → pressed ≡ pressed_by x.bounds b (heard_by k letter)

-- as the code has it
pub heard_as : (letter : TakenLetter) (k : ℕ) (x : Button) (button : Button) (own : Bool)
    (pressed : Pressed) → own ≡ is_for k letter.target → button.bounds ≡ x.bounds
    → ((b : List Heard) → HasHeard x b
    → HasHeard button (b ++ record { own = own; message = letter.message } ∷ []))
    → ((b : List Heard) → HasHeard x b
    → pressed ≡ pressed_by x.bounds b (record { own = own; message = letter.message }))
    → Hears letter k x button pressed
heard_as letter k x button own pressed is bounds heard told = record {
  same = bounds;
  heard = λ b was.
      subst (λ (o : Bool). HasHeard button (b ++ record { own = o; message = letter.message } ∷ []))
      is (heard b was);
  told = λ b was.
      told b was
      ∙ ap (λ (o : Bool).
      pressed_by x.bounds b (record { own = o; message = letter.message })) is;
}

-- what is invoked then
abbrev pub IsChosen : Button → Pressed → Bool → Bool → Type 0
IsChosen x pressed old new =
    (pressed ≡ Invoked → new ≡ true) × ((pressed ≡ Invoked → ⊥) → new ≡ old)

module _ (letter : TakenLetter) (olds : List Button) (k : ℕ) (x y : Button)
    (pressed : Pressed) (hears : Hears letter k x y pressed) (at : slice_get olds k ≡ Some x)
    (old new : Bool) (chosen : IsChosen x pressed old new) where
  module _ (before : List TakenLetter) (was : HaveHeard letter.window before olds) where
    abbrev so : Bool
    so = invokes x.bounds (all_heard letter.window k before) (heard_by k letter)

    pressed_is : pressed
        ≡ pressed_by x.bounds (all_heard letter.window k before) (heard_by k letter)
    pressed_is = hears.told (all_heard letter.window k before) (was k x at)

    new_by : (b : Bool) → so ≡ b → new ≡ cond b true old
    new_by true is =
        chosen.0 (pressed_is
        ∙ invoked_if x.bounds (all_heard letter.window k before) (heard_by k letter) is)
    new_by false is =
        chosen.1 (λ invoked. only_if x.bounds (all_heard letter.window k before)
        (heard_by k letter) is (sym pressed_is ∙ invoked))

    new_is : new ≡ cond so true old
    new_is = new_by so refl

    as_old : is_for k letter.target ≡ false → new ≡ old
    as_old other =
        new_by false (not_own x.bounds (all_heard letter.window k before)
        (heard_by k letter) other)

    mine : (t : ℕ) → t ≡ k → old ≡ false
        → new ≡ option_map_or (invokes_button before letter t) (slice_get olds t) false
    mine t is none =
        new_is ∙ ap (cond so true) none
        ∙ as_it_is so
        ∙ sym (ap (λ (o : Option Button). option_map_or (invokes_button before letter k) o false)
        at)
        ∙ ap (λ (v : ℕ). option_map_or (invokes_button before letter v) (slice_get olds v) false)
        (sym is)

    invoked_next : (to : Target) → letter.target ≡ to → IsInvoked before letter olds k old to
        → IsInvoked before letter olds (k + 1) new to
    invoked_next (target.View t) is then =
        ⊎_elim
        (λ same. (
          λ less. mine t (sym same.1) (then.1 (omega (arith, same.1))),
          λ le. absurd (omega (arith, same.1)),
        ))
        (λ other.
        let stays = as_old (ap (is_for k) is ∙ other.0) in
        (λ less. stays ∙ then.0 (by_other less other.1), λ le. stays ∙ then.1 (omega arith)))
        (eqb_tells k t)
      where
        by_other : {t : ℕ} → t < k + 1 → k ≢ t → t < k
        by_other less other = omega arith
    invoked_next target.Window is then = as_old (ap (is_for k) is) ∙ then
    invoked_next (target.Plain h) is then = as_old (ap (is_for k) is) ∙ then

  module _ (buttons : List Button) (was : IsHearing letter olds k buttons old) where
    there : slice_get buttons k ≡ Some x
    there = was.behind k (omega arith) ∙ at

    within : k < length buttons
    within = slice_get_within buttons k x there

    bounds_same : map bounds_at (set buttons k y) ≡ map bounds_at olds
    bounds_same =
        map-set_same bounds_at buttons k y x
        (hears.same ∙ ap bounds_at (sym (get_or_from_slice_get buttons k x x there)))
        ∙ was.stay

    heard_next : (before : List TakenLetter) → HaveHeard letter.window before olds
        → (v : ℕ) (button : Button) → slice_get (set buttons k y) v ≡ Some button → v < k + 1
        → HasHeard button (all_heard letter.window v (before ++ letter ∷ []))
    heard_next before all v button is less =
        ⊎_elim
        (λ same.
        let now : y ≡ button =
        same_Some y button (sym (set_same buttons k y within)
        ∙ ap (slice_get (set buttons k y)) (sym same.1) ∙ is) in
        subst (λ (n : ℕ). HasHeard button (all_heard letter.window n (before ++ letter ∷ [])))
        (sym same.1)
        (subst (λ (z : Button).
        HasHeard z (all_heard letter.window k (before ++ letter ∷ []))) now
        (subst (HasHeard y) (sym (own_heard k before letter))
        (hears.heard (all_heard letter.window k before) (all k x at)))))
        (λ other.
        was.heard before all v button
        (sym (set_other buttons k v y other.1) ∙ is) (by_less less other.1))
        (eqb_tells v k)
      where
        by_less : {v : ℕ} → v < k + 1 → v ≢ k → v < k
        by_less less other = omega arith

    pub hears_next : IsHearing letter olds (k + 1) (set buttons k y) new
    hears_next = record {
      many = length-set buttons k y ∙ was.many;
      stay = bounds_same;
      behind = λ v le. set_behind v le ∙ was.behind v (omega arith);
      heard = heard_next;
      so_far = λ before all. invoked_next before all letter.target refl (was.so_far before all);
    }
      where
        set_behind : (v : ℕ) → k + 1 ≤ v → slice_get (set buttons k y) v ≡ slice_get buttons v
        set_behind v le = set_other buttons k v y (λ same. absurd (omega (arith, same)))

-- ---- behind the last view

module _ (letter : TakenLetter) (olds buttons : List Button) (k : ℕ) (whole : length olds ≤ k)
    (invoked : Bool) (all : IsHearing letter olds k buttons invoked) where
  pub all_have : (before : List TakenLetter) → HaveHeard letter.window before olds
      → HaveHeard letter.window (before ++ letter ∷ []) buttons
  all_have before was v button is =
      let within = slice_get_within buttons v button is in
      let many = all.many in
      all.heard before was v button is (omega arith)

  invoked_in : (before : List TakenLetter) (to : Target) → IsInvoked before letter olds k invoked to
      → invoked ≡ is_invoked before letter olds to
  invoked_in before (target.View t) is =
      ⊎_elim (λ asked. is.0 asked)
      (λ beyond.
      is.1 beyond
      ∙ sym (ap (λ (o : Option Button). option_map_or (invokes_button before letter t) o false)
      (slice_get_past olds t (past_all beyond))))
      (cases_lt t k)
    where
      past_all : {t : ℕ} → k ≤ t → length olds ≤ t
      past_all le = omega arith
  invoked_in before target.Window is = is
  invoked_in before (target.Plain h) is = is

  pub invoked_then : (before : List TakenLetter) → HaveHeard letter.window before olds
      → invoked ≡ is_invoked before letter olds letter.target
  invoked_then before was = invoked_in before letter.target (all.so_far before was)
