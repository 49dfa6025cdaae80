-- Letters one by one, and the rule with two letters.
use Rattle.std.proofs.Common.{◌≡◌, Bool, true, false, not, ◌&&◌, ◌||◌, List, [], ◌∷◌, ◌++◌}
use Rattle.std.proofs.Common.{⊎_elim, cond, refl, sym, ap, ◌∙◌, subst}
use Rattle.std.specs.List.{list_any}
use Rattle.std.proofs.lemmas.Bool.{or_right, or_left, and_from}
use Rattle.be_facts.proofs.Truths.{or_regroup, or_false, not_true, or_either, and_both}
use Rattle.be_facts.proofs.Truths.{false_is_not_true}
use Rattle.be_geom.specs.declared.rect.Rect.{Rect}
use Rattle.be_control.specs.Buttons.{Heard, breaks, invokes, is_armed, is_press, is_release}
use Rattle.be_control.specs.Buttons.{pressed_by}
use Rattle.be_control.specs.declared.button.Pressed.TheVariants.{Idle, Armed, Invoked}
use Rattle.be_control.specs.Laws.{Invokes}

-- ---- one letter more

any_snoc : (hs : List Heard) (h : Heard)
    → list_any breaks (hs ++ h ∷ []) ≡ (list_any breaks hs || breaks h)
any_snoc [] h = or_false (breaks h)
any_snoc (g ∷ gs) h =
    ap (λ (b : Bool). breaks g || b) (any_snoc gs h)
    ∙ or_regroup (breaks g) (list_any breaks gs) (breaks h)

-- a press behind which one letter more comes, or that one itself
spread : (p b x k a : Bool)
    → ((p && not (b || x)) || (k || (a && not x))) ≡ (k || (((p && not b) || a) && not x))
spread true true true true true = refl
spread true true true true false = refl
spread true true true false true = refl
spread true true true false false = refl
spread true true false true true = refl
spread true true false true false = refl
spread true true false false true = refl
spread true true false false false = refl
spread true false true true true = refl
spread true false true true false = refl
spread true false true false true = refl
spread true false true false false = refl
spread true false false true true = refl
spread true false false true false = refl
spread true false false false true = refl
spread true false false false false = refl
spread false b x k a = refl

end_spread : (k x : Bool) → ((k && not false) || false) ≡ (k || (false && not x))
end_spread true x = refl
end_spread false x = refl

armed_snoc : (bounds : Rect) (hs : List Heard) (h : Heard)
    → is_armed bounds (hs ++ h ∷ []) ≡ (is_press bounds h || (is_armed bounds hs && not (breaks h)))
unfolding is_armed
armed_snoc bounds [] h = end_spread (is_press bounds h) (breaks h)
armed_snoc bounds (g ∷ gs) h =
    ap (λ (b : Bool). (is_press bounds g && not b) || is_armed bounds (gs ++ h ∷ [])) (any_snoc gs h)
    ∙ (ap (λ (b : Bool). (is_press bounds g && not (list_any breaks gs || breaks h)) || b)
    (armed_snoc bounds gs h)
    ∙ spread (is_press bounds g) (list_any breaks gs) (breaks h) (is_press bounds h)
    (is_armed bounds gs))

pub none_armed : (bounds : Rect) → false ≡ is_armed bounds []
unfolding is_armed
none_armed bounds = refl

-- ---- what is armed after one letter more

by_press : (k a x : Bool) → k ≡ true → true ≡ (k || (a && not x))
by_press true a x h = refl
by_press false a x h = absurd (false_is_not_true h)

pub press_arms : (bounds : Rect) (hs : List Heard) (h : Heard) → is_press bounds h ≡ true
    → true ≡ is_armed bounds (hs ++ h ∷ [])
press_arms bounds hs h k =
    by_press (is_press bounds h) (is_armed bounds hs) (breaks h) k ∙ sym (armed_snoc bounds hs h)

by_break : (k a x : Bool) → k ≡ false → x ≡ true → false ≡ (k || (a && not x))
by_break true a x k h = absurd (false_is_not_true (sym k))
by_break false true true k h = refl
by_break false false true k h = refl
by_break false a false k h = absurd (false_is_not_true h)

pub break_ends : (bounds : Rect) (hs : List Heard) (h : Heard) → is_press bounds h ≡ false
    → breaks h ≡ true → false ≡ is_armed bounds (hs ++ h ∷ [])
break_ends bounds hs h k x =
    by_break (is_press bounds h) (is_armed bounds hs) (breaks h) k x
    ∙ sym (armed_snoc bounds hs h)

by_other : (k a x : Bool) → k ≡ false → x ≡ false → a ≡ (k || (a && not x))
by_other true a x k h = absurd (false_is_not_true (sym k))
by_other false true false k h = refl
by_other false false false k h = refl
by_other false a true k h = absurd (false_is_not_true (sym h))

pub other_stays : (bounds : Rect) (hs : List Heard) (h : Heard) → is_press bounds h ≡ false
    → breaks h ≡ false → is_armed bounds hs ≡ is_armed bounds (hs ++ h ∷ [])
other_stays bounds hs h k x =
    by_other (is_press bounds h) (is_armed bounds hs) (breaks h) k x
    ∙ sym (armed_snoc bounds hs h)

-- ---- what a letter is

invokes_by : (r a : Bool) (bounds : Rect) (hs : List Heard) (h : Heard)
    → is_release bounds h ≡ r → is_armed bounds hs ≡ a → invokes bounds hs h ≡ (r && a)
unfolding invokes
invokes_by r a bounds hs h is so =
    ap (λ (b : Bool). b && is_armed bounds hs) is ∙ ap (λ (b : Bool). r && b) so

pub of_release : (bounds : Rect) (hs : List Heard) (h : Heard) (a : Bool)
    → is_press bounds h ≡ false → is_release bounds h ≡ true → is_armed bounds hs ≡ a
    → pressed_by bounds hs h ≡ cond a Invoked Idle
of_release bounds hs h a k r so =
    ap (λ (b : Bool). cond b Armed (cond (invokes bounds hs h) Invoked Idle)) k
    ∙ ap (λ (b : Bool). cond b Invoked Idle) (invokes_by true a bounds hs h r so)

pub of_none : (bounds : Rect) (hs : List Heard) (h : Heard)
    → is_press bounds h ≡ false → is_release bounds h ≡ false → pressed_by bounds hs h ≡ Idle
of_none bounds hs h k r =
    ap (λ (b : Bool). cond b Armed (cond (invokes bounds hs h) Invoked Idle)) k
    ∙ ap (λ (b : Bool). cond b Invoked Idle)
    (invokes_by false (is_armed bounds hs) bounds hs h r refl)

-- ---- two letters

-- a press among these letters, with none behind it that breaks it
record Holds (bounds : Rect) (before : List Heard) : Type 0 where
  earlier : List Heard
  press : Heard
  between : List Heard
  parts : before ≡ earlier ++ press ∷ between
  pressed : is_press bounds press ≡ true
  unbroken : list_any breaks between ≡ false

later : (bounds : Rect) (g : Heard) (gs : List Heard) → Holds bounds gs → Holds bounds (g ∷ gs)
later bounds g gs h = record {
  earlier = g ∷ h.earlier;
  press = h.press;
  between = h.between;
  parts = ap (λ (l : List Heard). g ∷ l) h.parts;
  pressed = h.pressed;
  unbroken = h.unbroken;
}

holds : (bounds : Rect) (before : List Heard) → is_armed bounds before ≡ true → Holds bounds before
unfolding is_armed
holds bounds [] h = absurd (false_is_not_true h)
holds bounds (g ∷ gs) h =
    ⊎_elim
    (λ here.
    let parts = and_both (is_press bounds g) (not (list_any breaks gs)) here in
    record {
      earlier = [];
      press = g;
      between = gs;
      parts = refl;
      pressed = parts.0;
      unbroken = not_true (list_any breaks gs) parts.1;
    })
    (λ there. later bounds g gs (holds bounds gs there))
    (or_either (is_press bounds g && not (list_any breaks gs)) (is_armed bounds gs) h)

armed_by : (bounds : Rect) (earlier : List Heard) (press : Heard) (between : List Heard)
    → is_press bounds press ≡ true → list_any breaks between ≡ false
    → is_armed bounds (earlier ++ press ∷ between) ≡ true
unfolding is_armed
armed_by bounds [] press between k u =
    or_left (is_press bounds press && not (list_any breaks between)) (is_armed bounds between)
    (and_from (is_press bounds press) (not (list_any breaks between)) k (ap not u))
armed_by bounds (g ∷ gs) press between k u =
    or_right (is_press bounds g && not (list_any breaks (gs ++ press ∷ between))) _
    (armed_by bounds gs press between k u)

pub two_letters : (bounds : Rect) (before : List Heard) (h : Heard) → invokes bounds before h ≡ true
    → Invokes bounds before h
unfolding invokes
two_letters bounds before h is =
    let parts = and_both (is_release bounds h) (is_armed bounds before) is in
    let held = holds bounds before parts.1 in
    record {
      earlier = held.earlier;
      press = held.press;
      between = held.between;
      parts = held.parts;
      pressed = held.pressed;
      unbroken = held.unbroken;
      released = parts.0;
    }

pub by_two : (bounds : Rect) (before : List Heard) (h : Heard) → Invokes bounds before h
    → invokes bounds before h ≡ true
unfolding invokes
by_two bounds before h i =
    and_from (is_release bounds h) (is_armed bounds before) i.released
    (subst (λ l. is_armed bounds l ≡ true) (sym i.parts)
    (armed_by bounds i.earlier i.press i.between i.pressed i.unbroken))
