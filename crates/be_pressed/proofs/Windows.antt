-- All windows behind one letter more, and what is written of it.
use Rattle.std.proofs.Common.{◌≡◌, ◌≢◌, ℕ, ◌+◌, ◌<◌, ◌≤◌, List, [], ◌∷◌, ◌++◌, Bool, true}
use Rattle.std.proofs.Common.{false, cond, length, map, take, drop, get_or, set, Option, Some, None}
use Rattle.std.proofs.Common.{Result, Ok, Err, OnOk, ⊎_elim, refl, sym, ap, subst, ◌∙◌, append_assoc, arith}
use Rattle.std.proofs.lemmas.Bool.Decides.{eqb_tells}
use Rattle.std.proofs.lemmas.List.{append-nil, drop_all, drop_more, length-set, take_all, take_more}
use Rattle.std.proofs.lemmas.Option.{same_Some, slice_get-get_or, slice_get-map}
use Rattle.std.proofs.lemmas.Option.{slice_get_cases, slice_get_past, slice_get_within}
use Rattle.std.specs.Fmt.{decimal}
use Rattle.std.specs.Option.{option_map_or}
use Rattle.std.specs.Prelude.{option_and_then, option_map, slice_get}
use Rattle.be_facts.proofs.Lists.{set_same}
use Rattle.be_control.specs.Buttons.{Button, HasHeard, invokes}
use Rattle.be_geom.specs.declared.rect.Rect.{Rect}
use Rattle.be_message.specs.declared.target.Target.{Target}
use Rattle.be_message.specs.declared.target.Target.TheVariants as target
use Rattle.be_script.specs.Script.{Declared}
use Rattle.be_script.specs.Windows.{declared_view, root_view, tree_of, view_lines}
use Rattle.be_script.specs.declared.ViewLine.{ViewLine}
use Rattle.be_script.specs.declared.WindowLine.{WindowLine}
use Rattle.be_views.specs.Trees.{View}
use Rattle.be_written.specs.Lines.{line_of}
use Rattle.be_written.specs.Names.{window_name, view_name}
use Rattle.be_pressed.proofs.Heard.{bounds_at, others_heard, set_other}
use Rattle.be_pressed.specs.ButtonText.{all_heard, bounds_of, heard_by}
use Rattle.be_pressed.specs.ButtonText.{invokes_view, letter_text, letters_text, view_in}
use Rattle.be_pressed.specs.Hearing.{AreWindows, HaveHeard, IsWindow, bounds_due, invokes_button}
use Rattle.be_pressed.specs.Hearing.{is_invoked}
use Rattle.be_pressed.specs.declared.letter.TakenLetter.{TakenLetter}

-- ---- the windows behind a letter

-- another window's views don't hear it
unheard : (w : ℕ) (before : List TakenLetter) (letter : TakenLetter) (buttons : List Button)
    → letter.window ≢ w → HaveHeard w before buttons → HaveHeard w (before ++ letter ∷ []) buttons
unheard w before letter buttons other have v button there =
    subst (HasHeard button) (sym (others_heard w v before letter other)) (have v button there)

still : (d : Declared) (w : ℕ) (line : WindowLine) (before : List TakenLetter)
    (letter : TakenLetter) (buttons : List Button) → letter.window ≢ w
    → IsWindow d w line before buttons → IsWindow d w line (before ++ letter ∷ []) buttons
still d w line before letter buttons other is = record {
  bounds = is.bounds;
  heard = unheard w before letter buttons other is.heard;
}

module _ (d : Declared) (before : List TakenLetter) (letter : TakenLetter)
    (olds : List (List Button)) (was : AreWindows d before olds) where
  -- no window has heard it
  pub none_heard : length olds ≤ letter.window → AreWindows d (before ++ letter ∷ []) olds
  none_heard past = record {
    many = was.many;
    each = λ w line buttons at there.
        let within = slice_get_within olds w buttons there in
        still d w line before letter buttons (λ same. absurd (omega (arith, same)))
        (was.each w line buttons at there);
  }

  no_view : length olds ≤ letter.window → (v : ℕ) → view_in d letter.window v ≡ None
  no_view past v =
      let many = was.many in
      ap (option_and_then (λ line. slice_get (tree_of d letter.window line) v))
      (slice_get_past d.windows letter.window (omega arith))

  no_text : length olds ≤ letter.window → (to : Target) → letter_text d before letter to ≡ []
  no_text past (target.View v) =
      ap (λ (o : Option View). cond (option_map_or (invokes_view v before letter) o false)
      (line_of (window_name d letter.window ∷ view_name d letter.window v
      ∷ decimal letter.number ∷ [])) []) (no_view past v)
  no_text past target.Window = refl
  no_text past (target.Plain h) = refl

  pub nothing_written : length olds ≤ letter.window → (text : List ℕ)
      → text ≡ text ++ letter_text d before letter letter.target
  nothing_written past text =
      sym (append-nil text)
      ∙ ap (λ (l : List ℕ). text ++ l) (sym (no_text past letter.target))

  module _ (old new : List Button) (at : slice_get olds letter.window ≡ Some old)
      (same : map bounds_at new ≡ map bounds_at old)
      (heard : HaveHeard letter.window before old
      → HaveHeard letter.window (before ++ letter ∷ []) new) where
    within : letter.window < length olds
    within = slice_get_within olds letter.window old at

    mine : (line : WindowLine) → slice_get d.windows letter.window ≡ Some line
        → IsWindow d letter.window line (before ++ letter ∷ []) new
    mine line found =
        let is = was.each letter.window line old found at in
        record { bounds = same ∙ is.bounds; heard = heard is.heard }

    each_then : (w : ℕ) (line : WindowLine) (buttons : List Button)
        → slice_get d.windows w ≡ Some line
        → slice_get (set olds letter.window new) w ≡ Some buttons
        → IsWindow d w line (before ++ letter ∷ []) buttons
    each_then w line buttons found there =
        ⊎_elim
        (λ here.
        let now : new ≡ buttons =
        same_Some new buttons (sym (set_same olds letter.window new within)
        ∙ ap (slice_get (set olds letter.window new)) here.1 ∙ there) in
        subst (λ (k : ℕ). IsWindow d k line (before ++ letter ∷ []) buttons) here.1
        (subst (λ (l : List Button). IsWindow d letter.window line (before ++ letter ∷ []) l) now
        (mine line (ap (slice_get d.windows) here.1 ∙ found))))
        (λ away.
        still d w line before letter buttons away.1
        (was.each w line buttons found
        (sym (set_other olds letter.window w new (λ k. away.1 (sym k))) ∙ there)))
        (eqb_tells letter.window w)

    pub all_heard_it : AreWindows d (before ++ letter ∷ []) (set olds letter.window new)
    all_heard_it = record {
      many = length-set olds letter.window new ∙ was.many;
      each = each_then;
    }

-- ---- whom it invokes

over_map : {X Y : Type 0} (f : X → Y) (g : Y → Bool) (o : Option X)
    → option_map_or (λ x. g (f x)) o false ≡ option_map_or g (option_map f o) false
over_map f g (Some x) = refl
over_map f g None = refl

-- the same test of each by what is kept of it
tested : {X Y Z : Type 0} (f : X → Z) (h : Y → Z) (g : Z → Bool) (xs : List X) (ys : List Y)
    (k : ℕ) → map f xs ≡ map h ys
    → option_map_or (λ x. g (f x)) (slice_get xs k) false
    ≡ option_map_or (λ y. g (h y)) (slice_get ys k) false
tested {Z = Z} f h g xs ys k same =
    over_map f g (slice_get xs k)
    ∙ ap (λ (o : Option Z). option_map_or g o false) (sym (slice_get-map f xs k))
    ∙ ap (λ (l : List Z). option_map_or g (slice_get l k) false) same
    ∙ ap (λ (o : Option Z). option_map_or g o false) (slice_get-map h ys k)
    ∙ sym (over_map h g (slice_get ys k))

abbrev view_bounds : View → Rect
view_bounds view = bounds_of view.frame

bounds_declared : (lines : List ViewLine)
    → map (λ line. bounds_of line.frame) lines ≡ map view_bounds (map declared_view lines)
bounds_declared [] = refl
bounds_declared (line ∷ lines) =
    ap (λ (l : List Rect). bounds_of line.frame ∷ l) (bounds_declared lines)

due_of_tree : (d : Declared) (w : ℕ) (line : WindowLine)
    → bounds_due d w line ≡ map view_bounds (tree_of d w line)
unfolding tree_of
due_of_tree d w line =
    ap (λ (l : List Rect). bounds_of (root_view line).frame ∷ l) (bounds_declared (view_lines d w))

module _ (d : Declared) (before : List TakenLetter) (letter : TakenLetter)
    (olds : List (List Button)) (was : AreWindows d before olds) (old : List Button)
    (at : slice_get olds letter.window ≡ Some old) where
  line_there : (line : WindowLine) × (slice_get d.windows letter.window ≡ Some line)
  line_there =
      let within = slice_get_within olds letter.window old at in
      let many = was.many in
      ⊎_elim
      (λ found. (found.0, found.2))
      (λ past. absurd (omega (arith, past.0)))
      (slice_get_cases d.windows letter.window).1

  as_its_view : (v : ℕ) → option_map_or (invokes_button before letter v) (slice_get old v) false
      ≡ option_map_or (invokes_view v before letter) (view_in d letter.window v) false
  as_its_view v =
      let line = line_there.0 in
      let is = was.each letter.window line old line_there.1 at in
      tested bounds_at view_bounds
      (λ r. invokes r (all_heard letter.window v before) (heard_by v letter)) old
      (tree_of d letter.window line) v (is.bounds ∙ due_of_tree d letter.window line)
      ∙ ap (λ (o : Option WindowLine). option_map_or (invokes_view v before letter)
      (option_and_then (λ line. slice_get (tree_of d letter.window line) v) o) false)
      (sym line_there.1)

  module _ (invoked : Bool) (is : invoked ≡ is_invoked before letter old letter.target) where
    line_by : (v : ℕ) → letter.target ≡ target.View v
        → letter_text d before letter letter.target
        ≡ cond invoked (line_of (window_name d letter.window ∷ view_name d letter.window v
        ∷ decimal letter.number ∷ [])) []
    line_by v to =
        ap (letter_text d before letter) to
        ∙ ap (λ (b : Bool). cond b (line_of (window_name d letter.window
        ∷ view_name d letter.window v ∷ decimal letter.number ∷ [])) [])
        (sym (is ∙ ap (is_invoked before letter old) to ∙ as_its_view v))

    pub written_of : (v : ℕ) → letter.target ≡ target.View v → invoked ≡ true
        → (text new : List ℕ)
        → new ≡ text ++ line_of (window_name d letter.window ∷ view_name d letter.window v
        ∷ decimal letter.number ∷ [])
        → new ≡ text ++ letter_text d before letter letter.target
    written_of v to so text new added =
        added
        ∙ ap (λ (l : List ℕ). text ++ l)
        (sym (line_by v to ∙ ap (λ (b : Bool). cond b (line_of (window_name d letter.window
        ∷ view_name d letter.window v ∷ decimal letter.number ∷ [])) []) so))

    none_for : (to : Target) → letter.target ≡ to → ((v : ℕ) → to ≡ target.View v → invoked ≡ false)
        → letter_text d before letter letter.target ≡ []
    none_for (target.View v) is_for not_so =
        line_by v is_for ∙ ap (λ (b : Bool). cond b (line_of (window_name d letter.window
        ∷ view_name d letter.window v ∷ decimal letter.number ∷ [])) []) (not_so v refl)
    none_for target.Window is_for not_so = ap (letter_text d before letter) is_for
    none_for (target.Plain h) is_for not_so = ap (letter_text d before letter) is_for

    pub none_written : ((v : ℕ) → letter.target ≡ target.View v → invoked ≡ false)
        → (text : List ℕ) → text ≡ text ++ letter_text d before letter letter.target
    none_written not_so text =
        sym (append-nil text)
        ∙ ap (λ (l : List ℕ). text ++ l) (sym (none_for letter.target refl not_so))

  pub has_heard : HaveHeard letter.window before old
  has_heard = (was.each letter.window line_there.0 old line_there.1 at).heard

-- as the code finds the window
module _ (d : Declared) (before : List TakenLetter) (letter : TakenLetter)
    (olds : List (List Button)) (was : AreWindows d before olds) (i : ℕ) (is : i ≡ letter.window)
    (x : List Button) (less : i < length olds) where
  abbrev found : List Button
  found = get_or olds i x

  there : slice_get olds letter.window ≡ Some found
  there = ap (slice_get olds) (sym is) ∙ slice_get-get_or olds i x less

  pub heard_at : (new : List Button) → map bounds_at new ≡ map bounds_at found
      → ((b : List TakenLetter) → HaveHeard letter.window b found
      → HaveHeard letter.window (b ++ letter ∷ []) new)
      → AreWindows d (before ++ letter ∷ []) (set olds i new)
  heard_at new same heard =
      subst (λ (k : ℕ). AreWindows d (before ++ letter ∷ []) (set olds k new)) (sym is)
      (all_heard_it d before letter olds was found new there same (heard before))

  module _ (invoked : Bool)
      (told : (b : List TakenLetter) → HaveHeard letter.window b found
      → invoked ≡ is_invoked b letter found letter.target) where
    now : invoked ≡ is_invoked before letter found letter.target
    now = told before (has_heard d before letter olds was found there)

    pub line_at : (v : ℕ) → letter.target ≡ target.View v → invoked ≡ true → (text new : List ℕ)
        → new ≡ text ++ line_of (window_name d letter.window ∷ view_name d letter.window v
        ∷ decimal letter.number ∷ [])
        → new ≡ text ++ letter_text d before letter letter.target
    line_at = written_of d before letter olds was found there invoked now

    pub no_line_at : ((v : ℕ) → letter.target ≡ target.View v → invoked ≡ false)
        → (text : List ℕ) → text ≡ text ++ letter_text d before letter letter.target
    no_line_at = none_written d before letter olds was found there invoked now

-- ---- letter by letter

-- so many letters were heard, and what is due of the others stands behind what was written
pub record IsWritten (d : Declared) (letters : List TakenLetter) (k : ℕ)
    (windows : List (List Button)) (text : List ℕ) : Type 0 where
  pub heard : AreWindows d (take k letters) windows
  pub due : text ++ letters_text d (take k letters) (drop k letters) ≡ letters_text d [] letters

pub none_written_yet : (d : Declared) (letters : List TakenLetter) (windows : List (List Button))
    (text : List ℕ) → AreWindows d [] windows → text ≡ [] → IsWritten d letters 0 windows text
none_written_yet d letters windows text first empty = record {
  heard = first;
  due = ap (λ (t : List ℕ). t ++ letters_text d [] letters) empty;
}

pub one_written : (d : Declared) (letters : List TakenLetter) (k : ℕ) (letter : TakenLetter)
    (olds news : List (List Button)) (old new : List ℕ) → k < length letters
    → letter ≡ get_or letters k letter → IsWritten d letters k olds old
    → AreWindows d (take k letters ++ letter ∷ []) news
    → new ≡ old ++ letter_text d (take k letters) letter letter.target
    → IsWritten d letters (k + 1) news new
unfolding letters_text
one_written d letters k letter olds news old new less is was heard added =
    let longer : take (k + 1) letters ≡ take k letters ++ letter ∷ [] =
    take_more letters k letter less
    ∙ ap (λ (l : TakenLetter). take k letters ++ l ∷ []) (sym is) in
    let rest : drop k letters ≡ letter ∷ drop (k + 1) letters =
    drop_more letters k letter less
    ∙ ap (λ (l : TakenLetter). l ∷ drop (k + 1) letters) (sym is) in
    record {
      heard = subst (λ (l : List TakenLetter). AreWindows d l news) (sym longer) heard;
      due =
          ap (λ (l : List TakenLetter). new ++ letters_text d l (drop (k + 1) letters)) longer
          ∙ ap (λ (t : List ℕ).
          t ++ letters_text d (take k letters ++ letter ∷ []) (drop (k + 1) letters)) added
          ∙ append_assoc old (letter_text d (take k letters) letter letter.target)
          (letters_text d (take k letters ++ letter ∷ []) (drop (k + 1) letters))
          ∙ ap (λ (l : List TakenLetter). old ++ letters_text d (take k letters) l) (sym rest)
          ∙ was.due;
    }

pub all_written : (d : Declared) (letters : List TakenLetter) (k : ℕ)
    (windows : List (List Button)) (text : List ℕ) → length letters ≤ k
    → IsWritten d letters k windows text → text ≡ letters_text d [] letters
unfolding letters_text
all_written d letters k windows text past is =
    sym (append-nil text)
    ∙ ap (λ (l : List TakenLetter). text ++ letters_text d (take k letters) l)
    (sym (drop_all k letters past))
    ∙ is.due

-- a list that is written back whole
pub whole_back : {X : Type 0} (len : ℕ) (new old : List X) → length old ≤ length new
    → length new ≤ len → take len (new ++ drop (length new) old) ≡ new
whole_back {X} len new old as_long all =
    ap (λ (l : List X). take len (new ++ l)) (drop_all (length new) old as_long)
    ∙ ap (take len) (append-nil new) ∙ take_all len new all

-- ---- what may have failed

pub on_any : {E : Type 0} (r : Result (Unit {0}) E) (P : Type 0) → P → OnOk r P
on_any (Ok x) P p = p
on_any (Err e) P p = tt
