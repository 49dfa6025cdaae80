-- The legal entries among which a schedule chooses.
use Rattle.std.proofs.Common.{◌≡◌, ℕ, zero, suc, ◌+◌, ◌<◌, ◌≤◌, Bool, true, false, List, [], ◌∷◌, length, Option, Some, None, ◌⊎◌, inl, inr, refl, sym, ap, subst, ◌∙◌, arith}
use Rattle.std.specs.Prelude.{slice_get, ◌==◌, option_map, option_and_then, filter_map, if◌then◌else◌}
use Rattle.std.specs.List.{range_with_len, cons_option}
use Rattle.std.proofs.lemmas.Nat.{mod_below}
use Rattle.std.proofs.lemmas.Option.{same_Some}
use Rattle.be_facts.proofs.Lists.{get_range}
use Rattle.be_script.specs.Script.{Declared}
use Rattle.be_machine.specs.Activities.{activities, activity_of}
use Rattle.be_machine.specs.declared.Act.{Act}
use Rattle.be_machine.specs.declared.Entry.{Entry}
use Rattle.be_machine.specs.Legal.{want_act, legal_act, IsLegal}
use Rattle.be_machine.specs.Schedule.{entry_by, ready, chosen_place, chosen}
use Rattle.be_machine.specs.State.{State}
use Rattle.be_machine.specs.Wants.{want_of}
use Rattle.be_machine.proofs.Lists.{IsThere, there}
use Rattle.be_machine.proofs.ProgressNumbers.{none_past}

-- ---- what a filter gives

from_by : {Y : Type 0} (P : Y → Type 0) (o : Option Y) (ys : List Y) (i : ℕ) (y : Y) → ((z : Y) → o ≡ Some z → P z) → ((j : ℕ) → slice_get ys j ≡ Some y → P y) → slice_get (cons_option o ys) i ≡ Some y → P y
from_by P (Some z) ys zero y first later e = subst P (same_Some z y e) (first z refl)
from_by P (Some z) ys (suc i) y first later e = later i e
from_by P None ys i y first later e = later i e

-- each is given by an item
given_by : {X Y : Type 0} (f : X → Option Y) (P : Y → Type 0) (xs : List X) (i : ℕ) (y : Y) → ((a : X) (z : Y) → f a ≡ Some z → P z) → slice_get (filter_map f xs) i ≡ Some y → P y
given_by f P [] i y each e = cc
given_by f P (x ∷ xs) i y each e = from_by P (f x) (filter_map f xs) i y (each x) (λ j h. given_by f P xs j y each h) e

longer : {Y : Type 0} (o : Option Y) (ys : List Y) → 0 < length ys → 0 < length (cons_option o ys)
longer (Some z) ys h = omega arith
longer None ys h = h

first_given : {Y : Type 0} (o : Option Y) (ys : List Y) (y : Y) → o ≡ Some y → 0 < length (cons_option o ys)
first_given (Some z) ys y e = omega arith
first_given None ys y e = cc

-- an item that gives something is enough
some_given : {X Y : Type 0} (f : X → Option Y) (xs : List X) (k : ℕ) (a : X) (y : Y) → slice_get xs k ≡ Some a → f a ≡ Some y → 0 < length (filter_map f xs)
some_given f [] k a y read e = cc
some_given f (x ∷ xs) zero a y read e = first_given (f x) (filter_map f xs) y (ap f (same_Some x a read) ∙ e)
some_given f (x ∷ xs) (suc k) a y read e = longer (f x) (filter_map f xs) (some_given f xs k a y read e)

none_given : {X Y : Type 0} (f : X → Option Y) (xs : List X) → ((a : X) → f a ≡ None) → filter_map f xs ≡ []
none_given f [] none = refl
none_given f (x ∷ xs) none = ap (λ o. cons_option o (filter_map f xs)) (none x) ∙ none_given f xs none

-- ---- what is ready

entry_legal : (d : Declared) (s : State) (a : ℕ) (e : Entry) (o : Option Act) → legal_act d s a ≡ o → option_map (entry_by a) o ≡ Some e → IsLegal d s e
entry_legal d s a e (Some act) is h = subst (IsLegal d s) (same_Some (entry_by a act) e h) is
entry_legal d s a e None is h = cc

ready_legal : (d : Declared) (s : State) (i : ℕ) (e : Entry) → slice_get (ready d s) i ≡ Some e → IsLegal d s e
unfolding ready
ready_legal d s i e h = given_by (λ a. option_map (entry_by a) (legal_act d s a)) (IsLegal d s) (range_with_len 0 (activities d)) i e (λ a x is. entry_legal d s a x (legal_act d s a) refl is) h

either : (a n : ℕ) → (a < n) ⊎ (n ≤ a)
either a n = grind arith

by_number : (d : Declared) (s : State) (e : Entry) → IsLegal d s e → (e.actor < activities d) ⊎ (activities d ≤ e.actor) → e.actor < activities d
unfolding legal_act
by_number d s e legal (inl below) = below
by_number d s e legal (inr past) =
    let none : option_and_then (want_act d s) (option_and_then (want_of d s) (activity_of d e.actor)) ≡ None = ap (λ o. option_and_then (want_act d s) (option_and_then (want_of d s) o)) (none_past d e.actor past) in
    let no : None ≡ Some e.act = sym none ∙ legal in
    cc

pub ready_some : (d : Declared) (s : State) (e : Entry) → IsLegal d s e → 0 < length (ready d s)
unfolding ready
ready_some d s e legal =
    let inside : e.actor < activities d = by_number d s e legal (either e.actor (activities d)) in
    let place : slice_get (range_with_len 0 (activities d)) e.actor ≡ Some (0 + e.actor) = get_range 0 (activities d) e.actor inside in
    let same : 0 + e.actor ≡ e.actor = omega arith in
    some_given (λ a. option_map (entry_by a) (legal_act d s a)) (range_with_len 0 (activities d)) e.actor e.actor (entry_by e.actor e.act) (place ∙ ap Some same) (ap (option_map (entry_by e.actor)) legal)

pub ready_none : (d : Declared) (s : State) → ((a : ℕ) → legal_act d s a ≡ None) → ready d s ≡ []
unfolding ready
ready_none d s none = none_given (λ a. option_map (entry_by a) (legal_act d s a)) (range_with_len 0 (activities d)) (λ a. ap (option_map (entry_by a)) (none a))

-- ---- what is chosen

legal_if : (d : Declared) (s : State) (e : Entry) (b : Bool) (i j : ℕ) → (if b then slice_get (ready d s) i else slice_get (ready d s) j) ≡ Some e → IsLegal d s e
legal_if d s e true i j h = ready_legal d s i e h
legal_if d s e false i j h = ready_legal d s j e h

pub chosen_legal : (d : Declared) (s : State) (seed x : ℕ) (e : Entry) → chosen seed x (ready d s) ≡ Some e → IsLegal d s e
chosen_legal d s seed x e h = legal_if d s e (seed == 0) 0 (chosen_place x (length (ready d s))) h

some_if : (entries : List Entry) (b : Bool) (i j : ℕ) → i < length entries → j < length entries → (if b then slice_get entries i else slice_get entries j) ≡ None → ⊥
some_if entries true i j h k e = let is : IsThere entries i = there entries i h in let no : None ≡ Some is.element = sym e ∙ is.read in cc
some_if entries false i j h k e = let is : IsThere entries j = there entries j k in let no : None ≡ Some is.element = sym e ∙ is.read in cc

pub chosen_some : (seed x : ℕ) (entries : List Entry) → 0 < length entries → chosen seed x entries ≡ None → ⊥
chosen_some seed x entries h e = some_if entries (seed == 0) 0 (chosen_place x (length entries)) h (mod_below _ (length entries) h) e

none_if : (b : Bool) (i j : ℕ) → (if b then slice_get {X = Entry} [] i else slice_get [] j) ≡ None
none_if true i j = refl
none_if false i j = refl

pub chosen_none : (seed x : ℕ) (entries : List Entry) → entries ≡ [] → chosen seed x entries ≡ None
chosen_none seed x entries e = ap (chosen seed x) e ∙ none_if (seed == 0) 0 (chosen_place x 0)
