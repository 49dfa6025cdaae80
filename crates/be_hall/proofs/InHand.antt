-- What a pass knows, and the parts in its hands.
use Rattle.std.proofs.Common.{◌≢◌, ⊎_elim, ◌≡◌, ℕ, zero, suc, ◌+◌, ◌<◌, ◌≤◌, true, nat_lt, min, List, [], ◌∷◌, ◌++◌, map, length, Option, None, sym, refl, ap, ◌∙◌, subst, arith}
use mathlib.Core.Option.{some, some-injective, some-ne-none}
use lib.ListN.{get_elem?}
use Rattle.be_facts.proofs.Truths.{and_second}
use Rattle.be_hall.specs.declared.view.View.{View}
use Rattle.be_hall.specs.declared.view.Mark.{Mark}
use Rattle.be_hall.specs.declared.view.About.{About}
use Rattle.be_hall.specs.Hands.{places_of, rises_from, all_below, meant}
use Rattle.be_hall.specs.Machine.{Machine, Lawful, Fits, AllFit, HeldFit, SomeFits, IsReady, leads}
use Rattle.be_hall.specs.Views.{Has, mark, known, logs_of, commit, committing, gathered}
use Rattle.be_hall.specs.Logs.{appended, InHistory, AllBefore, IsAbove}
use Rattle.be_hall.specs.History.{AllStand, Suits}
use Rattle.be_hall.specs.Steps.{Sees, Committed}
use Rattle.be_hall.specs.Passes.{marks_of, emptied, Makes, Gives}
use Rattle.be_hall.proofs.Rising.{rising_short, rises_front, below_last}
use Rattle.be_hall.proofs.Growth.{inside, tail_of, longer, legal_snoc, each_longer, all_snoc, fits_once, known_places}

abbrev first_or : {A : Type 0} → A → List A → A
first_or d [] = d
first_or d (x ∷ xs) = x

module _ {T M E : Type 0} (meaning : T → M) (log : T → List (ℕ × E)) where
  pub known_of : (held : List (ℕ × T)) → known (marks_of meaning log held) ≡ meant meaning held
  known_of [] = refl
  known_of (x ∷ xs) = ap (λ (l : List (ℕ × M)). (x.0, meaning x.1) ∷ l) (known_of xs)

  pub logs_of_marks : (held : List (ℕ × T)) → logs_of (marks_of meaning log held) ≡ meant log held
  logs_of_marks [] = refl
  logs_of_marks (x ∷ xs) = ap (λ (l : List (ℕ × List (ℕ × E))). (x.0, log x.1) ∷ l) (logs_of_marks xs)

  pub meant_places : (held : List (ℕ × T)) → map (λ x. x.0) (meant meaning held) ≡ places_of held
  meant_places [] = refl
  meant_places (x ∷ xs) = ap (λ (l : List ℕ). x.0 ∷ l) (meant_places xs)

  -- marks that say of each place what the parts in hand say
  pub same_marks : (ys : List (Mark M E)) (held : List (ℕ × T)) → known ys ≡ meant meaning held → logs_of ys ≡ meant log held → ys ≡ marks_of meaning log held
  same_marks [] [] k l = refl
  same_marks [] (x ∷ xs) k l = let n : 0 ≡ suc (length (meant meaning xs)) = ap length k in absurd (omega arith)
  same_marks (y ∷ ys) [] k l = let n : suc (length (known ys)) ≡ 0 = ap length k in absurd (omega arith)
  same_marks (y ∷ ys) (x ∷ xs) k l =
      let one : (y.place, y.meaning) ≡ (x.0, meaning x.1) = ap (first_or (y.place, y.meaning)) k in
      let two : (y.place, y.log) ≡ (x.0, log x.1) = ap (first_or (y.place, y.log)) l in
      let r = same_marks ys xs (ap tail_of k) (ap tail_of l) in
      λ i. mark (one i).0 (one i).1 (two i).1 ∷ r i

module _ {M : Type 0} (fits : ℕ → M → Type 0) (n : ℕ) where
  fit_at : (all : List M) (p : ℕ) (m : M) → AllFit fits n all → get_elem? all p ≡ some m → fits n m
  fit_at [] p m f e = absurd (some-ne-none m (sym e))
  fit_at (y ∷ ys) zero m f e = subst (fits n) (some-injective y m e) f.0
  fit_at (y ∷ ys) (suc p) m f e = fit_at ys p m f.1 e

  pub held_fit : (all : List M) (held : List (ℕ × M)) → AllFit fits n all → Fits all held → HeldFit fits n held
  held_fit all [] a f = tt
  held_fit all (x ∷ xs) a f = (fit_at all x.0 x.1 a f.0, held_fit all xs a f.1)

  pub fit_later : (k : ℕ) (held : List (ℕ × M)) → ((m : M) → fits n m → fits k m) → HeldFit fits n held → HeldFit fits k held
  fit_later k [] more f = tt
  fit_later k (x ∷ xs) more f = (more x.1 f.0, fit_later k xs more f.1)

module _ {E : Type 0} where
  before_end : (h : List E) (l : List (ℕ × E)) → InHistory h l → AllBefore (length h + 1) l
  before_end h [] s = tt
  before_end h (x ∷ xs) s = (let i = inside h s.0.0 x.1 s.0.2 in let e = s.0.1 in omega arith, before_end h xs s.1)

  above : (h : List E) (k : ℕ) (logs : List (List (ℕ × E))) (held : List (ℕ × List (ℕ × E))) → Fits logs held → ((p : ℕ) (l : List (ℕ × E)) → get_elem? logs p ≡ some l → InHistory h l) → IsAbove (length h + 1) k held
  above h k logs [] f i = tt
  above h k logs (x ∷ xs) f i = (λ _. before_end h x.1 (i x.0 x.1 f.0), above h k logs xs f.1 i)

module _ {P T M E : Type 0} (machine : P → Machine M E) (meaning : T → M) (log : T → List (ℕ × E)) (a : About P M) where
  -- what a look at the clock tells of the parts in hand
  pub record Shows (n : ℕ) (v : View P M E) (held : List (ℕ × T)) : Type 0 where
    pub history : List E
    pub count : length history ≡ n
    pub small : n ≤ 4611686018427387904
    pub suits : Suits machine history v a
    pub sound : (machine a.rules).sound (leads (machine a.rules) a.opening history)
    pub gives : Fits (leads (machine a.rules) a.opening history) (meant meaning held)
    pub fit : HeldFit (machine a.rules).fits n (meant meaning held)
    pub above : (k : ℕ) → IsAbove (n + 1) k (meant log held)

  pub shows : (slots n : ℕ) (v : View P M E) (held : List (ℕ × T)) → v.marks ≡ marks_of meaning log held → Sees machine slots a n v → Shows n v held
  shows slots n v held tied s =
      let now : List M = leads (machine a.rules) a.opening s.history in
      let gives : Fits now (meant meaning held) = subst (Fits now) (ap known tied ∙ known_of meaning log held) s.gives in
      let logs : Fits s.logged_once.0 (meant log held) = subst (Fits s.logged_once.0) (ap logs_of tied ∙ logs_of_marks meaning log held) s.logged_once.2 in
      record {
        history = s.history;
        count = s.count;
        small = s.small;
        suits = s.suits;
        sound = s.sound;
        gives = gives;
        fit = held_fit (machine a.rules).fits n now (meant meaning held) s.fit gives;
        above = λ k. subst (λ (c : ℕ). IsAbove (c + 1) k (meant log held)) s.count (above s.history k s.logged_once.0 (meant log held) logs s.logged_once.3);
      }

  pub some_fits : (n : ℕ) (v : View P M E) (held : List (ℕ × T)) (it : P) → a.rules ≡ it → Shows n v held → SomeFits (machine it) (meant meaning held)
  some_fits n v held it is s = subst (λ (p : P). SomeFits (machine p) (meant meaning held)) is (leads (machine a.rules) a.opening s.history, s.sound, s.gives)

  pub fit_all : (n : ℕ) (v : View P M E) (held : List (ℕ × T)) (it : P) → a.rules ≡ it → Lawful (machine it) → Shows n v held → HeldFit (machine it).fits 4611686018427387904 (meant meaning held)
  fit_all n v held it is lawful s = let small = s.small in fit_later (machine it).fits n 4611686018427387904 (meant meaning held) (λ m f. lawful.fits_more n 4611686018427387904 m small f) (subst (λ (p : P). HeldFit (machine p).fits n (meant meaning held)) is s.fit)

  pub gives_these : (n : ℕ) (v : View P M E) (held : List (ℕ × T)) → Shows n v held → Gives machine meaning a v held
  gives_these n v held s = (s.history, s.suits, s.sound, s.gives)

  -- what a commit owes, once the parts in hand are held'
  pub record Made (v w : View P M E) (held : List (ℕ × T)) (e : E) (r : ℕ) (held' : List (ℕ × T)) : Type 0 where
    pub marks : w.marks ≡ marks_of meaning log held'
    pub about : w.about ≡ a ∷ []
    pub more : gathered w ≡ gathered v + 1
    pub makes : Makes machine meaning a v held (r + 1) e w held'

  gathered_more : (v : View P M E) (r : ℕ) (e : E) (ys : List (Mark M E)) → gathered (committing v r e ys) ≡ gathered v + 1
  gathered_more v r e ys = let long = longer v.own (commit r e (known v.marks)) in omega arith

  pub made : (slots : ℕ) (v w : View P M E) (held held' : List (ℕ × T)) (e : E) (r : ℕ)
      → v.marks ≡ marks_of meaning log held → v.about ≡ a ∷ [] → Committed machine slots a e r v w → IsReady (machine a.rules) (meant meaning held) e
      → places_of held' ≡ places_of held
      → ((all : List M) → (machine a.rules).sound all → Fits all (meant meaning held) → Fits ((machine a.rules).after all e) (meant meaning held'))
      → meant log held' ≡ appended ((machine a.rules).keeper e) (r + 1, e) (meant log held)
      → Made v w held e r held'
  made slots v w held held' e r tied about told ready places after logs =
      let x : Machine M E = machine a.rules in
      let s = told.sees in
      let h : List E = s.history in
      let ys : List (Mark M E) = told.marks in
      let is : w ≡ committing v (r + 1) e ys = told.is in
      let before : known v.marks ≡ meant meaning held = ap known tied ∙ known_of meaning log held in
      let fits : Fits (leads x a.opening h) (meant meaning held) = subst (Fits (leads x a.opening h)) before s.gives in
      let then : Fits (x.after (leads x a.opening h) e) (meant meaning held') = after (leads x a.opening h) s.sound fits in
      let old_places : map (λ y. y.place) v.marks ≡ places_of held = sym (known_places v.marks) ∙ (ap (λ (l : List (ℕ × M)). map (λ x. x.0) l) before ∙ meant_places meaning log held) in
      let one : known ys ≡ meant meaning held' = fits_once (x.after (leads x a.opening h) e) (known ys) (meant meaning held') told.gives then
      (known_places ys ∙ (told.places ∙ (old_places ∙ (sym places ∙ sym (meant_places meaning log held'))))) in
      let two : logs_of ys ≡ meant log held' = told.logs ∙ (ap (λ (l : List (Mark M E)). appended (x.keeper e) (r + 1, e) (logs_of l)) tied ∙ (ap (appended (x.keeper e) (r + 1, e)) (logs_of_marks meaning log held) ∙ sym logs)) in
      let number : length h + 1 ≡ r + 1 = ap (λ (n : ℕ). n + 1) s.count in
      let long = longer h e in
      let own_all : AllStand x a.opening (h ++ e ∷ []) (v.own ++ commit (length h + 1) e (known v.marks) ∷ []) = all_snoc x a.opening h e (known v.marks) v.own s.gives s.suits.2 in
      let suits : Suits machine (h ++ e ∷ []) (committing v (r + 1) e ys) a = (
        legal_snoc x a.opening h e s.suits.0 (ready (leads x a.opening h) s.sound fits).0,
        omega arith,
        subst (λ (n : ℕ). AllStand x a.opening (h ++ e ∷ []) (v.own ++ commit n e (known v.marks) ∷ [])) number own_all,
        each_longer x a.opening h e v.ended s.suits.3,
      ) in
      record {
        marks = ap (λ z. z.marks) is ∙ same_marks meaning log ys held' one two;
        about = ap (λ z. z.about) is ∙ about;
        more = ap gathered is ∙ gathered_more v (r + 1) e ys;
        makes = record {
          history = h;
          number = number;
          suits = s.suits;
          sound = s.sound;
          before = fits;
          after = then;
          same_places = places;
          suits_after = subst (λ (z : View P M E). Suits machine (h ++ e ∷ []) z a) (sym is) suits;
          seen = ap (λ (z : View P M E). z.seen) is;
          own = ap (λ (z : View P M E). z.own) is ∙ ap (λ (b : List (ℕ × M)). v.own ++ commit (r + 1) e b ∷ []) before;
          ended = ap (λ (z : View P M E). z.ended) is;
          missed = ap (λ (z : View P M E). z.missed) is;
          had = ap (λ (z : View P M E). z.had) is;
          met = ap (λ (z : View P M E). z.met) is;
          branches = ap (λ (z : View P M E). z.branches) is;
          raised = ap (λ (z : View P M E). z.raised) is;
          knows = ap (λ (z : View P M E). z.knows) is;
          quiet = ap (λ (z : View P M E). z.quiet) is;
        };
      }

module _ {T : Type 0} where
  pub emptied_snoc : (ps : List ℕ) (p : ℕ) → emptied {T = T} (ps ++ p ∷ []) ≡ (p, None) ∷ emptied {T = T} ps
  emptied_snoc [] p = refl
  emptied_snoc (q ∷ qs) p = ap (λ (l : List (ℕ × Option T)). l ++ (q, None) ∷ []) (emptied_snoc qs p)

  pub places_snoc : (held : List (ℕ × T)) (p : ℕ) (x : T) → places_of (held ++ (p, x) ∷ []) ≡ places_of held ++ p ∷ []
  places_snoc [] p x = refl
  places_snoc (y ∷ ys) p x = ap (λ (l : List ℕ). y.0 ∷ l) (places_snoc ys p x)

  pub places_many : (held : List (ℕ × T)) → length (places_of held) ≡ length held
  places_many [] = refl
  places_many (y ∷ ys) = ap suc (places_many ys)

pub marks_snoc : {T M E : Type 0} (meaning : T → M) (log : T → List (ℕ × E)) (held : List (ℕ × T)) (p : ℕ) (x : T) → marks_of meaning log (held ++ (p, x) ∷ []) ≡ marks_of meaning log held ++ mark p (meaning x) (log x) ∷ []
marks_snoc meaning log [] p x = refl
marks_snoc {M = M} {E = E} meaning log (y ∷ ys) p x = ap (λ (l : List (Mark M E)). mark y.0 (meaning y.1) (log y.1) ∷ l) (marks_snoc meaning log ys p x)

pub room_left : (many listed place places slots held_slots room : ℕ) → listed ≡ many → 0 + listed ≤ place → place < places → slots ≡ places → held_slots ≡ slots → held_slots ≤ room → many < room
room_left many listed place places slots held_slots room b c d e f g = omega arith

-- counts that stop at the last u64 add up
pub counts_more : (a b sum n k more last : ℕ) → a ≡ min n last → b ≡ min k last → sum ≡ min (a + b) last → more ≡ n + k → sum ≡ min more last
counts_more a b sum n k more last e f g h = omega arith

module _ {T M E : Type 0} (meaning : T → M) (log : T → List (ℕ × E)) where
  pub still_marks : (held held' : List (ℕ × T)) → meant meaning held' ≡ meant meaning held → meant log held' ≡ meant log held → marks_of meaning log held ≡ marks_of meaning log held'
  still_marks held held' m l = same_marks meaning log (marks_of meaning log held) held' (known_of meaning log held ∙ sym m) (logs_of_marks meaning log held ∙ sym l)

  pub still_places : (held held' : List (ℕ × T)) → meant meaning held' ≡ meant meaning held → places_of held' ≡ places_of held
  still_places held held' m = sym (meant_places meaning log held') ∙ (ap (λ (l : List (ℕ × M)). map (λ x. x.0) l) m ∙ meant_places meaning log held)

-- in a rising list the last place is none of the others
pub last_apart : {T M E : Type 0} (meaning : T → M) (log : T → List (ℕ × E)) (low : ℕ) (held : List (ℕ × T)) (p : ℕ) → rises_from low (places_of held ++ p ∷ []) ≡ true → (z : Mark M E) → Has (marks_of meaning log held) z → z.place ≢ p
last_apart meaning log low [] p h z has = absurd has
last_apart {M = M} {E = E} meaning log low (y ∷ ys) p h z has = ⊎_elim
    (λ (t : mark y.0 (meaning y.1) (log y.1) ≡ z). λ e. let short = rising_short (y.0 + 1) (places_of ys) p (and_second (nat_lt low (y.0 + 1)) _ h) in let same : y.0 ≡ p = ap (λ (m : Mark M E). m.place) t ∙ e in omega arith)
    (λ rest. last_apart meaning log (y.0 + 1) ys p (and_second (nat_lt low (y.0 + 1)) _ h) z rest) has

-- a pass whose last part is x, which it has at p
pub record Last {T M E : Type 0} (meaning : T → M) (log : T → List (ℕ × E)) (slots : ℕ) (marks : List (Mark M E)) (out : List (ℕ × Option T)) (held : List (ℕ × T)) (p : ℕ) (x : T) : Type 0 where
  pub marked : marks ≡ marks_of meaning log held ++ mark p (meaning x) (log x) ∷ []
  pub emptied_at : out ≡ (p, None) ∷ emptied (places_of held)
  pub apart : (z : Mark M E) → Has (marks_of meaning log held) z → z.place ≢ p
  pub rising : rises_from 0 (places_of held) ≡ true
  pub within : all_below slots (places_of held) ≡ true
  pub below : p < slots

pub last_of : {T M E : Type 0} (meaning : T → M) (log : T → List (ℕ × E)) (slots : ℕ) (marks : List (Mark M E)) (out : List (ℕ × Option T)) (old held : List (ℕ × T)) (p : ℕ) (x : T) → old ≡ held ++ (p, x) ∷ []
    → marks ≡ marks_of meaning log old → out ≡ emptied (places_of old) → rises_from 0 (places_of old) ≡ true → all_below slots (places_of old) ≡ true → Last meaning log slots marks out held p x
last_of {T} {M} {E} meaning log slots marks out old held p x is tied gone rising within =
    let places : places_of old ≡ places_of held ++ p ∷ [] = ap places_of is ∙ places_snoc held p x in
    let rises : rises_from 0 (places_of held ++ p ∷ []) ≡ true = subst (λ (l : List ℕ). rises_from 0 l ≡ true) places rising in
    let low = below_last slots (places_of held) p (subst (λ (l : List ℕ). all_below slots l ≡ true) places within) in
    record {
      marked = tied ∙ (ap (marks_of meaning log) is ∙ marks_snoc meaning log held p x);
      emptied_at = gone ∙ (ap (emptied {T = T}) places ∙ emptied_snoc (places_of held) p);
      apart = last_apart meaning log 0 held p rises;
      rising = rises_front 0 (places_of held) p rises;
      within = low.0;
      below = low.1;
    }
