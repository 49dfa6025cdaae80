-- A queue that forgets what was taken stands for a port that remembers it.
use Rattle.std.proofs.Common.{◌≡◌, ℕ, zero, suc, ◌+◌, ◌-◌, ◌<◌, Bool, true, false, not, ◌||◌, if◌then◌else◌, List, [], ◌∷◌, ◌++◌, length, filter, map, drop, slice_get, Some, None, refl, ap, sym, subst, ◌∙◌, ⊎_elim, arith, length-append, length-drop}
use Rattle.std.specs.List.{AllZip, list_any, range_with_len}
use Rattle.std.proofs.lemmas.Bool.{cases_Bool}
use Rattle.std.proofs.lemmas.List.{map-append, drop-append-le, drop-drop}
use Rattle.be_message.specs.Messages.{Message}
use Rattle.be_port.specs.declared.letter.Letter as held
use Rattle.be_port.specs.Ports as port
use Rattle.be_port.specs.Queues.{Queue, answer, holds_notice, with_letter, after_take}
use Rattle.be_port.specs.StandsFor.{Carries, LetterStandsFor, PortStandsFor}
use Rattle.be_port.specs.Laws.{AnswersAsPort, PostsAsPort, NoticesAsPort, TakesAsPort, EmptyAsPort}

abbrev pub number_of : held.Letter → ℕ
number_of l = l.number

abbrev pub Letters : Type 0
Letters = List (port.Letter Message)

-- ---- what is looked for in the letters

pub same_counted : (xs : List held.Letter) (ys : Letters) → AllZip LetterStandsFor xs ys →
    length (filter (λ l. not l.notice) xs) ≡ length (filter (λ l. not l.notice) ys)
same_counted [] [] h = refl
same_counted [] (y ∷ ys) h = absurd h
same_counted (x ∷ xs) [] h = absurd h
same_counted (x ∷ xs) (y ∷ ys) h =
    let same : x.notice ≡ y.notice = h.0.notice in
    let rest = same_counted xs ys h.1 in
    ⊎_elim
    (λ (e : x.notice ≡ true). let f : y.notice ≡ true = sym same ∙ e in rw (e, f) rest)
    (λ (e : x.notice ≡ false). let f : y.notice ≡ false = sym same ∙ e in rw (e, f) (ap suc rest))
    (cases_Bool x.notice)

pub same_any : (xs : List held.Letter) (ys : Letters) → AllZip LetterStandsFor xs ys →
    list_any (λ l. l.notice) xs ≡ list_any (λ l. l.notice) ys
same_any [] [] h = refl
same_any [] (y ∷ ys) h = absurd h
same_any (x ∷ xs) [] h = absurd h
same_any (x ∷ xs) (y ∷ ys) h =
    ap (λ (b : Bool). b || list_any (λ l. l.notice) xs) h.0.notice ∙ ap (λ (b : Bool). y.notice || b) (same_any xs ys h.1)

pub same_length : (xs : List held.Letter) (ys : Letters) → AllZip LetterStandsFor xs ys → length xs ≡ length ys
same_length [] [] h = refl
same_length [] (y ∷ ys) h = absurd h
same_length (x ∷ xs) [] h = absurd h
same_length (x ∷ xs) (y ∷ ys) h = ap suc (same_length xs ys h.1)

pub as_many : (q : Queue) (p : port.Port Message) → PortStandsFor q p → length q.letters ≡ length p.arrived - p.taken
as_many q p h = same_length q.letters (port.queue_of p) h.letters ∙ length-drop p.taken p.arrived

pub answers : AnswersAsPort
unfolding port.judged
answers q p h hop = rw (h.closed, h.capacity, h.last, same_counted q.letters (port.queue_of p) h.letters) refl

-- ---- a letter more

pub one_more : (xs : List held.Letter) (ys : Letters) (x : held.Letter) (y : port.Letter Message) → AllZip LetterStandsFor xs ys →
    LetterStandsFor x y → AllZip LetterStandsFor (xs ++ x ∷ []) (ys ++ y ∷ [])
one_more [] [] x y h last = (last, tt)
one_more [] (b ∷ ys) x y h last = absurd h
one_more (a ∷ xs) [] x y h last = absurd h
one_more (a ∷ xs) (b ∷ ys) x y h last = (h.0, one_more xs ys x y h.1 last)

pub range-more : (a n j : ℕ) → a + n ≡ j → range_with_len a (suc n) ≡ range_with_len a n ++ j ∷ []
range-more a zero j e = let same : a ≡ j = omega arith in ap (λ (k : ℕ). k ∷ []) same
range-more a (suc n) j e = ap (λ (ks : List ℕ). a ∷ ks) (range-more (a + 1) n j (omega arith))

pub with_letter_stands : (notice : Bool) (q : Queue) (p : port.Port Message) → PortStandsFor q p → (l : held.Letter) (m : port.Letter Message) →
    Carries l m → m.notice ≡ notice → PortStandsFor (with_letter notice l q) (port.with_letter m p)
with_letter_stands notice q p h l m carries is =
    let new : held.Letter = record l { number = q.last + 1; notice = notice } in
    let stands : LetterStandsFor new m = record {
      carried = record { sender = carries.sender; target = carries.target; hop = carries.hop; duty = carries.duty; body = carries.body };
      notice = sym is;
    } in
    let more : length (q.letters ++ new ∷ []) ≡ suc (length q.letters) = length-append q.letters (new ∷ []) ∙ omega arith in
    let next : p.taken + 1 + length q.letters ≡ q.last + 1 = omega (arith, h.last, h.taken, as_many q p h) in
    record {
      letters = subst (λ (ys : Letters). AllZip LetterStandsFor (q.letters ++ new ∷ []) ys) (sym (drop-append-le p.taken p.arrived (m ∷ []) h.taken))
          (one_more q.letters (port.queue_of p) new m h.letters stands);
      numbers = map-append number_of q.letters (new ∷ [])
          ∙ ap (λ (ks : List ℕ). ks ++ (q.last + 1) ∷ []) h.numbers
          ∙ sym (range-more (p.taken + 1) (length q.letters) (q.last + 1) next)
          ∙ ap (range_with_len (p.taken + 1)) (sym more);
      last = omega (arith, h.last, length-append p.arrived (m ∷ []));
      taken = omega (arith, h.taken, length-append p.arrived (m ∷ []));
      capacity = h.capacity;
      closed = h.closed;
    }

-- both with the letter, or both without
pub either_stands : (b : Bool) (r q : Queue) (s p : port.Port Message) → PortStandsFor r s → PortStandsFor q p →
    PortStandsFor (if b then r else q) (if b then s else p)
either_stands true r q s p with without = with
either_stands false r q s p with without = without

pub posts : PostsAsPort
unfolding port.posted
posts q p h l m carries is =
    let same : answer q l.hop ≡ port.judged p m.hop = answers q p h l.hop ∙ ap (λ (hop : ℕ). port.judged p hop) carries.hop in
    rw same
    (either_stands (port.is_accepted (port.judged p m.hop)) (with_letter false l q) q (port.with_letter m p) p
    (with_letter_stands false q p h l m carries is) h)

pub neither : {A : Type 0} (a b : Bool) (x y : A) → a ≡ false → b ≡ false → (if a then x else if b then x else y) ≡ y
neither a b x y e f = rw (e, f) refl

pub notices : NoticesAsPort
notices q p h l m carries is not_closed none_waits =
    let shut : q.closed ≡ false = h.closed ∙ not_closed in
    let waits : holds_notice q ≡ false = same_any q.letters (port.queue_of p) h.letters ∙ none_waits in
    let more = neither q.closed (holds_notice q) q (with_letter true l q) shut waits in
    (rw (shut, waits, h.last) refl, subst (λ (r : Queue). PortStandsFor r (port.with_letter m p)) (sym more) (with_letter_stands true q p h l m carries is))

-- ---- a letter less

pub one_less : (xs : List held.Letter) (ys : Letters) → AllZip LetterStandsFor xs ys → AllZip LetterStandsFor (drop 1 xs) (drop 1 ys)
one_less [] [] h = tt
one_less [] (y ∷ ys) h = absurd h
one_less (x ∷ xs) [] h = absurd h
one_less (x ∷ xs) (y ∷ ys) h = h.1

pub numbers_left : (xs : List held.Letter) (a : ℕ) → map number_of xs ≡ range_with_len a (length xs) →
    map number_of (drop 1 xs) ≡ range_with_len (a + 1) (length (drop 1 xs))
numbers_left [] a e = refl
numbers_left (x ∷ xs) a e = cc

pub first_number : (xs : List held.Letter) (a : ℕ) (l : held.Letter) → map number_of xs ≡ range_with_len a (length xs) → slice_get xs 0 ≡ Some l → l.number ≡ a
first_number [] a l e is = cc
first_number (x ∷ xs) a l e is = cc

pub first_stands : (xs : List held.Letter) (ys : Letters) (l : held.Letter) → AllZip LetterStandsFor xs ys → slice_get xs 0 ≡ Some l →
    (m : port.Letter Message) × (slice_get ys 0 ≡ Some m) × LetterStandsFor l m
first_stands [] [] l h is = cc
first_stands [] (y ∷ ys) l h is = absurd h
first_stands (x ∷ xs) [] l h is = absurd h
first_stands (x ∷ xs) (y ∷ ys) l h is = let same : x ≡ l = cc in (y, refl, subst (λ (a : held.Letter). LetterStandsFor a y) same h.0)

pub none_there : (xs : List held.Letter) (ys : Letters) → AllZip LetterStandsFor xs ys → slice_get xs 0 ≡ None →
    (slice_get ys 0 ≡ None) × (length ys ≡ 0)
none_there [] [] h is = (refl, refl)
none_there [] (y ∷ ys) h is = absurd h
none_there (x ∷ xs) [] h is = absurd h
none_there (x ∷ xs) (y ∷ ys) h is = cc

pub some_there : (xs : List held.Letter) (l : held.Letter) → slice_get xs 0 ≡ Some l → 0 < length xs
some_there [] l is = cc
some_there (x ∷ xs) l is = omega arith

pub first_of_rest : {A : Type 0} (n : ℕ) (xs : List A) → slice_get (drop n xs) 0 ≡ slice_get xs n
first_of_rest zero xs = refl
first_of_rest (suc n) [] = refl
first_of_rest (suc n) (x ∷ xs) = first_of_rest n xs

pub take_stands : (q : Queue) (p : port.Port Message) → PortStandsFor q p → 0 < length q.letters → PortStandsFor (after_take q) (port.without_front p)
take_stands q p h some = record {
  letters = subst (λ (ys : Letters). AllZip LetterStandsFor (drop 1 q.letters) ys) (drop-drop 1 p.taken p.arrived) (one_less q.letters (port.queue_of p) h.letters);
  numbers = numbers_left q.letters (p.taken + 1) h.numbers;
  last = h.last;
  taken = omega (arith, h.taken, as_many q p h);
  capacity = h.capacity;
  closed = h.closed;
}

pub takes : TakesAsPort
takes q p h l is =
    let first = first_stands q.letters (port.queue_of p) l h.letters is in (
      first.0,
      sym (first_of_rest p.taken p.arrived) ∙ first.1,
      first.2,
      first_number q.letters (p.taken + 1) l h.numbers is,
      take_stands q p h (some_there q.letters l is),
    )

pub empty : EmptyAsPort
empty q p h is =
    let none = none_there q.letters (port.queue_of p) h.letters is in (sym (first_of_rest p.taken p.arrived) ∙ none.0, none.1)
