-- What a port answers to a letter behind another.
use Rattle.std.proofs.Common.{◌≡◌, ℕ, suc, ◌+◌, ◌<◌, ◌≤◌, Bool, true, false, List, [], ◌∷◌, ◌++◌, length, refl, sym, ap, ◌∙◌, arith, length-append}
use Rattle.std.specs.Prelude.{not, nat_le, filter, if◌then◌else◌}
use Rattle.std.proofs.lemmas.Bool.Decides.{nat_tests}
use Rattle.std.proofs.lemmas.List.{drop-append-le}
use Rattle.be_message.specs.Messages.{Message}
use Rattle.be_port.specs.Ports.{Letter, Port, counted, is_accepted, judged, posted, queue_of, with_letter}
use Rattle.be_port.specs.Queues as queue
use Rattle.be_port.specs.Queues.{Queue, answer}
use Rattle.be_port.specs.StandsFor.{PortStandsFor}
use Rattle.be_port.specs.declared.Posted.{Posted}
use Rattle.be_port.specs.declared.Posted.TheVariants.{Accepted, WouldBlock, BadPort, TooDeep}
use Rattle.be_port.proofs.LawLemmas.{answers, same_counted}

-- ---- one letter more is counted

counted_by : (xs : List (Letter Message)) (x m : Letter Message) (b : Bool) → x.notice ≡ b → length (filter (λ l. not l.notice) (xs ++ m ∷ [])) ≡ length (filter (λ l. not l.notice) xs) + 1 → length (filter (λ l. not l.notice) (x ∷ (xs ++ m ∷ []))) ≡ length (filter (λ l. not l.notice) (x ∷ xs)) + 1
counted_by xs x m true is rest = rw is rest
counted_by xs x m false is rest = rw is (let more : suc (length (filter (λ (l : Letter Message). not l.notice) (xs ++ m ∷ []))) ≡ suc (length (filter (λ (l : Letter Message). not l.notice) xs)) + 1 = omega (arith, rest) in more)

one_counted : (xs : List (Letter Message)) (m : Letter Message) → m.notice ≡ false → length (filter (λ l. not l.notice) (xs ++ m ∷ [])) ≡ length (filter (λ l. not l.notice) xs) + 1
one_counted [] m e = rw e refl
one_counted (x ∷ xs) m e = counted_by xs x m x.notice refl (one_counted xs m e)

-- ---- a port

module _ (p : Port Message) where
  shut : p.closed ≡ true → judged p 0 ≡ BadPort
  unfolding judged
  shut e = rw e refl

  full : p.closed ≡ false → nat_le p.capacity (counted p) ≡ true → judged p 0 ≡ WouldBlock (counted p)
  unfolding judged
  full e f = rw (e, f) refl

  takes : p.closed ≡ false → nat_le p.capacity (counted p) ≡ false → judged p 0 ≡ Accepted (length p.arrived + 1)
  unfolding judged
  takes e f = rw (e, f) refl

  record IsTaken (n : ℕ) : Type 0 where
    open_is : p.closed ≡ false
    room : nat_le p.capacity (counted p) ≡ false
    number : n ≡ length p.arrived + 1

  taken_by : (n : ℕ) (shut_is full_is : Bool) → p.closed ≡ shut_is → nat_le p.capacity (counted p) ≡ full_is → judged p 0 ≡ Accepted n → IsTaken n
  taken_by n true b e f is = let other : BadPort ≡ Accepted n = sym (shut e) ∙ is in absurd (cc)
  taken_by n false true e f is = let other : WouldBlock (counted p) ≡ Accepted n = sym (full e f) ∙ is in absurd (cc)
  taken_by n false false e f is = let same : Accepted (length p.arrived + 1) ≡ Accepted n = sym (takes e f) ∙ is in record { open_is = e; room = f; number = cc }

  module _ (letter : Letter Message) (hop : letter.hop ≡ 0) (ordinary : letter.notice ≡ false) where
    refused : is_accepted (judged p 0) ≡ false → posted letter p ≡ p
    unfolding posted
    refused e = ap (λ b. if b then with_letter letter p else p) (ap (λ h. is_accepted (judged p h)) hop ∙ e)

    with_one : is_accepted (judged p 0) ≡ true → posted letter p ≡ with_letter letter p
    unfolding posted
    with_one e = ap (λ b. if b then with_letter letter p else p) (ap (λ h. is_accepted (judged p h)) hop ∙ e)

    counted_more : p.taken ≤ length p.arrived → counted (with_letter letter p) ≡ counted p + 1
    counted_more few =
        ap (λ (ls : List (Letter Message)). length (filter (λ l. not l.notice) ls)) (drop-append-le p.taken p.arrived (letter ∷ []) few)
        ∙ one_counted (queue_of p) letter ordinary

    arrived_more : length (with_letter letter p).arrived ≡ length p.arrived + 1
    arrived_more = length-append p.arrived (letter ∷ []) ∙ (let one : length p.arrived + length (letter ∷ []) ≡ length p.arrived + 1 = omega arith in one)

-- ---- what the queue answers

module _ (q : Queue) (p : Port Message) (h : PortStandsFor q p) (letter : Letter Message) (hop : letter.hop ≡ 0) (ordinary : letter.notice ≡ false) where
  counted_is : queue.counted q ≡ counted p
  counted_is = same_counted q.letters (queue_of p) h.letters

  -- one that refuses the first refuses the second alike
  pub refused_again : (x : Posted) → x ≡ answer q 0 → ((n : ℕ) → x ≡ Accepted n → ⊥) → x ≡ judged (posted letter p) 0
  refused_again x is out =
      let same : x ≡ judged p 0 = is ∙ answers q p h 0 in
      same ∙ ap (λ r. judged r 0) (sym (refused p letter hop ordinary (ap is_accepted (sym same) ∙ no_number x out)))
    where
      no_number : (y : Posted) → ((n : ℕ) → y ≡ Accepted n → ⊥) → is_accepted y ≡ false
      no_number (Accepted n) none = absurd (none n refl)
      no_number (WouldBlock count) none = refl
      no_number BadPort none = refl
      no_number TooDeep none = refl

  module _ (n : ℕ) (is : Accepted n ≡ answer q 0) (count : ℕ) (many : count ≡ queue.counted q + 1) where
    first_is : judged p 0 ≡ Accepted n
    first_is = sym (is ∙ answers q p h 0)

    taken : IsTaken p n
    taken = taken_by p n p.closed (nat_le p.capacity (counted p)) refl refl first_is

    after_is : posted letter p ≡ with_letter letter p
    after_is = with_one p letter hop ordinary (ap is_accepted first_is)

    counted_then : counted (with_letter letter p) ≡ count
    counted_then = counted_more p letter hop ordinary h.taken ∙ ap (λ k. k + 1) (sym counted_is) ∙ sym many

    -- the place was the last
    pub full_behind : q.capacity ≤ count → WouldBlock count ≡ judged (posted letter p) 0
    full_behind le =
        let cap : q.capacity ≡ p.capacity = h.capacity in
        let over : p.capacity ≤ count = omega (arith, le, cap) in
        let yes : nat_le p.capacity count ≡ true = grind (arith, nat_tests) in
        sym (ap (λ r. judged r 0) after_is
        ∙ full (with_letter letter p) taken.open_is (ap (nat_le p.capacity) counted_then ∙ yes)
        ∙ ap (λ k. WouldBlock k) counted_then)

    pub free_behind : count < q.capacity → Accepted (n + 1) ≡ judged (posted letter p) 0
    free_behind lt =
        let cap : q.capacity ≡ p.capacity = h.capacity in
        let under : count < p.capacity = omega (arith, lt, cap) in
        let more : nat_le p.capacity count ≡ false = grind (arith, nat_tests) in
        let number : n ≡ length p.arrived + 1 = taken.number in
        sym (ap (λ r. judged r 0) after_is
        ∙ takes (with_letter letter p) taken.open_is (ap (nat_le p.capacity) counted_then ∙ more)
        ∙ ap (λ k. Accepted (k + 1)) (arrived_more p letter hop ordinary ∙ sym number))
