-- Letters arrive with the next numbers, and are taken in that order.
use Rattle.std.proofs.Common.{◌≡◌, ℕ, ◌+◌, ◌<◌, Bool, true, false, [], ◌∷◌, length, Some, refl, sym, ap, subst, ◌∙◌, arith, length-append}
use Rattle.std.specs.Prelude.{slice_get, ◌==◌, if◌then◌else◌}
use Rattle.std.proofs.lemmas.Option.{slice_get_within}
use Rattle.be_message.specs.Messages.{Message}
use Rattle.be_port.specs.declared.Posted.{Posted}
use Rattle.be_port.specs.declared.Posted.TheVariants.{Accepted, WouldBlock, BadPort, TooDeep}
use Rattle.be_port.specs.Ports.{Letter, Port, judged, posted, is_accepted, with_letter, front, without_front, closed_port}
use Rattle.be_script.specs.Script.{Declared}
use Rattle.be_machine.specs.Happenings.{arrived, took, of_posted, only}
use Rattle.be_machine.specs.Lists.{at}
use Rattle.be_machine.specs.Orderly.{Tally, IsUnheld}
use Rattle.be_machine.specs.Port.{with_post, notice, notified, with_letter_in_hand}
use Rattle.be_machine.specs.State.{State, free}
use Rattle.be_machine.proofs.Lists.{AtPlace, same_element, place_here, place_elsewhere, place_kept}
use Rattle.be_machine.proofs.Tallied.{is_locked, OfPort, OfLooper, IsTallied, GoesOn, nothing_happens, at_window}

-- ---- posts

number_judged : (a b c : Bool) (k m n : ℕ) → (if a then BadPort else if b then TooDeep else if c then WouldBlock k else Accepted m) ≡ Accepted n → m ≡ n
number_judged true b c k m n e = cc
number_judged false true c k m n e = cc
number_judged false false true k m n e = cc
number_judged false false false k m n e = cc

-- a letter that is accepted gets the next number
pub accepted_number : (p : Port Message) (hop n : ℕ) → judged p hop ≡ Accepted n → length p.arrived + 1 ≡ n
unfolding judged
accepted_number p hop n e = number_judged p.closed _ _ _ (length p.arrived + 1) n e

posted_as : (p : Port Message) (letter : Letter Message) (o : Posted) → judged p letter.hop ≡ o → posted letter p ≡ (if is_accepted o then with_letter letter p else p)
unfolding posted
posted_as p letter o e = rw e refl

-- a letter more in the port
letter_more : (t : Tally) (letter : Letter Message) (p q : Port Message) → q ≡ with_letter letter p → OfPort t p → OfPort (record t { arrived_count = t.arrived_count + 1 }) q
letter_more t letter p q e old =
    let one : length q.arrived ≡ length p.arrived + 1 = ap (λ (x : Port Message). length x.arrived) e ∙ length-append p.arrived (letter ∷ []) in
    record { arrived_are = omega (arith, old.arrived_are); taken_are = old.taken_are ∙ ap (λ (x : Port Message). x.taken) (sym e); within = omega (arith, old.within) }

arrives : (s : State) (v n : ℕ) (t : Tally) (f : Port Message → Port Message) (letter : Letter Message) (p : Port Message) → slice_get s.ports v ≡ Some p → length p.arrived + 1 ≡ n → f p ≡ with_letter letter p → IsTallied s v t → GoesOn (record s { ports = at s.ports v f }) v t (arrived n ∷ [])
arrives s v n t f letter p read number is h =
    let u : Tally = record t { arrived_count = t.arrived_count + 1 } in
    let here : OfPort t p = h.port p read in
    record {
      in_turn = (omega (arith, here.arrived_are), tt);
      tallied = record {
        port = place_here (OfPort t) (OfPort u) s.ports v f (λ x there old.
            let same : p ≡ x = same_element s.ports v p x read there in
            letter_more t letter x (f x) (subst (λ y. f y ≡ with_letter letter y) same is) old) h.port;
        looper = h.looper;
        buffer = h.buffer;
        link = h.link;
      };
    }

-- the port stays
port_stays : (s : State) (v : ℕ) (t : Tally) (f : Port Message → Port Message) (p : Port Message) → slice_get s.ports v ≡ Some p → f p ≡ p → IsTallied s v t → IsTallied (record s { ports = at s.ports v f }) v t
port_stays s v t f p read is h = record {
  port = place_here (OfPort t) (OfPort t) s.ports v f (λ x there old.
      let same : p ≡ x = same_element s.ports v p x read there in
      subst (OfPort t) (sym (subst (λ y. f y ≡ y) same is)) old) h.port;
  looper = h.looper;
  buffer = h.buffer;
  link = h.link;
}

-- another window's port changes
pub port_elsewhere : (s : State) (v w : ℕ) (t : Tally) (f : Port Message → Port Message) → (w ≡ v → ⊥) → IsTallied s w t → IsTallied (record s { ports = at s.ports v f }) w t
port_elsewhere s v w t f other h = record { port = place_elsewhere (OfPort t) s.ports v w f (λ e. other (sym e)) h.port; looper = h.looper; buffer = h.buffer; link = h.link }

post_here : (s : State) (v : ℕ) (t : Tally) (letter : Letter Message) (p : Port Message) (o : Posted) → slice_get s.ports v ≡ Some p → judged p letter.hop ≡ o → IsTallied s v t → GoesOn (with_post s v letter) v t (of_posted o)
post_here s v t letter p (Accepted n) read e h = arrives s v n t (posted letter) letter p read (accepted_number p letter.hop n e) (posted_as p letter (Accepted n) e) h
post_here s v t letter p (WouldBlock k) read e h = nothing_happens _ v t (port_stays s v t (posted letter) p read (posted_as p letter (WouldBlock k) e) h)
post_here s v t letter p BadPort read e h = nothing_happens _ v t (port_stays s v t (posted letter) p read (posted_as p letter BadPort e) h)
post_here s v t letter p TooDeep read e h = nothing_happens _ v t (port_stays s v t (posted letter) p read (posted_as p letter TooDeep e) h)

-- a letter is posted to window v's port
pub post_goes : (s : State) (v w : ℕ) (t : Tally) (letter : Letter Message) (p : Port Message) → slice_get s.ports v ≡ Some p → IsTallied s w t → GoesOn (with_post s v letter) w t (if w == v then of_posted (judged p letter.hop) else [])
post_goes s v w t letter p read h =
    at_window (with_post s v letter) w v t (of_posted (judged p letter.hop)) (w == v) refl
    (λ same. post_here s v t letter p (judged p letter.hop) read refl (subst (λ u. IsTallied s u t) same h))
    (λ other. port_elsewhere s v w t (posted letter) other h)

-- a notice is posted to window v's port
pub notice_goes : (s : State) (v w : ℕ) (t : Tally) (p : Port Message) → slice_get s.ports v ≡ Some p → IsTallied s w t → GoesOn (notified s v) w t (only (w == v) (arrived (length p.arrived + 1)))
notice_goes s v w t p read h =
    at_window (notified s v) w v t _ (w == v) refl
    (λ same.
    let goes : GoesOn (record s { ports = at s.ports v (with_letter (notice v)) }) v t (arrived (length p.arrived + 1) ∷ []) =
    arrives s v (length p.arrived + 1) t (with_letter (notice v)) (notice v) p read refl refl (subst (λ u. IsTallied s u t) same h) in
    record { in_turn = goes.in_turn; tallied = record { port = goes.tallied.port; looper = goes.tallied.looper; buffer = goes.tallied.buffer; link = goes.tallied.link } })
    (λ other.
    let is : IsTallied (record s { ports = at s.ports v (with_letter (notice v)) }) w t = port_elsewhere s v w t (with_letter (notice v)) other h in
    record { port = is.port; looper = is.looper; buffer = is.buffer; link = is.link })

-- a closed port has the letters that it had
pub closing_tallied : (s : State) (v w : ℕ) (t : Tally) → IsTallied s w t → AtPlace (OfPort t) (at s.ports v closed_port) w
closing_tallied s v w t h = place_kept (OfPort t) s.ports v w closed_port (w == v) refl (λ x there old. record { arrived_are = old.arrived_are; taken_are = old.taken_are; within = old.within }) h.port

-- ---- taking

-- a free looper is unheld
pub unheld : (s : State) (v : ℕ) (t : Tally) → slice_get s.loopers v ≡ Some free → IsTallied s v t → IsUnheld t
unheld s v t read h = let of_looper : OfLooper t free = h.looper free read in record { ended = of_looper.handles; unlocked = of_looper.locks }

pub take_goes : (d : Declared) (s : State) (v w : ℕ) (t : Tally) (p : Port Message) (letter : Letter Message) → slice_get s.loopers v ≡ Some free → slice_get s.ports v ≡ Some p → front p ≡ Some letter → IsTallied s w t → GoesOn (with_letter_in_hand d s v letter) w t (only (w == v) (took (p.taken + 1)))
take_goes d s v w t p letter is_free read next h =
    let u : Tally = record t { taken_count = t.taken_count + 1; in_hand = true; was_replied = false } in
    at_window (with_letter_in_hand d s v letter) w v t _ (w == v) refl
    (λ same.
    let here : IsTallied s v t = subst (λ x. IsTallied s x t) same h in
    let port : OfPort t p = here.port p read in
    let inside : p.taken < length p.arrived = slice_get_within p.arrived p.taken letter next in
    record {
      in_turn = ((omega (arith, port.taken_are), omega (arith, port.arrived_are, inside), unheld s v t is_free here), tt);
      tallied = record {
        port = place_here (OfPort t) (OfPort u) s.ports v without_front (λ x there old. record { arrived_are = old.arrived_are; taken_are = omega (arith, old.taken_are); within = omega (arith, port.arrived_are, port.taken_are, inside) }) here.port;
        looper = place_here (OfLooper t) (OfLooper u) s.loopers v _ (λ x there old.
            let was : free ≡ x = same_element s.loopers v free x is_free there in
            record { handles = refl; locks = old.locks ∙ ap is_locked (sym was); replied = λ e. cc }) here.looper;
        buffer = here.buffer;
        link = here.link;
      };
    })
    (λ other. record {
      port = place_elsewhere (OfPort t) s.ports v w without_front (λ e. other (sym e)) h.port;
      looper = place_elsewhere (OfLooper t) s.loopers v w _ (λ e. other (sym e)) h.looper;
      buffer = h.buffer;
      link = h.link;
    })
