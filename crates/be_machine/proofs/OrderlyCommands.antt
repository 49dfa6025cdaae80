-- Commands are made, flushed and executed with the next numbers.
use Rattle.std.proofs.Common.{◌≡◌, ℕ, ◌+◌, ◌≤◌, List, [], ◌∷◌, length, Option, Some, refl, sym, ap, subst, ◌∙◌, arith, length-append}
use Rattle.std.specs.Prelude.{slice_get, ◌==◌}
use Rattle.std.specs.Option.{option_map_or}
use Rattle.be_command.specs.declared.Command.{Command}
use Rattle.be_link.specs.Queues.{Numbered, Buffer, with_command, emptied, lengthened, shortened}
use Rattle.be_machine.specs.Commands.{drawn, flushed, flushed_into, without_front}
use Rattle.be_machine.specs.Happenings as happening
use Rattle.be_machine.specs.Happenings.{Happening, drew, executed, only}
use Rattle.be_machine.specs.Orderly.{Tally}
use Rattle.be_machine.specs.State.{State}
use Rattle.be_machine.proofs.Lists.{same_element, place_here, place_elsewhere}
use Rattle.be_machine.proofs.Tallied.{AreNumbered, OfBuffer, OfLink, IsTallied, GoesOn, at_window, numbered_append}

here_of : (s : State) (w v : ℕ) (t : Tally) → w ≡ v → IsTallied s w t → IsTallied s v t
here_of s w v t same h = subst (λ u. IsTallied s u t) same h

-- ---- a command is made

command_more : (t : Tally) (c : Command) (b : Buffer) → OfBuffer t b → OfBuffer (record t { drawn_count = t.drawn_count + 1 }) (with_command c b)
command_more t c b old = record {
  made = omega (arith, old.made);
  waiting = rw length-append (omega (arith, old.waiting));
  numbers = numbered_append t.flushed_count b.commands _ old.numbers (omega (arith, old.waiting, old.made), tt);
}

pub draw_goes : (s : State) (v w : ℕ) (t : Tally) (c : Command) (b : Buffer) → slice_get s.buffers v ≡ Some b → IsTallied s w t → GoesOn (drawn s v c) w t (only (w == v) (drew (b.made + 1)))
draw_goes s v w t c b read h =
    let u : Tally = record t { drawn_count = t.drawn_count + 1 } in
    at_window (drawn s v c) w v t _ (w == v) refl
    (λ same.
    let here : IsTallied s v t = here_of s w v t same h in
    let of_buffer : OfBuffer t b = here.buffer b read in
    record {
      in_turn = (omega (arith, of_buffer.made), tt);
      tallied = record {
        port = here.port;
        looper = here.looper;
        buffer = place_here (OfBuffer t) (OfBuffer u) s.buffers v (with_command c) (λ x there old. command_more t c x old) here.buffer;
        link = here.link;
      };
    })
    (λ other. record { port = h.port; looper = h.looper; buffer = place_elsewhere (OfBuffer t) s.buffers v w (with_command c) (λ e. other (sym e)) h.buffer; link = h.link })

-- ---- all commands of the buffer go over

flushed_is : (s : State) (v : ℕ) (b : Buffer) → slice_get s.buffers v ≡ Some b → flushed s v ≡ flushed_into s v b
flushed_is s v b read = ap (λ o. option_map_or (flushed_into s v) o s) read

link_more : (t : Tally) (b : Buffer) (link : List Numbered) → OfBuffer t b → OfLink t link → OfLink (record t { flushed_count = t.flushed_count + length b.commands }) (lengthened b link)
link_more t b link of_buffer old = record {
  waiting = rw length-append (omega (arith, old.waiting));
  numbers = numbered_append t.executed_count link b.commands old.numbers (subst (λ n. AreNumbered n b.commands) old.waiting of_buffer.numbers);
}

buffer_less : (t : Tally) (b : Buffer) → OfBuffer t b → OfBuffer (record t { flushed_count = t.flushed_count + length b.commands }) (emptied b)
buffer_less t b old = record { made = old.made; waiting = omega (arith, old.waiting); numbers = tt }

flush_into : (s : State) (v w : ℕ) (t : Tally) (b : Buffer) → slice_get s.buffers v ≡ Some b → IsTallied s w t → GoesOn (flushed_into s v b) w t (only (w == v) (happening.flushed (length b.commands)))
flush_into s v w t b read h =
    let u : Tally = record t { flushed_count = t.flushed_count + length b.commands } in
    at_window (flushed_into s v b) w v t _ (w == v) refl
    (λ same.
    let here : IsTallied s v t = here_of s w v t same h in
    let of_buffer : OfBuffer t b = here.buffer b read in
    record {
      in_turn = (tt, tt);
      tallied = record {
        port = here.port;
        looper = here.looper;
        buffer = place_here (OfBuffer t) (OfBuffer u) s.buffers v emptied (λ x there old.
            let was : b ≡ x = same_element s.buffers v b x read there in
            subst (λ y. OfBuffer u (emptied y)) was (buffer_less t b of_buffer)) here.buffer;
        link = place_here (OfLink t) (OfLink u) s.links v (lengthened b) (λ x there old. link_more t b x of_buffer old) here.link;
      };
    })
    (λ other. record {
      port = h.port;
      looper = h.looper;
      buffer = place_elsewhere (OfBuffer t) s.buffers v w emptied (λ e. other (sym e)) h.buffer;
      link = place_elsewhere (OfLink t) s.links v w (lengthened b) (λ e. other (sym e)) h.link;
    })

pub flush_goes : (s : State) (v w : ℕ) (t : Tally) (b : Buffer) → slice_get s.buffers v ≡ Some b → IsTallied s w t → GoesOn (flushed s v) w t (only (w == v) (happening.flushed (length b.commands)))
flush_goes s v w t b read h = subst (λ x. GoesOn x w t (only (w == v) (happening.flushed (length b.commands)))) (sym (flushed_is s v b read)) (flush_into s v w t b read h)

-- ---- the oldest command is executed

link_less : (t : Tally) (c : Numbered) (link : List Numbered) → slice_get link 0 ≡ Some c → OfLink t link → (c.number ≡ t.executed_count + 1) × (c.number ≤ t.flushed_count) × OfLink (record t { executed_count = t.executed_count + 1 }) (shortened link)
link_less t c [] read old = cc
link_less t c (x ∷ xs) read old =
    let same : x.number ≡ c.number = ap (λ (o : Option Numbered). option_map_or (λ y. y.number) o 0) read in
    (sym same ∙ old.numbers.0, omega (arith, same, old.numbers.0, old.waiting), record { waiting = omega (arith, old.waiting); numbers = old.numbers.1 })

pub exec_goes : (s : State) (v w : ℕ) (t : Tally) (c : Numbered) (link : List Numbered) → slice_get s.links v ≡ Some link → slice_get link 0 ≡ Some c → IsTallied s w t → GoesOn (without_front s v) w t (only (w == v) (executed c.number))
exec_goes s v w t c link read front h =
    let u : Tally = record t { executed_count = t.executed_count + 1 } in
    at_window (without_front s v) w v t _ (w == v) refl
    (λ same.
    let here : IsTallied s v t = here_of s w v t same h in
    let less : _ = link_less t c link front (here.link link read) in
    record {
      in_turn = ((less.0, less.1), tt);
      tallied = record {
        port = here.port;
        looper = here.looper;
        buffer = here.buffer;
        link = place_here (OfLink t) (OfLink u) s.links v shortened (λ x there old.
            let was : link ≡ x = same_element s.links v link x read there in
            subst (λ y. OfLink u (shortened y)) was less.2) here.link;
      };
    })
    (λ other. record { port = h.port; looper = h.looper; buffer = h.buffer; link = place_elsewhere (OfLink t) s.links v w shortened (λ e. other (sym e)) h.link })
