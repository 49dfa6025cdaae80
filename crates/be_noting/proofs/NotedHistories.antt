-- What a history of rules whose parts keep notes tells.
use Rattle.std.proofs.Common.{◌≡◌, ℕ, zero, suc, ◌<◌, Bool, true, false, List, [], ◌∷◌, ◌++◌, append_assoc, append-nil, length, if◌then◌else◌, ◌==◌, Option, Some, refl, sym, ap, ◌∙◌, subst, arith}
use mathlib.Core.Option.{some, some-injective}
use lib.ListN.{get_elem?}
use Rattle.be_hall.specs.Machine.{Machine, Lawful, Legal, leads}
use Rattle.be_hall.proofs.Growth.{inside, there}
use Rattle.be_turns.specs.Turning.{IsFinished, is_some}
use Rattle.be_serial.specs.Scheduled.{Picked, next_draw, picked_of, pushed_if, ready_below}
use Rattle.be_noting.specs.Histories.{TellsAll}
use Rattle.be_noting.specs.Noting.{Noted, meanings, all_notes, legal_of, noted_at, noted_from, noting}
use Rattle.be_noting.proofs.KeepLaws.{as_long, means_after, sound_next}
use Rattle.be_noting.proofs.NoteLists.{at_map, noted_there, with_at}

module _ {M N E : Type 0} (x : Machine M E) (told : List M → E → List N) where
  -- ---- without the notes

  pub leads_seen : (now : List (Noted M N)) (h : List E) → meanings (leads (noting x told) now h) ≡ leads x (meanings now) h
  leads_seen now [] = refl
  leads_seen now (e ∷ es) = leads_seen ((noting x told).after now e) es ∙ ap (λ l. leads x l es) (means_after x told now e)

  pub legal_seen : (now : List (Noted M N)) (h : List E) → Legal (noting x told) now h → Legal x (meanings now) h
  legal_seen now [] legal = tt
  legal_seen now (e ∷ es) legal = (legal.0, subst (λ l. Legal x l es) (means_after x told now e) (legal_seen ((noting x told).after now e) es legal.1))

  pub legal_noted : (now : List (Noted M N)) (h : List E) → Legal x (meanings now) h → Legal (noting x told) now h
  legal_noted now [] legal = tt
  legal_noted now (e ∷ es) legal = (legal.0, legal_noted ((noting x told).after now e) es (subst (λ l. Legal x l es) (sym (means_after x told now e)) legal.1))

  pub finished_seen : (stops : E → Bool) (opening : List (Noted M N)) (h : List E) (parts : List (Noted M N)) → IsFinished (noting x told) stops opening h parts → IsFinished x stops (meanings opening) h (meanings parts)
  finished_seen stops opening h parts f = record { legal = legal_seen opening h f.legal; ends = f.ends; leads_to = ap meanings f.leads_to ∙ leads_seen opening h }

  -- ---- which activity steps

  module _ (legal : List M → ℕ → Option E) where
    pub ready_seen : (now : List (Noted M N)) (k : ℕ) → ready_below (legal_of legal) now k ≡ ready_below legal (meanings now) k
    ready_seen now zero = refl
    ready_seen now (suc k) = ap (λ l. pushed_if (is_some (legal (meanings now) k)) l k) (ready_seen now k)

    pub picked_seen : (many seed drawn : ℕ) (now : List (Noted M N)) (h : List E) → Picked (noting x told) (legal_of legal) many seed drawn now h → Picked x legal many seed drawn (meanings now) h
    picked_seen many seed drawn now [] picked = tt
    picked_seen many seed drawn now (e ∷ es) picked =
        let same = ready_seen now many in
        let more : Picked x legal many seed (next_draw seed drawn) (meanings ((noting x told).after now e)) es = picked_seen many seed (next_draw seed drawn) ((noting x told).after now e) es picked.2 in (
          subst (λ (l : List ℕ). 0 < length l) same picked.0,
          subst (λ l. legal (meanings now) (picked_of x legal many seed (next_draw seed drawn) l) ≡ Some e) same picked.1,
          subst (λ l. Picked x legal many seed (next_draw seed drawn) l es) (means_after x told now e) more,
        )

  -- ---- the notes

  module _ (law : Lawful x) where
    -- what one entry leaves at a place
    left_at : (now : List (Noted M N)) (e : E) (p : ℕ) (y : Noted M N) → x.sound (meanings now) → x.permits (meanings now) e → get_elem? now p ≡ some y
        → (z : Noted M N) × (get_elem? ((noting x told).after now e) p ≡ some z) × (z.notes ≡ (if p == x.keeper e then y.notes ++ told (meanings now) e else y.notes))
    left_at now e p y sound may at =
        let long = as_long x told law now sound in
        let next = law.as_many (x.after (meanings now) e) (law.stays_sound (meanings now) e sound may) in
        let here : p < length now = inside now p y at in
        let m = there (x.after (meanings now) e) p (omega arith) in (
          record { means = m.0; notes = if p == x.keeper e then y.notes ++ told (meanings now) e else y.notes },
          with_at (x.after (meanings now) e) (noted_at (x.keeper e) (told (meanings now) e) (all_notes now)) p m.0 _ m.1 (noted_there (x.keeper e) p (told (meanings now) e) (all_notes now) y.notes (at_map (λ z. z.notes) now p y at)),
          refl,
        )

    one_more : (b : Bool) (old more rest : List N) → (if b then old ++ more else old) ++ rest ≡ old ++ ((if b then more else []) ++ rest)
    one_more true old more rest = append_assoc old more rest
    one_more false old more rest = refl

    pub notes_kept : (now : List (Noted M N)) (h : List E) (p : ℕ) (y : Noted M N) → x.sound (meanings now) → Legal (noting x told) now h → get_elem? now p ≡ some y
        → get_elem? (all_notes (leads (noting x told) now h)) p ≡ some (y.notes ++ noted_from x told p (meanings now) h)
    notes_kept now [] p y sound legal at = at_map (λ z. z.notes) now p y at ∙ ap (λ l. some l) (sym (append-nil y.notes))
    notes_kept now (e ∷ es) p y sound legal at =
        let z = left_at now e p y sound legal.0 at in
        let more = notes_kept ((noting x told).after now e) es p z.0 (sound_next x told law now e sound legal.0) legal.1 z.1 in
        let rest : noted_from x told p (meanings ((noting x told).after now e)) es ≡ noted_from x told p (x.after (meanings now) e) es = ap (λ l. noted_from x told p l es) (means_after x told now e) in
        more
        ∙ ap (λ l. some (z.0.notes ++ l)) rest
        ∙ ap (λ l. some (l ++ noted_from x told p (x.after (meanings now) e) es)) z.2
        ∙ ap (λ l. some l) (one_more (p == x.keeper e) y.notes (told (meanings now) e) (noted_from x told p (x.after (meanings now) e) es))

    pub tells_all : (opening : List (Noted M N)) (h : List E) → x.sound (meanings opening) → Legal (noting x told) opening h → TellsAll x told opening h
    tells_all opening h sound legal = record { legal = legal_seen opening h legal; means = leads_seen opening h; notes = λ p y at. notes_kept opening h p y sound legal at }

    -- the parts that a finished history leaves, by place
    pub notes_left : (stops : E → Bool) (opening : List (Noted M N)) (h : List E) (parts : List (Noted M N)) (p : ℕ) (y z : Noted M N) → x.sound (meanings opening) → IsFinished (noting x told) stops opening h parts
        → get_elem? opening p ≡ some y → get_elem? parts p ≡ some z → z.notes ≡ y.notes ++ noted_from x told p (meanings opening) h
    notes_left stops opening h parts p y z sound f at out =
        some-injective z.notes (y.notes ++ noted_from x told p (meanings opening) h)
        (sym (at_map (λ w. w.notes) parts p z out) ∙ ap (λ l. get_elem? (all_notes l) p) f.leads_to ∙ notes_kept opening h p y sound f.legal at)
