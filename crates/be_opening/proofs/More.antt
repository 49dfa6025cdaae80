-- Parts behind parts.
use Rattle.std.specs.List.{All, range_with_len}
use Rattle.std.proofs.Common.{◌≡◌, ℕ, ◌+◌, List, [], ◌∷◌, ◌++◌, append_assoc, map, length, sym, ap, subst, ◌∙◌, arith}
use Rattle.std.proofs.lemmas.List.{append-nil, map-append}
use Rattle.std.proofs.lemmas.List.Elements.{All-push}
use Rattle.std.proofs.lemmas.List.FromFn.{map-range_with_len_more}
use Rattle.be_machine.specs.State.{opening_state}
use Rattle.be_machine.specs.Touched as machine
use Rattle.be_parts.specs.Parts.{IsBlank, meaning_of}
use Rattle.be_parts.specs.declared.part.Part.{Part}
use Rattle.be_rules.specs.Slices.{Slice, slice_of, slices}
use Rattle.be_script.specs.Script.{Declared}
use Rattle.be_opening.specs.Opened.{HasMore}

pub none_more : (d : Declared) (old : List Part) → HasMore d [] old old
none_more d old = record { meant = sym (append-nil (map meaning_of old)); blank = λ none. none }

one_more : (d : Declared) (more : List machine.Part) (of : machine.Part) (old now : List Part) (part : Part) → HasMore d more old now → meaning_of part ≡ slice_of (opening_state d) of → IsBlank part → HasMore d (more ++ of ∷ []) old (now ++ part ∷ [])
one_more d more of old now part has means empty = record {
  meant =
      map-append meaning_of now (part ∷ [])
      ∙ ap (λ (l : List Slice). l ++ meaning_of part ∷ []) has.meant
      ∙ append_assoc (map meaning_of old) (map (slice_of (opening_state d)) more) (meaning_of part ∷ [])
      ∙ ap (λ (x : Slice). map meaning_of old ++ (map (slice_of (opening_state d)) more ++ x ∷ [])) means
      ∙ ap (λ (l : List Slice). map meaning_of old ++ l) (sym (map-append (slice_of (opening_state d)) more (of ∷ [])));
  blank = λ none. All-push IsBlank now part (has.blank none) empty;
}

-- one part more of a kind
pub next_more : (d : Declared) (f : ℕ → machine.Part) (n : ℕ) (old now new : List Part) (part : Part) → HasMore d (map f (range_with_len 0 n)) old now → new ≡ now ++ part ∷ [] → meaning_of part ≡ slice_of (opening_state d) (f n) → IsBlank part → HasMore d (map f (range_with_len 0 (n + 1))) old new
next_more d f n old now new part has added means empty =
    let same : 0 + n ≡ n = omega arith in
    let one = one_more d (map f (range_with_len 0 n)) (f n) old now part has means empty in
    subst (λ (l : List Part). HasMore d (map f (range_with_len 0 (n + 1))) old l) (sym added) (subst (λ (more : List machine.Part). HasMore d more old (now ++ part ∷ [])) (sym (map-range_with_len_more f 0 n n same)) one)

-- one kind behind the other
pub then_more : (d : Declared) (more then : List machine.Part) (old now new : List Part) → HasMore d more old now → HasMore d then now new → HasMore d (more ++ then) old new
then_more d more then old now new first second = record {
  meant =
      second.meant
      ∙ ap (λ (l : List Slice). l ++ map (slice_of (opening_state d)) then) first.meant
      ∙ append_assoc (map meaning_of old) (map (slice_of (opening_state d)) more) (map (slice_of (opening_state d)) then)
      ∙ ap (λ (l : List Slice). map meaning_of old ++ l) (sym (map-append (slice_of (opening_state d)) more then));
  blank = λ none. second.blank (first.blank none);
}

-- all kinds in the order of their places
pub all_more : (d : Declared) (old a b c e new : List Part) →
    HasMore d (map machine.cell (range_with_len 0 (length d.apps))) old a →
    HasMore d (map machine.looper (range_with_len 0 (length d.windows))) a b →
    HasMore d (map machine.port (range_with_len 0 (length d.windows))) b c →
    HasMore d (map machine.link (range_with_len 0 (length d.windows))) c e →
    HasMore d (map machine.pane (range_with_len 0 (length d.windows))) e new →
    map meaning_of old ≡ map (slice_of (opening_state d)) (machine.desk ∷ machine.input ∷ []) →
    map meaning_of new ≡ slices d (opening_state d)
all_more d old a b c e new cells loopers ports links panes front =
    let links_on = then_more d _ _ c e new links panes in
    let ports_on = then_more d _ _ b c new ports links_on in
    let loopers_on = then_more d _ _ a b new loopers ports_on in
    let cells_on = then_more d _ _ old a new cells loopers_on in
    let rest : List machine.Part =
    map machine.cell (range_with_len 0 (length d.apps))
    ++ (map machine.looper (range_with_len 0 (length d.windows))
    ++ (map machine.port (range_with_len 0 (length d.windows))
    ++ (map machine.link (range_with_len 0 (length d.windows))
    ++ map machine.pane (range_with_len 0 (length d.windows))))) in
    cells_on.meant ∙ ap (λ (l : List Slice). l ++ map (slice_of (opening_state d)) rest) front

-- ---- the first two

two_are : (none first second : List Part) (p q : Part) → none ≡ [] → first ≡ none ++ p ∷ [] → second ≡ first ++ q ∷ [] → second ≡ p ∷ q ∷ []
two_are none first second p q empty pushed then_pushed =
    then_pushed ∙ ap (λ (l : List Part). l ++ q ∷ []) (pushed ∙ ap (λ (l : List Part). l ++ p ∷ []) empty)

pub two_mean : (d : Declared) (none first second : List Part) (p q : Part) → none ≡ [] → first ≡ none ++ p ∷ [] → second ≡ first ++ q ∷ [] → meaning_of p ≡ slice_of (opening_state d) machine.desk → meaning_of q ≡ slice_of (opening_state d) machine.input → map meaning_of second ≡ map (slice_of (opening_state d)) (machine.desk ∷ machine.input ∷ [])
two_mean d none first second p q empty pushed then_pushed desk input =
    ap (map meaning_of) (two_are none first second p q empty pushed then_pushed)
    ∙ ap (λ (x : Slice). x ∷ meaning_of q ∷ []) desk
    ∙ ap (λ (x : Slice). slice_of (opening_state d) machine.desk ∷ x ∷ []) input

none_of_two : (p q : Part) → IsBlank p → IsBlank q → All IsBlank (p ∷ q ∷ [])
none_of_two p q first second =
    let none : All IsBlank [] = λ k d less. absurd (omega arith) in
    All-push IsBlank (p ∷ []) q (All-push IsBlank [] p none first) second

pub two_empty : (none first second : List Part) (p q : Part) → none ≡ [] → first ≡ none ++ p ∷ [] → second ≡ first ++ q ∷ [] → IsBlank p → IsBlank q → All IsBlank second
two_empty none first second p q empty pushed then_pushed desk input =
    subst (λ (l : List Part). All IsBlank l) (sym (two_are none first second p q empty pushed then_pushed)) (none_of_two p q desk input)
