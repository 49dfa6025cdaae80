-- The lines of a note, piece by piece.
use Rattle.std.proofs.Common.{◌≡◌, ℕ, List, [], ◌∷◌, ◌++◌, map, Result, OnOk, codes, refl, sym, ap, ◌∙◌, append_assoc, append-nil}
use Rattle.std.specs.Fmt.{signed_decimal}
use Rattle.be_facts.proofs.Lists.{on_ok_map}
use Rattle.be_geom.specs.declared.rect.Rect.{Rect}
use Rattle.be_script.specs.Script.{Declared}
use Rattle.be_machine.specs.Activities.{Runner}
use Rattle.be_machine.specs.Traces.{Trace, listed}
use Rattle.be_written.specs.Lines.{line_of}
use Rattle.be_written.specs.TraceText.{listed_name, edge_words, trace_words}
use Rattle.be_written.proofs.WriteLemmas.{line_behind, line_written}

-- ---- lines of two words

pub told_words : (old one two new kind word : List ℕ) → one ≡ old ++ kind → two ≡ one ++ 32 ∷ word → new ≡ two ++ 10 ∷ [] → new ≡ old ++ line_of (kind ∷ word ∷ [])
told_words old one two new kind word first second last =
    let words = second ∙ ap (λ (text : List ℕ). one ++ text) (sym (append-nil (32 ∷ word))) in
    line_written old one two new kind (word ∷ []) first words last

pub two_words : {E : Type 0} (r : Result (Unit {0}) E) (old one two new kind word : List ℕ) → one ≡ old ++ kind → two ≡ one ++ 32 ∷ word
    → OnOk r (new ≡ two ++ 10 ∷ []) → OnOk r (new ≡ old ++ line_of (kind ∷ word ∷ []))
two_words r old one two new kind word first second last =
    on_ok_map r (new ≡ two ++ 10 ∷ []) (new ≡ old ++ line_of (kind ∷ word ∷ [])) last (told_words old one two new kind word first second)

-- ---- a line of a listing

row_of_edges : (old u v l t r b e : List ℕ) → ((((((old ++ u) ++ v) ++ l) ++ t) ++ r) ++ b) ++ e ≡ old ++ ((u ++ (v ++ (l ++ (t ++ (r ++ (b ++ [])))))) ++ e)
row_of_edges old u v l t r b e = simp (append_assoc, append-nil {A = ℕ})

pub listed_written : {E : Type 0} (result : Result (Unit {0}) E) (d : Declared) (who : Runner) (view : ℕ) (rect : Rect) (old one two three four five six new name : List ℕ)
    → name ≡ listed_name d who view → one ≡ old ++ codes "update" → two ≡ one ++ 32 ∷ name
    → three ≡ two ++ 32 ∷ signed_decimal rect.left → four ≡ three ++ 32 ∷ signed_decimal rect.top
    → five ≡ four ++ 32 ∷ signed_decimal rect.right → six ≡ five ++ 32 ∷ signed_decimal rect.bottom
    → OnOk result (new ≡ six ++ 10 ∷ []) → OnOk result (new ≡ old ++ line_of (trace_words d who (listed view rect)))
listed_written result d who view rect old one two three four five six new name same a b c e f g last =
    let left : List ℕ = 32 ∷ signed_decimal rect.left in
    let top : List ℕ = 32 ∷ signed_decimal rect.top in
    let right : List ℕ = 32 ∷ signed_decimal rect.right in
    let bottom : List ℕ = 32 ∷ signed_decimal rect.bottom in
    let pages : six ≡ (((((old ++ codes "update") ++ 32 ∷ name) ++ left) ++ top) ++ right) ++ bottom = rw (g, f, e, c, b, a) refl in
    on_ok_map result (new ≡ six ++ 10 ∷ []) (new ≡ old ++ line_of (trace_words d who (listed view rect))) last
    (λ end. end ∙ ap (λ (text : List ℕ). text ++ 10 ∷ []) pages
    ∙ row_of_edges old (codes "update") (32 ∷ name) left top right bottom (10 ∷ [])
    ∙ ap (λ (text : List ℕ). old ++ text) (sym (line_behind (codes "update") (name ∷ edge_words rect)))
    ∙ ap (λ (word : List ℕ). old ++ line_of (codes "update" ∷ word ∷ edge_words rect)) same)

-- ---- a listing

abbrev pub listing : List (ℕ × Rect) → List Trace
listing views = map (λ p. listed p.0 p.1) views
