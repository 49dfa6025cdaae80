-- The Draw bodies of a made script are read.
use Rattle.std.proofs.Common.{◌≡◌, ℕ, ◌+◌, ◌<◌, ◌≤◌, true, false, ◌&&◌, eqb, List, []}
use Rattle.std.proofs.Common.{◌∷◌, ◌++◌, length, map, codes, Some, None, Ok, refl, sym, ap}
use Rattle.std.proofs.Common.{◌∙◌, subst, arith, length-append}
use Rattle.std.specs.Fmt.{decimal}
use Rattle.std.specs.Prelude.{◌==◌}
use Rattle.std.specs.List.{list_any}
use Rattle.std.proofs.lemmas.Bool.Decides.{nat_tests}
use Rattle.std.proofs.lemmas.Fmt.{decimal_digit}
use Rattle.be_actor.specs.declared.Instruction.TheVariants as instruction
use Rattle.be_command.specs.declared.Command.TheVariants as command
use Rattle.be_command.specs.declared.first_word.FirstWord.TheVariants as first
use Rattle.be_command.specs.Forms.{first_word_of}
use Rattle.be_command.specs.Kinds.{named}
use Rattle.be_command.specs.Reading.{command_or_reason}
use Rattle.be_geom.specs.declared.rect.Rect.{Rect}
use Rattle.be_line.specs.declared.statement.Statement.TheVariants as statement
use Rattle.be_line.specs.FirstWords.{statement_of}
use Rattle.be_machine.specs.Schedule.{next_random, chosen_place}
use Rattle.be_reader.specs.Forms.{form_of}
use Rattle.be_reader.specs.LineDeeds.{deed_said}
use Rattle.be_said.specs.Deeds.{adds_step, begins_draw, closes}
use Rattle.be_said.specs.Judging.{done}
use Rattle.be_said.specs.SoFar.{SoFar, draw_body, nothing}
use Rattle.be_script.specs.declared.DrawLine.{DrawLine}
use Rattle.be_script.specs.declared.WindowLine.{WindowLine}
use Rattle.be_written.specs.Lines.{line_of}
use Rattle.be_made.specs.Made.{name, body_text}
use Rattle.be_made.proofs.PlainWords.{are_plain, plain-decimal, joined}
use Rattle.be_made.proofs.MadeReading.{Reads, reads_both, reads_line}
use Rattle.be_made.proofs.MadeStates.{state, known_read, command_deed, draw_step, w_names, w_named}
use Rattle.be_made.proofs.MadeStates.{root_named}
use Rattle.be_made.proofs.MadeWindows.{plain_all, plain-name, drawn_below}
use Rattle.be_made.proofs.MadeCommands.{known_root, rect_made, mixed_pattern, mixed_read}

-- ---- the bodies of windows from this one on, one for each rectangle that is filled

abbrev pub body_made : ℕ → Rect → DrawLine
body_made i r = record {
  window = i;
  view = 0;
  program = instruction.Draw
      (command.Fill 0 r mixed_pattern) ∷ [];
}

abbrev pub bodies_made : ℕ → List Rect → List DrawLine
bodies_made i [] = []
bodies_made i (r ∷ rects) = body_made i r ∷ bodies_made (i + 1) rects

bodies_more : (rects : List Rect) (k : ℕ) (r : Rect) →
    bodies_made k rects ++ body_made (k + length rects) r ∷ [] ≡ bodies_made k (rects ++ r ∷ [])
bodies_more [] k r =
    let same : k + 0 ≡ k = omega arith in
    ap (λ (n : ℕ). body_made n r ∷ []) same
bodies_more (q ∷ rects) k r =
    let same : k + length (q ∷ rects) ≡ k + 1 + length rects = omega arith in
    ap (λ (lines : List DrawLine). body_made k q ∷ lines)
    (ap (λ (n : ℕ). bodies_made (k + 1) rects ++ body_made n r ∷ []) same
    ∙ bodies_more rects (k + 1) r)

other : (k i : ℕ) → k < i → eqb k i ≡ false
other k i h = grind (arith, nat_tests)

not_drawn : (rects : List Rect) (k i : ℕ) → k + length rects ≤ i →
    list_any (λ (line : DrawLine). line.window == i && line.view == 0) (bodies_made k rects) ≡ false
not_drawn [] k i h = refl
not_drawn (r ∷ rects) k i h = rw (other k i (omega arith), not_drawn rects (k + 1) i (omega arith))
    refl

-- ---- its three lines

a_draw : statement_of (codes "draw") ≡ Some statement.Draw
unfolding statement_of
a_draw = refl

pub a_fill : statement_of (codes "fill") ≡ Some (statement.Command first.Fill)
unfolding statement_of first_word_of
a_fill = refl

pub an_end : statement_of (codes "end") ≡ Some statement.End
unfolding statement_of
an_end = refl

draw_deed : (windows : List WindowLine) (draws : List DrawLine) (word text : List ℕ) (i : ℕ) →
    named (map (λ line. line.name) windows) word ≡ Ok i →
    deed_said (state windows draws [] [] nothing) statement.Draw
    (record { words = word ∷ codes "root" ∷ []; window = None; text = text }) ≡ Ok (begins_draw i 0)
unfolding deed_said form_of
draw_deed windows draws word text i found = rw (found, root_named) refl

draw_done : (windows : List WindowLine) (draws : List DrawLine) (i : ℕ) →
    list_any (λ (line : DrawLine). line.window == i && line.view == 0) draws ≡ false →
    done (state windows draws [] [] nothing) (begins_draw i 0) ≡
    Ok (state windows draws [] [] (draw_body i 0 []))
unfolding done
draw_done windows draws i free = rw free refl

pub end_deed : (said : SoFar) (text : List ℕ) →
    deed_said said statement.End (record { words = []; window = None; text = text }) ≡ Ok closes
unfolding deed_said form_of
end_deed said text = refl

body_closed : (windows : List WindowLine) (draws : List DrawLine) (i : ℕ) (r : Rect) →
    done (state windows draws [] [] (draw_body i 0
    (instruction.Draw (command.Fill 0 r mixed_pattern) ∷ []))) closes ≡
    Ok (state windows (draws ++ body_made i r ∷ []) [] [] nothing)
unfolding done
body_closed windows draws i r = refl

-- with any numbers for the rectangle
body_reads : (windows : List WindowLine) (draws : List DrawLine) (i r b : ℕ) →
    map (λ line. line.name) windows ≡ w_names → i < 8 → r < 100 → b < 100 →
    list_any (λ (line : DrawLine). line.window == i && line.view == 0) draws ≡ false →
    Reads 600 (line_of (codes "draw" ∷ name (codes "w") i ∷ codes "root" ∷ [])
    ++ line_of (codes "fill" ∷ codes "root" ∷ codes "4" ∷ codes "4" ∷ decimal r ∷ decimal b ∷
    codes "mixed" ∷ [])
    ++ line_of (codes "end" ∷ [])) (state windows draws [] [] nothing)
    (state windows (draws ++ body_made i (rect_made 4 4 r b) ∷ []) [] [] nothing)
body_reads windows draws i r b names lt hr hb free =
    let word : List ℕ = name (codes "w") i in
    let old : SoFar = state windows draws [] [] nothing in
    let one : SoFar = state windows draws [] [] (draw_body i 0 []) in
    let rect : Rect = rect_made 4 4 r b in
    let two : SoFar = state windows draws [] []
    (draw_body i 0 (instruction.Draw (command.Fill 0 rect mixed_pattern) ∷ [])) in
    let new : SoFar = state windows (draws ++ body_made i rect ∷ []) [] [] nothing in
    let found : named (map (λ line. line.name) windows) word ≡ Ok i = subst
    (λ (there : List (List ℕ)). named there word ≡ Ok i) (sym names) (w_named i lt) in
    let first_words : List (List ℕ) = word ∷ codes "root" ∷ [] in
    let first_line = reads_line (codes "draw") first_words old one
    refl (plain_all first_words (plain-name 119 i refl (omega arith), (refl, tt))) (omega arith)
    refl
    (known_read old one (codes "draw") statement.Draw
    (record { words = first_words; window = None; text = joined (codes "draw" ∷ first_words) })
    (begins_draw i 0) a_draw refl
    (draw_deed windows draws word (joined (codes "draw" ∷ first_words)) i found)
    (draw_done windows draws i free)) in
    let fill_words : List (List ℕ) = codes "root" ∷ codes "4" ∷ codes "4" ∷ decimal r ∷ decimal b ∷
    codes "mixed" ∷ [] in
    let fill_text : List ℕ = joined (codes "fill" ∷ fill_words) in
    let four : decimal 4 ≡ codes "4" = decimal_digit 4 (omega arith) in
    let spelt : command_or_reason (known_root w_names) fill_text ≡
    Ok (command.Fill 0 rect mixed_pattern) =
    subst (λ (word : List ℕ). command_or_reason (known_root w_names)
    (joined (codes "fill" ∷ codes "root" ∷ word ∷ word ∷ decimal r ∷ decimal b ∷ codes "mixed" ∷
    [])) ≡ Ok (command.Fill 0 rect mixed_pattern)) four
    (mixed_read 4 4 r b (omega arith) (omega arith) (omega arith) (omega arith)) in
    let read : command_or_reason (known_root (map (λ line. line.name) windows)) fill_text ≡
    Ok (command.Fill 0 rect mixed_pattern) =
    subst (λ (there : List (List ℕ)). command_or_reason (known_root there) fill_text ≡
    Ok (command.Fill 0 rect mixed_pattern)) (sym names) spelt in
    let plain : are_plain fill_words ≡ true =
    plain_all fill_words (
      refl,
      (
        refl,
        (
          refl,
          (plain-decimal r (omega arith), (plain-decimal b (omega arith), (refl, tt))),
        ),
      ),
    ) in
    let second_line = reads_line (codes "fill") fill_words one two refl plain (omega arith) refl
    (known_read one two (codes "fill") (statement.Command first.Fill)
    (record { words = fill_words; window = None; text = fill_text })
    (adds_step (instruction.Draw (command.Fill 0 rect mixed_pattern))) a_fill refl
    (command_deed one first.Fill (record { words = fill_words; window = None; text = fill_text })
    (command.Fill 0 rect mixed_pattern) read)
    (draw_step windows draws [] [] i 0 [] (instruction.Draw (command.Fill 0 rect mixed_pattern))
    (omega arith) refl)) in
    let third_line = reads_line (codes "end") [] two new refl refl (omega arith) refl
    (known_read two new (codes "end") statement.End
    (record { words = []; window = None; text = codes "end" }) closes an_end
    refl (end_deed two (codes "end")) (body_closed windows draws i rect)) in
    reads_both 400 200 (line_of (codes "draw" ∷ first_words) ++ line_of (codes "fill" ∷ fill_words))
    (line_of (codes "end" ∷ [])) old two new
    (reads_both 200 200 (line_of (codes "draw" ∷ first_words)) (line_of (codes "fill" ∷ fill_words))
    old one two first_line second_line) third_line

-- ---- all bodies

pub record AreBodies (i : ℕ) (draws : List DrawLine) : Type 0 where
  pub rects : List Rect
  pub count : length rects ≡ i
  pub are : draws ≡ bodies_made 0 rects

some_body : (windows : List WindowLine) (draws : List DrawLine) (i p q : ℕ) →
    map (λ line. line.name) windows ≡ w_names → i < 8 → p < 20 → q < 20 → AreBodies i draws →
    (next : List DrawLine) × AreBodies (i + 1) next
    × Reads 600 (line_of (codes "draw" ∷ name (codes "w") i ∷ codes "root" ∷ [])
    ++ line_of (codes "fill" ∷ codes "root" ∷ codes "4" ∷ codes "4" ∷ decimal (p + 4) ∷ decimal
    (q + 4) ∷ codes "mixed" ∷ [])
    ++ line_of (codes "end" ∷ [])) (state windows draws [] [] nothing)
    (state windows next [] [] nothing)
some_body windows draws i p q names lt hp hq all =
    let rect : Rect = rect_made 4 4 (p + 4) (q + 4) in
    let count : 0 + length all.rects ≡ i = let now = all.count in omega arith in
    let free : list_any (λ (line : DrawLine). line.window == i && line.view == 0) draws ≡ false =
    ap (list_any (λ (line : DrawLine). line.window == i && line.view == 0)) all.are
    ∙ not_drawn all.rects 0 i (omega arith) in (
      draws ++ body_made i rect ∷ [],
      record {
        rects = all.rects ++ rect ∷ [];
        count = let many = length-append all.rects (rect ∷ []) in let now = all.count in
            omega arith;
        are =
            ap (λ (lines : List DrawLine). lines ++ body_made i rect ∷ []) all.are
            ∙ ap (λ (n : ℕ). bodies_made 0 all.rects ++ body_made n rect ∷ []) (sym count)
            ∙ bodies_more all.rects 0 rect;
      },
      body_reads windows draws i (p + 4) (q + 4) names lt (omega arith) (omega arith) free,
    )

pub each_body : (windows : List WindowLine) → map (λ line. line.name) windows ≡ w_names →
    (i x : ℕ) (draws : List DrawLine) → i < 8 → AreBodies i draws →
    (next : List DrawLine) × AreBodies (i + 1) next
    × Reads 600 (body_text i x).0 (state windows draws [] [] nothing)
    (state windows next [] [] nothing)
each_body windows names i x draws lt all =
    let a : ℕ = next_random x in
    let b : ℕ = next_random a in
    some_body windows draws i (chosen_place a 20) (chosen_place b 20) names lt
    (drawn_below a 20 (omega arith)) (drawn_below b 20 (omega arith)) all
