-- The rectangles of a clip are read back.
use Rattle.std.proofs.Common.{◌≡◌, ℕ, zero, suc, ◌≤◌, ℤ, pos, negsuc, Bool, true, false, cond, length, refl, arith, List, [], ◌∷◌, ◌++◌, append_assoc, Option, Some, None, is_some, Result, Ok, ap, ◌∙◌, subst, codes}
use Rattle.std.specs.Str.{bytes_eq}
use Rattle.std.specs.Fmt.{signed_decimal}
use Rattle.std.proofs.lemmas.Slice.Eq.{bytes_eq-Decides}
use Rattle.be_geom.specs.declared.rect.Rect.{Rect}
use Rattle.be_geom.specs.Points.{in_range}
use Rattle.be_lex.specs.Words.{is_word, words_of}
use Rattle.be_lex.specs.Numbers.{is_number}
use Rattle.be_lex.proofs.WordLemmas.{words_of-none}
use Rattle.be_command.specs.declared.fault.Fault.{Fault}
use Rattle.be_command.specs.Faults.{both, said_as}
use Rattle.be_command.specs.Places.{At, first_word, word_at, after_word}
use Rattle.be_command.specs.Kinds.{rect_at, after_rect, rects_at, after_rects, is_none_word, clip_at, after_clip}
use Rattle.be_command.specs.Spelling.{number_word, pair_words, rect_words, rects_words, clip_words}
use Rattle.be_command.specs.Laws.{IsRect, AreRects, IsClip}
use Rattle.be_command.proofs.BackLemmas.{Reads, next_word, next_text, rect_back, is_word-number, is_number-within, both_back, as_back}

-- no text has no words
pub no_word : (at : At) → at.text ≡ [] → word_at at ≡ None
no_word at e = ap (λ (text : List ℕ). first_word (words_of text)) e ∙ ap first_word (words_of-none [] refl)

-- the first word of a rectangle is its left
left_first : (r : Rect) (rest : List ℕ) → rect_words r ++ rest ≡ number_word r.left ++ (number_word r.top ++ (pair_words r.right r.bottom ++ rest))
left_first r rest = append_assoc (pair_words r.left r.top) (pair_words r.right r.bottom) rest ∙ append_assoc (number_word r.left) (number_word r.top) (pair_words r.right r.bottom ++ rest)

first_of_rect : (r : Rect) (rest : List ℕ) (at : At) → IsRect r → at.text ≡ rect_words r ++ rest → word_at at ≡ Some (signed_decimal r.left)
first_of_rect r rest at fits e =
    next_word (signed_decimal r.left) (number_word r.top ++ (pair_words r.right r.bottom ++ rest)) at (is_word-number (negsuc 32767) (pos 32767) r.left fits.0.0 (omega arith) (omega arith)) refl (e ∙ left_first r rest)

abbrev more : Rect × List Rect → List Rect
more x = x.0 ∷ x.1

pub rects_back : (most : ℕ) (r : Rect) (rects : List Rect) (at : At) → length (r ∷ rects) ≤ most → AreRects (r ∷ rects) → at.text ≡ rects_words (r ∷ rects) →
    Reads (rects_at most at) (after_rects most at) (r ∷ rects) []
rects_back zero r rects at few fits e = absurd (omega arith)
rects_back (suc most) r [] at few fits e =
    let first = rect_back r [] at fits.0 refl e in
    let none : is_some (word_at (after_rect at)) ≡ false = ap is_some (no_word (after_rect at) first.text_is) in
    let said : said_as more (both (rect_at at) (Ok [])) ≡ Ok (r ∷ []) = ap (λ (s : Result Rect Fault). said_as more (both s (Ok []))) first.said_is in
    record {
      said_is = ap (λ (b : Bool). said_as more (both (rect_at at) (cond b (rects_at most (after_rect at)) (Ok [])))) none ∙ said;
      text_is = ap (λ (b : Bool). (cond b (after_rects most (after_rect at)) (after_rect at)).text) none ∙ first.text_is;
    }
rects_back (suc most) r (s ∷ rects) at few fits e =
    let first = rect_back r (rects_words (s ∷ rects)) at fits.0 refl e in
    let some : is_some (word_at (after_rect at)) ≡ true = ap is_some (first_of_rect s (rects_words rects) (after_rect at) fits.1.0 first.text_is) in
    let rest = rects_back most s rects (after_rect at) (omega arith) fits.1 first.text_is in
    let all = as_back more (both (rect_at at) (rects_at most (after_rect at))) (after_rects most (after_rect at)) (r, s ∷ rects) [] (both_back (rect_at at) (rects_at most (after_rect at)) (after_rect at) (after_rects most (after_rect at)) r (s ∷ rects) (rects_words (s ∷ rects)) [] first rest) in
    record {
      said_is = ap (λ (b : Bool). said_as more (both (rect_at at) (cond b (rects_at most (after_rect at)) (Ok [])))) some ∙ all.said_is;
      text_is = ap (λ (b : Bool). (cond b (after_rects most (after_rect at)) (after_rect at)).text) some ∙ all.text_is;
    }

none_or : (none : Bool) (word : List ℕ) → bytes_eq word (codes "none") ≡ none → is_number word ≡ true → none ≡ false
unfolding is_number
none_or true word e h =
    let same : word ≡ codes "none" = (bytes_eq-Decides word (codes "none")).0 e in
    let number : false ≡ true = subst (λ (w : List ℕ). is_number w ≡ true) same h in
    (cc)
none_or false word e h = refl

-- a number is no `none`
not_none : (z : ℤ) → in_range z ≡ true → bytes_eq (signed_decimal z) (codes "none") ≡ false
not_none z fits = none_or (bytes_eq (signed_decimal z) (codes "none")) (signed_decimal z) refl (is_number-within (negsuc 32767) (pos 32767) z fits (omega arith) (omega arith))

none_is_word : is_word (codes "none") ≡ true
unfolding is_word
none_is_word = refl

pub clip_back : (clip : Option (List Rect)) (at : At) → IsClip clip → at.text ≡ clip_words clip ++ [] → Reads (clip_at at) (after_clip at) clip []
clip_back None at fits e =
    let none : is_none_word (word_at at) ≡ true = ap is_none_word (next_word (codes "none") [] at none_is_word refl e) in
    record {
      said_is = ap (λ (b : Bool). cond b (Ok None) (said_as Some (rects_at 16 at))) none;
      text_is = ap (λ (b : Bool). (cond b (after_word at) (after_rects 16 at)).text) none ∙ next_text (codes "none") [] at none_is_word refl e;
    }
clip_back (Some []) at fits e = absurd (omega (arith, fits.0))
clip_back (Some (r ∷ rects)) at fits e =
    let whole : at.text ≡ rects_words (r ∷ rects) = e ∙ nothing_behind (rects_words (r ∷ rects)) in
    let other : is_none_word (word_at at) ≡ false = ap is_none_word (first_of_rect r (rects_words rects) at fits.1.1.0 whole) ∙ not_none r.left fits.1.1.0.0.0 in
    let read = as_back Some (rects_at 16 at) (after_rects 16 at) (r ∷ rects) [] (rects_back 16 r rects at fits.1.0 fits.1.1 whole) in
    record {
      said_is = ap (λ (b : Bool). cond b (Ok None) (said_as Some (rects_at 16 at))) other ∙ read.said_is;
      text_is = ap (λ (b : Bool). (cond b (after_word at) (after_rects 16 at)).text) other ∙ read.text_is;
    }
  where
    nothing_behind : (text : List ℕ) → text ++ [] ≡ text
    nothing_behind [] = refl
    nothing_behind (b ∷ text) = ap (λ (bytes : List ℕ). b ∷ bytes) (nothing_behind text)
