-- A command's spelling is its first word and what its form says behind it.
use Rattle.std.proofs.Common.{◌≡◌, ℕ, pos, refl, List, [], ◌∷◌, ◌++◌, append_assoc, ap, ◌∙◌, codes}
use Rattle.be_command.specs.declared.first_word.FirstWord.{FirstWord}
use Rattle.be_command.specs.declared.first_word.FirstWord.TheVariants as first
use Rattle.be_command.specs.Names.{Known}
use Rattle.be_command.specs.Kinds.{SaidAll}
use Rattle.be_command.specs.Forms.{form_of}
use Rattle.be_lex.specs.Colors.{color_text}
use Rattle.be_lex.specs.Patterns.{pattern_text}
use Rattle.be_lex.specs.Modes.{mode_text}
use Rattle.be_command.specs.Spelling.{spelling, spaced, name_word, number_word, pair_words, point_words, rect_words, clip_words, focus_word}
use Rattle.be_command.proofs.KindsBack.{words_of_all}
use Rattle.be_command.proofs.FirstWords.{word_text}

one : (w a : List ℕ) → w ++ a ≡ w ++ (a ++ [])
one w a = ap (λ (text : List ℕ). w ++ text) (nothing a)
  where
    nothing : (text : List ℕ) → text ≡ text ++ []
    nothing [] = refl
    nothing (b ∷ text) = ap (λ (bytes : List ℕ). b ∷ bytes) (nothing text)

none : (w : List ℕ) → w ≡ w ++ []
none [] = refl
none (b ∷ text) = ap (λ (bytes : List ℕ). b ∷ bytes) (none text)

two : (w a b : List ℕ) → (w ++ a) ++ b ≡ w ++ (a ++ (b ++ []))
two w a b = append_assoc w a b ∙ ap (λ (text : List ℕ). w ++ text) (one a b)

three : (w a b c : List ℕ) → ((w ++ a) ++ b) ++ c ≡ w ++ (a ++ (b ++ (c ++ [])))
three w a b c = append_assoc (w ++ a) b c ∙ append_assoc w a (b ++ c) ∙ ap (λ (text : List ℕ). w ++ (a ++ text)) (one b c)

four : (w a b c d : List ℕ) → (((w ++ a) ++ b) ++ c) ++ d ≡ w ++ (a ++ (b ++ (c ++ (d ++ []))))
four w a b c d = append_assoc ((w ++ a) ++ b) c d ∙ append_assoc (w ++ a) b (c ++ d) ∙ append_assoc w a (b ++ (c ++ d)) ∙ ap (λ (text : List ℕ). w ++ (a ++ (b ++ text))) (one c d)

pub spelt : (known : Known) (word : FirstWord) (x : SaidAll (form_of word).kinds) → spelling known ((form_of word).makes x) ≡ word_text word ++ words_of_all known (form_of word).kinds x
unfolding form_of spelling
spelt known first.Fill x = three (codes "fill") (name_word known.views x.0) (rect_words x.1.0) (spaced (pattern_text x.1.1.0))
spelt known first.Frame x = three (codes "frame") (name_word known.views x.0) (rect_words x.1.0) (spaced (pattern_text x.1.1.0))
spelt known first.Line x = four (codes "line") (name_word known.views x.0) (point_words x.1.0) (point_words x.1.1.0) (spaced (pattern_text x.1.1.1.0))
spelt known first.Text x = two (codes "text") (name_word known.views x.0) (spaced x.1.0)
spelt known first.Bitmap x = three (codes "bitmap") (name_word known.views x.0) (name_word known.bitmaps x.1.0) (point_words x.1.1.0)
spelt known first.High x = two (codes "high") (name_word known.views x.0) (spaced (color_text x.1.0))
spelt known first.Low x = two (codes "low") (name_word known.views x.0) (spaced (color_text x.1.0))
spelt known first.ViewColor x = two (codes "viewcolor") (name_word known.views x.0) (spaced (color_text x.1.0))
spelt known first.Mode x = two (codes "mode") (name_word known.views x.0) (spaced (mode_text x.1.0))
spelt known first.PenSize x = two (codes "pensize") (name_word known.views x.0) (number_word (pos x.1.0))
spelt known first.Pen x = two (codes "pen") (name_word known.views x.0) (point_words x.1.0)
spelt known first.Origin x = two (codes "origin") (name_word known.views x.0) (point_words x.1.0)
spelt known first.Clip x = two (codes "clip") (name_word known.views x.0) (clip_words x.1.0)
spelt known first.Push x = one (codes "push") (name_word known.views x.0)
spelt known first.Pop x = one (codes "pop") (name_word known.views x.0)
spelt known first.CopyBits x = three (codes "copybits") (name_word known.views x.0) (rect_words x.1.0) (point_words x.1.1.0)
spelt known first.Invalidate x = two (codes "invalidate") (name_word known.views x.0) (rect_words x.1.0)
spelt known first.Show x = none (codes "show")
spelt known first.Hide x = none (codes "hide")
spelt known first.MoveTo x = one (codes "moveto") (point_words x.0)
spelt known first.MoveBy x = one (codes "moveby") (pair_words x.0.0 x.0.1)
spelt known first.ResizeTo x = one (codes "resizeto") (pair_words x.0.0 x.0.1)
spelt known first.Activate x = none (codes "activate")
spelt known first.Behind x = one (codes "behind") (name_word known.windows x.0)
spelt known first.Focus x = one (codes "focus") (focus_word known.views x.0)
spelt known first.Close x = none (codes "close")
