-- A command that is read keeps its limits and names what is there.
use Rattle.std.proofs.Common.{◌≡◌, ℕ, ◌<◌, ◌≤◌, true, ◌&&◌, List, length, Option, Some, None, Result, Ok, Err, refl, subst}
use Rattle.std.specs.Prelude.{nat_lt, nat_le}
use Rattle.std.specs.Option.{option_and_then}
use Rattle.std.proofs.lemmas.Bool.{le-leb, lt-ltb, and_from}
use Rattle.be_command.specs.declared.Command.{Command}
use Rattle.be_command.specs.declared.first_word.FirstWord.{FirstWord}
use Rattle.be_command.specs.declared.first_word.FirstWord.TheVariants as first
use Rattle.be_command.specs.Faults.{both}
use Rattle.be_command.specs.Forms.{first_word_of, form_of}
use Rattle.be_command.specs.Kinds.{SaidAll, after_all, said_all}
use Rattle.be_command.specs.Laws.{AreWithin, IsClip, IsFocus}
use Rattle.be_command.specs.Limits.{is_clip, is_command, is_drawing, is_view_or_none, names_what_is}
use Rattle.be_command.specs.Names.{Known}
use Rattle.be_command.specs.Places.{At, after_word, ended, word_at}
use Rattle.be_command.specs.Reading.{command_of, command_or_reason, line_start, read_after}
use Rattle.be_command.proofs.FaultLemmas.{ok-both, ok-said_as}
use Rattle.be_command.proofs.WithinLemmas.{all_within}
use Rattle.be_geom.specs.declared.rect.Rect.{Rect}
use Rattle.be_line.specs.FirstWords.{is_of_drawing}

-- ---- what a form makes

clip_fits : (clip : Option (List Rect)) → IsClip clip → is_clip clip ≡ true
clip_fits None h = refl
clip_fits (Some rects) h = and_from (nat_le 1 (length rects)) (nat_le (length rects) 16) (le-leb 1 (length rects) h.0) (le-leb (length rects) 16 h.1.0)

pen_fits : (n : ℕ) → 1 ≤ n → n ≤ 32 → (nat_le 1 n && nat_le n 32) ≡ true
pen_fits n low high = and_from (nat_le 1 n) (nat_le n 32) (le-leb 1 n low) (le-leb n 32 high)

focus_fits : (views : List (List ℕ)) (v : Option ℕ) → IsFocus views v → is_view_or_none (length views) v ≡ true
focus_fits views None h = refl
focus_fits views (Some v) h = lt-ltb v (length views) h

pub command-keeps : (known : Known) (word : FirstWord) (x : SaidAll (form_of word).kinds) → AreWithin known (form_of word).kinds x → is_command ((form_of word).makes x) ≡ true
unfolding form_of is_command
command-keeps known first.Fill x h = refl
command-keeps known first.Frame x h = refl
command-keeps known first.Line x h = refl
command-keeps known first.Text x h = h.1.0
command-keeps known first.Bitmap x h = refl
command-keeps known first.High x h = refl
command-keeps known first.Low x h = refl
command-keeps known first.ViewColor x h = refl
command-keeps known first.Mode x h = refl
command-keeps known first.PenSize x h = pen_fits x.1.0 h.1.0.0 h.1.0.1
command-keeps known first.Pen x h = refl
command-keeps known first.Origin x h = refl
command-keeps known first.Clip x h = clip_fits x.1.0 h.1.0
command-keeps known first.Push x h = refl
command-keeps known first.Pop x h = refl
command-keeps known first.CopyBits x h = refl
command-keeps known first.Invalidate x h = refl
command-keeps known first.Show x h = refl
command-keeps known first.Hide x h = refl
command-keeps known first.MoveTo x h = refl
command-keeps known first.MoveBy x h = and_from _ _ h.0.0 h.0.1
command-keeps known first.ResizeTo x h = and_from _ _ h.0.0 h.0.1
command-keeps known first.Activate x h = refl
command-keeps known first.Behind x h = refl
command-keeps known first.Focus x h = refl
command-keeps known first.Close x h = refl

at_view : (known : Known) (v : ℕ) → v < length known.views → (nat_lt v (length known.views) && true) ≡ true
at_view known v h = and_from (nat_lt v (length known.views)) true (lt-ltb v (length known.views) h) refl

pub command-names : (known : Known) (word : FirstWord) (x : SaidAll (form_of word).kinds) → AreWithin known (form_of word).kinds x →
    names_what_is (length known.windows) (length known.views) (length known.bitmaps) ((form_of word).makes x) ≡ true
unfolding form_of names_what_is
command-names known first.Fill x h = at_view known x.0 h.0
command-names known first.Frame x h = at_view known x.0 h.0
command-names known first.Line x h = at_view known x.0 h.0
command-names known first.Text x h = at_view known x.0 h.0
command-names known first.Bitmap x h =
    and_from (nat_lt x.0 (length known.views)) (nat_lt x.1.0 (length known.bitmaps)) (lt-ltb x.0 (length known.views) h.0) (lt-ltb x.1.0 (length known.bitmaps) h.1.0)
command-names known first.High x h = at_view known x.0 h.0
command-names known first.Low x h = at_view known x.0 h.0
command-names known first.ViewColor x h = at_view known x.0 h.0
command-names known first.Mode x h = at_view known x.0 h.0
command-names known first.PenSize x h = at_view known x.0 h.0
command-names known first.Pen x h = at_view known x.0 h.0
command-names known first.Origin x h = at_view known x.0 h.0
command-names known first.Clip x h = at_view known x.0 h.0
command-names known first.Push x h = at_view known x.0 h.0
command-names known first.Pop x h = at_view known x.0 h.0
command-names known first.CopyBits x h = at_view known x.0 h.0
command-names known first.Invalidate x h = at_view known x.0 h.0
command-names known first.Show x h = refl
command-names known first.Hide x h = refl
command-names known first.MoveTo x h = refl
command-names known first.MoveBy x h = refl
command-names known first.ResizeTo x h = refl
command-names known first.Activate x h = refl
command-names known first.Behind x h = lt-ltb x.0 (length known.windows) h.0
command-names known first.Focus x h = focus_fits known.views x.0 h.0
command-names known first.Close x h = refl

pub command-draws : (word : FirstWord) (x : SaidAll (form_of word).kinds) → is_of_drawing word ≡ true → is_drawing ((form_of word).makes x) ≡ true
unfolding form_of is_drawing
command-draws first.Fill x h = refl
command-draws first.Frame x h = refl
command-draws first.Line x h = refl
command-draws first.Text x h = refl
command-draws first.Bitmap x h = refl
command-draws first.High x h = refl
command-draws first.Low x h = refl
command-draws first.ViewColor x h = refl
command-draws first.Mode x h = refl
command-draws first.PenSize x h = refl
command-draws first.Pen x h = refl
command-draws first.Origin x h = refl
command-draws first.Clip x h = refl
command-draws first.Push x h = refl
command-draws first.Pop x h = refl
command-draws first.CopyBits x h = h
command-draws first.Invalidate x h = h
command-draws first.Show x h = h
command-draws first.Hide x h = h
command-draws first.MoveTo x h = h
command-draws first.MoveBy x h = h
command-draws first.ResizeTo x h = h
command-draws first.Activate x h = h
command-draws first.Behind x h = h
command-draws first.Focus x h = h
command-draws first.Close x h = h

-- ---- what a line is

-- a command of this word, with what stands behind it
pub record IsMadeBy (known : Known) (word : FirstWord) (c : Command) : Type 0 where
  pub parts : SaidAll (form_of word).kinds
  pub kept : AreWithin known (form_of word).kinds parts
  pub made : (form_of word).makes parts ≡ c

made_after : (known : Known) (word : FirstWord) (at : At) (c : Command) → read_after known (Some word) at ≡ Ok c → IsMadeBy known word c
made_after known word at c e =
    let form = form_of word in
    let x = ok-said_as (λ (x : SaidAll form.kinds × Unit {0}). form.makes x.0) (both (said_all known form.kinds at) (ended (after_all form.kinds at))) c e in
    let parts = ok-both (said_all known form.kinds at) (ended (after_all form.kinds at)) x.0 x.1.0 in
    record { parts = x.0.0; kept = all_within known form.kinds at x.0.0 parts.0; made = x.1.1 }

reason_ok : (r : Result Command _) (line : List ℕ) (known : Known) (c : Command) → command_of known line ≡ r → command_or_reason known line ≡ Ok c → r ≡ Ok c
unfolding command_or_reason
reason_ok (Ok d) line known c e h = let g = rw e at h in (cc)
reason_ok (Err fault) line known c e h = let g = rw e at h in absurd ((cc))

pub command-made : (known : Known) (line : List ℕ) (word : FirstWord) (c : Command) → option_and_then first_word_of (word_at (line_start line)) ≡ Some word →
    command_or_reason known line ≡ Ok c → IsMadeBy known word c
unfolding command_of
command-made known line word c first e =
    made_after known word (after_word (line_start line)) c
    (subst (λ (o : Option FirstWord). read_after known o (after_word (line_start line)) ≡ Ok c) first (reason_ok (command_of known line) line known c refl e))
