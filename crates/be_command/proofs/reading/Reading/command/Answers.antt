use Rattle.std.proofs.Common.{◌≡◌, inl, inr, [], ◌∷◌, to_z, of_z, w16, w32, rules}
use Rattle.std.proofs.lemmas.Result.{err_from_is_err_and}
use Rattle.be_command.specs.declared.first_word.FirstWord.TheVariants as first
use Rattle.be_command.specs.Kinds.{a_view, a_window, a_bitmap, a_focus, a_point, a_rect, a_distance, a_size, a_pen_size, a_pattern, a_color, a_mode, a_text, a_clip}
use Rattle.be_command.specs.Forms.{form_of}
use Rattle.be_command.proofs.TakesLemmas.{takes_nothing, takes_kind, takes_word}
use Rattle.be_command.proofs.reading.Reading.command.Goals as goal

pub returns-in-Fill : goal.returns-in-Fill
unfolding form_of
returns-in-Fill c =
    let known = c.args.names.now in
    takes_word known c.args.word first.Fill c.args.self.now c.pattern.new.self (c.view.result, (c.rect.result, (c.pattern.result, tt))) c.in-Fill.is
    (takes_kind known a_view (a_rect ∷ a_pattern ∷ []) c.args.self.now c.view.new.self c.pattern.new.self c.view.result (c.rect.result, (c.pattern.result, tt)) c.view.ensures
    (takes_kind known a_rect (a_pattern ∷ []) c.view.new.self c.rect.new.self c.pattern.new.self c.rect.result (c.pattern.result, tt) c.rect.ensures
    (takes_kind known a_pattern [] c.rect.new.self c.pattern.new.self c.pattern.new.self c.pattern.result tt c.pattern.ensures
    (takes_nothing known c.pattern.new.self))))

pub returns-in-Frame : goal.returns-in-Frame
unfolding form_of
returns-in-Frame c =
    let known = c.args.names.now in
    takes_word known c.args.word first.Frame c.args.self.now c.pattern-in-Frame.new.self (c.view-in-Frame.result, (c.rect-in-Frame.result, (c.pattern-in-Frame.result, tt))) c.in-Frame.is
    (takes_kind known a_view (a_rect ∷ a_pattern ∷ []) c.args.self.now c.view-in-Frame.new.self c.pattern-in-Frame.new.self c.view-in-Frame.result (c.rect-in-Frame.result, (c.pattern-in-Frame.result, tt)) c.view-in-Frame.ensures
    (takes_kind known a_rect (a_pattern ∷ []) c.view-in-Frame.new.self c.rect-in-Frame.new.self c.pattern-in-Frame.new.self c.rect-in-Frame.result (c.pattern-in-Frame.result, tt) c.rect-in-Frame.ensures
    (takes_kind known a_pattern [] c.rect-in-Frame.new.self c.pattern-in-Frame.new.self c.pattern-in-Frame.new.self c.pattern-in-Frame.result tt c.pattern-in-Frame.ensures
    (takes_nothing known c.pattern-in-Frame.new.self))))

pub returns-in-Line : goal.returns-in-Line
unfolding form_of
returns-in-Line c =
    let known = c.args.names.now in
    takes_word known c.args.word first.Line c.args.self.now c.pattern-in-Line.new.self (c.view-in-Line.result, (c.point.result, (c.point-in-Line.result, (c.pattern-in-Line.result, tt)))) c.in-Line.is
    (takes_kind known a_view (a_point ∷ a_point ∷ a_pattern ∷ []) c.args.self.now c.view-in-Line.new.self c.pattern-in-Line.new.self c.view-in-Line.result (c.point.result, (c.point-in-Line.result, (c.pattern-in-Line.result, tt))) c.view-in-Line.ensures
    (takes_kind known a_point (a_point ∷ a_pattern ∷ []) c.view-in-Line.new.self c.point.new.self c.pattern-in-Line.new.self c.point.result (c.point-in-Line.result, (c.pattern-in-Line.result, tt)) c.point.ensures
    (takes_kind known a_point (a_pattern ∷ []) c.point.new.self c.point-in-Line.new.self c.pattern-in-Line.new.self c.point-in-Line.result (c.pattern-in-Line.result, tt) c.point-in-Line.ensures
    (takes_kind known a_pattern [] c.point-in-Line.new.self c.pattern-in-Line.new.self c.pattern-in-Line.new.self c.pattern-in-Line.result tt c.pattern-in-Line.ensures
    (takes_nothing known c.pattern-in-Line.new.self)))))

pub returns-in_ok-text-in-Text : goal.returns-in_ok-text-in-Text
unfolding form_of
returns-in_ok-text-in-Text c =
    let known = c.args.names.now in
    takes_word known c.args.word first.Text c.args.self.now c.text.new.self (c.view-in-Text.result, (c.in_ok-text-in-Text.field-0, tt)) c.in-Text.is
    (takes_kind known a_view (a_text ∷ []) c.args.self.now c.view-in-Text.new.self c.text.new.self c.view-in-Text.result (c.in_ok-text-in-Text.field-0, tt) c.view-in-Text.ensures
    (takes_kind known a_text [] c.view-in-Text.new.self c.text.new.self c.text.new.self c.in_ok-text-in-Text.field-0 tt c.in_ok-text-in-Text.ensures
    (takes_nothing known c.text.new.self)))

pub returns-in-Bitmap : goal.returns-in-Bitmap
unfolding form_of
returns-in-Bitmap c =
    let known = c.args.names.now in
    takes_word known c.args.word first.Bitmap c.args.self.now c.point-in-Bitmap.new.self (c.view-in-Bitmap.result, (c.bitmap.result, (c.point-in-Bitmap.result, tt))) c.in-Bitmap.is
    (takes_kind known a_view (a_bitmap ∷ a_point ∷ []) c.args.self.now c.view-in-Bitmap.new.self c.point-in-Bitmap.new.self c.view-in-Bitmap.result (c.bitmap.result, (c.point-in-Bitmap.result, tt)) c.view-in-Bitmap.ensures
    (takes_kind known a_bitmap (a_point ∷ []) c.view-in-Bitmap.new.self c.bitmap.new.self c.point-in-Bitmap.new.self c.bitmap.result (c.point-in-Bitmap.result, tt) c.bitmap.ensures
    (takes_kind known a_point [] c.bitmap.new.self c.point-in-Bitmap.new.self c.point-in-Bitmap.new.self c.point-in-Bitmap.result tt c.point-in-Bitmap.ensures
    (takes_nothing known c.point-in-Bitmap.new.self))))

pub returns-in-High : goal.returns-in-High
unfolding form_of
returns-in-High c =
    let known = c.args.names.now in
    takes_word known c.args.word first.High c.args.self.now c.color.new.self (c.view-in-High.result, (c.color.result, tt)) c.in-High.is
    (takes_kind known a_view (a_color ∷ []) c.args.self.now c.view-in-High.new.self c.color.new.self c.view-in-High.result (c.color.result, tt) c.view-in-High.ensures
    (takes_kind known a_color [] c.view-in-High.new.self c.color.new.self c.color.new.self c.color.result tt c.color.ensures
    (takes_nothing known c.color.new.self)))

pub returns-in-Low : goal.returns-in-Low
unfolding form_of
returns-in-Low c =
    let known = c.args.names.now in
    takes_word known c.args.word first.Low c.args.self.now c.color-in-Low.new.self (c.view-in-Low.result, (c.color-in-Low.result, tt)) c.in-Low.is
    (takes_kind known a_view (a_color ∷ []) c.args.self.now c.view-in-Low.new.self c.color-in-Low.new.self c.view-in-Low.result (c.color-in-Low.result, tt) c.view-in-Low.ensures
    (takes_kind known a_color [] c.view-in-Low.new.self c.color-in-Low.new.self c.color-in-Low.new.self c.color-in-Low.result tt c.color-in-Low.ensures
    (takes_nothing known c.color-in-Low.new.self)))

pub returns-in-ViewColor : goal.returns-in-ViewColor
unfolding form_of
returns-in-ViewColor c =
    let known = c.args.names.now in
    takes_word known c.args.word first.ViewColor c.args.self.now c.color-in-ViewColor.new.self (c.view-in-ViewColor.result, (c.color-in-ViewColor.result, tt)) c.in-ViewColor.is
    (takes_kind known a_view (a_color ∷ []) c.args.self.now c.view-in-ViewColor.new.self c.color-in-ViewColor.new.self c.view-in-ViewColor.result (c.color-in-ViewColor.result, tt) c.view-in-ViewColor.ensures
    (takes_kind known a_color [] c.view-in-ViewColor.new.self c.color-in-ViewColor.new.self c.color-in-ViewColor.new.self c.color-in-ViewColor.result tt c.color-in-ViewColor.ensures
    (takes_nothing known c.color-in-ViewColor.new.self)))

pub returns-in-Mode : goal.returns-in-Mode
unfolding form_of
returns-in-Mode c =
    let known = c.args.names.now in
    takes_word known c.args.word first.Mode c.args.self.now c.mode.new.self (c.view-in-Mode.result, (c.mode.result, tt)) c.in-Mode.is
    (takes_kind known a_view (a_mode ∷ []) c.args.self.now c.view-in-Mode.new.self c.mode.new.self c.view-in-Mode.result (c.mode.result, tt) c.view-in-Mode.ensures
    (takes_kind known a_mode [] c.view-in-Mode.new.self c.mode.new.self c.mode.new.self c.mode.result tt c.mode.ensures
    (takes_nothing known c.mode.new.self)))

pub returns-in-PenSize : goal.returns-in-PenSize
unfolding form_of
returns-in-PenSize c =
    let known = c.args.names.now in
    takes_word known c.args.word first.PenSize c.args.self.now c.pen_size.new.self (c.view-in-PenSize.result, (c.pen_size.result, tt)) c.in-PenSize.is
    (takes_kind known a_view (a_pen_size ∷ []) c.args.self.now c.view-in-PenSize.new.self c.pen_size.new.self c.view-in-PenSize.result (c.pen_size.result, tt) c.view-in-PenSize.ensures
    (takes_kind known a_pen_size [] c.view-in-PenSize.new.self c.pen_size.new.self c.pen_size.new.self c.pen_size.result tt c.pen_size.ensures
    (takes_nothing known c.pen_size.new.self)))

pub returns-in-Pen : goal.returns-in-Pen
unfolding form_of
returns-in-Pen c =
    let known = c.args.names.now in
    takes_word known c.args.word first.Pen c.args.self.now c.point-in-Pen.new.self (c.view-in-Pen.result, (c.point-in-Pen.result, tt)) c.in-Pen.is
    (takes_kind known a_view (a_point ∷ []) c.args.self.now c.view-in-Pen.new.self c.point-in-Pen.new.self c.view-in-Pen.result (c.point-in-Pen.result, tt) c.view-in-Pen.ensures
    (takes_kind known a_point [] c.view-in-Pen.new.self c.point-in-Pen.new.self c.point-in-Pen.new.self c.point-in-Pen.result tt c.point-in-Pen.ensures
    (takes_nothing known c.point-in-Pen.new.self)))

pub returns-in-Origin : goal.returns-in-Origin
unfolding form_of
returns-in-Origin c =
    let known = c.args.names.now in
    takes_word known c.args.word first.Origin c.args.self.now c.point-in-Origin.new.self (c.view-in-Origin.result, (c.point-in-Origin.result, tt)) c.in-Origin.is
    (takes_kind known a_view (a_point ∷ []) c.args.self.now c.view-in-Origin.new.self c.point-in-Origin.new.self c.view-in-Origin.result (c.point-in-Origin.result, tt) c.view-in-Origin.ensures
    (takes_kind known a_point [] c.view-in-Origin.new.self c.point-in-Origin.new.self c.point-in-Origin.new.self c.point-in-Origin.result tt c.point-in-Origin.ensures
    (takes_nothing known c.point-in-Origin.new.self)))

pub returns-in_ok-clip-in-Clip : goal.returns-in_ok-clip-in-Clip
unfolding form_of
returns-in_ok-clip-in-Clip c =
    let known = c.args.names.now in
    takes_word known c.args.word first.Clip c.args.self.now c.clip.new.self (c.view-in-Clip.result, (c.in_ok-clip-in-Clip.field-0, tt)) c.in-Clip.is
    (takes_kind known a_view (a_clip ∷ []) c.args.self.now c.view-in-Clip.new.self c.clip.new.self c.view-in-Clip.result (c.in_ok-clip-in-Clip.field-0, tt) c.view-in-Clip.ensures
    (takes_kind known a_clip [] c.view-in-Clip.new.self c.clip.new.self c.clip.new.self c.in_ok-clip-in-Clip.field-0 tt c.in_ok-clip-in-Clip.ensures
    (takes_nothing known c.clip.new.self)))

pub returns-in-Push : goal.returns-in-Push
unfolding form_of
returns-in-Push c =
    let known = c.args.names.now in
    takes_word known c.args.word first.Push c.args.self.now c.view-in-Push.new.self (c.view-in-Push.result, tt) c.in-Push.is
    (takes_kind known a_view [] c.args.self.now c.view-in-Push.new.self c.view-in-Push.new.self c.view-in-Push.result tt c.view-in-Push.ensures
    (takes_nothing known c.view-in-Push.new.self))

pub returns-in-Pop : goal.returns-in-Pop
unfolding form_of
returns-in-Pop c =
    let known = c.args.names.now in
    takes_word known c.args.word first.Pop c.args.self.now c.view-in-Pop.new.self (c.view-in-Pop.result, tt) c.in-Pop.is
    (takes_kind known a_view [] c.args.self.now c.view-in-Pop.new.self c.view-in-Pop.new.self c.view-in-Pop.result tt c.view-in-Pop.ensures
    (takes_nothing known c.view-in-Pop.new.self))

pub returns-in-CopyBits : goal.returns-in-CopyBits
unfolding form_of
returns-in-CopyBits c =
    let known = c.args.names.now in
    takes_word known c.args.word first.CopyBits c.args.self.now c.point-in-CopyBits.new.self (c.view-in-CopyBits.result, (c.rect-in-CopyBits.result, (c.point-in-CopyBits.result, tt))) c.in-CopyBits.is
    (takes_kind known a_view (a_rect ∷ a_point ∷ []) c.args.self.now c.view-in-CopyBits.new.self c.point-in-CopyBits.new.self c.view-in-CopyBits.result (c.rect-in-CopyBits.result, (c.point-in-CopyBits.result, tt)) c.view-in-CopyBits.ensures
    (takes_kind known a_rect (a_point ∷ []) c.view-in-CopyBits.new.self c.rect-in-CopyBits.new.self c.point-in-CopyBits.new.self c.rect-in-CopyBits.result (c.point-in-CopyBits.result, tt) c.rect-in-CopyBits.ensures
    (takes_kind known a_point [] c.rect-in-CopyBits.new.self c.point-in-CopyBits.new.self c.point-in-CopyBits.new.self c.point-in-CopyBits.result tt c.point-in-CopyBits.ensures
    (takes_nothing known c.point-in-CopyBits.new.self))))

pub returns-in-Invalidate : goal.returns-in-Invalidate
unfolding form_of
returns-in-Invalidate c =
    let known = c.args.names.now in
    takes_word known c.args.word first.Invalidate c.args.self.now c.rect-in-Invalidate.new.self (c.view-in-Invalidate.result, (c.rect-in-Invalidate.result, tt)) c.in-Invalidate.is
    (takes_kind known a_view (a_rect ∷ []) c.args.self.now c.view-in-Invalidate.new.self c.rect-in-Invalidate.new.self c.view-in-Invalidate.result (c.rect-in-Invalidate.result, tt) c.view-in-Invalidate.ensures
    (takes_kind known a_rect [] c.view-in-Invalidate.new.self c.rect-in-Invalidate.new.self c.rect-in-Invalidate.new.self c.rect-in-Invalidate.result tt c.rect-in-Invalidate.ensures
    (takes_nothing known c.rect-in-Invalidate.new.self)))

pub returns-in-Show : goal.returns-in-Show
unfolding form_of
returns-in-Show c =
    let known = c.args.names.now in
    takes_word known c.args.word first.Show c.args.self.now c.args.self.now tt c.in-Show.is
    (takes_nothing known c.args.self.now)

pub returns-in-Hide : goal.returns-in-Hide
unfolding form_of
returns-in-Hide c =
    let known = c.args.names.now in
    takes_word known c.args.word first.Hide c.args.self.now c.args.self.now tt c.in-Hide.is
    (takes_nothing known c.args.self.now)

pub returns-in-MoveTo : goal.returns-in-MoveTo
unfolding form_of
returns-in-MoveTo c =
    let known = c.args.names.now in
    takes_word known c.args.word first.MoveTo c.args.self.now c.point-in-MoveTo.new.self (c.point-in-MoveTo.result, tt) c.in-MoveTo.is
    (takes_kind known a_point [] c.args.self.now c.point-in-MoveTo.new.self c.point-in-MoveTo.new.self c.point-in-MoveTo.result tt c.point-in-MoveTo.ensures
    (takes_nothing known c.point-in-MoveTo.new.self))

pub returns-in-MoveBy : goal.returns-in-MoveBy
unfolding form_of
returns-in-MoveBy c =
    let known = c.args.names.now in
    let one : to_z w32 (of_z w32 c.distance-right.result.0) ≡ c.distance-right.result.0 = search rules in
    let two : to_z w32 (of_z w32 c.distance-right.result.1) ≡ c.distance-right.result.1 = search rules in
    rw (one, two)
    (takes_word known c.args.word first.MoveBy c.args.self.now c.distance-right.new.self (c.distance-right.result, tt) c.in-MoveBy.is
    (takes_kind known a_distance [] c.args.self.now c.distance-right.new.self c.distance-right.new.self c.distance-right.result tt c.distance-right.ensures
    (takes_nothing known c.distance-right.new.self)))

pub returns-in-ResizeTo : goal.returns-in-ResizeTo
unfolding form_of
returns-in-ResizeTo c =
    let known = c.args.names.now in
    let one : to_z w16 (of_z w16 c.size-width.result.0) ≡ c.size-width.result.0 = search rules in
    let two : to_z w16 (of_z w16 c.size-width.result.1) ≡ c.size-width.result.1 = search rules in
    rw (one, two)
    (takes_word known c.args.word first.ResizeTo c.args.self.now c.size-width.new.self (c.size-width.result, tt) c.in-ResizeTo.is
    (takes_kind known a_size [] c.args.self.now c.size-width.new.self c.size-width.new.self c.size-width.result tt c.size-width.ensures
    (takes_nothing known c.size-width.new.self)))

pub returns-in-Activate : goal.returns-in-Activate
unfolding form_of
returns-in-Activate c =
    let known = c.args.names.now in
    takes_word known c.args.word first.Activate c.args.self.now c.args.self.now tt c.in-Activate.is
    (takes_nothing known c.args.self.now)

pub returns-in-Behind : goal.returns-in-Behind
unfolding form_of
returns-in-Behind c =
    let known = c.args.names.now in
    takes_word known c.args.word first.Behind c.args.self.now c.window.new.self (c.window.result, tt) c.in-Behind.is
    (takes_kind known a_window [] c.args.self.now c.window.new.self c.window.new.self c.window.result tt c.window.ensures
    (takes_nothing known c.window.new.self))

pub returns-in-Focus : goal.returns-in-Focus
unfolding form_of
returns-in-Focus c =
    let known = c.args.names.now in
    takes_word known c.args.word first.Focus c.args.self.now c.focus.new.self (c.focus.result, tt) c.in-Focus.is
    (takes_kind known a_focus [] c.args.self.now c.focus.new.self c.focus.new.self c.focus.result tt c.focus.ensures
    (takes_nothing known c.focus.new.self))

pub returns-in-Close : goal.returns-in-Close
unfolding form_of
returns-in-Close c =
    let known = c.args.names.now in
    takes_word known c.args.word first.Close c.args.self.now c.args.self.now tt c.in-Close.is
    (takes_nothing known c.args.self.now)

pub returns-in_err-text-in-Text : goal.returns-in_err-text-in-Text
returns-in_err-text-in-Text c =
    let p = err_from_is_err_and c.from_residual.result c.from_residual.ensures.1 in
    rw p.1 (inl c.in-Text.is)

pub returns-in_err-clip-in-Clip : goal.returns-in_err-clip-in-Clip
returns-in_err-clip-in-Clip c =
    let p = err_from_is_err_and c.from_residual-in_err-clip-in-Clip.result c.from_residual-in_err-clip-in-Clip.ensures.1 in
    rw p.1 (inr c.in-Clip.is)
