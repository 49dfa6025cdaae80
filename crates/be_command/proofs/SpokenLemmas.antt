-- A command within its limits is one that a line can be.
use Rattle.std.proofs.Common.{◌≡◌, ℕ, ◌<◌, ◌≤◌, pos, negsuc, Bool, true, ◌&&◌, nat_le, nat_lt, refl, arith, List, length, Option, Some, None}
use Rattle.std.proofs.lemmas.Bool.{and_parts, ltb-true}
use Rattle.std.proofs.lemmas.Bool.Decides.{nat_tests}
use Rattle.be_geom.specs.declared.change.Change.TheVariants as change
use Rattle.be_geom.specs.declared.rect.Rect.{Rect}
use Rattle.be_geom.specs.Points.{between}
use Rattle.be_command.specs.declared.Command.{Command}
use Rattle.be_command.specs.declared.Command.TheVariants as command
use Rattle.be_command.specs.declared.first_word.FirstWord.TheVariants as first
use Rattle.be_command.specs.Names.{Known}
use Rattle.be_command.specs.Limits.{is_command, is_clip, names_what_is, is_view_or_none}
use Rattle.be_command.specs.Forms.{form_of}
use Rattle.be_command.specs.Laws.{IsClip, IsFocus, IsSpoken}
use Rattle.be_command.specs.Typed.{IsTyped, AreTypedRects}

-- a view that is there, and what else is named is there too
below : (v n : ℕ) (rest : Bool) → (nat_lt v n && rest) ≡ true → v < n
below v n rest h = ltb-true v n (and_parts (nat_lt v n) rest h).0

pen : (n : ℕ) → (nat_le 1 n && nat_le n 32) ≡ true → (1 ≤ n) × (n ≤ 32)
pen n h =
    let parts = and_parts (nat_le 1 n) (nat_le n 32) h in
    let low = parts.0 in
    let high = parts.1 in
    (grind (arith, nat_tests), grind (arith, nat_tests))

clip : (rects : Option (List Rect)) → is_clip rects ≡ true → AreTypedRects rects → IsClip rects
clip None h t = tt
clip (Some rects) h t =
    let parts = and_parts (nat_le 1 (length rects)) (nat_le (length rects) 16) h in
    let low = parts.0 in
    let high = parts.1 in
    (grind (arith, nat_tests), (grind (arith, nat_tests), t))

focus : (views : List (List ℕ)) (view : Option ℕ) → is_view_or_none (length views) view ≡ true → IsFocus views view
focus views None h = tt
focus views (Some v) h = ltb-true v (length views) h

pub spoken-within : (known : Known) (c : Command) → IsTyped c → is_command c ≡ true → names_what_is (length known.windows) (length known.views) (length known.bitmaps) c ≡ true → IsSpoken known c
unfolding is_command names_what_is form_of
spoken-within known (command.Fill v r p) t l n = record { word = first.Fill; said = (v, (r, (p, tt))); within = (below v (length known.views) true n, (t.0, (t.1, tt))); made = refl }
spoken-within known (command.Frame v r p) t l n = record { word = first.Frame; said = (v, (r, (p, tt))); within = (below v (length known.views) true n, (t.0, (t.1, tt))); made = refl }
spoken-within known (command.Line v from to p) t l n = record { word = first.Line; said = (v, (from, (to, (p, tt)))); within = (below v (length known.views) true n, (t.0, (t.1.0, (t.1.1, tt)))); made = refl }
spoken-within known (command.Text v text) t l n = record { word = first.Text; said = (v, (text, tt)); within = (below v (length known.views) true n, (l, tt)); made = refl }
spoken-within known (command.Bitmap v b at) t l n = record { word = first.Bitmap; said = (v, (b, (at, tt))); within = (below v (length known.views) (nat_lt b (length known.bitmaps)) n, (ltb-true b (length known.bitmaps) (and_parts (nat_lt v (length known.views)) (nat_lt b (length known.bitmaps)) n).1, (t, tt))); made = refl }
spoken-within known (command.High v c) t l n = record { word = first.High; said = (v, (c, tt)); within = (below v (length known.views) true n, (t, tt)); made = refl }
spoken-within known (command.Low v c) t l n = record { word = first.Low; said = (v, (c, tt)); within = (below v (length known.views) true n, (t, tt)); made = refl }
spoken-within known (command.ViewColor v c) t l n = record { word = first.ViewColor; said = (v, (c, tt)); within = (below v (length known.views) true n, (t, tt)); made = refl }
spoken-within known (command.Mode v m) t l n = record { word = first.Mode; said = (v, (m, tt)); within = (below v (length known.views) true n, (tt, tt)); made = refl }
spoken-within known (command.PenSize v size) t l n = record { word = first.PenSize; said = (v, (size, tt)); within = (below v (length known.views) true n, (pen size l, tt)); made = refl }
spoken-within known (command.Pen v at) t l n = record { word = first.Pen; said = (v, (at, tt)); within = (below v (length known.views) true n, (t, tt)); made = refl }
spoken-within known (command.Origin v at) t l n = record { word = first.Origin; said = (v, (at, tt)); within = (below v (length known.views) true n, (t, tt)); made = refl }
spoken-within known (command.Clip v rects) t l n = record { word = first.Clip; said = (v, (rects, tt)); within = (below v (length known.views) true n, (clip rects l t, tt)); made = refl }
spoken-within known (command.Push v) t l n = record { word = first.Push; said = (v, tt); within = (below v (length known.views) true n, tt); made = refl }
spoken-within known (command.Pop v) t l n = record { word = first.Pop; said = (v, tt); within = (below v (length known.views) true n, tt); made = refl }
spoken-within known (command.CopyBits v r at) t l n = record { word = first.CopyBits; said = (v, (r, (at, tt))); within = (below v (length known.views) true n, (t.0, (t.1, tt))); made = refl }
spoken-within known (command.Invalidate v r) t l n = record { word = first.Invalidate; said = (v, (r, tt)); within = (below v (length known.views) true n, (t, tt)); made = refl }
spoken-within known (command.Change change.Show) t l n = record { word = first.Show; said = tt; within = tt; made = refl }
spoken-within known (command.Change change.Hide) t l n = record { word = first.Hide; said = tt; within = tt; made = refl }
spoken-within known (command.Change (change.MoveTo p)) t l n = record { word = first.MoveTo; said = (p, tt); within = (t, tt); made = refl }
spoken-within known (command.Change (change.MoveBy dx dy)) t l n = record { word = first.MoveBy; said = ((dx, dy), tt); within = (and_parts (between (negsuc 65534) dx (pos 65535)) (between (negsuc 65534) dy (pos 65535)) l, tt); made = refl }
spoken-within known (command.Change (change.ResizeTo w h)) t l n = record { word = first.ResizeTo; said = ((w, h), tt); within = (and_parts (between (pos 0) w (pos 32767)) (between (pos 0) h (pos 32767)) l, tt); made = refl }
spoken-within known (command.Change change.Activate) t l n = record { word = first.Activate; said = tt; within = tt; made = refl }
spoken-within known (command.Change (change.Behind w)) t l n = record { word = first.Behind; said = (w, tt); within = (ltb-true w (length known.windows) n, tt); made = refl }
spoken-within known (command.Change (change.Focus v)) t l n = record { word = first.Focus; said = (v, tt); within = (focus known.views v n, tt); made = refl }
spoken-within known (command.Change change.Close) t l n = record { word = first.Close; said = tt; within = tt; made = refl }
spoken-within known command.EndUpdate t l n = (cc)
