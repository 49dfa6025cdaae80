-- The views of a window and their Draw bodies are counted and found in what is kept of it.
use Rattle.std.proofs.Common.{◌≡◌, ℕ, ◌+◌, ◌<◌, ◌==◌, ◌&&◌, ◌||◌, Bool, true, false, List, length, get_or, Some, Ok, Err, refl, ap, sym, ◌∙◌, arith}
use Rattle.std.proofs.lemmas.List.FromFn.{get_or-map-range_with_len, length-map-range_with_len}
use Rattle.std.specs.List.{list_any}
use Rattle.be_facts.proofs.Truths.{or_false}
use Rattle.be_facts.proofs.Lists.{map_length}
use Rattle.be_command.specs.declared.fault.Reason.TheVariants.{NameTaken}
use Rattle.be_script.specs.declared.DrawLine.{DrawLine}
use Rattle.be_script.specs.declared.ViewLine.{ViewLine}
use Rattle.be_said.specs.declared.inside.Inside.{Inside}
use Rattle.be_said.specs.Deeds.{begins_draw}
use Rattle.be_said.specs.Inside.{IsInside, is_drawn, is_drawn_by}
use Rattle.be_said.specs.Judging.{done, said_then}
use Rattle.be_said.specs.SoFar.{SoFar, Begun, nothing, view_names, views_in}
use Rattle.be_said.proofs.DueLemmas.{may-be-done, taken-before}
use Rattle.be_said.proofs.WindowKept.{depth_count}

-- each view has a name, the root too
pub view_count : (said : SoFar) (w : ℕ) → length (view_names said (Some w)) ≡ length (views_in said w) + 1
view_count said w = omega (arith, map_length (λ (line : ViewLine). line.name) (views_in said w))

-- and a depth
pub depths_count : (said : SoFar) (w : ℕ) (here : Inside) → IsInside said w here → length here.depths.items ≡ length (views_in said w) + 1
depths_count said w here is = ap length is.depths ∙ depth_count (views_in said w)

-- and says whether it has a Draw body
pub draw_count : (said : SoFar) (w : ℕ) (here : Inside) → IsInside said w here → length here.draws.items ≡ length (views_in said w) + 1
draw_count said w here is =
    ap length is.draws ∙ length-map-range_with_len (is_drawn said w) 0 (length here.depths.items) ∙ depths_count said w here is

draw_line : (said : SoFar) (w v : ℕ) → said.begun ≡ nothing →
    is_drawn said w v ≡ list_any (λ (line : DrawLine). line.window == w && line.view == v) said.draws
draw_line said w v free =
    ap (λ (b : Begun). list_any (λ (line : DrawLine). line.window == w && line.view == v) said.draws || is_drawn_by b w v) free
    ∙ or_false (list_any (λ (line : DrawLine). line.window == w && line.view == v) said.draws)

pub draw_at : (said : SoFar) (w v : ℕ) (here : Inside) (drawn : Bool) → IsInside said w here → said.begun ≡ nothing → v < length (view_names said (Some w)) →
    drawn ≡ get_or here.draws.items v drawn → drawn ≡ list_any (λ (line : DrawLine). line.window == w && line.view == v) said.draws
draw_at said w v here drawn is free low at =
    let low_depth : v < length here.depths.items = omega (arith, low, view_count said w, depths_count said w here is) in
    at ∙ ap (λ (xs : List Bool). get_or xs v drawn) is.draws
    ∙ get_or-map-range_with_len (is_drawn said w) 0 (length here.depths.items) v v drawn low_depth (omega arith) ∙ draw_line said w v free

pub draw-taken : (said : SoFar) (w v : ℕ) (drawn : Bool) → drawn ≡ list_any (λ (line : DrawLine). line.window == w && line.view == v) said.draws → drawn ≡ true →
    done said (begins_draw w v) ≡ Err NameTaken
draw-taken said w v drawn is hit = taken-before said (begins_draw w v) (sym is ∙ hit)

pub draw-done : (said : SoFar) (w v : ℕ) (drawn : Bool) → drawn ≡ list_any (λ (line : DrawLine). line.window == w && line.view == v) said.draws → drawn ≡ false →
    done said (begins_draw w v) ≡ Ok (said_then said (begins_draw w v))
draw-done said w v drawn is none = may-be-done said (begins_draw w v) (sym is ∙ none) refl
