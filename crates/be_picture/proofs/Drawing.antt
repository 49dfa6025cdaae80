-- Drawing commands, one after the other.
use Rattle.std.proofs.Common.{◌≡◌, ℕ, zero, suc, ◌+◌, true, List, [], ◌∷◌, ◌++◌, length}
use Rattle.std.proofs.Common.{◌<◌, get_or, take, drop, Some, None, refl, sym, ap, ◌∙◌, arith, replicate, subst}
use Rattle.std.specs.Prelude.{All}
use Rattle.std.proofs.lemmas.List.Sums.{fold-append}
use Rattle.std.proofs.lemmas.Option.{none-some}
use Rattle.be_bitmap.specs.Pictures.{Picture}
use Rattle.be_command.specs.declared.Command.{Command}
use Rattle.be_command.specs.declared.Command.TheVariants.{Push, Pop}
use Rattle.be_command.specs.Effects.{draws, sets, colors, saves, restores, copies, invalidates}
use Rattle.be_command.specs.Effects.{Effect, at_view, changes, ends_update, effect_of}
use Rattle.be_command.specs.Limits.{is_drawing, is_drawing_effect}
use Rattle.be_geom.specs.Rects.{rect_has}
use Rattle.be_pane.specs.declared.pane.Pane as code
use Rattle.be_span.specs.Screen.{cell_at}
use Rattle.be_state.specs.Stacks.{origin_point}
use Rattle.be_twin.specs.Judged.{IsNoChange}
use Rattle.be_twin.specs.StandsAfter.{StandsAfter}
use Rattle.be_picture.specs.OffScreens.{Shows}
use Rattle.be_picture.specs.declared.sorts.Sort.{Sort}
use Rattle.be_picture.specs.Playing.{OffScreen, after_commands, bounds, done_by, played_on, tree_of}
use Rattle.be_picture.specs.Recording.{IsRecorded, open_pushes, refusal}
use Rattle.be_picture.specs.Sorts.{sort_of_effect}
use Rattle.be_picture.proofs.Recorded.{has_sort}
use Rattle.be_picture.proofs.Shown.{cell_of, shows_after}

-- ---- one of them

no_change_by : (e : Effect) → is_drawing_effect e ≡ true → IsNoChange e
no_change_by (at_view v deed) drawing = tt
no_change_by (changes change) drawing = absurd cc
no_change_by ends_update drawing = tt

pub no_change : (c : Command) → is_drawing c ≡ true → IsNoChange (effect_of c)
unfolding is_drawing
no_change c drawing = no_change_by (effect_of c) drawing

shows_by : (bitmaps : List Picture) (old new : code.Pane) (off : OffScreen) (e : Effect)
    → is_drawing_effect e ≡ true → Shows old off
    → StandsAfter bitmaps 0 origin_point off.pane (tree_of off) (rect_has (bounds off)) (cell_of off)
    (cell_at off.width off.cells) e new
    → Shows new (done_by bitmaps off e)
shows_by bitmaps old new off (at_view v deed) drawing shows stands =
    shows_after bitmaps old new off v deed shows stands
shows_by bitmaps old new off (changes change) drawing shows stands = absurd cc
shows_by bitmaps old new off ends_update drawing shows stands = absurd cc

pub shows_drawn : (bitmaps : List Picture) (old new : code.Pane) (off : OffScreen) (c : Command)
    → is_drawing c ≡ true → Shows old off
    → StandsAfter bitmaps 0 origin_point off.pane (tree_of off) (rect_has (bounds off)) (cell_of off)
    (cell_at off.width off.cells) (effect_of c) new
    → Shows new (done_by bitmaps off (effect_of c))
unfolding is_drawing
shows_drawn bitmaps old new off c drawing shows stands =
    shows_by bitmaps old new off (effect_of c) drawing shows stands

-- ---- several

pub after_none : (bitmaps : List Picture) (off : OffScreen) → after_commands bitmaps off [] ≡ off
unfolding after_commands
after_none bitmaps off = refl

pub after_one_more : (bitmaps : List Picture) (off : OffScreen) (cs : List Command) (c : Command)
    → after_commands bitmaps off (cs ++ c ∷ [])
    ≡ done_by bitmaps (after_commands bitmaps off cs) (effect_of c)
unfolding after_commands
after_one_more bitmaps off cs c = fold-append (λ now d. done_by bitmaps now (effect_of d)) off cs (c ∷ [])

pub after_both : (bitmaps : List Picture) (off : OffScreen) (cs ds : List Command)
    → after_commands bitmaps off (cs ++ ds)
    ≡ after_commands bitmaps (after_commands bitmaps off cs) ds
unfolding after_commands
after_both bitmaps off cs ds = fold-append (λ now d. done_by bitmaps now (effect_of d)) off cs ds

pub one_more_alike : (n : ℕ) (c : Command) → replicate (n + 1) c ≡ replicate n c ++ c ∷ []
one_more_alike zero c = refl
one_more_alike (suc n) c =
    let same : suc n + 1 ≡ suc (n + 1) = omega arith in
    ap (λ (m : ℕ). replicate m c) same ∙ ap (λ (cs : List Command). c ∷ cs) (one_more_alike n c)

pub after_first : (bitmaps : List Picture) (off : OffScreen) (c : Command) (cs : List Command)
    → after_commands bitmaps off (c ∷ cs)
    ≡ after_commands bitmaps (done_by bitmaps off (effect_of c)) cs
unfolding after_commands
after_first bitmaps off c cs = refl

-- ---- a whole picture

pub played_steps : (bitmaps : List Picture) (off : OffScreen) (picture : List Command)
    → played_on bitmaps off picture
    ≡ done_by bitmaps (after_commands bitmaps (after_commands bitmaps
    (done_by bitmaps off (effect_of (Push 0))) picture)
    (replicate (open_pushes picture) (Pop 0))) (effect_of (Pop 0))
played_steps bitmaps off picture =
    let pops = replicate (open_pushes picture) (Pop 0) in
    after_both bitmaps off (Push 0 ∷ picture) (pops ++ Pop 0 ∷ [])
    ∙ after_one_more bitmaps (after_commands bitmaps off (Push 0 ∷ picture)) pops (Pop 0)
    ∙ ap (λ (o : OffScreen). done_by bitmaps (after_commands bitmaps o pops) (effect_of (Pop 0)))
    (after_first bitmaps off (Push 0) picture)

-- it has drawing commands alone
drawing_sort : (e : Effect) (s : Sort) → sort_of_effect e ≡ Some s → is_drawing_effect e ≡ true
drawing_sort (at_view v (draws f)) s h = refl
drawing_sort (at_view v (sets t)) s h = refl
drawing_sort (at_view v (colors c)) s h = refl
drawing_sort (at_view v saves) s h = refl
drawing_sort (at_view v restores) s h = refl
drawing_sort (at_view v (copies a b)) s h = absurd (none-some s h)
drawing_sort (at_view v (invalidates r)) s h = absurd (none-some s h)
drawing_sort (changes c) s h = absurd (none-some s h)
drawing_sort ends_update s h = absurd (none-some s h)

drawing_free : (cs : List Command) (c : Command) → refusal cs c ≡ None → is_drawing c ≡ true
unfolding is_drawing
drawing_free cs c free =
    let found = has_sort cs c free in drawing_sort (effect_of c) found.0 found.1

cut_at : (cs : List Command) (k : ℕ) (d : Command) → k < length cs
    → cs ≡ take k cs ++ get_or cs k d ∷ drop (k + 1) cs
cut_at [] k d lt = absurd (omega arith)
cut_at (c ∷ cs) zero d lt = refl
cut_at (c ∷ cs) (suc k) d lt =
    let same : suc k + 1 ≡ suc (k + 1) = omega arith in
    ap (λ (l : List Command). c ∷ l) (cut_at cs k d (omega arith))
    ∙ ap (λ (n : ℕ). c ∷ (take k cs ++ get_or cs k d ∷ drop n (c ∷ cs))) (sym same)

pub all_draw : (cs : List Command) → IsRecorded cs → All (λ c. is_drawing c ≡ true) cs
all_draw cs recorded = λ k d lt.
    drawing_free (take k cs) (get_or cs k d)
    (recorded (take k cs) (drop (k + 1) cs) (get_or cs k d) (cut_at cs k d lt))

-- ---- its size stays

same_size : (bitmaps : List Picture) (off : OffScreen) (e : Effect)
    → ((done_by bitmaps off e).width ≡ off.width) × ((done_by bitmaps off e).height ≡ off.height)
same_size bitmaps off (at_view v deed) = (refl, refl)
same_size bitmaps off (changes change) = (refl, refl)
same_size bitmaps off ends_update = (refl, refl)

pub size_stays : (bitmaps : List Picture) (off : OffScreen) (cs : List Command)
    → ((after_commands bitmaps off cs).width ≡ off.width)
    × ((after_commands bitmaps off cs).height ≡ off.height)
unfolding after_commands
size_stays bitmaps off [] = (refl, refl)
size_stays bitmaps off (c ∷ cs) =
    let one = same_size bitmaps off (effect_of c) in
    let rest = size_stays bitmaps (done_by bitmaps off (effect_of c)) cs in
    (rest.0 ∙ one.0, rest.1 ∙ one.1)

-- ---- a picture on a pane, step by step

pub shows_played : (bitmaps : List Picture) (off : OffScreen) (picture cs : List Command) (n : ℕ)
    (one two three four : code.Pane) → cs ≡ picture → n ≡ open_pushes picture
    → Shows one (done_by bitmaps off (effect_of (Push 0)))
    → ((o : OffScreen) → Shows one o → Shows two (after_commands bitmaps o cs))
    → ((o : OffScreen) → Shows two o
    → Shows three (after_commands bitmaps o (replicate n (Pop 0))))
    → ((o : OffScreen) → Shows three o → Shows four (done_by bitmaps o (effect_of (Pop 0))))
    → Shows four (played_on bitmaps off picture)
shows_played bitmaps off picture cs n one two three four same many saved drawn popped last =
    let second = drawn (done_by bitmaps off (effect_of (Push 0))) saved in
    let third = popped _ second in
    let fourth = last _ third in
    subst (Shows four) (sym (played_steps bitmaps off picture))
    (subst (λ (m : ℕ). Shows four (done_by bitmaps (after_commands bitmaps (after_commands bitmaps
    (done_by bitmaps off (effect_of (Push 0))) picture) (replicate m (Pop 0))) (effect_of (Pop 0))))
    many
    (subst (λ (ds : List Command). Shows four (done_by bitmaps (after_commands bitmaps
    (after_commands bitmaps (done_by bitmaps off (effect_of (Push 0))) ds) (replicate n (Pop 0)))
    (effect_of (Pop 0)))) same fourth))
