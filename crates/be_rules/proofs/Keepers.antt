-- Whose log keeps an entry: a part that the entry touches.
use Rattle.std.proofs.Common.{◌≡◌, ℕ, suc, ◌+◌, ◌*◌, map, length, Option, Some, None, inl, inr, refl, ◌∙◌, arith}
use Rattle.std.specs.Prelude.{slice_get}
use Rattle.std.specs.List.{range_with_len}
use Rattle.std.proofs.lemmas.List.{length-map}
use Rattle.std.proofs.lemmas.List.FromFn.{length-range_with_len}
use mathlib.Core.Option.{some}
use lib.ListN.{get_elem?}
use Rattle.be_command.specs.Effects.{Effect, at_view, changes, ends_update, effect_of}
use Rattle.be_link.specs.Queues.{Numbered}
use Rattle.be_pane.specs.Panes.{Pane}
use Rattle.be_script.specs.Script.{Declared}
use Rattle.be_machine.specs.Activities.{Activity, runner, app, looper, twin, input, closing}
use Rattle.be_machine.specs.Commands.{effect_outcome}
use Rattle.be_machine.specs.declared.Act.{Act}
use Rattle.be_machine.specs.declared.Act.TheVariants as act
use Rattle.be_machine.specs.Legal.{want_act}
use Rattle.be_machine.specs.Lists.{with_both}
use Rattle.be_machine.specs.State.{State}
use Rattle.be_machine.specs.Touched.{Part, Touches, TouchesOldest, TouchesFor}
use Rattle.be_machine.specs.Touched as part
use Rattle.be_machine.specs.Wants.{Want, asks, takes, begins, flushes, draws_end, ends, notifies, executes, uses, stops}
use Rattle.be_machine.proofs.Histories.{InRange}
use Rattle.be_machine.proofs.LegalEntries.{maker}
use Rattle.be_rules.specs.Rules.{kept_at}
use Rattle.be_rules.specs.Slices.{all_parts}
use Rattle.be_rules.proofs.ListLemmas.{elem_left, elem_right, elem_range}

-- ---- places

abbrev pub own_of : Activity → Part
own_of (runner (app m)) = part.cell m
own_of (runner (looper w)) = part.looper w
own_of (twin w) = part.pane w
own_of input = part.input
own_of closing = part.input

pub long : (g : ℕ → Part) (n : ℕ) → length (map g (range_with_len 0 n)) ≡ n
long g n = length-map (range_with_len 0 n) g ∙ length-range_with_len 0 n

pub kept_there : (d : Declared) (who : Activity) → InRange (length d.apps) (length d.windows) who → get_elem? (all_parts d) (kept_at d (Some who)) ≡ some (own_of who)
kept_there d (runner (app m)) lt = let n : 2 + m ≡ suc (suc m) = omega arith in rw n (elem_left (map part.cell (range_with_len 0 (length d.apps))) _ m (part.cell m) (elem_range part.cell (length d.apps) m lt))
kept_there d (runner (looper w)) lt =
    let n : 2 + length d.apps + w ≡ suc (suc (length d.apps + w)) = omega arith in
    rw n (elem_right (map part.cell (range_with_len 0 (length d.apps))) _ (length d.apps) w (part.looper w) (long part.cell (length d.apps)) (elem_left (map part.looper (range_with_len 0 (length d.windows))) _ w (part.looper w) (elem_range part.looper (length d.windows) w lt)))
kept_there d (twin w) lt =
    let n : 2 + length d.apps + 3 * length d.windows + w ≡ suc (suc (length d.apps + (length d.windows + (length d.windows + (length d.windows + w))))) = omega arith in
    rw n (elem_right (map part.cell (range_with_len 0 (length d.apps))) _ (length d.apps) _ (part.pane w) (long part.cell (length d.apps))
    (elem_right (map part.looper (range_with_len 0 (length d.windows))) _ (length d.windows) _ (part.pane w) (long part.looper (length d.windows))
    (elem_right (map part.port (range_with_len 0 (length d.windows))) _ (length d.windows) _ (part.pane w) (long part.port (length d.windows))
    (elem_right (map part.link (range_with_len 0 (length d.windows))) _ (length d.windows) w (part.pane w) (long part.link (length d.windows)) (elem_range part.pane (length d.windows) w lt)))))
kept_there d input lt = refl
kept_there d closing lt = refl

-- ---- touched

for_effect : (s r : State) (w : ℕ) (effect : Effect) → TouchesFor s r w effect (part.pane w)
for_effect s r w (at_view v deed) = refl
for_effect s r w (changes change) = inr (inr (w, refl, inl refl))
for_effect s r w ends_update = refl

for_oldest : (d : Declared) (s r : State) (w : ℕ) (pane : Option Pane) (o : Option Numbered) (a : Act) → with_both (λ pane c. Some (act.Exec c.number (effect_outcome d.pictures s w (effect_of c.command) pane))) pane o ≡ Some a → TouchesOldest s r w o (part.pane w)
for_oldest d s r w (Some pane) (Some c) a e = for_effect s r w (effect_of c.command)
for_oldest d s r w (Some pane) None a e = absurd (cc)
for_oldest d s r w None o a e = absurd (cc)

pub kept_touched : (d : Declared) (s r : State) (want : Want) (a : Act) → want_act d s want ≡ Some a → Touches s r want (own_of (maker want))
unfolding want_act
kept_touched d s r (asks (app m) wish) a e = inl refl
kept_touched d s r (asks (looper w) wish) a e = inl refl
kept_touched d s r (takes w) a e = inl refl
kept_touched d s r (begins w) a e = inl refl
kept_touched d s r (flushes w) a e = inl refl
kept_touched d s r (draws_end w) a e = refl
kept_touched d s r (ends w) a e = inl refl
kept_touched d s r (notifies w) a e = inr refl
kept_touched d s r (executes w) a e = inr (for_oldest d s r w (slice_get s.panes w) _ a e)
kept_touched d s r (uses line) a e = inl refl
kept_touched d s r stops a e = tt
