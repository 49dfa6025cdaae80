-- The text of a runner's trace is that of its own entries, one behind the other.
use Rattle.std.proofs.Common.{◌≡◌, ℕ, Bool, true, false, List, [], ◌∷◌, ◌++◌, Option, Some, None, refl, sym, ap, subst, ◌∙◌, append_assoc}
use Rattle.std.specs.Prelude.{if◌then◌else◌}
use Rattle.std.specs.Option.{option_map_or}
use Rattle.be_script.specs.Script.{Declared}
use Rattle.be_machine.specs.Activities.{Runner}
use Rattle.be_machine.specs.declared.Entry.{Entry}
use Rattle.be_machine.specs.State.{State, opening_state}
use Rattle.be_machine.specs.Step.{step}
use Rattle.be_machine.specs.Traces.{Trace, entry_trace, same_runner, traces_from, traces_of}
use Rattle.be_written.specs.Lines.{line_of}
use Rattle.be_written.specs.Notings.{entry_text, is_made_by, noted_by, own_texts_from, text_by}
use Rattle.be_written.specs.Runners.{runner_at}
use Rattle.be_written.specs.TraceText.{trace_words, noted_text}
use Rattle.be_written.proofs.Quiet.{notes_nothing, same_is}

noted-append : (d : Declared) (who : Runner) (xs ys : List Trace) → noted_text d who (xs ++ ys) ≡ noted_text d who xs ++ noted_text d who ys
noted-append d who [] ys = refl
noted-append d who (x ∷ xs) ys =
    ap (λ (text : List ℕ). line_of (trace_words d who x) ++ text) (noted-append d who xs ys) ∙ sym (append_assoc (line_of (trace_words d who x)) (noted_text d who xs) (noted_text d who ys))

-- ---- one entry

made_by : (d : Declared) (who maker : Runner) (s : State) (e : Entry) → runner_at d e.actor ≡ Some maker → (b : Bool) → same_runner who maker ≡ b
    → noted_text d who (entry_trace d s who e) ≡ (if b then noted_text d maker (entry_trace d s maker e) else [])
made_by d who maker s e is true same = subst (λ (w : Runner). noted_text d w (entry_trace d s w e) ≡ noted_text d maker (entry_trace d s maker e)) (sym (same_is who maker same)) refl
made_by d who maker s e is false differs = ap (noted_text d who) (notes_nothing d s who e (Some maker) is differs)

-- what a runner notes of an entry is the entry's text where the runner makes it, and else nothing
own_text : (d : Declared) (who : Runner) (s : State) (e : Entry) (maker : Option Runner) → runner_at d e.actor ≡ maker
    → noted_text d who (entry_trace d s who e) ≡ (if option_map_or (same_runner who) maker false then text_by d maker (noted_by d s e maker) else [])
own_text d who s e (Some maker) is = made_by d who maker s e is (same_runner who maker) refl
own_text d who s e None is = ap (noted_text d who) (notes_nothing d s who e None is tt)

-- ---- a history

own_texts : (d : Declared) (who : Runner) (s : State) (h : List Entry) → noted_text d who (traces_from d who s h) ≡ own_texts_from d who s h
unfolding traces_from own_texts_from
own_texts d who s [] = refl
own_texts d who s (e ∷ es) =
    noted-append d who (entry_trace d s who e) (traces_from d who (step d s e) es)
    ∙ ap (λ (text : List ℕ). text ++ noted_text d who (traces_from d who (step d s e) es)) (own_text d who s e (runner_at d e.actor) refl)
    ∙ ap (λ (text : List ℕ). (if is_made_by d who e then entry_text d s e else []) ++ text) (own_texts d who (step d s e) es)

pub traces_are_own_texts : (d : Declared) (who : Runner) (h : List Entry) → noted_text d who (traces_of d who h) ≡ own_texts_from d who (opening_state d) h
traces_are_own_texts d who h = own_texts d who (opening_state d) h
