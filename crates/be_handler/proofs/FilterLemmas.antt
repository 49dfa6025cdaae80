-- Lists of filters, one after another.
use Rattle.std.proofs.Common.{◌≡◌, ℕ, Bool, true, false, List, [], ◌∷◌, filter, suc, ◌<◌, length, get_or, drop, drop-cons, Option, Some, None, option_and_then, refl, ap, sym, ◌∙◌}
use Rattle.be_message.specs.declared.target.Target.{Target}
use Rattle.be_handler.specs.Routes.{Filter, step_of, through, filtered}
use Rattle.be_handler.specs.Lists.{is_in_list}

-- the filters of a list
abbrev pub listed : Option Target → List Filter → List Filter
listed list fs = filter (λ f. is_in_list list f.list) fs

-- a skipped message stays skipped
pub through-none : (what : ℕ) (fs : List Filter) → through what fs None ≡ None
through-none what [] = refl
through-none what (f ∷ fs) = through-none what fs

-- a filter of the list makes its step, one of another list none
pub through-in : (what : ℕ) (list : Option Target) (f : Filter) (fs : List Filter) (at : Target × Bool) → is_in_list list f.list ≡ true →
    through what (listed list (f ∷ fs)) (Some at) ≡ through what (listed list fs) (step_of what f at)
through-in what list f fs at e = rw e refl

-- a filter that skips ends the whole list
pub filtered-skips : (what : ℕ) (list : Option Target) (fs : List Filter) (i : ℕ) (f : Filter) (at : Target × Bool) (target : Target) →
    i < length fs → f ≡ get_or fs i f → is_in_list list f.list ≡ true → step_of what f at ≡ None →
    through what (listed list fs) (Some (target, false)) ≡ through what (listed list (drop i fs)) (Some at) →
    filtered what (listed list fs) target ≡ None
filtered-skips what list fs i f at target within there inside skips so_far =
    let front : drop i fs ≡ f ∷ drop (suc i) fs = drop-cons fs i f within ∙ ap (λ x. x ∷ drop (suc i) fs) (sym there) in
    let ends : through what (listed list fs) (Some (target, false)) ≡ None =
    so_far ∙ ap (λ gs. through what (listed list gs) (Some at)) front
    ∙ through-in what list f (drop (suc i) fs) at inside
    ∙ ap (through what (listed list (drop (suc i) fs))) skips
    ∙ through-none what (listed list (drop (suc i) fs)) in
    ap (option_and_then (λ (at : Target × Bool). Some at.0)) ends
