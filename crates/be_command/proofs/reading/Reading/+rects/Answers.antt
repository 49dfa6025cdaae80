use Rattle.std.proofs.Common.{◌≡◌, ◌-◌, suc, arith, true, false, ℕ, Bor, not, ap, is_some, List, ◌++◌, ◌∷◌, [], subst, ◌∙◌}
use Rattle.be_geom.specs.declared.rect.Rect.{Rect}
use Rattle.be_command.specs.Places.{word_at}
use Rattle.be_command.specs.Kinds.{rects_at, after_rects}
use Rattle.be_command.specs.Progress.{TakesMore}
use Rattle.be_command.proofs.MoreLemmas.{more_last, more_ok, is_left}
use Rattle.be_command.proofs.reading.Reading.+rects.Goals as goal

pub returns-then-is_none : goal.returns-then-is_none
returns-then-is_none t c =
    let most : c.args.most ≡ suc (c.args.most - 1) = omega arith in
    let items : c.args.rects.now.items ++ c.rect.result ∷ [] ≡ c.push.new.self.items = (cc (c.in_ok-push.ensures.items)) in
    let none : is_some (word_at c.rect.new.self.at) ≡ false = is_left (λ (word : Bor (List ℕ)). word.now) c.peek.result _ c.peek.ensures ∙ c.is_none.ensures ∙ ap not c.if-is_none.true in
    subst (λ (xs : List Rect). TakesMore (rects_at c.args.most c.args.self.now.at) (after_rects c.args.most c.args.self.now.at) c.args.self.now c.rect.new.self c.args.rects.now.items xs) items
    (more_last _ _ _ _ _ _ most c.rect.ensures none)

pub returns : goal.returns
returns t c =
    let most : c.args.most ≡ suc (c.args.most - 1) = omega arith in
    let items : c.push.new.self.items ≡ c.args.rects.now.items ++ c.rect.result ∷ [] = (cc (c.in_ok-push.ensures.items)) in
    let some : is_some (word_at c.rect.new.self.at) ≡ true = is_left (λ (word : Bor (List ℕ)). word.now) c.peek.result _ c.peek.ensures ∙ c.is_none.ensures ∙ ap not c.if-is_none.false in
    more_ok c.rects.result _ _ _ _ _ _ _ _ _ most c.rect.ensures some items c.rects.ensures
