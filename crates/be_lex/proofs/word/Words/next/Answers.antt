use Rattle.std.proofs.Common.{◌≢◌, ◌≤◌, length, get_or, refl, sym, ap, ◌∙◌, arith}
use Rattle.std.proofs.lemmas.Bool.{eqb-true}
use Rattle.be_lex.specs.Words.{words_of, behind_word}
use Rattle.be_lex.proofs.WordLemmas.{words_of-from_first, from_first-head, words_of-word, words_of-none, first_word_some, length-from_first}
use Rattle.be_lex.proofs.word.Words.next.Goals as goal

pub returns-then-is_empty-clause-words : goal.returns-then-is_empty-clause-words
returns-then-is_empty-clause-words c =
    let text = c.without_spaces-text in
    let none = words_of-none text.result.now (eqb-true _ 0 (sym c.is_empty.ensures ∙ c.if-is_empty.true)) in
    ap words_of (sym c.self.view_is) ∙ (sym (words_of-from_first c.self.inside.rest.now) ∙ (ap words_of (sym text.ensures) ∙ none))

pub returns-clause-words : goal.returns-clause-words
returns-clause-words c =
    let text = c.without_spaces-text in
    let first : get_or text.result.now 0 0 ≢ 32 = rw text.ensures (from_first-head c.self.inside.rest.now) in
    let word = words_of-word text.result.now c.place_of.result first (sym c.is_empty.ensures ∙ c.if-is_empty.false) c.place_of.ensures.place in
    ap words_of (sym c.self.view_is) ∙ (sym (words_of-from_first c.self.inside.rest.now) ∙ (ap words_of (sym text.ensures) ∙ rw (c.split_at.ensures.front, c.split_at.ensures.back) word))

pub returns-clause-behind : goal.returns-clause-behind
unfolding behind_word
returns-clause-behind c = c.split_at.ensures.back ∙ rw (c.place_of.ensures.place, c.without_spaces-text.ensures, c.self.view_is) refl

pub returns-clause-shorter : goal.returns-clause-shorter
returns-clause-shorter c =
    let text = c.without_spaces-text in
    let first : get_or text.result.now 0 0 ≢ 32 = rw text.ensures (from_first-head c.self.inside.rest.now) in
    let some = first_word_some text.result.now c.place_of.result first (sym c.is_empty.ensures ∙ c.if-is_empty.false) c.place_of.ensures.place in
    let short : length text.result.now ≤ length c.args.self.now = rw (text.ensures, sym c.self.view_is) (length-from_first c.self.inside.rest.now) in
    let behind = c.split_at.ensures.back_len in
    omega arith
